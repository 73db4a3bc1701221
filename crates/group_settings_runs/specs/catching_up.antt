-- What the laws of `group_settings_runs::catching_up` cite.
pub mod Runs
