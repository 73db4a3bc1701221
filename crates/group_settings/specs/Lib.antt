pub mod GroupSettings
