pub mod Prepare
