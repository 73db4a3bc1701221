pub mod Cells
pub mod Register
pub mod Refusals
pub mod Taken
pub mod History
pub mod report
pub mod stored
