pub mod Swift
