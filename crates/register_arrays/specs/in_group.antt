pub mod GroupColumns
