pub mod Table
pub mod Raster
