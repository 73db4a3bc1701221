pub mod ByTable
pub mod ThereAndBack
