pub mod FastCall
