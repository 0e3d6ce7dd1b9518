mod Merging
pub mod Tops
mod Upwards
pub mod Passing
