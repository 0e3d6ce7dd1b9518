pub mod Refusals
pub mod SizesFile
pub mod Wishes
