pub mod Parted
pub mod ReadBack
pub mod Said
