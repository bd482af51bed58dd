pub mod Faithful
pub mod Giving
pub mod Numbers
pub mod Outs
pub mod Ready
pub mod Returned
pub mod Rule
pub mod Words
