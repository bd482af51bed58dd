pub mod Answering
pub mod Answers
pub mod Number
pub mod Streams
