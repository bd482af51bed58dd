pub mod Happens
pub mod Law
pub mod Quiet
pub mod RestView
pub mod Seen
pub mod Tests
