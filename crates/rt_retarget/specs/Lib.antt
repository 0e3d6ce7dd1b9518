pub mod Files
pub mod Stages
pub mod Moved
pub mod Answers
pub mod Jobs
pub mod Ladder
pub mod OneAnswer
