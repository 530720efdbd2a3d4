-- What the calls for hosts answer.
pub mod Answers
