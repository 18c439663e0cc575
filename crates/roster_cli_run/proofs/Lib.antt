pub mod IsAnswer
pub mod BookAnswers
