pub mod AnswerPlaces
pub mod AnswerLaws
pub mod Messages
