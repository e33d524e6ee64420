mod Numbers
pub mod Answered
pub mod SpellingLaws
