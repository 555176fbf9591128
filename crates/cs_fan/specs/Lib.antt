pub mod Numbers
pub mod Rule
pub mod Seen
pub mod Fields
pub mod Seats
pub mod Answers
