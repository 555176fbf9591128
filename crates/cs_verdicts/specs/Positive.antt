pub mod Verdict
pub mod Judges
pub mod Positives
pub mod Occurrences
pub mod Sums
