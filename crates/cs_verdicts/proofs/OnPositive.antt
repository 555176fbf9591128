pub mod RuleGoals
pub mod ContextGoals
pub mod Verdicts
pub mod Judged
