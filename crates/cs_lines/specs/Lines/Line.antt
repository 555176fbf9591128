-- What the lines of a manifest of the second format say, with names as they stand there, whatever they mean.
use Rattle.std.specs.Prelude.{ℕ, List, Option}
use Rattle.cs_choices.specs.declared.weigh.Weigh.{Weigh}
use Rattle.cs_lines.specs.Words.Edits.{EditWords}

-- the sets of nonterminals
pub data SetKind : Type 0 where
  Productive : SetKind
  Reachable : SetKind
  Empty : SetKind

-- what may stand first and last in what a nonterminal yields, and behind a mark
pub data RowKind : Type 0 where
  First : RowKind
  Last : RowKind
  Next : RowKind

-- a goal
pub data GoalWords : Type 0 where
  OfRule : (rule : ℕ) → GoalWords
  OfContext : (outer place inner : ℕ) → GoalWords
  OfPair : (left right : List ℕ) → GoalWords

-- its verdict: a size, the goal's own case and the first that meets it; or that there is no tree, or none within the limit
pub data VerdictWords : Type 0 where
  Feasible : (size case first : ℕ) → VerdictWords
  Infeasible : VerdictWords
  Large : VerdictWords

-- what the end counts
pub record Counts : Type 0 where
  pub goals : ℕ
  pub feasible : ℕ
  pub infeasible : ℕ
  pub large : ℕ
  pub negatives : ℕ
  pub cases : ℕ

pub data Line : Type 0 where
  -- the first line
  Opening : Line
  Weighing : (weigh : Weigh) → Line
  TokenLine : (number : ℕ) → (name : List ℕ) → Line
  RuleLine : (number : ℕ) → (left : List ℕ) → (right : List (List ℕ)) → Line
  LexemeLine : (name : List ℕ) → (text : Option (List ℕ)) → Line
  SetLine : (kind : SetKind) → (names : List (List ℕ)) → Line
  RowLine : (kind : RowKind) → (name : List ℕ) → (names : List (List ℕ)) → Line
  CaseLine : (number size : ℕ) → Line
  DeriveLine : (rules : List ℕ) → Line
  TokensLine : (names : List (List ℕ)) → Line
  TextLine : (text : List ℕ) → Line
  NoLexemeLine : (name : List ℕ) → Line
  NoScanLine : (after : ℕ) → Line
  GoalLine : (number : ℕ) → (goal : GoalWords) → (verdict : VerdictWords) → Line
  BaseLine : (number goal : ℕ) → Line
  NegativeLine : (number base : ℕ) → (edit : EditWords) → (left right : List ℕ) → (at : ℕ) → Line
  EndLine : (counts : Counts) → Line
