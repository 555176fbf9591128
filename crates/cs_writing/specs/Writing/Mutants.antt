-- What was written of bases and their negatives. Working words of proofs.
use Rattle.std.specs.Prelude.{◌≡◌, ◌≤◌, ℕ, ◌+◌, List, [], ◌∷◌, ◌++◌, length, sum_by, All, None, Option, Result, Some, false, true}
use Rattle.std.specs.Borrow.{Bor}
use Rattle.cs_io.specs.Stops.{PutsOne}
use Rattle.cs_io.specs.declared.halt.Halt.{Halt}
use Rattle.cs_io.specs.declared.sink.Sink as Sink
use Rattle.std.specs.List.{AllZip}
use Rattle.cs_grammar.specs.Grammar.{IsNumberOf}
use Rattle.cs_writing.specs.Bases.Bases.{PlainBases, bases_of}
use Rattle.cs_manifest.specs.Output.Putting.{shown}
use Rattle.cs_manifest.specs.Output.Words.{numbered_from}
use Rattle.cs_manifest.specs.declared.manifest.counts.Counts.{Counts}
use Rattle.cs_manifest.specs.Manifest.Lines.{is_feasible}
use Rattle.cs_manifest.specs.Manifest.Manifest.{BaseEntry, BasesOf, GoalEntry, NegativeEntry, base_entry_lines, negative_entry_lines, negatives_of}
use Rattle.cs_manifest.specs.Writer.Progress.{Progress}
use Rattle.cs_writing.specs.Mutants.Makers.{AreToolsOf, Making, PlainTools}
use Rattle.cs_writing.specs.Mutants.Mutants.{IsOfNegative}
use Rattle.cs_mutate.specs.Negatives.{Search}
use Rattle.cs_mutate.specs.Keeping.{AreKeptOf, Counters, Tells}
use Rattle.cs_mutate.specs.declared.negative.Negative.{Negative}
use Rattle.cs_writing.specs.declared.plan.plan.Plan.{Plan}
use Rattle.cs_writing.specs.declared.plan.plan.Means.{Means}
use Rattle.cs_writing.specs.Plan.Plans.{choice_in, lexemes_in, means_in}
use Rattle.cs_texts.specs.declared.rendering.render_work.RenderWork.{RenderWork}
use Rattle.cs_yacc.specs.Reading.File.{File}

-- ---- bases of entries

-- the bases behind these entries of goals, where so many stand before them
abbrev pub Keeps : ℕ → List GoalEntry → PlainBases → PlainBases → Type 0
Keeps many more old new = (entries : List GoalEntry) → length entries ≡ many → old ≡ bases_of old.most entries → new ≡ bases_of old.most (entries ++ more)

-- the tokens of an entry's derivation, where it has one
abbrev pub AreItsTokens : GoalEntry → Option (Bor (List ℕ)) → Type 0
AreItsTokens entry None = is_feasible entry.verdict ≡ false
AreItsTokens entry (Some tokens) = (is_feasible entry.verdict ≡ true) × (tokens.now ≡ entry.tokens)

-- the bases behind one entry with these tokens
abbrev pub KeepsOne : ℕ → Option (Bor (List ℕ)) → PlainBases → PlainBases → Type 0
KeepsOne many tokens old new = (entry : GoalEntry) → AreItsTokens entry tokens → Keeps many (entry ∷ []) old new

-- a base that can be edited: it isn't long, and has tokens from 1 to the last
pub record IsEditable (tokens : ℕ) (base : ℕ × List ℕ) : Type 0 where
  pub short : length base.1 ≤ 1000000
  pub tokens_of : All (IsNumberOf tokens) base.1

-- ---- negatives of a base

-- the lines of negatives of a base, where so many negatives stand before them
abbrev pub negatives_from : File → ℕ → List ℕ → ℕ → List NegativeEntry → List ℕ
negatives_from file base tokens many entries = numbered_from (many + 1) (negative_entry_lines file base tokens) entries

-- the entries of the negatives that a search gives and that are kept, behind these of the bases before
pub record AreMade (work : RenderWork) (first : Option ℕ) (before : List Negative) (search : Search) (entries : List NegativeEntry) : Type 0 where
  pub kept : List Negative
  pub all : AreKeptOf search.grammar search.base first before search.edits kept
  pub each : AllZip (IsOfNegative work search.base) kept entries

-- lines with so many negatives, and else no entry of a goal, were counted
pub record IsCounted (many : ℕ) (lines : List ℕ) (before after : Counts) : Type 0 where
  pub same : after ≡ record before { negatives = before.negatives + many; bytes = after.bytes }
  pub bytes : shown after.bytes ≡ shown (before.bytes + length lines)

-- how many negatives bases have
abbrev pub negatives_in : List BaseEntry → ℕ
negatives_in mutants = sum_by (λ b. length b.negatives) mutants

-- The text is the lines of the kept negatives that a search gives of a base, where the manifest stands so.
pub record IsMade (first : Option ℕ) (before : List Negative) (manifest : Progress) (making : Making) (search : Search) (text : List ℕ) : Type 0 where
  pub entries : List NegativeEntry
  pub all : AreMade making.tools.work first before search entries
  pub lines : text ≡ negatives_from manifest.file making.number search.base manifest.counts.negatives entries

-- whichever the kept negatives are, they were counted
abbrev pub CountsMade : Counters → Making → Search → Progress → Progress → Type 0
CountsMade counters making search old new =
    (before : List Negative) → Tells counters before
    → (entries : List NegativeEntry) → AreMade making.tools.work counters.first before search entries
    → IsCounted (length entries) (negatives_from old.file making.number search.base old.counts.negatives entries) old.counts new.counts

-- and the new counters tell of them too
abbrev pub TellsMade : Making → Search → Counters → Counters → Type 0
TellsMade making search old new =
    (before : List Negative) → Tells old before
    → (entries : List NegativeEntry) → AreMade making.tools.work old.first before search entries
    → Tells new (before ++ negatives_of entries)

module _ {S : Type 0} (g : Sink.Ghosts S) where
  -- the text of the kept negatives was put, whichever negatives were kept before
  abbrev pub IsPut : Counters → Progress → Making → Search → S → S → Result Unit Halt → Type 0
  IsPut counters manifest making search old new result =
      (before : List Negative) → Tells counters before → PutsOne g (IsMade counters.first before manifest making search) old new result

-- ---- bases and their negatives

-- By whatever means the plan's negatives are made, these tools have its texts, and the counters tell that nothing was kept.
pub record AreBegun (file : File) (means : Means) (tools : PlainTools) (counters : Counters) : Type 0 where
  pub tools_are : AreToolsOf file means.work.now tools
  pub first : counters.first ≡ means.mutation.first
  pub tokens : counters.tokens ≡ means.mutation.pairs.now.grammar.tokens
  pub told : Tells counters []

abbrev pub IsBegun : Plan → PlainTools → Counters → Type 0
IsBegun plan tools counters = (means : Means) → means_in plan.form ≡ Some means → AreBegun plan.yacc.now means tools counters

-- the entries of these bases
abbrev pub AreBasesIn : Plan → List (ℕ × List ℕ) → List BaseEntry → Type 0
AreBasesIn plan list mutants = BasesOf plan.yacc.now.grammar (choice_in plan) (lexemes_in plan) [] list mutants

-- the text is the lines of these bases and their negatives
pub record IsBasesText (plan : Plan) (bases : PlainBases) (text : List ℕ) : Type 0 where
  pub mutants : List BaseEntry
  pub all : AreBasesIn plan bases.list mutants
  pub lines : text ≡ base_entry_lines plan.yacc.now 0 0 mutants

-- whichever the negatives are, they were counted
abbrev pub CountsBases : Plan → PlainBases → Progress → Progress → Type 0
CountsBases plan bases old new =
    (mutants : List BaseEntry) → AreBasesIn plan bases.list mutants
    → IsCounted (negatives_in mutants) (base_entry_lines plan.yacc.now 0 0 mutants) old.counts new.counts
