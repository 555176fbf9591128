-- The bases of goals whose tokens aren't rendered. Working words of proofs.
use Rattle.std.specs.Prelude.{◌≡◌, ℕ, List, [], ◌∷◌, None}
use Rattle.cs_grammar.specs.Grammar.{PlainGrammar}
use Rattle.cs_manifest.specs.Manifest.Manifest.{AreTokensOf, EntriesOf, GoalEntry}
use Rattle.cs_verdicts.specs.Positive.Positives.{ToJudge}
use Rattle.cs_verdicts.specs.declared.positive.positive.Positive.{Positive}
use Rattle.cs_writing.specs.Bases.Bases.{PlainBases, bases_of}
use Rattle.cs_writing.specs.Writing.Mutants.{Keeps}

-- the entry of a goal with these tokens, which aren't rendered
abbrev pub entry_with : Positive → List ℕ → GoalEntry
entry_with p tokens = record { goal = p.goal; verdict = p.verdict; tokens = tokens; rendered = None }

-- the bases behind a goal, where so many goals stand before it
pub record KeepsPositive (g : PlainGrammar) (before : ℕ) (p : Positive) (old new : PlainBases) : Type 0 where
  pub tokens : List ℕ
  pub are : AreTokensOf g p.verdict tokens
  pub keeps : Keeps before (entry_with p tokens ∷ []) old new

-- the bases of the entries of goals that are left
pub record GivesBases (most : ℕ) (left : ToJudge) (kept : PlainBases) : Type 0 where
  pub entries : List GoalEntry
  pub are : EntriesOf left.tables None None left.goals entries
  pub kept_of : kept ≡ bases_of most entries
