-- What `member` writes of a list of tokens: whether it is a sentence, with a derivation.
use Rattle.std.specs.Prelude.{◌≡◌, ◌<◌, ◌↔◌, ◌⊎◌, ℕ, List, ◌++◌, codes, length, Option}
use Rattle.cs_grammar.specs.Grammar.{PlainGrammar}
use Rattle.cs_grammar.specs.Sentence.{IsSentence}
use Rattle.cs_io.specs.Sink.{GrewByPrefix}
use Rattle.cs_io.specs.declared.sink.Sink as Sink
use Rattle.cs_manifest.specs.Manifest.Lines.{derive_line}
use Rattle.cs_manifest.specs.Output.Words.{line}
use Rattle.cs_member.specs.Membership.Membership.{IsMembership}
use Rattle.cs_member.specs.declared.membership.membership.Membership.{Membership}
use Rattle.cs_member.specs.declared.membership.membership.Membership.TheVariants.{Inside, Outside}

abbrev pub outside_line : List ℕ
outside_line = line (codes "outside")

-- `inside` and the numbers of a derivation's rules, or `outside`
abbrev pub membership_lines : Membership → List ℕ
membership_lines (Inside rules) = line (codes "inside") ++ derive_line rules
membership_lines Outside = outside_line

-- The text says of the list that it is inside, with some derivation of it, or that no tree of the start symbol yields it. A list
-- with several derivations has several such texts.
pub record IsMemberText (g : PlainGrammar) (tokens text : List ℕ) : Type 0 where
  pub membership : Membership
  pub is : IsMembership g tokens membership
  pub lines : text ≡ membership_lines membership

-- each text of a list is `outside` exactly where the list is no sentence
abbrev pub TellsOutside : PlainGrammar → List ℕ → Type 0
TellsOutside g tokens = (text : List ℕ) → IsMemberText g tokens text → (text ≡ outside_line) ↔ (IsSentence g tokens → ⊥)

-- ---- what was written where one of several texts is asked for

-- the output grew by nothing, or by a prefix of some such text
abbrev pub GrewByFront : (List ℕ → Type 0) → Option (List ℕ) → Option (List ℕ) → Type 0
GrewByFront Is old new = (new ≡ old) ⊎ ((text : List ℕ) × Is text × GrewByPrefix old new text)

module _ {S : Type 0} (g : Sink.Ghosts S) where
  -- the sink took nothing, or a prefix of some such text
  abbrev pub TookSomeFront : (List ℕ → Type 0) → S → S → Type 0
  TookSomeFront Is old new = GrewByFront Is (g.written old) (g.written new)

  -- it met no fault, or it had no room for some such text
  abbrev pub IsCalmOrFull : (List ℕ → Type 0) → S → S → Type 0
  IsCalmOrFull Is old new = (g.faults new ≡ g.faults old) ⊎ ((text : List ℕ) × Is text × (g.room old < length text))
