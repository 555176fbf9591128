-- How many slips there are of each class. Working words of proofs.
use Rattle.std.specs.Prelude.{◌≡◌, ◌+◌, ◌<◌, ◌≤◌, ℕ, List, ◌++◌, codes, length}
use Rattle.cs_io.specs.Faults.{greatest}
use Rattle.cs_manifest.specs.Output.Words.{line, numbered_word}
use Rattle.cs_wrong.specs.Classes.Classes.{is_again, is_large, is_long, is_nothing, is_sentence, is_wrong}
use Rattle.cs_wrong.specs.Writing.Text.{SlipEntry, many_with}
use Rattle.cs_wrong.specs.declared.classes.class.SlipClass.{SlipClass}
use Rattle.cs_wrong.specs.declared.classes.class.SlipClass.TheVariants.{Nothing, Large, Again, Pair, Long, Sentence, Outside}
use Rattle.cs_wrong.specs.declared.writing.tally.Tally.{Tally}

-- no slips
abbrev pub no_slips : Tally
no_slips = record { slips = 0; nothing = 0; large = 0; again = 0; long = 0; sentences = 0; wrong = 0 }

-- one slip more of this class
abbrev pub with_class : Tally → SlipClass → Tally
with_class t Nothing = record t { slips = t.slips + 1; nothing = t.nothing + 1 }
with_class t Large = record t { slips = t.slips + 1; large = t.large + 1 }
with_class t Again = record t { slips = t.slips + 1; again = t.again + 1 }
with_class t (Pair left right at) = record t { slips = t.slips + 1; wrong = t.wrong + 1 }
with_class t Long = record t { slips = t.slips + 1; long = t.long + 1 }
with_class t Sentence = record t { slips = t.slips + 1; sentences = t.sentences + 1 }
with_class t Outside = record t { slips = t.slips + 1; wrong = t.wrong + 1 }

-- one slip more can be counted
pub record HasRoom (t : Tally) : Type 0 where
  pub slips : t.slips < greatest
  pub nothing : t.nothing < greatest
  pub large : t.large < greatest
  pub again : t.again < greatest
  pub long : t.long < greatest
  pub sentences : t.sentences < greatest
  pub wrong : t.wrong < greatest

-- these slips were counted
pub record IsCounted (entries : List SlipEntry) (old new : Tally) : Type 0 where
  pub slips : new.slips ≡ old.slips + length entries
  pub nothing : new.nothing ≡ old.nothing + many_with is_nothing entries
  pub large : new.large ≡ old.large + many_with is_large entries
  pub again : new.again ≡ old.again + many_with is_again entries
  pub long : new.long ≡ old.long + many_with is_long entries
  pub sentences : new.sentences ≡ old.sentences + many_with is_sentence entries
  pub wrong : new.wrong ≡ old.wrong + many_with is_wrong entries

-- no class has more slips than there are
pub record IsWithin (t : Tally) : Type 0 where
  pub nothing : t.nothing ≤ t.slips
  pub large : t.large ≤ t.slips
  pub again : t.again ≤ t.slips
  pub long : t.long ≤ t.slips
  pub sentences : t.sentences ≤ t.slips
  pub wrong : t.wrong ≤ t.slips

-- so many slips can be counted
pub record CanCount (t : Tally) (many : ℕ) : Type 0 where
  pub within : IsWithin t
  pub few : t.slips + many ≤ greatest

-- the end, by a tally
abbrev pub end_with : Tally → List ℕ
end_with t =
    line
    (numbered_word (codes "end slips ") t.slips ++ numbered_word (codes " none ") t.nothing ++ numbered_word (codes " large ") t.large
    ++ numbered_word (codes " again ") t.again ++ numbered_word (codes " long ") t.long ++ numbered_word (codes " sentences ") t.sentences
    ++ numbered_word (codes " wrong ") t.wrong)
