-- How many edits there are of each class. Working words of proofs.
use Rattle.std.specs.Prelude.{◌≡◌, ◌+◌, ◌<◌, List, count_by, length}
use Rattle.cs_deep.specs.Edits.Classes.{is_long, is_negative, is_outside, is_sentence}
use Rattle.cs_deep.specs.Writing.Deep.{EditEntry}
use Rattle.cs_deep.specs.declared.edits.class.EditClass.{EditClass}
use Rattle.cs_deep.specs.declared.edits.class.EditClass.TheVariants.{Negative, Long, Sentence, Outside}
use Rattle.cs_deep.specs.declared.writing.tally.Tally.{Tally}
use Rattle.cs_io.specs.Faults.{greatest}

-- no edits
abbrev pub no_edits : Tally
no_edits = record { edits = 0; negatives = 0; deep = 0; sentences = 0; long = 0 }

-- one edit more of this class
abbrev pub with_class : Tally → EditClass → Tally
with_class t Negative = record t { edits = t.edits + 1; negatives = t.negatives + 1 }
with_class t Long = record t { edits = t.edits + 1; long = t.long + 1 }
with_class t Sentence = record t { edits = t.edits + 1; sentences = t.sentences + 1 }
with_class t Outside = record t { edits = t.edits + 1; deep = t.deep + 1 }

-- one edit more can be counted
pub record HasRoom (t : Tally) : Type 0 where
  pub edits : t.edits < greatest
  pub negatives : t.negatives < greatest
  pub deep : t.deep < greatest
  pub sentences : t.sentences < greatest
  pub long : t.long < greatest

-- these edits were counted
pub record IsCounted (entries : List EditEntry) (old new : Tally) : Type 0 where
  pub edits : new.edits ≡ old.edits + length entries
  pub negatives : new.negatives ≡ old.negatives + count_by (λ e. is_negative e.class) entries
  pub deep : new.deep ≡ old.deep + count_by (λ e. is_outside e.class) entries
  pub sentences : new.sentences ≡ old.sentences + count_by (λ e. is_sentence e.class) entries
  pub long : new.long ≡ old.long + count_by (λ e. is_long e.class) entries

-- the tally is of these edits
abbrev pub IsTallyOf : List EditEntry → Tally → Type 0
IsTallyOf entries tally = IsCounted entries no_edits tally
