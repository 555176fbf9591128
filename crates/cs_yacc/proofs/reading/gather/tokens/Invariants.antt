use Rattle.std.proofs.Common.{drop, List}
use Rattle.std.specs.Prelude.{filter}
use Rattle.cs_yacc.specs.declared.reading.name.TokenName.{TokenName}
use Rattle.cs_yacc.specs.Reading.Marks.{AreMarksOf}
use Rattle.cs_yacc.specs.Reading.Meaning.{is_in_use}
use Rattle.cs_yacc.specs.Reading.SpellingView.{spellings_of}
use Rattle.cs_yacc.proofs.OnReading.Gathering.{Gathers}
use Rattle.cs_yacc.proofs.reading.gather.tokens.Given as goal

abbrev pub invariant-loop-place : goal.invariant-loop-place
invariant-loop-place l =
    (used : List TokenName) → AreMarksOf l.marks l.words used → Gathers l.spellings (filter (is_in_use used l.lefts) (spellings_of (drop l.place l.spelling-items))) (filter (is_in_use used l.lefts) l.words)
