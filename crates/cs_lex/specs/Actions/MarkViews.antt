-- What the code's marks are.
use Rattle.std.specs.Prelude.{ℕ, List, Option, Some, None}
use Rattle.cs_lex.specs.declared.actions.mark.ActionMark as code
use Rattle.cs_lex.specs.declared.actions.mark.ActionMark.TheVariants as marks
use Rattle.cs_lex.specs.Actions.Marks.{ActionMark, skip, word, literal, IsSpelled, IsMark, BeginsMark, HasMark, HasNoMark}

abbrev pub mark_of : code.ActionMark → ActionMark
mark_of marks.Skip = skip
mark_of (marks.Word w) = word w.now
mark_of (marks.Literal b) = literal b

abbrev pub FindsSpelled : List ℕ → Option code.ActionMark → Type 0
FindsSpelled text (Some m) = IsSpelled text (mark_of m)
FindsSpelled text None = (m : ActionMark) → ¬ IsSpelled text m

abbrev pub FindsIn : List ℕ → Option code.ActionMark → Type 0
FindsIn comment (Some m) = IsMark comment (mark_of m)
FindsIn comment None = (m : ActionMark) → ¬ IsMark comment m

abbrev pub FindsFront : List ℕ → Option code.ActionMark → Type 0
FindsFront text (Some m) = BeginsMark text (mark_of m)
FindsFront text None = (m : ActionMark) → ¬ BeginsMark text m

abbrev pub FindsMark : List ℕ → Option code.ActionMark → Type 0
FindsMark text (Some m) = HasMark text (mark_of m)
FindsMark text None = HasNoMark text
