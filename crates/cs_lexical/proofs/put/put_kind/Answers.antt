-- There is no kind past the last, and before it the words of the one at the place are put.
use Rattle.std.proofs.Common.{ap, sym}
use Rattle.std.proofs.lemmas.Option.{slice_get-get_or, slice_get_past}
use Rattle.cs_manifest.proofs.OnOutput.Pieces.{nothing, spelled}
use Rattle.cs_lexical.specs.Lines.{kind_of}
use Rattle.cs_lexical.proofs.put.put_kind.Goals as goal

pub returns-then-place-kinds : goal.returns-then-place-kinds
returns-then-place-kinds g c = spelled _ (ap (kind_of c.args.file.now) (sym (slice_get_past c.args.kinds.now c.args.place c.if-place-kinds.true))) (nothing _)

pub returns : goal.returns
returns g c = spelled _ (ap (kind_of c.args.file.now) (sym (slice_get-get_or c.args.kinds.now c.args.place _ c.if-place-kinds.false))) c.put_kind_words.ensures
