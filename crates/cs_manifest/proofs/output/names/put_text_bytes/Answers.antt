-- An empty text puts nothing, and bytes that are all plain stand for themselves.
use Rattle.std.proofs.Common.{◌≡◌, List, ℕ, length, sym, subst, ◌∙◌, arith}
use Rattle.std.specs.List.{flat_map}
use Rattle.std.proofs.lemmas.List.{nil_from_length}
use Rattle.cs_bytes.specs.Escapes.{text_byte}
use Rattle.cs_manifest.specs.Output.Putting.{Puts}
use Rattle.cs_manifest.proofs.OnOutput.Pieces.{nothing, spelled}
use Rattle.cs_manifest.proofs.OnOutput.Runs.{plain_all}
use Rattle.cs_manifest.proofs.output.names.put_text_bytes.Goals as goal

pub returns-then-is_empty : goal.returns-then-is_empty
returns-then-is_empty g c =
    let none : length c.args.text.now ≡ 0 = (let e = c.is_empty.ensures in let t = c.if-is_empty.true in grind arith) in
    subst (λ (t : List ℕ). Puts g.S.Sink (flat_map text_byte t) c.args.output.now c.args.output.now) (sym (nil_from_length c.args.text.now none)) (nothing _)

pub returns-then-is_plain : goal.returns-then-is_plain
returns-then-is_plain g c = spelled _ (plain_all c.args.text.now (sym c.is_plain.ensures ∙ c.if-is_plain.true)) c.put.ensures
