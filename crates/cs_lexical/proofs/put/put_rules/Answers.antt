-- The line of one rule more is put behind those before.
use Rattle.std.proofs.Common.{◌≡◌, ◌<◌, ◌∙◌, None, Option, List, ℕ, ap, arith, length}
use Rattle.std.specs.Prelude.{option_map, slice_index_or}
use Rattle.cs_manifest.proofs.OnOutput.Pieces.{nothing, numbered_more, spelled}
use Rattle.cs_lexical.specs.Lines.{rule_line}
use Rattle.cs_lexical.proofs.Reading.{own_default}
use Rattle.cs_lexical.proofs.put.put_rules.Goals as goal

pub loop-place-init : goal.loop-place-init
loop-place-init g c = nothing _

pub loop-place-preserved : goal.loop-place-preserved
loop-place-preserved g c =
    let place = c.loop-place.place in
    let wins = c.args.lexical.now.wins in
    let x = slice_index_or wins place None in
    let number = c.number_of-rule.ensures in
    let win : option_map (λ text. text.now) c.wins.result ≡ x = c.wins.ensures ∙ ap (λ (q : ℕ). slice_index_or wins q None) (omega (arith, number)) in
    let line = spelled _ (ap (λ (w : Option (List ℕ)). rule_line c.args.file.now c.args.kinds.now c.number_of-rule.result w) win ∙ ap (λ (q : ℕ). rule_line c.args.file.now c.args.kinds.now q x) number) c.put_rule.ensures in
    let less : place < length wins = omega (arith, c.loop-place-test.true, c.rules-place-end.ensures.count) in
    numbered_more (rule_line c.args.file.now c.args.kinds.now) wins place x less (own_default wins place None less) c.loop-place.invariant line
