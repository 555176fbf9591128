-- The nonterminal at the place has the name, and none before it has the same one.
use Rattle.std.proofs.Common.{◌≡◌, ◌<◌, [], length, get_or, sym, ap, ◌∙◌, arith}
use Rattle.std.proofs.lemmas.List.{get_or_default}
use Rattle.std.proofs.lemmas.Slice.Eq.{bytes_eq-Decides}
use Rattle.cs_check.proofs.OnChecking.Finding.{nonterminal_named}
use Rattle.cs_check.proofs.checking.finding.look_for_nonterminal.Goals as goal

pub returns-then-same_bytes-clause-some : goal.returns-then-same_bytes-clause-some
returns-then-same_bytes-clause-some c =
    let file = c.args.file.now in
    let place = c.args.place in
    let bytes = c.bytes.result.now in
    let names_are = c.nonterminal_names-names.ensures.names in
    let long = ap length names_are in
    let low : place < length file.nonterminal_names = omega arith in
    let item : bytes ≡ get_or file.nonterminal_names place bytes = cc in
    nonterminal_named file c.nonterminal_names-names.ensures.named c.args.name.now place c.number_of.result c.number_of.ensures low
    (sym (get_or_default file.nonterminal_names place bytes [] low) ∙ sym item ∙ (bytes_eq-Decides bytes c.args.name.now).0 (sym c.same_bytes.ensures ∙ c.if-same_bytes.true))
