-- The name of a nonterminal is the text at its place, and past the last place it is empty.
use Rattle.std.proofs.Common.{◌≡◌, ◌<◌, List, ℕ, length, get_or, sym, ap, ◌∙◌, eq-eqb, arith}
use Rattle.std.proofs.lemmas.Bool.{eqb-true}
use Rattle.std.proofs.lemmas.List.{nil_from_length}
use Rattle.std.proofs.lemmas.Slice.Eq.{bytes_eq-Decides}
use Rattle.cs_lines.proofs.OnNames.{nonterminal_at, nonterminal_past}
use Rattle.cs_lines.proofs.naming.names.is_nonterminal.Goals as goal

pub returns-in-Some : goal.returns-in-Some
returns-in-Some c =
    let file = c.args.file.now in
    let text = c.in-Some.text.now in
    let names_are = c.nonterminal_names.ensures.names in
    let long = ap length names_are in
    let within = c.in-Some.ensures.lookup.3.0 in
    let low : c.place.result < length file.nonterminal_names = omega arith in
    let item : text ≡ get_or file.nonterminal_names c.place.result text =
    c.in-Some.ensures.lookup.1 ∙ ap (λ (l : List (List ℕ)). get_or l c.place.result text) names_are in
    let is = nonterminal_at file c.args.nonterminal c.place.result text c.place.ensures low item ∙ sym c.bytes.ensures in
    let same = bytes_eq-Decides c.bytes.result.now c.args.name.now in
    (λ e. is ∙ same.0 (sym c.same_bytes.ensures ∙ e), λ h. c.same_bytes.ensures ∙ same.1 (sym is ∙ h))

pub returns-in-None : goal.returns-in-None
returns-in-None c =
    let file = c.args.file.now in
    let name = c.args.name.now in
    let long = ap length c.nonterminal_names.ensures.names in
    let past = c.in-None.ensures.lookup.3 in
    let place = c.place.ensures in
    let is = nonterminal_past file c.args.nonterminal (omega arith) in (
      λ e. is ∙ sym (nil_from_length name (eqb-true (length name) 0 (sym c.is_empty.ensures ∙ e))),
      λ h. c.is_empty.ensures ∙ eq-eqb (length name) 0 (ap (λ (l : List ℕ). length l) (sym h ∙ is)),
    )
