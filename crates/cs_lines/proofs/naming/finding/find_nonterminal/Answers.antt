-- No nonterminal before the place has the name, so the one that has it is the first, and at the end none has.
use Rattle.std.proofs.Common.{ℕ, ◌≡◌, ◌+◌, ◌<◌, ◌≢◌, length, get_or, sym, ap, ◌∙◌, below_more, arith}
use Rattle.std.proofs.lemmas.Bool.{false≢true}
use Rattle.std.proofs.lemmas.Slice.Eq.{bytes_eq-Decides}
use Rattle.cs_lines.specs.Words.Names.{nonterminal_of}
use Rattle.cs_lines.proofs.OnNames.{nonterminal_at, first_named, none_named}
use Rattle.cs_lines.proofs.naming.finding.find_nonterminal.Goals as goal

pub returns-then-same_bytes-clause-some : goal.returns-then-same_bytes-clause-some
returns-then-same_bytes-clause-some c =
    let file = c.args.file.now in
    let place = c.loop-place.place in
    let names_are = c.nonterminal_names-names.ensures.names in
    let long = ap length names_are in
    let many = c.nonterminal_names-names.ensures.named.nonterminals in
    let low : place < length file.nonterminal_names = omega arith in
    let item : c.bytes.result.now ≡ get_or file.nonterminal_names place c.bytes.result.now = cc in
    let is = nonterminal_at file c.number_of.result place c.bytes.result.now (omega arith) low item in
    first_named file.grammar.nonterminals (nonterminal_of file) c.args.name.now place c.number_of.result c.number_of.ensures (omega arith) c.loop-place.invariant
    (is ∙ (bytes_eq-Decides c.bytes.result.now c.args.name.now).0 (sym c.same_bytes.ensures ∙ c.if-same_bytes.true))

pub loop-place-preserved : goal.loop-place-preserved
loop-place-preserved c =
    let file = c.args.file.now in
    let place = c.loop-place.place in
    let names_are = c.nonterminal_names-names.ensures.names in
    let long = ap length names_are in
    let low : place < length file.nonterminal_names = omega arith in
    let item : c.bytes.result.now ≡ get_or file.nonterminal_names place c.bytes.result.now = cc in
    let is = nonterminal_at file (place + 1) place c.bytes.result.now (omega arith) low item in
    below_more (λ (k : ℕ). nonterminal_of file (k + 1) ≢ c.args.name.now) place c.loop-place.invariant
    (λ same. false≢true (sym c.if-same_bytes.false ∙ c.same_bytes.ensures ∙ (bytes_eq-Decides c.bytes.result.now c.args.name.now).1 (sym is ∙ same)))

pub returns-clause-none : goal.returns-clause-none
returns-clause-none c =
    let file = c.args.file.now in
    let names_are = c.nonterminal_names-names.ensures.names in
    let long = ap length names_are in
    let many = c.nonterminal_names-names.ensures.named.nonterminals in
    let past = c.loop-place-test.false in
    none_named file.grammar.nonterminals (nonterminal_of file) c.args.name.now c.loop-place.place (omega arith) c.loop-place.invariant
