-- No token before the place has the name, so the one that has it is the first, and at the end none has.
use Rattle.std.proofs.Common.{ℕ, ◌≡◌, ◌+◌, ◌<◌, ◌≢◌, length, get_or, sym, ap, ◌∙◌, below_more, arith}
use Rattle.std.proofs.lemmas.Bool.{false≢true}
use Rattle.cs_lines.specs.Words.Names.{token_of}
use Rattle.cs_lines.proofs.OnNames.{token_at, first_named, none_named}
use Rattle.cs_lines.proofs.naming.finding.find_token.Goals as goal

pub returns-then-is_token_text-clause-some : goal.returns-then-is_token_text-clause-some
returns-then-is_token_text-clause-some c =
    let file = c.args.file.now in
    let place = c.loop-place.place in
    let names_are = c.token_names-names.ensures.names in
    let long = ap length names_are in
    let many = c.token_names-names.ensures.named.tokens in
    let low : place < length file.token_names = omega arith in
    let item : c.index-names-place.result ≡ get_or file.token_names place c.index-names-place.result = cc in
    let is = token_at file c.number_of.result place c.index-names-place.result (omega arith) low item in
    first_named file.grammar.tokens (token_of file) c.args.name.now place c.number_of.result c.number_of.ensures (omega arith) c.loop-place.invariant
    (is ∙ c.is_token_text.ensures.0 c.if-is_token_text.true)

pub loop-place-preserved : goal.loop-place-preserved
loop-place-preserved c =
    let file = c.args.file.now in
    let place = c.loop-place.place in
    let names_are = c.token_names-names.ensures.names in
    let long = ap length names_are in
    let low : place < length file.token_names = omega arith in
    let item : c.index-names-place.result ≡ get_or file.token_names place c.index-names-place.result = cc in
    let is = token_at file (place + 1) place c.index-names-place.result (omega arith) low item in
    below_more (λ (k : ℕ). token_of file (k + 1) ≢ c.args.name.now) place c.loop-place.invariant
    (λ same. false≢true (sym c.if-is_token_text.false ∙ c.is_token_text.ensures.1 (sym is ∙ same)))

pub returns-clause-none : goal.returns-clause-none
returns-clause-none c =
    let file = c.args.file.now in
    let names_are = c.token_names-names.ensures.names in
    let long = ap length names_are in
    let many = c.token_names-names.ensures.named.tokens in
    let past = c.loop-place-test.false in
    none_named file.grammar.tokens (token_of file) c.args.name.now c.loop-place.place (omega arith) c.loop-place.invariant
