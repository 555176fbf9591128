-- Where a bit is set there is a span, so spans are added for the fresh bits alone.
use Rattle.std.proofs.Common.{◌≡◌, ℕ, ◌+◌, ◌*◌, ◌/◌, ◌%◌, ◌<◌, arith, sym, ap, ◌∙◌, subst, get_or, List}
use Rattle.std.specs.Int.{bit_at}
use Rattle.std.proofs.lemmas.Nat.Bits.{bit_at-zero}
use Rattle.cs_member.specs.Tables.Asked.{HasBitsAlso}
use Rattle.cs_member.specs.Tables.Sets.{InWord}
use Rattle.cs_member.proofs.OnChart.Rows.{ends_none}
use Rattle.cs_member.proofs.OnChart.Ending.{fresh, ends_fresh, are_ends}
use Rattle.cs_member.proofs.chart.now.end_word.Goals as goal

pub returns-then-fresh-eq0-clause-ends : goal.returns-then-fresh-eq0-clause-ends
returns-then-fresh-eq0-clause-ends c =
    let now = c.args.now.now in
    let many : ℕ = c.args.grammar.now.nonterminals + 1 in
    let low : c.args.left < many = (let le = c.requires.left in omega arith) in
    ends_fresh c.args.left c.args.cause c.args.word c.bits_at.result now.spans.items now.spans.items c.bits_at.ensures.fits
    (λ j at bit.
    let place : c.end_place-place.result ≡ j / 64 * many + c.args.left = c.end_place-place.ensures ∙ ap (λ n. n * many + c.args.left) at in
    let was : c.bits_at.result ≡ get_or now.ends.items (j / 64 * many + c.args.left) 0 = c.bits_at.ensures.bits ∙ (ap (λ (l : List ℕ). get_or l c.end_place-place.result 0) c.deref.ensures.value ∙ ap (λ n. get_or now.ends.items n 0) place) in
    c.requires.now.ends c.args.left j low (sym (ap (λ v. bit_at v (j % 64)) was) ∙ bit))
    (ends_none c.args.left c.args.cause (InWord (fresh c.args.word c.bits_at.result)) now.spans.items
    (λ j h.
    let one = h.1 in
    let zero = ap (λ v. bit_at v (j % 64)) c.if-fresh-eq0.true ∙ bit_at-zero (j % 64) in
    omega arith))

pub returns-clause-ends : goal.returns-clause-ends
returns-clause-ends c =
    let now = c.args.now.now in
    let many : ℕ = c.args.grammar.now.nonterminals + 1 in
    let low : c.args.left < many = (let le = c.requires.left in omega arith) in
    ends_fresh c.args.left c.args.cause c.args.word c.bits_at.result now.spans.items c.end_bits.new.spans.items c.bits_at.ensures.fits
    (λ j at bit.
    let place : c.end_place-place.result ≡ j / 64 * many + c.args.left = c.end_place-place.ensures ∙ ap (λ n. n * many + c.args.left) at in
    let was : c.bits_at.result ≡ get_or now.ends.items (j / 64 * many + c.args.left) 0 = c.bits_at.ensures.bits ∙ (ap (λ (l : List ℕ). get_or l c.end_place-place.result 0) c.deref.ensures.value ∙ ap (λ n. get_or now.ends.items n 0) place) in
    c.requires.now.ends c.args.left j low (sym (ap (λ v. bit_at v (j % 64)) was) ∙ bit))
    c.in_ok-end_bits.ensures

pub returns-clause-now : goal.returns-clause-now
returns-clause-now c =
    let now = c.args.now.now in
    let many : ℕ = c.args.grammar.now.nonterminals + 1 in
    record {
      ends = are_ends many c.args.left c.args.cause c.args.word now.ends.items c.add_bits.new.set.items now.spans.items c.end_bits.new.spans.items (let le = c.requires.left in omega arith)
          (subst (λ n. HasBitsAlso n c.args.word.bits now.ends.items c.add_bits.new.set.items) c.end_place-place.ensures c.in_ok-add_bits.ensures.has) c.requires.now.ends (returns-clause-ends c);
      short = c.requires.now.short;
      here = c.requires.now.here;
    }
