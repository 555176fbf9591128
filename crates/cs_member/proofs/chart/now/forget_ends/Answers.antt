-- The bits of one span more are taken away, and behind the last none is left.
use Rattle.std.proofs.Common.{◌≡◌, ◌≤◌, ℕ, ◌+◌, None, length, arith, ◌∙◌, get_or, subst}
use Rattle.std.specs.Prelude.{Some, slice_get}
use Rattle.std.proofs.lemmas.Option.{slice_get-get_or}
use Rattle.cs_member.specs.declared.chart.now.Span.{Span}
use Rattle.cs_member.proofs.OnChart.Ending.{ends_all, ends_over, ends_less}
use Rattle.cs_member.proofs.chart.now.forget_ends.Goals as goal

pub loop-span-init : goal.loop-span-init
loop-span-init c = ends_all (c.args.grammar.now.nonterminals + 1) c.args.ends.now.items c.args.spans.now c.requires

pub loop-span-preserved : goal.loop-span-preserved
loop-span-preserved c =
    let many : ℕ = c.args.grammar.now.nonterminals + 1 in
    let spans = c.args.spans.now in
    let k = c.loop-span.span-index in
    let old = c.loop-span.ends.items in
    let new = c.clear_bits.new.set.items in
    let s : Span = get_or spans k (record { nonterminal = 0; from = 0; cause = None }) in
    let at : slice_get spans k ≡ Some s = slice_get-get_or spans k (record { nonterminal = 0; from = 0; cause = None }) c.loop-span-test.true in
    ends_less many old new spans k s at
    (subst (λ n. get_or new n 0 ≡ 0) c.end_place-place.ensures c.clear_bits.ensures.none)
    (λ n other. c.clear_bits.ensures.rest n (λ same. other (same ∙ c.end_place-place.ensures)))
    c.loop-span.invariant

pub returns : goal.returns
returns c =
    let past : length c.args.spans.now ≤ c.loop-span.span-index = (let over = c.loop-span-test.false in omega arith) in
    ends_over (c.args.grammar.now.nonterminals + 1) c.loop-span.ends.items c.args.spans.now c.loop-span.span-index past c.loop-span.invariant
