-- The span of the lowest bit is added and that bit taken away, until none is left.
use Rattle.std.proofs.Common.{ℕ, ◌+◌, ◌*◌, ◌%◌, ◌^◌, refl, arith, w64, ap, ◌∙◌}
use Rattle.std.specs.Prelude.{bit_and}
use Rattle.std.specs.Int.{bit_at, bit_not, trailing_zeros}
use Rattle.std.proofs.lemmas.Nat.Bits.{bit_at-trailing_zeros, bit_at-zero}
use Rattle.cs_member.specs.declared.chart.now.Span.{Span}
use Rattle.cs_member.specs.Tables.Sets.{InWord}
use Rattle.cs_member.proofs.OnChart.Rows.{Taken, ends_none, ends_push, ends_same, cleared, taken_more, taken_less, taken_here, subset_less}
use Rattle.cs_member.proofs.chart.now.end_bits.Goals as goal

pub loop-bits-init : goal.loop-bits-init
loop-bits-init c = record {
  ends = ends_none c.args.left c.args.cause (Taken c.args.word c.args.word.bits) c.args.spans.now.items (λ j h. let one = h.0.1 in let zero = h.1 in omega arith);
  subset = λ i lt h. h;
}

pub loop-bits-preserved : goal.loop-bits-preserved
loop-bits-preserved c =
    let word = c.args.word in
    let bits = c.loop-bits.bits in
    let k : ℕ = trailing_zeros w64 bits in
    let low = bit_at-trailing_zeros w64 bits (let ne = c.loop-bits-test.true in omega arith) c.loop-bits.auto.bits-fits.fits in
    let s : Span = record { nonterminal = c.args.left; from = word.at * 64 + k; cause = c.args.cause } in
    record {
      ends = ends_push c.args.left c.args.cause (Taken word bits) (Taken word (bit_and bits (bit_not w64 (1 * 2 ^ k % 2 ^ 64)))) c.args.spans.now.items c.loop-bits.spans.items c.push.new.self.items s
          c.loop-bits.invariant.ends c.in_ok-push.ensures.items refl refl
          (taken_here word bits k low.0 low.1 (c.loop-bits.invariant.subset k low.0 low.1))
          (taken_more word bits k low.0 low.1) (taken_less word bits k low.0 low.1);
      subset = subset_less word bits k low.0 low.1 c.loop-bits.invariant.subset;
    }

pub loop-bits-smaller : goal.loop-bits-smaller
loop-bits-smaller c =
    let bits = c.loop-bits.bits in
    let low = bit_at-trailing_zeros w64 bits (let ne = c.loop-bits-test.true in omega arith) c.loop-bits.auto.bits-fits.fits in
    cleared bits (trailing_zeros w64 bits) low.0 low.1

pub returns : goal.returns
returns c =
    ends_same c.args.left c.args.cause (Taken c.args.word c.loop-bits.bits) (InWord c.args.word) c.args.spans.now.items c.loop-bits.spans.items
    (λ j h. h.0)
    (λ j h. (h, ap (λ b. bit_at b (j % 64)) c.loop-bits-test.false ∙ bit_at-zero (j % 64)))
    c.loop-bits.invariant.ends
