-- Braces make the depth one more or one less, parts leave it as it is; the block ends where it is 0.
use Rattle.std.proofs.Common.{◌≡◌, ◌-◌, ◌+◌, ℕ, List, Some, None, drop, length, sym, ◌∙◌, ap, refl, subst, arith}
use Rattle.std.specs.Prelude.{slice_get}
use Rattle.std.proofs.lemmas.List.{length-drop}
use Rattle.cs_bytes.proofs.Fronts.{get_or-got, got_within}
use Rattle.cs_ctext.specs.Blocks.{IsBlock}
use Rattle.cs_ctext.specs.Scans.{part_size}
use Rattle.cs_ctext.proofs.BlockSteps.{goes-opened, goes-deeper, goes-back, goes-on, goes-closed, goes-stuck, goes-ended}
use Rattle.cs_ctext.proofs.c_text.CText.skip_block.Goals as goal

pub loop-from-init : goal.loop-from-init
loop-from-init c =
    let stands : slice_get c.bytes-bytes.result.now c.args.at ≡ Some 123 = rw c.bytes-bytes.ensures c.requires in
    (sym c.bytes-bytes.ensures, goes-opened _ _ (got_within c.bytes-bytes.result.now c.args.at 123 stands) (sym (get_or-got c.bytes-bytes.result.now c.args.at 123 stands)))

pub loop-from-preserved-in-123 : goal.loop-from-preserved-in-123
loop-from-preserved-in-123 c =
    (c.loop-from.invariant.0, goes-deeper _ _ _ _ c.loop-from-test.true (sym c.in-123.is) c.loop-from.invariant.1)

pub returns-in-125-clause-closed : goal.returns-in-125-clause-closed
returns-in-125-clause-closed c =
    subst (λ (t : List ℕ). IsBlock (drop c.args.at t) ((c.loop-from.from + 1) - c.args.at)) c.bytes-bytes.ensures
    (goes-closed _ _ _ _ c.loop-from-test.true (sym c.in-125.is) c.if-depth-eq1.true c.loop-from.invariant.1)

pub loop-from-preserved-in-125-2 : goal.loop-from-preserved-in-125-2
loop-from-preserved-in-125-2 c =
    (c.loop-from.invariant.0, goes-back _ _ _ _ c.loop-from-test.true (sym c.in-125.is) c.if-depth-eq1.false c.loop-from.invariant.1)

pub returns-in_err-from-in_default-clause-unclosed : goal.returns-in_err-from-in_default-clause-unclosed
returns-in_err-from-in_default-clause-unclosed c =
    let open_part : part_size (drop c.loop-from.from c.bytes-bytes.result.now) ≡ None = sym (ap (λ (t : List ℕ). part_size (drop c.loop-from.from t)) c.loop-from.invariant.0) ∙ (sym c.part_size.ensures.size ∙ c.in_err-from-in_default.was) in
    rw c.from_residual.ensures (subst (λ (t : List ℕ). (size : ℕ) → ¬ IsBlock (drop c.args.at t) size) c.bytes-bytes.ensures
    (goes-stuck _ _ _ _ _ c.loop-from-test.true refl (grind arith) (grind arith) open_part c.loop-from.invariant.1))

pub loop-from-preserved : goal.loop-from-preserved
loop-from-preserved c =
    let found : part_size (drop c.loop-from.from c.bytes-bytes.result.now) ≡ Some c.in_ok-from-in_default.field-0 = sym (ap (λ (t : List ℕ). part_size (drop c.loop-from.from t)) c.loop-from.invariant.0) ∙ (sym c.part_size.ensures.size ∙ c.in_ok-from-in_default.was) in (
      c.part_size.ensures.text ∙ c.loop-from.invariant.0,
      goes-on _ _ _ _ _ _ c.loop-from-test.true refl (grind arith) (grind arith) found
          c.in_ok-from-in_default.ensures.within.0
          (omega (arith, c.in_ok-from-in_default.ensures.within.1, ap length c.loop-from.invariant.0, length-drop c.loop-from.from c.bytes-bytes.result.now)) c.loop-from.invariant.1,
    )

pub returns-clause-unclosed : goal.returns-clause-unclosed
returns-clause-unclosed c =
    subst (λ (t : List ℕ). (size : ℕ) → ¬ IsBlock (drop c.args.at t) size) c.bytes-bytes.ensures (goes-ended _ _ _ _ c.loop-from-test.false c.loop-from.invariant.1)
