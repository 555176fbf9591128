-- Place by place, the one mark stands there with the other behind it, or the pair isn't there.
use Rattle.std.proofs.Common.{◌≡◌, ℕ, suc, ◌+◌, Some, refl, sym, ap, ◌∙◌, below_more, arith}
use Rattle.std.specs.Prelude.{slice_get}
use Rattle.std.proofs.lemmas.Bool.{false≢true}
use Rattle.cs_grammar.specs.Sentence.{framed}
use Rattle.cs_check.proofs.OnChecking.Framed.{followed_at, no_pair}
use Rattle.cs_check.proofs.checking.framed.has_pair.Goals as goal
use Rattle.cs_check.proofs.checking.framed.has_pair.Goals.{else-is_at-via-then-is_at+else-is_at-2, else-is_at-via-else-is_at}

pub returns-then-is_at-2 : goal.returns-then-is_at-2
returns-then-is_at-2 c =
    let tokens = c.args.tokens.now in
    let at = c.loop-at.at in
    let one : suc at ≡ at + 1 = omega arith in (
      λ _. followed_at (framed tokens) at c.args.left c.args.right (c.is_at.ensures.0 c.if-is_at.true)
          (ap (slice_get (framed tokens)) one ∙ c.is_at-then-is_at.ensures.0 c.if-is_at-2.true),
      λ _. refl,
    )

pub loop-at-preserved : goal.loop-at-preserved
loop-at-preserved c =
    let tokens = c.args.tokens.now in
    below_more (λ (k : ℕ). slice_get (framed tokens) k ≡ Some c.args.left → slice_get (framed tokens) (k + 1) ≡ Some c.args.right → ⊥) c.loop-at.at c.loop-at.invariant
    (λ first second. elim c.else-is_at.branch [
      | else-is_at-via-then-is_at+else-is_at-2 w ↦ false≢true (sym w.if-is_at-2.false ∙ w.is_at-then-is_at.ensures.1 second)
      | else-is_at-via-else-is_at w ↦ false≢true (sym w.if-is_at.false ∙ c.is_at.ensures.1 first)
    ])

pub returns : goal.returns
returns c = (
  λ e. absurd cc,
  λ followed.
      let past = c.loop-at-test.false in
      absurd (no_pair c.args.tokens.now c.args.left c.args.right (λ k low. c.loop-at.invariant k (omega arith)) followed),
)
