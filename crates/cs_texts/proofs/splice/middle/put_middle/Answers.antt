-- One token more, the list's first or another; and a separator between what is put and what comes behind it, or nothing on one side.
use Rattle.std.proofs.Common.{◌≡◌, ℕ, List, ◌+◌, ◌<◌, ◌++◌, length, take, sym, ap, ◌∙◌, subst, arith, append_assoc}
use Rattle.cs_texts.specs.Rendering.Rendering.{IsRuleText}
use Rattle.cs_texts.proofs.OnRendering.Pieces.{at_first, at_next}
use Rattle.cs_texts.specs.Splice.Middle.{IsPut}
use Rattle.cs_texts.proofs.OnSplice.Aligning.{between}
use Rattle.cs_texts.proofs.splice.middle.put_middle.Goals as goal
use Rattle.cs_texts.proofs.splice.middle.put_middle.Goals.{then-i-gt0+in_ok-extend_from_slice, else-i-gt0}

pub loop-i-preserved : goal.loop-i-preserved
loop-i-preserved c = λ front rule.
    let lexemes = c.args.lexemes.now in
    let sep = c.args.separator.now in
    let tokens = c.args.tokens.now in
    let i = c.loop-i.i in
    let out = c.loop-i.out.items in
    let lexeme = c.in-Some.lexeme.now in
    let so_far : IsRuleText lexemes sep (take i tokens) (front ++ out) = c.loop-i.invariant front rule in
    let within : i < length tokens = omega arith in
    let P : List ℕ → Type 0 = λ t. IsRuleText lexemes sep (take (i + 1) tokens) t in
    let Q : List ℕ → Type 0 = λ t. P (front ++ t) in
    subst Q (sym c.in_ok-extend_from_slice-2.ensures.items) (elim c.if-i-gt0.branch [
      | then-i-gt0+in_ok-extend_from_slice w ↦
          rw (w.out-is, w.in_ok-extend_from_slice.ensures.items)
          (subst P (ap (λ t. t ++ lexeme) (append_assoc front out sep) ∙ append_assoc front (out ++ sep) lexeme)
          (at_next lexemes sep tokens (front ++ out) i lexeme w.if-i-gt0.true within (sym c.in-Some.ensures) so_far))
      | else-i-gt0 w ↦
          rw w.out-is (subst P (append_assoc front out lexeme) (at_first lexemes sep tokens (front ++ out) i lexeme (omega (arith, w.if-i-gt0.false)) within (sym c.in-Some.ensures) so_far))
    ])

pub returns-in_ok-extend_from_slice-3 : goal.returns-in_ok-extend_from_slice-3
returns-in_ok-extend_from_slice-3 c = λ yes front back before behind.
    let lexemes = c.args.lexemes.now in
    let sep = c.args.separator.now in
    let tokens = c.args.tokens.now in
    let put = c.loop-i.out.items in
    let ends : c.loop-i.i ≡ c.args.to = omega arith in
    let all : IsPut lexemes sep tokens c.args.from c.args.to put = subst (λ (n : ℕ). IsPut lexemes sep tokens c.args.from n put) ends c.loop-i.invariant in
    let within : c.args.to < length tokens = omega arith in
    let P : List ℕ → Type 0 = λ t. IsRuleText lexemes sep tokens ((front ++ t) ++ back) in
    subst P (sym c.in_ok-extend_from_slice-3.ensures.items)
    (subst (λ t. IsRuleText lexemes sep tokens (t ++ back)) (append_assoc front put sep) (between lexemes sep tokens (front ++ put) back c.args.to c.if-to-gt0.true within (all front before) behind))
