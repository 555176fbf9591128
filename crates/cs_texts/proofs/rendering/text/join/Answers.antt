-- The first lexeme stands at the start, and each next one behind the separator.
use Rattle.std.proofs.Common.{ℕ, List, ◌+◌, ◌++◌, take, sym, subst, arith}
use Rattle.cs_texts.specs.Rendering.Rendering.{IsRuleText}
use Rattle.cs_texts.proofs.OnRendering.Pieces.{at_first, at_next}
use Rattle.cs_texts.proofs.rendering.text.join.Goals as goal
use Rattle.cs_texts.proofs.rendering.text.join.Goals.{then-i-gt0+in_ok-put_separator, else-i-gt0}

pub loop-i-preserved : goal.loop-i-preserved
loop-i-preserved c =
    let lexemes = c.args.lexemes.now in
    let sep = c.args.separator.now in
    let tokens = c.args.tokens.now in
    let i = c.loop-i.i in
    let text = c.loop-i.text.items in
    let put = c.in_ok-put_lexeme.ensures in
    let P : List ℕ → Type 0 = λ t. IsRuleText lexemes sep (take (i + 1) tokens) t in
    let Q : List ℕ → Type 0 = λ t. IsRuleText lexemes sep (take (i + 1) tokens) (t ++ put.0) in
    subst P (sym put.2) (elim c.if-i-gt0.branch [
      | then-i-gt0+in_ok-put_separator w ↦
          rw (w.text-is, w.in_ok-put_separator.ensures) (at_next lexemes sep tokens text i put.0 w.if-i-gt0.true c.loop-i-test.true put.1 c.loop-i.invariant)
      | else-i-gt0 w ↦
          rw w.text-is (at_first lexemes sep tokens text i put.0 (omega (arith, w.if-i-gt0.false)) c.loop-i-test.true put.1 c.loop-i.invariant)
    ])
