-- The count so far and the length of what is still spelled are that of the text, and at the end none is spelled.
use Rattle.std.proofs.Common.{ℕ, List, sym, ap, subst, length, drop, arith, length-drop}
use Rattle.cs_lines.proofs.OnLines.Spelled.{spells_less, spells_end}
use Rattle.cs_lines.specs.Lines.Spelled.{Spells}
use Rattle.cs_lines.proofs.lines.quoted.Quoted.len.Goals as goal

pub loop-front-preserved : goal.loop-front-preserved
loop-front-preserved c =
    let front = c.in-Some.ensures in
    let rest = c.from_offset-rest.ensures in (
      omega (arith, front.some, front.within, c.loop-front.invariant.0, ap length rest, length-drop c.in-Some.front.size c.loop-front.rest.now),
      λ text s.
          let before = c.loop-front.invariant.1 text s in
          let now = c.loop-front.rest.now in
          let less = spells_less c.in-Some.front.byte now (drop c.in-Some.front.size now) before.0 front.is before.1 in
          (less.left, subst (λ (r : List ℕ). Spells r less.left) (sym rest) less.spells, omega (arith, before.2, ap length less.is)),
    )

pub returns : goal.returns
returns c =
    λ text s.
    let before = c.loop-front.invariant.1 text s in
    let none = spells_end _ before.0 c.in_default.ensures before.1 in
    omega (arith, before.2, ap length none)
