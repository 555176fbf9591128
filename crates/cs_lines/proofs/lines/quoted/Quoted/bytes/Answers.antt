-- The bytes so far and those that are still spelled are the text, and at the end none is spelled.
use Rattle.std.proofs.Common.{ℕ, List, [], ◌∷◌, ◌++◌, sym, ap, ◌∙◌, subst, append_assoc, append-nil}
use Rattle.cs_lines.proofs.OnLines.Spelled.{spells_less, spells_end}
use Rattle.cs_lines.specs.Lines.Spelled.{Spells}
use Rattle.cs_lines.proofs.lines.quoted.Quoted.bytes.Goals as goal

pub loop-front-preserved : goal.loop-front-preserved
loop-front-preserved c =
    let front = c.in-Some.ensures in
    let rest = c.from_offset-rest.ensures in
    λ text s.
    let before = c.loop-front.invariant text s in
    let less = spells_less _ _ _ before.0 front.is before.1 in
    let b = c.in-Some.front.byte in
    let items = c.loop-front.bytes.items in
    let whole = before.2 ∙ ap (λ (l : List ℕ). items ++ l) less.is ∙ sym (append_assoc items (b ∷ []) less.left) in
    (less.left, subst (λ (r : List ℕ). Spells r less.left) (sym rest) less.spells, whole ∙ ap (λ (l : List ℕ). l ++ less.left) (sym c.in_ok-push.ensures.items))

pub returns : goal.returns
returns c =
    λ text s.
    let before = c.loop-front.invariant text s in
    let none = spells_end _ before.0 c.in_default.ensures before.1 in
    sym (before.2 ∙ ap (λ (l : List ℕ). c.loop-front.bytes.items ++ l) none ∙ append-nil c.loop-front.bytes.items)
