-- The space is one byte more in front of the word.
use Rattle.std.proofs.Common.{length, ◌≡◌, ◌+◌, ◌++◌, ◌∷◌, [], ◌∙◌, List, ap, append_assoc, arith, subst, take, ℕ}
use Rattle.cs_manifest.proofs.output.output.put_spaced_at.Goals as goal

pub returns : goal.returns
returns c =
    let line = c.args.line.now in
    let at = c.args.at in
    let word = c.args.word.now in
    let new = c.put_at.new.line in
    let whole : at + 1 + length word ≡ at + (length word + 1) = omega arith in
    subst (λ (n : ℕ). take n new ≡ take at line ++ 32 ∷ word) whole
    (c.put_at.ensures ∙ ap (λ (t : List ℕ). t ++ word) c.put_front.ensures.front ∙ append_assoc (take at line) (32 ∷ []) word)
