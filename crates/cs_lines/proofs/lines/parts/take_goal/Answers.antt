-- The first word says which of three goals it is, and so which numbers or names stand behind it.
use Rattle.std.proofs.Common.{[], ◌∷◌, refl}
use Rattle.std.proofs.lemmas.Bool.{false≢true}
use Rattle.std.proofs.lemmas.List.Elements.{All-nil, All-cons}
use Rattle.cs_lines.proofs.OnLines.Parts.{same_behind, step, front, some_goal, rule_goal, context_goal, pair_goal, no_goal}
use Rattle.cs_lines.specs.Lines.Line.{OfRule, OfContext, OfPair}
use Rattle.cs_lines.specs.Words.Words.{numeral, IsWord}
use Rattle.cs_lines.proofs.lines.parts.take_goal.Goals as goal

pub returns-in_err-word : goal.returns-in_err-word
returns-in_err-word c =
    rw c.from_residual.ensures (λ goal others h e.
    some_goal goal others _ (c.in_err-word.ensures) e)

pub returns-in_err-rule : goal.returns-in_err-rule
returns-in_err-rule c =
    rw c.from_residual-in_err-rule.ensures (λ goal others h e.
    let one = c.in_ok-word.ensures in
    let p = rule_goal goal others _ _ (front one ((c.if-same_word.ensures).0 refl)) e in
    c.in_err-rule.ensures p.rule others p.is)

pub returns-in_err-outer : goal.returns-in_err-outer
returns-in_err-outer c =
    rw c.from_residual-in_err-outer.ensures (λ goal others h e.
    let one = c.in_ok-word.ensures in
    let p = context_goal goal others _ _ (front one ((c.if-same_word-2.ensures).0 refl)) e in
    c.in_err-outer.ensures p.outer (numeral p.place ∷ numeral p.inner ∷ others) p.is)

pub returns-in_err-place : goal.returns-in_err-place
returns-in_err-place c =
    rw c.from_residual-in_err-place.ensures (λ goal others h e.
    let one = c.in_ok-word.ensures in
    let p = context_goal goal others _ _ (front one ((c.if-same_word-2.ensures).0 refl)) e in
    let two = c.in_ok-outer.ensures in
    let rest1 = same_behind two.2 p.is in
    c.in_err-place.ensures p.place (numeral p.inner ∷ others) rest1)

pub returns-in_err-inner : goal.returns-in_err-inner
returns-in_err-inner c =
    rw c.from_residual-in_err-inner.ensures (λ goal others h e.
    let one = c.in_ok-word.ensures in
    let p = context_goal goal others _ _ (front one ((c.if-same_word-2.ensures).0 refl)) e in
    let two = c.in_ok-outer.ensures in
    let rest1 = same_behind two.2 p.is in
    let three = c.in_ok-place.ensures in
    let rest2 = same_behind three.2 rest1 in
    c.in_err-inner.ensures p.inner others rest2)

pub returns-in_err-names : goal.returns-in_err-names
returns-in_err-names c =
    rw c.from_residual-in_err-names.ensures (λ goal others h e.
    let one = c.in_ok-word.ensures in
    let p = pair_goal goal others _ _ h (front one ((c.if-same_word-3.ensures).0 refl)) e in
    c.in_err-names.ensures p.left p.right others p.left_word p.right_word p.is)

pub returns-in_ok-rule : goal.returns-in_ok-rule
returns-in_ok-rule c =
    let one = c.in_ok-word.ensures in
    let two = c.in_ok-rule.ensures in
    (OfRule two.0, All-nil IsWord, two.1, step (front one ((c.if-same_word.ensures).0 refl)) two.2)

pub returns-in_ok-inner : goal.returns-in_ok-inner
returns-in_ok-inner c =
    let one = c.in_ok-word.ensures in
    let two = c.in_ok-outer.ensures in
    let three = c.in_ok-place.ensures in
    let four = c.in_ok-inner.ensures in
    (OfContext two.0 three.0 four.0, All-nil IsWord, (two.1, three.1, four.1), step (front one ((c.if-same_word-2.ensures).0 refl)) (step two.2 (step three.2 four.2)))

pub returns-in_ok-names : goal.returns-in_ok-names
returns-in_ok-names c =
    let one = c.in_ok-word.ensures in
    let two = c.in_ok-names.ensures in
    let left = c.in_ok-names.names.left.now in
    let right = c.in_ok-names.names.right.now in
    (OfPair left right, All-cons IsWord left (right ∷ []) two.0 (All-cons IsWord right [] two.1 (All-nil IsWord)), (refl, refl), step (front one ((c.if-same_word-3.ensures).0 refl)) two.2)

pub returns-else-same_word-3 : goal.returns-else-same_word-3
returns-else-same_word-3 c goal others h e =
    no_goal _ _ _ (c.in_ok-word.ensures) (λ e. false≢true ((c.if-same_word.ensures).1 e)) (λ e. false≢true ((c.if-same_word-2.ensures).1 e)) (λ e. false≢true ((c.if-same_word-3.ensures).1 e)) goal others e
