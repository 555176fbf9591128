-- Token by token, no pair before the last mark is the one; the pair with the end mark is the last.
use Rattle.std.proofs.Common.{refl}
use Rattle.std.proofs.lemmas.List.{take_all}
use Rattle.std.proofs.Common.{ℕ, List, subst}
use Rattle.cs_goals.proofs.Followed.{Looked, looked_none, looked_more, found_pair, last_pair, last_of_pairs}
use Rattle.cs_goals.proofs.neighbours.has_pair.Goals as goal
use Rattle.cs_goals.proofs.neighbours.has_pair.Goals.{else-same_mark-via-then-same_mark+else-same_mark-2, else-same_mark-via-else-same_mark}

pub loop-token-init : goal.loop-token-init
loop-token-init c = looked_none c.args.left c.args.right

pub returns-then-same_mark-2 : goal.returns-then-same_mark-2
returns-then-same_mark-2 c = (
  λ _. found_pair c.args.left c.args.right c.args.tokens.now c.loop-token.token-index 0 _ c.loop-token.last c.loop-token-test.true refl c.loop-token.invariant (c.same_mark.ensures.0 c.if-same_mark.true) (c.same_mark-then-same_mark.ensures.0 c.if-same_mark-2.true),
  λ _. refl,
)

pub loop-token-preserved : goal.loop-token-preserved
loop-token-preserved c =
    looked_more c.args.left c.args.right c.args.tokens.now c.loop-token.token-index 0 _ c.loop-token.last c.loop-token-test.true refl c.loop-token.invariant
    (λ both. elim c.else-same_mark.branch [
      | else-same_mark-via-then-same_mark+else-same_mark-2 w ↦
          (let yes = w.same_mark-then-same_mark.ensures.1 both.1 in let other = w.if-same_mark-2.false in cc)
      | else-same_mark-via-else-same_mark w ↦
          (let yes = c.same_mark.ensures.1 both.0 in let other = w.if-same_mark.false in cc)
    ])

pub returns-then-same_mark-3 : goal.returns-then-same_mark-3
returns-then-same_mark-3 c =
    let looked = subst (λ (l : List ℕ). Looked c.args.left c.args.right l c.loop-token.last) (take_all c.loop-token.token-index c.args.tokens.now c.loop-token-test.false) c.loop-token.invariant in (
      λ is. last_pair c.args.left c.args.right c.args.tokens.now c.loop-token.last looked (c.same_mark-2.ensures.0 c.if-same_mark-3.true) (c.same_mark-then-same_mark-3.ensures.0 is),
      λ f. c.same_mark-then-same_mark-3.ensures.1 (last_of_pairs c.args.left c.args.right c.args.tokens.now c.loop-token.last looked f).1,
    )

pub returns-else-same_mark-3 : goal.returns-else-same_mark-3
returns-else-same_mark-3 c =
    let looked = subst (λ (l : List ℕ). Looked c.args.left c.args.right l c.loop-token.last) (take_all c.loop-token.token-index c.args.tokens.now c.loop-token-test.false) c.loop-token.invariant in (
      λ is. absurd (let other = c.if-same_mark-3.false in cc),
      λ f. c.same_mark-2.ensures.1 (last_of_pairs c.args.left c.args.right c.args.tokens.now c.loop-token.last looked f).0,
    )
