-- The number that is read is that of the first rule, and the grammar has one rule of that number.
use Rattle.std.proofs.Common.{◌≡◌, [], ℕ, ◌∷◌, Option, get_or, ap, ◌∙◌, subst, refl, sym, append-nil}
use Rattle.cs_grammar.specs.Grammar.{Production, IsRule}
use Rattle.cs_grammar.proofs.OneTree.{one_rule}
use Rattle.cs_grammar.proofs.Measures.{IsNumberOf-rule}
use Rattle.cs_least.specs.Cost.Trees.{IsFirstRule}
use Rattle.cs_least.specs.Cost.Tables.{Kept, HasTables}
use Rattle.cs_least.proofs.OnCost.FirstRules.{first_is}
use Rattle.cs_least.proofs.cost.writing.push_root.Goals as goal
use Rattle.cs_least.proofs.cost.writing.push_root.Goals.{In-Some}

-- what is read of the fields is read of the value
read : (kept same : Kept) (n : ℕ) (o : Option ℕ) → kept ≡ same → o ≡ get_or kept.firsts n o → o ≡ get_or same.firsts n o
read kept same n o e h = h ∙ ap (λ (k : Kept). get_or k.firsts n o) e

-- the number that is read is that of the first rule
first_here : (c : In-Some) → IsFirstRule c.args.trees.now.weights c.args.trees.now.grammar c.args.trees.now.table c.args.left c.in-Some.number
first_here c =
    let kept = c.args.trees.now in
    let tables = subst HasTables c.trees.view_is c.trees.invariant in
    let known = first_is kept.weights _ _ _ tables.first_rules _ c.requires.left c.requires.small _ (read _ kept _ _ c.trees.view_is (rw c.place_of.ensures at c.index.ensures)) in
    let here : known.0 ≡ c.in-Some.number = (let e = known.1 in let f = c.in-Some.is in cc) in
    subst (IsFirstRule kept.weights _ _ c.args.left) here known.2

pub rule-requires : goal.rule-requires
rule-requires c =
    let first = first_here (goal.at.rule-requires c).In-Some in
    let rule = subst (λ (k : Kept). IsRule k.grammar c.in-Some.number first.rule) (sym c.trees.view_is) first.number in
    IsNumberOf-rule _ _ _ rule

pub returns-clause-root : goal.returns-clause-root
returns-clause-root c =
    let first = first_here (goal.at.returns-clause-root c).In-Some in
    let rule = subst (λ (k : Kept). IsRule k.grammar c.in-Some.number c.rule.result.now) c.trees.view_is c.rule.ensures.rule in
    let same = one_rule c.args.trees.now.grammar _ _ _ _ refl rule first.number in
    record {
      number = c.in-Some.number;
      first = first;
      of_rule = c.right.ensures ∙ ap (λ (p : Production). p.right) same;
      text = c.in_ok-push.ensures.ok;
    }

pub returns-clause-grown : goal.returns-clause-grown
returns-clause-grown c = (c.in-Some.number ∷ [], c.in_ok-push.ensures.ok)
