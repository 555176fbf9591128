-- The parts of a tree within the limit are within it too, and their chosen codes in order are the tree's.
use Rattle.std.proofs.Common.{ℕ, List, ◌++◌, sym, ap, ◌∙◌, subst}
use Rattle.cs_grammar.specs.declared.symbol.Symbol.{Symbol}
use Rattle.cs_grammar.specs.Grammar.{PlainGrammar}
use Rattle.cs_grammar.specs.Weights.{Weighed}
use Rattle.cs_least.specs.Cost.Chosen.{AppendsAllChosen}
use Rattle.cs_least.specs.Cost.Trees.{HaveSmall}
use Rattle.cs_least.specs.Embed.Around.{HasLeastContext, IsAround}
use Rattle.cs_verdicts.specs.Positive.Occurrences.{IsCutAt}
use Rattle.cs_verdicts.proofs.OnPositive.ContextGoals.{ContextParts, small_parts, outer_context, small_left, small_right, small_children, context_code}
use Rattle.cs_verdicts.proofs.positive.contexts.derive_context.Goals as goal
use Rattle.cs_verdicts.proofs.positive.contexts.derive_context.Goals.{After-cut_at-parts}

cut : (c : After-cut_at-parts) → IsCutAt c.args.embeds.now.grammar c.args.occurrence c.cut_at-parts.result
cut c = subst (λ (s : PlainGrammar). IsCutAt s c.args.occurrence c.cut_at-parts.result) c.grammar.ensures c.cut_at-parts.ensures.cut

-- what the parts of a tree that meets the goal are
parts : (c : After-cut_at-parts) → ContextParts c.args.embeds.now.weights c.args.embeds.now.grammar c.cut_at-parts.result.outer.now c.cut_at-parts.result.inner.now c.cut_at-parts.result.before.now c.cut_at-parts.result.behind.now c.args.embeds.now.weights.limit
parts c =
    small_parts c.args.embeds.now.weights c.args.embeds.now.grammar c.args.occurrence.outer c.args.occurrence.place c.args.occurrence.inner _ _ (cut c).is_outer (cut c).is_inner _ _ (cut c).right_side (cut c).place c.requires.feasible.0 c.requires.feasible.1

pub take-requires-clause-least : goal.take-requires-clause-least
take-requires-clause-least c =
    let context = outer_context _ _ _ _ _ _ (parts (goal.at.take-requires-clause-least c).After-cut_at-parts) in
    subst (λ n. HasLeastContext c.args.embeds.now.weights c.args.embeds.now.grammar n) (sym c.left.ensures) context

pub all_into-requires-clause-small : goal.all_into-requires-clause-small
all_into-requires-clause-small c =
    subst (λ (v : Weighed). HaveSmall v.weights v.grammar c.cut_at-parts.result.before.now) (sym c.costs-costs.ensures)
    (small_left _ _ _ _ _ _ (parts (goal.at.all_into-requires-clause-small c).After-cut_at-parts))

pub all_into-requires-2-clause-small : goal.all_into-requires-2-clause-small
all_into-requires-2-clause-small c =
    let children = small_children _ _ _ _ _ _ (parts (goal.at.all_into-requires-2-clause-small c).After-cut_at-parts) in
    subst (λ (v : Weighed). HaveSmall v.weights v.grammar c.right.result.now) (sym c.costs-costs.ensures)
    (subst (λ (l : List Symbol). HaveSmall c.args.embeds.now.weights c.args.embeds.now.grammar l) (sym c.right.ensures) children)

pub all_into-requires-3-clause-small : goal.all_into-requires-3-clause-small
all_into-requires-3-clause-small c =
    subst (λ (v : Weighed). HaveSmall v.weights v.grammar c.cut_at-parts.result.behind.now) (sym c.costs-costs.ensures)
    (small_right _ _ _ _ _ _ (parts (goal.at.all_into-requires-3-clause-small c).After-cut_at-parts))

pub returns-clause-code : goal.returns-clause-code
returns-clause-code c =
    let at = cut (goal.at.returns-clause-code c).After-cut_at-parts in
    let w = c.args.embeds.now.weights in
    let g = c.args.embeds.now.grammar in
    let o = c.cut_at-parts.result in
    let p = o.outer.now in
    let context = c.in_ok-around.around.context in
    let before = context.before.items in
    let after = context.after.items in
    let around = subst (λ n. IsAround w g n before after) (c.in_ok-around.ensures.nonterminal ∙ c.left.ensures) c.in_ok-around.ensures.chosen in
    let same = c.costs-costs.ensures in
    let befores = subst (λ (v : Weighed). AppendsAllChosen v.weights v.grammar o.before.now c.push.new.self c.all_into.new.into) same c.in_ok-all_into.ensures.ok in
    let inners = subst (λ (l : List Symbol). AppendsAllChosen w g l c.push-2.new.self c.all_into-2.new.into) c.right.ensures
    (subst (λ (v : Weighed). AppendsAllChosen v.weights v.grammar c.right.result.now c.push-2.new.self c.all_into-2.new.into) same c.in_ok-all_into-2.ensures.ok) in
    let behinds = subst (λ (v : Weighed). AppendsAllChosen v.weights v.grammar o.behind.now c.all_into-2.new.into c.all_into-3.new.into) same c.in_ok-all_into-3.ensures.ok in
    context_code w g c.args.occurrence.outer c.args.occurrence.place c.args.occurrence.inner p o.inner.now at.is_outer at.is_inner o.before.now o.behind.now at.right_side at.place before after
    c.extend_from_slice.new.self c.push.new.self c.all_into.new.into c.push-2.new.self c.all_into-2.new.into c.all_into-3.new.into c.extend_from_slice-2.new.self around
    (c.in_ok-extend_from_slice.ensures.ok ∙ ap (λ (l : List ℕ). l ++ c.deref.result.now) c.in_ok-derivation.ensures ∙ c.deref.ensures.value)
    c.in_ok-push.ensures.ok befores c.in_ok-push-2.ensures.ok inners behinds
    (c.in_ok-extend_from_slice-2.ensures.ok ∙ ap (λ (l : List ℕ). c.all_into-3.new.into ++ l) c.deref-2.ensures.value)
