-- The chosen context and the chosen trees are within the limit, and their rules lead to the tokens.
use Rattle.std.proofs.Common.{◌≡◌, List, [], ℕ, ap, sym, ◌++◌, ◌∙◌, subst}
use Rattle.std.specs.Prelude.{All}
use Rattle.cs_grammar.specs.Grammar.{IsNumberOf, PlainGrammar}
use Rattle.cs_grammar.specs.Weights.{IsMeasure, Weighed}
use Rattle.cs_least.specs.Cost.Chosen.{AppendsAllChosen}
use Rattle.cs_least.specs.Cost.Trees.{HaveSmall}
use Rattle.cs_least.specs.Embed.Around.{IsAround}
use Rattle.cs_wrong.proofs.OnSlips.Placing.{are_placed, can_fill, few_placed, least_context, small_trees}
use Rattle.cs_wrong.specs.Slips.Found.{ArePlacedTokens, CanFill, Fills}
use Rattle.cs_wrong.proofs.slips.lists.tokens_of.Goals as goal
use Rattle.cs_wrong.proofs.slips.lists.tokens_of.Goals.{In_ok-extend_from_slice}

pub around-requires-clause-least : goal.around-requires-clause-least
around-requires-clause-least c = least_context c.args.embeds.now c.args.left c.args.symbols.now c.requires.least

pub all_into-requires-clause-small : goal.all_into-requires-clause-small
all_into-requires-clause-small c =
    subst (λ (v : Weighed). HaveSmall v.weights v.grammar c.args.symbols.now) (sym c.costs-costs.ensures) (small_trees c.args.embeds.now c.args.left c.args.symbols.now c.requires.least)

around_is : (c : In_ok-extend_from_slice) → IsAround c.args.embeds.now.weights c.args.embeds.now.grammar c.args.left c.in_ok-around.around.before.items c.in_ok-around.around.after.items
around_is c = c.in_ok-around.ensures.chosen

put_is : (c : In_ok-extend_from_slice) → AppendsAllChosen c.args.embeds.now.weights c.args.embeds.now.grammar c.args.symbols.now [] c.all_into.new.into
put_is c =
    subst (λ (v : Weighed). AppendsAllChosen v.weights v.grammar c.args.symbols.now [] c.all_into.new.into) c.costs-costs.ensures
    (subst (λ (l : List ℕ). AppendsAllChosen c.costs-costs.result.now.weights c.costs-costs.result.now.grammar c.args.symbols.now l c.all_into.new.into) c.in_ok-behind.ensures c.in_ok-all_into.ensures.ok)

behind_is : (c : In_ok-extend_from_slice) → c.extend_from_slice.new.self ≡ c.all_into.new.into ++ c.in_ok-around.around.after.items
behind_is c = c.in_ok-extend_from_slice.ensures.ok ∙ ap (λ (l : List ℕ). c.all_into.new.into ++ l) c.deref.ensures.value

placed : (c : In_ok-extend_from_slice) (tokens : List ℕ) → Fills c.args.embeds.now.grammar c.in_ok-around.around.before.items c.args.symbols.now c.extend_from_slice.new.self tokens → ArePlacedTokens c.args.embeds.now c.args.left c.args.symbols.now tokens
placed c tokens filled =
    are_placed c.args.embeds.now c.args.left c.args.symbols.now c.in_ok-around.around.before.items c.in_ok-around.around.after.items c.all_into.new.into c.extend_from_slice.new.self (around_is c) (put_is c) (behind_is c) c.requires.least tokens filled

pub tokens_by-requires-clause-fill : goal.tokens_by-requires-clause-fill
tokens_by-requires-clause-fill c =
    let at = (goal.at.tokens_by-requires-clause-fill c).In_ok-extend_from_slice in
    let can = can_fill c.args.embeds.now c.args.left c.args.symbols.now c.in_ok-around.around.before.items c.in_ok-around.around.after.items c.all_into.new.into c.extend_from_slice.new.self (around_is at) (put_is at) (behind_is at) in
    subst (λ (h : PlainGrammar). CanFill h c.deref-2.result.now c.args.symbols.now c.rules.result.now) (sym c.grammar.ensures)
    (subst (λ (l : List ℕ). CanFill c.args.embeds.now.grammar l c.args.symbols.now c.rules.result.now) (sym c.deref-2.ensures.value)
    (subst (λ (l : List ℕ). CanFill c.args.embeds.now.grammar c.in_ok-around.around.before.items c.args.symbols.now l) (sym c.rules.ensures) can))

pub returns-clause-placed : goal.returns-clause-placed
returns-clause-placed c =
    let at = (goal.at.returns-clause-placed c).In_ok-extend_from_slice in
    let tokens = c.in_ok-tokens.tokens.items in
    placed at tokens
    (subst (λ (l : List ℕ). Fills c.args.embeds.now.grammar c.in_ok-around.around.before.items c.args.symbols.now l tokens) c.rules.ensures
    (subst (λ (l : List ℕ). Fills c.args.embeds.now.grammar l c.args.symbols.now c.rules.result.now tokens) c.deref-2.ensures.value
    (subst (λ (h : PlainGrammar). Fills h c.deref-2.result.now c.args.symbols.now c.rules.result.now tokens) c.grammar.ensures c.in_ok-tokens.ensures.filled)))

pub returns-clause-tokens : goal.returns-clause-tokens
returns-clause-tokens c = subst (λ (h : PlainGrammar). All (IsNumberOf h.tokens) c.in_ok-tokens.tokens.items) c.grammar.ensures c.in_ok-tokens.ensures.tokens

pub returns-clause-few : goal.returns-clause-few
returns-clause-few c =
    let at = (goal.at.returns-clause-few c).In_ok-extend_from_slice in
    let tokens = c.in_ok-tokens.tokens.items in
    let measure = subst (λ (v : Weighed). IsMeasure v.weights) c.costs-costs.ensures c.weights-weighs.ensures.weighs.weights in
    few_placed c.args.embeds.now measure 0 c.args.left c.args.symbols.now tokens
    (placed at tokens
    (subst (λ (l : List ℕ). Fills c.args.embeds.now.grammar c.in_ok-around.around.before.items c.args.symbols.now l tokens) c.rules.ensures
    (subst (λ (l : List ℕ). Fills c.args.embeds.now.grammar l c.args.symbols.now c.rules.result.now tokens) c.deref-2.ensures.value
    (subst (λ (h : PlainGrammar). Fills h c.deref-2.result.now c.args.symbols.now c.rules.result.now tokens) c.grammar.ensures c.in_ok-tokens.ensures.filled))) 0)
