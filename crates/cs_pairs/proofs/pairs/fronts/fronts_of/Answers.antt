-- The front of the next place is that of this one with a tree of the symbol between them.
use Rattle.std.proofs.Common.{◌+◌, ◌-◌, ◌<◌, List, length, get_or, take, refl, ap, sym, ◌∙◌, subst}
use Rattle.cs_grammar.specs.declared.symbol.Symbol.{Symbol}
use Rattle.cs_grammar.specs.declared.symbol.Symbol.TheVariants.{Token}
use Rattle.cs_grammar.specs.Grammar.{IsGrammar, IsSymbol, IsSymbolOf}
use Rattle.cs_grammar.specs.Weights.{Weighed}
use Rattle.cs_grammar.specs.Context.{context_size}
use Rattle.cs_least.specs.declared.cost.cost.Cost.{Cost}
use Rattle.cs_least.specs.Cost.Least.{IsCost}
use Rattle.cs_least.specs.Cost.Rank.{plus, cost_of}
use Rattle.cs_least.specs.Cost.Trees.{IsTreeCost}
use Rattle.cs_least.specs.Embed.Around.{IsContextOf}
use Rattle.cs_pairs.specs.Kinds.Filled.{IsFilled}
use Rattle.cs_pairs.proofs.OnKinds.Filling.{filled_none}
use Rattle.cs_pairs.specs.Pairs.Fronts.{AreFront, front_size}
use Rattle.cs_pairs.proofs.OnPairs.Fronting.{some_rule, front_first, front_taken, fronts_more}
use Rattle.cs_pairs.proofs.pairs.fronts.fronts_of.Goals as goal

pub loop-symbol-init : goal.loop-symbol-init
loop-symbol-init c =
    let w = c.args.embeds.now.weights in
    let g = c.args.embeds.now.grammar in
    let p = c.args.rule.now in
    let embed = subst (λ n. IsCost w.limit (IsContextOf g n) (context_size w) c.embed.result) c.left.ensures c.embed.ensures in
    let is = c.plus-front.ensures.cost ∙ ap (λ (x : Cost). plus c.costs-costs.result.now.weights.limit x c.embed.result) c.node.ensures.cost
    ∙ ap (λ (v : Weighed). plus v.weights.limit (cost_of v.weights.limit 1) c.embed.result) c.costs-costs.ensures in
    record {
      so_far = rw c.new-fronts.ensures.items (filled_none w.limit (λ n. AreFront g p.left (take (n - 1) p.right)) (front_size w));
      is_front = subst (IsCost w.limit (AreFront g p.left (take 0 p.right)) (front_size w)) (sym is) (front_first w g p.left _ embed);
    }

pub cost-requires : goal.cost-requires
cost-requires c =
    let g = c.args.embeds.now.grammar in
    let grammar = subst IsGrammar c.grammar.ensures c.rules-rules.ensures.well_formed in
    let i = c.loop-symbol.symbol-index in
    let rule = some_rule c.args.embeds.now.weights g c.args.rule.now grammar c.requires in
    let within = subst (λ (l : List Symbol). i < length l) c.right-symbol-items.ensures c.loop-symbol-test.true in
    let of_grammar = subst (λ (l : List Symbol). IsSymbol g.tokens g.nonterminals (get_or l i (Token 0))) (sym c.right-symbol-items.ensures) (rule.right i (Token 0) within) in
    subst (λ (v : Weighed). IsSymbolOf v.grammar (get_or c.right-symbol-items.result.now i (Token 0))) (sym c.costs-costs.ensures) of_grammar

pub loop-symbol-preserved : goal.loop-symbol-preserved
loop-symbol-preserved c =
    let w = c.args.embeds.now.weights in
    let g = c.args.embeds.now.grammar in
    let p = c.args.rule.now in
    let i = c.loop-symbol.symbol-index in
    let cost = subst (λ (v : Weighed). IsTreeCost v (get_or c.right-symbol-items.result.now i (Token 0)) c.cost.result) c.costs-costs.ensures c.cost.ensures in
    let is = c.plus-front-in-loop-symbol.ensures.cost ∙ ap (λ (v : Weighed). plus v.weights.limit c.loop-symbol.front c.cost.result) c.costs-costs.ensures in
    record {
      so_far = subst (IsFilled w.limit (λ n. AreFront g p.left (take (n - 1) p.right)) (front_size w) (i + 1)) (sym c.in_ok-push.ensures.items)
          (fronts_more w g p i _ _ c.loop-symbol.invariant.so_far c.loop-symbol.invariant.is_front);
      is_front = front_taken w g p.left p.right _ i _ (Token 0) _ _ _ c.right-symbol-items.ensures c.loop-symbol-test.true refl c.loop-symbol.invariant.is_front cost is;
    }
