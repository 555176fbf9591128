-- The right side is what stands before the place, the inner rule's left side, and what stands behind.
use Rattle.std.proofs.Common.{◌≡◌, ◌+◌, ◌-◌, List, ◌∷◌, ◌++◌, length, take, drop, sym, ap, ◌∙◌}
use Rattle.cs_grammar.specs.declared.symbol.Symbol.{Symbol}
use Rattle.cs_grammar.specs.declared.symbol.Symbol.TheVariants.{Nonterminal}
use Rattle.cs_least.proofs.OnEmbed.Lists.{rest_is}
use Rattle.cs_verdicts.proofs.OnPositive.ContextGoals.{placed_in}
use Rattle.cs_verdicts.proofs.positive.contexts.cut_at.Goals as goal

pub returns-clause-cut : goal.returns-clause-cut
returns-clause-cut c =
    let p = c.rule-outer_rule.result.now in
    let q = c.rule.result.now in
    let i = c.args.occurrence.place in
    let items = c.right-right.result.now in
    let at = placed_in c.args.grammar.now c.args.occurrence.outer i c.args.occurrence.inner p q c.requires c.rule-outer_rule.ensures.rule c.rule.ensures.rule in
    let before : take c.place_of.result items ≡ take (i - 1) p.right = ap (λ k. take k items) c.place_of.ensures ∙ ap (λ (l : List Symbol). take (i - 1) l) c.right-right.ensures in
    let behind : take (length items - i) (drop i items) ≡ drop i p.right = rest_is items i ∙ ap (λ (l : List Symbol). drop i l) c.right-right.ensures in
    record {
      is_outer = c.rule-outer_rule.ensures.rule;
      is_inner = c.rule.ensures.rule;
      right_side = at.0 ∙ ap (λ (l : List Symbol). l ++ Nonterminal q.left ∷ drop i p.right) (sym before)
          ∙ ap (λ (l : List Symbol). take c.place_of.result items ++ Nonterminal q.left ∷ l) (sym behind);
      place = ap (λ (l : List Symbol). length l + 1) before ∙ at.1;
    }
