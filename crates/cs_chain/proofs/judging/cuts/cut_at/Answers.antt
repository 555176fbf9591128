-- The inner rule's left side stands at the place, and what is before and behind it is the rest of the right side.
use Rattle.std.proofs.Common.{◌≡◌, ◌+◌, ◌-◌, List, ◌∷◌, ◌++◌, length, take, drop, sym, ap, ◌∙◌, subst}
use Rattle.std.specs.Prelude.{All}
use Rattle.std.proofs.lemmas.List.Elements.{All-take, All-drop}
use Rattle.cs_grammar.specs.declared.symbol.Symbol.{Symbol}
use Rattle.cs_grammar.specs.declared.symbol.Symbol.TheVariants.{Nonterminal}
use Rattle.cs_grammar.specs.Grammar.{IsSymbolOf}
use Rattle.cs_least.proofs.OnEmbed.Lists.{rest_is}
use Rattle.cs_chain.proofs.OnJudging.Cut.{placed_in}
use Rattle.cs_chain.proofs.judging.cuts.cut_at.Goals as goal

pub returns-clause-cut : goal.returns-clause-cut
returns-clause-cut c =
    let p = c.rule-rule.result.now in
    let q = c.requires.inner in
    let i = c.args.place in
    let items = c.right-right.result.now in
    let at = placed_in c.args.grammar.now c.args.number i c.args.inner p q c.requires c.rule-rule.ensures.rule c.requires.is_inner in
    let before : take c.place_of.result items ≡ take (i - 1) p.right = ap (λ k. take k items) c.place_of.ensures ∙ ap (λ (l : List Symbol). take (i - 1) l) c.right-right.ensures in
    let behind : take (length items - i) (drop i items) ≡ drop i p.right = rest_is items i ∙ ap (λ (l : List Symbol). drop i l) c.right-right.ensures in
    record {
      inner = q;
      is_inner = c.requires.is_inner;
      split = record {
        number = c.rule-rule.ensures.rule;
        right_side = at.0 ∙ ap (λ (l : List Symbol). l ++ Nonterminal q.left ∷ drop i p.right) (sym before)
            ∙ ap (λ (l : List Symbol). take c.place_of.result items ++ Nonterminal q.left ∷ l) (sym behind);
        place = ap (λ (l : List Symbol). length l + 1) before ∙ at.1;
      };
    }

pub returns-clause-fits : goal.returns-clause-fits
returns-clause-fits c =
    let g = c.args.grammar.now in
    let items = c.right-right.result.now in
    let all = subst (λ (l : List Symbol). All (IsSymbolOf g) l) (sym c.right-right.ensures) c.rule-rule.ensures.fits.right in
    record {
      rule = c.rule-rule.ensures.fits;
      before = All-take (IsSymbolOf g) c.place_of.result items all;
      behind = All-take (IsSymbolOf g) (length items - c.args.place) (drop c.args.place items) (All-drop (IsSymbolOf g) c.args.place items all);
    }
