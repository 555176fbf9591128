-- What is appended, from the front of the context to its end, is the code of the chosen tree, part by part.
use Rattle.std.proofs.Common.{◌+◌, ◌<◌, ◌++◌, List, [], ◌∷◌, ℕ, length, get_or, take, drop, sym, ap, subst, ◌∙◌}
use Rattle.std.specs.Prelude.{All}
use Rattle.std.proofs.lemmas.List.Elements.{All-nil, All-cons, All-take, All-drop}
use Rattle.cs_grammar.specs.declared.symbol.Symbol.{Symbol}
use Rattle.cs_grammar.specs.declared.symbol.Symbol.TheVariants.{Token}
use Rattle.cs_grammar.specs.Grammar.{PlainGrammar, IsRule, IsSymbol, IsSymbolOf}
use Rattle.cs_grammar.proofs.Measures.{rule_number}
use Rattle.cs_grammar.specs.Weights.{Weighed}
use Rattle.cs_least.specs.Cost.Chosen.{AppendsAllChosen}
use Rattle.cs_least.specs.Cost.Trees.{HaveSmall}
use Rattle.cs_least.specs.Embed.Around.{HasLeastContext, IsAround}
use Rattle.cs_least.specs.Embed.Contexts.{AreContextsOf, IsAroundIn}
use Rattle.cs_pairs.specs.declared.kinds.kind.TreeKind.TheVariants.{Begins, Ends}
use Rattle.cs_pairs.specs.Kinds.ChosenKind.{AppendsOfKind}
use Rattle.cs_pairs.specs.Kinds.Parts.{HaveSmallOfKind}
use Rattle.cs_pairs.proofs.OnPairs.Laying.{Laid, laid, laid_context, laid_lefts, laid_last, laid_rights, laid_code}
use Rattle.cs_pairs.proofs.pairs.derive.seam_code.Goals as goal
use Rattle.cs_pairs.proofs.pairs.derive.seam_code.Goals.{After-right}

pub rule-rule-requires : goal.rule-rule-requires
rule-rule-requires c =
    let m = c.requires.meeting in
    rule_number c.args.kinds.now.grammar c.grammar.result.now c.args.at.rule m.chosen.rule c.grammar.ensures (subst (λ n. IsRule c.args.kinds.now.grammar n m.chosen.rule) m.at_rule m.chosen.is_rule)

-- the parts of the chosen tree by the symbols of the rule
parts : (c : After-right) → Laid c.args.kinds.now.weights c.args.kinds.now.grammar c.args.tokens.first c.args.tokens.second c.args.at.rule c.args.at.place c.rule-rule.result.now (get_or c.rule-rule.result.now.right c.args.at.place (Token 0))
parts c =
    laid c.args.kinds.now.weights c.args.kinds.now.grammar c.args.tokens.first c.args.tokens.second c.args.at.rule c.args.at.place c.rule-rule.result.now (Token 0)
    (subst (λ (s : PlainGrammar). IsRule s c.args.at.rule c.rule-rule.result.now) c.grammar.ensures c.rule-rule.ensures.rule)
    c.requires.meeting

symbols : (c : After-right) → All (IsSymbolOf c.args.kinds.now.grammar) c.rule-rule.result.now.right
symbols c = subst (λ (s : PlainGrammar). All (IsSymbolOf s) c.rule-rule.result.now.right) c.grammar.ensures c.rule-rule.ensures.fits.right

pub split_at-parts-requires : goal.split_at-parts-requires
split_at-parts-requires c = subst (λ (l : List Symbol). c.args.at.place < length l) (sym c.right.ensures) (parts (goal.at.split_at-parts-requires c).After-right).within

pub take-requires-clause-contexts : goal.take-requires-clause-contexts
take-requires-clause-contexts c = subst (λ (v : Weighed). AreContextsOf v c.args.kept.now.contexts) (sym c.embeds.ensures) c.requires.contexts

pub take-requires-clause-least : goal.take-requires-clause-least
take-requires-clause-least c =
    let least = laid_context c.args.kinds.now.weights c.args.kinds.now.grammar c.args.tokens.first c.args.tokens.second c.args.at.rule c.args.at.place c.rule-rule.result.now _ (parts (goal.at.take-requires-clause-least c).After-right) in
    subst (λ (v : Weighed). HasLeastContext v.weights v.grammar c.left.result) (sym c.embeds.ensures) (subst (HasLeastContext c.args.kinds.now.weights c.args.kinds.now.grammar) (sym c.left.ensures) least)

pub all_into-requires-clause-symbols : goal.all_into-requires-clause-symbols
all_into-requires-clause-symbols c =
    let is = c.split_at-parts.ensures.before ∙ ap (λ (l : List Symbol). take c.args.at.place l) c.right.ensures in
    subst (λ (v : Weighed). All (IsSymbolOf v.grammar) c.split_at-parts.result.before.now) (sym c.costs.ensures)
    (subst (λ (l : List Symbol). All (IsSymbol c.args.kinds.now.grammar.tokens c.args.kinds.now.grammar.nonterminals) l) (sym is)
    (All-take (IsSymbol c.args.kinds.now.grammar.tokens c.args.kinds.now.grammar.nonterminals) c.args.at.place c.rule-rule.result.now.right (symbols (goal.at.all_into-requires-clause-symbols c).After-right)))

pub all_into-requires-clause-small : goal.all_into-requires-clause-small
all_into-requires-clause-small c =
    let is = c.split_at-parts.ensures.before ∙ ap (λ (l : List Symbol). take c.args.at.place l) c.right.ensures in
    let small = laid_lefts c.args.kinds.now.weights c.args.kinds.now.grammar c.args.tokens.first c.args.tokens.second c.args.at.rule c.args.at.place c.rule-rule.result.now _ (parts (goal.at.all_into-requires-clause-small c).After-right) in
    subst (λ (v : Weighed). HaveSmall v.weights v.grammar c.split_at-parts.result.before.now) (sym c.costs.ensures) (subst (HaveSmall c.args.kinds.now.weights c.args.kinds.now.grammar) (sym is) small)

pub kind_onto-requires-clause-symbols : goal.kind_onto-requires-clause-symbols
kind_onto-requires-clause-symbols c =
    let g = c.args.kinds.now.grammar in
    let is = c.split_at-parts.ensures.symbol (Token 0) ∙ ap (λ (l : List Symbol). get_or l c.args.at.place (Token 0)) c.right.ensures in
    let within = (parts (goal.at.kind_onto-requires-clause-symbols c).After-right).within in
    let here = symbols (goal.at.kind_onto-requires-clause-symbols c).After-right c.args.at.place (Token 0) within in
    All-cons (IsSymbol g.tokens g.nonterminals) c.split_at-parts.result.symbol [] (subst (IsSymbol g.tokens g.nonterminals) (sym is) here) (All-nil (IsSymbol g.tokens g.nonterminals))

pub kind_onto-requires-clause-small : goal.kind_onto-requires-clause-small
kind_onto-requires-clause-small c =
    let g = c.args.kinds.now.grammar in
    let is = c.split_at-parts.ensures.symbol (Token 0) ∙ ap (λ (l : List Symbol). get_or l c.args.at.place (Token 0)) c.right.ensures in
    let small = laid_last c.args.kinds.now.weights g c.args.tokens.first c.args.tokens.second c.args.at.rule c.args.at.place c.rule-rule.result.now _ (parts (goal.at.kind_onto-requires-clause-small c).After-right) in
    subst (λ x. HaveSmallOfKind c.args.kinds.now.weights g (Ends c.args.tokens.first) (x ∷ [])) (sym is) small

pub kind_onto-requires-2-clause-symbols : goal.kind_onto-requires-2-clause-symbols
kind_onto-requires-2-clause-symbols c =
    let g = c.args.kinds.now.grammar in
    let is = c.split_at-parts.ensures.behind ∙ ap (λ (l : List Symbol). drop (c.args.at.place + 1) l) c.right.ensures in
    subst (λ (l : List Symbol). All (IsSymbol g.tokens g.nonterminals) l) (sym is)
    (All-drop (IsSymbol g.tokens g.nonterminals) (c.args.at.place + 1) c.rule-rule.result.now.right (symbols (goal.at.kind_onto-requires-2-clause-symbols c).After-right))

pub kind_onto-requires-2-clause-small : goal.kind_onto-requires-2-clause-small
kind_onto-requires-2-clause-small c =
    let g = c.args.kinds.now.grammar in
    let is = c.split_at-parts.ensures.behind ∙ ap (λ (l : List Symbol). drop (c.args.at.place + 1) l) c.right.ensures in
    let small = laid_rights c.args.kinds.now.weights g c.args.tokens.first c.args.tokens.second c.args.at.rule c.args.at.place c.rule-rule.result.now _ (parts (goal.at.kind_onto-requires-2-clause-small c).After-right) in
    subst (HaveSmallOfKind c.args.kinds.now.weights g (Begins c.args.tokens.second)) (sym is) small

pub returns-clause-contexts : goal.returns-clause-contexts
returns-clause-contexts c =
    let chosen = subst (λ (v : Weighed). IsAroundIn v c.in_ok-around.around) c.embeds.ensures c.in_ok-around.ensures.chosen in
    let others = subst (λ (v : Weighed). AreContextsOf v c.take.new.self) c.embeds.ensures c.take.ensures.contexts in
    c.keep.ensures c.args.kinds.now chosen others

pub returns-clause-code : goal.returns-clause-code
returns-clause-code c =
    let g = c.args.kinds.now.grammar in
    let before = c.split_at-parts.ensures.before ∙ ap (λ (l : List Symbol). take c.args.at.place l) c.right.ensures in
    let symbol = c.split_at-parts.ensures.symbol (Token 0) ∙ ap (λ (l : List Symbol). get_or l c.args.at.place (Token 0)) c.right.ensures in
    let behind = c.split_at-parts.ensures.behind ∙ ap (λ (l : List Symbol). drop (c.args.at.place + 1) l) c.right.ensures in
    let context = c.in_ok-around.around.context in
    let around = subst (λ n. IsAround c.args.kinds.now.weights g n context.before.items context.after.items) (c.in_ok-around.ensures.nonterminal ∙ c.left.ensures)
    (subst (λ (v : Weighed). IsAround v.weights v.grammar c.in_ok-around.around.nonterminal context.before.items context.after.items) c.embeds.ensures c.in_ok-around.ensures.chosen) in
    let lefts = subst (λ (l : List Symbol). AppendsAllChosen c.args.kinds.now.weights g l c.push.new.self c.all_into.new.into) before
    (subst (λ (v : Weighed). AppendsAllChosen v.weights v.grammar c.split_at-parts.result.before.now c.push.new.self c.all_into.new.into) c.costs.ensures c.in_ok-all_into.ensures.ok) in
    let last = subst (λ x. AppendsOfKind c.args.kinds.now.weights g (Ends c.args.tokens.first) (x ∷ []) c.all_into.new.into c.kind_onto.new.into) symbol c.in_ok-kind_onto.ensures.ok in
    let rights = subst (λ (l : List Symbol). AppendsOfKind c.args.kinds.now.weights g (Begins c.args.tokens.second) l c.kind_onto.new.into c.kind_onto-2.new.into) behind c.in_ok-kind_onto-2.ensures.ok in
    laid_code c.args.kinds.now.weights g c.args.tokens.first c.args.tokens.second c.args.at.rule c.args.at.place c.rule-rule.result.now _ (parts (goal.at.returns-clause-code c).After-right)
    context.before.items context.after.items c.in_ok-derivation.derivation c.extend_from_slice.new.self c.push.new.self c.all_into.new.into c.kind_onto.new.into c.kind_onto-2.new.into c.extend_from_slice-2.new.self
    around c.in_ok-derivation.ensures
    (c.in_ok-extend_from_slice.ensures.ok ∙ ap (λ (l : List ℕ). c.in_ok-derivation.derivation ++ l) c.deref.ensures.value)
    c.in_ok-push.ensures.ok lefts last rights
    (c.in_ok-extend_from_slice-2.ensures.ok ∙ ap (λ (l : List ℕ). c.kind_onto-2.new.into ++ l) c.deref-2.ensures.value)
