-- Place by place from the last, a source is made where the second token can follow, and none where it can't.
use Rattle.std.proofs.Common.{◌≡◌, ◌+◌, ◌-◌, ◌<◌, List, [], ◌∷◌, length, get_or, drop, reverse, refl, sym, ap, ◌∙◌, subst, arith}
use Rattle.std.specs.Prelude.{All}
use Rattle.std.proofs.lemmas.List.{at_drop_all}
use Rattle.std.proofs.lemmas.List.Elements.{All-get_or}
use Rattle.std.proofs.lemmas.Option.{slice_get-get_or}
use Rattle.cs_grammar.specs.declared.symbol.Symbol.{Symbol}
use Rattle.cs_grammar.specs.declared.symbol.Symbol.TheVariants.{Token}
use Rattle.cs_grammar.specs.Grammar.{PlainGrammar, IsRule, IsSymbolOf}
use Rattle.cs_grammar.specs.Weights.{Measure}
use Rattle.cs_grammar.specs.Tree.{sizes}
use Rattle.cs_least.specs.declared.cost.cost.Cost.TheVariants.{Never}
use Rattle.cs_least.specs.Cost.Least.{IsCost}
use Rattle.cs_least.proofs.OnCost.Ranks.{cost_capped}
use Rattle.cs_pairs.specs.declared.kinds.kind.TreeKind.TheVariants.{Begins}
use Rattle.cs_pairs.specs.Kinds.Kinds.{AreTreesOfKind}
use Rattle.cs_pairs.specs.Kinds.Numbers.{symbol_number}
use Rattle.cs_pairs.specs.Kinds.RimsOf.{IsStepCost}
use Rattle.cs_pairs.proofs.OnKinds.Filling.{IsCapped-filled}
use Rattle.cs_pairs.proofs.OnKinds.Numbers.{wide}
use Rattle.cs_pairs.proofs.OnKinds.Placing.{left_from}
use Rattle.cs_pairs.specs.declared.pairs.sources.Sources.{Sources}
use Rattle.cs_pairs.specs.Pairs.Sources.{AreSourcesFrom}
use Rattle.cs_pairs.proofs.OnPairs.Fronting.{front_at, swept_at}
use Rattle.cs_pairs.proofs.OnPairs.SourceLists.{sources_rule, source_passed, source_made}
use Rattle.cs_pairs.proofs.pairs.sources.push_sources.Goals as goal
use Rattle.cs_pairs.proofs.pairs.sources.push_sources.Goals.{in-Some+in_ok-push+in_ok-push-2, in_default}

pub loop-place-init : goal.loop-place-init
loop-place-init c =
    let w = c.args.kinds.now.weights in
    let g = c.args.kinds.now.grammar in
    let p = c.rule-rule.result.now in
    let items = c.right-right.result.now in
    let rule = subst (λ (m : PlainGrammar). IsRule m c.args.number p) c.grammar-grammar.ensures c.rule-rule.ensures.rule in
    let even = ap (λ (l : List Symbol). length l) c.right-right.ensures in
    let none = at_drop_all (λ (l : List Symbol). l) items (length items) (omega arith) in
    record {
      sources = sources_rule w g c.args.token c.args.number (length items) p _ _ rule (omega (arith, even)) (omega (arith, even, c.rule-rule.ensures.fits.short)) c.requires.sources;
      is_kind = c.new-sweep.ensures.kind;
      whole = subst (λ (l : List Symbol). IsCost w.limit (AreTreesOfKind g (Begins c.args.token) l) (sizes w) c.new-sweep.result.whole) (sym none)
          (subst (λ k. IsCost w.limit (AreTreesOfKind g k []) (sizes w) c.new-sweep.result.whole) c.new-sweep.ensures.kind (c.new-sweep.ensures.swept w g).is_whole);
      within = omega arith;
    }

pub bounds-behinds-place : goal.bounds-behinds-place
bounds-behinds-place c =
    let p = c.rule-rule.result.now in
    let rule = subst (λ (m : PlainGrammar). IsRule m c.args.number p) c.grammar-grammar.ensures c.rule-rule.ensures.rule in
    omega (arith, c.loop-place-test.true, c.loop-place.invariant.within, (c.requires.behinds p rule).many, ap (λ (l : List Symbol). length l) c.right-right.ensures)

pub bounds-fronts-place : goal.bounds-fronts-place
bounds-fronts-place c =
    let p = c.rule-rule.result.now in
    let rule = subst (λ (m : PlainGrammar). IsRule m c.args.number p) c.grammar-grammar.ensures c.rule-rule.ensures.rule in
    omega (arith, c.loop-place-test.true, c.loop-place.invariant.within, (c.requires.fronts p rule).many, ap (λ (l : List Symbol). length l) c.right-right.ensures)

pub plus-cost-requires-clause-a : goal.plus-cost-requires-clause-a
plus-cost-requires-clause-a c =
    let p = c.rule-rule.result.now in
    let rule = subst (λ (m : PlainGrammar). IsRule m c.args.number p) c.grammar-grammar.ensures c.rule-rule.ensures.rule in
    let are = c.requires.fronts p rule in
    IsCapped-filled c.args.kinds.now.weights.limit _ _ _ c.args.fronts.now are (c.loop-place.place - 1) Never (omega (arith, c.loop-place-test.true, c.loop-place.invariant.within, are.many, ap (λ (l : List Symbol). length l) c.right-right.ensures))

pub plus-cost-requires-clause-b : goal.plus-cost-requires-clause-b
plus-cost-requires-clause-b c = cost_capped _ _ _ _ c.loop-place.invariant.whole

pub symbol_number-node-requires-clause-tokens : goal.symbol_number-node-requires-clause-tokens
symbol_number-node-requires-clause-tokens c = omega (arith, c.tokens.ensures, c.rules-rules.ensures.well_formed.tokens)

pub symbol_number-node-requires-clause-symbol : goal.symbol_number-node-requires-clause-symbol
symbol_number-node-requires-clause-symbol c =
    let g = c.grammar-grammar.result.now in
    let items = c.right-right.result.now in
    let each = subst (λ (l : List Symbol). All (IsSymbolOf g) l) (sym c.right-right.ensures) c.rule-rule.ensures.fits.right in
    wide g _ c.rules-rules.ensures.well_formed (All-get_or (IsSymbolOf g) items (c.loop-place.place - 1) (Token 0) (omega (arith, c.loop-place-test.true, c.loop-place.invariant.within)) each)

pub over-sweep-requires-clause-swept : goal.over-sweep-requires-clause-swept
over-sweep-requires-clause-swept c =
    let w = c.args.kinds.now.weights in
    let g = c.args.kinds.now.grammar in
    let p = c.rule-rule.result.now in
    let items = c.right-right.result.now in
    let so_far = c.loop-place.invariant in
    let rule = subst (λ (m : PlainGrammar). IsRule m c.args.number p) c.grammar-grammar.ensures c.rule-rule.ensures.rule in (
      drop c.loop-place.place items,
      swept_at w g p c.args.token (c.loop-place.place - 1) c.loop-place.place items c.args.behinds.now _ (c.requires.behinds p rule) c.right-right.ensures (omega (arith, c.loop-place-test.true)) (omega (arith, c.loop-place-test.true, so_far.within)) so_far.is_kind so_far.whole refl,
    )

pub over-sweep-requires-clause-symbol : goal.over-sweep-requires-clause-symbol
over-sweep-requires-clause-symbol c =
    let g = c.grammar-grammar.result.now in
    let items = c.right-right.result.now in
    let each = subst (λ (l : List Symbol). All (IsSymbolOf g) l) (sym c.right-right.ensures) c.rule-rule.ensures.fits.right in
    subst (λ (m : PlainGrammar). IsSymbolOf m (get_or items (c.loop-place.place - 1) (Token 0))) c.grammar-grammar.ensures (All-get_or (IsSymbolOf g) items (c.loop-place.place - 1) (Token 0) (omega (arith, c.loop-place-test.true, c.loop-place.invariant.within)) each)

pub loop-place-preserved : goal.loop-place-preserved
loop-place-preserved c =
    let w = c.args.kinds.now.weights in
    let g = c.args.kinds.now.grammar in
    let b = c.args.token in
    let q = c.args.number in
    let j = c.loop-place.place - 1 in
    let p = c.rule-rule.result.now in
    let items = c.right-right.result.now in
    let x = get_or items j (Token 0) in
    let so_far = c.loop-place.invariant in
    let rule = subst (λ (m : PlainGrammar). IsRule m q p) c.grammar-grammar.ensures c.rule-rule.ensures.rule in
    let next : j + 1 ≡ c.loop-place.place = omega (arith, c.loop-place-test.true) in
    let within : j < length items = omega (arith, c.loop-place-test.true, so_far.within) in
    let here = slice_get-get_or items j (Token 0) within in
    let within' : j < length p.right = subst (λ (l : List Symbol). j < length l) c.right-right.ensures within in
    let front = front_at w g p c.args.fronts.now (c.requires.fronts p rule) j within' (get_or c.args.fronts.now j Never) Never refl in
    let whole = subst (λ k. IsCost w.limit (AreTreesOfKind g (Begins b) (drop k p.right)) (sizes w) c.loop-place.sweep.whole) (sym next) (subst (λ (l : List Symbol). IsCost w.limit (AreTreesOfKind g (Begins b) (drop c.loop-place.place l)) (sizes w) c.loop-place.sweep.whole) c.right-right.ensures so_far.whole) in
    let before = subst (λ k. AreSourcesFrom w g b q k (reverse c.loop-place.sources.places.items) (reverse c.loop-place.sources.list.items)) (sym next) so_far.sources in
    let is_kind = c.over-sweep.ensures.kind ∙ so_far.is_kind in
    let swept = c.over-sweep.ensures.swept (drop c.loop-place.place items)
    (swept_at w g p b j c.loop-place.place items c.args.behinds.now _ (c.requires.behinds p rule) c.right-right.ensures next within so_far.is_kind so_far.whole refl) in
    let on = subst (λ (l : List Symbol). IsCost w.limit (AreTreesOfKind g (Begins b) l) (sizes w) c.over-sweep.result.whole) (left_from items _ _ (Token 0) next within)
    (subst (λ k. IsCost w.limit (AreTreesOfKind g k (x ∷ drop c.loop-place.place items)) (sizes w) c.over-sweep.result.whole) is_kind swept.is_whole) in
    let step = subst (λ (m : Measure). IsStepCost m.limit c.plus-cost.result c.step_cost.result) c.weights.ensures.weights c.step_cost.ensures in
    elim c.match-step_cost.branch [
      | in-Some+in_ok-push+in_ok-push-2 s ↦
          let tokens = s.tokens.ensures ∙ ap (λ (m : PlainGrammar). m.tokens) c.grammar-grammar.ensures in
          record {
            sources = subst (λ (r : Sources). AreSourcesFrom w g b q j (reverse r.places.items) (reverse r.list.items)) (sym s.sources-is)
                (source_made w g b q j p rule items c.right-right.ensures x here _ _ c.plus-cost.result front whole c.plus-cost.ensures _ _ before
                _ _ _ _ s.in_ok-push.ensures.items s.in_ok-push-2.ensures.items refl refl
                (s.symbol_number-node.ensures ∙ ap (λ n. symbol_number n x) tokens)
                (subst (IsStepCost w.limit c.plus-cost.result) s.in-Some.is step));
            is_kind = is_kind;
            whole = on;
            within = omega (arith, within);
          }
      | in_default s ↦
          record {
            sources = subst (λ (r : Sources). AreSourcesFrom w g b q j (reverse r.places.items) (reverse r.list.items)) (sym s.sources-is)
                (source_passed w g b q j p rule items c.right-right.ensures x here _ _ c.plus-cost.result front whole c.plus-cost.ensures c.loop-place.sources.places.items c.loop-place.sources.list.items before
                (subst (IsStepCost w.limit c.plus-cost.result) s.in_default.is step));
            is_kind = is_kind;
            whole = on;
            within = omega (arith, within);
          }
    ]

pub returns : goal.returns
returns c =
    let w = c.args.kinds.now.weights in
    let start : c.loop-place.place ≡ 0 = omega (arith, c.loop-place-test.false) in
    subst (λ i. AreSourcesFrom w c.args.kinds.now.grammar c.args.token c.args.number i (reverse c.loop-place.sources.places.items) (reverse c.loop-place.sources.list.items)) start c.loop-place.invariant.sources
