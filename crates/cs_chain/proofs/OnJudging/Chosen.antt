-- The chosen tree of a chain meets it, is a least one of those that do, is the only one, and exists where any tree meets it.
use Rattle.std.proofs.Common.{◌≡◌, ℕ, ◌≤◌, refl, sym, ap, ◌∙◌, subst, arith}
use Rattle.cs_grammar.specs.declared.symbol.Symbol.TheVariants.{Nonterminal}
use Rattle.cs_grammar.specs.Grammar.{PlainGrammar}
use Rattle.cs_grammar.specs.Weights.{Measure}
use Rattle.cs_grammar.specs.Tree.{Tree, Forest, AreTrees, size}
use Rattle.cs_grammar.specs.Context.{Context, IsContext}
use Rattle.cs_least.specs.declared.cost.cost.Cost.TheVariants.{Least}
use Rattle.cs_least.specs.Cost.Least.{IsCost}
use Rattle.cs_least.specs.Cost.Chosen.{AreChosen}
use Rattle.cs_least.specs.Cost.Trees.{HaveSmall}
use Rattle.cs_least.specs.Embed.Around.{HasLeastContext}
use Rattle.cs_least.specs.Embed.ChosenContext.{IsChosenContext}
use Rattle.cs_least.proofs.OnCost.ChosenTrees.{chosen_forest, all_chosen, forest_least, AreTrees-chosen}
use Rattle.cs_least.proofs.OnEmbed.ChosenContexts.{chosen_context_exists, chosen_context_least, one_chosen_context, IsContext-chosen}
use Rattle.cs_chain.proofs.OnJudging.Cut.{least_context}
use Rattle.cs_chain.specs.declared.chains.chain.Chain.{Chain}
use Rattle.cs_chain.specs.Judging.Meets.{IsMet}
use Rattle.cs_chain.specs.Judging.Verdict.{ChainRules, ChainTrees, AreOf, whole_of, IsChosenOf}
use Rattle.cs_chain.proofs.OnJudging.Found.{trees_size, found_in_whole}
use Rattle.cs_chain.proofs.OnJudging.Placed.{whole_size, whole_met, moved, parted}

module _ (w : Measure) (g : PlainGrammar) (c : Chain) where
  -- chosen trees are trees
  trees_of : (rules : ChainRules g c) (ts : ChainTrees) → AreOf rules (IsChosenContext w g) (AreChosen w g) ts → AreOf rules (IsContext g) (AreTrees g) ts
  trees_of rules ts h = record {
    around = IsContext-chosen w g ts.context (Nonterminal rules.outer.left) h.around;
    left = AreTrees-chosen w g ts.left rules.before h.left;
    right = AreTrees-chosen w g ts.right rules.behind h.right;
    low_left = AreTrees-chosen w g ts.low_left rules.low_before h.low_left;
    low_right = AreTrees-chosen w g ts.low_right rules.low_behind h.low_right;
    children = AreTrees-chosen w g ts.children rules.inner.right h.children;
  }

  -- the chosen tree meets the chain
  pub chosen_met : (u : Tree) → IsChosenOf w g c u → IsMet g c u
  chosen_met u h = subst (IsMet g c) (sym h.whole) (whole_met w g c h.rules h.trees (trees_of h.rules h.trees h.chosen))

  -- is of least size
  pub chosen_least : (t u : Tree) → IsMet g c t → IsChosenOf w g c u → size w u ≤ size w t
  chosen_least t u h k =
      let v = parted w g c k.rules t h in
      let around = chosen_context_least w g (Nonterminal k.rules.outer.left) v.trees.context k.trees.context v.are.around k.chosen.around in
      let lefts = forest_least w g k.trees.left v.trees.left k.rules.before k.chosen.left v.are.left in
      let rights = forest_least w g k.trees.right v.trees.right k.rules.behind k.chosen.right v.are.right in
      let low_lefts = forest_least w g k.trees.low_left v.trees.low_left k.rules.low_before k.chosen.low_left v.are.low_left in
      let low_rights = forest_least w g k.trees.low_right v.trees.low_right k.rules.low_behind k.chosen.low_right v.are.low_right in
      let children = forest_least w g k.trees.children v.trees.children k.rules.inner.right k.chosen.children v.are.children in
      omega (arith, v.measure, around, lefts, rights, low_lefts, low_rights, children, ap (size w) k.whole, whole_size w c k.trees)

  -- and is the only one
  one_whole : (rules : ChainRules g c) (a b : ChainTrees) → AreOf rules (IsChosenContext w g) (AreChosen w g) a → AreOf rules (IsChosenContext w g) (AreChosen w g) b → whole_of c a ≡ whole_of c b
  one_whole rules a b h k =
      let contexts = one_chosen_context w g a.context b.context (Nonterminal rules.outer.left) h.around k.around in
      let lefts = all_chosen w g a.left b.left rules.before h.left k.left in
      let rights = all_chosen w g a.right b.right rules.behind h.right k.right in
      let low_lefts = all_chosen w g a.low_left b.low_left rules.low_before h.low_left k.low_left in
      let low_rights = all_chosen w g a.low_right b.low_right rules.low_behind h.low_right k.low_right in
      let children = all_chosen w g a.children b.children rules.inner.right h.children k.children in
      ap (λ (d : Context). whole_of c (record { context = d; left = a.left; right = a.right; low_left = a.low_left; low_right = a.low_right; children = a.children })) contexts
      ∙ ap (λ (f : Forest). whole_of c (record { context = b.context; left = f; right = a.right; low_left = a.low_left; low_right = a.low_right; children = a.children })) lefts
      ∙ ap (λ (f : Forest). whole_of c (record { context = b.context; left = b.left; right = f; low_left = a.low_left; low_right = a.low_right; children = a.children })) rights
      ∙ ap (λ (f : Forest). whole_of c (record { context = b.context; left = b.left; right = b.right; low_left = f; low_right = a.low_right; children = a.children })) low_lefts
      ∙ ap (λ (f : Forest). whole_of c (record { context = b.context; left = b.left; right = b.right; low_left = b.low_left; low_right = f; children = a.children })) low_rights
      ∙ ap (λ (f : Forest). whole_of c (record { context = b.context; left = b.left; right = b.right; low_left = b.low_left; low_right = b.low_right; children = f })) children

  pub one_chosen : (t u : Tree) → IsChosenOf w g c t → IsChosenOf w g c u → t ≡ u
  one_chosen t u h k =
      h.whole
      ∙ one_whole k.rules h.trees k.trees (moved w g c k.rules (IsChosenContext w g) (AreChosen w g) h.rules h.trees h.chosen) k.chosen
      ∙ sym k.whole

  -- a chain that some tree meets has a chosen tree
  pub chosen_exists : (t : Tree) → IsMet g c t → (u : Tree) × IsChosenOf w g c u
  chosen_exists t h =
      let v = found_in_whole w g c t h in
      let d = chosen_context_exists w g v.rules.outer.left v.trees.context v.are.around in
      let lefts = chosen_forest w g v.trees.left v.rules.before v.are.left in
      let rights = chosen_forest w g v.trees.right v.rules.behind v.are.right in
      let low_lefts = chosen_forest w g v.trees.low_left v.rules.low_before v.are.low_left in
      let low_rights = chosen_forest w g v.trees.low_right v.rules.low_behind v.are.low_right in
      let children = chosen_forest w g v.trees.children v.rules.inner.right v.are.children in
      let ts : ChainTrees = record {
        context = d.context;
        left = lefts.0;
        right = rights.0;
        low_left = low_lefts.0;
        low_right = low_rights.0;
        children = children.0;
      } in
      let are : AreOf v.rules (IsChosenContext w g) (AreChosen w g) ts = record {
        around = d.chosen;
        left = lefts.1;
        right = rights.1;
        low_left = low_lefts.1;
        low_right = low_rights.1;
        children = children.1;
      } in
      (whole_of c ts, record { rules = v.rules; trees = ts; chosen = are; whole = refl })

  -- where the chain is met within the limit, its parts are within it
  module _ (rules : ChainRules g c) where
    pub record Small : Type 0 where
      pub trees : ChainTrees
      pub are : AreOf rules (IsContext g) (AreTrees g) trees
      pub measure : trees_size w trees ≤ w.limit

    pub small : (n : ℕ) → IsCost w.limit (IsMet g c) (size w) (Least n) → Small
    small n found =
        let v = parted w g c rules found.1.reached.0 found.1.reached.1 in
        record { trees = v.trees; are = v.are; measure = omega (arith, v.measure, found.0, found.1.reached.2) }

    module _ (parts : Small) where
      pub outer_context : HasLeastContext w g rules.outer.left
      outer_context = least_context w g rules.outer.left parts.trees.context parts.are.around (omega (arith, parts.measure))

      pub small_left : HaveSmall w g rules.before
      small_left = (parts.trees.left, parts.are.left, omega (arith, parts.measure))

      pub small_right : HaveSmall w g rules.behind
      small_right = (parts.trees.right, parts.are.right, omega (arith, parts.measure))

      pub small_low_left : HaveSmall w g rules.low_before
      small_low_left = (parts.trees.low_left, parts.are.low_left, omega (arith, parts.measure))

      pub small_low_right : HaveSmall w g rules.low_behind
      small_low_right = (parts.trees.low_right, parts.are.low_right, omega (arith, parts.measure))

      pub small_children : HaveSmall w g rules.inner.right
      small_children = (parts.trees.children, parts.are.children, omega (arith, parts.measure))
