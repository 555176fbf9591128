-- The trees of the start symbol that meet a rule goal.
use Rattle.std.proofs.Common.{◌≡◌, ℕ, ◌+◌, ◌≤◌, List, [], ◌∷◌, ◌++◌, refl, sym, ap, ◌∙◌, subst, inl, arith, append_assoc}
use Rattle.cs_grammar.specs.declared.symbol.Symbol.TheVariants.{Nonterminal}
use Rattle.cs_grammar.specs.Grammar.{Production, PlainGrammar, IsRule}
use Rattle.cs_grammar.specs.Weights.{Measure}
use Rattle.cs_grammar.specs.Tree.{Tree, Node, Forest, IsTree, AreTrees, size, sizes, code, codes_of}
use Rattle.cs_grammar.specs.Context.{Context as TreeContext, context_size, code_before, code_after, plug}
use Rattle.cs_grammar.proofs.OneTree.{one_rule}
use Rattle.cs_grammar.proofs.Holes.{IsTree-plug, size-plug, code-plug, found_whole, UsesRule-plug}
use Rattle.cs_least.specs.declared.cost.cost.Cost.{Cost}
use Rattle.cs_least.specs.declared.cost.cost.Cost.TheVariants.{Least}
use Rattle.cs_least.specs.Cost.Least.{IsCost}
use Rattle.cs_least.specs.Cost.Rank.{cost_of, plus}
use Rattle.cs_least.specs.Cost.Chosen.{AreChosen, AppendsAllChosen}
use Rattle.cs_least.specs.Cost.Trees.{HaveSmall}
use Rattle.cs_least.proofs.OnCost.Ranks.{IsCost-plus, IsCost-same, IsCost-more}
use Rattle.cs_least.proofs.OnCost.ChosenTrees.{chosen_forest, all_chosen, forest_least, AreTrees-chosen}
use Rattle.cs_least.specs.Embed.Around.{IsContextOf, HasLeastContext, IsAround}
use Rattle.cs_least.specs.Embed.ChosenContext.{IsChosenContext}
use Rattle.cs_least.proofs.OnEmbed.ChosenContexts.{chosen_context_exists, chosen_context_least, one_chosen_context, IsContext-chosen}
use Rattle.cs_goals.specs.declared.goal.Goal.TheVariants.{Rule}
use Rattle.cs_verdicts.specs.Positive.Verdict.{IsMet, IsChosenOfRule, IsCodeOf}

module _ (w : Measure) (g : PlainGrammar) (r : ℕ) (p : Production) (rule : IsRule g r p) where
  -- the parts of a tree that meets the goal: a context of the rule's left side and the node's children
  abbrev pub AreParts : TreeContext × Forest → Type 0
  AreParts parts = IsContextOf g p.left parts.0 × AreTrees g p.right parts.1

  abbrev pub parts_size : TreeContext × Forest → ℕ
  parts_size parts = context_size w parts.0 + (1 + sizes w parts.1)

  built : (parts : TreeContext × Forest) → AreParts parts → (t : Tree) × IsMet g (Rule r) t × (size w t ≤ parts_size parts)
  built parts h =
      let node = Node r parts.1 in
      (plug parts.0 node, (IsTree-plug g parts.0 (Nonterminal p.left) node h.0 (p, rule, refl, h.1), UsesRule-plug w g r parts.0 node (inl refl)), omega (arith, size-plug w parts.0 node))

  cut : (t : Tree) → IsMet g (Rule r) t → (parts : TreeContext × Forest) × AreParts parts × (parts_size parts ≤ size w t)
  cut t h =
      let found = found_whole w g r t h.0 h.1 in
      let same = one_rule g r r found.rule p refl found.number rule in (
        (found.context, found.children),
        (subst (λ (q : Production). IsContextOf g q.left found.context) same found.around, subst (λ (q : Production). AreTrees g q.right found.children) same found.trees),
        omega (arith, found.measure),
      )

  -- a least tree that meets the goal is a least node of the rule in a least context
  pub rule_cost : (a b : Cost) → IsCost w.limit (IsContextOf g p.left) (context_size w) a → IsCost w.limit (AreTrees g p.right) (sizes w) b → IsCost w.limit (IsMet g (Rule r)) (size w) (plus w.limit a (plus w.limit (cost_of w.limit 1) b))
  rule_cost a b around children =
      let node = IsCost-more w.limit (AreTrees g p.right) (sizes w) b children in
      let parts = IsCost-plus w.limit (IsContextOf g p.left) (AreTrees g p.right) (context_size w) (λ f. 1 + sizes w f) a (plus w.limit (cost_of w.limit 1) b) around node in
      IsCost-same w.limit AreParts (IsMet g (Rule r)) parts_size (size w) (plus w.limit a (plus w.limit (cost_of w.limit 1) b)) built cut parts

-- the parts of a tree that meets the goal, within its size
pub record RuleParts (w : Measure) (g : PlainGrammar) (p : Production) (n : ℕ) : Type 0 where
  pub context : TreeContext
  pub children : Forest
  pub around : IsContextOf g p.left context
  pub trees : AreTrees g p.right children
  pub measure : context_size w context + (1 + sizes w children) ≤ n

pub rule_parts : (w : Measure) (g : PlainGrammar) (r : ℕ) (p : Production) (rule : IsRule g r p) (t : Tree) → IsMet g (Rule r) t → RuleParts w g p (size w t)
rule_parts w g r p rule t h =
    let c = cut w g r p rule t h in
    record { context = c.0.0; children = c.0.1; around = c.1.0; trees = c.1.1; measure = c.2 }

module _ (w : Measure) (g : PlainGrammar) (r : ℕ) where
  -- the chosen tree of a rule goal meets it
  pub rule_met : (u : Tree) → IsChosenOfRule w g r u → IsMet g (Rule r) u
  rule_met u h =
      let node : IsTree g (Nonterminal h.rule.left) (Node r h.children) = (h.rule, h.number, refl, AreTrees-chosen w g h.children h.rule.right h.chosen) in
      let tree = IsTree-plug g h.context (Nonterminal h.rule.left) (Node r h.children) (IsContext-chosen w g h.context (Nonterminal h.rule.left) h.around) node in
      subst (IsMet g (Rule r)) (sym h.whole) (tree, UsesRule-plug w g r h.context (Node r h.children) (inl refl))

  -- is of least size
  pub rule_least : (t u : Tree) → IsMet g (Rule r) t → IsChosenOfRule w g r u → size w u ≤ size w t
  rule_least t u h k =
      let parts = rule_parts w g r k.rule k.number t h in
      let context = chosen_context_least w g (Nonterminal k.rule.left) parts.context k.context parts.around k.around in
      let children = forest_least w g k.children parts.children k.rule.right k.chosen parts.trees in
      omega (arith, parts.measure, context, children, ap (size w) k.whole, size-plug w k.context (Node r k.children))

  -- and is the only one
  pub one_of_rule : (t u : Tree) → IsChosenOfRule w g r t → IsChosenOfRule w g r u → t ≡ u
  one_of_rule t u h k =
      let same = one_rule g r r h.rule k.rule refl h.number k.number in
      let around = subst (λ (p : Production). IsChosenContext w g (Nonterminal p.left) k.context) (sym same) k.around in
      let chosen = subst (λ (p : Production). AreChosen w g p.right k.children) (sym same) k.chosen in
      let contexts = one_chosen_context w g h.context k.context (Nonterminal h.rule.left) h.around around in
      let forests = all_chosen w g h.children k.children h.rule.right h.chosen chosen in
      h.whole ∙ ap (λ c. plug c (Node r h.children)) contexts ∙ ap (λ f. plug k.context (Node r f)) forests ∙ sym k.whole

-- the code that is put together of the chosen context and the chosen children
pub rule_code : (w : Measure) (g : PlainGrammar) (r : ℕ) (p : Production) (before after d1 d2 d3 d4 : List ℕ) → IsRule g r p → IsAround w g p.left before after → d1 ≡ before → d2 ≡ d1 ++ r ∷ [] → AppendsAllChosen w g p.right d2 d3 → d4 ≡ d3 ++ after → IsCodeOf w g (Rule r) d4
rule_code w g r p before after d1 d2 d3 d4 rule a is1 is2 appended is4 =
    let c = a.context in
    let node = Node r appended.trees in
    let text : d4 ≡ code_before c ++ code node ++ code_after c =
    is4 ∙ ap (λ (l : List ℕ). l ++ after) (appended.text ∙ ap (λ (l : List ℕ). l ++ codes_of appended.trees) (is2 ∙ ap (λ (l : List ℕ). l ++ r ∷ []) (is1 ∙ a.before_hole)))
    ∙ ap (λ (l : List ℕ). code_before c ++ r ∷ [] ++ codes_of appended.trees ++ l) a.behind_hole
    ∙ ap (λ (l : List ℕ). l ++ code_after c) (append_assoc (code_before c) (r ∷ []) (codes_of appended.trees)) in
    (plug c node, record { rule = p; number = rule; context = c; children = appended.trees; around = a.chosen; chosen = appended.chosen; whole = refl }, text ∙ sym (code-plug c node))

-- a nonterminal with a context within the limit has a least one
pub least_context : (w : Measure) (g : PlainGrammar) (n : ℕ) (c : TreeContext) → IsContextOf g n c → context_size w c ≤ w.limit → HasLeastContext w g n
least_context w g n c is small =
    let d = chosen_context_exists w g n c is in
    let d_is = IsContext-chosen w g d.context (Nonterminal n) d.chosen in
    (context_size w d.context, (omega (arith, d.least c is, small), record { reached = (d.context, d_is, refl); least = d.least }))

-- where the goal is met within the limit, the parts are within it
module _ (w : Measure) (g : PlainGrammar) (r : ℕ) (p : Production) (rule : IsRule g r p) (n : ℕ) (found : IsCost w.limit (IsMet g (Rule r)) (size w) (Least n)) where
  met_parts : RuleParts w g p (size w found.1.reached.0)
  met_parts = rule_parts w g r p rule found.1.reached.0 found.1.reached.1

  pub has_context : HasLeastContext w g p.left
  has_context = least_context w g p.left met_parts.context met_parts.around (omega (arith, met_parts.measure, found.0, found.1.reached.2))

  pub has_children : HaveSmall w g p.right
  has_children = (met_parts.children, met_parts.trees, omega (arith, met_parts.measure, found.0, found.1.reached.2))

-- a rule goal that some tree meets has a chosen tree
pub rule_exists : (w : Measure) (g : PlainGrammar) (r : ℕ) (t : Tree) → IsMet g (Rule r) t → (u : Tree) × IsChosenOfRule w g r u
rule_exists w g r t h =
    let found = found_whole w g r t h.0 h.1 in
    let d = chosen_context_exists w g found.rule.left found.context found.around in
    let children = chosen_forest w g found.children found.rule.right found.trees in
    let u = plug d.context (Node r children.0) in
    let chosen : IsChosenOfRule w g r u = record { rule = found.rule; number = found.number; context = d.context; children = children.0; around = d.chosen; chosen = children.1; whole = refl } in
    (u, chosen)
