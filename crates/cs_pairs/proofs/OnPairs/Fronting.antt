-- What stands before and behind the places of a rule, one place after another.
use Rattle.std.proofs.Common.{◌≡◌, ℕ, ◌+◌, ◌-◌, ◌<◌, ◌≤◌, List, [], ◌∷◌, ◌++◌, Some, length, get_or, take, drop, sym, ap, ◌∙◌, subst, arith}
use Rattle.std.specs.Prelude.{slice_get}
use Rattle.std.proofs.lemmas.Grind.{take_at_read}
use Rattle.std.proofs.lemmas.Option.{slice_get_within}
use Rattle.cs_grammar.specs.declared.symbol.Symbol.{Symbol}
use Rattle.cs_grammar.specs.Grammar.{Production, PlainGrammar, IsRuleOf, IsSomeRule, IsNumberOf, IsGrammar}
use Rattle.cs_grammar.specs.Weights.{Measure}
use Rattle.cs_grammar.specs.Tree.{Tree, Forest, Bare, Grown, IsTree, AreTrees, size, sizes}
use Rattle.cs_grammar.specs.Context.{Context, context_size, join}
use Rattle.cs_grammar.proofs.Forests.{AreTrees-join, sizes-join}
use Rattle.cs_least.specs.declared.cost.cost.Cost.{Cost}
use Rattle.cs_least.specs.declared.cost.cost.Cost.TheVariants.{Never}
use Rattle.cs_least.specs.Cost.Least.{IsCost}
use Rattle.cs_least.specs.Cost.Rank.{cost_of, plus, entry}
use Rattle.cs_least.proofs.OnCost.Ranks.{IsCost-plus, IsCost-more, IsCost-same}
use Rattle.cs_least.proofs.OnCost.Rules.{well_formed_at}
use Rattle.cs_least.specs.Embed.Around.{IsContextOf}
use Rattle.cs_pairs.specs.declared.kinds.kind.TreeKind.TheVariants.{Any, Begins}
use Rattle.cs_pairs.specs.declared.kinds.kind.TreeKind.{TreeKind}
use Rattle.cs_pairs.specs.declared.kinds.sweep.Sweep.{Sweep}
use Rattle.cs_pairs.specs.Kinds.Sweep.{IsSwept}
use Rattle.cs_pairs.specs.Kinds.Kinds.{AreTreesOfKind, behind}
use Rattle.cs_pairs.specs.Kinds.Filled.{IsFilled}
use Rattle.cs_pairs.specs.Kinds.Tables.{row_in}
use Rattle.cs_pairs.proofs.OnKinds.KindCosts.{all_of_any}
use Rattle.cs_pairs.proofs.OnKinds.RowLists.{row_read}
use Rattle.cs_pairs.proofs.OnKinds.Filling.{filled_more, entry_next}
use Rattle.cs_pairs.specs.Pairs.Fronts.{AreFront, front_size, AreFronts, AreBehinds, IsRowOf, AreRuleRows}

-- some rule of a grammar is well formed
pub some_rule : (w : Measure) (g : PlainGrammar) (p : Production) → IsGrammar g → IsSomeRule g p → IsRuleOf g.tokens g.nonterminals p
some_rule w g p grammar rule = well_formed_at g (rule.0 - 1) p grammar rule.1.at

-- the last of some trees apart
pub last_apart : (w : Measure) (g : PlainGrammar) (xs : List Symbol) (x : Symbol) (f : Forest) → AreTrees g (xs ++ x ∷ []) f → (h : Forest) × (t : Tree) × AreTrees g xs h × IsTree g x t × (sizes w h + size w t ≡ sizes w f)
last_apart w g [] x Bare is = absurd is
last_apart w g [] x (Grown t Bare) is = (Bare, t, tt, is.0, omega arith)
last_apart w g [] x (Grown t (Grown u f)) is = absurd is.1
last_apart w g (y ∷ xs) x Bare is = absurd is
last_apart w g (y ∷ xs) x (Grown t f) is =
    let others = last_apart w g xs x f is.1 in
    (Grown t others.0, others.1, (is.0, others.2), others.3, omega (arith, others.4))

module _ (w : Measure) (g : PlainGrammar) (left : ℕ) where
  pub front_first : (b : Cost) → IsCost w.limit (IsContextOf g left) (context_size w) b → IsCost w.limit (AreFront g left []) (front_size w) (plus w.limit (cost_of w.limit 1) b)
  front_first b h =
      IsCost-same w.limit (IsContextOf g left) (AreFront g left []) (λ c. 1 + context_size w c) (front_size w) (plus w.limit (cost_of w.limit 1) b)
      (λ c is. ((c, Bare), (is, tt), omega arith))
      (λ p is. (p.0, is.0, omega arith))
      (IsCost-more w.limit (IsContextOf g left) (context_size w) b h)

  pub front_next : (xs : List Symbol) (x : Symbol) (a c : Cost) → IsCost w.limit (AreFront g left xs) (front_size w) a → IsCost w.limit (IsTree g x) (size w) c → IsCost w.limit (AreFront g left (xs ++ x ∷ [])) (front_size w) (plus w.limit a c)
  front_next xs x a c front here =
      let Both = λ (p : (Context × Forest) × Tree). AreFront g left xs p.0 × IsTree g x p.1 in
      let both_size = λ (p : (Context × Forest) × Tree). front_size w p.0 + size w p.1 in
      IsCost-same w.limit Both (AreFront g left (xs ++ x ∷ [])) both_size (front_size w) (plus w.limit a c)
      (λ p is. (
        (p.0.0, join p.0.1 (Grown p.1 Bare)),
        (is.0.0, AreTrees-join g p.0.1 (Grown p.1 Bare) xs (x ∷ []) is.0.1 (is.1, tt)),
        omega (arith, sizes-join w p.0.1 (Grown p.1 Bare)),
      ))
      (λ p is. let v = last_apart w g xs x p.1 is.1 in (((p.0, v.0), v.1), ((is.0, v.2), v.3), omega (arith, v.4)))
      (IsCost-plus w.limit (AreFront g left xs) (IsTree g x) (front_size w) (size w) a c front here)

  -- in the names of the code
  pub front_taken : (right items : List Symbol) (i : ℕ) (x d : Symbol) (a c sum : Cost) → items ≡ right → i < length items → x ≡ get_or items i d → IsCost w.limit (AreFront g left (take i right)) (front_size w) a → IsCost w.limit (IsTree g x) (size w) c → sum ≡ plus w.limit a c → IsCost w.limit (AreFront g left (take (i + 1) right)) (front_size w) sum
  front_taken right items i x d a c sum same within is_x front here is_sum =
      let within' : i < length right = subst (λ (l : List Symbol). i < length l) same within in
      let at : x ≡ get_or right i d = is_x ∙ ap (λ (l : List Symbol). get_or l i d) same in
      let next : take i right ++ x ∷ [] ≡ take (i + 1) right = ap (λ y. take i right ++ y ∷ []) at ∙ sym (take_at_read right i d within').1 in
      subst (IsCost w.limit (AreFront g left (take (i + 1) right)) (front_size w)) (sym is_sum)
      (subst (λ (l : List Symbol). IsCost w.limit (AreFront g left l) (front_size w) (plus w.limit a c)) next (front_next (take i right) x a c front here))

-- one more front
pub fronts_more : (w : Measure) (g : PlainGrammar) (p : Production) (i : ℕ) (row : List Cost) (a : Cost) → IsFilled w.limit (λ n. AreFront g p.left (take (n - 1) p.right)) (front_size w) i row → IsCost w.limit (AreFront g p.left (take i p.right)) (front_size w) a → IsFilled w.limit (λ n. AreFront g p.left (take (n - 1) p.right)) (front_size w) (i + 1) (row ++ a ∷ [])
fronts_more w g p i row a so_far here =
    let place : i ≡ i + 1 - 1 = omega arith in
    filled_more w.limit (λ n. AreFront g p.left (take (n - 1) p.right)) (front_size w) i row a so_far
    (subst (λ k. IsCost w.limit (AreFront g p.left (take k p.right)) (front_size w) a) place here)

module _ (Are : Production → List Cost → Type 0) (g : PlainGrammar) where
  -- what is right of one rule and its number is right of the rule at an index
  pub row_at : (i : ℕ) (q : Production) (row : List Cost) → slice_get g.rules i ≡ Some q → Are q row → IsRowOf Are g (i + 1) row
  row_at i q row at are = λ p rule.
      let there : slice_get g.rules i ≡ Some p = (let e : i + 1 - 1 ≡ i = omega arith in subst (λ k. slice_get g.rules k ≡ Some p) e rule.at) in
      let same : q ≡ p = cc in
      subst (λ (o : Production). Are o row) same are

  -- the rows of all rules
  pub rows_all : (items : List Production) (rows : List (List Cost)) (i : ℕ) → items ≡ g.rules → length items ≤ i → i ≤ length items → length rows ≡ i → ((n : ℕ) → IsNumberOf i n → IsRowOf Are g n (row_in rows n)) → AreRuleRows Are g rows
  rows_all items rows i same all within many each = record {
    many = (let e = ap (λ (l : List Production). length l) same in omega (arith, e, all, within, many));
    each = λ r p rule.
        let e = ap (λ (l : List Production). length l) same in
        let last = slice_get_within g.rules (r - 1) p rule.at in
        each r (rule.above_zero, omega (arith, last, rule.above_zero, e, all)) p rule;
  }

  -- that of the rule of a number
  pub row_of_rule : (rows : List (List Cost)) (r : ℕ) (held row d : List Cost) → AreRuleRows Are g rows → IsNumberOf (length rows) r → held ≡ row → row ≡ get_or rows (r - 1) d → IsRowOf Are g r held
  row_of_rule rows r held row d are number is_held is_row = λ p rule.
      let there = row_read rows r row d number is_row in
      subst (Are p) (sym (is_held ∙ there)) (are.each r p rule)

-- the front at an index
pub front_at : (w : Measure) (g : PlainGrammar) (p : Production) (fronts : List Cost) → AreFronts w g p fronts → (i : ℕ) → i < length p.right → (front d : Cost) → front ≡ get_or fronts i d → IsCost w.limit (AreFront g p.left (take i p.right)) (front_size w) front
front_at w g p fronts are i within front d is_front =
    let place : i + 1 - 1 ≡ i = omega arith in
    let here = are.exact (i + 1) (omega arith, omega (arith, within)) in
    let at : entry fronts (i + 1) ≡ front = entry_next fronts i d (omega (arith, within, are.many)) ∙ sym is_front in
    subst (λ k. IsCost w.limit (AreFront g p.left (take k p.right)) (front_size w) front) place
    (subst (IsCost w.limit (AreFront g p.left (take (i + 1 - 1) p.right)) (front_size w)) at here)

-- what is behind the place at an index
pub behind_at : (w : Measure) (g : PlainGrammar) (p : Production) (behinds : List Cost) → AreBehinds w g p behinds → (i : ℕ) → i < length p.right → (d : Cost) → IsCost w.limit (AreTreesOfKind g Any (drop (i + 1) p.right)) (sizes w) (get_or behinds i d)
behind_at w g p behinds are i within d =
    subst (IsCost w.limit (AreTreesOfKind g Any (drop (i + 1) p.right)) (sizes w)) (entry_next behinds i d (omega (arith, within, are.many)))
    (are.exact (i + 1) (omega arith, omega (arith, within)))

-- one place more
pub behinds_more : (w : Measure) (g : PlainGrammar) (p : Production) (i : ℕ) (row : List Cost) (rest : List Symbol) (a : Cost) → IsFilled w.limit (λ n. AreTreesOfKind g Any (drop n p.right)) (sizes w) i row → rest ≡ drop (i + 1) p.right → IsCost w.limit (AreTrees g rest) (sizes w) a → IsFilled w.limit (λ n. AreTreesOfKind g Any (drop n p.right)) (sizes w) (i + 1) (row ++ a ∷ [])
behinds_more w g p i row rest a so_far is cost =
    filled_more w.limit (λ n. AreTreesOfKind g Any (drop n p.right)) (sizes w) i row a so_far
    (subst (λ (l : List Symbol). IsCost w.limit (AreTreesOfKind g Any l) (sizes w) a) is (all_of_any w g rest a cost))

-- the sweep at a place, with what is behind it
pub swept_at : (w : Measure) (g : PlainGrammar) (p : Production) (b j place : ℕ) (items : List Symbol) (behinds : List Cost) (s : Sweep) → AreBehinds w g p behinds → items ≡ p.right → j + 1 ≡ place → j < length items → s.kind ≡ Begins b → IsCost w.limit (AreTreesOfKind g (Begins b) (drop place items)) (sizes w) s.whole → s.rest ≡ get_or behinds j Never → IsSwept w g (drop place items) s
swept_at w g p b j place items behinds s are same next within kind whole is_rest =
    let within' : j < length p.right = subst (λ (l : List Symbol). j < length l) same within in
    let here = subst (IsCost w.limit (AreTreesOfKind g Any (drop (j + 1) p.right)) (sizes w)) (sym is_rest) (behind_at w g p behinds are j within' Never) in
    let there = subst (λ (l : List Symbol). IsCost w.limit (AreTreesOfKind g Any (drop place l)) (sizes w) s.rest) (sym same) (subst (λ k. IsCost w.limit (AreTreesOfKind g Any (drop k p.right)) (sizes w) s.rest) next here) in
    record {
      is_whole = subst (λ (k : TreeKind). IsCost w.limit (AreTreesOfKind g k (drop place items)) (sizes w) s.whole) (sym kind) whole;
      is_rest = subst (λ (k : TreeKind). IsCost w.limit (AreTreesOfKind g (behind k) (drop place items)) (sizes w) s.rest) (sym kind) there;
    }
