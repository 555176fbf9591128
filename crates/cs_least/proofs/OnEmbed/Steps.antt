-- The steps inwards of a grammar's contexts, one place and one rule after another.
use Rattle.std.proofs.Common.{◌≡◌, ℕ, zero, suc, ◌+◌, ◌-◌, ◌<◌, ◌≤◌, List, [], ◌∷◌, ◌++◌, Some, None, length, take, drop, refl, sym, ap, ◌∙◌, subst, arith}
use Rattle.std.specs.Prelude.{slice_get}
use Rattle.std.proofs.lemmas.List.{length-append, length-take-le}
use Rattle.std.proofs.lemmas.Option.{slice_get_within}
use Rattle.cs_grammar.specs.declared.symbol.Symbol.{Symbol}
use Rattle.cs_grammar.specs.declared.symbol.Symbol.TheVariants.{Token, Nonterminal}
use Rattle.cs_grammar.specs.Grammar.{Production, PlainGrammar, IsRule}
use Rattle.cs_grammar.specs.Places.{SymbolAt}
use Rattle.cs_grammar.specs.Weights.{Measure}
use Rattle.cs_grammar.specs.Tree.{Forest, AreTrees, sizes}
use Rattle.cs_grammar.proofs.OneTree.{one_rule}
use Rattle.cs_least.specs.declared.cost.cost.Cost.{Cost}
use Rattle.cs_least.specs.declared.cost.cost.Cost.TheVariants.{Never, Large, Least}
use Rattle.cs_least.specs.Cost.Least.{IsCost}
use Rattle.cs_least.specs.Cost.Rank.{rank, IsCapped, plus}
use Rattle.cs_least.proofs.OnCost.Ranks.{IsCost-plus, IsCost-more, cost_capped}
use Rattle.cs_least.specs.declared.embed.inwards.RulePlace.{RulePlace}
use Rattle.cs_least.specs.Embed.Embeds.{AreSiblings, siblings_size}
use Rattle.cs_least.specs.Embed.Ways.{siblings_cost, inward, IsInward, HasSiblings, at_rule, at_place, AreInwardsTo}
use Rattle.cs_least.specs.declared.ways.step.Step.{Step}
use Rattle.cs_least.proofs.OnWays.PlacedLists.{placed_skip, placed_push, placed_next}

-- what siblings cost, with their node
pub siblings_exact : (w : Measure) (g : PlainGrammar) (xs ys : List Symbol) (a b : Cost) → IsCost w.limit (AreTrees g xs) (sizes w) a → IsCost w.limit (AreTrees g ys) (sizes w) b → IsCost w.limit (AreSiblings g xs ys) (siblings_size w) (siblings_cost w.limit a b)
siblings_exact w g xs ys a b left right =
    IsCost-more w.limit (AreSiblings g xs ys) (λ (fs : Forest × Forest). sizes w fs.0 + sizes w fs.1) (plus w.limit a b)
    (IsCost-plus w.limit (AreTrees g xs) (AreTrees g ys) (sizes w) (sizes w) a b left right)

-- the place behind xs in xs ++ b ∷ ys
pub at_seam : (xs ys : List Symbol) (b : Symbol) → slice_get (xs ++ b ∷ ys) (length xs) ≡ Some b
at_seam [] ys b = refl
at_seam (x ∷ xs) ys b = at_seam xs ys b

-- a list is what stands before a place, the symbol there and what stands behind
pub split_at : (xs : List Symbol) (k : ℕ) (b : Symbol) → slice_get xs k ≡ Some b → xs ≡ take k xs ++ b ∷ drop (k + 1) xs
split_at [] k b h = absurd cc
split_at (x ∷ xs) zero b h = let e : x ≡ b = cc in ap (λ y. y ∷ xs) e
split_at (x ∷ xs) (suc k) b h = let e : suc k + 1 ≡ suc (k + 1) = omega arith in rw e (ap (λ (s : List Symbol). x ∷ s) (split_at xs k b h))

-- a list is split at a place in one way
pub record SameSplit (xs zs : List Symbol) (a b : Symbol) (ys ws : List Symbol) : Type 0 where
  pub before : xs ≡ zs
  pub here : a ≡ b
  pub behind : ys ≡ ws

pub one_split : (xs zs : List Symbol) (a b : Symbol) (ys ws : List Symbol) → xs ++ a ∷ ys ≡ zs ++ b ∷ ws → length xs ≡ length zs → SameSplit xs zs a b ys ws
one_split [] [] a b ys ws e even = record { before = refl; here = cc; behind = cc }
one_split [] (z ∷ zs) a b ys ws e even = absurd (omega (arith, even))
one_split (x ∷ xs) [] a b ys ws e even = absurd (omega (arith, even))
one_split (x ∷ xs) (z ∷ zs) a b ys ws e even =
    let head : x ≡ z = cc in
    let tail : xs ++ a ∷ ys ≡ zs ++ b ∷ ws = cc in
    let s = one_split xs zs a b ys ws tail (omega (arith, even)) in
    record { before = (let t = s.before in cc); here = s.here; behind = s.behind }

-- a place has one symbol
pub record SamePlace {g : PlainGrammar} {r k q j : ℕ} (u : SymbolAt g r k) (v : SymbolAt g q j) : Type 0 where
  pub production : u.production ≡ v.production
  pub before : u.before ≡ v.before
  pub symbol : u.symbol ≡ v.symbol
  pub behind : u.behind ≡ v.behind

pub same_place : (g : PlainGrammar) (r k q j : ℕ) → r ≡ q → k ≡ j → (u : SymbolAt g r k) (v : SymbolAt g q j) → SamePlace u v
same_place g r k q j is_rule is_place u v =
    let same = one_rule g r q u.production v.production is_rule u.number v.number in
    let split = one_split u.before v.before u.symbol v.symbol u.behind v.behind (sym u.right ∙ ap (λ (p : Production). p.right) same ∙ v.right) (u.placed ∙ is_place ∙ sym v.placed) in
    record { production = same; before = split.before; symbol = split.here; behind = split.behind }

-- and lies within the right side of its rule
pub place_low : (g : PlainGrammar) (r k : ℕ) (p : Production) → SymbolAt g r k → IsRule g r p → k < length p.right
place_low g r k p u rule =
    let same = one_rule g r r u.production p refl u.number rule in
    omega (arith, ap (λ (z : Production). length z.right) same, ap (λ (l : List Symbol). length l) u.right, length-append u.before (u.symbol ∷ u.behind), u.placed)

pub inward_right : (w : Measure) (g : PlainGrammar) (a : RulePlace) (s : Step) → (is : IsInward w g a s) → is.here.production.right ≡ is.here.before ++ Nonterminal s.to ∷ is.here.behind
inward_right w g a s is = is.here.right ∙ ap (λ x. is.here.before ++ x ∷ is.here.behind) is.to

-- behind the last place of a rule the next begins
pub inwards_next : (w : Measure) (g : PlainGrammar) (q j : ℕ) (places : List RulePlace) (steps : List Step) → AreInwardsTo w g q j places steps → (p : Production) → IsRule g q p → length p.right ≤ j → AreInwardsTo w g (q + 1) 0 places steps
inwards_next w g q j places steps so_far p rule past =
    placed_next at_rule at_place (IsInward w g) (HasSiblings g) q j places steps so_far
    (λ k has. omega (arith, place_low g q k p has.here rule, past))

-- where there is no step, no siblings stand beside a nonterminal
inward_none : (limit left n : ℕ) (c : Cost) → inward limit left (Nonterminal n) c ≡ None → c ≡ Never
inward_none limit left n Never e = refl
inward_none limit left n Large e = absurd cc
inward_none limit left n (Least m) e = absurd cc

-- what a step is made of
record Made (limit left : ℕ) (x : Symbol) (c : Cost) (s : Step) : Type 0 where
  symbol : x ≡ Nonterminal s.to
  from : s.from ≡ left
  cost : s.cost ≡ rank limit c
  low : rank limit c ≤ limit + 1

inward_some : (limit left : ℕ) (x : Symbol) (c : Cost) (s : Step) → IsCapped limit c → inward limit left x c ≡ Some s → Made limit left x c s
inward_some limit left (Token t) c s is_capped e = absurd cc
inward_some limit left (Nonterminal n) Never s is_capped e = absurd cc
inward_some limit left (Nonterminal n) Large s is_capped e =
    let same : record { from = left; to = n; cost = limit + 1 } ≡ s = cc in
    record {
      symbol = ap (λ (t : Step). Nonterminal t.to) same;
      from = sym (ap (λ (t : Step). t.from) same);
      cost = sym (ap (λ (t : Step). t.cost) same);
      low = omega arith;
    }
inward_some limit left (Nonterminal n) (Least m) s is_capped e =
    let same : record { from = left; to = n; cost = m } ≡ s = cc in
    record {
      symbol = ap (λ (t : Step). Nonterminal t.to) same;
      from = sym (ap (λ (t : Step). t.from) same);
      cost = sym (ap (λ (t : Step). t.cost) same);
      low = omega (arith, is_capped);
    }

-- a place of a rule, as the code looks at it
module _ (w : Measure) (g : PlainGrammar) (q j : ℕ) (p : Production) (rule : IsRule g q p) (items : List Symbol) (is : items ≡ p.right) (x : Symbol) (here : slice_get items j ≡ Some x) (a b : Cost) (before : IsCost w.limit (AreTrees g (take j items)) (sizes w) a) (behind : IsCost w.limit (AreTrees g (drop (j + 1) items)) (sizes w) b) (left : ℕ) (is_left : left ≡ p.left) (places : List RulePlace) (steps : List Step) (so_far : AreInwardsTo w g q j places steps) where
  abbrev others : Cost
  others = siblings_cost w.limit a b

  exact : IsCost w.limit (AreSiblings g (take j items) (drop (j + 1) items)) (siblings_size w) others
  exact = siblings_exact w g (take j items) (drop (j + 1) items) a b before behind

  abbrev there : SymbolAt g q j
  there = record {
    production = p;
    before = take j items;
    symbol = x;
    behind = drop (j + 1) items;
    number = rule;
    right = sym is ∙ split_at items j x here;
    placed = length-take-le j items (omega (arith, slice_get_within items j x here));
  }

  pub place_passed : inward w.limit left x others ≡ None → AreInwardsTo w g q (j + 1) places steps
  place_passed e = placed_skip at_rule at_place (IsInward w g) (HasSiblings g) q j places steps so_far none
    where
      none : HasSiblings g q j → ⊥
      none has =
          let same = same_place g q j q j refl refl has.here there in
          let never : others ≡ Never = inward_none w.limit left has.nonterminal others (ap (λ z. inward w.limit left z others) (sym has.is ∙ same.symbol) ∙ e) in
          subst (IsCost w.limit (AreSiblings g (take j items) (drop (j + 1) items)) (siblings_size w)) never exact has.siblings
          (subst (λ (l : List Symbol). AreTrees g l has.siblings.0) same.before has.are.0, subst (λ (l : List Symbol). AreTrees g l has.siblings.1) same.behind has.are.1)

  pub place_made : (s : Step) → inward w.limit left x others ≡ Some s → AreInwardsTo w g q (j + 1) (places ++ record { rule = q; place = j } ∷ []) (steps ++ s ∷ [])
  place_made s e =
      let made = inward_some w.limit left x others s (cost_capped w.limit (AreSiblings g (take j items) (drop (j + 1) items)) (siblings_size w) others exact) e in
      placed_push at_rule at_place (IsInward w g) (HasSiblings g) q j places steps so_far (record { rule = q; place = j }) s refl refl (record {
        here = there;
        to = made.symbol;
        from = made.from ∙ is_left;
        others = others;
        is_others = exact;
        cost = made.cost;
        low = made.low;
      })
