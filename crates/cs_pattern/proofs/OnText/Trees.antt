-- In an order of the definitions each has a tree, which is not deeper than the texts are long.
use Rattle.std.proofs.Common.{◌≡◌, ℕ, ◌+◌, ◌≤◌, true, List, [], ◌∷◌, ◌++◌, length, get_or, map, refl, sym, ap, ◌∙◌, subst, inl, inr, arith, append_assoc}
use Rattle.std.specs.Prelude.{Option, Some, None, Contains, slice_get, sum, sum_by, is_some, option_map, if◌then◌else◌}
use Rattle.std.proofs.lemmas.Bool.{false≢true, cases_Bool}
use Rattle.std.proofs.lemmas.List.{append-nil, length-map}
use Rattle.std.proofs.lemmas.List.Elements.{Contains-append_cases}
use Rattle.std.proofs.lemmas.List.Sums.{sum_by-cons, sum_by_push}
use Rattle.std.proofs.lemmas.Option.{slice_get-map, get_or_from_slice_get, slice_get_within}
use Rattle.std.specs.Global.{Vec}
use Rattle.cs_graph.proofs.Single.{contained_alone, contains_none}
use Rattle.cs_graph.proofs.Weights.{weighed_once}
use Rattle.cs_pattern_parts.specs.declared.items.item.Placed as held
use Rattle.cs_pattern_parts.specs.Items.Items.{Item, class, quoted, named, opening, closing, bar, repetition, Placed, items_of}
use Rattle.cs_pattern_parts.specs.Items.Views.{placed_all, placed_of}
use Rattle.cs_pattern.specs.Text.Checked.{IsOrder}
use Rattle.cs_pattern.specs.Text.Checking.{HasAllNames, Each}
use Rattle.cs_pattern.specs.Operations.Definitions.{Definition, index_of, has_name, total_bytes}
use Rattle.cs_pattern.specs.Operations.Grammar.{Tree}
use Rattle.cs_pattern.specs.Text.Names.{is_undefined, first_undefined}
use Rattle.cs_pattern.specs.Text.Stages.{AreRead, HasTree}
use Rattle.cs_pattern.specs.Text.Substitution.{IsTreeOf}
use Rattle.cs_pattern.specs.Operations.Depth.{depth}
use Rattle.cs_pattern.specs.Text.Uses.{Uses}
use Rattle.cs_pattern.proofs.OnText.Deep.{text_deep}
use Rattle.cs_pattern.proofs.OnText.HasDerivation.{has_derivation}
use Rattle.cs_pattern.proofs.OnText.Linked.{uses_within, definition_at}
use Rattle.cs_pattern.proofs.OnText.PuttingIn as putting
use Rattle.cs_pattern.proofs.OnText.PuttingIn.{HaveTrees, put_tree, one_tree_of}
use Rattle.cs_pattern.proofs.OnText.Readings.{one_reading}

found : (o : Option ℕ) → is_some o ≡ true → (j : ℕ) × (o ≡ Some j)
found None e = absurd (false≢true e)
found (Some j) e = (j, refl)

module _ (ds : List Definition) where
  -- the text has a tree of at most this depth
  pub record TreeWithin (most : ℕ) (text : List ℕ) : Type 0 where
    pub tree : Tree
    pub is_tree : IsTreeOf ds text tree
    pub deep : depth tree ≤ most

  abbrev pub AllTrees : ℕ → (ℕ → Type 0) → Type 0
  AllTrees most Among = (i : ℕ) (d : Definition) → Among i → slice_get ds i ≡ Some d → TreeWithin most d.text

  name_has_tree : (most : ℕ) (name : List ℕ) → has_name name ds ≡ true → AllTrees most (Uses ds (named name ∷ [])) → putting.HasTree ds name
  name_has_tree most name e trees =
      let f = found (index_of name ds) e in
      let d = definition_at ds f.0 (uses_within ds (named name ∷ []) f.0 (inl f.1)) in
      let t = trees f.0 d.0 (inl f.1) d.1 in
      record { definition = d.0; defines = record { index = f.0; found = f.1; is = d.1 }; tree = t.tree; is_tree = t.is_tree }

  have_first : (most at : ℕ) (x : Item) (ps : List Placed) → (if is_undefined ds x then Some at else first_undefined ds ps) ≡ None → AllTrees most (Uses ds (x ∷ items_of ps)) → (first_undefined ds ps ≡ None → HaveTrees ds (items_of ps)) → HaveTrees ds (x ∷ items_of ps)
  have_first most at (class s) ps e trees rest = rest e
  have_first most at (quoted s) ps e trees rest = rest e
  have_first most at opening ps e trees rest = rest e
  have_first most at closing ps e trees rest = rest e
  have_first most at bar ps e trees rest = rest e
  have_first most at (repetition r) ps e trees rest = rest e
  have_first most at (named name) ps e trees rest = elim (cases_Bool (has_name name ds)) [
    | inl has ↦ (name_has_tree most name has (λ i d u is. trees i d (elim u [ inl f ↦ inl f | inr none ↦ absurd none ]) is), rest (rw has at e))
    | inr hasnt ↦ let f : Some at ≡ None = rw hasnt at e in absurd cc
  ]

  -- where each name is defined and each definition that is used has a tree, the names have trees
  pub have_trees : (most : ℕ) (ps : List Placed) → first_undefined ds ps ≡ None → AllTrees most (Uses ds (items_of ps)) → HaveTrees ds (items_of ps)
  have_trees most [] e trees = tt
  have_trees most (p ∷ ps) e trees = have_first most p.at p.item ps e trees (λ f. have_trees most ps f (λ i d u is. trees i d (inr u) is))

-- the length of each text
abbrev pub text_lengths : List Definition → List ℕ
text_lengths ds = map (λ d. length d.text) ds

text_length : (ds : List Definition) (i : ℕ) (d : Definition) → slice_get ds i ≡ Some d → get_or (text_lengths ds) i 0 ≡ length d.text
text_length ds i d is = get_or_from_slice_get (text_lengths ds) i (length d.text) 0 (slice_get-map (λ (x : Definition). length x.text) ds i ∙ ap (λ (o : Option Definition). option_map (λ (x : Definition). length x.text) o) is)

all_lengths : (ds : List Definition) → sum (text_lengths ds) ≤ total_bytes ds
all_lengths [] = omega arith
all_lengths (d ∷ ds) = omega (arith, all_lengths ds, sum_by-cons (λ (n : ℕ). n) (length d.text) (text_lengths ds), sum_by-cons (λ (x : Definition). length x.name + length x.text) d ds)

module _ (ds : List Definition) (all : List (Vec held.Placed)) (read : AreRead ds all) (names : Each (HasAllNames ds) ds) (order : List ℕ) (o : IsOrder ds order) where
  abbrev weigh : List ℕ → ℕ
  weigh xs = sum_by (λ i. get_or (text_lengths ds) i 0) xs

  new_tree : (before after : List ℕ) (x : ℕ) (d : Definition) → order ≡ before ++ x ∷ after → AllTrees ds (weigh before) (Contains before) → slice_get ds x ≡ Some d → TreeWithin ds (weigh (before ++ x ∷ [])) d.text
  new_tree before after x d is trees at =
      let n = names x d at in
      let h = read.each x d at in
      let same = one_reading d.text n.0 (placed_all h.items.items) n.1 h.read in
      let derived = has_derivation d.text n.0 n.1 in
      let among : AllTrees ds (weigh before) (Uses ds (items_of n.0)) = λ i e u there. trees i e (o.behind before after x i is (record { definition = d; is = at; items = n.0; read = n.1; uses = u })) there in
      let put = put_tree ds derived.0 (subst (HaveTrees ds) derived.1 (have_trees ds (weigh before) n.0 n.2 among)) in
      let deep : depth put.0 ≤ length (items_of n.0) + weigh before =
      text_deep ds (weigh before) put.0 derived.0 (items_of n.0) put.1 derived.1
      (λ i u e tree there is_tree. let t = among i e u there in subst (λ w. depth w ≤ weigh before) (one_tree_of ds e.text t.tree tree t.is_tree is_tree) t.deep) in
      let short = h.short in
      let items : length (items_of n.0) ≡ length h.items.items = length-map n.0 (λ (p : Placed). p.item) ∙ ap length same ∙ length-map h.items.items placed_of in
      record {
        tree = put.0;
        is_tree = record { spelled = derived.0; is_spelled = record { items = n.0; read = n.1; derived = derived.1 }; put_in = put.1 };
        deep = omega (arith, deep, items, sum_by_push (λ i. get_or (text_lengths ds) i 0) before x, text_length ds x d at);
      }

  trees_on : (xs before : List ℕ) → order ≡ before ++ xs → AllTrees ds (weigh before) (Contains before) → AllTrees ds (weigh order) (Contains order)
  trees_on [] before is h = subst (λ (ys : List ℕ). AllTrees ds (weigh ys) (Contains ys)) (sym (is ∙ append-nil before)) h
  trees_on (x ∷ xs) before is h = trees_on xs (before ++ x ∷ []) (is ∙ sym (append_assoc before (x ∷ []) xs)) (λ i d among at. elim (Contains-append_cases before (x ∷ []) i among) [
    | inl was ↦
        let t = h i d was at in
        let heavier = sum_by_push (λ i. get_or (text_lengths ds) i 0) before x in
        record { tree = t.tree; is_tree = t.is_tree; deep = omega (arith, t.deep, heavier) }
    | inr here ↦ let same = contained_alone x i here in new_tree before xs x d is h (subst (λ n. slice_get ds n ≡ Some d) same at)
  ])

  -- each definition has a tree, whose depth fits
  pub all_trees : total_bytes ds ≤ 1048576 → Each (HasTree ds) ds
  all_trees le i d is =
      let t = trees_on order [] refl (λ j e h at. absurd (contains_none j h)) i d (o.all i (slice_get_within ds i d is)) is in
      let size = length-map ds (λ (x : Definition). length x.text) in
      let all_lengths_le = all_lengths ds in
      let once = weighed_once order (text_lengths ds) (λ j h. let lt = o.within j h in omega arith) o.once in
      record { tree = t.tree; is_tree = t.is_tree; shallow = omega (arith, t.deep) }
