-- Where all names are defined and no definition reaches itself, each definition has a tree.
use Rattle.std.proofs.Common.{◌≡◌, ℕ, zero, suc, ◌<◌, ◌≤◌, true, List, [], ◌∷◌, length, refl, sym, subst, inl, inr, arith}
use Rattle.std.specs.Prelude.{Option, Some, None, slice_get, is_some, if◌then◌else◌}
use Rattle.std.proofs.lemmas.Bool.{false≢true, cases_Bool}
use Rattle.cs_pattern_parts.specs.Items.Items.{Item, class, quoted, named, opening, closing, bar, repetition, Placed, items_of}
use Rattle.cs_pattern.specs.Text.Checking.{HasAllNames, HasNoCycle, Each}
use Rattle.cs_pattern.specs.Text.Names.{is_undefined, first_undefined}
use Rattle.cs_pattern.specs.Text.Substitution.{IsTreeOf}
use Rattle.cs_pattern.specs.Text.Table.{Reads}
use Rattle.cs_pattern.specs.Text.Uses.{Uses, UsesDefinition, Reaches, directly, through}
use Rattle.cs_pattern.specs.Operations.Definitions.{Definition, index_of, has_name}
use Rattle.cs_pattern.specs.Operations.Grammar.{Tree}
use Rattle.cs_pattern.proofs.OnText.HasDerivation.{has_derivation}
use Rattle.cs_pattern.proofs.OnText.Indexes.{Among, without, below, among_below, none_left}
use Rattle.cs_pattern.proofs.OnText.Linked.{uses_within, definition_at}
use Rattle.cs_pattern.proofs.OnText.PuttingIn as putting
use Rattle.cs_pattern.proofs.OnText.PuttingIn.{HaveTrees, put_tree}

found : (o : Option ℕ) → is_some o ≡ true → (j : ℕ) × (o ≡ Some j)
found None e = absurd (false≢true e)
found (Some j) e = (j, refl)

module _ (ds : List Definition) where
  abbrev pub HasSomeTree : List ℕ → Type 0
  HasSomeTree text = (tree : Tree) × IsTreeOf ds text tree

  abbrev UsedHaveTrees : List Item → Type 0
  UsedHaveTrees xs = (j : ℕ) (d : Definition) → Uses ds xs j → slice_get ds j ≡ Some d → HasSomeTree d.text

  name_tree : (name : List ℕ) → has_name name ds ≡ true → UsedHaveTrees (named name ∷ []) → putting.HasTree ds name
  name_tree name e trees =
      let f = found (index_of name ds) e in
      let d = definition_at ds f.0 (uses_within ds (named name ∷ []) f.0 (inl f.1)) in
      let t = trees f.0 d.0 (inl f.1) d.1 in
      record { definition = d.0; defines = record { index = f.0; found = f.1; is = d.1 }; tree = t.0; is_tree = t.1 }

  first_tree : (at : ℕ) (x : Item) (ps : List Placed) → (if is_undefined ds x then Some at else first_undefined ds ps) ≡ None → UsedHaveTrees (x ∷ items_of ps) → (first_undefined ds ps ≡ None → HaveTrees ds (items_of ps)) → HaveTrees ds (x ∷ items_of ps)
  first_tree at (class s) ps e trees rest = rest e
  first_tree at (quoted s) ps e trees rest = rest e
  first_tree at opening ps e trees rest = rest e
  first_tree at closing ps e trees rest = rest e
  first_tree at bar ps e trees rest = rest e
  first_tree at (repetition r) ps e trees rest = rest e
  first_tree at (named name) ps e trees rest = elim (cases_Bool (has_name name ds)) [
    | inl has ↦ (name_tree name has (λ j d u is. trees j d (elim u [ inl f ↦ inl f | inr none ↦ absurd none ]) is), rest (rw has at e))
    | inr hasnt ↦ let f : Some at ≡ None = rw hasnt at e in absurd cc
  ]

  name_trees : (ps : List Placed) → first_undefined ds ps ≡ None → UsedHaveTrees (items_of ps) → HaveTrees ds (items_of ps)
  name_trees [] e trees = tt
  name_trees (p ∷ ps) e trees = first_tree p.at p.item ps e trees (λ f. name_trees ps f (λ j d u is. trees j d (inr u) is))

  text_tree : (text : List ℕ) (items : List Placed) → Reads text items → first_undefined ds items ≡ None → UsedHaveTrees (items_of items) → HasSomeTree text
  text_tree text items read defined trees =
      let derived = has_derivation text items read in
      let put = put_tree ds derived.0 (subst (HaveTrees ds) derived.1 (name_trees items defined trees)) in
      (put.0, record { spelled = derived.0; is_spelled = record { items = items; read = read; derived = derived.1 }; put_in = put.1 })

  reached_within : (i j : ℕ) → Reaches ds i j → j < length ds
  reached_within _ _ (directly i j u) = uses_within ds (items_of u.items) j u.uses
  reached_within _ _ (through i k j u r) = reached_within k j r

  module _ (names : Each (HasAllNames ds) ds) (no_cycle : HasNoCycle ds) where
    link : (i j : ℕ) (d : Definition) (is : slice_get ds i ≡ Some d) → Uses ds (items_of (names i d is).0) j → UsesDefinition ds i j
    link i j d is u = let n = names i d is in record { definition = d; is = is; items = n.0; read = n.1; uses = u }

    -- what the definition reaches is among those that are left, and so is what each that it uses reaches, without that one
    tree_over : (most : ℕ) (left : List ℕ) → length left ≤ most → (i : ℕ) (d : Definition) → slice_get ds i ≡ Some d → ((j : ℕ) → Reaches ds i j → Among left j) → HasSomeTree d.text
    tree_over zero left le i d is all =
        let n = names i d is in
        text_tree d.text n.0 n.1 n.2 (λ j e u there. absurd (none_left left j le (all j (directly i j (link i j d is u)))))
    tree_over (suc most) left le i d is all =
        let n = names i d is in
        text_tree d.text n.0 n.1 n.2 (λ j e u there.
        let one = link i j d is u in
        let w = without left j (all j (directly i j one)) in
        let s = w.shorter in
        tree_over most w.rest (omega (arith, s, le)) j e there
        (λ k r. w.others k (all k (through i j k one r)) (λ same. no_cycle j (subst (Reaches ds j) (sym same) r))))

    pub each_has_tree : (i : ℕ) (d : Definition) → slice_get ds i ≡ Some d → HasSomeTree d.text
    each_has_tree i d is = tree_over (length (below (length ds))) (below (length ds)) (omega arith) i d is (λ j r. among_below (length ds) j (reached_within i j r))
