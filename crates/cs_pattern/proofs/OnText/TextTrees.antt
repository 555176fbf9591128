-- What a text is, where its names are defined and definitions are checked.
use Rattle.std.proofs.Common.{◌≡◌, ℕ, zero, suc, ◌<◌, ◌≤◌, ◌^◌, Bool, true, false, List, [], ◌∷◌, length, refl, sym, ap, ◌∙◌, subst, arith}
use Rattle.std.specs.Prelude.{Option, Some, None, is_some, not, nat_lt, slice_get, slice_index_or, if◌then◌else◌}
use Rattle.std.specs.Global.{Vec}
use Rattle.std.specs.Str.{bytes_eq}
use Rattle.std.proofs.lemmas.List.{length-map}
use Rattle.cs_pattern_parts.specs.Items.Items.{Item, class, quoted, named, opening, closing, bar, repetition, Placed, items_of}
use Rattle.cs_pattern.specs.declared.text.fault.PatternFault.{PatternFault}
use Rattle.cs_pattern.specs.declared.text.fault.PatternFault.TheVariants.{TooDeep, TooManyPositions}
use Rattle.cs_pattern_parts.specs.declared.tree.pattern.Pattern.{Pattern}
use Rattle.cs_pattern.specs.declared.operations.measure.Measure.{Measure}
use Rattle.cs_pattern.specs.declared.operations.operations.Op as code
use Rattle.cs_pattern.specs.Text.Answers.{limit_of, IsNamed, IsPatternOf, IsBeyond, IsFault}
use Rattle.cs_pattern.specs.Text.Checked.{AreChecked}
use Rattle.cs_pattern.specs.Operations.Definitions.{Definition, index_of, has_name}
use Rattle.cs_pattern.specs.Operations.Grammar.{Tree, tree_items}
use Rattle.cs_pattern.specs.Text.Limits.{passed_limit}
use Rattle.cs_pattern.specs.Text.Names.{is_undefined, first_undefined}
use Rattle.cs_pattern.specs.Text.Needed.{Substitutes, AreKnown, AreNeeded, directly}
use Rattle.cs_pattern.specs.Text.ReadView.{IsWithinDepth}
use Rattle.cs_pattern.specs.Operations.Operations.{Op, ops_of, number_of, tree_ops}
use Rattle.cs_pattern_parts.specs.Tree.Pattern.{Regex, leaves}
use Rattle.cs_pattern.specs.Text.Substitution.{PutIn, IsTreeOf}
use Rattle.cs_pattern.specs.Operations.Depth.{depth, pattern_of, measure_of, leaf}
use Rattle.cs_pattern.specs.Text.Table.{Reads}
use Rattle.cs_pattern.specs.Operations.Trees as trees
use Rattle.cs_pattern.specs.Operations.Trees.{HasMeasure, HasPattern, GiveTree, GiveShallow, IsMeasureOf}
use Rattle.cs_pattern.proofs.OnText.Given.{AreSo, given}
use Rattle.cs_pattern.proofs.OnText.Deep.{text_deep}
use Rattle.cs_pattern.proofs.OnText.HasDerivation.{has_derivation}
use Rattle.cs_pattern.proofs.OnText.Knowing.{get_within, has_at, position_within}
use Rattle.cs_pattern.proofs.OnText.Limited.{capped_limit, limit_depth}
use Rattle.cs_pattern.proofs.OnText.PuttingIn.{one_tree_of, HasTree, HaveTrees, put_tree}
use Rattle.cs_pattern.proofs.OnText.Using.{tree_puts}

pub got : {A : Type 0} (xs : List A) (i : ℕ) (x d : A) → slice_get xs i ≡ Some x → slice_index_or xs i d ≡ x
got [] i x d e = absurd cc
got (y ∷ xs) zero x d e = cc
got (y ∷ xs) (suc i) x d e = got xs i x d e

pub beyond_is_fault : (text : List ℕ) (ds : List Definition) (d l : ℕ) (f : PatternFault) → passed_limit d l ≡ Some f → IsBeyond text ds f → IsFault text ds f
beyond_is_fault text ds d l f e h = by_tests (nat_lt 200 d) (nat_lt 8192 l) e
  where
    by_tests : (b c : Bool) → (if b then Some (TooDeep d 200) else (if c then Some (TooManyPositions 8192) else None)) ≡ Some f → IsFault text ds f
    by_tests true c e = let g : f ≡ TooDeep d 200 = cc e in subst (λ (x : PatternFault). IsBeyond text ds x → IsFault text ds x) (sym g) (λ k. k) h
    by_tests false true e = let g : f ≡ TooManyPositions 8192 = cc e in subst (λ (x : PatternFault). IsBeyond text ds x → IsFault text ds x) (sym g) (λ k. k) h
    by_tests false false e = absurd (cc e)

module _ (ds : List Definition) (bodies : List (Vec code.Op)) (measured_as : List Measure) (order : List ℕ) (a : AreChecked ds bodies measured_as order) where
  defined : (name : List ℕ) (o : Option ℕ) → index_of name ds ≡ o → is_some o ≡ true → HasTree ds name
  defined name None e t = absurd cc
  defined name (Some i) e t =
      let d = has_at ds i (position_within (λ (x : Definition). bytes_eq name x.name) ds i e) in
      let h = (a.each i d.0 d.1).is in
      record { definition = d.0; defines = record { index = i; found = e; is = d.1 }; tree = h.tree; is_tree = record { spelled = h.spelled; is_spelled = h.is_spelled; put_in = h.put_in } }

  pub have_trees : (xs : List Placed) → first_undefined ds xs ≡ None → HaveTrees ds (items_of xs)
  have_trees [] e = tt
  have_trees (p ∷ xs) e = by_item p.item (by_test (is_undefined ds p.item) refl (λ f. have_trees xs f) e)
    where
      by_test : (b : Bool) → is_undefined ds p.item ≡ b → (first_undefined ds xs ≡ None → HaveTrees ds (items_of xs)) → (if is_undefined ds p.item then Some p.at else first_undefined ds xs) ≡ None → (is_undefined ds p.item ≡ false) × HaveTrees ds (items_of xs)
      by_test true t more f = let g : Some p.at ≡ None = sym (ap (λ b. if b then Some p.at else first_undefined ds xs) t) ∙ f in absurd (cc g)
      by_test false t more f = (t, more (sym (ap (λ b. if b then Some p.at else first_undefined ds xs) t) ∙ f))

      by_name : (name : List ℕ) (b : Bool) → has_name name ds ≡ b → not (has_name name ds) ≡ false → HasTree ds name
      by_name name true t f = defined name (index_of name ds) refl t
      by_name name false t f = let g : true ≡ false = sym (ap not t) ∙ f in absurd (cc g)

      by_item : (i : Item) → (is_undefined ds i ≡ false) × HaveTrees ds (items_of xs) → HaveTrees ds (i ∷ items_of xs)
      by_item (named name) h = (by_name name (has_name name ds) refl h.0, h.1)
      by_item (class s) h = h.1
      by_item (quoted s) h = h.1
      by_item opening h = h.1
      by_item closing h = h.1
      by_item bar h = h.1
      by_item (repetition r) h = h.1

  -- the tree of a checked definition, and its measure
  pub checked_tree : (i : ℕ) (d : Definition) (tree : Tree) → slice_get ds i ≡ Some d → IsTreeOf ds d.text tree → (slice_index_or measured_as i leaf ≡ measure_of tree) × (limit_of tree ≡ None)
  checked_tree i d tree at t =
      let h = a.each i d at in
      let same = one_tree_of ds d.text h.is.tree tree (record { spelled = h.is.spelled; is_spelled = h.is.is_spelled; put_in = h.is.put_in }) t in
      (got measured_as i h.measure leaf h.measure_at ∙ h.is.measured ∙ ap measure_of same, ap limit_of (sym same) ∙ h.is.within)

  pub record HasRead (text : List ℕ) (items : List Placed) : Type 0 where
    pub tree : Tree
    pub is_tree : IsTreeOf ds text tree
    pub items_is : items_of items ≡ tree_items is_tree.spelled
    pub deep : depth tree < 2 ^ 32
    pub is_given : GiveTree (HasMeasure measured_as) (tree_ops (number_of ds) is_tree.spelled) tree

  pub has_read : (text : List ℕ) (items : List Placed) → Reads text items → first_undefined ds items ≡ None → length items ≤ 1048576 → HasRead text items
  has_read text items r e few =
      let d = has_derivation text items r in
      let p = put_tree ds d.0 (subst (HaveTrees ds) d.1 (have_trees items e)) in
      let long = text_deep ds 200 p.0 d.0 (items_of items) p.1 d.1 (λ i u x t at is. limit_depth t (checked_tree i x t at is).1) in
      record {
        tree = p.0;
        is_tree = record { spelled = d.0; is_spelled = record { items = items; read = r; derived = d.1 }; put_in = p.1 };
        items_is = d.1;
        deep = omega (arith, long, ap length d.1, length-map items (λ (x : Placed). x.item));
        is_given = given ds (HasMeasure measured_as) (tree_ops (number_of ds) d.0) p.0 d.0 p.1 (λ i u x t at is. (checked_tree i x t at is).0) refl;
      }

  limit_is : (text : List ℕ) (items : List Placed) (h : HasRead text items) (m : Measure) (ops : List Op) → IsMeasureOf measured_as ops m → ops ≡ tree_ops (number_of ds) h.is_tree.spelled → passed_limit m.depth m.leaves ≡ limit_of h.tree
  limit_is text items h m ops e f =
      ap (λ (n : Measure). passed_limit n.depth n.leaves) (e h.tree (subst (λ (o : List Op). GiveTree (HasMeasure measured_as) o h.tree) (sym f) h.is_given))
      ∙ capped_limit (depth h.tree) (leaves (pattern_of h.tree)) h.deep

  -- a text that passes a limit is refused
  pub refused : (text : List ℕ) (items : List Placed) (h : HasRead text items) (m : Measure) (ops : List Op) (f : PatternFault) → IsMeasureOf measured_as ops m → ops ≡ tree_ops (number_of ds) h.is_tree.spelled
      → passed_limit m.depth m.leaves ≡ Some f → IsFault text ds f
  refused text items h m ops f e g passes =
      let over = sym (limit_is text items h m ops e g) ∙ passes in
      beyond_is_fault text ds (depth h.tree) (leaves (pattern_of h.tree)) f over (record { tree = h.tree; is_tree = h.is_tree; passes = over })

  -- the patterns of what the operations use are known
  use_built : (ops : List Op) (needs : List ℕ) (known : List (ℕ × Pattern)) → AreNeeded bodies ops needs → AreKnown ds needs known → (spelled : Tree) → ops ≡ tree_ops (number_of ds) spelled
      → AreSo ds (HasPattern known) (tree_items spelled)
  use_built ops needs known needed k spelled g i u d other at t =
      k i d other (needed.all i (directly i (subst (λ (o : List Op). Substitutes o i) (sym g) (tree_puts ds spelled i u)) (let n = a.body_count in omega (arith, get_within ds i d at)))) at t

  -- with the definitions put in, a tree has the pattern that its operations build
  pub put_in_is : (ops : List Op) (r : Regex) (needs : List ℕ) (known : List (ℕ × Pattern)) → trees.IsPatternOf known ops r → AreNeeded bodies ops needs → AreKnown ds needs known
      → (tree spelled : Tree) → PutIn ds tree spelled → ops ≡ tree_ops (number_of ds) spelled → r ≡ pattern_of tree
  put_in_is ops r needs known is needed k tree spelled put g =
      is tree (given ds (HasPattern known) ops tree spelled put (use_built ops needs known needed k spelled g) g)

  -- and they give a tree that is not deep
  pub put_in_shallow : (ops : List code.Op) (needs : List ℕ) (known : List (ℕ × Pattern)) → IsWithinDepth ds ops → AreNeeded bodies (ops_of ops) needs → AreKnown ds needs known → GiveShallow known (ops_of ops)
  put_in_shallow ops needs known w needed k =
      record { tree = w.tree; given = given ds (HasPattern known) (ops_of ops) w.tree w.spelled w.put_in (use_built (ops_of ops) needs known needed k w.spelled w.are) w.are; shallow = w.shallow }

  -- a text within the limits has a pattern
  pub accepted : (text : List ℕ) (items : List Placed) (h : HasRead text items) (m : Measure) (ops : List Op) (r : Regex) → IsMeasureOf measured_as ops m → ops ≡ tree_ops (number_of ds) h.is_tree.spelled
      → passed_limit m.depth m.leaves ≡ None → r ≡ pattern_of h.tree → IsPatternOf ds text r
  accepted text items h m ops r e g within is =
      record { tree = h.tree; is_tree = h.is_tree; within = sym (limit_is text items h m ops e g) ∙ within; is = is }

  -- the tree of a text within the limits is not deep
  pub is_within : (items : List Placed) (m : Measure) (ops : List code.Op) → IsMeasureOf measured_as (ops_of ops) m → ((t : Tree) → items_of items ≡ tree_items t → ops_of ops ≡ tree_ops (number_of ds) t)
      → passed_limit m.depth m.leaves ≡ None → (text : List ℕ) → IsNamed ds text items → IsWithinDepth ds ops
  is_within items m ops e g within text n =
      let h = has_read text items n.read n.defined n.few in
      let are = g h.is_tree.spelled h.items_is in
      let limit = sym (limit_is text items h m (ops_of ops) e are) ∙ within in
      record { tree = h.tree; spelled = h.is_tree.spelled; put_in = h.is_tree.put_in; are = are; shallow = limit_depth h.tree limit }

  pub refuses : (items : List Placed) (m : Measure) (ops : List Op) (f : PatternFault) → IsMeasureOf measured_as ops m → ((t : Tree) → items_of items ≡ tree_items t → ops ≡ tree_ops (number_of ds) t)
      → passed_limit m.depth m.leaves ≡ Some f → (text : List ℕ) → IsNamed ds text items → IsFault text ds f
  refuses items m ops f e g passes text n = let h = has_read text items n.read n.defined n.few in refused text items h m ops f e (g h.is_tree.spelled h.items_is) passes

  pub accepts : (items : List Placed) (m : Measure) (ops : List Op) (r : Regex) → IsMeasureOf measured_as ops m → ((t : Tree) → items_of items ≡ tree_items t → ops ≡ tree_ops (number_of ds) t)
      → passed_limit m.depth m.leaves ≡ None → ((tree spelled : Tree) → PutIn ds tree spelled → ops ≡ tree_ops (number_of ds) spelled → r ≡ pattern_of tree) → (text : List ℕ) → IsNamed ds text items → IsPatternOf ds text r
  accepts items m ops r e g within is text n =
      let h = has_read text items n.read n.defined n.few in
      accepted text items h m ops r e (g h.is_tree.spelled h.items_is) within (is h.tree h.is_tree.spelled h.is_tree.put_in (g h.is_tree.spelled h.items_is))
