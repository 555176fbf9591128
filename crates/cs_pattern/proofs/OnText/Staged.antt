-- The stages of checking definitions.
use Rattle.std.proofs.Common.{◌≡◌, ◌⊎◌, ℕ, zero, suc, ◌+◌, ◌≤◌, ◌<◌, ◌^◌, List, [], ◌∷◌, ◌++◌, length, get_or, take, drop, set, refl, sym, ap, ◌∙◌, subst, inl, inr, arith, length-append}
use Rattle.std.specs.Prelude.{Some, None, Contains, slice_get, option_map}
use Rattle.std.specs.List.{AllByRecursion}
use Rattle.std.specs.Global.{Vec}
use Rattle.std.proofs.Math.Seq.{drop-cons}
use Rattle.std.proofs.lemmas.Bool.{cases_eq, false≢true}
use Rattle.std.proofs.lemmas.List.{get_or-set_same, get_or-set_other, take-append-drop, take_more, take_all}
use Rattle.std.proofs.lemmas.List.Elements.{Contains-append_cases}
use Rattle.std.proofs.lemmas.List.Sums.{sum_by-cons, get_or-le-sum_by}
use Rattle.std.proofs.lemmas.Option.{slice_get_within, get_or_from_slice_get, slice_get-map}
use Rattle.cs_graph.proofs.Pushing.{below_next}
use Rattle.cs_graph.proofs.Single.{contained_alone}
use Rattle.cs_pattern_parts.specs.declared.items.item.Placed as held
use Rattle.cs_pattern.specs.declared.text.place.PatternPlace.{PatternPlace}
use Rattle.cs_pattern_parts.specs.Items.Items.{Item, Placed, items_of}
use Rattle.cs_pattern_parts.specs.Items.Views.{placed_all}
use Rattle.cs_pattern.specs.declared.text.fault.CheckError as errors
use Rattle.cs_pattern.specs.declared.text.fault.CheckError.TheVariants as error_kinds
use Rattle.cs_pattern.specs.declared.text.fault.PatternFault.{PatternFault}
use Rattle.cs_pattern.specs.declared.text.fault.PatternFault.TheVariants.{UndefinedName, DefinitionCycle}
use Rattle.cs_pattern.specs.declared.operations.measure.Measure.{Measure}
use Rattle.cs_pattern.specs.declared.operations.operations.Op as code
use Rattle.cs_pattern.specs.Text.Checked.{IsOrder}
use Rattle.cs_pattern.specs.Text.Answers.{limit_of}
use Rattle.cs_pattern.specs.Text.Checking.{IsReadable, HasAllNames, IsAccepted, Each, EachBefore, HasNoCycle, IsRefused, RefusesDefinitions, stopped, undefined, cyclic, too_large}
use Rattle.cs_pattern.specs.Operations.Definitions.{Definition, definition_of, definitions_of, total_bytes}
use Rattle.cs_pattern.specs.Operations.Grammar.{Tree, IsDerivation, tree_items}
use Rattle.cs_pattern.specs.Text.Limits.{passed_limit}
use Rattle.cs_pattern.specs.Text.Names.{first_undefined}
use Rattle.cs_pattern.specs.Operations.Operations.{ops_of, tree_ops, number_of}
use Rattle.cs_pattern_parts.specs.Tree.Pattern.{leaves}
use Rattle.cs_pattern.specs.Text.Stages.{StopsAs, HasItems, AreRead, AreNamed, AreItemsOf, HasOperations, AreOperations, IsMeasured, AreMeasures, HasTree}
use Rattle.cs_pattern.specs.Text.Substitution.{IsTreeOf}
use Rattle.cs_pattern.specs.Operations.Depth.{depth, pattern_of, measure_of, leaf}
use Rattle.cs_pattern.specs.Text.Table.{Reads, IsFirstStop}
use Rattle.cs_pattern.specs.Text.Uses.{Uses, LeadsTo, Reaches, IsFirstTo}
use Rattle.cs_pattern.proofs.OnText.HasDerivation.{has_derivation}
use Rattle.cs_pattern.proofs.OnText.Limited.{capped_limit}
use Rattle.cs_pattern.proofs.OnText.Linked.{definition_at, not_reached}
use Rattle.cs_pattern.specs.Operations.Trees.{HasMeasure, GiveTree}
use Rattle.cs_pattern.proofs.OnText.Given.{AreSo, given}
use Rattle.cs_pattern.proofs.OnText.PuttingIn.{one_tree_of, one_spelled}
use Rattle.cs_pattern.proofs.OnText.Readings.{none_at_end}

-- ---- lists

pub get_still : {A : Type 0} (xs : List A) (y : A) (i : ℕ) → i < length xs → slice_get (xs ++ y ∷ []) i ≡ slice_get xs i
get_still [] y i lt = absurd (omega arith)
get_still (x ∷ xs) y zero lt = refl
get_still (x ∷ xs) y (suc i) lt = get_still xs y i (omega arith)

pub get_last : {A : Type 0} (xs : List A) (y : A) (i : ℕ) → i ≡ length xs → slice_get (xs ++ y ∷ []) i ≡ Some y
get_last [] y zero e = refl
get_last [] y (suc i) e = absurd (omega arith)
get_last (x ∷ xs) y zero e = absurd (omega arith)
get_last (x ∷ xs) y (suc i) e = get_last xs y i (omega arith)

-- ---- texts

-- a text that is read to its end has a byte
pub not_empty : (text : List ℕ) (items : List Placed) → Reads text items → 0 < length text
not_empty (b ∷ text) items r = omega arith
not_empty [] [] r = absurd (false≢true (ap (λ (p : PatternPlace). p.behind_atom) (r.read.1 ∙ r.ends)))
not_empty [] (x ∷ xs) r = absurd (none_at_end [] 0 r.read.0 x.item (omega arith) r.read.3)

-- so many texts that are read have so many bytes
pub count_bytes : (ds : List Definition) (n : ℕ) → n ≤ length ds → ((i : ℕ) (d : Definition) → i < n → slice_get ds i ≡ Some d → 0 < length d.text) → n ≤ total_bytes ds
count_bytes ds zero le h = omega arith
count_bytes [] (suc n) le h = absurd (omega arith)
count_bytes (d ∷ ds) (suc n) le h =
    let first = h 0 d (omega arith) refl in
    let rest = count_bytes ds n (omega arith) (λ i e lt is. h (suc i) e (omega arith) is) in
    omega (arith, first, rest, sum_by-cons (λ (x : Definition). length x.name + length x.text) d ds)

pub text_bytes : (ds : List Definition) (i : ℕ) (d : Definition) → slice_get ds i ≡ Some d → length d.text ≤ total_bytes ds
text_bytes ds i d is =
    let h = get_or-le-sum_by (λ (x : Definition). length x.name + length x.text) ds i d (slice_get_within ds i d is) in
    let e = get_or_from_slice_get ds i d d is in
    let f = ap (λ (x : Definition). length x.name + length x.text) e in
    omega (arith, h, f)

module _ (ds : List Definition) (all : List (Vec held.Placed)) where
  pub items_push : (v : Vec held.Placed) (i : ℕ) (text : List ℕ) → i < length all → HasItems all i text → HasItems (all ++ v ∷ []) i text
  items_push v i text lt h = record { items = h.items; there = get_still all v i lt ∙ h.there; read = h.read; short = h.short }

  pub items_new : (v : Vec held.Placed) (i : ℕ) (text : List ℕ) → i ≡ length all → Reads text (placed_all v.items) → length v.items ≤ length text → HasItems (all ++ v ∷ []) i text
  items_new v i text e read short = record { items = v; there = get_last all v i e; read = read; short = short }

  pub few_read : (n : ℕ) → n ≤ length ds → ((i : ℕ) (d : Definition) → i < n → slice_get ds i ≡ Some d → HasItems all i d.text) → n ≤ total_bytes ds
  few_read n le h = count_bytes ds n le (λ i d lt is. let r = h i d lt is in not_empty d.text (placed_all r.items.items) r.read)

  pub few : AreRead ds all → length ds ≤ total_bytes ds
  few r = few_read (length ds) (omega arith) (λ i d lt is. r.each i d is)

-- the definition of an entry
pub entry_definition : (es : List (Vec ℕ × Vec ℕ)) (i : ℕ) (n t : Vec ℕ) → slice_get es i ≡ Some (n, t) → slice_get (definitions_of es) i ≡ Some (definition_of (n, t))
entry_definition es i n t e = slice_get-map definition_of es i ∙ ap (option_map definition_of) e

-- ---- refusals

module _ (ds : List Definition) (all : List (Vec held.Placed)) (read : AreRead ds all) where
  pub are_readable : Each IsReadable ds
  are_readable i d is = let h = read.each i d is in (placed_all h.items.items, h.read)

  -- the definition whose items stand at the index
  pub definition_of_items : (i : ℕ) (items : Vec held.Placed) → slice_get all i ≡ Some items → (d : Definition) × (slice_get ds i ≡ Some d) × Reads d.text (placed_all items.items)
  definition_of_items i items is =
      let lt = slice_get_within all i items is in
      let size = read.count in
      let d = definition_at ds i (omega arith) in
      let h = read.each i d.0 d.1 in
      let same : h.items ≡ items = cc (is, h.there) in
      (d.0, d.1, subst (λ (v : Vec held.Placed). Reads d.0.text (placed_all v.items)) same h.read)

  pub uses_of_items : (i : ℕ) (items : Vec held.Placed) → slice_get all i ≡ Some items → AreItemsOf ds i (placed_all items.items)
  uses_of_items i items is next u = let d = definition_of_items i items is in record { definition = d.0; is = d.1; items = placed_all items.items; read = d.2; uses = u }

  pub names_before : (end : ℕ) → ((i : ℕ) (items : Vec held.Placed) → i < end → slice_get all i ≡ Some items → first_undefined ds (placed_all items.items) ≡ None) → EachBefore end (HasAllNames ds) ds
  names_before end named i d lt is = let h = read.each i d is in (placed_all h.items.items, h.read, named i h.items lt h.there)

  pub have_names : AreNamed ds all → Each (HasAllNames ds) ds
  have_names named i d is = let h = read.each i d is in (placed_all h.items.items, h.read, named i h.items h.there)

  pub undefined_at : (index at : ℕ) (items : Vec held.Placed) → slice_get all index ≡ Some items → first_undefined ds (placed_all items.items) ≡ Some at
      → ((i : ℕ) (v : Vec held.Placed) → i < index → slice_get all i ≡ Some v → first_undefined ds (placed_all v.items) ≡ None) → IsRefused ds index (UndefinedName at)
  undefined_at index at items is first named =
      let d = definition_of_items index items is in
      undefined at refl (record { definition = d.0; is = d.1; items = placed_all items.items; read = d.2; first = first; before = names_before index named; readable = are_readable })

  pub cyclic_at : (index at : ℕ) (items : Vec held.Placed) → slice_get all index ≡ Some items → AreNamed ds all → IsFirstTo ds index (placed_all items.items) at
      → ((i : ℕ) → i < index → Reaches ds i i → ⊥) → IsRefused ds index (DefinitionCycle at)
  cyclic_at index at items is named first before =
      let d = definition_of_items index items is in
      cyclic at refl (record { definition = d.0; is = d.1; items = placed_all items.items; read = d.2; first = first; before = before; named = have_names named })

  pub not_cyclic : (index : ℕ) (items : Vec held.Placed) → slice_get all index ≡ Some items → AllByRecursion (λ p. LeadsTo ds index p → ⊥) (placed_all items.items) → Reaches ds index index → ⊥
  not_cyclic index items is none r =
      let d = definition_of_items index items is in
      not_reached ds index d.0.text (placed_all items.items) d.0 d.1 d.2 none r

pub stopped_at : (ds : List Definition) (all : List (Vec held.Placed)) (index : ℕ) (d : Definition) (fault : PatternFault) → slice_get ds index ≡ Some d → IsFirstStop d.text fault
    → ((i : ℕ) (e : Definition) → i < index → slice_get ds i ≡ Some e → HasItems all i e.text) → IsRefused ds index fault
stopped_at ds all index d fault is stops before =
    stopped (record { definition = d; is = is; stops = stops; before = λ i e lt at. let h = before i e lt at in (placed_all h.items.items, h.read) })

-- ---- limits

-- the measure of a definition tells its limit
pub limit_told : (ds : List Definition) (known : List Measure) → AreMeasures ds known → Each (HasTree ds) ds → (i : ℕ) (d : Definition) (tree : Tree) (m : Measure) → slice_get ds i ≡ Some d → IsTreeOf ds d.text tree → slice_get known i ≡ Some m → passed_limit m.depth m.leaves ≡ limit_of tree
limit_told ds known ms trees i d tree m is is_tree there =
    let t = trees i d is in
    let same = one_tree_of ds d.text t.tree tree t.is_tree is_tree in
    let shallow : depth tree < 2 ^ 32 = subst (λ w. depth w < 2 ^ 32) same t.shallow in
    let told : m ≡ measure_of tree = sym (get_or_from_slice_get known i m leaf there) ∙ ms.each i d tree is is_tree in
    ap (λ (x : Measure). passed_limit x.depth x.leaves) told ∙ capped_limit (depth tree) (leaves (pattern_of tree)) shallow

-- what is within the limits is accepted
pub accepted : (ds : List Definition) (text : List ℕ) (tree : Tree) → IsTreeOf ds text tree → limit_of tree ≡ None → IsAccepted ds text
accepted ds text tree is_tree within = (pattern_of tree, record { tree = tree; is_tree = is_tree; within = within; is = refl })

pub too_large_at : (ds : List Definition) (known : List Measure) (index : ℕ) (m : Measure) (fault : PatternFault) → AreMeasures ds known → Each (HasTree ds) ds → Each (HasAllNames ds) ds → HasNoCycle ds
    → slice_get known index ≡ Some m → passed_limit m.depth m.leaves ≡ Some fault
    → ((i : ℕ) (d : Definition) (tree : Tree) → i < index → slice_get ds i ≡ Some d → IsTreeOf ds d.text tree → limit_of tree ≡ None) → IsRefused ds index fault
too_large_at ds known index m fault ms trees names no_cycle there passes before =
    let size = ms.count in
    let lt = slice_get_within known index m there in
    let d = definition_at ds index (omega arith) in
    let t = trees index d.0 d.1 in
    too_large (record {
      definition = d.0;
      is = d.1;
      beyond = record { tree = t.tree; is_tree = t.is_tree; passes = sym (limit_told ds known ms trees index d.0 t.tree m d.1 t.is_tree there) ∙ passes };
      before = λ i e small at. let w = trees i e at in accepted ds e.text w.tree w.is_tree (before i e w.tree small at w.is_tree);
      named = names;
      no_cycle = no_cycle;
    })

-- one measure more is within the limits
pub limits_more : (ds : List Definition) (known : List Measure) (index : ℕ) (m : Measure) → AreMeasures ds known → Each (HasTree ds) ds → slice_get known index ≡ Some m → passed_limit m.depth m.leaves ≡ None
    → ((i : ℕ) (d : Definition) (tree : Tree) → i < index → slice_get ds i ≡ Some d → IsTreeOf ds d.text tree → limit_of tree ≡ None)
    → (i : ℕ) (d : Definition) (tree : Tree) → i < index + 1 → slice_get ds i ≡ Some d → IsTreeOf ds d.text tree → limit_of tree ≡ None
limits_more ds known index m ms trees there none before i d tree lt is is_tree = elim (below_next i index lt) [
  | inl less ↦ before i d tree less is is_tree
  | inr here ↦ sym (limit_told ds known ms trees i d tree m is is_tree (subst (λ n. slice_get known n ≡ Some m) (sym here) there)) ∙ none
]

-- ---- operations

module _ (ds : List Definition) (bodies : List (Vec code.Op)) where
  pub operations_push : (v : Vec code.Op) (i : ℕ) (text : List ℕ) → i < length bodies → HasOperations ds bodies i text → HasOperations ds (bodies ++ v ∷ []) i text
  operations_push v i text lt h = record { ops = h.ops; there = get_still bodies v i lt ∙ h.there; tree = h.tree; spelled = h.spelled; are = h.are }

  pub operations_new : (v : Vec code.Op) (i : ℕ) (text : List ℕ) (ps : List Placed) → i ≡ length bodies → Reads text ps → ((tree : Tree) → IsDerivation (items_of ps) tree → ops_of v.items ≡ tree_ops (number_of ds) tree) → HasOperations ds (bodies ++ v ∷ []) i text
  operations_new v i text ps e read h =
      let derived = has_derivation text ps read in
      record { ops = v; there = get_last bodies v i e; tree = derived.0; spelled = record { items = ps; read = read; derived = derived.1 }; are = h derived.0 derived.1 }

-- ---- measures

-- the operations of a definition give its tree, where those before it in the order have their measures
pub given_one : (ds : List Definition) (known : List Measure) (bodies : List (Vec code.Op)) (order before after : List ℕ) (x : ℕ) (ops : Vec code.Op) (d : Definition) (tree : Tree) → AreOperations ds bodies → IsOrder ds order
    → order ≡ before ++ x ∷ after → ((i : ℕ) → Contains before i → IsMeasured ds known i) → slice_get bodies x ≡ Some ops → slice_get ds x ≡ Some d → IsTreeOf ds d.text tree → GiveTree (HasMeasure known) (ops_of ops.items) tree
given_one ds known bodies order before after x ops d tree operations o place ms there is t =
    let h = operations.each x d is in
    let same : ops ≡ h.ops = cc (there, h.there) in
    let spelled = one_spelled d.text d.text t.spelled h.tree refl t.is_spelled h.spelled in
    let text = t.is_spelled in
    let each : AreSo ds (HasMeasure known) (tree_items t.spelled) = λ i u e w at is_tree.
    ms i (o.behind before after x i place (record { definition = d; is = is; items = text.items; read = text.read; uses = subst (λ (xs : List Item). Uses ds xs i) (sym text.derived) u })) e w at is_tree in
    given ds (HasMeasure known) (ops_of ops.items) tree t.spelled t.put_in each (ap (λ (v : Vec code.Op). ops_of v.items) same ∙ h.are ∙ ap (tree_ops (number_of ds)) (sym spelled))

pub measured_set : (ds : List Definition) (known : List Measure) (x : ℕ) (m : Measure) (Among : ℕ → Type 0) → x < length known
    → ((d : Definition) (tree : Tree) → slice_get ds x ≡ Some d → IsTreeOf ds d.text tree → m ≡ measure_of tree) → ((i : ℕ) → Among i → IsMeasured ds known i)
    → (i : ℕ) → Among i ⊎ (i ≡ x) → IsMeasured ds (set known x m) i
measured_set ds known x m Among lt new before i among d tree is t = elim (cases_eq i x) [
  | inl here ↦
      ap (λ n. get_or (set known x m) n leaf) here ∙ get_or-set_same known x m leaf lt
      ∙ new d tree (subst (λ n. slice_get ds n ≡ Some d) here is) t
  | inr other ↦ elim among [
    | inl was ↦ get_or-set_other known x i m leaf other ∙ before i was d tree is t
    | inr here ↦ absurd (other here)
  ]
]

-- a list falls into what stands before an index and what stands from it on
pub split_index : (xs : List ℕ) (k : ℕ) → k < length xs → xs ≡ take k xs ++ get_or xs k 0 ∷ drop (suc k) xs
split_index xs k lt = sym (take-append-drop k xs) ∙ ap (λ (ys : List ℕ). take k xs ++ ys) (drop-cons xs k 0 lt)

pub taken_cases : (xs : List ℕ) (k i : ℕ) → k < length xs → Contains (take (k + 1) xs) i → Contains (take k xs) i ⊎ (i ≡ get_or xs k 0)
taken_cases xs k i lt h =
    elim (Contains-append_cases (take k xs) (get_or xs k 0 ∷ []) i (subst (λ (ys : List ℕ). Contains ys i) (take_more xs k 0 lt) h)) [
      | inl before ↦ inl before
      | inr here ↦ inr (contained_alone (get_or xs k 0) i here)
    ]

pub all_measured : (ds : List Definition) (known : List Measure) (bodies : List (Vec code.Op)) (order : List ℕ) (k : ℕ) → length known ≡ length bodies → AreOperations ds bodies → IsOrder ds order → length order ≤ k
    → ((i : ℕ) → Contains (take k order) i → IsMeasured ds known i) → AreMeasures ds known
all_measured ds known bodies order k count operations o le each = record {
  count = count ∙ operations.count;
  each = λ i d tree is t. each i (subst (λ (xs : List ℕ). Contains xs i) (sym (take_all k order le)) (o.all i (slice_get_within ds i d is))) d tree is t;
}

-- ---- texts that stop

pub stops_refuse : (ds : List Definition) (all : List (Vec held.Placed)) (index : ℕ) (d : Definition) (error : errors.CheckError) → slice_get ds index ≡ Some d → StopsAs index d.text error
    → ((i : ℕ) (e : Definition) → i < index → slice_get ds i ≡ Some e → HasItems all i e.text) → RefusesDefinitions ds error
stops_refuse ds all index d (error_kinds.Fault at fault) is stops before = subst (λ n. IsRefused ds n fault) (sym stops.0) (stopped_at ds all index d fault is stops.1 before)
stops_refuse ds all index d error_kinds.Memory is stops before = tt

-- the items of one text more
pub more_items : (ds : List Definition) (all : List (Vec held.Placed)) (v : Vec held.Placed) (d : Definition) → slice_get ds (length all) ≡ Some d → Reads d.text (placed_all v.items) → length v.items ≤ length d.text
    → ((i : ℕ) (e : Definition) → i < length all → slice_get ds i ≡ Some e → HasItems all i e.text)
    → (i : ℕ) (e : Definition) → i < length (all ++ v ∷ []) → slice_get ds i ≡ Some e → HasItems (all ++ v ∷ []) i e.text
more_items ds all v d is read short before i e lt at = elim (below_next i (length all) (omega (arith, length-append all (v ∷ [])))) [
  | inl less ↦ items_push ds all v i e.text less (before i e less at)
  | inr here ↦
      let there : slice_get ds (length all) ≡ Some e = subst (λ n. slice_get ds n ≡ Some e) here at in
      let same : d ≡ e = cc (is, there) in
      items_new ds all v i e.text here (subst (λ (x : Definition). Reads x.text (placed_all v.items)) same read) (subst (λ (x : Definition). length v.items ≤ length x.text) same short)
]
