-- The graph of uses, and what reaches what in it.
use Rattle.std.proofs.Common.{◌≡◌, ◌⊎◌, ℕ, ◌<◌, List, [], ◌∷◌, ◌++◌, length, get_or, refl, sym, ap, ◌∙◌, subst, inl, inr, arith}
use Rattle.std.specs.Prelude.{Option, Some, None, Contains, slice_get}
use Rattle.std.specs.List.{filter_map, AllByRecursion}
use Rattle.std.specs.Str.{bytes_eq}
use Rattle.std.specs.Global.{Vec}
use Rattle.std.proofs.lemmas.List.Elements.{Contains-append_right, Contains-append_cases}
use Rattle.std.proofs.lemmas.List.Quantifiers.{position-Some}
use Rattle.std.proofs.lemmas.Option.{slice_get-get_or, slice_get_within}
use Rattle.cs_graph.specs.Graph.{Edge, IsGraph, Path, edge, longer, Leads, HasCycle}
use Rattle.cs_graph.specs.Graph as graphs
use Rattle.cs_graph.proofs.Single.{contained_alone, contains_none}
use Rattle.cs_graph.proofs.Acyclic.{no_cycle}
use Rattle.cs_pattern_parts.specs.declared.items.item.Placed as held
use Rattle.cs_pattern_parts.specs.Items.Items.{Item, class, quoted, named, opening, closing, bar, repetition, Placed, items_of}
use Rattle.cs_pattern_parts.specs.Items.Views.{placed_all}
use Rattle.cs_pattern.specs.Text.Checked.{IsOrder}
use Rattle.cs_pattern.specs.Text.Checking.{HasNoCycle}
use Rattle.cs_pattern.specs.Operations.Definitions.{Definition}
use Rattle.cs_pattern.specs.Text.Stages.{AreComponents, AreRead, IsUseGraph, Meets}
use Rattle.cs_pattern.specs.Text.Table.{Reads}
use Rattle.cs_pattern.specs.Text.Uses.{used, Uses, UsesDefinition, Reaches, directly, through, LeadsTo}
use Rattle.cs_pattern.proofs.OnText.Readings.{one_reading}

-- ---- what items use

contains_first : (x : ℕ) (xs : List ℕ) → Contains (x ∷ xs) x
contains_first x xs = (0, omega arith, refl)

contains_rest : (x : ℕ) (xs : List ℕ) (y : ℕ) → Contains xs y → Contains (x ∷ xs) y
contains_rest x xs y h = Contains-append_right (x ∷ []) xs y h

module _ (ds : List Definition) where
  more_contained : (x : Item) (xs : List Item) (j : ℕ) (o : Option ℕ) → used ds x ≡ o → Contains (filter_map (used ds) xs) j → Contains (filter_map (used ds) (x ∷ xs)) j
  more_contained x xs j None e h = rw e h
  more_contained x xs j (Some i) e h = rw e (contains_rest i (filter_map (used ds) xs) j h)

  pub uses_contained : (xs : List Item) (j : ℕ) → Uses ds xs j → Contains (filter_map (used ds) xs) j
  uses_contained [] j h = absurd h
  uses_contained (x ∷ xs) j (inl e) = rw e (contains_first j (filter_map (used ds) xs))
  uses_contained (x ∷ xs) j (inr h) = more_contained x xs j (used ds x) refl (uses_contained xs j h)

  pub contained_uses : (xs : List Item) (j : ℕ) → Contains (filter_map (used ds) xs) j → Uses ds xs j
  contained_uses [] j h = contains_none j h
  contained_uses (x ∷ xs) j h = by_use (used ds x) refl (contained_uses xs j)
    where
      by_use : (o : Option ℕ) → used ds x ≡ o → (Contains (filter_map (used ds) xs) j → Uses ds xs j) → Uses ds (x ∷ xs) j
      by_use None e more = inr (more (rw e at h))
      by_use (Some i) e more = elim (Contains-append_cases (i ∷ []) (filter_map (used ds) xs) j (rw e at h)) [
        | inl here ↦ inl (e ∙ ap Some (sym (contained_alone i j here)))
        | inr there ↦ inr (more there)
      ]

  -- what an item names is a definition
  pub used_within : (x : Item) (j : ℕ) → used ds x ≡ Some j → j < length ds
  used_within (named name) j e = (position-Some (λ d. bytes_eq name d.name) ds j (record { name = []; text = [] }) e).0
  used_within (class s) j e = absurd cc
  used_within (quoted s) j e = absurd cc
  used_within opening j e = absurd cc
  used_within closing j e = absurd cc
  used_within bar j e = absurd cc
  used_within (repetition r) j e = absurd cc

  pub uses_within : (xs : List Item) (j : ℕ) → Uses ds xs j → j < length ds
  uses_within [] j h = absurd h
  uses_within (x ∷ xs) j (inl e) = used_within x j e
  uses_within (x ∷ xs) j (inr h) = uses_within xs j h

-- ---- the graph

-- the row of the items at the index is what they use
pub record HasUses (ds : List Definition) (graph : List (Vec ℕ)) (index : ℕ) (items : List held.Placed) : Type 0 where
  pub row : Vec ℕ
  pub there : slice_get graph index ≡ Some row
  pub are : row.items ≡ filter_map (used ds) (items_of (placed_all items))

pub definition_at : (ds : List Definition) (i : ℕ) → i < length ds → (d : Definition) × (slice_get ds i ≡ Some d)
definition_at ds i lt = (get_or ds i (record { name = []; text = [] }), slice_get-get_or ds i (record { name = []; text = [] }) lt)

module _ (ds : List Definition) (all : List (Vec held.Placed)) (graph : List (Vec ℕ)) (read : AreRead ds all) (count : length graph ≡ length all) (rows : (i : ℕ) (items : Vec held.Placed) → slice_get all i ≡ Some items → HasUses ds graph i items.items) where
  edge_is_use : (from to : ℕ) → Edge graph from to → UsesDefinition ds from to
  edge_is_use from to e =
      let lt = slice_get_within graph from e.successors e.is in
      let size = read.count in
      let d = definition_at ds from (omega arith) in
      let h = read.each from d.0 d.1 in
      let r = rows from h.items h.there in
      let same : e.successors ≡ r.row = cc (e.is, r.there) in
      record {
        definition = d.0;
        is = d.1;
        items = placed_all h.items.items;
        read = h.read;
        uses = contained_uses ds (items_of (placed_all h.items.items)) to (subst (λ (xs : List ℕ). Contains xs to) (ap (λ (v : Vec ℕ). v.items) same ∙ r.are) e.has);
      }

  use_is_edge : (from to : ℕ) → UsesDefinition ds from to → Edge graph from to
  use_is_edge from to u =
      let h = read.each from u.definition u.is in
      let r = rows from h.items h.there in
      let same = one_reading u.definition.text u.items (placed_all h.items.items) u.read h.read in
      record {
        successors = r.row;
        is = r.there;
        has = subst (λ (xs : List ℕ). Contains xs to) (sym r.are) (uses_contained ds (items_of (placed_all h.items.items)) to (subst (λ (xs : List Placed). Uses ds (items_of xs) to) same u.uses));
      }

  pub use_graph : IsUseGraph ds graph
  use_graph = record { count = count ∙ read.count; used = edge_is_use; all = use_is_edge }

module _ (ds : List Definition) (graph : List (Vec ℕ)) (g : IsUseGraph ds graph) where
  pub is_graph : IsGraph graph
  is_graph from to e = let u = g.used from to e in let lt = uses_within ds (items_of u.items) to u.uses in let size = g.count in omega arith

  pub path_reaches : (from to : ℕ) → Path graph from to → Reaches ds from to
  path_reaches from to (edge a b e) = directly a b (g.used a b e)
  path_reaches from to (longer a next b e p) = through a next b (g.used a next e) (path_reaches next b p)

  pub reaches_path : (from to : ℕ) → Reaches ds from to → Path graph from to
  reaches_path from to (directly a b u) = edge a b (g.all a b u)
  reaches_path from to (through a next b u r) = longer a next b (g.all a next u) (reaches_path next b r)

  pub leads_reaches : (from to : ℕ) → Leads graph from to → Meets ds from to
  leads_reaches from to (inl e) = inl e
  leads_reaches from to (inr p) = inr (path_reaches from to p)

  pub reaches_leads : (from to : ℕ) → Meets ds from to → Leads graph from to
  reaches_leads from to (inl e) = inl e
  reaches_leads from to (inr r) = inr (reaches_path from to r)

  -- the components of the graph are those of the definitions
  pub components_of_uses : (components : List ℕ) → graphs.AreComponents graph components → AreComponents ds components
  components_of_uses components a = record {
    count = a.size ∙ g.count;
    same = λ i j lt within.
        let size = g.count in
        let s = a.same i j (omega arith) (omega arith) in (
          λ e. let both = s.0 e in (leads_reaches i j both.0, leads_reaches j i both.1),
          λ both. s.1 (reaches_leads i j both.0, reaches_leads j i both.1),
        );
  }

  pub order_of_uses : (order : List ℕ) → graphs.IsOrder graph order → IsOrder ds order
  order_of_uses order o = record {
    all = λ i lt. let size = g.count in o.all i (omega arith);
    within = λ i h. let lt = o.ordered.within i h in let size = g.count in omega arith;
    behind = λ before after i j e u. o.ordered.behind before after i j e (g.all i j u);
    once = o.ordered.once;
  }

  pub no_cycle_of_uses : (order : List ℕ) → graphs.IsOrder graph order → HasNoCycle ds
  no_cycle_of_uses order o i r = no_cycle graph order i o (reaches_path i i r)

  pub cycle_of_uses : HasCycle graph → HasNoCycle ds → ⊥
  cycle_of_uses c none = none c.0 (path_reaches c.0 c.0 c.1)

-- ---- the first item that leads to a definition

pub no_leads : (ds : List Definition) (to : ℕ) (ps : List Placed) → AllByRecursion (λ p. LeadsTo ds to p → ⊥) ps → (next : ℕ) → Uses ds (items_of ps) next → (next ≡ to) ⊎ Reaches ds next to → ⊥
no_leads ds to [] none next u r = absurd u
no_leads ds to (p ∷ ps) none next (inl e) r = none.0 (next, e, r)
no_leads ds to (p ∷ ps) none next (inr u) r = no_leads ds to ps none.1 next u r

pub reaches_first : (ds : List Definition) (from to : ℕ) → Reaches ds from to → (next : ℕ) × UsesDefinition ds from next × ((next ≡ to) ⊎ Reaches ds next to)
reaches_first ds from to (directly a b u) = (b, u, inl refl)
reaches_first ds from to (through a next b u r) = (next, u, inr r)

pub all_push : {A : Type 0} (P : A → Type 0) (xs : List A) (y : A) → AllByRecursion P xs → P y → AllByRecursion P (xs ++ y ∷ [])
all_push P [] y h p = (p, tt)
all_push P (x ∷ xs) y h p = (h.0, all_push P xs y h.1 p)

-- a definition none of whose items leads to it doesn't reach itself
pub not_reached : (ds : List Definition) (index : ℕ) (text : List ℕ) (ps : List Placed) (d : Definition) → slice_get ds index ≡ Some d → Reads d.text ps → AllByRecursion (λ p. LeadsTo ds index p → ⊥) ps → Reaches ds index index → ⊥
not_reached ds index text ps d is read none r =
    let f = reaches_first ds index index r in
    let u = f.1 in
    let same : d ≡ u.definition = cc (is, u.is) in
    let items = one_reading u.definition.text u.items ps u.read (subst (λ (x : Definition). Reads x.text ps) same read) in
    no_leads ds index ps none f.0 (subst (λ (xs : List Placed). Uses ds (items_of xs) f.0) items u.uses) f.2
