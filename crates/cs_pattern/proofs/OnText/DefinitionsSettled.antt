-- Definitions are accepted or refused.
use Rattle.std.proofs.Common.{◌≡◌, ◌⊎◌, ℕ, ◌<◌, List, [], length, refl, sym, ◌∙◌, subst, inl, inr}
use Rattle.std.specs.Prelude.{Option, Some, None, slice_get}
use Rattle.std.proofs.lemmas.Option.{slice_get_within, same_Some}
use Rattle.cs_pattern_parts.specs.Items.Items.{Placed}
use Rattle.cs_pattern.specs.declared.text.fault.PatternFault.{PatternFault}
use Rattle.cs_pattern.specs.declared.text.fault.PatternFault.TheVariants.{UndefinedName, DefinitionCycle}
use Rattle.cs_pattern.specs.Text.Answers.{limit_of, IsBeyond}
use Rattle.cs_pattern.specs.Text.Checking.{IsReadable, HasAllNames, IsAccepted, Each, HasNoCycle, stopped, undefined, cyclic, too_large}
use Rattle.cs_pattern.specs.Text.Laws.{HaveVerdict}
use Rattle.cs_pattern.specs.Text.Names.{first_undefined}
use Rattle.cs_pattern.specs.Text.Substitution.{IsTreeOf}
use Rattle.cs_pattern.specs.Text.Table.{Reads, IsFirstStop}
use Rattle.cs_pattern.specs.Text.Uses.{Reaches}
use Rattle.cs_pattern.specs.Operations.Definitions.{Definition}
use Rattle.cs_pattern.specs.Operations.Depth.{pattern_of}
use Rattle.cs_pattern.specs.Operations.Grammar.{Tree}
use Rattle.cs_pattern.proofs.OnText.Deciding.{first_bad, reaches_or_not, first_to}
use Rattle.cs_pattern.proofs.OnText.DefinitionTrees.{each_has_tree}
use Rattle.cs_pattern.proofs.OnText.Existing.{reads_or_stops}
use Rattle.cs_pattern.proofs.OnText.Linked.{not_reached, reaches_first}

module _ (ds : List Definition) where
  -- each definition is good or bad: a first is bad, or all are good
  module _ (Good Bad : Definition → Type 0) (each : (i : ℕ) (d : Definition) → slice_get ds i ≡ Some d → Good d ⊎ Bad d) where
    abbrev GoodAt : ℕ → Type 0
    GoodAt i = (d : Definition) → slice_get ds i ≡ Some d → Good d

    abbrev BadAt : ℕ → Type 0
    BadAt i = (d : Definition) × (slice_get ds i ≡ Some d) × Bad d

    at_index : (i : ℕ) → GoodAt i ⊎ BadAt i
    at_index i = by_got (slice_get ds i) refl
      where
        by_got : (o : Option Definition) → slice_get ds i ≡ o → GoodAt i ⊎ BadAt i
        by_got None e = inl (λ d f. let g : None ≡ Some d = sym e ∙ f in absurd cc)
        by_got (Some d) e = elim (each i d e) [
          | inl g ↦ inl (λ c f. subst Good (same_Some d c (sym e ∙ f)) g)
          | inr b ↦ inr (d, e, b)
        ]

    pub record FirstBad : Type 0 where
      pub index : ℕ
      pub d : Definition
      pub is : slice_get ds index ≡ Some d
      pub bad : Bad d
      pub before : (i : ℕ) (c : Definition) → i < index → slice_get ds i ≡ Some c → Good c

    first_of : FirstBad ⊎ ((i : ℕ) (d : Definition) → slice_get ds i ≡ Some d → Good d)
    first_of = elim (first_bad GoodAt BadAt at_index (length ds)) [
      | inl b ↦ inl (record { index = b.0; d = b.1.0; is = b.1.1; bad = b.1.2; before = λ i c lt is. b.2 i lt c is })
      | inr all ↦ inr (λ i d is. all i (slice_get_within ds i d is) d is)
    ]

  abbrev Undefined : Definition → Type 0
  Undefined d = (items : List Placed) × (at : ℕ) × Reads d.text items × (first_undefined ds items ≡ Some at)

  limits : Each (HasAllNames ds) ds → HasNoCycle ds → HaveVerdict ds
  limits named no_cycle = elim (first_of (λ d. IsAccepted ds d.text) (λ d. (f : PatternFault) × IsBeyond d.text ds f) each) [
    | inl b ↦ inr ((b.index, b.bad.0), too_large (record { definition = b.d; is = b.is; beyond = b.bad.1; before = b.before; named = named; no_cycle = no_cycle }))
    | inr all ↦ inl all
  ]
    where
      by_limit : (text : List ℕ) (tree : Tree) → IsTreeOf ds text tree → (o : Option PatternFault) → limit_of tree ≡ o → IsAccepted ds text ⊎ ((f : PatternFault) × IsBeyond text ds f)
      by_limit text tree is None e = inl (pattern_of tree, record { tree = tree; is_tree = is; within = e; is = refl })
      by_limit text tree is (Some f) e = inr (f, record { tree = tree; is_tree = is; passes = e })

      each : (i : ℕ) (d : Definition) → slice_get ds i ≡ Some d → IsAccepted ds d.text ⊎ ((f : PatternFault) × IsBeyond d.text ds f)
      each i d is = let t = each_has_tree ds named no_cycle i d is in by_limit d.text t.0 t.1 (limit_of t.0) refl

  cycles : Each IsReadable ds → Each (HasAllNames ds) ds → HaveVerdict ds
  cycles readable named = elim (first_bad (λ i. Reaches ds i i → ⊥) (λ i. Reaches ds i i) at_index (length ds)) [
    | inl b ↦ told b.0 b.1 b.2
    | inr none ↦ limits named (no_cycle none)
  ]
    where
      at_index : (i : ℕ) → (Reaches ds i i → ⊥) ⊎ Reaches ds i i
      at_index i = elim (reaches_or_not ds i readable i) [ inl r ↦ inr r | inr none ↦ inl none ]

      no_cycle : ((i : ℕ) → i < length ds → Reaches ds i i → ⊥) → HasNoCycle ds
      no_cycle none i r = let u = (reaches_first ds i i r).1 in none i (slice_get_within ds i u.definition u.is) r

      told : (index : ℕ) → Reaches ds index index → ((i : ℕ) → i < index → Reaches ds i i → ⊥) → HaveVerdict ds
      told index r before =
          let u = (reaches_first ds index index r).1 in
          elim (first_to ds index readable u.items [] u.items refl tt) [
            | inl first ↦ inr ((index, DefinitionCycle first.0), cyclic first.0 refl (record { definition = u.definition; is = u.is; items = u.items; read = u.read; first = first.1; before = before; named = named }))
            | inr none ↦ absurd (not_reached ds index u.definition.text u.items u.definition u.is u.read none r)
          ]

  names : Each IsReadable ds → HaveVerdict ds
  names readable = elim (first_of (λ d. HasAllNames ds d.text) Undefined each) [
    | inl b ↦ inr ((b.index, UndefinedName b.bad.1), undefined b.bad.1 refl (record { definition = b.d; is = b.is; items = b.bad.0; read = b.bad.2; first = b.bad.3; before = b.before; readable = readable }))
    | inr named ↦ cycles readable named
  ]
    where
      by_name : (d : Definition) (items : List Placed) → Reads d.text items → (o : Option ℕ) → first_undefined ds items ≡ o → HasAllNames ds d.text ⊎ Undefined d
      by_name d items read None e = inl (items, read, e)
      by_name d items read (Some at) e = inr (items, at, read, e)

      each : (i : ℕ) (d : Definition) → slice_get ds i ≡ Some d → HasAllNames ds d.text ⊎ Undefined d
      each i d is = let r = readable i d is in by_name d r.0 r.1 (first_undefined ds r.0) refl

  pub accepted_or_refused : HaveVerdict ds
  accepted_or_refused = elim (first_of (λ d. IsReadable d.text) (λ d. (f : PatternFault) × IsFirstStop d.text f) (λ i d is. reads_or_stops d.text)) [
    | inl b ↦ inr ((b.index, b.bad.0), stopped (record { definition = b.d; is = b.is; stops = b.bad.1; before = b.before }))
    | inr readable ↦ names readable
  ]
