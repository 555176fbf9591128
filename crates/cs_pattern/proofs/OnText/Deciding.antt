-- Whether one definition reaches another is decided, by a search that enters no definition twice.
use Rattle.std.proofs.Common.{◌≡◌, ◌⊎◌, ℕ, zero, suc, ◌<◌, ◌≤◌, List, [], ◌∷◌, ◌++◌, length, refl, sym, ◌∙◌, subst, inl, inr, arith, append_assoc}
use Rattle.std.specs.Prelude.{Option, Some, None, slice_get}
use Rattle.std.specs.List.{AllByRecursion}
use Rattle.std.proofs.lemmas.Bool.{cases_eq, cases_lt}
use Rattle.std.proofs.lemmas.List.{append-nil}
use Rattle.std.proofs.lemmas.Option.{same_Some}
use Rattle.cs_pattern_parts.specs.Items.Items.{Item, Placed, items_of}
use Rattle.cs_pattern.specs.Text.Checking.{IsReadable, Each}
use Rattle.cs_pattern.specs.Text.Table.{Reads}
use Rattle.cs_pattern.specs.Text.Uses.{used, Uses, UsesDefinition, Reaches, directly, through, LeadsTo, IsFirstTo}
use Rattle.cs_pattern.specs.Operations.Definitions.{Definition}
use Rattle.cs_pattern.proofs.OnText.Indexes.{Among, among_or_not, Without, without, below, among_below, none_left}
use Rattle.cs_pattern.proofs.OnText.Linked.{uses_within, all_push}
use Rattle.cs_pattern.proofs.OnText.Readings.{one_reading}

-- each index below a bound is good or bad: a first is bad, or all are good
module _ (Good Bad : ℕ → Type 0) (each : (i : ℕ) → Good i ⊎ Bad i) where
  one_more : (n : ℕ) → ((i : ℕ) → i < n → Good i) → Good n → (i : ℕ) → i < suc n → Good i
  one_more n before g i lt = elim (cases_lt i n) [ inl less ↦ before i less | inr ge ↦ (let same : n ≡ i = omega arith in subst Good same g) ]

  pub first_bad : (n : ℕ) → ((index : ℕ) × Bad index × ((i : ℕ) → i < index → Good i)) ⊎ ((i : ℕ) → i < n → Good i)
  first_bad zero = inr (λ i lt. absurd (omega arith))
  first_bad (suc n) = elim (first_bad n) [
    | inl b ↦ inl b
    | inr before ↦ elim (each n) [ inl g ↦ inr (one_more n before g) | inr b ↦ inl (n, b, before) ]
  ]

module _ (ds : List Definition) (to : ℕ) where
  -- by definitions of the list alone
  data ReachesBy (left : List ℕ) : ℕ → Type 0 where
    at_once : (from : ℕ) → UsesDefinition ds from to → ReachesBy left from
    by_way : (from next : ℕ) → UsesDefinition ds from next → Among left next → ReachesBy left next → ReachesBy left from

  reached_within : (i j : ℕ) → Reaches ds i j → j ≡ to → ReachesBy (below (length ds)) i
  reached_within _ _ (directly i j u) e = at_once i (subst (UsesDefinition ds i) e u)
  reached_within _ _ (through i k j u r) e = by_way i k u (among_below (length ds) k (uses_within ds (items_of u.items) k u.uses)) (reached_within k j r e)

  -- the way goes past the definition, or it goes on from there
  past : (left : List ℕ) (k : ℕ) (w : Without left k) (i : ℕ) → ReachesBy left i → ReachesBy w.rest i ⊎ ReachesBy w.rest k
  past left k w _ (at_once from u) = inl (at_once from u)
  past left k w _ (by_way from next u among r) = by_rest (past left k w next r) (cases_eq k next)
    where
      by_rest : ReachesBy w.rest next ⊎ ReachesBy w.rest k → (k ≡ next) ⊎ (k ≡ next → ⊥) → ReachesBy w.rest from ⊎ ReachesBy w.rest k
      by_rest (inr s) same = inr s
      by_rest (inl s) (inl e) = inr (subst (ReachesBy w.rest) (sym e) s)
      by_rest (inl s) (inr differs) = inl (by_way from next u (w.others next among differs) s)

  not_past : (left : List ℕ) (j : ℕ) (w : Without left j) → Reaches ds j to ⊎ (ReachesBy w.rest j → ⊥) → Reaches ds j to ⊎ (ReachesBy left j → ⊥)
  not_past left j w (inl r) = inl r
  not_past left j w (inr none) = inr (λ r. elim (past left j w j r) [ inl s ↦ none s | inr s ↦ none s ])

  module _ (readable : Each IsReadable ds) where
    -- what leads on from a definition, by those of the list
    module _ (left : List ℕ) (inner : (j : ℕ) → Among left j → Reaches ds j to ⊎ (ReachesBy left j → ⊥)) where
      abbrev IsOrReaches : ℕ → Type 0
      IsOrReaches j = (j ≡ to) ⊎ Reaches ds j to

      abbrev LeadsBy : ℕ → Type 0
      LeadsBy j = (j ≡ to) ⊎ (Among left j × ReachesBy left j)

      leads : (j : ℕ) → IsOrReaches j ⊎ (LeadsBy j → ⊥)
      leads j = by_same (cases_eq j to)
        where
          by_inner : (j ≡ to → ⊥) → (a : Among left j) → Reaches ds j to ⊎ (ReachesBy left j → ⊥) → IsOrReaches j ⊎ (LeadsBy j → ⊥)
          by_inner differs a (inl r) = inl (inr r)
          by_inner differs a (inr none) = inr (λ h. elim h [ inl e ↦ differs e | inr r ↦ none r.1 ])

          by_among : (j ≡ to → ⊥) → Among left j ⊎ (Among left j → ⊥) → IsOrReaches j ⊎ (LeadsBy j → ⊥)
          by_among differs (inl a) = by_inner differs a (inner j a)
          by_among differs (inr none) = inr (λ h. elim h [ inl e ↦ differs e | inr r ↦ none r.0 ])

          by_same : (j ≡ to) ⊎ (j ≡ to → ⊥) → IsOrReaches j ⊎ (LeadsBy j → ⊥)
          by_same (inl e) = inl (inl e)
          by_same (inr differs) = by_among differs (among_or_not left j)

      abbrev Found : List Item → Type 0
      Found xs = (j : ℕ) × Uses ds xs j × IsOrReaches j

      abbrev NotFound : List Item → Type 0
      NotFound xs = (j : ℕ) → Uses ds xs j → LeadsBy j → ⊥

      items_lead : (xs : List Item) → Found xs ⊎ NotFound xs
      items_lead [] = inr (λ j u. absurd u)
      items_lead (x ∷ xs) = by_use (used ds x) refl (items_lead xs)
        where
          by_leads : (j : ℕ) → used ds x ≡ Some j → NotFound xs → IsOrReaches j ⊎ (LeadsBy j → ⊥) → Found (x ∷ xs) ⊎ NotFound (x ∷ xs)
          by_leads j e none (inl l) = inl (j, inl e, l)
          by_leads j e none (inr denied) = inr (λ k u l. elim u [
            | inl f ↦ denied (subst LeadsBy (same_Some k j (sym f ∙ e)) l)
            | inr v ↦ none k v l
          ])

          by_use : (o : Option ℕ) → used ds x ≡ o → Found xs ⊎ NotFound xs → Found (x ∷ xs) ⊎ NotFound (x ∷ xs)
          by_use o e (inl f) = inl (f.0, inr f.1, f.2)
          by_use None e (inr none) = inr (λ k u l. elim u [
            | inl f ↦ (let g : None ≡ Some k = sym e ∙ f in absurd cc)
            | inr v ↦ none k v l
          ])
          by_use (Some j) e (inr none) = by_leads j e none (leads j)

      same_uses : (i j : ℕ) (d : Definition) (items : List Placed) → slice_get ds i ≡ Some d → Reads d.text items → UsesDefinition ds i j → Uses ds (items_of items) j
      same_uses i j d items is read u =
          let same : d ≡ u.definition = cc (is, u.is) in
          let e = one_reading u.definition.text u.items items u.read (subst (λ (x : Definition). Reads x.text items) same read) in
          subst (λ (ps : List Placed). Uses ds (items_of ps) j) e u.uses

      no_way : (d : Definition) (items : List Placed) → Reads d.text items → NotFound (items_of items) → (i : ℕ) → slice_get ds i ≡ Some d → ReachesBy left i → ⊥
      no_way d items read none _ is (at_once from u) = none to (same_uses from to d items is read u) (inl refl)
      no_way d items read none _ is (by_way from next u a r) = none next (same_uses from next d items is read u) (inr (a, r))

      no_definition : (i : ℕ) → slice_get ds i ≡ None → ReachesBy left i → ⊥
      no_definition _ e (at_once from u) = let f : None ≡ Some u.definition = sym e ∙ u.is in absurd cc
      no_definition _ e (by_way from next u a r) = let f : None ≡ Some u.definition = sym e ∙ u.is in absurd cc

      from_here : (i : ℕ) → Reaches ds i to ⊎ (ReachesBy left i → ⊥)
      from_here i = by_got (slice_get ds i) refl
        where
          by_items : (d : Definition) (is : slice_get ds i ≡ Some d) (items : List Placed) → Reads d.text items → Found (items_of items) ⊎ NotFound (items_of items) → Reaches ds i to ⊎ (ReachesBy left i → ⊥)
          by_items d is items read (inl f) =
              let u : UsesDefinition ds i f.0 = record { definition = d; is = is; items = items; read = read; uses = f.1 } in
              elim f.2 [
                | inl e ↦ inl (directly i to (subst (UsesDefinition ds i) e u))
                | inr r ↦ inl (through i f.0 to u r)
              ]
          by_items d is items read (inr none) = inr (no_way d items read none i is)

          by_got : (o : Option Definition) → slice_get ds i ≡ o → Reaches ds i to ⊎ (ReachesBy left i → ⊥)
          by_got None e = inr (no_definition i e)
          by_got (Some d) e = let r = readable i d e in by_items d e r.0 r.1 (items_lead (items_of r.0))

    search : (most : ℕ) (left : List ℕ) → length left ≤ most → (i : ℕ) → Reaches ds i to ⊎ (ReachesBy left i → ⊥)
    search zero left le i = from_here left (λ j a. absurd (none_left left j le a)) i
    search (suc most) left le i =
        from_here left (λ j a. (let w = without left j a in let s = w.shorter in not_past left j w (search most w.rest (omega (arith, s, le)) j))) i

    pub reaches_or_not : (i : ℕ) → Reaches ds i to ⊎ (Reaches ds i to → ⊥)
    reaches_or_not i = elim (search (length (below (length ds))) (below (length ds)) (omega arith) i) [
      | inl r ↦ inl r
      | inr none ↦ inr (λ r. none (reached_within i to r refl))
    ]

    pub leads_or_not : (p : Placed) → LeadsTo ds to p ⊎ (LeadsTo ds to p → ⊥)
    leads_or_not p = by_use (used ds p.item) refl
      where
        by_reach : (next : ℕ) → used ds p.item ≡ Some next → (next ≡ to → ⊥) → Reaches ds next to ⊎ (Reaches ds next to → ⊥) → LeadsTo ds to p ⊎ (LeadsTo ds to p → ⊥)
        by_reach next e differs (inl r) = inl (next, e, inr r)
        by_reach next e differs (inr none) = inr (λ l.
            (let same = same_Some next l.0 (sym e ∙ l.1) in
            elim l.2 [ inl f ↦ differs (same ∙ f) | inr r ↦ none (subst (λ (n : ℕ). Reaches ds n to) (sym same) r) ]))

        by_same : (next : ℕ) → used ds p.item ≡ Some next → (next ≡ to) ⊎ (next ≡ to → ⊥) → LeadsTo ds to p ⊎ (LeadsTo ds to p → ⊥)
        by_same next e (inl f) = inl (next, e, inl f)
        by_same next e (inr differs) = by_reach next e differs (reaches_or_not next)

        by_use : (o : Option ℕ) → used ds p.item ≡ o → LeadsTo ds to p ⊎ (LeadsTo ds to p → ⊥)
        by_use None e = inr (λ l. (let f : None ≡ Some l.0 = sym e ∙ l.1 in absurd cc))
        by_use (Some next) e = by_same next e (cases_eq next to)

    abbrev FirstOrNone : List Placed → Type 0
    FirstOrNone items = ((at : ℕ) × IsFirstTo ds to items at) ⊎ AllByRecursion (λ p. LeadsTo ds to p → ⊥) items

    -- the first of the items that leads to the definition, or none does
    pub first_to : (items before rest : List Placed) → items ≡ before ++ rest → AllByRecursion (λ p. LeadsTo ds to p → ⊥) before → FirstOrNone items
    first_to items before [] is none = inr (subst (AllByRecursion (λ p. LeadsTo ds to p → ⊥)) (sym (is ∙ append-nil before)) none)
    first_to items before (p ∷ rest) is none =
        by_leads (leads_or_not p) (λ more. first_to items (before ++ p ∷ []) rest (is ∙ sym (append_assoc before (p ∷ []) rest)) (all_push (λ q. LeadsTo ds to q → ⊥) before p none more))
      where
        by_leads : LeadsTo ds to p ⊎ (LeadsTo ds to p → ⊥) → ((LeadsTo ds to p → ⊥) → FirstOrNone items) → FirstOrNone items
        by_leads (inl led) more = inl (p.at, record { before = before; first = p; behind = rest; is = is; place = refl; leads = led; none_before = none })
        by_leads (inr denied) more = more denied
