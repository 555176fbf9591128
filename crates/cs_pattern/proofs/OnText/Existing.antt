-- A text is read to its end or stops, and has a pattern or a fault.
use Rattle.std.proofs.Common.{◌≡◌, ◌⊎◌, ℕ, zero, suc, ◌+◌, ◌≤◌, ◌<◌, Bool, true, false, List, [], ◌∷◌, ◌++◌, length, drop, refl, sym, ap, subst, inl, inr, arith, length-drop}
use Rattle.std.specs.Prelude.{Option, Some, None}
use Rattle.std.proofs.lemmas.Bool.{cases_lt, false≢true}
use Rattle.cs_pattern.specs.declared.text.place.PatternPlace.{PatternPlace}
use Rattle.cs_pattern.specs.declared.text.fault.PatternFault.{PatternFault}
use Rattle.cs_pattern.specs.declared.text.fault.PatternFault.TheVariants as faults
use Rattle.cs_pattern_parts.specs.declared.items.front.Stop.{Stop}
use Rattle.cs_pattern_parts.specs.declared.items.front.Stop.TheVariants as stops
use Rattle.cs_bytes.specs.Places.{has_at}
use Rattle.cs_pattern_parts.specs.Items.Spelling.{Spells}
use Rattle.cs_pattern_parts.specs.Items.Items.{Item, class, quoted, named, opening, closing, bar, repetition, Placed}
use Rattle.cs_pattern_parts.proofs.OnItems.Fronts.{spelled_or_stopped}
use Rattle.cs_pattern.specs.Operations.Definitions.{Definition}
use Rattle.cs_pattern.specs.Operations.Depth.{depth, pattern_of}
use Rattle.cs_pattern.specs.Operations.Grammar.{Tree}
use Rattle.cs_pattern_parts.specs.Tree.Pattern.{Regex, leaves}
use Rattle.cs_pattern.specs.Text.Answers.{limit_of, IsPatternOf, IsFault}
use Rattle.cs_pattern.specs.Text.Checking.{AreAccepted}
use Rattle.cs_pattern.specs.Text.Names.{first_undefined}
use Rattle.cs_pattern.specs.Text.Substitution.{IsTreeOf}
use Rattle.cs_pattern.specs.Text.Table.{place, beginning, next_place, closed, if_behind, Reads, StopsAt, IsFirstStop, IsPlainText, MayEnd, fault_of}
use Rattle.cs_pattern.proofs.OnText.HasDerivation.{has_derivation}
use Rattle.cs_pattern.proofs.OnText.Limited.{limit_depth}
use Rattle.cs_pattern.proofs.OnText.PuttingIn.{HaveTrees, put_tree}
use Rattle.cs_pattern.proofs.OnText.Readings.{HasRead, has_read_none, has_read_more, reads_all, stops_here, stops_at_end}
use Rattle.cs_pattern.proofs.OnText.Sizes.{item_size}
use Rattle.cs_pattern.proofs.OnText.TextTrees.{beyond_is_fault}
use Rattle.cs_pattern.proofs.OnText.Trees.{have_trees}

-- ---- reading

groups_of : (p q : PatternPlace) (n : ℕ) → Some p ≡ Some q → p.groups ≤ n → q.groups ≤ n
groups_of p q n e le = let f : p ≡ q = cc in subst (λ (r : PatternPlace). r.groups ≤ n) f le

closed_groups : (b : Bool) (g : ℕ) (q : PatternPlace) (n : ℕ) → closed b g ≡ Some q → g ≤ n → q.groups ≤ n
closed_groups true (suc g) q n e le = groups_of (place true g) q n e (omega arith)
closed_groups true zero q n e le = absurd cc
closed_groups false g q n e le = absurd cc

behind_groups : (b : Bool) (p q : PatternPlace) (n : ℕ) → if_behind b p ≡ Some q → p.groups ≤ n → q.groups ≤ n
behind_groups true p q n e le = groups_of p q n e le
behind_groups false p q n e le = absurd cc

row_groups : (p : PatternPlace) (i : Item) (q : PatternPlace) → next_place p i ≡ Some q → q.groups ≤ p.groups + 1
row_groups p (class s) q e = groups_of (place true p.groups) q (p.groups + 1) e (omega arith)
row_groups p (quoted s) q e = groups_of (place true p.groups) q (p.groups + 1) e (omega arith)
row_groups p (named s) q e = groups_of (place true p.groups) q (p.groups + 1) e (omega arith)
row_groups p opening q e = groups_of (place false (p.groups + 1)) q (p.groups + 1) e (omega arith)
row_groups p closing q e = closed_groups p.behind_atom p.groups q (p.groups + 1) e (omega arith)
row_groups p bar q e = behind_groups p.behind_atom (place false p.groups) q (p.groups + 1) e (omega arith)
row_groups p (repetition r) q e = behind_groups p.behind_atom p q (p.groups + 1) e (omega arith)

-- a place is one at which a text may end, or not
may_end_or_not : (p : PatternPlace) → MayEnd p ⊎ (MayEnd p → ⊥)
may_end_or_not p = by_parts p.behind_atom p.groups
  where
    by_parts : (b : Bool) (g : ℕ) → MayEnd (place b g) ⊎ (MayEnd (place b g) → ⊥)
    by_parts true zero = inl refl
    by_parts true (suc g) = inr (λ e. let f : suc g ≡ 0 = ap (λ (q : PatternPlace). q.groups) e in omega arith)
    by_parts false g = inr (λ e. false≢true (ap (λ (q : PatternPlace). q.behind_atom) e))

module _ (bytes : List ℕ) (plain : IsPlainText bytes) where
  abbrev EndsOrStops : Type 0
  EndsOrStops = ((items : List Placed) × Reads bytes items) ⊎ ((at : ℕ) × (why : Stop) × StopsAt bytes at why)

  at_end : (items : List Placed) (at : ℕ) (p : PatternPlace) → HasRead bytes items at p → length bytes ≤ at → EndsOrStops
  at_end items at p h le =
      elim (may_end_or_not p) [
        | inl ends ↦ inl (items, reads_all bytes items at p plain h le ends)
        | inr not ↦ inr (at, stops.Syntax, stops_at_end bytes items at p plain h le not)
      ]

  -- one item more, or a stop
  next_item : (items : List Placed) (at : ℕ) (p : PatternPlace) → HasRead bytes items at p → at < length bytes
      → ((more : List Placed) (then : ℕ) (q : PatternPlace) → HasRead bytes more then q → at < then → EndsOrStops) → EndsOrStops
  next_item items at p h lt go_on =
      elim (spelled_or_stopped (drop at bytes)) [
        | inl s ↦ by_row s.1 s.0 (next_place p s.1) s.2 refl
        | inr s ↦ inr (at, s.0, stops_here bytes items at p s.0 (drop at bytes) plain h refl lt (inl s.1))
      ]
    where
      by_row : (i : Item) (n : ℕ) (row : Option PatternPlace) → Spells (drop at bytes) n i → next_place p i ≡ row → EndsOrStops
      by_row i n None e r = inr (at, stops.Syntax, stops_here bytes items at p stops.Syntax (drop at bytes) plain h refl lt (inr ((i, n, e, r), refl)))
      by_row i n (Some q) e r =
          let size = item_size (drop at bytes) n i e in
          let some = size.0 in
          let within = size.1 in
          go_on (items ++ record { at = at; item = i } ∷ []) (at + n) q
          (has_read_more bytes items at p i n q (drop at bytes) h refl e r some (omega (arith, within, length-drop at bytes)) (row_groups p i q r)) (omega arith)

  walk : (fuel : ℕ) (items : List Placed) (at : ℕ) (p : PatternPlace) → HasRead bytes items at p → length bytes ≤ at + fuel → EndsOrStops
  walk zero items at p h le = at_end items at p h (omega arith)
  walk (suc fuel) items at p h le =
      elim (cases_lt at (length bytes)) [
        | inl lt ↦ next_item items at p h lt (λ more then q k further. walk fuel more then q k (omega arith))
        | inr ge ↦ at_end items at p h ge
      ]

  pub ends_or_stops : EndsOrStops
  ends_or_stops = walk (length bytes) [] 0 beginning (has_read_none bytes beginning refl) (omega arith)

pub reads_or_stops : (bytes : List ℕ) → ((items : List Placed) × Reads bytes items) ⊎ ((fault : PatternFault) × IsFirstStop bytes fault)
reads_or_stops bytes = by_first (has_at bytes 0 60) refl
  where
    by_stop : ((items : List Placed) × Reads bytes items) ⊎ ((at : ℕ) × (why : Stop) × StopsAt bytes at why) → ((items : List Placed) × Reads bytes items) ⊎ ((fault : PatternFault) × IsFirstStop bytes fault)
    by_stop (inl r) = inl r
    by_stop (inr s) = inr (fault_of s.1 s.0, inr (s.0, s.1, s.2, refl))

    by_first : (b : Bool) → has_at bytes 0 60 ≡ b → ((items : List Placed) × Reads bytes items) ⊎ ((fault : PatternFault) × IsFirstStop bytes fault)
    by_first true e = inr (faults.Condition 0, inl (e, refl))
    by_first false e = by_stop (ends_or_stops bytes e)

-- ---- answers

stop_is_fault : (bytes : List ℕ) (ds : List Definition) (why : Stop) (at : ℕ) → IsFirstStop bytes (fault_of why at) → IsFault bytes ds (fault_of why at)
stop_is_fault bytes ds stops.Anchor at h = h
stop_is_fault bytes ds stops.Trailing at h = h
stop_is_fault bytes ds stops.Collation at h = h
stop_is_fault bytes ds stops.Syntax at h = h

first_stop_is_fault : (bytes : List ℕ) (ds : List Definition) (fault : PatternFault) → IsFirstStop bytes fault → IsFault bytes ds fault
first_stop_is_fault bytes ds fault (inl h) = subst (λ (f : PatternFault). IsFirstStop bytes f → IsFault bytes ds f) (sym h.1) (λ k. k) (inl h)
first_stop_is_fault bytes ds fault (inr h) = subst (λ (f : PatternFault). IsFirstStop bytes f → IsFault bytes ds f) (sym h.3) (stop_is_fault bytes ds h.1 h.0) (inr h)

module _ (ds : List Definition) (text : List ℕ) (accepted : AreAccepted ds) where
  abbrev HasAnswer : Type 0
  HasAnswer = ((pattern : Regex) × IsPatternOf ds text pattern) ⊎ ((fault : PatternFault) × IsFault text ds fault)

  of_tree : (tree : Tree) → IsTreeOf ds text tree → HasAnswer
  of_tree tree is = by_limit (limit_of tree) refl
    where
      by_limit : (o : Option PatternFault) → limit_of tree ≡ o → HasAnswer
      by_limit None e = inl (pattern_of tree, record { tree = tree; is_tree = is; within = e; is = refl })
      by_limit (Some f) e = inr (f, beyond_is_fault text ds (depth tree) (leaves (pattern_of tree)) f e (record { tree = tree; is_tree = is; passes = e }))

  of_items : (items : List Placed) → Reads text items → HasAnswer
  of_items items read = by_name (first_undefined ds items) refl
    where
      by_name : (o : Option ℕ) → first_undefined ds items ≡ o → HasAnswer
      by_name (Some at) e = inr (faults.UndefinedName at, record { items = items; read = read; first = e })
      by_name None e =
          let derived = has_derivation text items read in
          let trees = have_trees ds 200 items e (λ i d u there. let a = accepted i d there in record { tree = a.1.tree; is_tree = a.1.is_tree; deep = limit_depth a.1.tree a.1.within }) in
          let put = put_tree ds derived.0 (subst (HaveTrees ds) derived.1 trees) in
          of_tree put.0 (record { spelled = derived.0; is_spelled = record { items = items; read = read; derived = derived.1 }; put_in = put.1 })

  pub has_answer : HasAnswer
  has_answer =
      elim (reads_or_stops text) [
        | inl r ↦ of_items r.0 r.1
        | inr s ↦ inr (s.0, first_stop_is_fault text ds s.0 s.1)
      ]
