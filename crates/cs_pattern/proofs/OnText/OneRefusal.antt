-- Definitions are accepted, or refused at one index with one fault.
use Rattle.std.proofs.Common.{◌≡◌, ℕ, ◌<◌, List, [], ◌∷◌, ◌++◌, sym, ap, ◌∙◌, subst, inl, inr}
use Rattle.std.specs.Prelude.{Some, None, slice_get}
use Rattle.std.specs.List.{AllByRecursion}
use Rattle.std.proofs.lemmas.Bool.{cases_order}
use Rattle.cs_pattern_parts.specs.Items.Items.{Placed, items_of}
use Rattle.cs_pattern.specs.declared.text.fault.PatternFault.{PatternFault}
use Rattle.cs_pattern.specs.declared.text.fault.PatternFault.TheVariants.{UndefinedName, DefinitionCycle}
use Rattle.cs_pattern.specs.Text.Answers.{limit_of, IsBeyond}
use Rattle.cs_pattern.specs.Text.Checking.{IsReadable, HasAllNames, IsAccepted, AreAccepted, IsStopped, IsUndefined, IsCyclic, IsTooLarge, IsRefused, stopped, undefined, cyclic, too_large}
use Rattle.cs_pattern.specs.Operations.Definitions.{Definition}
use Rattle.cs_pattern.specs.Text.Names.{first_undefined}
use Rattle.cs_pattern.specs.Text.Table.{Reads, IsFirstStop}
use Rattle.cs_pattern.specs.Text.Uses.{used, Uses, UsesDefinition, Reaches, directly, through, LeadsTo, IsFirstTo}
use Rattle.cs_pattern.proofs.OnText.Cycles.{no_tree_in_cycle}
use Rattle.cs_pattern.proofs.OnText.OneAnswer.{no_first_stop, one_first_stop, tree_is_defined}
use Rattle.cs_pattern.proofs.OnText.PuttingIn.{one_tree_of}
use Rattle.cs_pattern.proofs.OnText.Readings.{one_reading}

-- where neither index is the lower one they are the same
same_index : (i j : ℕ) → (i < j → ⊥) → (j < i → ⊥) → i ≡ j
same_index i j a b = elim (cases_order i j) [ inl e ↦ e | inr other ↦ elim other [ inl lt ↦ absurd (a lt) | inr gt ↦ absurd (b gt) ] ]

same_definition : (ds : List Definition) (i j : ℕ) (d e : Definition) → i ≡ j → slice_get ds i ≡ Some d → slice_get ds j ≡ Some e → d ≡ e
same_definition ds i j d e same p q = let f : Some d ≡ Some e = sym p ∙ ap (slice_get ds) same ∙ q in cc f

-- two elements that are each the first of a list with a property
first_same : (P : Placed → Type 0) (xs ys bs cs : List Placed) (f g : Placed) → xs ++ f ∷ bs ≡ ys ++ g ∷ cs → P f → P g → AllByRecursion (λ p. P p → ⊥) xs → AllByRecursion (λ p. P p → ⊥) ys → f ≡ g
first_same P [] [] bs cs f g e p q a b = cc e
first_same P [] (y ∷ ys) bs cs f g e p q a b = let same : f ≡ y = cc e in absurd (b.0 (subst P same p))
first_same P (x ∷ xs) [] bs cs f g e p q a b = let same : x ≡ g = cc e in absurd (a.0 (subst P (sym same) q))
first_same P (x ∷ xs) (y ∷ ys) bs cs f g e p q a b = let rest : xs ++ f ∷ bs ≡ ys ++ g ∷ cs = cc e in first_same P xs ys bs cs f g rest p q a.1 b.1

one_first_to : (ds : List Definition) (to : ℕ) (items : List Placed) (at bt : ℕ) → IsFirstTo ds to items at → IsFirstTo ds to items bt → at ≡ bt
one_first_to ds to items at bt p q =
    let same = first_same (LeadsTo ds to) p.before q.before p.behind q.behind p.first q.first (sym p.is ∙ q.is) p.leads q.leads p.none_before q.none_before in
    sym p.place ∙ ap (λ (x : Placed). x.at) same ∙ q.place

uses_at : (ds : List Definition) (before behind : List Placed) (p : Placed) (to : ℕ) → used ds p.item ≡ Some to → Uses ds (items_of (before ++ p ∷ behind)) to
uses_at ds [] behind p to e = inl e
uses_at ds (x ∷ before) behind p to e = inr (uses_at ds before behind p to e)

module _ (ds : List Definition) where
  -- what is cyclic reaches itself
  reaches : (i at : ℕ) → IsCyclic ds i at → Reaches ds i i
  reaches i at c =
      let f = c.first in
      let l = f.leads in
      let u : UsesDefinition ds i l.0 = record { definition = c.definition; is = c.is; items = c.items; read = c.read; uses = subst (λ (xs : List Placed). Uses ds (items_of xs) l.0) (sym f.is) (uses_at ds f.before f.behind f.first l.0 l.1) } in
      elim l.2 [ inl here ↦ directly i i (subst (UsesDefinition ds i) here u) | inr more ↦ through i l.0 i u more ]

  stops_read : (d : Definition) (f : PatternFault) → IsFirstStop d.text f → IsReadable d.text → ⊥
  stops_read d f s r = no_first_stop d.text r.0 f r.1 s

  stops_named : (d : Definition) (f : PatternFault) → IsFirstStop d.text f → HasAllNames ds d.text → ⊥
  stops_named d f s r = no_first_stop d.text r.0 f r.1 s

  undefined_named : (d : Definition) (items : List Placed) (at : ℕ) → Reads d.text items → first_undefined ds items ≡ Some at → HasAllNames ds d.text → ⊥
  undefined_named d items at read first n = let e : None ≡ Some at = sym n.2 ∙ ap (first_undefined ds) (one_reading d.text n.0 items n.1 read) ∙ first in cc e

  beyond_accepted : (d : Definition) (f : PatternFault) → IsBeyond d.text ds f → IsAccepted ds d.text → ⊥
  beyond_accepted d f b a = let p = a.1 in let e : None ≡ Some f = sym p.within ∙ ap limit_of (one_tree_of ds d.text p.tree b.tree p.is_tree b.is_tree) ∙ b.passes in cc e

  one_stopped : (i j : ℕ) (f g : PatternFault) → IsStopped ds i f → IsStopped ds j g → (i ≡ j) × (f ≡ g)
  one_stopped i j f g p q =
      let index = same_index i j (λ lt. stops_read p.definition f p.stops (q.before i p.definition lt p.is)) (λ lt. stops_read q.definition g q.stops (p.before j q.definition lt q.is)) in
      let same = same_definition ds i j p.definition q.definition index p.is q.is in
      (index, one_first_stop q.definition.text f g (subst (λ (d : Definition). IsFirstStop d.text f) same p.stops) q.stops)

  one_undefined : (i j at bt : ℕ) → IsUndefined ds i at → IsUndefined ds j bt → (i ≡ j) × (at ≡ bt)
  one_undefined i j at bt p q =
      let index = same_index i j (λ lt. undefined_named p.definition p.items at p.read p.first (q.before i p.definition lt p.is)) (λ lt. undefined_named q.definition q.items bt q.read q.first (p.before j q.definition lt q.is)) in
      let same = same_definition ds i j p.definition q.definition index p.is q.is in
      let items = one_reading q.definition.text p.items q.items (subst (λ (d : Definition). Reads d.text p.items) same p.read) q.read in
      let e : Some at ≡ Some bt = sym p.first ∙ ap (first_undefined ds) items ∙ q.first in
      (index, cc e)

  one_cyclic : (i j at bt : ℕ) → IsCyclic ds i at → IsCyclic ds j bt → (i ≡ j) × (at ≡ bt)
  one_cyclic i j at bt p q =
      let index = same_index i j (λ lt. q.before i lt (reaches i at p)) (λ lt. p.before j lt (reaches j bt q)) in
      let same = same_definition ds i j p.definition q.definition index p.is q.is in
      let items = one_reading q.definition.text p.items q.items (subst (λ (d : Definition). Reads d.text p.items) same p.read) q.read in
      (index, one_first_to ds j q.items at bt (subst (λ (xs : List Placed). IsFirstTo ds j xs at) items (subst (λ n. IsFirstTo ds n p.items at) index p.first)) q.first)

  one_too_large : (i j : ℕ) (f g : PatternFault) → IsTooLarge ds i f → IsTooLarge ds j g → (i ≡ j) × (f ≡ g)
  one_too_large i j f g p q =
      let index = same_index i j (λ lt. beyond_accepted p.definition f p.beyond (q.before i p.definition lt p.is)) (λ lt. beyond_accepted q.definition g q.beyond (p.before j q.definition lt q.is)) in
      let same = same_definition ds i j p.definition q.definition index p.is q.is in
      let b = subst (λ (d : Definition). IsBeyond d.text ds f) same p.beyond in
      let c = q.beyond in
      let e : Some f ≡ Some g = sym b.passes ∙ ap limit_of (one_tree_of ds q.definition.text b.tree c.tree b.is_tree c.is_tree) ∙ c.passes in
      (index, cc e)

  pub one_refusal : (i j : ℕ) (f g : PatternFault) → IsRefused ds i f → IsRefused ds j g → (i ≡ j) × (f ≡ g)
  one_refusal i j f g (stopped p) (stopped q) = one_stopped i j f g p q
  one_refusal i j f g (stopped p) (undefined bt e q) = absurd (stops_read p.definition f p.stops (q.readable i p.definition p.is))
  one_refusal i j f g (stopped p) (cyclic bt e q) = absurd (stops_named p.definition f p.stops (q.named i p.definition p.is))
  one_refusal i j f g (stopped p) (too_large q) = absurd (stops_named p.definition f p.stops (q.named i p.definition p.is))
  one_refusal i j f g (undefined at d p) (stopped q) = absurd (stops_read q.definition g q.stops (p.readable j q.definition q.is))
  one_refusal i j f g (undefined at d p) (undefined bt e q) = let s = one_undefined i j at bt p q in (s.0, d ∙ ap UndefinedName s.1 ∙ sym e)
  one_refusal i j f g (undefined at d p) (cyclic bt e q) = absurd (undefined_named p.definition p.items at p.read p.first (q.named i p.definition p.is))
  one_refusal i j f g (undefined at d p) (too_large q) = absurd (undefined_named p.definition p.items at p.read p.first (q.named i p.definition p.is))
  one_refusal i j f g (cyclic at d p) (stopped q) = absurd (stops_named q.definition g q.stops (p.named j q.definition q.is))
  one_refusal i j f g (cyclic at d p) (undefined bt e q) = absurd (undefined_named q.definition q.items bt q.read q.first (p.named j q.definition q.is))
  one_refusal i j f g (cyclic at d p) (cyclic bt e q) = let s = one_cyclic i j at bt p q in (s.0, d ∙ ap DefinitionCycle s.1 ∙ sym e)
  one_refusal i j f g (cyclic at d p) (too_large q) = absurd (q.no_cycle i (reaches i at p))
  one_refusal i j f g (too_large p) (stopped q) = absurd (stops_named q.definition g q.stops (p.named j q.definition q.is))
  one_refusal i j f g (too_large p) (undefined bt e q) = absurd (undefined_named q.definition q.items bt q.read q.first (p.named j q.definition q.is))
  one_refusal i j f g (too_large p) (cyclic bt e q) = absurd (p.no_cycle j (reaches j bt q))
  one_refusal i j f g (too_large p) (too_large q) = one_too_large i j f g p q

  pub no_refusal : (i : ℕ) (f : PatternFault) → AreAccepted ds → IsRefused ds i f → ⊥
  no_refusal i f a (stopped p) = let t = (a i p.definition p.is).1 in let s = t.is_tree.is_spelled in no_first_stop p.definition.text s.items f s.read p.stops
  no_refusal i f a (undefined at d p) =
      let t = (a i p.definition p.is).1 in
      let e : None ≡ Some at = sym (tree_is_defined ds p.definition.text t.tree p.items t.is_tree p.read) ∙ p.first in
      cc e
  no_refusal i f a (cyclic at d p) = let t = (a i p.definition p.is).1 in no_tree_in_cycle ds i p.definition t.tree p.is t.is_tree (reaches i at p)
  no_refusal i f a (too_large p) = beyond_accepted p.definition f p.beyond (a i p.definition p.is)
