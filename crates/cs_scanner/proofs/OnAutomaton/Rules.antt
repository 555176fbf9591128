-- What a reached place says of the rules.
use Rattle.std.proofs.Common.{◌≡◌, ◌≢◌, ℕ, zero, suc, ◌+◌, IsTrue, List, [], ◌∷◌, ◌++◌, inl, inr, Some, refl, sym, ap, ◌∙◌, subst, arith, append-nil}
use Rattle.std.specs.Prelude.{slice_get}
use Rattle.cs_scanner.specs.Automaton.Re.{Re, empty, letter, nothing, cat, alt, many, Parts, no_parts, one_more, Spells, SpellAll}
use Rattle.cs_scanner.specs.Automaton.Meaning.{Has}
use Rattle.cs_scanner.specs.Automaton.Linear.{all_nullable, First, GoesBy}
use Rattle.cs_scanner.specs.Automaton.Places.{NumberedClass, letters, with_places, any_of, whole, HasByte, ReadEach}
use Rattle.cs_scanner.specs.Automaton.Reached.{Reaches}
use Rattle.cs_scanner.specs.Automaton.Rules.{SpellsRule, IsBegunSpelled}
use Rattle.cs_scanner.proofs.OnAutomaton.Linear.{goes, goes_back, all_nullable_spells, spells_all_nullable}
use Rattle.cs_scanner.proofs.OnAutomaton.Places.{lead_stands, within}
use Rattle.cs_scanner.proofs.OnAutomaton.Full.{AllFull, all_full_spell, KindOf}
use Rattle.cs_scanner.proofs.OnAutomaton.Reached.{led, leads_reach, reaches_full}

parts_map : {B : Type 0} (P Q : List B → Type 0) → ((x : List B) → P x → Q x) → {x : List B} → Parts P x → Parts Q x
parts_map P Q f no_parts = no_parts
parts_map P Q f (one_more x y xs p ps e) = one_more x y xs (f x p) (parts_map P Q f ps) e

pub numbered_spells : (rule from : ℕ) (r : Re (List ℕ)) (x : List ℕ) → Spells Has r x → Spells HasByte (with_places rule from r) x
numbered_spells rule from empty x h = h
numbered_spells rule from (letter c) x h = h
numbered_spells rule from nothing x h = h
numbered_spells rule from (cat r s) x h = (h.0, h.1, numbered_spells rule from r h.0 h.2, numbered_spells rule (from + letters r) s h.1 h.3, h.4)
numbered_spells rule from (alt r s) x (inl h) = inl (numbered_spells rule from r x h)
numbered_spells rule from (alt r s) x (inr h) = inr (numbered_spells rule (from + letters r) s x h)
numbered_spells rule from (many r) x h = parts_map (Spells Has r) (Spells HasByte (with_places rule from r)) (λ y p. numbered_spells rule from r y p) h

pub numbered_spells_back : (rule from : ℕ) (r : Re (List ℕ)) (x : List ℕ) → Spells HasByte (with_places rule from r) x → Spells Has r x
numbered_spells_back rule from empty x h = h
numbered_spells_back rule from (letter c) x h = h
numbered_spells_back rule from nothing x h = h
numbered_spells_back rule from (cat r s) x h = (h.0, h.1, numbered_spells_back rule from r h.0 h.2, numbered_spells_back rule (from + letters r) s h.1 h.3, h.4)
numbered_spells_back rule from (alt r s) x (inl h) = inl (numbered_spells_back rule from r x h)
numbered_spells_back rule from (alt r s) x (inr h) = inr (numbered_spells_back rule (from + letters r) s x h)
numbered_spells_back rule from (many r) x h = parts_map (Spells HasByte (with_places rule from r)) (Spells Has r) (λ y p. numbered_spells_back rule from r y p) h

-- ---- from all patterns to one, and back

pub record Found (ps : List (Re (List ℕ))) (rule : ℕ) (ls : List NumberedClass) (next : List (Re NumberedClass)) : Type 0 where
  pub index : ℕ
  pub of_rule : ℕ
  pub from : ℕ
  pub pattern : Re (List ℕ)
  pub at : slice_get ps index ≡ Some pattern
  pub number : of_rule ≡ rule + index
  pub leads : GoesBy (with_places of_rule from pattern ∷ []) ls next

pub find : (rule from : ℕ) (ps : List (Re (List ℕ))) (c : NumberedClass) (ls : List NumberedClass) (mid next : List (Re NumberedClass)) → First (any_of rule from ps) [] c mid → GoesBy mid ls next → Found ps rule (c ∷ ls) next
find rule from [] c ls mid next f l = absurd f
find rule from (p ∷ ps) c ls mid next (inl f) l =
    record { index = 0; of_rule = rule; from = from; pattern = p; at = refl; number = omega arith; leads = (mid, inl f, l) }
find rule from (p ∷ ps) c ls mid next (inr f) l =
    let g = find (suc rule) (from + letters p) ps c ls mid next f l in
    record { index = suc g.index; of_rule = g.of_rule; from = g.from; pattern = g.pattern; at = g.at; number = omega (arith, g.number); leads = g.leads }

pub record Lifts (ps : List (Re (List ℕ))) (rule from index : ℕ) (p : Re (List ℕ)) : Type 0 where
  pub of_rule : ℕ
  pub base : ℕ
  pub number : of_rule ≡ rule + index
  pub lift : (c : NumberedClass) (mid : List (Re NumberedClass)) → First (with_places of_rule base p) [] c mid → First (any_of rule from ps) [] c mid

pub lifts : (rule from : ℕ) (ps : List (Re (List ℕ))) (index : ℕ) (p : Re (List ℕ)) → slice_get ps index ≡ Some p → Lifts ps rule from index p
lifts rule from [] index p e = absurd cc
lifts rule from (q ∷ ps) zero p e =
    let same : q ≡ p = cc in
    record { of_rule = rule; base = from; number = omega arith; lift = λ c mid f. inl (subst (λ (t : Re (List ℕ)). First (with_places rule from t) [] c mid) (sym same) f) }
lifts rule from (q ∷ ps) (suc index) p e =
    let g = lifts (suc rule) (from + letters q) ps index p e in
    record { of_rule = g.of_rule; base = g.base; number = omega (arith, g.number); lift = λ c mid f. inr (g.lift c mid f) }

-- ---- a rule's match

record Snoc (c : NumberedClass) (ls : List NumberedClass) : Type 0 where
  front : List NumberedClass
  last : NumberedClass
  is : c ∷ ls ≡ front ++ last ∷ []

snoc : (c : NumberedClass) (ls : List NumberedClass) → Snoc c ls
snoc c [] = record { front = []; last = c; is = refl }
snoc c (d ∷ ls) = let s = snoc d ls in record { front = c ∷ s.front; last = s.last; is = ap (λ t. c ∷ t) s.is }

module _ (rs : List (Re (List ℕ))) where
  -- reading x leads to a place of the rule, behind which y can come
  pub record EndsRule (rule : ℕ) (x y : List ℕ) : Type 0 where
    pub place : NumberedClass
    pub next : List (Re NumberedClass)
    pub reaches : Reaches rs x place next
    pub of_rule : place.rule ≡ rule
    pub others : SpellAll HasByte next y

  pub match_ends : (rule : ℕ) (x y : List ℕ) → x ≢ [] → SpellsRule rs rule (x ++ y) → EndsRule rule x y
  match_ends rule [] y ne m = absurd (ne refl)
  match_ends rule (b ∷ x) y ne m =
      let w = b ∷ (x ++ y) in
      let l = lifts 1 0 rs m.index m.pattern m.at in
      let spelled = numbered_spells l.of_rule l.base m.pattern w m.spelled in
      let all : SpellAll HasByte (with_places l.of_rule l.base m.pattern ∷ []) ((b ∷ x) ++ y) = (w, [], spelled, refl, sym (append-nil w)) in
      let g = goes HasByte (b ∷ x) y (with_places l.of_rule l.base m.pattern ∷ []) all in
      ended rule b x y l.of_rule l.base m.pattern (omega (arith, l.number, m.number)) l.lift g.letters g.last g.leads g.read g.others
    where
      ended : (rule b : ℕ) (x y : List ℕ) (of_rule base : ℕ) (p : Re (List ℕ)) → of_rule ≡ rule → ((c : NumberedClass) (mid : List (Re NumberedClass)) → First (with_places of_rule base p) [] c mid → First (whole rs) [] c mid) → (ls : List NumberedClass) (last : List (Re NumberedClass)) → GoesBy (with_places of_rule base p ∷ []) ls last → ReadEach HasByte ls (b ∷ x) → SpellAll HasByte last y → EndsRule rule (b ∷ x) y
      ended rule b x y of_rule base p same lift [] last l r h = absurd cc
      ended rule b x y of_rule base p same lift (c ∷ ls) last (mid, inr f, l) r h = absurd f.1
      ended rule b x y of_rule base p same lift (c ∷ ls) last (mid, inl f, l) r h =
          let s = snoc c ls in
          let whole_leads : GoesBy (whole rs ∷ []) (s.front ++ s.last ∷ []) last = subst (λ t. GoesBy (whole rs ∷ []) t last) s.is (mid, inl (lift c mid f), l) in
          let part_leads : GoesBy (with_places of_rule base p ∷ []) (s.front ++ s.last ∷ []) last = subst (λ t. GoesBy (with_places of_rule base p ∷ []) t last) s.is (mid, inl f, l) in
          let stands = lead_stands (with_places of_rule base p) s.front s.last last part_leads in
          record {
            place = s.last;
            next = last;
            reaches = leads_reach rs s.front s.last last (b ∷ x) whole_leads (subst (λ t. ReadEach HasByte t (b ∷ x)) s.is r);
            of_rule = (within of_rule base p [] s.last last stands).of_rule ∙ same;
            others = h;
          }

  -- and back
  ends_at : (rule : ℕ) (x y : List ℕ) (a : NumberedClass) (next : List (Re NumberedClass)) → (ls : List NumberedClass) → GoesBy (whole rs ∷ []) (ls ++ a ∷ []) next → ReadEach HasByte (ls ++ a ∷ []) x → a.rule ≡ rule → SpellAll HasByte next y → SpellsRule rs rule (x ++ y)
  ends_at rule x y a next ls l r same h =
      let g = found ls a next l in
      let stands = lead_stands (with_places g.of_rule g.from g.pattern) ls a next g.leads in
      let w = within g.of_rule g.from g.pattern [] a next stands in
      let all = goes_back HasByte (ls ++ a ∷ []) x y (with_places g.of_rule g.from g.pattern ∷ []) next g.leads r h in
      let is : all.0 ≡ x ++ y = sym (append-nil all.0) ∙ ap (λ t. all.0 ++ t) (sym all.3) ∙ sym all.4 in
      record {
        index = g.index;
        pattern = g.pattern;
        number = omega (arith, g.number, w.of_rule, same);
        at = g.at;
        spelled = numbered_spells_back g.of_rule g.from g.pattern (x ++ y) (subst (λ t. Spells HasByte (with_places g.of_rule g.from g.pattern) t) is all.2);
      }
    where
      found : (ls : List NumberedClass) (a : NumberedClass) (next : List (Re NumberedClass)) → GoesBy (whole rs ∷ []) (ls ++ a ∷ []) next → Found rs 1 (ls ++ a ∷ []) next
      found [] a next (mid, inl f, l) = find 1 0 rs a [] mid next f l
      found [] a next (mid, inr f, l) = absurd f.1
      found (c ∷ ls) a next (mid, inl f, l) = find 1 0 rs c (ls ++ a ∷ []) mid next f l
      found (c ∷ ls) a next (mid, inr f, l) = absurd f.1

  pub ends_match : (rule : ℕ) (x y : List ℕ) (a : NumberedClass) (next : List (Re NumberedClass)) → Reaches rs x a next → a.rule ≡ rule → SpellAll HasByte next y → SpellsRule rs rule (x ++ y)
  ends_match rule x y a next r same h = let d = led rs r in ends_at rule x y a next d.front d.leads d.read same h

  -- ---- the two theorems

  -- after x, which isn't empty, the rule matches exactly where a place of it is reached that may end
  pub rule_matches : (rule : ℕ) (x : List ℕ) → x ≢ [] → SpellsRule rs rule x → (a : NumberedClass) × (next : List (Re NumberedClass)) × Reaches rs x a next × (a.rule ≡ rule) × IsTrue (all_nullable next)
  rule_matches rule x ne m =
      let e = match_ends rule x [] ne (subst (λ t. SpellsRule rs rule t) (sym (append-nil x)) m) in
      (e.place, e.next, e.reaches, e.of_rule, spells_all_nullable HasByte e.next [] refl e.others)

  pub reached_rule : (rule : ℕ) (x : List ℕ) (a : NumberedClass) (next : List (Re NumberedClass)) → Reaches rs x a next → a.rule ≡ rule → IsTrue (all_nullable next) → SpellsRule rs rule x
  reached_rule rule x a next r same h = subst (λ t. SpellsRule rs rule t) (append-nil x) (ends_match rule x [] a next r same (all_nullable_spells HasByte next h))

  -- some rule matches a text that begins with x exactly where a place is reached
  pub begun_reaches : (x : List ℕ) → x ≢ [] → IsBegunSpelled rs x → (a : NumberedClass) × (next : List (Re NumberedClass)) × Reaches rs x a next
  begun_reaches x ne b = let e = match_ends b.0 x b.1 ne b.2 in (e.place, e.next, e.reaches)

  pub reaches_begun : (Kind : List ℕ → Type 0) (some : (c : List ℕ) → Kind c → (b : ℕ) × Has c b) → AllFull Kind rs → (x : List ℕ) (a : NumberedClass) (next : List (Re NumberedClass)) → Reaches rs x a next → IsBegunSpelled rs x
  reaches_begun Kind some full x a next r =
      let y = all_full_spell (KindOf Kind) HasByte (λ a k. some a.class k) next (reaches_full rs Kind full r) in
      (a.rule, y.0, ends_match a.rule x y.0 a next r refl y.1)
