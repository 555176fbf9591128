-- The set of a text is what it reaches, letter by letter.
use Rattle.std.proofs.Common.{◌≡◌, ℕ, List, [], ◌∷◌, ◌++◌, inl, inr, refl, sym, ap, ◌∙◌, subst, append_assoc, append-nil}
use Rattle.cs_scanner.specs.Automaton.Re.{Re, Spells, SpellAll}
use Rattle.cs_scanner.specs.Automaton.Linear.{Starts, GoesBy, Stands}
use Rattle.cs_scanner.specs.Automaton.Places.{NumberedClass, whole, Itself, HasByte, ReadEach, InSet}
use Rattle.cs_scanner.specs.Automaton.Reached.{Reaches, begins, goes_on, ReachesNumber}
use Rattle.cs_scanner.proofs.OnAutomaton.Linear.{goes, goes_back}
use Rattle.cs_scanner.proofs.OnAutomaton.Places.{stands_more, start_stands}
use Rattle.cs_scanner.proofs.OnAutomaton.Full.{AllFull, starts_full, any_first_full, all_full_spell, KindOf}

-- letters that read themselves are the list
itself : (ls : List NumberedClass) (xs : List NumberedClass) → ReadEach Itself ls xs → xs ≡ ls
itself [] xs h = h
itself (a ∷ ls) [] h = absurd h
itself (a ∷ ls) (x ∷ xs) h = let head = h.0 in let tail = itself ls xs h.1 in cc

itself_back : (xs : List NumberedClass) → ReadEach Itself xs xs
itself_back [] = refl
itself_back (x ∷ xs) = (refl, itself_back xs)

leads_push : {A : Type 0} (rs : List (Re A)) (ls : List A) (mid : List (Re A)) (a : A) (next : List (Re A)) → GoesBy rs ls mid → Starts mid a next → GoesBy rs (ls ++ a ∷ []) next
leads_push rs [] mid a next l s = (next, subst (λ t. Starts t a next) (sym l) s, refl)
leads_push rs (b ∷ ls) mid a next l s = (l.0, l.1, leads_push l.0 ls mid a next l.2 s)

read_push : {A B : Type 0} (Reads : A → B → Type 0) (ls : List A) (xs : List B) (a : A) (b : B) → ReadEach Reads ls xs → Reads a b → ReadEach Reads (ls ++ a ∷ []) (xs ++ b ∷ [])
read_push Reads [] xs a b h r = subst (λ t. ReadEach Reads (a ∷ []) (t ++ b ∷ [])) (sym h) (r, refl)
read_push Reads (c ∷ ls) [] a b h r = absurd h
read_push Reads (c ∷ ls) (x ∷ xs) a b h r = (h.0, read_push Reads ls xs a b h.1 r)

module _ (rs : List (Re (List ℕ))) where
  -- letters and the text that they read lead on
  reaches_on : (ls : List NumberedClass) (a k : NumberedClass) (mid next : List (Re NumberedClass)) (x y z : List ℕ) → Reaches rs y k mid → GoesBy mid (ls ++ a ∷ []) next → ReadEach HasByte (ls ++ a ∷ []) z → x ≡ y ++ z → Reaches rs x a next
  reaches_on [] a k mid next x y [] r l h e = absurd h
  reaches_on [] a k mid next x y (b ∷ z) r l h e =
      subst (λ t. Reaches rs x a t) l.2 (goes_on b x y k a mid l.0 r l.1 h.0 (e ∙ ap (λ t. y ++ b ∷ t) h.1))
  reaches_on (c ∷ ls) a k mid next x y [] r l h e = absurd h
  reaches_on (c ∷ ls) a k mid next x y (b ∷ z) r l h e =
      reaches_on ls a c l.0 next x (y ++ b ∷ []) z (goes_on b (y ++ b ∷ []) y k c mid l.0 r l.1 h.0 refl) l.2 h.1 (e ∙ sym (append_assoc y (b ∷ []) z))

  pub leads_reach : (ls : List NumberedClass) (a : NumberedClass) (next : List (Re NumberedClass)) (x : List ℕ) → GoesBy (whole rs ∷ []) (ls ++ a ∷ []) next → ReadEach HasByte (ls ++ a ∷ []) x → Reaches rs x a next
  leads_reach [] a next [] l h = absurd h
  leads_reach [] a next (b ∷ x) l h = subst (λ t. Reaches rs (b ∷ x) a t) l.2 (begins b (b ∷ x) a l.0 l.1 h.0 (ap (λ t. b ∷ t) h.1))
  leads_reach (c ∷ ls) a next [] l h = absurd h
  leads_reach (c ∷ ls) a next (b ∷ x) l h = reaches_on ls a c l.0 next (b ∷ x) (b ∷ []) x (begins b (b ∷ []) c l.0 l.1 h.0 refl) l.2 h.1 refl

  -- and back
  pub record Led (x : List ℕ) (a : NumberedClass) (next : List (Re NumberedClass)) : Type 0 where
    pub front : List NumberedClass
    pub leads : GoesBy (whole rs ∷ []) (front ++ a ∷ []) next
    pub read : ReadEach HasByte (front ++ a ∷ []) x

  pub led : {x : List ℕ} {a : NumberedClass} {next : List (Re NumberedClass)} → Reaches rs x a next → Led x a next
  led {x} {a} {next} (begins b _ _ _ s h e) = record { front = []; leads = (next, s, refl); read = subst (λ t. ReadEach HasByte (a ∷ []) t) (sym e) (h, refl) }
  led {x} {a} {next} (goes_on b _ y k _ mid _ r s h e) =
      let d = led r in
      record {
        front = d.front ++ k ∷ [];
        leads = leads_push (whole rs ∷ []) (d.front ++ k ∷ []) mid a next d.leads s;
        read = subst (λ t. ReadEach HasByte ((d.front ++ k ∷ []) ++ a ∷ []) t) (sym e) (read_push HasByte (d.front ++ k ∷ []) y a b d.read h);
      }

  -- each reached place stands in the whole pattern
  pub reaches_stands : {x : List ℕ} {a : NumberedClass} {next : List (Re NumberedClass)} → Reaches rs x a next → Stands (whole rs) [] a next
  reaches_stands {x} {a} {next} (begins b _ _ _ s h e) = start_stands (whole rs) a next s
  reaches_stands {x} {a} {next} (goes_on b _ y k _ mid _ r s h e) =
      elim (stands_more (whole rs) [] k mid a next (reaches_stands r) s) [ inl g ↦ g | inr g ↦ absurd g ]

  -- ---- the set

  pub in_set_reaches : (x : List ℕ) (p : ℕ) → InSet rs x p → ReachesNumber rs x p
  in_set_reaches x p h =
      let word : SpellAll Itself (whole rs ∷ []) ((h.front ++ h.last ∷ []) ++ h.rest) = ((h.front ++ h.last ∷ []) ++ h.rest, [], h.word, refl, sym (append-nil ((h.front ++ h.last ∷ []) ++ h.rest))) in
      let g = goes Itself (h.front ++ h.last ∷ []) h.rest (whole rs ∷ []) word in
      let same = itself g.letters (h.front ++ h.last ∷ []) g.read in
      record {
        place = h.last;
        next = g.last;
        reaches = leads_reach h.front h.last g.last x (subst (λ t. GoesBy (whole rs ∷ []) t g.last) (sym same) g.leads) h.read;
        number = h.number;
      }

  module _ (Kind : List ℕ → Type 0) (full : AllFull Kind rs) where
    pub reaches_full : {x : List ℕ} {a : NumberedClass} {next : List (Re NumberedClass)} → Reaches rs x a next → AllFull (KindOf Kind) next
    reaches_full {x} {a} {next} (begins b _ _ _ (inl f) h e) = any_first_full Kind 1 0 rs a next full f
    reaches_full {x} {a} {next} (begins b _ _ _ (inr f) h e) = absurd f.1
    reaches_full {x} {a} {next} (goes_on b _ y k _ mid _ r s h e) = starts_full (KindOf Kind) mid a next (reaches_full r) s

    pub reaches_in_set : (x : List ℕ) (p : ℕ) → ReachesNumber rs x p → InSet rs x p
    reaches_in_set x p h =
        let d = led h.reaches in
        let some : (a : NumberedClass) → KindOf Kind a → (b : NumberedClass) × Itself a b = λ a k. (a, refl) in
        let rest = all_full_spell (KindOf Kind) Itself some h.next (reaches_full h.reaches) in
        let back = goes_back Itself (d.front ++ h.place ∷ []) (d.front ++ h.place ∷ []) rest.0 (whole rs ∷ []) h.next d.leads (itself_back (d.front ++ h.place ∷ [])) rest.1 in
        let is : back.0 ≡ (d.front ++ h.place ∷ []) ++ rest.0 = sym (append-nil back.0) ∙ ap (λ t. back.0 ++ t) (sym back.3) ∙ sym back.4 in
        record { front = d.front; last = h.place; rest = rest.0; word = subst (λ t. Spells Itself (whole rs) t) is back.2; read = d.read; number = h.number }
