-- Reading the items of a text.
use Rattle.std.proofs.Common.{◌≡◌, ℕ, ◌+◌, ◌≤◌, ◌<◌, List, [], ◌∷◌, ◌++◌, length, drop, refl, sym, ap, ◌∙◌, subst, arith, inl, inr, ◌⊎◌, length-drop}
use Rattle.std.specs.Prelude.{Some, None}
use Rattle.cs_pattern.specs.declared.text.place.PatternPlace.{PatternPlace}
use Rattle.cs_pattern_parts.specs.declared.items.front.Stop.{Stop}
use Rattle.cs_pattern_parts.specs.declared.items.front.Stop.TheVariants.{Syntax}
use Rattle.cs_pattern_parts.specs.Items.Items.{Item, Placed}
use Rattle.cs_pattern_parts.specs.Items.Spelling.{Spells}
use Rattle.cs_pattern_parts.proofs.OnItems.Fronts.{one_spelled, one_stopped, stopped_no_item}
use Rattle.cs_pattern.proofs.OnText.Sizes.{item_size}
use Rattle.cs_pattern.specs.Text.Table.{next_place, beginning, MayEnd, ReadsTo, IsPlainText, Reads, StopsWith, SpellsMisplaced, StopsAtEnd, StopsAt}

pub ReadsTo-push : (bytes : List ℕ) (at : ℕ) (p : PatternPlace) (xs : List Placed) (mid : ℕ) (q : PatternPlace) (x : Placed) (size : ℕ) (next : PatternPlace) → ReadsTo bytes at p xs mid q
    → x.at ≡ mid → Spells (drop mid bytes) size x.item → next_place q x.item ≡ Some next → ReadsTo bytes at p (xs ++ x ∷ []) (mid + size) next
ReadsTo-push bytes at p [] mid q x size next r here is row =
    (size, next, here ∙ sym r.0, subst (λ n. Spells (drop n bytes) size x.item) (sym r.0) is, ap (λ s. next_place s x.item) r.1 ∙ row, (ap (λ n. n + size) r.0, refl))
ReadsTo-push bytes at p (y ∷ xs) mid q x size next r here is row =
    (r.0, r.1, r.2, r.3, r.4, ReadsTo-push bytes (at + r.0) r.1 xs mid q x size next r.5 here is row)

-- What is read so far: these items, up to the offset and the place.
pub record HasRead (bytes : List ℕ) (items : List Placed) (at : ℕ) (p : PatternPlace) : Type 0 where
  pub within : at ≤ length bytes
  pub groups : p.groups ≤ at
  pub read : ReadsTo bytes 0 beginning items at p

pub has_read_none : (bytes : List ℕ) (p : PatternPlace) → p ≡ beginning → HasRead bytes [] 0 p
has_read_none bytes p e = record { within = omega arith; groups = (let f : p.groups ≡ 0 = ap (λ (q : PatternPlace). q.groups) e in omega arith); read = (refl, sym e) }

pub has_read_more : (bytes : List ℕ) (items : List Placed) (at : ℕ) (p : PatternPlace) (i : Item) (size : ℕ) (next : PatternPlace) (text : List ℕ) → HasRead bytes items at p → text ≡ drop at bytes
    → Spells text size i → next_place p i ≡ Some next → 0 < size → at + size ≤ length bytes → next.groups ≤ p.groups + 1 → HasRead bytes (items ++ record { at = at; item = i } ∷ []) (at + size) next
has_read_more bytes items at p i size next text h here is row pos le few = record {
  within = le;
  groups = (let o = h.groups in omega arith);
  read = ReadsTo-push bytes 0 beginning items at p (record { at = at; item = i }) size next h.read refl (subst (λ (t : List ℕ). Spells t size i) here is) row;
}

pub reads_all : (bytes : List ℕ) (items : List Placed) (at : ℕ) (p : PatternPlace) → IsPlainText bytes → HasRead bytes items at p → length bytes ≤ at → MayEnd p → Reads bytes items
reads_all bytes items at p plain h le ends =
    let e : at ≡ length bytes = (let w = h.within in omega arith) in
    record { plain = plain; last = p; read = subst (λ n. ReadsTo bytes 0 beginning items n p) e h.read; ends = ends }

pub stops_here : (bytes : List ℕ) (items : List Placed) (at : ℕ) (p : PatternPlace) (why : Stop) (text : List ℕ) → IsPlainText bytes → HasRead bytes items at p → text ≡ drop at bytes → at < length bytes → StopsWith p text why → StopsAt bytes at why
stops_here bytes items at p why text plain h here lt s =
    record { plain = plain; items = items; last = p; read = h.read; stops = inl (lt, subst (λ (t : List ℕ). StopsWith p t why) here s) }

pub stops_at_end : (bytes : List ℕ) (items : List Placed) (at : ℕ) (p : PatternPlace) → IsPlainText bytes → HasRead bytes items at p → length bytes ≤ at → (MayEnd p → ⊥) → StopsAt bytes at Syntax
stops_at_end bytes items at p plain h le no_end =
    let e : at ≡ length bytes = (let w = h.within in omega arith) in
    record { plain = plain; items = items; last = p; read = h.read; stops = inr (e, (no_end, refl)) }

-- ---- one reading

one_place : (p q : PatternPlace) → Some p ≡ Some q → p ≡ q
one_place p q e = cc

placed_same : (x y : Placed) → x.at ≡ y.at → x.item ≡ y.item → x ≡ y
placed_same x y e f = ap (λ (n : ℕ). record { at = n; item = x.item }) e ∙ ap (λ (i : Item). record { at = y.at; item = i }) f

-- two readings from one place to a place where both stop are one
module _ (bytes : List ℕ) where
  -- nothing that may stand there stands at the offset
  abbrev NoneGoesOn : ℕ → PatternPlace → Type 0
  NoneGoesOn at p = (i : Item) (n : ℕ) (next : PatternPlace) → Spells (drop at bytes) n i → next_place p i ≡ Some next → ⊥

  one_read : (at bt : ℕ) (p q : PatternPlace) (xs ys : List Placed) (to un : ℕ) (last other : PatternPlace) → at ≡ bt → p ≡ q → ReadsTo bytes at p xs to last → ReadsTo bytes bt q ys un other → NoneGoesOn to last → NoneGoesOn un other → (xs ≡ ys) × (to ≡ un) × (last ≡ other)
  one_read at bt p q [] [] to un last other e f r s v w = (refl, sym r.0 ∙ e ∙ s.0, sym r.1 ∙ f ∙ s.1)
  one_read at bt p q [] (y ∷ ys) to un last other e f r s v w =
      absurd (v y.item s.0 s.1 (subst (λ n. Spells (drop n bytes) s.0 y.item) (sym e ∙ r.0) s.3) (ap (λ k. next_place k y.item) (sym r.1 ∙ f) ∙ s.4))
  one_read at bt p q (x ∷ xs) [] to un last other e f r s v w =
      absurd (w x.item r.0 r.1 (subst (λ n. Spells (drop n bytes) r.0 x.item) (e ∙ s.0) r.3) (ap (λ k. next_place k x.item) (sym s.1 ∙ sym f) ∙ r.4))
  one_read at bt p q (x ∷ xs) (y ∷ ys) to un last other e f r s v w =
      let same = one_spelled (drop bt bytes) r.0 s.0 x.item y.item (subst (λ n. Spells (drop n bytes) r.0 x.item) e r.3) s.3 in
      let places = one_place r.1 s.1 (sym r.4 ∙ ap (λ k. next_place k x.item) f ∙ ap (next_place q) same.1 ∙ s.4) in
      let head = placed_same x y (r.2 ∙ e ∙ sym s.2) same.1 in
      let offsets : at + r.0 ≡ bt + s.0 = ap (λ n. n + r.0) e ∙ ap (λ n. bt + n) same.0 in
      let rest = one_read (at + r.0) (bt + s.0) r.1 s.1 xs ys to un last other offsets places r.5 s.5 v w in
      (let t = rest.0 in cc, rest.1, rest.2)

-- no item stands at the end
pub none_at_end : (bytes : List ℕ) (at n : ℕ) (i : Item) → length bytes ≤ at → Spells (drop at bytes) n i → ⊥
none_at_end bytes at n i le s = let size = item_size (drop at bytes) n i s in omega (arith, size.0, size.1, length-drop at bytes)

pub ends_read : (bytes : List ℕ) (items : List Placed) (r : Reads bytes items) → NoneGoesOn bytes (length bytes) r.last
ends_read bytes items r i n next e row = none_at_end bytes (length bytes) n i (omega arith) e

-- the item that the text spells may not stand there
no_row : (text : List ℕ) (p : PatternPlace) (n : ℕ) (i : Item) (next : PatternPlace) → SpellsMisplaced p text → Spells text n i → next_place p i ≡ Some next → ⊥
no_row text p n i next m e row =
    let same = one_spelled text m.1 n m.0 i m.2 e in
    let f : None ≡ Some next = sym m.3 ∙ ap (next_place p) same.1 ∙ row in
    absurd cc

stop_ends : (bytes : List ℕ) (at : ℕ) (last : PatternPlace) (why : Stop) → ((at < length bytes) × StopsWith last (drop at bytes) why) ⊎ ((at ≡ length bytes) × StopsAtEnd last why) → NoneGoesOn bytes at last
stop_ends bytes at last why (inl s) i n next e row =
    elim (s.1) [
      | inl stop ↦ stopped_no_item (drop at bytes) why n i stop e
      | inr m ↦ no_row (drop at bytes) last n i next m.0 e row
    ]
stop_ends bytes at last why (inr s) i n next e row = none_at_end bytes at n i (omega (arith, s.0)) e

-- a text is read into one list of items
pub one_reading : (bytes : List ℕ) (xs ys : List Placed) → Reads bytes xs → Reads bytes ys → xs ≡ ys
one_reading bytes xs ys r s = (one_read bytes 0 0 beginning beginning xs ys (length bytes) (length bytes) r.last s.last refl refl r.read s.read (ends_read bytes xs r) (ends_read bytes ys s)).0

-- a text that is read has no stop
pub no_stop : (bytes : List ℕ) (xs : List Placed) (at : ℕ) (why : Stop) → Reads bytes xs → StopsAt bytes at why → ⊥
no_stop bytes xs at why r s =
    let one = one_read bytes 0 0 beginning beginning xs s.items (length bytes) at r.last s.last refl refl r.read s.read (ends_read bytes xs r) (stop_ends bytes at s.last why s.stops) in
    by_case s.stops one.1 one.2
  where
    by_case : ((at < length bytes) × StopsWith s.last (drop at bytes) why) ⊎ ((at ≡ length bytes) × StopsAtEnd s.last why) → length bytes ≡ at → r.last ≡ s.last → ⊥
    by_case (inl h) e f = omega (arith, h.0)
    by_case (inr h) e f = h.1.0 (sym f ∙ r.ends)

one_why : (text : List ℕ) (p : PatternPlace) (w v : Stop) → StopsWith p text w → StopsWith p text v → w ≡ v
one_why text p w v (inl a) (inl b) = one_stopped text w v a b
one_why text p w v (inl a) (inr b) = absurd (stopped_no_item text w b.0.1 b.0.0 a b.0.2)
one_why text p w v (inr a) (inl b) = absurd (stopped_no_item text v a.0.1 a.0.0 b a.0.2)
one_why text p w v (inr a) (inr b) = a.1 ∙ sym b.1

-- reading stops at one place, for one reason
pub one_stop : (bytes : List ℕ) (at bt : ℕ) (w v : Stop) → StopsAt bytes at w → StopsAt bytes bt v → (at ≡ bt) × (w ≡ v)
one_stop bytes at bt w v s t =
    let one = one_read bytes 0 0 beginning beginning s.items t.items at bt s.last t.last refl refl s.read t.read (stop_ends bytes at s.last w s.stops) (stop_ends bytes bt t.last v t.stops) in
    (one.1, by_cases s.stops t.stops one.1 one.2)
  where
    by_cases : ((at < length bytes) × StopsWith s.last (drop at bytes) w) ⊎ ((at ≡ length bytes) × StopsAtEnd s.last w) → ((bt < length bytes) × StopsWith t.last (drop bt bytes) v) ⊎ ((bt ≡ length bytes) × StopsAtEnd t.last v)
        → at ≡ bt → s.last ≡ t.last → w ≡ v
    by_cases (inl a) (inl b) e f = one_why (drop bt bytes) t.last w v (subst (λ q. StopsWith q (drop bt bytes) w) f (subst (λ n. StopsWith s.last (drop n bytes) w) e a.1)) b.1
    by_cases (inl a) (inr b) e f = absurd (omega (arith, a.0, b.0))
    by_cases (inr a) (inl b) e f = absurd (omega (arith, a.0, b.0))
    by_cases (inr a) (inr b) e f = a.1.1 ∙ sym b.1.1
