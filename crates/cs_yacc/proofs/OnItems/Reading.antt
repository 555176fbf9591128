-- Reading a text item by item.
use Rattle.std.proofs.Common.{◌≡◌, ℕ, suc, ◌+◌, ◌-◌, ◌≤◌, ◌<◌, true, false, List, [], ◌∷◌, ◌++◌, length, drop, refl, sym, subst, ◌∙◌, arith, inl, inr}
use Rattle.std.proofs.lemmas.Bool.Decides.{nat_tests}
use Rattle.std.proofs.lemmas.List.{length-drop, drop-drop, drop_all}
use Rattle.cs_ctext.specs.Comments.{IsComment, OpensComment}
use Rattle.cs_ctext.proofs.PartSizes.{opens-comment, opens-slash}
use Rattle.cs_bytes.specs.Classes.{is_white_space, is_digit}
use Rattle.cs_yacc.specs.Items.Bytes.{begins_name}
use Rattle.cs_yacc.specs.Items.Items.{Item, mark, prologue, directive, unknown, name, literal, number, tag, block, colon, semicolon, bar, comma, IsNumber, Spells, BeginsItem, IsGap, blank, comment, Placed, Follows, Reached, start, marks_behind, ReadsTo, ReadingEnds, at_mark, at_end, Reads, Stops, StopsAt}
use Rattle.cs_yacc.proofs.OnItems.Gaps.{NoGap, same_gap}
use Rattle.cs_yacc.proofs.OnItems.Front.{spells_nothing, class, byte_class, class_is, same_size}

-- ---- an item is no gap

blank_class : (c : ℕ) → is_white_space c ≡ true → byte_class c ≡ c
blank_class c h = let f : begins_name c ≡ false = grind (arith, nat_tests) in let g : is_digit c ≡ false = grind (arith, nat_tests) in rw (f, g) refl

blank_small : (c : ℕ) → is_white_space c ≡ true → (2 ≤ c) × (c ≤ 32)
blank_small c h = (grind (arith, nat_tests), grind (arith, nat_tests))

class_big : (i : Item) (c : ℕ) → class i ≡ c → 2 ≤ c → c ≤ 32 → ⊥
class_big mark c e l g = omega arith
class_big prologue c e l g = omega arith
class_big (directive d) c e l g = omega arith
class_big (unknown w) c e l g = omega arith
class_big (name n) c e l g = omega arith
class_big (literal b) c e l g = omega arith
class_big number c e l g = omega arith
class_big tag c e l g = omega arith
class_big block c e l g = omega arith
class_big colon c e l g = omega arith
class_big semicolon c e l g = omega arith
class_big bar c e l g = omega arith
class_big comma c e l g = omega arith

class_slash : (i : Item) → class i ≡ 47 → ⊥
class_slash mark e = omega arith
class_slash i e = omega arith

item_no_blank : (c : ℕ) (text : List ℕ) (n : ℕ) (i : Item) → Spells (c ∷ text) n i → is_white_space c ≡ true → ⊥
item_no_blank c text n i h e =
    let b = blank_small c e in
    class_big i c (class_is c text n i h ∙ blank_class c e) b.0 b.1

item_no_comment : (text : List ℕ) (n : ℕ) (i : Item) (k : ℕ) → Spells text n i → IsComment text k → ⊥
item_no_comment [] n i k h is = spells_nothing n i h
item_no_comment (c ∷ text) n i k h is = let f : c ≡ 47 = opens-slash c text (opens-comment (c ∷ text) k is) in class_slash i (class_is c text n i h ∙ rw f refl)

item_no_gap : {text : List ℕ} {m : ℕ} (i : Item) (n : ℕ) → Spells text n i → IsGap text (suc m) → ⊥
item_no_gap i n h (blank {b = b} {text = text} e g) = item_no_blank b text n i h e
item_no_gap {text = text} i n h (comment {c = c} is g e) = item_no_comment text n i c h is

spells_some : (text : List ℕ) (i : Item) (n : ℕ) → Spells text n i → 0 < length text
spells_some [] i n h = absurd (spells_nothing n i h)
spells_some (c ∷ text) i n h = omega arith

-- ---- what stands next

placed_same : (p q : Placed) → p.at ≡ q.at → p.item ≡ q.item → p ≡ q
placed_same p q e f = let g : Placed = record { at = p.at; item = p.item } in rw (e, f) refl

word_some : (d : ℕ) (w : List ℕ) (n : ℕ) → n ≡ length (d ∷ w) → 0 < n
word_some d w n e = omega arith

spells_size : (text : List ℕ) (n : ℕ) (i : Item) → Spells text n i → 0 < n
spells_size text n mark h = omega (arith, h.1)
spells_size text n prologue h = omega (arith, h.ends)
spells_size text n (directive d) h = word_some 37 h.0 n h.1.1
spells_size text n (unknown w) h = word_some 37 w n h.0.1
spells_size text n (name []) h = absurd h.1
spells_size text n (name (c ∷ w)) h = word_some c w n h.0.1
spells_size text n (literal b) h = omega (arith, h.ends)
spells_size text n number h = some_digits h.0 h.1.1 h.2
  where
    some_digits : (w : List ℕ) → n ≡ length w → IsNumber w → 0 < n
    some_digits [] s i = absurd i
    some_digits (d ∷ w) s i = omega arith
spells_size [] n tag h = absurd h
spells_size (c ∷ text) n tag h = omega (arith, h.2)
spells_size [] n block h = absurd h
spells_size (c ∷ text) n block h = omega (arith, h.3)
spells_size text n colon h = omega (arith, h.1)
spells_size text n semicolon h = omega (arith, h.1)
spells_size text n bar h = omega (arith, h.1)
spells_size text n comma h = omega (arith, h.1)

none_comment : (text : List ℕ) (n : ℕ) → IsComment text n → text ≡ [] → ⊥
none_comment [] n is e = none (opens-comment [] n is)
  where
    none : OpensComment [] → ⊥
    none (inl h) = cc
    none (inr h) = cc
none_comment (c ∷ text) n is e = cc

none_gap : {text : List ℕ} {n : ℕ} → IsGap text (suc n) → text ≡ [] → ⊥
none_gap (blank e g) f = absurd cc
none_gap {text = text} (comment {c = c} is g e) f = none_comment text c is f

at_end_no_gap : (bytes : List ℕ) (at : ℕ) → length bytes ≤ at → NoGap (drop at bytes)
at_end_no_gap bytes at le = λ n g. none_gap g (drop_all at bytes le)

module _ (bytes : List ℕ) (from : ℕ) where
  -- where a gap ends, it ends at one place
  gap_at : (n m : ℕ) → IsGap (drop from bytes) n → IsGap (drop from bytes) m → NoGap (drop (from + n) bytes) → NoGap (drop (from + m) bytes) → n ≡ m
  gap_at n m g h p q = same_gap g h (subst NoGap (sym (drop-drop n from bytes)) p) (subst NoGap (sym (drop-drop m from bytes)) q)

  ends_gap : (p : Placed) (to : ℕ) (f : Follows bytes from p to) → NoGap (drop (from + f.gap.0) bytes)
  ends_gap p to f = subst (λ (k : ℕ). NoGap (drop k bytes)) f.gap.2 (λ n g. item_no_gap p.item f.item.0 f.item.1.spelled g)

  pub follows_same : (p q : Placed) (to u : ℕ) → Follows bytes from p to → Follows bytes from q u → (p ≡ q) × (to ≡ u)
  follows_same p q to u f g =
      let size : f.gap.0 ≡ g.gap.0 = gap_at f.gap.0 g.gap.0 f.gap.1 g.gap.1 (ends_gap p to f) (ends_gap q u g) in
      let at : p.at ≡ q.at = omega (arith, f.gap.2, g.gap.2) in
      let b : BeginsItem (drop p.at bytes) q.item g.item.0 = subst (λ (k : ℕ). BeginsItem (drop k bytes) q.item g.item.0) (sym at) g.item.1 in
      let s = same_size (drop p.at bytes) p.item q.item f.item.0 g.item.0 f.item.1 b in
      (placed_same p q at s.1, omega (arith, s.0, f.item.2, g.item.2))

  -- an item is longer than nothing, and within the bytes
  pub follows_within : (p : Placed) (to : ℕ) → Follows bytes from p to → (from < to) × (to ≤ length bytes)
  follows_within p to f =
      let some : 0 < f.item.0 = spells_size (drop p.at bytes) f.item.0 p.item f.item.1.spelled in
      let left : 0 < length (drop p.at bytes) = spells_some (drop p.at bytes) p.item f.item.0 f.item.1.spelled in
      (omega (arith, f.item.2, f.gap.2), omega (arith, f.item.2, f.item.1.within, length-drop p.at bytes))

  follows_not_end : (p : Placed) (to : ℕ) → from ≤ length bytes → Follows bytes from p to → IsGap (drop from bytes) (length bytes - from) → ⊥
  follows_not_end p to le f g =
      let size : f.gap.0 ≡ length bytes - from = gap_at f.gap.0 (length bytes - from) f.gap.1 g (ends_gap p to f) (at_end_no_gap bytes (from + (length bytes - from)) (omega arith)) in
      let none : drop p.at bytes ≡ [] = drop_all p.at bytes (omega (arith, size, f.gap.2)) in
      spells_nothing f.item.0 p.item (subst (λ (t : List ℕ). Spells t f.item.0 p.item) none f.item.1.spelled)

  stop_ends : (at : ℕ) (s : Stops bytes from at) → NoGap (drop (from + s.gap.0) bytes)
  stop_ends at s = subst (λ (k : ℕ). NoGap (drop k bytes)) s.gap.2 s.no_gap

  follows_not_stops : (p : Placed) (to at : ℕ) → Follows bytes from p to → Stops bytes from at → ⊥
  follows_not_stops p to at f s =
      let size : f.gap.0 ≡ s.gap.0 = gap_at f.gap.0 s.gap.0 f.gap.1 s.gap.1 (ends_gap p to f) (stop_ends at s) in
      let same : p.at ≡ at = omega (arith, f.gap.2, s.gap.2) in
      s.no_item p.item f.item.0 f.known (subst (λ (k : ℕ). BeginsItem (drop k bytes) p.item f.item.0) same f.item.1)

  stops_same : (a b : ℕ) → Stops bytes from a → Stops bytes from b → a ≡ b
  stops_same a b s t = omega (arith, s.gap.2, t.gap.2, gap_at s.gap.0 t.gap.0 s.gap.1 t.gap.1 (stop_ends a s) (stop_ends b t))

  stops_not_end : (at : ℕ) → from ≤ length bytes → Stops bytes from at → IsGap (drop from bytes) (length bytes - from) → ⊥
  stops_not_end at le s g =
      let size : s.gap.0 ≡ length bytes - from = gap_at s.gap.0 (length bytes - from) s.gap.1 g (stop_ends at s) (at_end_no_gap bytes (from + (length bytes - from)) (omega arith)) in
      omega (arith, size, s.gap.2, s.left)

-- ---- where reading halts

-- no item follows there
abbrev Halts : List ℕ → Reached → Type 0
Halts bytes r = (p : Placed) (to : ℕ) → r.marks < 2 → Follows bytes r.at p to → ⊥

ends_halts : (bytes : List ℕ) (r : Reached) → ReadingEnds bytes r → Halts bytes r
ends_halts bytes r (at_mark e) p to lt f = omega arith
ends_halts bytes r (at_end l le g) p to lt f = follows_not_end bytes r.at p to le f g

stops_halts : (bytes : List ℕ) (r : Reached) (at : ℕ) → Stops bytes r.at at → Halts bytes r
stops_halts bytes r at s p to lt f = follows_not_stops bytes r.at p to at f s

ends_not_stops : (bytes : List ℕ) (r : Reached) (at : ℕ) → r.marks < 2 → ReadingEnds bytes r → Stops bytes r.at at → ⊥
ends_not_stops bytes r at lt (at_mark e) s = omega arith
ends_not_stops bytes r at lt (at_end l le g) s = stops_not_end bytes r.at at le s g

abbrev behind : Reached → Item → ℕ → Reached
behind r i to = record { at = to; marks = marks_behind r.marks i }

same_walk : (bytes : List ℕ) (r : Reached) (ps qs : List Placed) (a b : Reached) → ReadsTo bytes r ps a → ReadsTo bytes r qs b → Halts bytes a → Halts bytes b → (ps ≡ qs) × (a ≡ b)
same_walk bytes r [] [] a b x y h k = (refl, sym x ∙ y)
same_walk bytes r [] (q ∷ qs) a b x y h k = absurd (subst (Halts bytes) (sym x) h q y.1 y.0 y.2)
same_walk bytes r (p ∷ ps) [] a b x y h k = absurd (subst (Halts bytes) (sym y) k p x.1 x.0 x.2)
same_walk bytes r (p ∷ ps) (q ∷ qs) a b x y h k =
    let s = follows_same bytes r.at p q x.1 y.1 x.2 y.2 in
    let there : ReadsTo bytes (behind r p.item x.1) qs b = rw (s.0, s.1) y.3 in
    let rest = same_walk bytes (behind r p.item x.1) ps qs a b x.3 there h k in
    (rw (s.0, rest.0) refl, rest.1)

-- a text is read into one list of items
pub one_reading : (bytes : List ℕ) (ps qs : List Placed) → Reads bytes ps → Reads bytes qs → ps ≡ qs
one_reading bytes ps qs r s = (same_walk bytes start ps qs r.to s.to r.read s.read (ends_halts bytes r.to r.ends) (ends_halts bytes s.to s.ends)).0

-- reading stops at one place
pub one_stop : (bytes : List ℕ) (ps qs : List Placed) (a b : ℕ) → StopsAt bytes ps a → StopsAt bytes qs b → a ≡ b
one_stop bytes ps qs a b r s =
    let same = (same_walk bytes start ps qs r.from s.from r.read s.read (stops_halts bytes r.from a r.stops) (stops_halts bytes s.from b s.stops)).1 in
    stops_same bytes r.from.at a b r.stops (subst (λ (x : Reached). Stops bytes x.at b) (sym same) s.stops)

-- a text that reading stops in isn't read
pub stopped_not_read : (bytes : List ℕ) (ps qs : List Placed) (at : ℕ) → StopsAt bytes ps at → Reads bytes qs → ⊥
stopped_not_read bytes ps qs at s r =
    let same = (same_walk bytes start ps qs s.from r.to s.read r.read (stops_halts bytes s.from at s.stops) (ends_halts bytes r.to r.ends)).1 in
    ends_not_stops bytes s.from at s.more (subst (ReadingEnds bytes) (sym same) r.ends) s.stops

-- ---- reading on

ReadsTo-push : (bytes : List ℕ) (r : Reached) (ps : List Placed) (mid : Reached) (p : Placed) (to : ℕ) → ReadsTo bytes r ps mid → mid.marks < 2 → Follows bytes mid.at p to → ReadsTo bytes r (ps ++ p ∷ []) (behind mid p.item to)
ReadsTo-push bytes r [] mid p to x lt f = rw x (lt, to, f, refl)
ReadsTo-push bytes r (q ∷ ps) mid p to x lt f = (x.0, x.1, x.2, ReadsTo-push bytes (behind r q.item x.1) ps mid p to x.3 lt f)

-- What is read so far: these items, up to there.
pub record HasRead (bytes : List ℕ) (items : List Placed) (r : Reached) : Type 0 where
  pub within : r.at ≤ length bytes
  pub few : r.marks ≤ 2
  pub read : ReadsTo bytes start items r

pub HasRead-none : (bytes : List ℕ) → HasRead bytes [] start
HasRead-none bytes = record { within = omega arith; few = omega arith; read = refl }

few_behind : (i : Item) (m : ℕ) → m < 2 → marks_behind m i ≤ 2
few_behind mark m lt = omega arith
few_behind i m lt = omega arith

pub HasRead-more : (bytes : List ℕ) (items all : List Placed) (from marks : ℕ) (p : Placed) (to now : ℕ) → HasRead bytes items (record { at = from; marks = marks }) → marks < 2 → Follows bytes from p to → now ≡ marks_behind marks p.item → all ≡ items ++ p ∷ []
    → HasRead bytes all (record { at = to; marks = now })
HasRead-more bytes items all from marks p to now h lt f e g =
    rw (e, g) (record {
      within = (follows_within bytes from p to f).1;
      few = few_behind p.item marks lt;
      read = ReadsTo-push bytes start items (record { at = from; marks = marks }) p to h.read lt f;
    })

pub read_to_end : (bytes : List ℕ) (items : List Placed) (r : Reached) → HasRead bytes items r → ReadingEnds bytes r → Reads bytes items
read_to_end bytes items r h e = record { to = r; read = h.read; ends = e }

pub read_to_mark : (bytes : List ℕ) (items : List Placed) (from marks : ℕ) → HasRead bytes items (record { at = from; marks = marks }) → 2 ≤ marks → Reads bytes items
read_to_mark bytes items from marks h le = let e : marks ≡ 2 = omega (arith, h.few) in read_to_end bytes items (record { at = from; marks = marks }) h (at_mark e)

pub read_to_stop : (bytes : List ℕ) (items : List Placed) (r : Reached) (at : ℕ) → HasRead bytes items r → r.marks < 2 → Stops bytes r.at at → StopsAt bytes items at
read_to_stop bytes items r at h lt s = record { from = r; read = h.read; more = lt; stops = s }

-- ---- the next item, as the code finds it

module _ (bytes : List ℕ) (from at : ℕ) (gap : IsGap (drop from bytes) (at - from)) (after : from ≤ at) (ends : NoGap (drop at bytes)) where
  pub end_is : at ≡ length bytes → (marks : ℕ) → marks < 2 → ReadingEnds bytes (record { at = from; marks = marks })
  end_is e marks lt = at_end lt (omega arith) (rw e at gap)

-- ---- how many items
few_to : (bytes : List ℕ) (r : Reached) (ps : List Placed) (to : Reached) → ReadsTo bytes r ps to → (r.at + length ps ≤ to.at) × (r.at ≤ length bytes → to.at ≤ length bytes)
few_to bytes r [] to x = rw x (omega arith, λ le. le)
few_to bytes r (p ∷ ps) to x =
    let w = follows_within bytes r.at p x.1 x.2 in
    let rest = few_to bytes (record { at = x.1; marks = marks_behind r.marks p.item }) ps to x.3 in
    (omega (arith, w.0, rest.0), λ le. rest.1 w.1)

-- there are at most as many items as bytes
pub few_items : (bytes : List ℕ) (ps : List Placed) → Reads bytes ps → length ps ≤ length bytes
few_items bytes ps r = let f = few_to bytes start ps r.to r.read in omega (arith, f.0, f.1 (omega arith))
