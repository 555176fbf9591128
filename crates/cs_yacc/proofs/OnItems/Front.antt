-- Which item stands at the front of a text.
use Rattle.std.proofs.Common.{◌≡◌, ℕ, zero, suc, ◌+◌, ◌≤◌, Bool, true, false, cond, List, [], ◌∷◌, ◌++◌, length, take, Some, None, refl, sym, ap, subst, ◌∙◌, one-add, arith, inl, inr}
use Rattle.std.specs.Prelude.{IsTrue, codes}
use Rattle.std.specs.List.{AllByRecursion, prefix_len}
use Rattle.std.proofs.lemmas.Bool.{false≢true, cases_lt}
use Rattle.std.proofs.lemmas.Bool.Decides.{nat_tests}
use Rattle.cs_ctext.proofs.LiteralValues.{same_literal}
use Rattle.cs_bytes.specs.Classes.{is_digit}
use Rattle.cs_yacc.specs.Items.Bytes.{begins_name, is_directive_byte}
use Rattle.cs_yacc.specs.Items.Directives.{directive_of}
use Rattle.cs_yacc.specs.Items.Items.{Item, mark, prologue, directive, unknown, name, literal, number, tag, block, colon, semicolon, bar, comma, Shows, IsDirectiveWord, IsNumber, IsPrologue, IsTag, Spells, BeginsItem, BeginsNoItem, IsKnown}

-- ---- runs of bytes

run_passes_step : (p : ℕ → Bool) (c : ℕ) (text : List ℕ) (b : Bool) → p c ≡ b → AllByRecursion (λ x. IsTrue (p x)) (take (prefix_len p text) text)
    → AllByRecursion (λ x. IsTrue (p x)) (take (cond b (1 + prefix_len p text) 0) (c ∷ text))
run_passes_step p c text true e all = rw one-add (e, all)
run_passes_step p c text false e all = tt

-- the longest run passes
pub run_passes : (p : ℕ → Bool) (text : List ℕ) → AllByRecursion (λ c. IsTrue (p c)) (take (prefix_len p text) text)
run_passes p [] = tt
run_passes p (c ∷ text) = run_passes_step p c text (p c) refl (run_passes p text)

-- and no longer one does
pub run_longest : (p : ℕ → Bool) (n : ℕ) (text : List ℕ) → n ≤ length text → AllByRecursion (λ c. IsTrue (p c)) (take n text) → n ≤ prefix_len p text
run_longest p zero text le h = omega arith
run_longest p (suc n) [] le h = absurd (omega arith)
run_longest p (suc n) (c ∷ text) le h = rw h.0 (omega (arith, run_longest p n text (omega arith) h.1))

-- ---- shown bytes

pub shows_within : (text w : List ℕ) (n : ℕ) → Shows text w n → n ≤ length text
shows_within text w zero h = omega arith
shows_within [] w (suc n) h = absurd (omega (arith, ap length h.0, h.1))
shows_within (c ∷ text) w (suc n) h =
    let size : n ≡ length (take n text) = omega (arith, ap length h.0, h.1) in
    omega (arith, shows_within text (take n text) n (refl, size))

pub shows_cons : (c : ℕ) (text : List ℕ) (d : ℕ) (w : List ℕ) (n : ℕ) → Shows (c ∷ text) (d ∷ w) n → (c ≡ d) × (m : ℕ) × Shows text w m × (n ≡ suc m)
shows_cons c text d w zero h = absurd (omega (arith, h.1))
shows_cons c text d w (suc m) h = let e : c ∷ take m text ≡ d ∷ w = h.0 in (cc, m, (cc, omega (arith, h.1)), refl)

shows_nothing : (d : ℕ) (w : List ℕ) (n : ℕ) → Shows [] (d ∷ w) n → ⊥
shows_nothing d w n h = omega (arith, shows_within [] (d ∷ w) n h, h.1)

pub shows_run : (p : ℕ → Bool) (text w : List ℕ) (n : ℕ) → Shows text w n → AllByRecursion (λ c. IsTrue (p c)) w → n ≤ prefix_len p text
shows_run p text w n h all = run_longest p n text (shows_within text w n h) (subst (AllByRecursion (λ c. IsTrue (p c))) (sym h.0) all)

-- ---- what a front can be

pub spells_nothing : (n : ℕ) (item : Item) → Spells [] n item → ⊥
spells_nothing n mark h = shows_nothing 37 (37 ∷ []) n h
spells_nothing n prologue h = let e : [] ≡ 37 ∷ 123 ∷ [] = h.opened in cc
spells_nothing n (directive d) h = shows_nothing 37 h.0 n h.1
spells_nothing n (unknown w) h = shows_nothing 37 w n h.0
spells_nothing n (name []) h = h.1
spells_nothing n (name (c ∷ w)) h = shows_nothing c w n h.0
spells_nothing n (literal b) h = let e = h.spelled in absurd cc
spells_nothing n number h = some_digits h.0 h.1 h.2
  where
    some_digits : (w : List ℕ) → Shows [] w n → IsNumber w → ⊥
    some_digits [] s i = i
    some_digits (c ∷ w) s i = shows_nothing c w n s
spells_nothing n tag h = h
spells_nothing n block h = h
spells_nothing n colon h = shows_nothing 58 [] n h
spells_nothing n semicolon h = shows_nothing 59 [] n h
spells_nothing n bar h = shows_nothing 124 [] n h
spells_nothing n comma h = shows_nothing 44 [] n h

-- the kind of first byte that an item has
abbrev pub class : Item → ℕ
class mark = 37
class prologue = 37
class (directive d) = 37
class (unknown w) = 37
class (name n) = 0
class (literal b) = 39
class number = 1
class tag = 60
class block = 123
class colon = 58
class semicolon = 59
class bar = 124
class comma = 44

abbrev pub byte_class : ℕ → ℕ
byte_class c = cond (begins_name c) 0 (cond (is_digit c) 1 c)

digit_no_name : (c : ℕ) → is_digit c ≡ true → begins_name c ≡ false
digit_no_name c h = grind (arith, nat_tests)

class_first : (c d : ℕ) (k : ℕ) → c ≡ d → k ≡ byte_class d → k ≡ byte_class c
class_first c d k e h = rw e h

pub class_is : (c : ℕ) (text : List ℕ) (n : ℕ) (i : Item) → Spells (c ∷ text) n i → class i ≡ byte_class c
class_is c text n mark h = class_first c 37 37 ((shows_cons c text 37 (37 ∷ []) n h).0) refl
class_is c text n prologue h = let e : c ∷ take 1 text ≡ 37 ∷ 123 ∷ [] = h.opened in let f : c ≡ 37 = cc in class_first c 37 37 f refl
class_is c text n (directive d) h = class_first c 37 37 ((shows_cons c text 37 h.0 n h.1).0) refl
class_is c text n (unknown w) h = class_first c 37 37 ((shows_cons c text 37 w n h.0).0) refl
class_is c text n (name []) h = absurd h.1
class_is c text n (name (d ∷ w)) h = let f : begins_name d ≡ true = h.1.0 in class_first c d 0 ((shows_cons c text d w n h.0).0) (rw f refl)
class_is c text n (literal b) h = let e : c ∷ text ≡ 39 ∷ (h.character ++ 39 ∷ h.rest) = h.spelled in let f : c ≡ 39 = cc in class_first c 39 39 f refl
class_is c text n number h = some_digits h.0 h.1 h.2
  where
    some_digits : (w : List ℕ) → Shows (c ∷ text) w n → IsNumber w → 1 ≡ byte_class c
    some_digits [] s i = absurd i
    some_digits (d ∷ w) s i = let f : is_digit d ≡ true = i.0 in let g : begins_name d ≡ false = digit_no_name d f in class_first c d 1 ((shows_cons c text d w n s).0) (rw (g, f) refl)
class_is c text n tag h = class_first c 60 60 h.0 refl
class_is c text n block h = class_first c 123 123 h.0 refl
class_is c text n colon h = class_first c 58 58 ((shows_cons c text 58 [] n h).0) refl
class_is c text n semicolon h = class_first c 59 59 ((shows_cons c text 59 [] n h).0) refl
class_is c text n bar h = class_first c 124 124 ((shows_cons c text 124 [] n h).0) refl
class_is c text n comma h = class_first c 44 44 ((shows_cons c text 44 [] n h).0) refl

-- ---- the second byte behind `%`

word_second : (c d : ℕ) (rest word : List ℕ) (n : ℕ) → Shows (c ∷ d ∷ rest) (37 ∷ word) n → IsDirectiveWord word → is_directive_byte d ≡ true
word_second c d rest [] n h w = absurd w
word_second c d rest (x ∷ word) n h w =
    let a = shows_cons c (d ∷ rest) 37 (x ∷ word) n h in
    let b = shows_cons d rest x word a.1 a.2 in
    rw b.0 w.0

word_short : (c : ℕ) (word : List ℕ) (n : ℕ) → Shows (c ∷ []) (37 ∷ word) n → IsDirectiveWord word → ⊥
word_short c [] n h w = w
word_short c (x ∷ word) n h w = let a = shows_cons c [] 37 (x ∷ word) n h in shows_nothing x word a.1 a.2

no_word_37 : is_directive_byte 37 ≡ true → ⊥
no_word_37 e = false≢true e

no_word_123 : is_directive_byte 123 ≡ true → ⊥
no_word_123 e = false≢true e

pub mark_no_word : (text word : List ℕ) (m n : ℕ) → Shows text (codes "%%") m → Shows text (37 ∷ word) n → IsDirectiveWord word → ⊥
mark_no_word [] word m n h g w = shows_nothing 37 (37 ∷ []) m h
mark_no_word (c ∷ []) word m n h g w = word_short c word n g w
mark_no_word (c ∷ d ∷ rest) word m n h g w =
    let a = shows_cons c (d ∷ rest) 37 (37 ∷ []) m h in
    let b = shows_cons d rest 37 [] a.1 a.2 in
    no_word_37 (rw b.0 at (word_second c d rest word n g w))

pub prologue_no_word : (text word : List ℕ) (n : ℕ) → take 2 text ≡ codes "%{" → Shows text (37 ∷ word) n → IsDirectiveWord word → ⊥
prologue_no_word [] word n e g w = cc
prologue_no_word (c ∷ []) word n e g w = word_short c word n g w
prologue_no_word (c ∷ d ∷ rest) word n e g w =
    let f : c ∷ d ∷ [] ≡ 37 ∷ 123 ∷ [] = e in
    let s : d ≡ 123 = cc in
    no_word_123 (rw s at (word_second c d rest word n g w))

pub mark_no_prologue : (text : List ℕ) (n : ℕ) → Shows text (codes "%%") n → take 2 text ≡ codes "%{" → ⊥
mark_no_prologue text n h e = let f : n ≡ 2 = h.1 in let g : take 2 text ≡ codes "%%" = rw f at h.0 in cc

pub same_prologue : (text : List ℕ) (m n : ℕ) → IsPrologue text m → IsPrologue text n → m ≡ n
same_prologue text m n p q =
    elim (cases_lt p.inside q.inside) [
      | inl lt ↦ absurd (false≢true (sym (q.closed.none_before p.inside lt) ∙ p.closed.here))
      | inr ge ↦ elim (cases_lt q.inside p.inside) [
        | inl lt ↦ absurd (false≢true (sym (p.closed.none_before q.inside lt) ∙ q.closed.here))
        | inr le ↦ omega (arith, p.ends, q.ends)
      ]
    ]

pub same_tag : (text : List ℕ) (m n : ℕ) → IsTag text m → IsTag text n → m ≡ n
same_tag [] m n p q = absurd p
same_tag (c ∷ text) m n p q = omega (arith, p.2, q.2)

-- ---- a text spells one item

same_word : (text v w : List ℕ) (n : ℕ) → Shows text (37 ∷ v) n → Shows text (37 ∷ w) n → v ≡ w
same_word text v w n p q = let e : 37 ∷ v ≡ 37 ∷ w = sym p.0 ∙ q.0 in cc

pub same_item : (text : List ℕ) (n : ℕ) (i j : Item) → Spells text n i → Spells text n j → i ≡ j
same_item [] n i j p q = absurd (spells_nothing n i p)
same_item (c ∷ text) n i j p q = pick i j p q (class_is c text n i p ∙ sym (class_is c text n j q))
  where
    pick : (i j : Item) → Spells (c ∷ text) n i → Spells (c ∷ text) n j → class i ≡ class j → i ≡ j
    pick mark mark p q e = refl
    pick mark prologue p q e = absurd (mark_no_prologue (c ∷ text) n p q.opened)
    pick mark (directive d) p q e = absurd (mark_no_word (c ∷ text) q.0 n n p q.1 q.2)
    pick mark (unknown w) p q e = absurd (mark_no_word (c ∷ text) w n n p q.0 q.1)
    pick prologue mark p q e = absurd (mark_no_prologue (c ∷ text) n q p.opened)
    pick prologue prologue p q e = refl
    pick prologue (directive d) p q e = absurd (prologue_no_word (c ∷ text) q.0 n p.opened q.1 q.2)
    pick prologue (unknown w) p q e = absurd (prologue_no_word (c ∷ text) w n p.opened q.0 q.1)
    pick (directive d) mark p q e = absurd (mark_no_word (c ∷ text) p.0 n n q p.1 p.2)
    pick (directive d) prologue p q e = absurd (prologue_no_word (c ∷ text) p.0 n q.opened p.1 p.2)
    pick (directive d) (directive f) p q e = let s : p.0 ≡ q.0 = same_word (c ∷ text) p.0 q.0 n p.1 q.1 in let t : directive_of p.0 ≡ directive_of q.0 = ap directive_of s in let u : Some d ≡ Some f = sym p.3 ∙ t ∙ q.3 in cc
    pick (directive d) (unknown w) p q e = let s : p.0 ≡ w = same_word (c ∷ text) p.0 w n p.1 q.0 in let t : directive_of p.0 ≡ directive_of w = ap directive_of s in let u : Some d ≡ None = sym p.3 ∙ t ∙ q.2 in absurd cc
    pick (unknown v) mark p q e = absurd (mark_no_word (c ∷ text) v n n q p.0 p.1)
    pick (unknown v) prologue p q e = absurd (prologue_no_word (c ∷ text) v n q.opened p.0 p.1)
    pick (unknown v) (directive f) p q e = let s : q.0 ≡ v = same_word (c ∷ text) q.0 v n q.1 p.0 in let t : directive_of q.0 ≡ directive_of v = ap directive_of s in let u : Some f ≡ None = sym q.3 ∙ t ∙ p.2 in absurd cc
    pick (unknown v) (unknown w) p q e = ap unknown (same_word (c ∷ text) v w n p.0 q.0)
    pick (name v) (name w) p q e = ap name (sym p.0.0 ∙ q.0.0)
    pick (literal a) (literal b) p q e = ap literal ((same_literal (c ∷ text) a b n n p q).0)
    pick number number p q e = refl
    pick tag tag p q e = refl
    pick block block p q e = refl
    pick colon colon p q e = refl
    pick semicolon semicolon p q e = refl
    pick bar bar p q e = refl
    pick comma comma p q e = refl
    pick i j p q e = absurd (omega arith)

pub same_size : (text : List ℕ) (i j : Item) (m n : ℕ) → BeginsItem text i m → BeginsItem text j n → (m ≡ n) × (i ≡ j)
same_size text i j m n a b =
    let e : m ≡ n = omega (arith, a.longest j n b.within b.spelled, b.longest i m a.within a.spelled) in
    (e, same_item text m i j a.spelled (rw e b.spelled))

-- a directive of an unknown word is nothing that reading takes
pub nothing_unknown : (text : List ℕ) (w : List ℕ) (n : ℕ) → BeginsItem text (unknown w) n → BeginsNoItem text
nothing_unknown text w n u item size known b = not_known item known (same_size text (unknown w) item n size u b).1
  where
    not_known : (i : Item) → IsKnown i → unknown w ≡ i → ⊥
    not_known (unknown v) k e = k
    not_known i k e = absurd cc
