-- What the code finds at the front of a text.
use Rattle.std.proofs.Common.{◌≡◌, ◌≢◌, ℕ, zero, suc, ◌+◌, ◌-◌, ◌≤◌, ◌<◌, Bool, true, false, ◌||◌, List, [], ◌∷◌, length, get_or, take, drop, Some, None, refl, sym, ap, subst, ◌∙◌, one-add, add-one, arith}
use Rattle.std.specs.Prelude.{IsTrue, ◌==◌, codes, slice_get}
use Rattle.std.specs.List.{AllByRecursion, prefix_len, position_or_len}
use Rattle.std.proofs.lemmas.Bool.{false≢true, eqb-true, eq-eqb}
use Rattle.std.proofs.lemmas.Bool.Decides.{nat_tests}
use Rattle.std.proofs.lemmas.List.{length-take-le, length-drop}
use Rattle.std.proofs.lemmas.List.Sums.{prefix_len-le-length}
use Rattle.cs_ctext.specs.Comments.{IsComment, OpensComment}
use Rattle.cs_ctext.specs.Blocks.{IsBlock}
use Rattle.cs_ctext.specs.Literals.{IsLiteral}
use Rattle.cs_bytes.specs.Places.{front, begins_with, IsFirstPair, HasNoPair}
use Rattle.cs_bytes.proofs.Fronts.{pair_within}
use Rattle.cs_ctext.proofs.BlockSteps.{same_block}
use Rattle.cs_ctext.proofs.LiteralValues.{same_literal}
use Rattle.cs_ctext.proofs.PartSizes.{opens-slash}
use Rattle.cs_yacc.specs.declared.items.directive.Directive.{Directive}
use Rattle.cs_bytes.specs.Classes.{is_digit, begins_word}
use Rattle.cs_yacc.specs.Items.Bytes.{begins_name, is_name_byte, is_directive_byte, ends_tag}
use Rattle.cs_yacc.specs.Items.Directives.{directive_of}
use Rattle.cs_yacc.specs.Items.Items.{Item, mark, prologue, directive, unknown, name, literal, number, tag, block, colon, semicolon, bar, comma, Shows, IsName, IsDirectiveWord, IsNumber, IsPrologue, IsTag, Spells, BeginsItem, BeginsNoItem, BeginsNeither, BeginsUnknown, IsOpen, open_comment, open_prologue, open_block}
use Rattle.cs_yacc.proofs.OnItems.Front.{run_passes, shows_within, shows_cons, shows_run, class, class_is, mark_no_word, prologue_no_word, mark_no_prologue, same_prologue, same_tag, nothing_unknown}

-- an item that no other one is longer than
sole : (text : List ℕ) (i : Item) (n : ℕ) → n ≤ length text → Spells text n i → ((j : Item) (m : ℕ) → m ≤ length text → Spells text m j → m ≤ n) → BeginsItem text i n
sole text i n le h longest = record { within = le; spelled = h; longest = longest }

-- ---- signs

colon_size : (text : List ℕ) (i : Item) (m : ℕ) → Spells text m i → class i ≡ 58 → m ≤ 1
colon_size text colon m h e = omega (arith, h.1)
colon_size text i m h e = absurd (omega arith)

semicolon_size : (text : List ℕ) (i : Item) (m : ℕ) → Spells text m i → class i ≡ 59 → m ≤ 1
semicolon_size text semicolon m h e = omega (arith, h.1)
semicolon_size text i m h e = absurd (omega arith)

bar_size : (text : List ℕ) (i : Item) (m : ℕ) → Spells text m i → class i ≡ 124 → m ≤ 1
bar_size text bar m h e = omega (arith, h.1)
bar_size text i m h e = absurd (omega arith)

pub begins_colon : (text : List ℕ) → 0 < length text → get_or text 0 0 ≡ 58 → BeginsItem text colon 1
begins_colon [] lt e = absurd (omega arith)
begins_colon (c ∷ text) lt e = rw e (sole (58 ∷ text) colon 1 (omega arith) (refl, refl) (λ j m le h. colon_size (58 ∷ text) j m h (class_is 58 text m j h)))

pub begins_semicolon : (text : List ℕ) → 0 < length text → get_or text 0 0 ≡ 59 → BeginsItem text semicolon 1
begins_semicolon [] lt e = absurd (omega arith)
begins_semicolon (c ∷ text) lt e = rw e (sole (59 ∷ text) semicolon 1 (omega arith) (refl, refl) (λ j m le h. semicolon_size (59 ∷ text) j m h (class_is 59 text m j h)))

pub begins_bar : (text : List ℕ) → 0 < length text → get_or text 0 0 ≡ 124 → BeginsItem text bar 1
begins_bar [] lt e = absurd (omega arith)
begins_bar (c ∷ text) lt e = rw e (sole (124 ∷ text) bar 1 (omega arith) (refl, refl) (λ j m le h. bar_size (124 ∷ text) j m h (class_is 124 text m j h)))

-- ---- nothing

-- a text that begins with another byte opens nothing
closed_front : (c : ℕ) (text : List ℕ) → c ≢ 47 → c ≢ 37 → c ≢ 123 → ¬ IsOpen (c ∷ text)
closed_front c text p q r (open_comment h) = p (opens-slash c text h.0)
closed_front c text p q r (open_prologue e h) = let f : c ∷ take 1 text ≡ 37 ∷ 123 ∷ [] = e in q cc
closed_front c text p q r (open_block e h) = let f : c ∷ take 0 text ≡ 123 ∷ [] = e in r cc

no_unknown : (c : ℕ) (text : List ℕ) → c ≢ 37 → ¬ BeginsUnknown (c ∷ text)
no_unknown c text q h = q ((shows_cons c text 37 h.0 h.1 (h.2.spelled.0)).0)

pub neither : (c : ℕ) (text : List ℕ) → c ≢ 47 → c ≢ 37 → c ≢ 123 → BeginsNeither (c ∷ text)
neither c text p q r = (closed_front c text p q r, no_unknown c text q)

name_front : (c : ℕ) (text w : List ℕ) (n : ℕ) → Spells (c ∷ text) n (name w) → begins_name c ≡ true
name_front c text [] n h = absurd h.1
name_front c text (d ∷ w) n h = let e : c ≡ d = (shows_cons c text d w n h.0).0 in rw e h.1.0

number_front : (c : ℕ) (text w : List ℕ) (n : ℕ) → Shows (c ∷ text) w n → IsNumber w → is_digit c ≡ true
number_front c text [] n h i = absurd i
number_front c text (d ∷ w) n h i = let e : c ≡ d = (shows_cons c text d w n h).0 in rw e i.0

pub nothing_at : (text : List ℕ) (c : ℕ) → 0 < length text → get_or text 0 0 ≡ c → c ≢ 37 → c ≢ 39 → c ≢ 60 → c ≢ 123 → c ≢ 47 → c ≢ 58 → c ≢ 59 → c ≢ 124 → c ≢ 44 → begins_name c ≡ false → is_digit c ≡ false
    → BeginsNoItem text × BeginsNeither text
nothing_at [] c lt e p q r s t u v w x y z = absurd (omega arith)
nothing_at (d ∷ text) c lt e p q r s t u v w x y z = let same : d ≡ c = e in rw same (λ i n known b. none i n b.spelled (class_is c text n i b.spelled ∙ rw (y, z) refl), neither c text t p s)
  where
    none : (i : Item) (n : ℕ) → Spells (c ∷ text) n i → class i ≡ c → ⊥
    none mark n h k = p (sym k)
    none prologue n h k = p (sym k)
    none (directive d) n h k = p (sym k)
    none (unknown d) n h k = p (sym k)
    none (name o) n h k = false≢true (sym y ∙ name_front c text o n h)
    none (literal b) n h k = q (sym k)
    none number n h k = false≢true (sym z ∙ number_front c text h.0 n h.1 h.2)
    none tag n h k = r (sym k)
    none block n h k = s (sym k)
    none colon n h k = u (sym k)
    none semicolon n h k = v (sym k)
    none bar n h k = w (sym k)
    none comma n h k = x (sym k)

-- ---- names and numbers

or_right : (t u : Bool) → u ≡ true → (t || u) ≡ true
or_right true u e = refl
or_right false u e = e

name_byte : (c : ℕ) → begins_name c ≡ true → is_name_byte c ≡ true
name_byte c e = by_word (begins_word c) (c == 46) e
  where
    by_word : (t u : Bool) → (t || u) ≡ true → ((t || is_digit c) || u) ≡ true
    by_word true u e = refl
    by_word false u e = or_right (is_digit c) u e

name_all : (w : List ℕ) → IsName w → AllByRecursion (λ c. IsTrue (is_name_byte c)) w
name_all [] h = absurd h
name_all (c ∷ w) h = (name_byte c h.0, h.1)

number_all : (w : List ℕ) → IsNumber w → AllByRecursion (λ c. IsTrue (is_digit c)) w
number_all [] h = absurd h
number_all (c ∷ w) h = h

name_size : (text : List ℕ) (i : Item) (m : ℕ) → Spells text m i → class i ≡ 0 → m ≤ prefix_len is_name_byte text
name_size text (name w) m h e = shows_run is_name_byte text w m h.0 (name_all w h.1)
name_size text i m h e = absurd (omega arith)

number_size : (text : List ℕ) (i : Item) (m : ℕ) → Spells text m i → class i ≡ 1 → m ≤ prefix_len is_digit text
number_size text number m h e = shows_run is_digit text h.0 m h.1 (number_all h.0 h.2)
number_size text i m h e = absurd (omega arith)

shows_front : (text : List ℕ) (n : ℕ) → n ≤ length text → Shows text (take n text) n
shows_front text n le = (refl, sym (length-take-le n text le))

-- the longest run of a text whose first byte passes
name_run : (c : ℕ) (text : List ℕ) → begins_name c ≡ true → IsName (take (prefix_len is_name_byte (c ∷ text)) (c ∷ text))
name_run c text first = let byte : is_name_byte c ≡ true = name_byte c first in rw (byte, one-add) (first, run_passes is_name_byte text)

number_run : (c : ℕ) (text : List ℕ) → is_digit c ≡ true → IsNumber (take (prefix_len is_digit (c ∷ text)) (c ∷ text))
number_run c text first = rw (first, one-add) (first, run_passes is_digit text)

pub name_is : (text : List ℕ) (n : ℕ) → front begins_name text ≡ true → n ≡ prefix_len is_name_byte text → BeginsItem text (name (take n text)) n
name_is [] n h e = absurd (false≢true h)
name_is (c ∷ text) n h e =
    let f : begins_name c ≡ true = h in
    let le : n ≤ length (c ∷ text) = omega (arith, e, prefix_len-le-length is_name_byte (c ∷ text)) in
    let is : IsName (take n (c ∷ text)) = subst (λ (k : ℕ). IsName (take k (c ∷ text))) (sym e) (name_run c text f) in
    sole (c ∷ text) (name (take n (c ∷ text))) n le (shows_front (c ∷ text) n le, is)
    (λ j m lt h. omega (arith, e, name_size (c ∷ text) j m h (class_is c text m j h ∙ rw f refl)))

digit_no_name : (c : ℕ) → is_digit c ≡ true → begins_name c ≡ false
digit_no_name c h = grind (arith, nat_tests)

pub number_is : (text : List ℕ) (n : ℕ) → front is_digit text ≡ true → n ≡ prefix_len is_digit text → BeginsItem text number n
number_is [] n h e = absurd (false≢true h)
number_is (c ∷ text) n h e =
    let f : is_digit c ≡ true = h in
    let g : begins_name c ≡ false = digit_no_name c f in
    let le : n ≤ length (c ∷ text) = omega (arith, e, prefix_len-le-length is_digit (c ∷ text)) in
    let is : IsNumber (take n (c ∷ text)) = subst (λ (k : ℕ). IsNumber (take k (c ∷ text))) (sym e) (number_run c text f) in
    sole (c ∷ text) number n le (take n (c ∷ text), shows_front (c ∷ text) n le, is)
    (λ j m lt h. omega (arith, e, number_size (c ∷ text) j m h (class_is c text m j h ∙ rw (g, f) refl)))

-- ---- literals

literal_size : (text : List ℕ) (b n : ℕ) → IsLiteral text b n → (i : Item) (m : ℕ) → Spells text m i → class i ≡ 39 → m ≤ n
literal_size text b n is (literal c) m h e = omega (arith, (same_literal text b c n m is h).1)
literal_size text b n is i m h e = absurd (omega arith)

literal_none : (text : List ℕ) → ((b n : ℕ) → ¬ IsLiteral text b n) → (i : Item) (m : ℕ) → Spells text m i → class i ≡ 39 → ⊥
literal_none text none (literal c) m h e = none c m h
literal_none text none i m h e = absurd (omega arith)

pub literal_is : (text : List ℕ) (b n : ℕ) → slice_get text 0 ≡ Some 39 → IsLiteral text b (n - 0) → n ≤ length text → BeginsItem text (literal b) n
literal_is [] b n e is le = absurd cc
literal_is (c ∷ text) b n e is le =
    let f : c ≡ 39 = cc in
    let same : n - 0 ≡ n = omega arith in
    let here : IsLiteral (c ∷ text) b n = rw same at is in
    sole (c ∷ text) (literal b) n le here (λ j m lt h. literal_size (c ∷ text) b n here j m h (class_is c text m j h ∙ rw f refl))

pub no_literal : (text : List ℕ) → slice_get text 0 ≡ Some 39 → ((b n : ℕ) → ¬ IsLiteral text b n) → BeginsNoItem text × BeginsNeither text
no_literal [] e none = absurd cc
no_literal (c ∷ text) e none =
    let f : c ≡ 39 = cc in
    (λ i n known b. literal_none (c ∷ text) none i n b.spelled (class_is c text n i b.spelled ∙ rw f refl), neither c text (omega arith) (omega arith) (omega arith))

-- ---- tags

tag_size : (text : List ℕ) (n : ℕ) → IsTag text n → (i : Item) (m : ℕ) → Spells text m i → class i ≡ 60 → m ≤ n
tag_size text n is tag m h e = omega (arith, same_tag text n m is h)
tag_size text n is i m h e = absurd (omega arith)

tag_none : (text : List ℕ) → ((n : ℕ) → ¬ IsTag text n) → (i : Item) (m : ℕ) → Spells text m i → class i ≡ 60 → ⊥
tag_none text none tag m h e = none m h
tag_none text none i m h e = absurd (omega arith)

got_front : (text : List ℕ) (k : ℕ) (b : ℕ) → begins_with b (drop k text) ≡ true → (slice_get text k ≡ Some b) × (k < length text)
got_front [] zero b e = absurd (false≢true e)
got_front [] (suc k) b e = absurd (false≢true e)
got_front (c ∷ text) zero b e = let f : c ≡ b = eqb-true c b e in (ap Some f, omega arith)
got_front (c ∷ text) (suc k) b e = let r = got_front text k b e in (r.0, omega (arith, r.1))

not_front : (text : List ℕ) (k : ℕ) (b : ℕ) → begins_with b (drop k text) ≡ false → slice_get text k ≡ Some b → ⊥
not_front [] k b e f = absurd cc
not_front (c ∷ text) zero b e f = let g : c ≡ b = cc in false≢true (sym e ∙ eq-eqb c b g)
not_front (c ∷ text) (suc k) b e f = not_front text k b e f

pub tag_is : (text inside : List ℕ) (k : ℕ) → slice_get text 0 ≡ Some 60 → inside ≡ drop 1 text → k ≡ position_or_len ends_tag inside → begins_with 62 (drop k inside) ≡ true → BeginsItem text tag (k + 2)
tag_is [] inside k e i s g = absurd cc
tag_is (c ∷ text) inside k e i s g =
    let f : c ≡ 60 = cc in
    let same : inside ≡ text = i in
    let size : k ≡ position_or_len ends_tag text = s ∙ ap (position_or_len ends_tag) same in
    let got = got_front text k 62 (ap (λ (x : List ℕ). begins_with 62 (drop k x)) (sym same) ∙ g) in
    let here : IsTag (c ∷ text) (k + 2) = (f, subst (λ (x : ℕ). slice_get text x ≡ Some 62) size got.0, ap (λ (x : ℕ). x + 2) size) in
    sole (c ∷ text) tag (k + 2) (omega (arith, got.1)) here (λ j m lt h. tag_size (c ∷ text) (k + 2) here j m h (class_is c text m j h ∙ rw f refl))

pub no_tag : (text inside : List ℕ) (k : ℕ) → slice_get text 0 ≡ Some 60 → inside ≡ drop 1 text → k ≡ position_or_len ends_tag inside → begins_with 62 (drop k inside) ≡ false → BeginsNoItem text × BeginsNeither text
no_tag [] inside k e i s g = absurd cc
no_tag (c ∷ text) inside k e i s g =
    let f : c ≡ 60 = cc in
    let same : inside ≡ text = i in
    let size : k ≡ position_or_len ends_tag text = s ∙ ap (position_or_len ends_tag) same in
    let no : begins_with 62 (drop k text) ≡ false = ap (λ (x : List ℕ). begins_with 62 (drop k x)) (sym same) ∙ g in
    let none : (n : ℕ) → ¬ IsTag (c ∷ text) n = λ n is. not_front text k 62 no (subst (λ (x : ℕ). slice_get text x ≡ Some 62) (sym size) is.1) in
    (λ i n known b. tag_none (c ∷ text) none i n b.spelled (class_is c text n i b.spelled ∙ rw f refl), neither c text (omega arith) (omega arith) (omega arith))

-- ---- blocks

block_size : (text : List ℕ) (n : ℕ) → IsBlock text n → (i : Item) (m : ℕ) → Spells text m i → class i ≡ 123 → m ≤ n
block_size text n is block m h e = omega (arith, same_block text n m is h)
block_size text n is i m h e = absurd (omega arith)

block_none : (text : List ℕ) → ((n : ℕ) → ¬ IsBlock text n) → (i : Item) (m : ℕ) → Spells text m i → class i ≡ 123 → ⊥
block_none text none block m h e = none m h
block_none text none i m h e = absurd (omega arith)

pub no_brace : (text : List ℕ) → begins_with 123 text ≡ false → get_or text 0 0 ≡ 123 → ⊥
no_brace [] e f = omega arith
no_brace (c ∷ text) e f = false≢true (sym e ∙ eq-eqb c 123 f)

pub brace_front : (text : List ℕ) → begins_with 123 text ≡ true → slice_get text 0 ≡ Some 123
brace_front [] e = absurd (false≢true e)
brace_front (c ∷ text) e = ap Some (eqb-true c 123 e)

pub block_is : (text : List ℕ) (n : ℕ) → begins_with 123 text ≡ true → IsBlock text n → n ≤ length text → BeginsItem text block n
block_is [] n e is le = absurd (false≢true e)
block_is (c ∷ text) n e is le =
    let f : c ≡ 123 = eqb-true c 123 e in
    sole (c ∷ text) block n le is (λ j m lt h. block_size (c ∷ text) n is j m h (class_is c text m j h ∙ rw f refl))

pub block_open : (text : List ℕ) → begins_with 123 text ≡ true → ((n : ℕ) → ¬ IsBlock text n) → BeginsNoItem text × IsOpen text
block_open [] e none = absurd (false≢true e)
block_open (c ∷ text) e none =
    let f : c ≡ 123 = eqb-true c 123 e in
    (λ i n known b. block_none (c ∷ text) none i n b.spelled (class_is c text n i b.spelled ∙ rw f refl), open_block (rw f refl) none)

-- ---- comments

slash_none : (text : List ℕ) (i : Item) → class i ≡ 47 → ⊥
slash_none text mark e = omega arith
slash_none text i e = omega arith

pub slash_open : (text : List ℕ) → slice_get text 0 ≡ Some 47 → ((n : ℕ) → ¬ IsComment text n) → OpensComment text → BeginsNoItem text × IsOpen text
slash_open [] e none is = absurd cc
slash_open (c ∷ text) e none is =
    let f : c ≡ 47 = cc in
    (λ i n known b. slash_none (c ∷ text) i (class_is c text n i b.spelled ∙ rw f refl), open_comment (is, none))

slash_neither : (c : ℕ) (text : List ℕ) → c ≡ 47 → ¬ OpensComment (c ∷ text) → ¬ IsOpen (c ∷ text)
slash_neither c text f none (open_comment h) = none h.0
slash_neither c text f none (open_prologue e h) = let g : c ∷ take 1 text ≡ 37 ∷ 123 ∷ [] = e in let k : c ≡ 37 = cc in omega arith
slash_neither c text f none (open_block e h) = let g : c ∷ take 0 text ≡ 123 ∷ [] = e in let k : c ≡ 123 = cc in omega arith

pub slash_nothing : (text : List ℕ) → slice_get text 0 ≡ Some 47 → ¬ OpensComment text → BeginsNoItem text × BeginsNeither text
slash_nothing [] e none = absurd cc
slash_nothing (c ∷ text) e none =
    let f : c ≡ 47 = cc in
    (λ i n known b. slash_none (c ∷ text) i (class_is c text n i b.spelled ∙ rw f refl), (slash_neither c text f none, no_unknown c text (omega arith)))

-- ---- what `%` begins

opened_is : (text : List ℕ) → slice_get text 0 ≡ Some 37 → begins_with 123 (drop 1 text) ≡ true → take 2 text ≡ codes "%{"
opened_is [] e b = absurd cc
opened_is (c ∷ []) e b = absurd (false≢true b)
opened_is (c ∷ d ∷ text) e b = let f : c ≡ 37 = cc in let g : d ≡ 123 = eqb-true d 123 b in rw (f, g) refl

mark_shown : (text : List ℕ) → slice_get text 0 ≡ Some 37 → begins_with 37 (drop 1 text) ≡ true → Shows text (codes "%%") 2
mark_shown [] e b = absurd cc
mark_shown (c ∷ []) e b = absurd (false≢true b)
mark_shown (c ∷ d ∷ text) e b = let f : c ≡ 37 = cc in let g : d ≡ 37 = eqb-true d 37 b in (rw (f, g) refl, refl)

-- an item of this kind, at a text that begins with `%`
abbrev Percent : List ℕ → Item → ℕ → Type 0
Percent text i m = Spells text m i × (class i ≡ 37)

percent_of : (text : List ℕ) (i : Item) (m : ℕ) → slice_get text 0 ≡ Some 37 → Spells text m i → Percent text i m
percent_of [] i m e h = absurd cc
percent_of (c ∷ text) i m e h = let f : c ≡ 37 = cc in (h, class_is c text m i h ∙ rw f refl)

mark_size : (text : List ℕ) → Shows text (codes "%%") 2 → (i : Item) (m : ℕ) → Spells text m i → class i ≡ 37 → m ≤ 2
mark_size text s mark m h e = omega (arith, h.1)
mark_size text s prologue m h e = absurd (mark_no_prologue text 2 s h.opened)
mark_size text s (directive d) m h e = absurd (mark_no_word text h.0 2 m s h.1 h.2)
mark_size text s (unknown w) m h e = absurd (mark_no_word text w 2 m s h.0 h.1)
mark_size text s i m h e = absurd (omega arith)

pub mark_is : (text : List ℕ) → slice_get text 0 ≡ Some 37 → begins_with 37 (drop 1 text) ≡ true → BeginsItem text mark 2
mark_is text e b =
    let s = mark_shown text e b in
    sole text mark 2 (shows_within text (codes "%%") 2 s) s (λ j m le h. mark_size text s j m h (percent_of text j m e h).1)

prologue_size : (text : List ℕ) (n : ℕ) → IsPrologue text n → (i : Item) (m : ℕ) → Spells text m i → class i ≡ 37 → m ≤ n
prologue_size text n is mark m h e = absurd (mark_no_prologue text m h is.opened)
prologue_size text n is prologue m h e = omega (arith, same_prologue text n m is h)
prologue_size text n is (directive d) m h e = absurd (prologue_no_word text h.0 m is.opened h.1 h.2)
prologue_size text n is (unknown w) m h e = absurd (prologue_no_word text w m is.opened h.0 h.1)
prologue_size text n is i m h e = absurd (omega arith)

prologue_none : (text : List ℕ) → take 2 text ≡ codes "%{" → ((n : ℕ) → ¬ IsPrologue text n) → (i : Item) (m : ℕ) → Spells text m i → class i ≡ 37 → ⊥
prologue_none text o none mark m h e = mark_no_prologue text m h o
prologue_none text o none prologue m h e = none m h
prologue_none text o none (directive d) m h e = prologue_no_word text h.0 m o h.1 h.2
prologue_none text o none (unknown w) m h e = prologue_no_word text w m o h.0 h.1
prologue_none text o none i m h e = absurd (omega arith)

pub prologue_is : (text behind : List ℕ) (i : ℕ) → slice_get text 0 ≡ Some 37 → begins_with 123 (drop 1 text) ≡ true → behind ≡ drop 2 text → IsFirstPair 37 125 behind i → BeginsItem text prologue (i + 4)
prologue_is text behind i e b is found =
    let here : IsPrologue text (i + 4) = record { inside = i; opened = opened_is text e b; closed = subst (λ t. IsFirstPair 37 125 t i) is found; ends = refl } in
    sole text prologue (i + 4) (omega (arith, pair_within 37 125 behind i found.here, ap length is, length-drop 2 text)) here (λ j m le h. prologue_size text (i + 4) here j m h (percent_of text j m e h).1)

pub prologue_open : (text behind : List ℕ) → slice_get text 0 ≡ Some 37 → begins_with 123 (drop 1 text) ≡ true → behind ≡ drop 2 text → HasNoPair 37 125 behind → BeginsNoItem text × IsOpen text
prologue_open text behind e b is none =
    let o = opened_is text e b in
    let no : (n : ℕ) → ¬ IsPrologue text n = λ n p. false≢true (sym (subst (HasNoPair 37 125) is none p.inside) ∙ p.closed.here) in
    (λ i n known q. prologue_none text o no i n q.spelled (percent_of text i n e q.spelled).1, open_prologue o no)

shows_begins : (text : List ℕ) (d : ℕ) (w : List ℕ) (n : ℕ) → Shows text (d ∷ w) n → begins_with d text ≡ true
shows_begins [] d w n h = absurd (spells_none n h)
  where
    spells_none : (n : ℕ) → Shows [] (d ∷ w) n → ⊥
    spells_none n h = omega (arith, shows_within [] (d ∷ w) n h, h.1)
shows_begins (c ∷ text) d w n h = eq-eqb c d ((shows_cons c text d w n h).0)

prologue_begins : (c : ℕ) (rest : List ℕ) → take 2 (c ∷ rest) ≡ codes "%{" → begins_with 123 rest ≡ true
prologue_begins c [] e = let f : c ∷ [] ≡ 37 ∷ 123 ∷ [] = e in absurd cc
prologue_begins c (d ∷ rest) e = let f : c ∷ d ∷ [] ≡ 37 ∷ 123 ∷ [] = e in let g : d ≡ 123 = cc in eq-eqb d 123 g

word_all : (w : List ℕ) → IsDirectiveWord w → AllByRecursion (λ c. IsTrue (is_directive_byte c)) w
word_all [] h = absurd h
word_all (c ∷ w) h = h

word_some : (w : List ℕ) → IsDirectiveWord w → 0 < length w
word_some [] h = absurd h
word_some (c ∷ w) h = omega arith

word_fits : (c : ℕ) (rest word : List ℕ) (m : ℕ) → Shows (c ∷ rest) (37 ∷ word) m → IsDirectiveWord word → (0 < prefix_len is_directive_byte rest) × (m ≤ suc (prefix_len is_directive_byte rest))
word_fits c rest word m h w =
    let s = shows_cons c rest 37 word m h in
    let run = shows_run is_directive_byte rest word s.1 s.2 (word_all word w) in
    (omega (arith, run, s.2.1, word_some word w), omega (arith, run, s.3))

module _ (c : ℕ) (rest : List ℕ) (no_mark : begins_with 37 rest ≡ false) (no_prologue : begins_with 123 rest ≡ false) where
  word_only : (i : Item) (m : ℕ) → Spells (c ∷ rest) m i → class i ≡ 37 → (0 < prefix_len is_directive_byte rest) × (m ≤ suc (prefix_len is_directive_byte rest))
  word_only mark m h e = let s = shows_cons c rest 37 (37 ∷ []) m h in absurd (false≢true (sym no_mark ∙ shows_begins rest 37 [] s.1 s.2))
  word_only prologue m h e = absurd (false≢true (sym no_prologue ∙ prologue_begins c rest h.opened))
  word_only (directive d) m h e = word_fits c rest h.0 m h.1 h.2
  word_only (unknown w) m h e = word_fits c rest w m h.0 h.1
  word_only i m h e = absurd (omega arith)

  word_shown : c ≡ 37 → Shows (c ∷ rest) (37 ∷ take (prefix_len is_directive_byte rest) rest) (suc (prefix_len is_directive_byte rest))
  word_shown f = (rw f refl, omega (arith, length-take-le (prefix_len is_directive_byte rest) rest (prefix_len-le-length is_directive_byte rest)))

  word_is : 0 < prefix_len is_directive_byte rest → IsDirectiveWord (take (prefix_len is_directive_byte rest) rest)
  word_is lt = from_all (take (prefix_len is_directive_byte rest) rest) (omega (arith, length-take-le (prefix_len is_directive_byte rest) rest (prefix_len-le-length is_directive_byte rest))) (run_passes is_directive_byte rest)
    where
      from_all : (w : List ℕ) → 0 < length w → AllByRecursion (λ c. IsTrue (is_directive_byte c)) w → IsDirectiveWord w
      from_all [] lt h = absurd (omega arith)
      from_all (d ∷ w) lt h = h

  word_within : suc (prefix_len is_directive_byte rest) ≤ length (c ∷ rest)
  word_within = omega (arith, prefix_len-le-length is_directive_byte rest)

  directive_here : (d : Directive) → c ≡ 37 → 0 < prefix_len is_directive_byte rest → directive_of (take (prefix_len is_directive_byte rest) rest) ≡ Some d → BeginsItem (c ∷ rest) (directive d) (suc (prefix_len is_directive_byte rest))
  directive_here d f lt e =
      sole (c ∷ rest) (directive d) (suc (prefix_len is_directive_byte rest)) word_within (take (prefix_len is_directive_byte rest) rest, word_shown f, word_is lt, e)
      (λ j m le h. (word_only j m h (class_is c rest m j h ∙ rw f refl)).1)

  unknown_here : c ≡ 37 → 0 < prefix_len is_directive_byte rest → directive_of (take (prefix_len is_directive_byte rest) rest) ≡ None → BeginsItem (c ∷ rest) (unknown (take (prefix_len is_directive_byte rest) rest)) (suc (prefix_len is_directive_byte rest))
  unknown_here f lt e =
      sole (c ∷ rest) (unknown (take (prefix_len is_directive_byte rest) rest)) (suc (prefix_len is_directive_byte rest)) word_within (word_shown f, word_is lt, e)
      (λ j m le h. (word_only j m h (class_is c rest m j h ∙ rw f refl)).1)

  not_open_here : c ≡ 37 → ¬ IsOpen (c ∷ rest)
  not_open_here f (open_comment h) = let g : c ≡ 47 = opens-slash c rest h.0 in omega arith
  not_open_here f (open_prologue e h) = false≢true (sym no_prologue ∙ prologue_begins c rest e)
  not_open_here f (open_block e h) = let g : c ∷ take 0 rest ≡ 123 ∷ [] = e in let k : c ≡ 123 = cc in omega arith

  nothing_here : c ≡ 37 → prefix_len is_directive_byte rest ≡ 0 → BeginsNoItem (c ∷ rest) × BeginsNeither (c ∷ rest)
  nothing_here f no_word =
      (λ i n known b. omega (arith, (word_only i n b.spelled (class_is c rest n i b.spelled ∙ rw f refl)).0), (not_open_here f, λ u. omega (arith, (word_fits c rest u.0 u.1 u.2.spelled.0 u.2.spelled.1).0)))

module _ (text behind : List ℕ) (n : ℕ) (e : slice_get text 0 ≡ Some 37) (is : behind ≡ drop 1 text) (no_mark : begins_with 37 (drop 1 text) ≡ false) (no_prologue : begins_with 123 (drop 1 text) ≡ false) (size : n ≡ prefix_len is_directive_byte behind) where
  pub directive_is : (d : Directive) → (n ≡ 0 → ⊥) → Some d ≡ directive_of (take n behind) → BeginsItem text (directive d) (n + 1)
  directive_is d some found = by_text text e is no_mark no_prologue
    where
      by_text : (t : List ℕ) → slice_get t 0 ≡ Some 37 → behind ≡ drop 1 t → begins_with 37 (drop 1 t) ≡ false → begins_with 123 (drop 1 t) ≡ false → BeginsItem t (directive d) (n + 1)
      by_text [] e is a b = absurd cc
      by_text (c ∷ rest) e is a b =
          let f : c ≡ 37 = cc in
          let g : behind ≡ rest = is in
          let k : n ≡ prefix_len is_directive_byte rest = size ∙ ap (prefix_len is_directive_byte) g in
          let w : directive_of (take (prefix_len is_directive_byte rest) rest) ≡ Some d = rw (← k, ← g) (sym found) in
          rw (add-one, k) (directive_here c rest a b d f (omega arith) w)

  pub unknown_is : (n ≡ 0 → ⊥) → None ≡ directive_of (take n behind) → BeginsNoItem text × BeginsUnknown text
  unknown_is some found = by_text text e is no_mark no_prologue
    where
      by_text : (t : List ℕ) → slice_get t 0 ≡ Some 37 → behind ≡ drop 1 t → begins_with 37 (drop 1 t) ≡ false → begins_with 123 (drop 1 t) ≡ false → BeginsNoItem t × BeginsUnknown t
      by_text [] e is a b = absurd cc
      by_text (c ∷ rest) e is a b =
          let f : c ≡ 37 = cc in
          let g : behind ≡ rest = is in
          let k : n ≡ prefix_len is_directive_byte rest = size ∙ ap (prefix_len is_directive_byte) g in
          let w : directive_of (take (prefix_len is_directive_byte rest) rest) ≡ None = rw (← k, ← g) (sym found) in
          let u = unknown_here c rest a b f (omega arith) w in
          (nothing_unknown (c ∷ rest) _ _ u, (take (prefix_len is_directive_byte rest) rest, suc (prefix_len is_directive_byte rest), u))

  pub no_directive : n ≡ 0 → BeginsNoItem text × BeginsNeither text
  no_directive none = by_text text e is no_mark no_prologue
    where
      by_text : (t : List ℕ) → slice_get t 0 ≡ Some 37 → behind ≡ drop 1 t → begins_with 37 (drop 1 t) ≡ false → begins_with 123 (drop 1 t) ≡ false → BeginsNoItem t × BeginsNeither t
      by_text [] e is a b = absurd cc
      by_text (c ∷ rest) e is a b =
          let f : c ≡ 37 = cc in
          let g : behind ≡ rest = is in
          let k : n ≡ prefix_len is_directive_byte rest = size ∙ ap (prefix_len is_directive_byte) g in
          nothing_here c rest a b f (sym k ∙ none)

-- what isn't closed is no directive
pub open_not_unknown : (text : List ℕ) → IsOpen text → BeginsUnknown text → ⊥
open_not_unknown [] o u = let s = u.2.spelled.0 in omega (arith, shows_within [] (37 ∷ u.0) u.1 s, s.1)
open_not_unknown (c ∷ text) (open_comment h) u = let f : c ≡ 37 = (shows_cons c text 37 u.0 u.1 u.2.spelled.0).0 in let g : c ≡ 47 = opens-slash c text h.0 in omega arith
open_not_unknown (c ∷ text) (open_prologue e h) u = prologue_no_word (c ∷ text) u.0 u.1 e u.2.spelled.0 u.2.spelled.1
open_not_unknown (c ∷ text) (open_block e h) u = let f : c ≡ 37 = (shows_cons c text 37 u.0 u.1 u.2.spelled.0).0 in let k : c ∷ take 0 text ≡ 123 ∷ [] = e in let g : c ≡ 123 = cc in omega arith
