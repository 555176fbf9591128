-- What the items of the generated yacc file mean: no name is at fault, and no limit is passed.
use Rattle.std.proofs.Common.{◌≡◌, ℕ, zero, suc, ◌+◌, ◌*◌, ◌≤◌, Bool, true, false, cond, not, ◌&&◌, ◌||◌, List, [], ◌∷◌, ◌++◌, length, map, refl, sym, ap, subst, ◌∙◌, arith, inl, inr, Option, Some, None}
use Rattle.std.specs.Prelude.{Ok, nat_lt}
use Rattle.std.specs.List.{All, AllByRecursion}
use Rattle.std.proofs.lemmas.Bool.{false≢true, cases_lt}
use Rattle.std.proofs.lemmas.Bool.Decides.{nat_tests}
use Rattle.std.proofs.lemmas.List.{map_push, length-map}
use Rattle.std.proofs.lemmas.List.Elements.{All-nil, All-cons, All-head, All-tail, All-append, All-map, All-filter}
use Rattle.cs_yacc.specs.declared.reading.name.TokenName.{TokenName}
use Rattle.cs_yacc.specs.declared.reading.name.TokenName.TheVariants.{Word}
use Rattle.cs_yacc.specs.declared.reading.error.YaccLimit.{YaccLimit}
use Rattle.cs_yacc.specs.declared.reading.error.YaccLimit.TheVariants.{Tokens, Nonterminals, Rules, RightSide}
use Rattle.cs_yacc.specs.declared.items.directive.Directive.TheVariants as directives
use Rattle.cs_yacc.specs.Items.Items.{Item, mark, directive, name, colon, semicolon, bar, Placed, items_of}
use Rattle.cs_yacc.specs.Reading.Meaning.{same_spelling, has_spelling, from_each, first_at, begins_with_colon, is_mark, behind_mark, is_start, behind_start, is_prec, is_prec_before, is_idle, with_meaning_behind, with_meaning, listed, declared_at, declared, error_spelling, declared_tokens, left_sides, body, bodies, SpelledRule, rules_of, rules_at, rules, is_kept, kept, nonterminals, used, is_in_use, spelled, tokens, file_with, is_token_on_left, is_undefined, first_undefined, name_fault, above, long_right, limit_passed, parts_of, outcome}
use Rattle.cs_yacc.proofs.OnReading.Counts.{few_in_use, few_nonterminals, few_rules}
use Rattle.cs_yacc.proofs.OnReading.Gathering.{same_self, has_distinct}
use Rattle.cs_gen.specs.declared.symbol.Symbol.{Symbol}
use Rattle.cs_gen.specs.declared.symbol.Symbol.TheVariants.{Token, Nonterminal}
use Rattle.cs_gen.specs.Rules.{Line}
use Rattle.cs_gen.specs.Texts as texts
use Rattle.cs_gen.specs.Texts.{up_to}
use Rattle.cs_gen.proofs.KnownLines.{IsKnown, AreBodies, AreLines}
use Rattle.cs_gen.proofs.FileItems.{symbol_item, body_onto, alternatives_onto, lines_items, all_tokens, rest_items, file_items, all_rest}

-- ---- all items have a meaning, and none is `%start`

pub record IsPlain (i : Item) : Type 0 where
  pub used : is_idle i ≡ false
  pub no_prec : is_prec i ≡ false
  pub no_start : is_start i ≡ false

abbrev ArePlain : List Item → Type 0
ArePlain = AllByRecursion IsPlain

plain : (i : Item) → is_idle i ≡ false → is_prec i ≡ false → is_start i ≡ false → IsPlain i
plain i a b c = record { used = a; no_prec = b; no_start = c }

file_plain : (ls : List Line) → AreLines ls → ArePlain (file_items ls)
file_plain ls h = (
  plain (directive directives.Token) refl refl refl,
  all_rest IsPlain (plain colon refl refl refl) (plain bar refl refl refl) (plain semicolon refl refl refl) (plain mark refl refl refl) (λ s k. plain (symbol_item s) refl refl refl) ls h,
)

meaning_behind : (before : Option Item) (ps : List Placed) → is_prec_before before ≡ false → ArePlain (items_of ps) → with_meaning_behind before ps ≡ ps
meaning_behind before [] e h = refl
meaning_behind before (p ∷ ps) e h =
    let is = h.0 in
    rw (e, is.used) (ap (λ (x : List Placed). p ∷ x) (meaning_behind (Some p.item) ps is.no_prec h.1))

no_start_behind : (ps : List Placed) → ArePlain (items_of ps) → behind_start ps ≡ []
no_start_behind [] h = refl
no_start_behind (p ∷ ps) h = let is = h.0 in rw is.no_start (no_start_behind ps h.1)

-- ---- which names are declared, and which are left sides

abbrev words : List Symbol → List TokenName
words ss = map (λ s. Word (texts.name s)) ss

listed_body : (ss : List Symbol) (items : List Item) → listed (body_onto ss (mark ∷ items)) ≡ words ss
listed_body [] items = refl
listed_body (s ∷ ss) items = ap (λ (x : List TokenName). Word (texts.name s) ∷ x) (listed_body ss items)

nothing_from : (items : List Item) → AllByRecursion (λ i. (r : List Item) → declared_at i r ≡ []) items → from_each declared_at items ≡ []
nothing_from [] h = refl
nothing_from (i ∷ items) h = rw (h.0 items) (nothing_from items h.1)

append-nil_list : (ws : List TokenName) → ws ++ [] ≡ ws
append-nil_list [] = refl
append-nil_list (w ∷ ws) = ap (λ (x : List TokenName). w ∷ x) (append-nil_list ws)

declared_is : (ls : List Line) → AreLines ls → declared (file_items ls) ≡ words all_tokens
declared_is ls h =
    let none : from_each declared_at (rest_items ls) ≡ [] =
    nothing_from (rest_items ls) (all_rest (λ i. (r : List Item) → declared_at i r ≡ []) (λ r. refl) (λ r. refl) (λ r. refl) (λ r. refl) (λ s k r. refl) ls h) in
    rw none (append-nil_list (listed (rest_items ls)) ∙ listed_body all_tokens (lines_items ls))

no_colon_body : (ss : List Symbol) (items : List Item) → begins_with_colon items ≡ false → begins_with_colon (body_onto ss items) ≡ false
no_colon_body [] items e = e
no_colon_body (s ∷ ss) items e = refl

no_colon_alternatives : (bs : List (List Symbol)) (items : List Item) → begins_with_colon (alternatives_onto bs (semicolon ∷ items)) ≡ false
no_colon_alternatives [] items = refl
no_colon_alternatives (b ∷ bs) items = refl

-- ---- a test of each item with the items behind it

abbrev NoneBy : (Item → List Item → Bool) → List Item → Type 0
NoneBy t [] = Unit {0}
NoneBy t (i ∷ items) = (t i items ≡ false) × NoneBy t items

first_none : (t : Item → List Item → Bool) (ps : List Placed) → NoneBy t (items_of ps) → first_at t ps ≡ None
first_none t [] h = refl
first_none t (p ∷ ps) h = rw h.0 (first_none t ps h.1)

none_from_all : (t : Item → Bool) (items : List Item) → AllByRecursion (λ i. t i ≡ false) items → NoneBy (λ i _. t i) items
none_from_all t [] h = tt
none_from_all t (i ∷ items) h = (h.0, none_from_all t items h.1)

all_behind_mark : (P : Item → Type 0) (ps : List Placed) → AllByRecursion P (items_of ps) → AllByRecursion P (items_of (behind_mark ps))
all_behind_mark P [] h = tt
all_behind_mark P (p ∷ ps) h = step (is_mark p.item) h.1 (all_behind_mark P ps h.1)
  where
    step : (b : Bool) → AllByRecursion P (items_of ps) → AllByRecursion P (items_of (behind_mark ps)) → AllByRecursion P (items_of (cond b ps (behind_mark ps)))
    step true here rest = here
    step false here rest = rest

-- ---- left sides

abbrev line_words : List Line → List TokenName
line_words ls = map (λ (l : Line). Word (texts.name (Nonterminal l.left))) ls

lefts_body : (ss : List Symbol) (items : List Item) → begins_with_colon items ≡ false → left_sides (body_onto ss items) ≡ left_sides items
lefts_body [] items e = refl
lefts_body (s ∷ ss) items e = rw (no_colon_body ss items e) (lefts_body ss items e)

lefts_alternatives : (bs : List (List Symbol)) (items : List Item) → left_sides (alternatives_onto bs (semicolon ∷ items)) ≡ left_sides items
lefts_alternatives [] items = refl
lefts_alternatives (b ∷ bs) items = lefts_body b (alternatives_onto bs (semicolon ∷ items)) (no_colon_alternatives bs items) ∙ lefts_alternatives bs items

lefts_lines : (ls : List Line) → left_sides (lines_items ls) ≡ line_words ls
lefts_lines [] = refl
lefts_lines (l ∷ ls) =
    ap (λ (x : List TokenName). Word (texts.name (Nonterminal l.left)) ∷ x)
    (lefts_body l.first (alternatives_onto l.others (semicolon ∷ lines_items ls)) (no_colon_alternatives l.others (lines_items ls)) ∙ lefts_alternatives l.others (lines_items ls) ∙ lefts_lines ls)

lefts_file : (ls : List Line) → left_sides (file_items ls) ≡ line_words ls
lefts_file ls = lefts_body all_tokens (mark ∷ lines_items ls) refl ∙ lefts_lines ls

-- ---- names by their numbers

abbrev token_word : ℕ → TokenName
token_word number = Word (texts.name (Token number))

abbrev nonterminal_word : ℕ → TokenName
nonterminal_word number = Word (texts.name (Nonterminal number))

or_true : (a b : Bool) → b ≡ true → (a || b) ≡ true
or_true true b e = refl
or_true false b e = e

has_left : (ws : List TokenName) (v w : TokenName) → has_spelling ws w ≡ true → has_spelling (ws ++ v ∷ []) w ≡ true
has_left [] v w h = absurd (false≢true h)
has_left (u ∷ ws) v w h = step (same_spelling w u) h (λ e. has_left ws v w e)
  where
    step : (b : Bool) → (b || has_spelling ws w) ≡ true → (has_spelling ws w ≡ true → has_spelling (ws ++ v ∷ []) w ≡ true) → (b || has_spelling (ws ++ v ∷ []) w) ≡ true
    step true e rest = refl
    step false e rest = rest e

has_right : (ws : List TokenName) (w : TokenName) → has_spelling (ws ++ w ∷ []) w ≡ true
has_right [] w = rw (same_self w) refl
has_right (u ∷ ws) w = or_true (same_spelling w u) (has_spelling (ws ++ w ∷ []) w) (has_right ws w)

has_number : (f : ℕ → TokenName) (n k : ℕ) → 1 ≤ k → k ≤ n → has_spelling (map f (up_to n)) (f k) ≡ true
has_number f zero k some most = absurd (omega arith)
has_number f (suc n) k some most =
    elim (cases_lt k (suc n)) [
      | inl lt ↦ rw (map_push f (up_to n) (suc n)) (has_left (map f (up_to n)) (f (suc n)) (f k) (has_number f n k some (omega arith)))
      | inr ge ↦ let last : k ≡ suc n = omega arith in rw (last, map_push f (up_to n) (suc n)) (has_right (map f (up_to n)) (f (suc n)))
    ]

map_map : {A B C : Type 0} (f : A → B) (g : B → C) (xs : List A) → map g (map f xs) ≡ map (λ x. g (f x)) xs
map_map f g [] = refl
map_map f g (x ∷ xs) = ap (λ (r : List _). g (f x) ∷ r) (map_map f g xs)

module _ (ls : List Line) (known : AreLines ls) (in_order : map (λ (l : Line). l.left) ls ≡ up_to 40) where
  has_declared : (w : TokenName) → has_spelling (declared_tokens (file_items ls)) w ≡ has_spelling (error_spelling ∷ words all_tokens) w
  has_declared w = has_distinct (error_spelling ∷ declared (file_items ls)) w ∙ ap (λ (ws : List TokenName). has_spelling (error_spelling ∷ ws) w) (declared_is ls known)

  token_declared : (k : ℕ) → 1 ≤ k → k ≤ 24 → has_spelling (declared_tokens (file_items ls)) (token_word k) ≡ true
  token_declared k some most =
      has_declared (token_word k) ∙ or_true (same_spelling (token_word k) error_spelling) (has_spelling (words all_tokens) (token_word k)) (ap (λ (ws : List TokenName). has_spelling ws (token_word k)) (map_map Token (λ s. Word (texts.name s)) (up_to 24)) ∙ has_number token_word 24 k some most)

  nonterminal_not_declared : (k : ℕ) → has_spelling (declared_tokens (file_items ls)) (nonterminal_word k) ≡ false
  nonterminal_not_declared k = has_declared (nonterminal_word k) ∙ refl

  nonterminal_left : (k : ℕ) → 1 ≤ k → k ≤ 40 → has_spelling (nonterminals (file_items ls)) (nonterminal_word k) ≡ true
  nonterminal_left k some most =
      has_distinct (left_sides (file_items ls)) (nonterminal_word k)
      ∙ ap (λ (ws : List TokenName). has_spelling ws (nonterminal_word k)) (lefts_file ls ∙ sym (map_map (λ (l : Line). l.left) nonterminal_word ls) ∙ ap (map nonterminal_word) in_order)
      ∙ has_number nonterminal_word 40 k some most

  -- no token is a left side
  abbrev OnLeft : Item → List Item → Bool
  OnLeft = is_token_on_left (declared_tokens (file_items ls))

  off_left_body : (ss : List Symbol) (is : List Item) → begins_with_colon is ≡ false → NoneBy OnLeft is → NoneBy OnLeft (body_onto ss is)
  off_left_body [] is e h = h
  off_left_body (s ∷ ss) is e h = (rw (no_colon_body ss is e) refl, off_left_body ss is e h)

  off_left_alternatives : (bs : List (List Symbol)) (is : List Item) → NoneBy OnLeft is → NoneBy OnLeft (alternatives_onto bs (semicolon ∷ is))
  off_left_alternatives [] is h = (refl, h)
  off_left_alternatives (b ∷ bs) is h = (refl, off_left_body b (alternatives_onto bs (semicolon ∷ is)) (no_colon_alternatives bs is) (off_left_alternatives bs is h))

  off_left_lines : (rest : List Line) → NoneBy OnLeft (lines_items rest)
  off_left_lines [] = tt
  off_left_lines (l ∷ rest) =
      (rw (nonterminal_not_declared l.left) refl, (refl, off_left_body l.first (alternatives_onto l.others (semicolon ∷ lines_items rest)) (no_colon_alternatives l.others (lines_items rest)) (off_left_alternatives l.others (lines_items rest) (off_left_lines rest))))

  off_left : NoneBy OnLeft (file_items ls)
  off_left = (refl, off_left_body all_tokens (mark ∷ lines_items ls) refl (refl, off_left_lines ls))

  -- each name is declared or a left side
  abbrev Undefined : Item → Bool
  Undefined = is_undefined (declared_tokens (file_items ls)) (nonterminals (file_items ls))

  and_false : (b : Bool) → (b && false) ≡ false
  and_false true = refl
  and_false false = refl

  name_defined : (s : Symbol) → IsKnown s → Undefined (symbol_item s) ≡ false
  name_defined (Token k) h = rw (token_declared k h.0 h.1) refl
  name_defined (Nonterminal k) h = rw (nonterminal_left k h.0 h.1) (and_false (not (has_spelling (declared_tokens (file_items ls)) (nonterminal_word k))))

  all_defined : AllByRecursion (λ i. Undefined i ≡ false) (file_items ls)
  all_defined = (refl, all_rest (λ i. Undefined i ≡ false) refl refl refl refl name_defined ls known)

  pub no_name_fault : (ps : List Placed) → items_of ps ≡ file_items ls → name_fault ps ps (declared_tokens (file_items ls)) (nonterminals (file_items ls)) ≡ None
  no_name_fault ps e =
      let all_plain : ArePlain (items_of ps) = subst ArePlain (sym e) (file_plain ls known) in
      let started : behind_start ps ≡ [] = no_start_behind ps all_plain in
      let lefts : first_at (is_token_on_left (declared_tokens (file_items ls))) ps ≡ None = first_none OnLeft ps (subst (NoneBy OnLeft) (sym e) off_left) in
      let defined : AllByRecursion (λ i. Undefined i ≡ false) (items_of (behind_mark ps)) = all_behind_mark (λ i. Undefined i ≡ false) ps (subst (AllByRecursion (λ i. Undefined i ≡ false)) (sym e) all_defined) in
      let names : first_undefined (declared_tokens (file_items ls)) (nonterminals (file_items ls)) (behind_mark ps) ≡ None = first_none (λ i _. Undefined i) (behind_mark ps) (none_from_all Undefined (items_of (behind_mark ps)) defined) in
      rw (started, lefts, names) refl

-- ---- how many

spelled_body : (ss : List Symbol) (items : List Item) → length (spelled (body_onto ss items)) ≡ length ss + length (spelled items)
spelled_body [] items = omega arith
spelled_body (s ∷ ss) items = omega (arith, spelled_body ss items)

spelled_alternatives : (bs : List (List Symbol)) (items : List Item) → AreBodies bs → length (spelled (alternatives_onto bs items)) ≤ 3 * length bs + length (spelled items)
spelled_alternatives [] items h = omega arith
spelled_alternatives (b ∷ bs) items h =
    let is = h.0 in
    let few = is.few in
    omega (arith, few, spelled_body b (alternatives_onto bs items), spelled_alternatives bs items h.1)

spelled_lines : (ls : List Line) → AreLines ls → length (spelled (lines_items ls)) ≤ 12 * length ls
spelled_lines [] h = omega arith
spelled_lines (l ∷ ls) h =
    let is = h.0 in
    let few = is.few_first in
    let others = is.few in
    omega (arith, few, others, spelled_body l.first (alternatives_onto l.others (semicolon ∷ lines_items ls)), spelled_alternatives l.others (semicolon ∷ lines_items ls) is.others, spelled_lines ls h.1)

spelled_file : (ls : List Line) → AreLines ls → length (spelled (file_items ls)) ≤ 24 + 12 * length ls
spelled_file ls h =
    let some : length all_tokens ≡ 24 = refl in
    omega (arith, some, spelled_body all_tokens (mark ∷ lines_items ls), spelled_lines ls h)

items_body : (ss : List Symbol) (items : List Item) → length (body_onto ss items) ≡ length ss + length items
items_body [] items = omega arith
items_body (s ∷ ss) items = omega (arith, items_body ss items)

items_alternatives : (bs : List (List Symbol)) (items : List Item) → AreBodies bs → length (alternatives_onto bs items) ≤ 4 * length bs + length items
items_alternatives [] items h = omega arith
items_alternatives (b ∷ bs) items h =
    let is = h.0 in
    let few = is.few in
    omega (arith, few, items_body b (alternatives_onto bs items), items_alternatives bs items h.1)

items_lines : (ls : List Line) → AreLines ls → length (lines_items ls) ≤ 18 * length ls
items_lines [] h = omega arith
items_lines (l ∷ ls) h =
    let is = h.0 in
    let first = is.first in
    let few = first.few in
    let others = is.few in
    omega (arith, few, others, items_body l.first (alternatives_onto l.others (semicolon ∷ lines_items ls)), items_alternatives l.others (semicolon ∷ lines_items ls) is.others, items_lines ls h.1)

items_file : (ls : List Line) → AreLines ls → length (file_items ls) ≤ 26 + 18 * length ls
items_file ls h =
    let some : length all_tokens ≡ 24 = refl in
    omega (arith, some, items_body all_tokens (mark ∷ lines_items ls), items_lines ls h)

-- ---- right sides

-- behind each colon and bar stand at most three words
abbrev AreShort : List Item → Type 0
AreShort [] = Unit {0}
AreShort (colon ∷ items) = (length (body items) ≤ 3) × AreShort items
AreShort (bar ∷ items) = (length (body items) ≤ 3) × AreShort items
AreShort (i ∷ items) = AreShort items

abbrev IsShort : List TokenName → Type 0
IsShort right = length right ≤ 3

abbrev HasShort : SpelledRule → Type 0
HasShort r = length r.right ≤ 3

short_bodies : (items : List Item) → AreShort items → All IsShort (bodies items)
short_bodies [] h = All-nil IsShort
short_bodies (name n ∷ items) h = by_colon (begins_with_colon items) (short_bodies items h)
  where
    by_colon : (b : Bool) → All IsShort (bodies items) → All IsShort (cond b [] (bodies items))
    by_colon true g = All-nil IsShort
    by_colon false g = g
short_bodies (colon ∷ items) h = All-cons IsShort (body items) (bodies items) h.0 (short_bodies items h.1)
short_bodies (bar ∷ items) h = All-cons IsShort (body items) (bodies items) h.0 (short_bodies items h.1)
short_bodies (i ∷ items) h = short_bodies items h

short_at : (i : Item) (items : List Item) → AreShort items → All HasShort (rules_at i items)
short_at (name n) items h = by_colon (begins_with_colon items)
  where
    by_colon : (b : Bool) → All HasShort (cond b (rules_of (Word n) (bodies items)) [])
    by_colon true = All-map HasShort (λ right. record { left = Word n; right = right }) (bodies items) (short_bodies items h)
    by_colon false = All-nil HasShort
short_at i items h = All-nil HasShort

short_tail : (i : Item) (items : List Item) → AreShort (i ∷ items) → AreShort items
short_tail colon items h = h.1
short_tail bar items h = h.1
short_tail i items h = h

short_rules : (items : List Item) → AreShort items → All HasShort (rules items)
short_rules [] h = All-nil HasShort
short_rules (i ∷ items) h = let rest = short_tail i items h in All-append HasShort (rules_at i items) (rules items) (short_at i items rest) (short_rules items rest)

body_few : (ss : List Symbol) (items : List Item) → body items ≡ [] → length (body (body_onto ss items)) ≤ length ss
body_few [] items e = omega (arith, ap length e)
body_few (s ∷ ss) items e = by_colon (begins_with_colon (body_onto ss items)) (body_few ss items e)
  where
    by_colon : (b : Bool) → length (body (body_onto ss items)) ≤ length ss → length (cond b [] (Word (texts.name s) ∷ body (body_onto ss items))) ≤ suc (length ss)
    by_colon true h = omega arith
    by_colon false h = omega arith

no_body : (bs : List (List Symbol)) (items : List Item) → body (alternatives_onto bs (semicolon ∷ items)) ≡ []
no_body [] items = refl
no_body (b ∷ bs) items = refl

short_body : (ss : List Symbol) (items : List Item) → AreShort items → AreShort (body_onto ss items)
short_body [] items h = h
short_body (s ∷ ss) items h = short_body ss items h

short_alternatives : (bs : List (List Symbol)) (items : List Item) → AreBodies bs → AreShort items → AreShort (alternatives_onto bs (semicolon ∷ items))
short_alternatives [] items known h = h
short_alternatives (b ∷ bs) items known h =
    let is = known.0 in
    let few = is.few in
    (omega (arith, few, body_few b (alternatives_onto bs (semicolon ∷ items)) (no_body bs items)), short_body b (alternatives_onto bs (semicolon ∷ items)) (short_alternatives bs items known.1 h))

short_lines : (ls : List Line) → AreLines ls → AreShort (lines_items ls)
short_lines [] h = tt
short_lines (l ∷ ls) h =
    let is = h.0 in
    let first = is.first in
    let few = first.few in
    let behind = alternatives_onto l.others (semicolon ∷ lines_items ls) in
    (omega (arith, few, body_few l.first behind (no_body l.others (lines_items ls))), short_body l.first behind (short_alternatives l.others (lines_items ls) is.others (short_lines ls h.1)))

short_file : (ls : List Line) → AreLines ls → AreShort (file_items ls)
short_file ls h = short_body all_tokens (mark ∷ lines_items ls) (short_lines ls h)

-- ---- no limit is passed

not_above : (which : YaccLimit) (found most : ℕ) → found ≤ most → above which found most ≡ None
not_above which found most le = let e : nat_lt most found ≡ false = grind (arith, nat_tests) in rw e refl

no_long : (rs : List SpelledRule) → All HasShort rs → long_right rs ≡ None
no_long [] h = refl
no_long (r ∷ rs) h = rw (not_above RightSide (length r.right) 128 (omega (arith, All-head HasShort r rs h)), no_long rs (All-tail HasShort r rs h)) refl

pub no_limit : (ls : List Line) (ps : List Placed) → AreLines ls → length ls ≡ 40 → items_of ps ≡ file_items ls → limit_passed (parts_of ps ps) ≡ None
no_limit ls ps known many e =
    let is = file_items ls in
    let token_list = tokens (used (kept (items_of ps))) (nonterminals (items_of ps)) (items_of ps) in
    let few : length token_list ≤ length (spelled (items_of ps)) = few_in_use (is_in_use (used (kept (items_of ps))) (nonterminals (items_of ps))) (spelled (items_of ps)) in
    let few_tokens : length token_list ≤ 512 = omega (arith, many, spelled_file ls known, ap (λ (x : List Item). length (spelled x)) e, few) in
    let size : length (items_of ps) ≤ 1024 = omega (arith, many, items_file ls known, ap length e) in
    let short : All HasShort (kept (items_of ps)) = subst (λ (x : List Item). All HasShort (kept x)) (sym e) (All-filter is_kept HasShort (rules is) (short_rules is (short_file ls known))) in
    rw (
      not_above Tokens (length token_list) 512 few_tokens,
      not_above Nonterminals (length (nonterminals (items_of ps))) 1024 (omega (arith, size, few_nonterminals (items_of ps))),
      not_above Rules (length (kept (items_of ps))) 8192 (omega (arith, size, few_rules (items_of ps))),
      no_long (kept (items_of ps)) short,
    ) refl

-- the items mean a file
pub file_meant : (ls : List Line) (ps : List Placed) → AreLines ls → map (λ (l : Line). l.left) ls ≡ up_to 40 → items_of ps ≡ file_items ls → outcome ps ≡ Ok (file_with (parts_of ps ps))
file_meant ls ps known in_order e =
    let all_plain : ArePlain (items_of ps) = subst ArePlain (sym e) (file_plain ls known) in
    let all : with_meaning ps ≡ ps = meaning_behind None ps refl all_plain in
    let many : length ls ≡ 40 = sym (length-map ls (λ (l : Line). l.left)) ∙ ap length in_order in
    let fault : name_fault ps ps (declared_tokens (items_of ps)) (nonterminals (items_of ps)) ≡ None = rw e (no_name_fault ls known in_order ps e) in
    rw (all, fault, no_limit ls ps known many e) refl
