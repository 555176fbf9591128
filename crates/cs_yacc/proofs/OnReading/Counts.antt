-- How many tokens, nonterminals, rules and symbols the items can give.
use Rattle.std.proofs.Common.{◌≡◌, ℕ, suc, ◌<◌, ◌≤◌, Bool, true, false, cond, List, [], ◌∷◌, ◌++◌, length, get_or, length-append, ap, ◌∙◌, arith}
use Rattle.std.specs.Prelude.{Option, Some, None, filter, not}
use Rattle.std.specs.List.{All}
use Rattle.std.proofs.lemmas.List.Elements.{All-nil, All-cons, All-append, All-map, All-filter}
use Rattle.cs_yacc.specs.declared.reading.name.TokenName.{TokenName}
use Rattle.cs_yacc.specs.declared.reading.name.TokenName.TheVariants.{Word}
use Rattle.cs_yacc.specs.Items.Items.{Item, name, literal, colon, bar, Placed, items_of}
use Rattle.cs_yacc.specs.Reading.Meaning.{same_spelling, distinct, from_each, spelling_at, left_at, left_sides, nonterminals, spelled, body, bodies, SpelledRule, rules_of, rules_at, rules, is_kept, kept, only_if, has_meaning, with_meaning_behind, with_meaning, begins_with_colon}
use Rattle.std.proofs.lemmas.List.{length-map, get_or-map}
use Rattle.cs_yacc.specs.declared.items.item.Placed as held_item
use Rattle.cs_yacc.specs.Items.Views.{placed_of, placed_all}
use Rattle.cs_yacc.specs.declared.reading.spelled.SpelledRule as held
use Rattle.cs_yacc.specs.Reading.Places.{name_at, names_at}
use Rattle.cs_yacc.specs.Reading.RuleView.{opened, next_left, rule_of, rules_in}
use Rattle.cs_yacc.proofs.OnReading.Gathering.{Gathers}
use Rattle.cs_yacc.proofs.OnReading.RuleLoop.{pending, rule_step}

-- ---- words

filter_few_step : {X : Type 0} (b : Bool) (x : X) (ys : List X) (n : ℕ) → length ys ≤ n → length (cond b (x ∷ ys) ys) ≤ suc n
filter_few_step true x ys n h = omega arith
filter_few_step false x ys n h = omega arith

filter_few : {X : Type 0} (p : X → Bool) (xs : List X) → length (filter p xs) ≤ length xs
filter_few p [] = omega arith
filter_few p (x ∷ xs) = filter_few_step (p x) x (filter p xs) (length xs) (filter_few p xs)

distinct_few : (ws : List TokenName) → length (distinct ws) ≤ length ws
distinct_few [] = omega arith
distinct_few (w ∷ ws) = omega (arith, distinct_few ws, filter_few (λ v. not (same_spelling w v)) (distinct ws))

from_each_few : {A : Type 0} (f : Item → List Item → List A) → ((i : Item) (r : List Item) → length (f i r) ≤ 1) → (items : List Item) → length (from_each f items) ≤ length items
from_each_few f one [] = omega arith
from_each_few f one (i ∷ items) = omega (arith, one i items, from_each_few f one items, length-append (f i items) (from_each f items))

one_left : (i : Item) (r : List Item) → length (left_at i r) ≤ 1
one_left (name n) r = by_colon (begins_with_colon r)
  where
    by_colon : (b : Bool) → length (cond b (Word n ∷ []) []) ≤ 1
    by_colon true = omega arith
    by_colon false = omega arith
one_left i r = omega arith

one_word : (i : Item) (r : List Item) → length (spelling_at i) ≤ 1
one_word (name n) r = omega arith
one_word i r = omega arith

pub few_in_use : (p : TokenName → Bool) (words : List TokenName) → length (distinct (filter p words)) ≤ length words
few_in_use p words = omega (arith, distinct_few (filter p words), filter_few p words)

-- those that were gathered are no more than the items
pub few_gathered : (table more : List TokenName) (items : List Item) → Gathers table more (spelled items) → length table ≤ length items
few_gathered table more items g =
    omega (arith, ap length g.table_is, distinct_few g.done, length-append g.done more, ap length g.all_is, from_each_few (λ i _. spelling_at i) one_word items)

-- the spellings of items are no more than the items
pub few_words : (items : List Item) → length (distinct (spelled items)) ≤ length items
few_words items = omega (arith, distinct_few (spelled items), from_each_few (λ i _. spelling_at i) one_word items)

pub few_nonterminals : (items : List Item) → length (nonterminals items) ≤ length items
few_nonterminals items = omega (arith, distinct_few (left_sides items), from_each_few left_at one_left items)

-- ---- rules

one_opened : (left : Option TokenName) (i : Item) (r : List Item) → length (opened left i r) ≤ 1
one_opened None i r = omega arith
one_opened (Some l) colon r = omega arith
one_opened (Some l) i r = omega arith

few_pending : (left : Option TokenName) (items : List Item) → length (pending left (bodies items) ++ rules items) ≤ length items
few_pending None [] = omega arith
few_pending (Some l) [] = omega arith
few_pending left (i ∷ items) =
    let next = next_left left i items in
    let rest = few_pending next items in
    let both = length-append (opened next i items) (pending next (bodies items) ++ rules items) in
    omega (arith, ap length (rule_step left i items), both, rest, one_opened next i items)

pub few_rules : (items : List Item) → length (kept items) ≤ length items
few_rules items = omega (arith, few_pending None items, filter_few is_kept (rules items))

-- the items with a meaning are no more than all
one_with_meaning : (b : Bool) (p : Placed) → length (only_if b p) ≤ 1
one_with_meaning true p = omega arith
one_with_meaning false p = omega arith

few_behind : (before : Option Item) (ps : List Placed) → length (with_meaning_behind before ps) ≤ length ps
few_behind before [] = omega arith
few_behind before (p ∷ ps) =
    omega (arith, one_with_meaning (has_meaning before p.item) p, few_behind (Some p.item) ps, length-append (only_if (has_meaning before p.item) p) (with_meaning_behind (Some p.item) ps))

pub few_with_meaning_of : (ps : List Placed) → length (with_meaning ps) ≤ length ps
few_with_meaning_of ps = few_behind None ps

pub few_spelled : (words : List TokenName) (held_rules : List held.SpelledRule) (rs : List SpelledRule) (n : ℕ) → rules_in words held_rules ≡ rs → length rs ≤ n → length held_rules ≤ n
few_spelled words held_rules rs n e le = omega (arith, ap length e, length-map held_rules (rule_of words))

-- a right side of a list of rules in which each is short
pub right_within : (words : List TokenName) (held_rules : List held.SpelledRule) (k : ℕ) (r : held.SpelledRule) (n : ℕ) → k < length held_rules → All (λ (s : SpelledRule). length s.right < n) (rules_in words held_rules)
    → length (get_or held_rules k r).right.now < n
right_within words held_rules k r n lt all =
    let at : get_or (rules_in words held_rules) k (rule_of words r) ≡ rule_of words (get_or held_rules k r) = get_or-map (rule_of words) held_rules k r (rule_of words r) lt in
    let short : length (get_or (rules_in words held_rules) k (rule_of words r)).right < n = all k (rule_of words r) (omega (arith, length-map held_rules (rule_of words))) in
    let size : length (names_at words (get_or held_rules k r).right.now) < n = rw at at short in
    omega (arith, size, length-map (get_or held_rules k r).right.now (name_at words))

-- ---- right sides

pub few_body : (items : List Item) → length (body items) ≤ length items
few_body [] = omega arith
few_body (name n ∷ items) = by_colon (begins_with_colon items) (few_body items)
  where
    by_colon : (b : Bool) → length (body items) ≤ length items → length (cond b [] (Word n ∷ body items)) ≤ suc (length items)
    by_colon true h = omega arith
    by_colon false h = omega arith
few_body (literal b ∷ items) = omega (arith, few_body items)
few_body (i ∷ items) = omega arith

module _ (n : ℕ) where
  abbrev IsShort : List TokenName → Type 0
  IsShort right = length right ≤ n

  short_bodies : (items : List Item) → length items ≤ n → All IsShort (bodies items)
  short_bodies [] le = All-nil IsShort
  short_bodies (name m ∷ items) le = by_colon (begins_with_colon items) (short_bodies items (omega arith))
    where
      by_colon : (b : Bool) → All IsShort (bodies items) → All IsShort (cond b [] (bodies items))
      by_colon true h = All-nil IsShort
      by_colon false h = h
  short_bodies (colon ∷ items) le = All-cons IsShort (body items) (bodies items) (omega (arith, few_body items)) (short_bodies items (omega arith))
  short_bodies (bar ∷ items) le = All-cons IsShort (body items) (bodies items) (omega (arith, few_body items)) (short_bodies items (omega arith))
  short_bodies (i ∷ items) le = short_bodies items (omega arith)

  abbrev HasShort : SpelledRule → Type 0
  HasShort r = length r.right ≤ n

  short_at : (i : Item) (items : List Item) → length items ≤ n → All HasShort (rules_at i items)
  short_at (name m) items le = by_colon (begins_with_colon items)
    where
      by_colon : (b : Bool) → All HasShort (cond b (rules_of (Word m) (bodies items)) [])
      by_colon true = All-map HasShort (λ right. record { left = Word m; right = right }) (bodies items) (short_bodies items le)
      by_colon false = All-nil HasShort
  short_at i items le = All-nil HasShort

  short_rules : (items : List Item) → length items ≤ n → All (λ (r : SpelledRule). length r.right ≤ n) (rules items)
  short_rules [] le = All-nil HasShort
  short_rules (i ∷ items) le = All-append HasShort (rules_at i items) (rules items) (short_at i items (omega arith)) (short_rules items (omega arith))

  pub short_rights : (items : List Item) → length items ≤ n → All (λ (r : SpelledRule). length r.right ≤ n) (kept items)
  short_rights items le = All-filter is_kept HasShort (rules items) (short_rules items le)

-- the code's items are as many as the items that they are
pub few_held : (held_items : List held_item.Placed) → length (items_of (placed_all held_items)) ≡ length held_items
few_held held_items = length-map (placed_all held_items) (λ (p : Placed). p.item) ∙ length-map held_items placed_of
