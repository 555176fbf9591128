-- The numbered classes of a list of patterns, and the sets of numbers after a text.
--
-- Of the one pattern `a|b*` the class `a` has number 0 and the class `b` number 1. Its words are that of 0 alone, the empty one, and
-- those of 1 once or more often. A text's set has the number at which a front of a word ends that reads it: that of `a` has 0 alone,
-- that of `b`, `bb` and so on has 1 alone, and that of `ab` has none.
use Rattle.std.specs.Prelude.{◌≡◌, ℕ, suc, ◌+◌, List, [], ◌∷◌, ◌++◌, Contains}
use Rattle.cs_scanner.specs.Automaton.Re.{Re, empty, letter, nothing, cat, alt, many, Spells}

-- a class of a pattern: its number, the rule that it stands in, and its bytes
pub record NumberedClass : Type 0 where
  pub number : ℕ
  pub rule : ℕ
  pub class : List ℕ

-- how many classes there are
abbrev pub letters : {A : Type 0} → Re A → ℕ
letters empty = 0
letters (letter a) = 1
letters nothing = 0
letters (cat r s) = letters r + letters s
letters (alt r s) = letters r + letters s
letters (many r) = letters r

-- the classes of a rule's pattern numbered from left to right, the first as told
abbrev pub with_places : ℕ → ℕ → Re (List ℕ) → Re NumberedClass
with_places rule from empty = empty
with_places rule from (letter class) = letter (record { number = from; rule = rule; class = class })
with_places rule from nothing = nothing
with_places rule from (cat r s) = cat (with_places rule from r) (with_places rule (from + letters r) s)
with_places rule from (alt r s) = alt (with_places rule from r) (with_places rule (from + letters r) s)
with_places rule from (many r) = many (with_places rule from r)

-- all patterns, with their classes numbered through; the rules are numbered through too
abbrev pub any_of : ℕ → ℕ → List (Re (List ℕ)) → Re NumberedClass
any_of rule from [] = nothing
any_of rule from (r ∷ rs) = alt (with_places rule from r) (any_of (suc rule) (from + letters r) rs)

abbrev pub whole : List (Re (List ℕ)) → Re NumberedClass
whole rs = any_of 1 0 rs

-- a place read as itself alone
abbrev pub Itself : NumberedClass → NumberedClass → Type 0
Itself a b = b ≡ a

abbrev pub HasByte : NumberedClass → ℕ → Type 0
HasByte a b = Contains a.class b

module _ {A B : Type 0} (Reads : A → B → Type 0) where
  -- the letters read the list, one by one
  abbrev pub ReadEach : List A → List B → Type 0
  ReadEach [] xs = xs ≡ []
  ReadEach (a ∷ more) [] = ⊥
  ReadEach (a ∷ more) (x ∷ xs) = Reads a x × ReadEach more xs

-- The number p is in the set of the text x: some word of places of some pattern has a front whose classes
-- have the bytes of x in order and which ends with the place p.
pub record InSet (rs : List (Re (List ℕ))) (x : List ℕ) (p : ℕ) : Type 0 where
  pub front : List NumberedClass
  pub last : NumberedClass
  pub rest : List NumberedClass
  pub word : Spells Itself (whole rs) ((front ++ last ∷ []) ++ rest)
  pub read : ReadEach HasByte (front ++ last ∷ []) x
  pub number : last.number ≡ p

-- the numbers are the set of the text
abbrev pub IsSet : List (Re (List ℕ)) → List ℕ → List ℕ → Type 0
IsSet rs x ps = (p : ℕ) → (Contains ps p → InSet rs x p) × (InSet rs x p → Contains ps p)

-- each letter is of the kind, and no choice is empty
module _ {A : Type 0} (Kind : A → Type 0) where
  abbrev pub IsFull : Re A → Type 0
  IsFull empty = Unit {0}
  IsFull (letter a) = Kind a
  IsFull nothing = ⊥
  IsFull (cat r s) = IsFull r × IsFull s
  IsFull (alt r nothing) = IsFull r
  IsFull (alt r s) = IsFull r × IsFull s
  IsFull (many r) = IsFull r

-- how many classes all patterns have
abbrev pub all_letters : {A : Type 0} → List (Re A) → ℕ
all_letters [] = 0
all_letters (r ∷ rs) = letters r + all_letters rs
