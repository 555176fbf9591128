-- A yacc file that is read has names as reading gives them.
use Rattle.std.proofs.Common.{◌≡◌, ℕ, ◌<◌, Bool, true, false, List, [], ◌∷◌, ◌++◌, Option, None, Some, cond, refl, subst}
use Rattle.std.specs.Prelude.{All, not, Result, Ok, option_map}
use Rattle.std.specs.Option.{option_or}
use Rattle.std.specs.List.{AllByRecursion, filter}
use Rattle.std.proofs.lemmas.List.Elements.{All-nil, All-cons, All-head, All-tail, All-append, All-filter, All-map}
use Rattle.cs_yacc.specs.declared.reading.name.TokenName.{TokenName}
use Rattle.cs_yacc.specs.declared.reading.name.TokenName.TheVariants.{Word, Byte}
use Rattle.cs_yacc.specs.declared.reading.error.YaccError.{YaccError}
use Rattle.cs_yacc.specs.declared.reading.error.YaccError.TheVariants.{SecondStart, TokenOnLeft, Undefined, StartNotNonterminal}
use Rattle.cs_yacc.specs.Items.Items.{Item, name, literal, IsName, Placed, Reached, ReadsTo, Spells, items_of, start}
use Rattle.cs_yacc.specs.Reading.File.{File}
use Rattle.cs_yacc.specs.Reading.Meaning.{behind_mark, begins_with_colon, bytes_of, declared_tokens, distinct, file_or_limit, file_with, first_at, first_start, behind_start, first_undefined, has_meaning, is_in_use, is_token_on_left, kept, left_at, left_sides, limit_passed, name_fault, nonterminals, only_if, parts_of, same_spelling, spelled, spelling_at, start_item, unless, used, with_meaning, with_meaning_behind, wrong_start}
use Rattle.cs_yacc.specs.Reading.Reading.{Gives, IsYaccFile}
use Rattle.cs_yacc.proofs.OnReading.Fits.{file_fits}
use Rattle.cs_accord.specs.Named.{IsNamedFile, IsTokenName}

-- an item whose name or byte is one
abbrev IsGood : Item → Type 0
IsGood (name w) = IsName w
IsGood (literal b) = b < 256
IsGood i = Unit {0}

good : (text : List ℕ) (n : ℕ) (i : Item) → Spells text n i → IsGood i
good text n (name w) h = h.1
good text n (literal b) h = h.fits
good text n i h = tt

abbrev IsGoodPlaced : Placed → Type 0
IsGoodPlaced p = IsGood p.item

all_good : (bytes : List ℕ) (r : Reached) (ps : List Placed) (to : Reached) → ReadsTo bytes r ps to → AllByRecursion IsGoodPlaced ps
all_good bytes r [] to h = tt
all_good bytes r (p ∷ ps) to h = let item = h.2.item in (good _ item.0 p.item item.1.spelled, all_good bytes _ ps to h.3)

-- ---- what has a meaning is of these

meaning_good : (before : Option Item) (ps : List Placed) → AllByRecursion IsGoodPlaced ps → AllByRecursion IsGoodPlaced (with_meaning_behind before ps)
meaning_good before [] all = tt
meaning_good before (p ∷ ps) all = at (has_meaning before p.item) (meaning_good (Some p.item) ps all.1)
  where
    at : (b : Bool) → AllByRecursion IsGoodPlaced (with_meaning_behind (Some p.item) ps) → AllByRecursion IsGoodPlaced (only_if b p ++ with_meaning_behind (Some p.item) ps)
    at true rest = (all.0, rest)
    at false rest = rest

-- ---- spellings

spelling_good : (i : Item) → IsGood i → All IsTokenName (spelling_at i)
spelling_good (name w) h = All-cons IsTokenName (Word w) [] h (All-nil IsTokenName)
spelling_good (literal b) h = All-cons IsTokenName (Byte b) [] h (All-nil IsTokenName)
spelling_good i h = All-nil IsTokenName

spelled_good : (ps : List Placed) → AllByRecursion IsGoodPlaced ps → All IsTokenName (spelled (items_of ps))
spelled_good [] all = All-nil IsTokenName
spelled_good (p ∷ ps) all = All-append IsTokenName (spelling_at p.item) (spelled (items_of ps)) (spelling_good p.item all.0) (spelled_good ps all.1)

-- a left side is a name
abbrev IsLeftName : TokenName → Type 0
IsLeftName w = IsName (bytes_of w)

left_good : (i : Item) (items : List Item) → IsGood i → All IsLeftName (left_at i items)
left_good (name w) items h = at (begins_with_colon items)
  where
    at : (b : Bool) → All IsLeftName (cond b (Word w ∷ []) [])
    at true = All-cons IsLeftName (Word w) [] h (All-nil IsLeftName)
    at false = All-nil IsLeftName
left_good i items h = All-nil IsLeftName

lefts_good : (ps : List Placed) → AllByRecursion IsGoodPlaced ps → All IsLeftName (left_sides (items_of ps))
lefts_good [] all = All-nil IsLeftName
lefts_good (p ∷ ps) all = All-append IsLeftName (left_at p.item (items_of ps)) (left_sides (items_of ps)) (left_good p.item (items_of ps) all.0) (lefts_good ps all.1)

module _ (P : TokenName → Type 0) where
  all_distinct : (ws : List TokenName) → All P ws → All P (distinct ws)
  all_distinct [] all = All-nil P
  all_distinct (w ∷ ws) all =
      All-cons P w (filter (λ v. not (same_spelling w v)) (distinct ws)) (All-head P w ws all)
      (All-filter (λ v. not (same_spelling w v)) P (distinct ws) (all_distinct ws (All-tail P w ws all)))

-- ---- what an accepted file gives

unless_ok : {A E : Type 0} (o : Option E) (r : Result A E) (a : A) → unless o r ≡ Ok a → (o ≡ None) × (r ≡ Ok a)
unless_ok None r a e = (refl, e)
unless_ok (Some x) r a e = absurd cc

or_none : {A : Type 0} (o p : Option A) → option_or o p ≡ None → (o ≡ None) × (p ≡ None)
or_none None p e = (refl, e)
or_none (Some x) p e = absurd cc

map_none : {A B : Type 0} (f : A → B) (o : Option A) → option_map f o ≡ None → o ≡ None
map_none f None e = refl
map_none f (Some x) e = absurd cc

same_ok : {A E : Type 0} (a b : A) → ◌≡◌ {A = Result A E} (Ok a) (Ok b) → a ≡ b
same_ok a b e = cc

module _ (bytes : List ℕ) (file : File) (given : Gives bytes (Ok file)) where
  abbrev Meant : List Placed
  Meant = with_meaning given.items

  good_items : AllByRecursion IsGoodPlaced given.items
  good_items = all_good bytes start given.items given.read.to given.read.read

  good_meant : AllByRecursion IsGoodPlaced (with_meaning given.items)
  good_meant = meaning_good None given.items good_items

  is_named : IsNamedFile file
  is_named =
      let parts = parts_of given.items Meant in
      let faults = unless_ok (name_fault given.items Meant (declared_tokens (items_of Meant)) (nonterminals (items_of Meant))) (file_or_limit parts) file given.is in
      let limits = unless_ok (limit_passed parts) (Ok (file_with parts)) file faults.1 in
      let same = same_ok {E = YaccError} (file_with parts) file limits.1 in
      let second = or_none (option_map SecondStart (first_start (behind_start given.items))) _ faults.0 in
      let third = or_none (option_map TokenOnLeft (first_at (is_token_on_left (declared_tokens (items_of Meant))) Meant)) _ second.1 in
      let fourth = or_none (option_map Undefined (first_undefined (declared_tokens (items_of Meant)) (nonterminals (items_of Meant)) (behind_mark Meant))) _ third.1 in
      let started = map_none StartNotNonterminal (wrong_start (nonterminals (items_of Meant)) (start_item given.items)) fourth.1 in
      subst IsNamedFile same
      (record {
        is = file_fits given.items given.taken started limits.0;
        tokens =
            all_distinct IsTokenName (filter (is_in_use (used (kept (items_of Meant))) (nonterminals (items_of Meant))) (spelled (items_of given.items)))
            (All-filter (is_in_use (used (kept (items_of Meant))) (nonterminals (items_of Meant))) IsTokenName (spelled (items_of given.items)) (spelled_good given.items good_items));
        nonterminals =
            All-map IsName bytes_of (nonterminals (items_of Meant)) (all_distinct IsLeftName (left_sides (items_of Meant)) (lefts_good Meant good_meant));
      })

pub read_named : (bytes : List ℕ) (file : File) → IsYaccFile bytes file → IsNamedFile file
unfolding IsYaccFile
read_named bytes file h = is_named bytes file h
