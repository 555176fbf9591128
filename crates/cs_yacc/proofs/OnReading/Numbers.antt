-- Numbers of words.
use Rattle.std.proofs.Common.{◌≡◌, ℕ, ◌≤◌, cond, ltb, ◌<◌, List, [], ◌∷◌, length, map, get_or, refl, sym, subst, ap, ◌∙◌, arith, inl, inr}
use Rattle.std.specs.Prelude.{Option, Some, None, unwrap_or, not}
use Rattle.std.specs.List.{All, position, position_or_len}
use Rattle.std.proofs.lemmas.Bool.{cases_lt, lt-ltb, le-ltb}
use Rattle.std.proofs.lemmas.List.{get_or-map}
use Rattle.std.proofs.lemmas.List.Elements.{All-head, All-tail}
use Rattle.std.proofs.lemmas.List.Sums.{prefix_len-le-length}
use Rattle.cs_yacc.specs.declared.reading.spelling.Spelling as code
use Rattle.cs_yacc.specs.contracts.reading.spelling.SpellingPartialEq.TheImpl as derived
use Rattle.cs_yacc.specs.declared.reading.accepted.Accepted as accepted
use Rattle.cs_yacc.specs.declared.reading.name.TokenName.{TokenName}
use Rattle.cs_yacc.specs.declared.reading.name.TokenName.TheVariants.{Byte}
use Rattle.cs_grammar.specs.declared.symbol.Symbol.{Symbol}
use Rattle.cs_grammar.specs.declared.symbol.Symbol.TheVariants.{Token}
use Rattle.cs_yacc.specs.Reading.Meaning.{Parts, same_spelling, symbol_in, symbols_in}
use Rattle.cs_yacc.specs.Reading.AcceptedView.{parts_at, words_at}
use Rattle.cs_yacc.specs.Reading.Places.{names_at, place_in}
use Rattle.cs_yacc.specs.declared.reading.spelled.SpelledRule as held
use Rattle.cs_yacc.specs.Reading.Marks.{AreWithin}
use Rattle.cs_yacc.specs.Reading.SymbolTable.{symbol_at, IsTable}
use Rattle.cs_yacc.specs.Reading.SpellingView.{spelling_of, spellings_of}
use Rattle.cs_yacc.proofs.OnReading.Gathering.{eq_is}

same_place : (v : code.Spelling) (ks : List code.Spelling) → position_or_len (derived.eq-value.it v) ks ≡ position_or_len (same_spelling (spelling_of v)) (spellings_of ks)
same_place v [] = refl
same_place v (k ∷ ks) = rw (eq_is v k, same_place v ks) refl

place_or : (p len : ℕ) → p ≤ len → unwrap_or (cond (ltb p len) (Some p) None) len ≡ p
place_or p len le = elim (cases_lt p len) [ inl lt ↦ rw (lt-ltb p len lt) refl | inr ge ↦ rw (le-ltb p len ge) (omega arith) ]

pub place_is : (v : code.Spelling) (ks : List code.Spelling) (o : Option ℕ) (n len : ℕ) → o ≡ position (derived.eq-value.it v) ks → n ≡ unwrap_or o len → len ≡ length ks → n ≡ place_in (spellings_of ks) (spelling_of v)
place_is v ks o n len found is size =
    let p = position_or_len (derived.eq-value.it v) ks in
    let e : unwrap_or (cond (ltb p (length ks)) (Some p) None) (length ks) ≡ p = place_or p (length ks) (prefix_len-le-length (λ x. not (derived.eq-value.it v x)) ks) in
    is ∙ rw (found, size) (e ∙ same_place v ks)

pub place_within : (words : List TokenName) (w : TokenName) → place_in words w ≤ length words
place_within words w = prefix_len-le-length (λ v. not (same_spelling w v)) words

-- ---- symbols by places

table_at : (p : Parts) (words : List TokenName) (places : List ℕ) → All (λ k. k < length words) places → map (symbol_at (symbols_in p words)) places ≡ symbols_in p (names_at words places)
table_at p words [] within = refl
table_at p words (k ∷ places) within =
    rw (get_or-map (symbol_in p) words k (Byte 0) (Token 0) (All-head (λ k. k < length words) k places within), table_at p words places (All-tail (λ k. k < length words) k places within)) refl

-- the symbols of the spellings at these places
abbrev pub symbols_at : accepted.Accepted → List ℕ → List Symbol
symbols_at f places = symbols_in (parts_at f) (names_at (words_at f) places)

-- the symbols at the places of one of the rules
pub rule_symbols : (f : accepted.Accepted) (table right : List Symbol) (rules items : List held.SpelledRule) (k : ℕ) (r : held.SpelledRule) → IsTable table f → AreWithin (words_at f) rules → items ≡ rules → k < length items
    → right ≡ map (symbol_at table) (get_or items k r).right.now → right ≡ symbols_at f (get_or items k r).right.now
rule_symbols f table right rules items k r is within same lt made =
    let places : List ℕ = (get_or items k r).right.now in
    let here : All (λ k. k < length (words_at f)) places = subst (AreWithin (words_at f)) (sym same) within k r lt in
    made ∙ (ap (λ (t : List Symbol). map (symbol_at t) places) is ∙ table_at (parts_at f) (words_at f) places here)
