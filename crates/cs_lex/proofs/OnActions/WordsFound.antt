-- The words of an action, as the code finds them.
use Rattle.std.proofs.Common.{◌≡◌, ℕ, ◌+◌, ◌≤◌, Bool, true, false, cond, ◌||◌, List, [], ◌∷◌, ◌++◌, length, take, drop, refl, sym, ap, subst, ◌∙◌, ◌⊎◌, inl, inr, arith, append_assoc}
use Rattle.std.specs.Prelude.{filter, codes, nat_le}
use Rattle.std.specs.List.{list_any}
use Rattle.std.specs.Str.{bytes_eq}
use Rattle.std.proofs.lemmas.Bool.{false≢true}
use Rattle.std.proofs.lemmas.Bool.Decides.{nat_tests}
use Rattle.std.proofs.lemmas.List.{length-drop, drop_all, append-nil}
use Rattle.std.proofs.Math.Seq.{take-length}
use Rattle.cs_ctext.specs.declared.word_iter.Word.{Word}
use Rattle.cs_ctext.specs.Words.{HasWords, nothing, word, number, part, open_comment}
use Rattle.cs_ctext.proofs.WordLists.{words_of-words}
use Rattle.cs_lex.specs.declared.actions.words.Words as code
use Rattle.cs_lex.specs.declared.actions.words.Words.TheVariants as found
use Rattle.cs_lex.specs.Actions.Kinds.{text_of, foreign_words}
use Rattle.cs_lex.specs.Actions.Views.{FindsIn, FindsWords, one_more}

abbrev pub Within : ℕ → List Word → Type 0
Within n [] = Unit {0}
Within n (w ∷ ws) = (w.from ≤ w.to) × (w.to ≤ n) × Within n ws

no_words : {at : ℕ} {text : List ℕ} {ws : List Word} → HasWords at text ws → text ≡ [] → ws ≡ []
no_words {at = at} {text = text} {ws = ws} h e = words_of-words (subst (λ (t : List ℕ). HasWords at t ws) e h)

or_beyond : (n m : ℕ) → (n ≤ m) ⊎ (m ≤ n)
or_beyond n m = by_test (nat_le n m) refl
  where
    by_test : (b : Bool) → nat_le n m ≡ b → (n ≤ m) ⊎ (m ≤ n)
    by_test true e = inl (grind (arith, nat_tests))
    by_test false e = inr (grind (arith, nat_tests))

rest_within : (at n bound : ℕ) (text : List ℕ) (ws : List Word) → HasWords (at + n) (drop n text) ws → at + length text ≤ bound → (at + n + length (drop n text) ≤ bound → Within bound ws) → Within bound ws
rest_within at n bound text ws h le more = by_order (or_beyond n (length text))
  where
    by_order : (n ≤ length text) ⊎ (length text ≤ n) → Within bound ws
    by_order (inl few) = more (omega (arith, length-drop n text))
    by_order (inr past) = subst (Within bound) (sym (no_words h (drop_all n text past))) tt

pub words_within : {at : ℕ} {text : List ℕ} {ws : List Word} → HasWords at text ws → (bound : ℕ) → at + length text ≤ bound → Within bound ws
words_within nothing bound le = tt
words_within (word {at = at} {n = n} {text = text} {words = ws} first run rest) bound le =
    (omega arith, omega (arith, run.within), rest_within at n bound text ws rest le (words_within rest bound))
words_within (number {at = at} {n = n} {text = text} {words = ws} first run rest) bound le = rest_within at n bound text ws rest le (words_within rest bound)
words_within (part {at = at} {n = n} {text = text} {words = ws} p rest) bound le = rest_within at n bound text ws rest le (words_within rest bound)
words_within (open_comment o) bound le = tt

pub here_within : (n : ℕ) (given : List Word) (w : Word) (rest : List Word) → Within n (given ++ w ∷ rest) → (w.from ≤ w.to) × (w.to ≤ n)
here_within n [] w rest h = (h.0, h.1)
here_within n (v ∷ given) w rest h = here_within n given w rest h.2

-- ---- one word more

neither : (b c d : Bool) → (b || c) ≡ false → (c ≡ false → d ≡ false) → (b || d) ≡ false
neither true c d e f = absurd (false≢true (sym e))
neither false c d e f = f e

pub any_push : (p : Word → Bool) (given : List Word) (w : Word) → list_any p given ≡ false → p w ≡ false → list_any p (given ++ w ∷ []) ≡ false
any_push p [] w e f = rw f refl
any_push p (v ∷ given) w e f = neither (p v) (list_any p given) (list_any p (given ++ w ∷ [])) e (λ g. any_push p given w g f)

cons_if : (b : Bool) (v : Word) (xs ys zs : List Word) → xs ≡ ys ++ zs → cond b (v ∷ xs) xs ≡ cond b (v ∷ ys) ys ++ zs
cons_if true v xs ys zs e = ap (λ (ws : List Word). v ∷ ws) e
cons_if false v xs ys zs e = e

filter_push : (p : Word → Bool) (given : List Word) (w : Word) → filter p (given ++ w ∷ []) ≡ filter p given ++ cond (p w) (w ∷ []) []
filter_push p [] w = refl
filter_push p (v ∷ given) w = cons_if (p v) v (filter p (given ++ w ∷ [])) (filter p given) (cond (p w) (w ∷ []) []) (filter_push p given w)

-- what is found so far, in these words: none was foreign
abbrev pub SoFar : List ℕ → List Word → code.Words → Type 0
SoFar text ws found.Foreign = ⊥
SoFar text ws f = FindsIn text ws f

-- the words that were given, before those that are still to be given
pub record Gives (text : List ℕ) (all rest : List Word) (f : code.Words) : Type 0 where
  pub given : List Word
  pub is : all ≡ given ++ rest
  pub so_far : SoFar text given f

more_given : (all given rest old : List Word) (w : Word) → all ≡ given ++ old → old ≡ w ∷ rest → all ≡ (given ++ w ∷ []) ++ rest
more_given all given rest old w e f = e ∙ (ap (λ (ws : List Word). given ++ ws) f ∙ sym (append_assoc given (w ∷ []) rest))

counted : (text : List ℕ) (given : List Word) (w : Word) (f : code.Words) → (bytes_eq (text_of text w) (codes "return") ≡ true) → list_any (bytes_eq (text_of text w)) foreign_words ≡ false → w.to ≤ length text → SoFar text given f → SoFar text (given ++ w ∷ []) (one_more f w.to)
counted text given w found.Foreign e passes le h = absurd h
counted text given w found.None e passes le h = (any_push (λ v. list_any (bytes_eq (text_of text v)) foreign_words) given w h.0 passes, w, filter_push (λ v. bytes_eq (text_of text v) (codes "return")) given w ∙ (rw (e, h.1) refl), refl, le)
counted text given w (found.One to) e passes le h =
    (any_push (λ v. list_any (bytes_eq (text_of text v)) foreign_words) given w h.0 passes, h.1, w, [], filter_push (λ v. bytes_eq (text_of text v) (codes "return")) given w ∙ (rw (e, h.2) refl))
counted text given w found.Several e passes le h =
    (any_push (λ v. list_any (bytes_eq (text_of text v)) foreign_words) given w h.0 passes, h.1, h.2, h.3 ++ w ∷ [], filter_push (λ v. bytes_eq (text_of text v) (codes "return")) given w ∙ (rw (e, h.4) refl))

uncounted : (text : List ℕ) (given : List Word) (w : Word) (f : code.Words) → (bytes_eq (text_of text w) (codes "return") ≡ false) → list_any (bytes_eq (text_of text w)) foreign_words ≡ false → SoFar text given f → SoFar text (given ++ w ∷ []) f
uncounted text given w found.Foreign e passes h = absurd h
uncounted text given w found.None e passes h = (any_push (λ v. list_any (bytes_eq (text_of text v)) foreign_words) given w h.0 passes, filter_push (λ v. bytes_eq (text_of text v) (codes "return")) given w ∙ (rw (e, h.1) refl))
uncounted text given w (found.One to) e passes h =
    (any_push (λ v. list_any (bytes_eq (text_of text v)) foreign_words) given w h.0 passes, h.1, filter_push (λ v. bytes_eq (text_of text v) (codes "return")) given w ∙ (rw (e, h.2) refl), h.3, h.4)
uncounted text given w found.Several e passes h =
    (any_push (λ v. list_any (bytes_eq (text_of text v)) foreign_words) given w h.0 passes, h.1, h.2, h.3, filter_push (λ v. bytes_eq (text_of text v) (codes "return")) given w ∙ (rw (e, h.4, append-nil) refl))

module _ (text : List ℕ) (all rest old : List Word) (w : Word) (f : code.Words) (h : Gives text all old f) (step : old ≡ w ∷ rest) (has : HasWords 0 text all) where
  pub this_within : (w.from ≤ w.to) × (w.to ≤ length text)
  this_within = here_within (length text) h.given w rest (subst (Within (length text)) (h.is ∙ ap (λ (ws : List Word). h.given ++ ws) step) (words_within has (length text) (omega arith)))

  module _ (bytes : List ℕ) (is : bytes ≡ text_of text w) (passes : list_any (bytes_eq bytes) foreign_words ≡ false) where
    plain : list_any (bytes_eq (text_of text w)) foreign_words ≡ false
    plain = subst (λ (b : List ℕ). list_any (bytes_eq b) foreign_words ≡ false) is passes

    pub gives_return : (g : code.Words) → g ≡ one_more f w.to → bytes_eq bytes (codes "return") ≡ true → Gives text all rest g
    gives_return g e r = record { given = h.given ++ w ∷ []; is = more_given all h.given rest old w h.is step; so_far = subst (SoFar text (h.given ++ w ∷ [])) (sym e) (counted text h.given w f (subst (λ (b : List ℕ). bytes_eq b (codes "return") ≡ true) is r) plain (this_within.1) h.so_far) }

    pub gives_other : bytes_eq bytes (codes "return") ≡ false → Gives text all rest f
    gives_other r = record { given = h.given ++ w ∷ []; is = more_given all h.given rest old w h.is step; so_far = uncounted text h.given w f (subst (λ (b : List ℕ). bytes_eq b (codes "return") ≡ false) is r) plain h.so_far }

take_all : (text : List ℕ) → take (length text) text ≡ text
take_all text = take-length text

pub whole : (text : List ℕ) (ws : List Word) → HasWords 0 (take (length text) text) ws → HasWords 0 text ws
whole text ws h = subst (λ (t : List ℕ). HasWords 0 t ws) (take_all text) h

-- where all words were given, this is what is found in them
pub gave_all : (text : List ℕ) (all rest : List Word) (f : code.Words) → Gives text all rest f → rest ≡ [] → HasWords 0 text all → FindsWords text f
gave_all text all rest f h e has = by_found f (subst (λ (ws : List Word). SoFar text ws f) (sym same) h.so_far)
  where
    same : all ≡ h.given
    same = h.is ∙ (ap (λ (ws : List Word). h.given ++ ws) e ∙ append-nil h.given)

    by_found : (g : code.Words) → SoFar text all g → FindsWords text g
    by_found found.Foreign x = absurd x
    by_found found.None x = (all, has, x)
    by_found (found.One to) x = (all, has, x)
    by_found found.Several x = (all, has, x)
