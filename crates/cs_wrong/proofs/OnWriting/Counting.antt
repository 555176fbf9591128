-- Slips that were counted, and their lines.
use Rattle.std.proofs.Common.{◌≡◌, ◌≤◌, ◌<◌, ℕ, ◌+◌, ◌-◌, ◌^◌, Bool, true, false, List, [], ◌∷◌, ◌++◌, length, length-append, take, get_or, refl, sym, ap, ◌∙◌, subst, arith, cond, Option}
use Rattle.std.specs.Prelude.{codes}
use Rattle.std.proofs.lemmas.List.{append-nil, take_more, length-take-le}
use Rattle.std.proofs.lemmas.List.Elements.{filter-append}
use Rattle.std.proofs.lemmas.List.Sums.{count_by-le-length, length-filter, sum_by-append}
use Rattle.cs_manifest.proofs.OnOutput.Numbered.{numbered_both}
use Rattle.cs_manifest.specs.Output.Words.{line, numbered_from, numbered_word}
use Rattle.cs_texts.specs.Rendering.Rendering.{Rendering}
use Rattle.cs_wrong.specs.Classes.Classes.{is_again, is_large, is_long, is_nothing, is_sentence, is_wrong}
use Rattle.cs_wrong.specs.Writing.Entries.{lines_from, lines_if_wrong}
use Rattle.cs_wrong.specs.Writing.Tally.{CanCount, HasRoom, IsCounted, IsWithin, end_with, no_slips, with_class}
use Rattle.cs_wrong.specs.Writing.Text.{SlipEntry, many_with, wrong_end, wrong_lines, wrong_ones}
use Rattle.cs_wrong.specs.declared.classes.class.SlipClass.{SlipClass}
use Rattle.cs_wrong.specs.declared.classes.class.SlipClass.TheVariants.{Nothing, Large, Again, Pair, Long, Sentence, Outside}
use Rattle.cs_wrong.specs.declared.slips.slip.Slip.{Slip}
use Rattle.cs_wrong.specs.declared.writing.tally.Tally.{Tally}
use Rattle.cs_yacc.specs.Reading.File.{File}

pub counted_none : (t : Tally) → IsCounted [] t t
counted_none t = record { slips = omega arith; nothing = omega arith; large = omega arith; again = omega arith; long = omega arith; sentences = omega arith; wrong = omega arith }

many_both : (test : SlipClass → Bool) (xs ys : List SlipEntry) → many_with test (xs ++ ys) ≡ many_with test xs + many_with test ys
many_both test xs ys = sum_by-append (λ (e : SlipEntry). cond (test e.class) 1 0) xs ys

many-le : (test : SlipClass → Bool) (xs : List SlipEntry) → many_with test xs ≤ length xs
many-le test xs = count_by-le-length (λ (e : SlipEntry). test e.class) xs

pub counted_then : (xs ys : List SlipEntry) (a b c : Tally) → IsCounted xs a b → IsCounted ys b c → IsCounted (xs ++ ys) a c
counted_then xs ys a b c first second = record {
  slips = omega (arith, first.slips, second.slips, length-append xs ys);
  nothing = omega (arith, first.nothing, second.nothing, many_both is_nothing xs ys);
  large = omega (arith, first.large, second.large, many_both is_large xs ys);
  again = omega (arith, first.again, second.again, many_both is_again xs ys);
  long = omega (arith, first.long, second.long, many_both is_long xs ys);
  sentences = omega (arith, first.sentences, second.sentences, many_both is_sentence xs ys);
  wrong = omega (arith, first.wrong, second.wrong, many_both is_wrong xs ys);
}

-- one slip was counted
counted_as : (class : SlipClass) (t : Tally) (slip : Slip) (tokens : List ℕ) (rendered : Option Rendering) → IsCounted (record { slip = slip; class = class; tokens = tokens; rendered = rendered } ∷ []) t (with_class t class)
counted_as Nothing t slip tokens rendered = record { slips = omega arith; nothing = omega arith; large = omega arith; again = omega arith; long = omega arith; sentences = omega arith; wrong = omega arith }
counted_as Large t slip tokens rendered = record { slips = omega arith; nothing = omega arith; large = omega arith; again = omega arith; long = omega arith; sentences = omega arith; wrong = omega arith }
counted_as Again t slip tokens rendered = record { slips = omega arith; nothing = omega arith; large = omega arith; again = omega arith; long = omega arith; sentences = omega arith; wrong = omega arith }
counted_as (Pair left right at) t slip tokens rendered = record { slips = omega arith; nothing = omega arith; large = omega arith; again = omega arith; long = omega arith; sentences = omega arith; wrong = omega arith }
counted_as Long t slip tokens rendered = record { slips = omega arith; nothing = omega arith; large = omega arith; again = omega arith; long = omega arith; sentences = omega arith; wrong = omega arith }
counted_as Sentence t slip tokens rendered = record { slips = omega arith; nothing = omega arith; large = omega arith; again = omega arith; long = omega arith; sentences = omega arith; wrong = omega arith }
counted_as Outside t slip tokens rendered = record { slips = omega arith; nothing = omega arith; large = omega arith; again = omega arith; long = omega arith; sentences = omega arith; wrong = omega arith }

grown : (es : List SlipEntry) (i : ℕ) (e : SlipEntry) → i < length es → e ≡ get_or es i e → take i es ++ e ∷ [] ≡ take (i + 1) es
grown es i e within is = ap (λ (x : SlipEntry). take i es ++ x ∷ []) is ∙ sym (take_more es i e within)

pub counted_more : (es : List SlipEntry) (i : ℕ) (e : SlipEntry) (a b c : Tally) → i < length es → e ≡ get_or es i e → IsCounted (take i es) a b → c ≡ with_class b e.class → IsCounted (take (i + 1) es) a c
counted_more es i e a b c within is so_far more =
    let one = subst (λ (t : Tally). IsCounted (e ∷ []) b t) (sym more) (counted_as e.class b e.slip e.tokens e.rendered) in
    subst (λ (l : List SlipEntry). IsCounted l a c) (grown es i e within is) (counted_then (take i es) (e ∷ []) a b c so_far one)

pub none_within : IsWithin no_slips
none_within = record { nothing = omega arith; large = omega arith; again = omega arith; long = omega arith; sentences = omega arith; wrong = omega arith }

pub within_counted : (es : List SlipEntry) (a b : Tally) → IsWithin a → IsCounted es a b → IsWithin b
within_counted es a b within counted = record {
  nothing = omega (arith, within.nothing, counted.nothing, counted.slips, many-le is_nothing es);
  large = omega (arith, within.large, counted.large, counted.slips, many-le is_large es);
  again = omega (arith, within.again, counted.again, counted.slips, many-le is_again es);
  long = omega (arith, within.long, counted.long, counted.slips, many-le is_long es);
  sentences = omega (arith, within.sentences, counted.sentences, counted.slips, many-le is_sentence es);
  wrong = omega (arith, within.wrong, counted.wrong, counted.slips, many-le is_wrong es);
}

-- there is room for each of the slips
pub room_within : (es : List SlipEntry) (i : ℕ) (a b : Tally) → i < length es → CanCount a (length es) → IsCounted (take i es) a b → HasRoom b
room_within es i a b within can counted =
    let is = within_counted (take i es) a b can.within counted in
    let few : a.slips + length es ≤ 2 ^ 64 - 1 = can.few in
    let long : length (take i es) ≡ i = length-take-le i es (omega arith) in
    let slips : b.slips < 2 ^ 64 - 1 = omega (arith, counted.slips, few, long) in
    record {
      slips = slips;
      nothing = omega (arith, is.nothing, slips);
      large = omega (arith, is.large, slips);
      again = omega (arith, is.again, slips);
      long = omega (arith, is.long, slips);
      sentences = omega (arith, is.sentences, slips);
      wrong = omega (arith, is.wrong, slips);
    }

-- ---- lines

-- how many of these are written
pub many_wrong : (es : List SlipEntry) → length (wrong_ones es) ≡ many_with is_wrong es
many_wrong es = length-filter (λ (e : SlipEntry). is_wrong e.class) es

module _ (file : File) where
  -- the lines of two lists of entries, one behind the other
  pub lines_both : (many : ℕ) (xs ys : List SlipEntry) → lines_from file many (xs ++ ys) ≡ lines_from file many xs ++ lines_from file (many + length (wrong_ones xs)) ys
  lines_both many xs ys =
      let f = wrong_lines file in
      let at : many + 1 + length (wrong_ones xs) ≡ many + length (wrong_ones xs) + 1 = omega arith in
      ap (numbered_from (many + 1) f) (filter-append (λ (e : SlipEntry). is_wrong e.class) xs ys)
      ∙ numbered_both f (many + 1) (wrong_ones xs) (wrong_ones ys)
      ∙ ap (λ (n : ℕ). numbered_from (many + 1) f (wrong_ones xs) ++ numbered_from n f (wrong_ones ys)) at

  -- one entry alone
  line_of : (e : SlipEntry) (k number : ℕ) (so : Bool) → number ≡ k + cond so 1 0 → cond so (wrong_lines file number e) [] ≡ numbered_from (k + 1) (wrong_lines file) (cond so (e ∷ []) [])
  line_of e k number true at = ap (λ (n : ℕ). wrong_lines file n e) at ∙ sym (append-nil (wrong_lines file (k + 1) e))
  line_of e k number false at = refl

  -- one slip more
  pub lines_more : (many : ℕ) (es : List SlipEntry) (i : ℕ) (e : SlipEntry) (number : ℕ) → i < length es → e ≡ get_or es i e → number ≡ many + many_with is_wrong (take (i + 1) es)
      → lines_from file many (take i es) ++ lines_if_wrong file number e ≡ lines_from file many (take (i + 1) es)
  lines_more many es i e number within is at =
      let front = take i es in
      let longer : take (i + 1) es ≡ front ++ e ∷ [] = sym (grown es i e within is) in
      let k = many + length (wrong_ones front) in
      let counts : many_with is_wrong (take (i + 1) es) ≡ many_with is_wrong front + cond (is_wrong e.class) 1 0 =
      ap (λ (l : List SlipEntry). many_with is_wrong l) longer ∙ many_both is_wrong front (e ∷ []) ∙ omega arith in
      let here : number ≡ k + cond (is_wrong e.class) 1 0 = omega (arith, at, counts, many_wrong front) in
      ap (λ (l : List ℕ). lines_from file many front ++ l) (line_of e k number (is_wrong e.class) here)
      ∙ sym (lines_both many front (e ∷ [])) ∙ ap (lines_from file many) (sym longer)

-- the end of entries that were counted
pub end_is : (entries : List SlipEntry) (t : Tally) → IsCounted entries no_slips t → end_with t ≡ wrong_end entries
end_is entries t counted =
    let end = λ (a b c d e f h : ℕ).
    line
    (numbered_word (codes "end slips ") a ++ numbered_word (codes " none ") b ++ numbered_word (codes " large ") c
    ++ numbered_word (codes " again ") d ++ numbered_word (codes " long ") e ++ numbered_word (codes " sentences ") f
    ++ numbered_word (codes " wrong ") h) in
    let slips : t.slips ≡ length entries = omega (arith, counted.slips) in
    let nothing : t.nothing ≡ many_with is_nothing entries = omega (arith, counted.nothing) in
    let large : t.large ≡ many_with is_large entries = omega (arith, counted.large) in
    let again : t.again ≡ many_with is_again entries = omega (arith, counted.again) in
    let long : t.long ≡ many_with is_long entries = omega (arith, counted.long) in
    let sentences : t.sentences ≡ many_with is_sentence entries = omega (arith, counted.sentences) in
    let wrong : t.wrong ≡ many_with is_wrong entries = omega (arith, counted.wrong) in
    ap (λ (n : ℕ). end n t.nothing t.large t.again t.long t.sentences t.wrong) slips
    ∙ ap (λ (n : ℕ). end (length entries) n t.large t.again t.long t.sentences t.wrong) nothing
    ∙ ap (λ (n : ℕ). end (length entries) (many_with is_nothing entries) n t.again t.long t.sentences t.wrong) large
    ∙ ap (λ (n : ℕ). end (length entries) (many_with is_nothing entries) (many_with is_large entries) n t.long t.sentences t.wrong) again
    ∙ ap (λ (n : ℕ). end (length entries) (many_with is_nothing entries) (many_with is_large entries) (many_with is_again entries) n t.sentences t.wrong) long
    ∙ ap (λ (n : ℕ). end (length entries) (many_with is_nothing entries) (many_with is_large entries) (many_with is_again entries) (many_with is_long entries) n t.wrong) sentences
    ∙ ap (λ (n : ℕ). end (length entries) (many_with is_nothing entries) (many_with is_large entries) (many_with is_again entries) (many_with is_long entries) (many_with is_sentence entries) n) wrong
