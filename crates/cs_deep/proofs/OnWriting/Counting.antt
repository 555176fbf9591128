-- Edits that were counted, and their lines.
use Rattle.std.proofs.Common.{◌≡◌, ◌≤◌, ◌<◌, ℕ, ◌+◌, Bool, List, [], ◌∷◌, ◌++◌, length, length-append, take, get_or, refl, sym, ap, ◌∙◌, subst, arith, cond, Option, ◌-◌, ◌^◌}
use Rattle.std.specs.Prelude.{count_by}
use Rattle.std.proofs.lemmas.List.{append-nil, take_more, length-take-le}
use Rattle.std.proofs.lemmas.List.Elements.{filter-append}
use Rattle.std.proofs.lemmas.List.Sums.{count_by-le-length, length-filter, sum_by-append}
use Rattle.cs_deep.specs.Edits.Classes.{is_long, is_negative, is_outside, is_sentence}
use Rattle.cs_deep.specs.Writing.Deep.{EditEntry, deep_lines, edit_lines, outside}
use Rattle.cs_deep.specs.Writing.Lines.{CanCount, IsWithin, lines_if_outside}
use Rattle.cs_deep.specs.Writing.Tally.{HasRoom, IsCounted, no_edits, with_class}
use Rattle.cs_deep.specs.declared.edits.class.EditClass.{EditClass}
use Rattle.cs_deep.specs.declared.edits.class.EditClass.TheVariants.{Negative, Long, Sentence, Outside}
use Rattle.cs_deep.specs.declared.writing.tally.Tally.{Tally}
use Rattle.cs_manifest.specs.Output.Words.{numbered_from}
use Rattle.cs_mutate.specs.declared.edit.Edit.{Edit}
use Rattle.cs_texts.specs.Rendering.Rendering.{Rendering}
use Rattle.cs_manifest.proofs.OnOutput.Numbered.{numbered_both}
use Rattle.cs_yacc.specs.Reading.File.{File}

pub counted_none : (t : Tally) → IsCounted [] t t
counted_none t = record { edits = omega arith; negatives = omega arith; deep = omega arith; sentences = omega arith; long = omega arith }

count_both : (p : EditEntry → Bool) (xs ys : List EditEntry) → count_by p (xs ++ ys) ≡ count_by p xs + count_by p ys
count_both p xs ys = sum_by-append (λ (e : EditEntry). cond (p e) 1 0) xs ys

pub counted_then : (xs ys : List EditEntry) (a b c : Tally) → IsCounted xs a b → IsCounted ys b c → IsCounted (xs ++ ys) a c
counted_then xs ys a b c first second = record {
  edits = omega (arith, first.edits, second.edits, length-append xs ys);
  negatives = omega (arith, first.negatives, second.negatives, count_both (λ e. is_negative e.class) xs ys);
  deep = omega (arith, first.deep, second.deep, count_both (λ e. is_outside e.class) xs ys);
  sentences = omega (arith, first.sentences, second.sentences, count_both (λ e. is_sentence e.class) xs ys);
  long = omega (arith, first.long, second.long, count_both (λ e. is_long e.class) xs ys);
}

-- one edit was counted
counted_as : (class : EditClass) (t : Tally) (edit : Edit) (tokens : List ℕ) (rendered : Option Rendering) → IsCounted (record { edit = edit; class = class; tokens = tokens; rendered = rendered } ∷ []) t (with_class t class)
counted_as Negative t edit tokens rendered = record { edits = omega arith; negatives = omega arith; deep = omega arith; sentences = omega arith; long = omega arith }
counted_as Long t edit tokens rendered = record { edits = omega arith; negatives = omega arith; deep = omega arith; sentences = omega arith; long = omega arith }
counted_as Sentence t edit tokens rendered = record { edits = omega arith; negatives = omega arith; deep = omega arith; sentences = omega arith; long = omega arith }
counted_as Outside t edit tokens rendered = record { edits = omega arith; negatives = omega arith; deep = omega arith; sentences = omega arith; long = omega arith }

pub counted_more : (es : List EditEntry) (i : ℕ) (e : EditEntry) (a b c : Tally) → i < length es → e ≡ get_or es i e → IsCounted (take i es) a b → c ≡ with_class b e.class → IsCounted (take (i + 1) es) a c
counted_more es i e a b c within is so_far more =
    let one = subst (λ (t : Tally). IsCounted (e ∷ []) b t) (sym more) (counted_as e.class b e.edit e.tokens e.rendered) in
    let grown : take i es ++ e ∷ [] ≡ take (i + 1) es = ap (λ (x : EditEntry). take i es ++ x ∷ []) is ∙ sym (take_more es i e within) in
    subst (λ (l : List EditEntry). IsCounted l a c) grown (counted_then (take i es) (e ∷ []) a b c so_far one)

pub none_within : IsWithin no_edits
none_within = record { negatives = omega arith; deep = omega arith; sentences = omega arith; long = omega arith }

pub within_counted : (es : List EditEntry) (a b : Tally) → IsWithin a → IsCounted es a b → IsWithin b
within_counted es a b within counted = record {
  negatives = omega (arith, within.negatives, counted.negatives, counted.edits, count_by-le-length (λ (e : EditEntry). is_negative e.class) es);
  deep = omega (arith, within.deep, counted.deep, counted.edits, count_by-le-length (λ (e : EditEntry). is_outside e.class) es);
  sentences = omega (arith, within.sentences, counted.sentences, counted.edits, count_by-le-length (λ (e : EditEntry). is_sentence e.class) es);
  long = omega (arith, within.long, counted.long, counted.edits, count_by-le-length (λ (e : EditEntry). is_long e.class) es);
}

-- there is room for each of the edits
pub room_within : (es : List EditEntry) (i : ℕ) (a b : Tally) → i < length es → CanCount a es → IsCounted (take i es) a b → HasRoom b
room_within es i a b within can counted =
    let is = within_counted (take i es) a b can.within counted in
    let few : a.edits + length es ≤ 2 ^ 64 - 1 = can.few in
    let long : length (take i es) ≡ i = length-take-le i es (omega arith) in
    let edits : b.edits < 2 ^ 64 - 1 = omega (arith, counted.edits, few, long) in
    record {
      edits = edits;
      negatives = omega (arith, is.negatives, edits);
      deep = omega (arith, is.deep, edits);
      sentences = omega (arith, is.sentences, edits);
      long = omega (arith, is.long, edits);
    }

-- ---- lines

-- how many of these are written
pub many_outside : (es : List EditEntry) → length (outside es) ≡ count_by (λ e. is_outside e.class) es
many_outside es = length-filter (λ (e : EditEntry). is_outside e.class) es

module _ (file : File) (base : ℕ) where
  -- the lines of two lists of edits, one behind the other
  pub lines_both : (many : ℕ) (xs ys : List EditEntry) → edit_lines file base many (xs ++ ys) ≡ edit_lines file base many xs ++ edit_lines file base (many + length (outside xs)) ys
  lines_both many xs ys =
      let f = deep_lines file base in
      let at : many + 1 + length (outside xs) ≡ many + length (outside xs) + 1 = omega arith in
      ap (numbered_from (many + 1) f) (filter-append (λ (e : EditEntry). is_outside e.class) xs ys)
      ∙ numbered_both f (many + 1) (outside xs) (outside ys)
      ∙ ap (λ (n : ℕ). numbered_from (many + 1) f (outside xs) ++ numbered_from n f (outside ys)) at

  -- one edit alone
  line_alone : (class : EditClass) (k number : ℕ) (edit : Edit) (tokens : List ℕ) (rendered : Option Rendering) → number ≡ k + cond (is_outside class) 1 0
      → lines_if_outside file base number (record { edit = edit; class = class; tokens = tokens; rendered = rendered }) ≡ edit_lines file base k (record { edit = edit; class = class; tokens = tokens; rendered = rendered } ∷ [])
  line_alone Negative k number edit tokens rendered at = refl
  line_alone Long k number edit tokens rendered at = refl
  line_alone Sentence k number edit tokens rendered at = refl
  line_alone Outside k number edit tokens rendered at =
      let e : EditEntry = record { edit = edit; class = Outside; tokens = tokens; rendered = rendered } in
      ap (λ (n : ℕ). deep_lines file base n e) at ∙ sym (append-nil (deep_lines file base (k + 1) e))

  -- one edit more
  pub lines_more : (many : ℕ) (es : List EditEntry) (i : ℕ) (e : EditEntry) (number : ℕ) → i < length es → e ≡ get_or es i e → number ≡ many + count_by (λ x. is_outside x.class) (take (i + 1) es)
      → edit_lines file base many (take i es) ++ lines_if_outside file base number e ≡ edit_lines file base many (take (i + 1) es)
  lines_more many es i e number within is at =
      let front = take i es in
      let grown : take (i + 1) es ≡ front ++ e ∷ [] = take_more es i e within ∙ ap (λ (x : EditEntry). front ++ x ∷ []) (sym is) in
      let k = many + length (outside front) in
      let counts : count_by (λ (x : EditEntry). is_outside x.class) (take (i + 1) es) ≡ count_by (λ (x : EditEntry). is_outside x.class) front + cond (is_outside e.class) 1 0 =
      ap (λ (l : List EditEntry). count_by (λ x. is_outside x.class) l) grown ∙ count_both (λ x. is_outside x.class) front (e ∷ []) ∙ omega arith in
      let here : number ≡ k + cond (is_outside e.class) 1 0 = omega (arith, at, counts, many_outside front) in
      ap (λ (l : List ℕ). edit_lines file base many front ++ l) (line_alone e.class k number e.edit e.tokens e.rendered here)
      ∙ sym (lines_both many front (e ∷ [])) ∙ ap (edit_lines file base many) (sym grown)
