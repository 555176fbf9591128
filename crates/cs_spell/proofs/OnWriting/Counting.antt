-- Rules counted, one after another.
use Rattle.std.proofs.Common.{◌≡◌, ℕ, ◌+◌, ◌<◌, ◌≤◌, ◌^◌, List, [], ◌∷◌, ◌++◌, refl, sym, ap, ◌∙◌, subst, arith, length, take, get_or}
use Rattle.std.specs.Prelude.{codes, map}
use Rattle.std.proofs.lemmas.List.{length-take-le, take_all}
use Rattle.std.proofs.lemmas.List.Sums.{count_by-le-length, count_by_more_no, count_by_more_yes}
use Rattle.cs_spell.specs.Writing.Counting.{AreFew, added}
use Rattle.cs_spell.specs.Writing.Counts.{AreCounts}
use Rattle.cs_spell.specs.Telling.Told.{Told, Shadowed, Foreign, Literal, Infeasible, Large, Shown, is_foreign, is_infeasible, is_large, is_literal, is_shadowed, is_shown}
use Rattle.cs_manifest.specs.Output.Words.{line, numbered_from}
use Rattle.cs_spell.specs.Writing.Counts.{end_of}
use Rattle.cs_spell.specs.Telling.Lines.{end_line, spelling_lines}
use Rattle.cs_spell.specs.Writing.Putting.{spell_text_of, told_lines_of}
use Rattle.cs_spell.specs.Telling.Seen.{all_told, told_of}
use Rattle.cs_spell.specs.declared.writing.counting.Counts.{Counts}
use Rattle.cs_spell.specs.declared.telling.told.Told as code
use Rattle.cs_yacc.specs.Reading.File.{File}

module _ (told : List Told) (i : ℕ) (less : i < length told) (c : Counts) (h : AreCounts (take i told) c) where
  one_longer : c.rules + 1 ≡ length (take (i + 1) told)
  one_longer = let e = h.rules in omega (arith, e, length-take-le i told (omega (arith, less)), length-take-le (i + 1) told (omega (arith, less)))

  counted_by : (t : Told) → get_or told i Shadowed ≡ t → AreCounts (take (i + 1) told) (added c t)
  counted_by Shadowed e = record {
    rules = one_longer;
    shown = h.shown ∙ sym (count_by_more_no is_shown told i Shadowed less (ap is_shown e));
    shadowed = ap (λ (n : ℕ). n + 1) h.shadowed ∙ sym (count_by_more_yes is_shadowed told i Shadowed less (ap is_shadowed e));
    foreign = h.foreign ∙ sym (count_by_more_no is_foreign told i Shadowed less (ap is_foreign e));
    literal = h.literal ∙ sym (count_by_more_no is_literal told i Shadowed less (ap is_literal e));
    infeasible = h.infeasible ∙ sym (count_by_more_no is_infeasible told i Shadowed less (ap is_infeasible e));
    large = h.large ∙ sym (count_by_more_no is_large told i Shadowed less (ap is_large e));
  }
  counted_by Foreign e = record {
    rules = one_longer;
    shown = h.shown ∙ sym (count_by_more_no is_shown told i Shadowed less (ap is_shown e));
    shadowed = h.shadowed ∙ sym (count_by_more_no is_shadowed told i Shadowed less (ap is_shadowed e));
    foreign = ap (λ (n : ℕ). n + 1) h.foreign ∙ sym (count_by_more_yes is_foreign told i Shadowed less (ap is_foreign e));
    literal = h.literal ∙ sym (count_by_more_no is_literal told i Shadowed less (ap is_literal e));
    infeasible = h.infeasible ∙ sym (count_by_more_no is_infeasible told i Shadowed less (ap is_infeasible e));
    large = h.large ∙ sym (count_by_more_no is_large told i Shadowed less (ap is_large e));
  }
  counted_by Literal e = record {
    rules = one_longer;
    shown = h.shown ∙ sym (count_by_more_no is_shown told i Shadowed less (ap is_shown e));
    shadowed = h.shadowed ∙ sym (count_by_more_no is_shadowed told i Shadowed less (ap is_shadowed e));
    foreign = h.foreign ∙ sym (count_by_more_no is_foreign told i Shadowed less (ap is_foreign e));
    literal = ap (λ (n : ℕ). n + 1) h.literal ∙ sym (count_by_more_yes is_literal told i Shadowed less (ap is_literal e));
    infeasible = h.infeasible ∙ sym (count_by_more_no is_infeasible told i Shadowed less (ap is_infeasible e));
    large = h.large ∙ sym (count_by_more_no is_large told i Shadowed less (ap is_large e));
  }
  counted_by Infeasible e = record {
    rules = one_longer;
    shown = h.shown ∙ sym (count_by_more_no is_shown told i Shadowed less (ap is_shown e));
    shadowed = h.shadowed ∙ sym (count_by_more_no is_shadowed told i Shadowed less (ap is_shadowed e));
    foreign = h.foreign ∙ sym (count_by_more_no is_foreign told i Shadowed less (ap is_foreign e));
    literal = h.literal ∙ sym (count_by_more_no is_literal told i Shadowed less (ap is_literal e));
    infeasible = ap (λ (n : ℕ). n + 1) h.infeasible ∙ sym (count_by_more_yes is_infeasible told i Shadowed less (ap is_infeasible e));
    large = h.large ∙ sym (count_by_more_no is_large told i Shadowed less (ap is_large e));
  }
  counted_by Large e = record {
    rules = one_longer;
    shown = h.shown ∙ sym (count_by_more_no is_shown told i Shadowed less (ap is_shown e));
    shadowed = h.shadowed ∙ sym (count_by_more_no is_shadowed told i Shadowed less (ap is_shadowed e));
    foreign = h.foreign ∙ sym (count_by_more_no is_foreign told i Shadowed less (ap is_foreign e));
    literal = h.literal ∙ sym (count_by_more_no is_literal told i Shadowed less (ap is_literal e));
    infeasible = h.infeasible ∙ sym (count_by_more_no is_infeasible told i Shadowed less (ap is_infeasible e));
    large = ap (λ (n : ℕ). n + 1) h.large ∙ sym (count_by_more_yes is_large told i Shadowed less (ap is_large e));
  }
  counted_by (Shown showing) e = record {
    rules = one_longer;
    shown = ap (λ (n : ℕ). n + 1) h.shown ∙ sym (count_by_more_yes is_shown told i Shadowed less (ap is_shown e));
    shadowed = h.shadowed ∙ sym (count_by_more_no is_shadowed told i Shadowed less (ap is_shadowed e));
    foreign = h.foreign ∙ sym (count_by_more_no is_foreign told i Shadowed less (ap is_foreign e));
    literal = h.literal ∙ sym (count_by_more_no is_literal told i Shadowed less (ap is_literal e));
    infeasible = h.infeasible ∙ sym (count_by_more_no is_infeasible told i Shadowed less (ap is_infeasible e));
    large = h.large ∙ sym (count_by_more_no is_large told i Shadowed less (ap is_large e));
  }

  pub counted_more : AreCounts (take (i + 1) told) (added c (get_or told i Shadowed))
  counted_more = counted_by (get_or told i Shadowed) refl

  pub few_so_far : length told < 2 ^ 63 → AreFew c
  few_so_far short =
      let size = length-take-le i told (omega (arith, less)) in
      record {
        rules = let e = h.rules in omega (arith, e, size, less, short);
        shown = let e = h.shown in omega (arith, e, count_by-le-length is_shown (take i told), size, less, short);
        shadowed = let e = h.shadowed in omega (arith, e, count_by-le-length is_shadowed (take i told), size, less, short);
        foreign = let e = h.foreign in omega (arith, e, count_by-le-length is_foreign (take i told), size, less, short);
        literal = let e = h.literal in omega (arith, e, count_by-le-length is_literal (take i told), size, less, short);
        infeasible = let e = h.infeasible in omega (arith, e, count_by-le-length is_infeasible (take i told), size, less, short);
        large = let e = h.large in omega (arith, e, count_by-le-length is_large (take i told), size, less, short);
      }

pub counted_none : (told : List Told) → AreCounts (take 0 told) (record { rules = 0; shown = 0; shadowed = 0; foreign = 0; literal = 0; infeasible = 0; large = 0 })
counted_none told = record { rules = refl; shown = refl; shadowed = refl; foreign = refl; literal = refl; infeasible = refl; large = refl }

pub counted_all : (told : List Told) (i : ℕ) (c : Counts) → length told ≤ i → AreCounts (take i told) c → AreCounts told c
counted_all told i c most h = subst (λ (l : List Told). AreCounts l c) (take_all i told most) h

-- ---- the text with counts

numbered_map : {A B : Type 0} (f : ℕ → B → List ℕ) (h : A → B) (n : ℕ) (xs : List A) → numbered_from n (λ k x. f k (h x)) xs ≡ numbered_from n f (map h xs)
numbered_map f h n [] = refl
numbered_map f h n (x ∷ xs) = ap (λ (t : List ℕ). f n (h x) ++ t) (numbered_map f h (n + 1) xs)

pub text_of_counts : (file : File) (told : List code.Told) (c : Counts) → AreCounts (all_told told) c → spell_text_of file told c ≡ told_lines_of file told
text_of_counts file told c h =
    let lines = numbered_map (spelling_lines file) told_of 1 told in
    let head = line (codes "conform spell") in
    let e = end_is (all_told told) c h in
    ap (λ (t : List ℕ). head ++ t ++ end_of c) lines ∙ ap (λ (t : List ℕ). head ++ numbered_from 1 (spelling_lines file) (all_told told) ++ t) e
  where
    end_is : (list : List Told) (c : Counts) → AreCounts list c → end_of c ≡ end_line list
    end_is list c h =
        let a = h.rules in
        let b = h.shown in
        let d = h.shadowed in
        let e = h.foreign in
        let f = h.literal in
        let i = h.infeasible in
        let l = h.large in
        simp (a, b, d, e, f, i, l)
