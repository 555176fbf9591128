-- Chains that were counted, and their lines.
use Rattle.std.proofs.Common.{◌≡◌, ◌≤◌, ◌<◌, ℕ, ◌+◌, Bool, List, [], ◌∷◌, ◌++◌, length, length-append, take, get_or, sym, ap, ◌∙◌, subst, arith, cond, Option}
use Rattle.std.specs.Prelude.{codes}
use Rattle.std.proofs.lemmas.List.{append-nil, take_more, length-take-le}
use Rattle.std.proofs.lemmas.List.Sums.{count_by-le-length, sum_by-append}
use Rattle.cs_verdicts.specs.declared.positive.verdict.Verdict.{Verdict}
use Rattle.cs_texts.specs.Rendering.Rendering.{Rendering}
use Rattle.cs_yacc.specs.Reading.File.{File}
use Rattle.cs_manifest.specs.Manifest.Lines.{is_feasible, is_infeasible, is_large}
use Rattle.cs_manifest.proofs.OnOutput.Numbered.{numbered_both}
use Rattle.cs_manifest.specs.Output.Words.{line, numbered_from, numbered_word}
use Rattle.cs_chain.specs.declared.chains.chain.Chain.{Chain}
use Rattle.cs_chain.specs.declared.judging.verdict.ChainVerdict.{ChainVerdict}
use Rattle.cs_chain.specs.declared.judging.verdict.ChainVerdict.TheVariants.{Feasible, Infeasible, Large}
use Rattle.cs_chain_text.specs.declared.entries.tally.Tally.{Tally}
use Rattle.cs_chain_text.specs.Entries.Text.{ChainEntry, as_goal, end_line, entry_lines, many_with}
use Rattle.cs_chain_text.specs.Progress.{CanCount, HasRoom, IsCounted, end_with, lines_from, no_chains, with_verdict}

pub counted_none : (t : Tally) → IsCounted [] t t
counted_none t = record { goals = omega arith; feasible = omega arith; infeasible = omega arith; large = omega arith }

many_both : (test : Verdict → Bool) (xs ys : List ChainEntry) → many_with test (xs ++ ys) ≡ many_with test xs + many_with test ys
many_both test xs ys = sum_by-append (λ (e : ChainEntry). cond (test (as_goal e.verdict)) 1 0) xs ys

pub many-le : (test : Verdict → Bool) (xs : List ChainEntry) → many_with test xs ≤ length xs
many-le test xs = count_by-le-length (λ (e : ChainEntry). test (as_goal e.verdict)) xs

pub counted_then : (xs ys : List ChainEntry) (a b c : Tally) → IsCounted xs a b → IsCounted ys b c → IsCounted (xs ++ ys) a c
counted_then xs ys a b c first second = record {
  goals = omega (arith, first.goals, second.goals, length-append xs ys);
  feasible = omega (arith, first.feasible, second.feasible, many_both is_feasible xs ys);
  infeasible = omega (arith, first.infeasible, second.infeasible, many_both is_infeasible xs ys);
  large = omega (arith, first.large, second.large, many_both is_large xs ys);
}

-- one chain was counted
counted_as : (verdict : ChainVerdict) (t : Tally) (chain : Chain) (tokens : List ℕ) (rendered : Option Rendering) → IsCounted (record { chain = chain; verdict = verdict; tokens = tokens; rendered = rendered } ∷ []) t (with_verdict t verdict)
counted_as (Feasible n derivation) t chain tokens rendered = record { goals = omega arith; feasible = omega arith; infeasible = omega arith; large = omega arith }
counted_as Infeasible t chain tokens rendered = record { goals = omega arith; feasible = omega arith; infeasible = omega arith; large = omega arith }
counted_as Large t chain tokens rendered = record { goals = omega arith; feasible = omega arith; infeasible = omega arith; large = omega arith }

grown : (es : List ChainEntry) (i : ℕ) (e : ChainEntry) → i < length es → e ≡ get_or es i e → take i es ++ e ∷ [] ≡ take (i + 1) es
grown es i e within is = ap (λ (x : ChainEntry). take i es ++ x ∷ []) is ∙ sym (take_more es i e within)

pub counted_more : (es : List ChainEntry) (i : ℕ) (e : ChainEntry) (a b c : Tally) → i < length es → e ≡ get_or es i e → IsCounted (take i es) a b → c ≡ with_verdict b e.verdict → IsCounted (take (i + 1) es) a c
counted_more es i e a b c within is so_far more =
    let one = subst (λ (t : Tally). IsCounted (e ∷ []) b t) (sym more) (counted_as e.verdict b e.chain e.tokens e.rendered) in
    subst (λ (l : List ChainEntry). IsCounted l a c) (grown es i e within is) (counted_then (take i es) (e ∷ []) a b c so_far one)

-- those that can be counted behind some
pub can_behind : (es : List ChainEntry) (more : ℕ) (a b : Tally) → CanCount a (length es + more) → IsCounted es a b → CanCount b more
can_behind es more a b can counted = record {
  feasible = omega (arith, can.feasible, counted.feasible, counted.goals, many-le is_feasible es);
  infeasible = omega (arith, can.infeasible, counted.infeasible, counted.goals, many-le is_infeasible es);
  large = omega (arith, can.large, counted.large, counted.goals, many-le is_large es);
  few = omega (arith, can.few, counted.goals);
}

-- there is room for each of them
pub room_within : (es : List ChainEntry) (i : ℕ) (a b : Tally) → i < length es → CanCount a (length es) → IsCounted (take i es) a b → HasRoom b
room_within es i a b within can counted =
    let long : length (take i es) ≡ i = length-take-le i es (omega arith) in
    let few : b.goals < 1000000 = omega (arith, counted.goals, can.few, long) in
    record {
      goals = omega arith;
      feasible = omega (arith, can.feasible, counted.feasible, counted.goals, many-le is_feasible (take i es));
      infeasible = omega (arith, can.infeasible, counted.infeasible, counted.goals, many-le is_infeasible (take i es));
      large = omega (arith, can.large, counted.large, counted.goals, many-le is_large (take i es));
    }

-- ---- lines

module _ (file : File) where
  -- the lines of two lists of entries, one behind the other
  pub lines_both : (many : ℕ) (xs ys : List ChainEntry) → lines_from file many (xs ++ ys) ≡ lines_from file many xs ++ lines_from file (many + length xs) ys
  lines_both many xs ys =
      let f = entry_lines file in
      let at : many + 1 + length xs ≡ many + length xs + 1 = omega arith in
      numbered_both f (many + 1) xs ys ∙ ap (λ (n : ℕ). numbered_from (many + 1) f xs ++ numbered_from n f ys) at

  -- one entry more
  pub lines_more : (many : ℕ) (es : List ChainEntry) (i : ℕ) (e : ChainEntry) (number : ℕ) → i < length es → e ≡ get_or es i e → number ≡ many + length (take (i + 1) es)
      → lines_from file many (take i es) ++ entry_lines file number e ≡ lines_from file many (take (i + 1) es)
  lines_more many es i e number within is at =
      let front = take i es in
      let long : length (take (i + 1) es) ≡ i + 1 = length-take-le (i + 1) es (omega arith) in
      let before : length front ≡ i = length-take-le i es (omega arith) in
      let here : number ≡ many + length front + 1 = omega arith in
      ap (λ (n : ℕ). lines_from file many front ++ entry_lines file n e) here
      ∙ ap (λ (l : List ℕ). lines_from file many front ++ l) (sym (append-nil (entry_lines file (many + length front + 1) e)))
      ∙ sym (lines_both many front (e ∷ []))
      ∙ ap (lines_from file many) (grown es i e within is)

-- the end of entries that were counted
pub end_is : (entries : List ChainEntry) (t : Tally) → IsCounted entries no_chains t → end_with t ≡ end_line entries
end_is entries t counted =
    let goals : t.goals ≡ length entries = omega (arith, counted.goals) in
    let feasible : t.feasible ≡ many_with is_feasible entries = omega (arith, counted.feasible) in
    let infeasible : t.infeasible ≡ many_with is_infeasible entries = omega (arith, counted.infeasible) in
    let large : t.large ≡ many_with is_large entries = omega (arith, counted.large) in
    ap (λ (n : ℕ). line (numbered_word (codes "end goals ") n ++ numbered_word (codes " feasible ") t.feasible ++ numbered_word (codes " infeasible ") t.infeasible ++ numbered_word (codes " large ") t.large)) goals
    ∙ ap (λ (n : ℕ). line (numbered_word (codes "end goals ") (length entries) ++ numbered_word (codes " feasible ") n ++ numbered_word (codes " infeasible ") t.infeasible ++ numbered_word (codes " large ") t.large)) feasible
    ∙ ap (λ (n : ℕ). line (numbered_word (codes "end goals ") (length entries) ++ numbered_word (codes " feasible ") (many_with is_feasible entries) ++ numbered_word (codes " infeasible ") n ++ numbered_word (codes " large ") t.large)) infeasible
    ∙ ap (λ (n : ℕ). line (numbered_word (codes "end goals ") (length entries) ++ numbered_word (codes " feasible ") (many_with is_feasible entries) ++ numbered_word (codes " infeasible ") (many_with is_infeasible entries) ++ numbered_word (codes " large ") n)) large
