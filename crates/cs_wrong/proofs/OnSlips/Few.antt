-- A grammar has few slips.
use Rattle.std.proofs.Common.{◌≤◌, ℕ, ◌+◌, ◌-◌, ◌*◌, ◌^◌, Bool, true, false, cond, List, [], ◌∷◌, ◌++◌, length, length-append, arith}
use Rattle.std.specs.Prelude.{All}
use Rattle.std.specs.List.{enumerate_from, filter, flat_map, range_with_len}
use Rattle.std.proofs.lemmas.List.{length-map}
use Rattle.std.proofs.lemmas.List.Elements.{All-head, All-tail}
use Rattle.std.proofs.lemmas.List.FromFn.{length-range_with_len}
use Rattle.std.proofs.lemmas.List.Sums.{count_by-le-length, length-filter}
use Rattle.cs_grammar.specs.Grammar.{IsGrammar, IsRuleOf, PlainGrammar, Production}
use Rattle.cs_grammar.specs.declared.symbol.Symbol.{Symbol}
use Rattle.cs_io.specs.Faults.{greatest}
use Rattle.cs_wrong.specs.Slips.Slips.{changes_of, differ_at, doubles_of, drops_of, slips, slips_in, swaps_of}
use Rattle.cs_wrong.specs.declared.slips.slip.Change.{Change}
use Rattle.cs_wrong.specs.declared.slips.slip.Change.TheVariants.{Drop, Double, Swap}
use Rattle.cs_choices.specs.declared.slips.Slips.{Slips}
use Rattle.cs_wrong.specs.declared.slips.slip.Slip.TheVariants.{Of}

few_if : (b : Bool) (l : List Change) → length (cond b l []) ≤ length l
few_if true l = omega arith
few_if false l = omega arith

-- three for each symbol at most
few_changes : (c : Slips) (xs : List Symbol) → length (changes_of c xs) ≤ 3 * length xs
few_changes c xs =
    let first = cond c.drops (drops_of xs) [] in
    let second = cond c.doubles (doubles_of xs) [] in
    let third = cond c.swaps (swaps_of xs) [] in
    let swaps = filter (differ_at xs) (range_with_len 1 (length xs - 1)) in
    omega (
      arith,
      length-append (first ++ second) third,
      length-append first second,
      few_if c.drops (drops_of xs),
      few_if c.doubles (doubles_of xs),
      few_if c.swaps (swaps_of xs),
      length-map (range_with_len 1 (length xs)) (λ (i : ℕ). Drop i),
      length-map (range_with_len 1 (length xs)) (λ (i : ℕ). Double i),
      length-map swaps (λ (i : ℕ). Swap i),
      length-range_with_len 1 (length xs),
      length-range_with_len 1 (length xs - 1),
      length-filter (differ_at xs) (range_with_len 1 (length xs - 1)),
      count_by-le-length (differ_at xs) (range_with_len 1 (length xs - 1)),
    )

few_rules : (c : Slips) (tokens nonterminals n : ℕ) (rules : List Production) → All (IsRuleOf tokens nonterminals) rules → length (flat_map (slips_in c) (enumerate_from n rules)) ≤ 384 * length rules
few_rules c tokens nonterminals n [] all = omega arith
few_rules c tokens nonterminals n (p ∷ rules) all =
    let rest = few_rules c tokens nonterminals (n + 1) rules (All-tail (IsRuleOf tokens nonterminals) p rules all) in
    let short = (All-head (IsRuleOf tokens nonterminals) p rules all).short in
    omega (arith, rest, short, few_changes c p.right, length-map (changes_of c p.right) (λ (x : Change). Of n x), length-append (slips_in c (n, p)) (flat_map (slips_in c) (enumerate_from (n + 1) rules)))

pub few_slips : (g : PlainGrammar) → IsGrammar g → (c : Slips) → length (slips g c) ≤ greatest
few_slips g is c =
    let rules = few_rules c g.tokens g.nonterminals 1 g.rules is.rules in
    let few = is.few in
    let all : length (slips g c) ≤ 2 ^ 64 - 1 = omega (arith, rules, few) in
    all
