-- The size of the one tree of a code.
use Rattle.std.proofs.Common.{◌≡◌, ℕ, ◌+◌, ◌-◌, ◌<◌, ◌≤◌, min, List, [], ◌++◌, length, get_or, sym, ap, ◌∙◌, ⊎_elim, ◌↔◌, arith, append-nil}
use Rattle.std.specs.Prelude.{All}
use Rattle.std.specs.List.{sum_by}
use Rattle.std.proofs.lemmas.Bool.{cases_lt}
use Rattle.std.proofs.lemmas.List.{get_or_past}
use Rattle.std.proofs.lemmas.List.Sums.{sum_by-le}
use Rattle.cs_grammar.specs.declared.symbol.Symbol.{Symbol}
use Rattle.cs_grammar.specs.declared.symbol.Symbol.TheVariants.{Nonterminal}
use Rattle.cs_grammar.specs.Grammar.{PlainGrammar, IsGrammar}
use Rattle.cs_grammar.specs.Tree.{Tree, IsTree, size, code, yield, IsPrefixFree}
use Rattle.cs_grammar.specs.Leftmost.{IsYield}
use Rattle.cs_grammar.specs.Weights.{Measure, number}
use Rattle.cs_lines.specs.Lines.Numbers.{greatest}
use Rattle.cs_check.specs.Passing.Entries.{HasSize}
use Rattle.cs_check.proofs.OnChecking.Trees.{size_parts, yield_short}

module _ (g : PlainGrammar) (well : IsGrammar g) (one : (x : Symbol) (t : Tree) → IsTree g x t → IsPrefixFree g x t) (w : Measure) (small : All (λ (n : ℕ). n ≤ 1000000) w.numbers) (rules tokens : List ℕ) (yields : IsYield g rules tokens) (few : length rules < 4294967296) where
  total : ℕ
  total = length rules + sum_by (number w) tokens

  tree_total : size w yields.tree ≡ total
  unfolding total
  tree_total =
      size_parts w yields.tree
      ∙ ap (λ (l : List ℕ). length l + sum_by (number w) (yield yields.tree)) (sym yields.code)
      ∙ ap (λ (l : List ℕ). length rules + sum_by (number w) l) (sym yields.yield)

  one_small : (t : ℕ) → number w t ≤ 1000000
  one_small t =
      ⊎_elim
      (λ (low : t - 1 < length w.numbers). small (t - 1) 1 low)
      (λ (past : length w.numbers ≤ t - 1). let e = get_or_past w.numbers (t - 1) 1 past in omega arith)
      (cases_lt (t - 1) (length w.numbers))

  total_small : total < greatest
  unfolding total
  total_small =
      let sum = sum_by-le (number w) 1000000 tokens (λ k d low. one_small (get_or tokens k d)) in
      let short = yield_short g well yields.tree (Nonterminal g.start) yields.is_tree in
      let long = ap (λ (l : List ℕ). length l) yields.yield in
      let coded = ap (λ (l : List ℕ). length l) yields.code in
      omega arith

  pub size_low : (result : ℕ) → result ≡ min (length rules + sum_by (number w) tokens) greatest → result < greatest
  unfolding total
  size_low result is = let low = total_small in omega arith

  pub has_size : (n result : ℕ) → result ≡ min (length rules + sum_by (number w) tokens) greatest → HasSize g w rules n ↔ (n ≡ result)
  unfolding total
  has_size n result is =
      let low = total_small in
      let same : result ≡ length rules + sum_by (number w) tokens = omega arith in (
        λ h.
            let codes : code h.tree ≡ code yields.tree ++ [] = sym h.code ∙ yields.code ∙ sym (append-nil (code yields.tree)) in
            let trees = one (Nonterminal g.start) yields.tree yields.is_tree h.tree [] h.is_tree codes in
            h.size ∙ ap (size w) (sym trees.0) ∙ tree_total ∙ sym same,
        λ e. record { tree = yields.tree; is_tree = yields.is_tree; code = yields.code; size = e ∙ same ∙ sym tree_total },
      )
