-- What pairs with marks cost, and which pairs stand in a sentence.
use Rattle.std.proofs.Common.{◌≡◌, ℕ, ◌-◌, List, get_or, sym, ◌∙◌, subst, arith}
use Rattle.cs_grammar.specs.declared.symbol.Symbol.TheVariants.{Nonterminal}
use Rattle.cs_grammar.specs.declared.symbol.Mark.{Mark}
use Rattle.cs_grammar.specs.declared.symbol.Mark.TheVariants.{Begin, Token, End}
use Rattle.cs_grammar.specs.Grammar.{PlainGrammar, IsNumberOf}
use Rattle.cs_grammar.specs.Weights.{Measure, Weighed}
use Rattle.cs_grammar.specs.Tree.{yield, size}
use Rattle.cs_least.specs.declared.cost.cost.Cost.{Cost}
use Rattle.cs_least.specs.Cost.Least.{IsCost}
use Rattle.cs_least.proofs.OnCost.Ranks.{IsCost-same}
use Rattle.cs_goals.specs.Goal.{IsLeft, IsRight}
use Rattle.cs_pairs.specs.declared.kinds.kind.TreeKind.TheVariants.{Empty, Begins, Ends}
use Rattle.cs_pairs.specs.Kinds.Kinds.{IsTreeOfKind}
use Rattle.cs_pairs.proofs.OnKinds.RowLists.{row_read}
use Rattle.cs_pairs.proofs.OnKinds.Filling.{entry_read}
use Rattle.cs_pairs.specs.Pairs.Pairs.{HasPair, ArePairs, ArePairRows}
use Rattle.cs_pairs.proofs.OnPairs.Framed.{first_token, token_first, no_token, none_framed, last_token, token_last}

module _ (w : Measure) (g : PlainGrammar) where
  -- a pair with a mark is a kind of trees of the start symbol
  pub none_pair : (c : Cost) → IsCost w.limit (IsTreeOfKind g Empty (Nonterminal g.start)) (size w) c → IsCost w.limit (HasPair g Begin End) (size w) c
  none_pair c h = IsCost-same w.limit (IsTreeOfKind g Empty (Nonterminal g.start)) (HasPair g Begin End) (size w) (size w) c (λ t is. (t, (is.0, none_framed (yield t) is.1), omega arith)) (λ t is. (t, (is.0, no_token (yield t) is.1), omega arith)) h

  pub first_pair : (b : ℕ) (c : Cost) → IsCost w.limit (IsTreeOfKind g (Begins b) (Nonterminal g.start)) (size w) c → IsCost w.limit (HasPair g Begin (Token b)) (size w) c
  first_pair b c h = IsCost-same w.limit (IsTreeOfKind g (Begins b) (Nonterminal g.start)) (HasPair g Begin (Token b)) (size w) (size w) c (λ t is. (t, (is.0, token_first b (yield t) is.1), omega arith)) (λ t is. (t, (is.0, first_token b (yield t) is.1), omega arith)) h

  pub last_pair : (a : ℕ) (c : Cost) → IsCost w.limit (IsTreeOfKind g (Ends a) (Nonterminal g.start)) (size w) c → IsCost w.limit (HasPair g (Token a) End) (size w) c
  last_pair a c h = IsCost-same w.limit (IsTreeOfKind g (Ends a) (Nonterminal g.start)) (HasPair g (Token a) End) (size w) (size w) c (λ t is. (t, (is.0, token_last a (yield t) is.1), omega arith)) (λ t is. (t, (is.0, last_token a (yield t) is.1), omega arith)) h

  -- in the names of the code
  pub of_marks : (left right a b : Mark) (c : Cost) → left ≡ a → right ≡ b → IsCost w.limit (HasPair g a b) (size w) c → IsCost w.limit (HasPair g left right) (size w) c
  of_marks left right a b c is_left is_right h =
      subst (λ m. IsCost w.limit (HasPair g m right) (size w) c) (sym is_left) (subst (λ m. IsCost w.limit (HasPair g a m) (size w) c) (sym is_right) h)

  pub row_held : (v : Weighed) (rows : List (List Cost)) (left right : Mark) (a b : ℕ) (held row d : List Cost) → v ≡ record { grammar = g; weights = w } → ArePairRows v.weights v.grammar v.grammar.tokens rows → IsLeft g.tokens left → IsRight g.tokens right → left ≡ Token a → right ≡ Token b → held ≡ row → row ≡ get_or rows (b - 1) d → ArePairs w g b held × IsNumberOf g.tokens a
  row_held v rows left right a b held row d same exact is_left is_right at_left at_right is_held is_row =
      let exact' = subst (λ (u : Weighed). ArePairRows u.weights u.grammar u.grammar.tokens rows) same exact in
      let is_a = subst (IsLeft g.tokens) at_left is_left in
      let is_b = subst (IsRight g.tokens) at_right is_right in
      let there = is_held ∙ row_read rows b row d (subst (λ n. IsNumberOf n b) (sym exact'.many) is_b) is_row in
      (subst (ArePairs w g b) (sym there) (exact'.each b is_b), is_a)

  pub of_tokens : (left right : Mark) (a b : ℕ) (row : List Cost) (d : Cost) → left ≡ Token a → right ≡ Token b → ArePairs w g b row × IsNumberOf g.tokens a → IsCost w.limit (HasPair g left right) (size w) (get_or row (a - 1) d)
  of_tokens left right a b row d at_left at_right h =
      let at = entry_read row a d (h.1.0, omega (arith, h.1, h.0.many)) in
      of_marks left right (Token a) (Token b) (get_or row (a - 1) d) at_left at_right (subst (IsCost w.limit (HasPair g (Token a) (Token b)) (size w)) at (h.0.exact a h.1))
