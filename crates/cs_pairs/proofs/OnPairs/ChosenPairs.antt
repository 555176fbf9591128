-- The chosen tree of a pair of marks.
use Rattle.std.proofs.Common.{◌≡◌, ℕ, ◌≤◌, sym, subst, arith}
use Rattle.cs_grammar.specs.declared.symbol.Symbol.TheVariants.{Nonterminal}
use Rattle.cs_grammar.specs.declared.symbol.Mark.{Mark}
use Rattle.cs_grammar.specs.declared.symbol.Mark.TheVariants.{Begin, Token, End}
use Rattle.cs_grammar.specs.Grammar.{PlainGrammar}
use Rattle.cs_grammar.specs.Weights.{Measure}
use Rattle.cs_grammar.specs.Tree.{Tree, size, yield}
use Rattle.cs_grammar.specs.Context.{Under, plug}
use Rattle.cs_goals.specs.Goal.{IsLeft, IsRight}
use Rattle.cs_pairs.specs.declared.kinds.kind.TreeKind.TheVariants.{Empty, Begins, Ends}
use Rattle.cs_pairs.proofs.OnKinds.ChosenKinds.{IsTree-of_kind, of_kind_least, one_of_kind}
use Rattle.cs_pairs.proofs.OnKinds.KindsSettled.{of_kind_exists}
use Rattle.cs_pairs.specs.Pairs.Pairs.{HasPair}
use Rattle.cs_pairs.specs.Pairs.ChosenPair.{IsChosenSeam, IsChosenPair}
use Rattle.cs_pairs.proofs.OnPairs.Framed.{first_token, token_first, no_token, none_framed, last_token, token_last, tokens_in, tokens_framed}
use Rattle.cs_pairs.proofs.OnPairs.Seams.{cut, IsTree-seam, followed_in_seam}
use Rattle.cs_pairs.proofs.OnPairs.ChosenSeams.{seam_of, one_seam, seam_exists}

module _ (w : Measure) (g : PlainGrammar) where
  pub one_pair : (a b : Mark) (t u : Tree) → IsChosenPair w g a b t → IsChosenPair w g a b u → t ≡ u
  one_pair Begin Begin t u ht hu = absurd ht
  one_pair Begin (Token b) t u ht hu = one_of_kind w g t u (Begins b) (Nonterminal g.start) ht hu
  one_pair Begin End t u ht hu = one_of_kind w g t u Empty (Nonterminal g.start) ht hu
  one_pair (Token a) Begin t u ht hu = absurd ht
  one_pair (Token a) (Token b) t u ht hu = one_seam w g a b t u ht hu
  one_pair (Token a) End t u ht hu = one_of_kind w g t u (Ends a) (Nonterminal g.start) ht hu
  one_pair End b t u ht hu = absurd ht

  pub pair_exists : (a b : Mark) (t : Tree) → IsLeft g.tokens a → IsRight g.tokens b → HasPair g a b t → (u : Tree) × IsChosenPair w g a b u
  pair_exists Begin Begin t la rb h = absurd rb
  pair_exists Begin (Token b) t la rb h = of_kind_exists w g (Begins b) (Nonterminal g.start) t (h.0, first_token b (yield t) h.1)
  pair_exists Begin End t la rb h = of_kind_exists w g Empty (Nonterminal g.start) t (h.0, no_token (yield t) h.1)
  pair_exists (Token a) Begin t la rb h = absurd rb
  pair_exists (Token a) (Token b) t la rb h = let v = cut w g a b t h.0 (tokens_in a b (yield t) h.1) in seam_exists w g a b v.symbol v.seam v.is_seam
  pair_exists (Token a) End t la rb h = of_kind_exists w g (Ends a) (Nonterminal g.start) t (h.0, last_token a (yield t) h.1)
  pair_exists End b t la rb h = absurd la

  seam_has_pair : (a b : ℕ) (t : Tree) → IsChosenSeam w g a b t → HasPair g (Token a) (Token b) t
  seam_has_pair a b t c =
      let s = seam_of w g a b t c in
      let whole = plug (Under c.outer c.number c.left c.right) c.last in
      let has : HasPair g (Token a) (Token b) whole = (IsTree-seam w g a b c.symbol (Under c.outer c.number c.left c.right, c.last) s, tokens_framed a b (yield whole) (followed_in_seam w g a b c.symbol (Under c.outer c.number c.left c.right, c.last) s)) in
      subst (HasPair g (Token a) (Token b)) (sym c.whole) has

  pub pair_has : (a b : Mark) (t : Tree) → IsChosenPair w g a b t → HasPair g a b t
  pair_has Begin Begin t h = absurd h
  pair_has Begin (Token b) t h = let v = IsTree-of_kind w g t (Begins b) (Nonterminal g.start) h in (v.0, token_first b (yield t) v.1)
  pair_has Begin End t h = let v = IsTree-of_kind w g t Empty (Nonterminal g.start) h in (v.0, none_framed (yield t) v.1)
  pair_has (Token a) Begin t h = absurd h
  pair_has (Token a) (Token b) t h = seam_has_pair a b t h
  pair_has (Token a) End t h = let v = IsTree-of_kind w g t (Ends a) (Nonterminal g.start) h in (v.0, token_last a (yield t) v.1)
  pair_has End b t h = absurd h

  pub pair_least : (a b : Mark) (t u : Tree) → HasPair g a b t → IsChosenPair w g a b u → size w u ≤ size w t
  pair_least Begin Begin t u ht hu = absurd hu
  pair_least Begin (Token b) t u ht hu = of_kind_least w g (Begins b) (Nonterminal g.start) u t (ht.0, first_token b (yield t) ht.1) hu
  pair_least Begin End t u ht hu = of_kind_least w g Empty (Nonterminal g.start) u t (ht.0, no_token (yield t) ht.1) hu
  pair_least (Token a) Begin t u ht hu = absurd hu
  pair_least (Token a) (Token b) t u ht hu =
      let v = cut w g a b t ht.0 (tokens_in a b (yield t) ht.1) in
      omega (arith, hu.first.least v.symbol v.seam v.is_seam, v.measure)
  pair_least (Token a) End t u ht hu = of_kind_least w g (Ends a) (Nonterminal g.start) u t (ht.0, last_token a (yield t) ht.1) hu
  pair_least End b t u ht hu = absurd hu
