-- A grammar has one list of each closed set.
use Rattle.std.proofs.Common.{◌≡◌, ℕ, List, [], ◌∷◌, sym, ap, ◌∙◌, ⊎_elim}
use Rattle.cs_grammar.specs.declared.symbol.Mark.{Mark}
use Rattle.cs_grammar.specs.declared.symbol.Mark.TheVariants.{Begin, Token}
use Rattle.cs_grammar.specs.Grammar.{PlainGrammar}
use Rattle.cs_goals.specs.Goals.{right_marks}
use Rattle.cs_pairs.specs.Pairs.Closed.{IsFirstOf, IsLastOf, YieldsNothing}
use Rattle.cs_pairs.specs.Pairs.Pairs.{IsAdjacent}
use Rattle.cs_verdicts.specs.Closed.Closed.{AreClosedSets, AreEdges, AreNext, AreThose, ClosedSets, HasContext, HasTree, numbers}
use Rattle.cs_verdicts.proofs.OnClosed.Zips.{one_zip}

module _ {A : Type 0} (IsSo : A → Type 0) where
  pub one_those : (xs a b : List A) → AreThose IsSo xs a → AreThose IsSo xs b → a ≡ b
  one_those [] a b p q = p ∙ sym q
  one_those (x ∷ xs) a b p q =
      ⊎_elim
      (λ kept.
      ⊎_elim (λ h. kept.1.1 ∙ ap (λ (l : List A). x ∷ l) (one_those xs kept.1.0 h.1.0 kept.1.2 h.1.2) ∙ sym h.1.1)
      (λ h. absurd (h.0 kept.0))
      q)
      (λ left.
      ⊎_elim (λ h. absurd (left.0 h.0))
      (λ h. one_those xs a b left.1 h.1)
      q)
      p

module _ (g : PlainGrammar) where
  one_edges : (IsEdge : ℕ → ℕ → Type 0) (a b : List (List ℕ)) → AreEdges g IsEdge a → AreEdges g IsEdge b → a ≡ b
  one_edges IsEdge a b p q = one_zip (λ n x y. one_those (IsEdge n) (numbers g.tokens) x y) (numbers g.nonterminals) a b p q

  one_next : (mark : Mark) (a b : List Mark) → AreNext g mark a → AreNext g mark b → a ≡ b
  one_next mark a b p q = one_those (IsAdjacent g mark) (right_marks g.tokens) a b p q

  pub one_closed : (a b : ClosedSets) → AreClosedSets g a → AreClosedSets g b → a ≡ b
  one_closed a b p q =
      ap (λ (l : List ℕ). record a { productive = l }) (one_those (HasTree g) (numbers g.nonterminals) a.productive b.productive p.productive q.productive)
      ∙ ap (λ (l : List ℕ). record a { productive = b.productive; reachable = l }) (one_those (HasContext g) (numbers g.nonterminals) a.reachable b.reachable p.reachable q.reachable)
      ∙ ap (λ (l : List ℕ). record b { empty = l; first = a.first; last = a.last; begin = a.begin; next = a.next }) (one_those (YieldsNothing g) (numbers g.nonterminals) a.empty b.empty p.empty q.empty)
      ∙ ap (λ (l : List (List ℕ)). record b { first = l; last = a.last; begin = a.begin; next = a.next }) (one_edges (IsFirstOf g) a.first b.first p.first q.first)
      ∙ ap (λ (l : List (List ℕ)). record b { last = l; begin = a.begin; next = a.next }) (one_edges (IsLastOf g) a.last b.last p.last q.last)
      ∙ ap (λ (l : List Mark). record b { begin = l; next = a.next }) (one_next Begin a.begin b.begin p.begin q.begin)
      ∙ ap (λ (l : List (List Mark)). record b { next = l }) (one_zip (λ t x y. one_next (Token t) x y) (numbers g.tokens) a.next b.next p.next q.next)
