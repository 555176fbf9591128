-- The goals that a tree meets get numbers as a walk comes to them.
use Rattle.std.proofs.Common.{◌≡◌, ℕ, ◌+◌, ◌<◌, List, [], ◌∷◌, ◌++◌, map, drop, take, length, get_or, refl, sym, ap, ◌∙◌, subst, append_assoc, append-nil}
use Rattle.std.proofs.lemmas.List.{take_more, map_push}
use Rattle.cs_grammar.specs.declared.symbol.Mark.TheVariants.{Begin, Token, End}
use Rattle.cs_grammar.specs.Grammar.{PlainGrammar}
use Rattle.cs_grammar.specs.Tree.{IsDerivationOf}
use Rattle.cs_goals.specs.declared.goal.Goal.{Goal}
use Rattle.cs_goals.specs.declared.goal.Goal.TheVariants.{Rule, Pair}
use Rattle.cs_verdicts.specs.declared.cases.met.Spot.{Spot}
use Rattle.cs_verdicts.specs.Cases.Met.{AreInsideAdded, TakesFirst, below, context_on, framed_pairs, pairs_after, spots_from}
use Rattle.cs_verdicts.specs.Cases.Table.{AreAllAdded}
use Rattle.cs_verdicts.proofs.OnCases.Adding.{added_both, added_no, added_sorted}
use Rattle.cs_verdicts.proofs.OnCases.Walked.{Turn, Walks, turn, walks_all, walks_none}

-- ---- rules and contexts

-- before an entry of a tree's code: what came before has its numbers
pub record IsInside (g : PlainGrammar) (rules : List ℕ) (at : ℕ) (pending : List Spot) (n : ℕ) (old now : List (Goal × ℕ)) : Type 0 where
  pub contexts : List Goal
  pub walks : Walks g rules (drop at rules) pending [] contexts
  pub added : AreAllAdded old (map Rule (take at rules) ++ contexts) n now

takes : (pending : List Spot) (r : ℕ) (given : List Goal) → TakesFirst pending (below pending) r given (given ++ context_on pending r)
takes [] r given = (refl, append-nil given)
takes (s ∷ ss) r given = (refl, refl)

module _ (g : PlainGrammar) (rules : List ℕ) (n : ℕ) (old : List (Goal × ℕ)) where
  pub inside_none : IsDerivationOf g rules → IsInside g rules 0 [] n old old
  inside_none d = record { contexts = []; walks = walks_none g rules [] d; added = added_no old n }

  pub inside_all : (at : ℕ) (pending : List Spot) (now : List (Goal × ℕ)) → drop at rules ≡ [] → take at rules ≡ rules → IsInside g rules at pending n old now → AreInsideAdded g rules n old now
  inside_all at pending now none whole h = record {
    contexts = h.contexts;
    are = walks_all g rules [] (drop at rules) pending h.contexts none h.walks;
    added = subst (λ (l : List ℕ). AreAllAdded old (map Rule l ++ h.contexts) n now) whole h.added;
  }

  module _ (at : ℕ) (within : at < length rules) (pending : List Spot) (now : List (Goal × ℕ)) (h : IsInside g rules at pending n old now) where
    abbrev pub number : ℕ
    number = get_or rules at 0

    pub turn_at : Turn g rules at pending [] h.contexts
    turn_at = turn g rules [] at within pending h.contexts h.walks

    pub inside_next : (next : List (Goal × ℕ)) → AreAllAdded now (Rule number ∷ context_on pending number) n next
        → IsInside g rules (at + 1) (spots_from number 1 turn_at.rule.right ++ below pending) n old next
    inside_next next more =
        let here = context_on pending number in
        let before = map Rule (take at rules) in
        let both = added_both old now next (before ++ h.contexts) (Rule number ∷ here) n h.added more in
        let rules_are : map Rule (take (at + 1) rules) ≡ before ++ Rule number ∷ [] = ap (map Rule) (take_more rules at 0 within) ∙ map_push Rule (take at rules) number in
        record {
          contexts = h.contexts ++ here;
          walks = turn_at.next (below pending) (h.contexts ++ here) (takes pending number h.contexts);
          added = subst (λ (l : List Goal). AreAllAdded old (l ++ (h.contexts ++ here)) n next) (sym rules_are) (added_sorted before h.contexts here (Rule number) old next n both);
        }

-- ---- pairs

-- the pairs of a token and those behind it, of which these are still to come
pub record ArePairsSoFar (first : ℕ) (tokens : List ℕ) (left : ℕ) (rest : List ℕ) (n : ℕ) (old now : List (Goal × ℕ)) : Type 0 where
  pub pairs : List Goal
  pub all : pairs_after (Token first) tokens ≡ pairs ++ pairs_after (Token left) rest
  pub added : AreAllAdded old pairs n now

module _ (first : ℕ) (tokens : List ℕ) (n : ℕ) (old : List (Goal × ℕ)) where
  pub pairs_none : ArePairsSoFar first tokens first tokens n old old
  pairs_none = record { pairs = []; all = refl; added = added_no old n }

  module _ (left at : ℕ) (now new : List (Goal × ℕ)) (h : ArePairsSoFar first tokens left (drop at tokens) n old now) where
    pub pairs_next : (right : ℕ) → drop at tokens ≡ right ∷ drop (at + 1) tokens → AreAllAdded now (Pair (Token left) (Token right) ∷ []) n new → ArePairsSoFar first tokens right (drop (at + 1) tokens) n old new
    pairs_next right split more = record {
      pairs = h.pairs ++ Pair (Token left) (Token right) ∷ [];
      all = h.all ∙ ap (λ (ts : List ℕ). h.pairs ++ pairs_after (Token left) ts) split
          ∙ sym (append_assoc h.pairs (Pair (Token left) (Token right) ∷ []) (pairs_after (Token right) (drop (at + 1) tokens)));
      added = added_both old now new h.pairs (Pair (Token left) (Token right) ∷ []) n h.added more;
    }

    pub pairs_all : drop at tokens ≡ [] → AreAllAdded now (Pair (Token left) End ∷ []) n new → AreAllAdded old (pairs_after (Token first) tokens) n new
    pairs_all none more =
        let all : pairs_after (Token first) tokens ≡ h.pairs ++ Pair (Token left) End ∷ [] = h.all ∙ ap (λ (ts : List ℕ). h.pairs ++ pairs_after (Token left) ts) none in
        subst (λ (l : List Goal). AreAllAdded old l n new) (sym all) (added_both old now new h.pairs (Pair (Token left) End ∷ []) n h.added more)

pub framed_one : (first : ℕ) (rest tokens : List ℕ) (n : ℕ) (old mid new : List (Goal × ℕ)) → tokens ≡ first ∷ rest → AreAllAdded old (Pair Begin (Token first) ∷ []) n mid → AreAllAdded mid (pairs_after (Token first) rest) n new
    → AreAllAdded old (framed_pairs tokens) n new
framed_one first rest tokens n old mid new are a b =
    subst (λ (ts : List ℕ). AreAllAdded old (framed_pairs ts) n new) (sym are) (added_both old mid new (Pair Begin (Token first) ∷ []) (pairs_after (Token first) rest) n a b)
