-- When sets are closed under the rules of a grammar, and which goals they exclude. These are the rules by which productive,
-- reachable, empty, first, last and next symbols are computed (Aho, Lam, Sethi and Ullman 2006, "Compilers"): sets that are closed
-- under them hold at least what the trees show.
use Rattle.std.specs.Prelude.{◌≡◌, ℕ, List, ◌∷◌, ◌++◌, All}
use Rattle.cs_grammar.specs.declared.symbol.Symbol.{Symbol}
use Rattle.cs_grammar.specs.declared.symbol.Mark.TheVariants.{Begin, Token, End}
use Rattle.cs_grammar.specs.Grammar.{Production, PlainGrammar, IsRule}
use Rattle.cs_goals.specs.declared.goal.Goal.{Goal}
use Rattle.cs_goals.specs.declared.goal.Goal.TheVariants.{Rule, Context, Pair}
use Rattle.cs_closed.specs.Closed.Sets.{PlainSets, IsProductive, IsReachable, IsEmpty, IsFirst, IsLast, IsNext, IsProductiveSymbol, IsReachableSymbol, IsEmptySymbol, IsFirstOf, IsLastOf}

-- a live rule: the nonterminals of its right side are all productive
abbrev pub IsLive : PlainSets → Production → Type 0
IsLive s p = All (IsProductiveSymbol s) p.right

-- and its left side is reachable
abbrev pub IsUsed : PlainSets → Production → Type 0
IsUsed s p = IsLive s p × IsReachable s p.left

-- b is a first token at a place of these symbols with only empty nonterminals before it
pub record IsFirstAmong (s : PlainSets) (symbols : List Symbol) (b : ℕ) : Type 0 where
  pub before : List Symbol
  pub symbol : Symbol
  pub behind : List Symbol
  pub place : symbols ≡ before ++ symbol ∷ behind
  pub empties : All (IsEmptySymbol s) before
  pub is_first : IsFirstOf s symbol b

-- a is a last token at a place of these symbols with only empty nonterminals behind it
pub record IsLastAmong (s : PlainSets) (symbols : List Symbol) (a : ℕ) : Type 0 where
  pub before : List Symbol
  pub symbol : Symbol
  pub behind : List Symbol
  pub place : symbols ≡ before ++ symbol ∷ behind
  pub empties : All (IsEmptySymbol s) behind
  pub is_last : IsLastOf s symbol a

-- a is a last token at a place of these symbols, and b a first token at a later one, with only empty nonterminals between
pub record MayMeet (s : PlainSets) (symbols : List Symbol) (a b : ℕ) : Type 0 where
  pub before : List Symbol
  pub symbol : Symbol
  pub behind : List Symbol
  pub place : symbols ≡ before ++ symbol ∷ behind
  pub is_last : IsLastOf s symbol a
  pub is_first : IsFirstAmong s behind b

-- the sets are closed under this rule
pub record AreClosedUnder (s : PlainSets) (p : Production) : Type 0 where
  pub productive : IsLive s p → IsProductive s p.left
  pub empty : All (IsEmptySymbol s) p.right → IsEmpty s p.left
  pub first : IsLive s p → (b : ℕ) → IsFirstAmong s p.right b → IsFirst s p.left b
  pub last : IsLive s p → (a : ℕ) → IsLastAmong s p.right a → IsLast s p.left a
  pub reachable : IsUsed s p → All (IsReachableSymbol s) p.right
  pub next : IsUsed s p → (a b : ℕ) → MayMeet s p.right a b → IsNext s (Token a) (Token b)

-- and under all rules of the grammar, and they hold the start symbol and what stands at the ends of its framed sentences
pub record AreClosed (g : PlainGrammar) (s : PlainSets) : Type 0 where
  pub rules : All (AreClosedUnder s) g.rules
  pub start : IsReachable s g.start
  pub begin : (b : ℕ) → IsFirst s g.start b → IsNext s Begin (Token b)
  pub end : (a : ℕ) → IsLast s g.start a → IsNext s (Token a) End
  pub nothing : IsEmpty s g.start → IsNext s Begin End

-- rule r is live
abbrev pub IsLiveRule : PlainGrammar → PlainSets → ℕ → Type 0
IsLiveRule g s r = (p : Production) × IsRule g r p × IsLive s p

-- and used
abbrev pub IsUsedRule : PlainGrammar → PlainSets → ℕ → Type 0
IsUsedRule g s r = (p : Production) × IsRule g r p × IsUsed s p

-- by the sets some tree may meet the goal
abbrev pub Allows : PlainGrammar → PlainSets → Goal → Type 0
Allows g s (Rule r) = IsUsedRule g s r
Allows g s (Context p i q) = IsUsedRule g s p × IsLiveRule g s q
Allows g s (Pair a b) = IsNext s a b

-- by the sets no tree meets it
abbrev pub Excludes : PlainGrammar → PlainSets → Goal → Type 0
Excludes g s goal = Allows g s goal → ⊥
