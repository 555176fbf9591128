-- What is looked at of a rule, token by token. Working words of proofs.
use Rattle.std.specs.Prelude.{◌↔◌, ◌⊎◌, ℕ, Bool, IsTrue, List, All}
use Rattle.cs_grammar.specs.declared.symbol.Symbol.{Symbol}
use Rattle.cs_grammar.specs.declared.symbol.Mark.TheVariants.{Token}
use Rattle.cs_grammar.specs.Grammar.{Production, PlainGrammar}
use Rattle.cs_closed.specs.Closed.Sets.{PlainSets, IsIn, IsProductive, IsReachable, IsEmpty, IsFirst, IsLast, IsFirstOf, IsLastOf, IsNext, IsEmptySymbol, IsReachableSymbol}
use Rattle.cs_closed.specs.Closed.Closed.{IsLive, IsUsed, IsFirstAmong, IsLastAmong, MayMeet}

-- the nonterminals of the rule
pub record KeepsNonterminals (s : PlainSets) (p : Production) : Type 0 where
  pub productive : IsLive s p → IsProductive s p.left
  pub empty : All (IsEmptySymbol s) p.right → IsEmpty s p.left
  pub reachable : IsUsed s p → All (IsReachableSymbol s) p.right

-- b may stand first from the symbol on, where it may behind it or not
abbrev pub MayBegin : PlainSets → Symbol → ℕ → Bool → Type 0
MayBegin s x b behind = IsFirstOf s x b ⊎ (IsEmptySymbol s x × IsTrue behind)

-- each last token before a place at which b may stand first has b in its line
abbrev pub KeepsMeetings : PlainSets → ℕ → List Symbol → Type 0
KeepsMeetings s b symbols = (a : ℕ) → MayMeet s symbols a b → IsNext s (Token a) (Token b)

-- a token at the edges of the rule, and as the second of two
pub record KeepsToken (s : PlainSets) (t : ℕ) (p : Production) : Type 0 where
  pub first : IsLive s p → IsFirstAmong s p.right t → IsFirst s p.left t
  pub last : IsLive s p → IsLastAmong s p.right t → IsLast s p.left t
  pub next : IsUsed s p → KeepsMeetings s t p.right

-- the nonterminal has a last token that hasn't b in its line
abbrev pub IsParted : PlainSets → ℕ → ℕ → Type 0
IsParted s b n = (a : ℕ) × IsLast s n a × (IsNext s (Token a) (Token b) → ⊥)

-- the set has those nonterminals
abbrev pub AreParted : PlainSets → ℕ → List Bool → Type 0
AreParted s b set = (n : ℕ) → IsIn set n ↔ IsParted s b n

abbrev pub IsPartedSymbol : PlainSets → ℕ → Symbol → Type 0
IsPartedSymbol s b x = (a : ℕ) × IsLastOf s x a × (IsNext s (Token a) (Token b) → ⊥)

-- the third set has what is in the first or the second
abbrev pub AreJoined : List Bool → List Bool → List Bool → Type 0
AreJoined old other new = (n : ℕ) → IsIn new n ↔ (IsIn old n ⊎ IsIn other n)

-- so is it kept in the lines at the ends
pub record KeepsEnds (s : PlainSets) (start t : ℕ) : Type 0 where
  pub begin : IsFirst s start t → IsIn s.begin t
  pub end : IsLast s start t → IsIn s.end t

-- in all rules and at the ends
abbrev pub KeepsTokenIn : PlainSets → List Production → ℕ → ℕ → Type 0
KeepsTokenIn s rules start t = All (KeepsToken s t) rules × KeepsEnds s start t

-- the nonterminals of all rules, and what has no token
pub record KeepsNonterminalsIn (s : PlainSets) (g : PlainGrammar) : Type 0 where
  pub rules : All (KeepsNonterminals s) g.rules
  pub start : IsReachable s g.start
  pub nothing : IsEmpty s g.start → IsTrue s.bare
