-- Sets with the same members are closed alike, and exclude the same goals.
use Rattle.std.proofs.Common.{ℕ, List}
use Rattle.std.specs.Prelude.{All}
use Rattle.std.proofs.lemmas.List.Elements.{All-weaker}
use Rattle.cs_grammar.specs.declared.symbol.Symbol.{Symbol}
use Rattle.cs_grammar.specs.declared.symbol.Symbol.TheVariants.{Token, Nonterminal}
use Rattle.cs_grammar.specs.declared.symbol.Mark.{Mark}
use Rattle.cs_grammar.specs.declared.symbol.Mark.TheVariants as mark
use Rattle.cs_grammar.specs.Grammar.{Production, PlainGrammar}
use Rattle.cs_goals.specs.declared.goal.Goal.{Goal}
use Rattle.cs_goals.specs.declared.goal.Goal.TheVariants.{Rule, Context, Pair}
use Rattle.cs_closed.specs.Closed.Sets.{PlainSets, IsProductive, IsReachable, IsEmpty, IsFirst, IsLast, IsNext, IsProductiveSymbol, IsReachableSymbol, IsEmptySymbol, IsFirstOf, IsLastOf}
use Rattle.cs_closed.specs.Closed.Closed.{IsLive, IsUsed, IsFirstAmong, IsLastAmong, MayMeet, AreClosedUnder, AreClosed, Allows, Excludes}

-- the members of the first sets are members of the second
pub record AreWithin (s t : PlainSets) : Type 0 where
  pub productive : (n : ℕ) → IsProductive s n → IsProductive t n
  pub reachable : (n : ℕ) → IsReachable s n → IsReachable t n
  pub empty : (n : ℕ) → IsEmpty s n → IsEmpty t n
  pub first : (n b : ℕ) → IsFirst s n b → IsFirst t n b
  pub last : (n a : ℕ) → IsLast s n a → IsLast t n a
  pub next : (a b : Mark) → IsNext s a b → IsNext t a b

module _ (s t : PlainSets) (within : AreWithin s t) where
  productive_too : (x : Symbol) → IsProductiveSymbol s x → IsProductiveSymbol t x
  productive_too (Token k) h = tt
  productive_too (Nonterminal n) h = within.productive n h

  reachable_too : (x : Symbol) → IsReachableSymbol s x → IsReachableSymbol t x
  reachable_too (Token k) h = tt
  reachable_too (Nonterminal n) h = within.reachable n h

  empty_too : (x : Symbol) → IsEmptySymbol s x → IsEmptySymbol t x
  empty_too (Token k) h = h
  empty_too (Nonterminal n) h = within.empty n h

  first_too : (x : Symbol) (b : ℕ) → IsFirstOf s x b → IsFirstOf t x b
  first_too (Token k) b h = h
  first_too (Nonterminal n) b h = within.first n b h

  last_too : (x : Symbol) (a : ℕ) → IsLastOf s x a → IsLastOf t x a
  last_too (Token k) a h = h
  last_too (Nonterminal n) a h = within.last n a h

  empties_too : (xs : List Symbol) → All (IsEmptySymbol s) xs → All (IsEmptySymbol t) xs
  empties_too xs h = All-weaker (IsEmptySymbol s) (IsEmptySymbol t) empty_too xs h

  reachables_too : (xs : List Symbol) → All (IsReachableSymbol s) xs → All (IsReachableSymbol t) xs
  reachables_too xs h = All-weaker (IsReachableSymbol s) (IsReachableSymbol t) reachable_too xs h

  live_too : (p : Production) → IsLive s p → IsLive t p
  live_too p h = All-weaker (IsProductiveSymbol s) (IsProductiveSymbol t) productive_too p.right h

  used_too : (p : Production) → IsUsed s p → IsUsed t p
  used_too p h = (live_too p h.0, within.reachable p.left h.1)

  first_among_too : (xs : List Symbol) (b : ℕ) → IsFirstAmong s xs b → IsFirstAmong t xs b
  first_among_too xs b h = record {
    before = h.before;
    symbol = h.symbol;
    behind = h.behind;
    place = h.place;
    empties = empties_too h.before h.empties;
    is_first = first_too h.symbol b h.is_first;
  }

  last_among_too : (xs : List Symbol) (a : ℕ) → IsLastAmong s xs a → IsLastAmong t xs a
  last_among_too xs a h = record {
    before = h.before;
    symbol = h.symbol;
    behind = h.behind;
    place = h.place;
    empties = empties_too h.behind h.empties;
    is_last = last_too h.symbol a h.is_last;
  }

  meet_too : (xs : List Symbol) (a b : ℕ) → MayMeet s xs a b → MayMeet t xs a b
  meet_too xs a b h = record {
    before = h.before;
    symbol = h.symbol;
    behind = h.behind;
    place = h.place;
    is_last = last_too h.symbol a h.is_last;
    is_first = first_among_too h.behind b h.is_first;
  }

  pub allows_too : (g : PlainGrammar) (goal : Goal) → Allows g s goal → Allows g t goal
  allows_too g (Rule r) h = (h.0, h.1, used_too h.0 h.2)
  allows_too g (Context p i q) h =
      ((h.0.0, h.0.1, used_too h.0.0 h.0.2), (h.1.0, h.1.1, live_too h.1.0 h.1.2))
  allows_too g (Pair a b) h = within.next a b h

module _ (s t : PlainSets) (forth : AreWithin s t) (back : AreWithin t s) where
  under_too : (p : Production) → AreClosedUnder s p → AreClosedUnder t p
  under_too p h = record {
    productive = λ live. forth.productive p.left (h.productive (live_too t s back p live));
    empty = λ none. forth.empty p.left (h.empty (empties_too t s back p.right none));
    first = λ live b is.
        forth.first p.left b (h.first (live_too t s back p live) b (first_among_too t s back p.right b is));
    last = λ live a is.
        forth.last p.left a (h.last (live_too t s back p live) a (last_among_too t s back p.right a is));
    reachable = λ used. reachables_too s t forth p.right (h.reachable (used_too t s back p used));
    next = λ used a b meet.
        forth.next (mark.Token a) (mark.Token b) (h.next (used_too t s back p used) a b (meet_too t s back p.right a b meet));
  }

  pub closed_too : (g : PlainGrammar) → AreClosed g s → AreClosed g t
  closed_too g h = record {
    rules = All-weaker (AreClosedUnder s) (AreClosedUnder t) under_too g.rules h.rules;
    start = forth.reachable g.start h.start;
    begin = λ b is. forth.next mark.Begin (mark.Token b) (h.begin b (back.first g.start b is));
    end = λ a is. forth.next (mark.Token a) mark.End (h.end a (back.last g.start a is));
    nothing = λ none. forth.next mark.Begin mark.End (h.nothing (back.empty g.start none));
  }

  pub excludes_too : (g : PlainGrammar) (goal : Goal) → Excludes g s goal → Excludes g t goal
  excludes_too g goal h allowed = h (allows_too t s back g goal allowed)
