-- Sets are closed where each token is kept.
use Rattle.std.proofs.Common.{ℕ, List, [], ◌∷◌, ◌++◌, subst, arith}
use Rattle.std.specs.Prelude.{All, slice_index_or}
use Rattle.std.proofs.lemmas.List.Elements.{All-nil, All-cons, All-head, All-tail, All-weaker}
use Rattle.cs_grammar.specs.declared.symbol.Symbol.{Symbol}
use Rattle.cs_grammar.specs.declared.symbol.Symbol.TheVariants.{Token, Nonterminal}
use Rattle.cs_grammar.specs.Grammar.{Production, PlainGrammar, IsGrammar, IsRuleOf, IsSymbol, IsNumberOf}
use Rattle.cs_closed.specs.Closed.Sets.{PlainSets, IsFirst, IsLast, IsFirstOf, IsLastOf, AreSetsOf}
use Rattle.cs_closed.specs.Closed.Closed.{IsFirstAmong, IsLastAmong, MayMeet, AreClosedUnder, AreClosed}
use Rattle.cs_closed.specs.Closed.Keeping.{KeepsNonterminals, KeepsNonterminalsIn, KeepsToken, KeepsTokenIn}
use Rattle.cs_closed.proofs.OnClosed.Members.{within_table}

pub middle : (P : Symbol → Type 0) (before : List Symbol) (x : Symbol) (behind : List Symbol) → All P (before ++ x ∷ behind) → P x
middle P [] x behind h = All-head P x behind h
middle P (y ∷ before) x behind h = middle P before x behind (All-tail P y (before ++ x ∷ behind) h)

pub rest : (P : Symbol → Type 0) (before : List Symbol) (x : Symbol) (behind : List Symbol) → All P (before ++ x ∷ behind) → All P behind
rest P [] x behind h = All-tail P x behind h
rest P (y ∷ before) x behind h = rest P before x behind (All-tail P y (before ++ x ∷ behind) h)

pub front : (P : Symbol → Type 0) (before behind : List Symbol) → All P (before ++ behind) → All P before
front P [] behind h = All-nil P
front P (y ∷ before) behind h = All-cons P y before (All-head P y (before ++ behind) h) (front P before behind (All-tail P y (before ++ behind) h))

module _ (g : PlainGrammar) (s : PlainSets) (sets : AreSetsOf g s) where
  first_number : (n b : ℕ) → IsFirst s n b → IsNumberOf g.tokens b
  first_number n b h = let bounds = within_table s.first n b h in (bounds.0, (let many = sets.first in omega arith))

  last_number : (n a : ℕ) → IsLast s n a → IsNumberOf g.tokens a
  last_number n a h = let bounds = within_table s.last n a h in (bounds.0, (let many = sets.last in omega arith))

  first_of_number : (x : Symbol) (b : ℕ) → IsSymbol g.tokens g.nonterminals x → IsFirstOf s x b → IsNumberOf g.tokens b
  first_of_number (Token t) b is h = subst (IsNumberOf g.tokens) h is
  first_of_number (Nonterminal n) b is h = first_number n b h

  last_of_number : (x : Symbol) (a : ℕ) → IsSymbol g.tokens g.nonterminals x → IsLastOf s x a → IsNumberOf g.tokens a
  last_of_number (Token t) a is h = subst (IsNumberOf g.tokens) h is
  last_of_number (Nonterminal n) a is h = last_number n a h

  first_among_number : (xs : List Symbol) (b : ℕ) → All (IsSymbol g.tokens g.nonterminals) xs → IsFirstAmong s xs b → IsNumberOf g.tokens b
  first_among_number xs b are h =
      first_of_number h.symbol b
      (middle (IsSymbol g.tokens g.nonterminals) h.before h.symbol h.behind (subst (λ (l : List Symbol). All (IsSymbol g.tokens g.nonterminals) l) h.place are))
      h.is_first

  last_among_number : (xs : List Symbol) (a : ℕ) → All (IsSymbol g.tokens g.nonterminals) xs → IsLastAmong s xs a → IsNumberOf g.tokens a
  last_among_number xs a are h =
      last_of_number h.symbol a
      (middle (IsSymbol g.tokens g.nonterminals) h.before h.symbol h.behind (subst (λ (l : List Symbol). All (IsSymbol g.tokens g.nonterminals) l) h.place are))
      h.is_last

  second_number : (xs : List Symbol) (a b : ℕ) → All (IsSymbol g.tokens g.nonterminals) xs → MayMeet s xs a b → IsNumberOf g.tokens b
  second_number xs a b are h =
      first_among_number h.behind b
      (rest (IsSymbol g.tokens g.nonterminals) h.before h.symbol h.behind (subst (λ (l : List Symbol). All (IsSymbol g.tokens g.nonterminals) l) h.place are))
      h.is_first

  module _ (p : Production) (is_rule : IsRuleOf g.tokens g.nonterminals p) where
    under : KeepsNonterminals s p → ((t : ℕ) → IsNumberOf g.tokens t → KeepsToken s t p) → AreClosedUnder s p
    under kept keeps = record {
      productive = kept.productive;
      empty = kept.empty;
      first = λ live b h. (keeps b (first_among_number p.right b is_rule.right h)).first live h;
      last = λ live a h. (keeps a (last_among_number p.right a is_rule.right h)).last live h;
      reachable = kept.reachable;
      next = λ used a b h. (keeps b (second_number p.right a b is_rule.right h)).next used a h;
    }

  pub closed_from : IsGrammar g → KeepsNonterminalsIn s g → ((t : ℕ) → IsNumberOf g.tokens t → KeepsTokenIn s g.rules g.start t) → AreClosed g s
  closed_from well kept keeps = record {
    rules = λ k d low. under (slice_index_or g.rules k d) (well.rules k d low) (kept.rules k d low) (λ t is. (keeps t is).0 k d low);
    start = kept.start;
    begin = λ b h. (keeps b (first_number g.start b h)).1.begin h;
    end = λ a h. (keeps a (last_number g.start a h)).1.end h;
    nothing = kept.nothing;
  }

module _ (g : PlainGrammar) (s : PlainSets) (closed : AreClosed g s) where
  nonterminals_of : (p : Production) → AreClosedUnder s p → KeepsNonterminals s p
  nonterminals_of p c = record { productive = c.productive; empty = c.empty; reachable = c.reachable }

  token_of : (t : ℕ) (p : Production) → AreClosedUnder s p → KeepsToken s t p
  token_of t p c = record {
    first = λ live h. c.first live t h;
    last = λ live h. c.last live t h;
    next = λ used a h. c.next used a t h;
  }

  pub keeps_nonterminals : KeepsNonterminalsIn s g
  keeps_nonterminals = record {
    rules = All-weaker (AreClosedUnder s) (KeepsNonterminals s) nonterminals_of g.rules closed.rules;
    start = closed.start;
    nothing = closed.nothing;
  }

  pub keeps_token : (t : ℕ) → KeepsTokenIn s g.rules g.start t
  keeps_token t = (All-weaker (AreClosedUnder s) (KeepsToken s t) (token_of t) g.rules closed.rules, record { begin = closed.begin t; end = closed.end t })
