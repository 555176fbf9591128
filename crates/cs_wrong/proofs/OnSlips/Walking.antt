-- Rule numbers that are put in for leftmost nonterminals, one after another.
use Rattle.std.proofs.Common.{◌≡◌, ℕ, ◌+◌, ◌<◌, List, [], ◌∷◌, ◌++◌, map, take, drop, length, get_or, reverse, Option, Some, None, refl, sym, ap, ◌∙◌, subst}
use Rattle.std.proofs.lemmas.List.{take_more}
use Rattle.std.specs.Global.{Vec}
use Rattle.cs_grammar.proofs.Leading.{derives_more}
use Rattle.cs_grammar.proofs.Measures.{IsNumberOf-rule}
use Rattle.cs_grammar.proofs.OneAnswer.{midway, no_form, one_form, parted_at, same_form}
use Rattle.cs_grammar.proofs.OneTree.{one_rule}
use Rattle.cs_grammar.specs.Grammar.{IsNumberOf, IsRule, PlainGrammar, Production}
use Rattle.cs_grammar.specs.Leftmost.{Derives, form, from_start}
use Rattle.cs_grammar.specs.Walk.{IsFront, in_hand}
use Rattle.cs_grammar.specs.declared.symbol.Symbol.{Symbol}
use Rattle.cs_grammar.specs.declared.symbol.Symbol.TheVariants.{Token, Nonterminal}
use Rattle.cs_wrong.proofs.OnSlips.Filling.{same_tokens}
use Rattle.cs_wrong.specs.Slips.Found.{Fills}
use Rattle.cs_wrong.specs.Slips.Walk.{CanRead}

-- the symbols have a leftmost nonterminal, and the rule is of it
pub record Stands (g : PlainGrammar) (r : ℕ) (now : List Symbol) : Type 0 where
  pub rule : Production
  pub done : List ℕ
  pub rest : List Symbol
  pub number : IsRule g r rule
  pub shape : now ≡ form done rule.left rest

-- what was moved to the front, and what is left
pub record Moved (done : List ℕ) (rest : List Symbol) (d : Vec ℕ) (p : Vec Symbol) : Type 0 where
  pub done_is : d.items ≡ done
  pub rest_is : reverse p.items ≡ rest

pub moved : (now : List Symbol) (done : List ℕ) (left : ℕ) (rest : List Symbol) (d : Vec ℕ) (p : Vec Symbol) (next : Option ℕ) → now ≡ form done left rest → IsFront now d p next → Moved done rest d p
moved now done left rest d p None shape front = absurd (no_form done d.items left rest (sym shape ∙ front))
moved now done left rest d p (Some n) shape front =
    let same = same_form done d.items left n rest (reverse p.items) (sym shape ∙ front) in
    record { done_is = sym same.done; rest_is = sym same.rest }

-- and where no nonterminal is left
pub all_moved : (now : List Symbol) (tokens : List ℕ) (d : Vec ℕ) (p : Vec Symbol) (next : Option ℕ) → now ≡ map Token tokens → IsFront now d p next → map Token d.items ≡ map Token tokens
all_moved now tokens d p None shape front = sym front ∙ shape
all_moved now tokens d p (Some n) shape front = absurd (no_form d.items tokens n (reverse p.items) (sym front ∙ shape))

module _ (g : PlainGrammar) (rules : List ℕ) (start : List Symbol) (can : CanRead g rules start) (i : ℕ) (now : List Symbol) (far : Derives g start (take i rules) now) (within : i < length rules) where
  pub stands : Stands g (get_or rules i 0) now
  stands =
      let parted : take i rules ++ get_or rules i 0 ∷ drop (i + 1) rules ≡ rules = parted_at rules i 0 within in
      let m = midway g (take i rules) (get_or rules i 0 ∷ drop (i + 1) rules) start can.0 (subst (λ (l : List ℕ). Derives g start l can.0) (sym parted) can.1) in
      let same : m.mid ≡ now = one_form g (take i rules) start start m.mid now refl m.before far in
      let a = m.after in
      record { rule = a.0; done = a.1; rest = a.2; number = a.3; shape = sym same ∙ a.4 }

  -- one rule more was put in
  pub stepped : (p : Production) (d : Vec ℕ) (pending top : Vec Symbol) (next : Option ℕ) → IsFront now d pending next → IsRule g (get_or rules i 0) p
      → reverse top.items ≡ p.right ++ reverse pending.items → Derives g start (take (i + 1) rules) (in_hand d top)
  stepped p d pending top next front rule put =
      let s = stands in
      let m = moved now s.done s.rule.left s.rest d pending next s.shape front in
      let here : now ≡ form d.items s.rule.left (reverse pending.items) =
      s.shape ∙ ap (λ (l : List ℕ). form l s.rule.left s.rest) (sym m.done_is) ∙ ap (λ (l : List Symbol). form d.items s.rule.left l) (sym m.rest_is) in
      let one : s.rule ≡ p = one_rule g (get_or rules i 0) (get_or rules i 0) s.rule p refl s.number rule in
      let there : now ≡ form d.items p.left (reverse pending.items) = here ∙ ap (λ (q : Production). form d.items q.left (reverse pending.items)) one in
      let more = derives_more g (take i rules) start d.items (reverse pending.items) (get_or rules i 0) p rule (subst (λ (xs : List Symbol). Derives g start (take i rules) xs) there far) in
      let longer = take_more rules i 0 within in
      subst (λ (l : List ℕ). Derives g start l (in_hand d top)) (sym longer)
      (subst (λ (xs : List Symbol). Derives g start (take i rules ++ get_or rules i 0 ∷ []) (map Token d.items ++ xs)) (sym put) more)

  -- the rule is one of the grammar
  pub is_rule : IsNumberOf (length g.rules) (get_or rules i 0)
  is_rule = IsNumberOf-rule g (get_or rules i 0) stands.rule stands.number

-- ---- a hole that symbols are put into

-- the start symbol alone
pub begun : (g : PlainGrammar) (done : Vec ℕ) (pending : Vec Symbol) (items : List Symbol) (n : ℕ) → done.items ≡ [] → items ≡ [] → pending.items ≡ items ++ Nonterminal n ∷ [] → n ≡ g.start
    → in_hand done pending ≡ from_start g
begun g done pending items n none empty put start =
    ap (λ (l : List ℕ). map Token l ++ reverse pending.items) none
    ∙ ap (λ (l : List Symbol). reverse l) (put ∙ ap (λ (l : List Symbol). l ++ Nonterminal n ∷ []) empty)
    ∙ ap (λ (k : ℕ). Nonterminal k ∷ []) start

module _ (g : PlainGrammar) (before : List ℕ) (symbols : List Symbol) (behind tokens : List ℕ) (h : Fills g before symbols behind tokens) (start : List Symbol) (start_is : start ≡ from_start g) where
  pub to_hole : CanRead g before start
  to_hole = (form h.done h.left h.rest, subst (λ (l : List Symbol). Derives g l before (form h.done h.left h.rest)) (sym start_is) h.to_hole)

  module _ (mid : List Symbol) (led : Derives g start before mid) (d : Vec ℕ) (pending top : Vec Symbol) (next : Option ℕ) (front : IsFront mid d pending next) (put : reverse top.items ≡ symbols ++ reverse pending.items) where
    inside_is : in_hand d top ≡ map Token h.done ++ (symbols ++ h.rest)
    inside_is =
        let same = one_form g before start (from_start g) mid (form h.done h.left h.rest) start_is led h.to_hole in
        let m = moved mid h.done h.left h.rest d pending next same front in
        ap (λ (l : List ℕ). map Token l ++ reverse top.items) m.done_is ∙ ap (λ (l : List Symbol). map Token h.done ++ l) (put ∙ ap (λ (l : List Symbol). symbols ++ l) m.rest_is)

    pub to_end : CanRead g behind (in_hand d top)
    to_end = (map Token tokens, subst (λ (l : List Symbol). Derives g l behind (map Token tokens)) (sym inside_is) h.to_end)

    pub ended : (ends : List Symbol) → Derives g (in_hand d top) behind ends → (last : Vec ℕ) (left : Vec Symbol) (none : Option ℕ) → IsFront ends last left none → Fills g before symbols behind last.items
    ended ends led_on last left none front_on =
        let all = one_form g behind (in_hand d top) (map Token h.done ++ (symbols ++ h.rest)) ends (map Token tokens) inside_is led_on h.to_end in
        let same = same_tokens last.items tokens (all_moved ends tokens last left none all front_on) in
        subst (λ (l : List ℕ). Fills g before symbols behind l) (sym same) h
