-- The lists of the rules in which nonterminals stand.
use Rattle.std.proofs.Common.{◌≡◌, ℕ, zero, suc, ◌+◌, ◌-◌, ◌<◌, ◌≤◌, List, [], ◌∷◌, ◌++◌, Some, length, get_or, take, drop, replicate, refl, sym, ap, ◌∙◌, subst, ⊎_elim, arith, append_assoc, append-nil}
use Rattle.std.specs.Prelude.{All, slice_get}
use Rattle.std.specs.Global.{Vec}
use Rattle.std.proofs.Math.ListN.{set}
use Rattle.std.proofs.lemmas.Bool.{cases_eq, cases_lt}
use Rattle.std.proofs.lemmas.List.{length-set, get_or-set_same, get_or-set_other, at_drop_more, get_or_default, take_all, drop_all}
use Rattle.std.proofs.lemmas.List.Elements.{All-append, All-replicate, All-weaker}
use Rattle.std.proofs.lemmas.Option.{slice_get_within}
use Rattle.cs_grammar.specs.declared.symbol.Symbol.{Symbol}
use Rattle.cs_grammar.specs.declared.symbol.Symbol.TheVariants.{Token, Nonterminal}
use Rattle.cs_grammar.specs.Grammar.{Production, PlainGrammar, IsNumberOf}
use Rattle.cs_least.specs.Cost.Users.{same, occurs, stands, IsUserTable, AddsUser}
use Rattle.cs_least.proofs.OnCost.Counts.{same_yes, same_no}

-- what stands in lists
pub occurs-append : (k : ℕ) (xs ys : List ℕ) → occurs k (xs ++ ys) ≡ occurs k xs + occurs k ys
occurs-append k [] ys = omega arith
occurs-append k (x ∷ xs) ys = omega (arith, occurs-append k xs ys)

pub occurs-replicate : (k n : ℕ) → occurs k (replicate n k) ≡ n
occurs-replicate k zero = refl
occurs-replicate k (suc n) = omega (arith, occurs-replicate k n, same_yes k k refl)

pub occurs-others : (k j n : ℕ) → (k ≡ j → ⊥) → occurs k (replicate n j) ≡ 0
occurs-others k j zero ne = refl
occurs-others k j (suc n) ne = omega (arith, occurs-others k j n ne, same_no k j ne)

pub occurs-none : (k i : ℕ) (xs : List ℕ) → i ≤ k → All (λ x. x < i) xs → occurs k xs ≡ 0
occurs-none k i [] le each = refl
occurs-none k i (x ∷ xs) le each =
    let head : x < i = each 0 x (omega arith) in
    omega (arith, occurs-none k i xs le (λ j d h. each (suc j) d (omega (arith, h))), same_no k x (λ e. omega (arith, e, head, le)))

-- where the loop over a right side stands: what is left of it would make the lists those that it makes
pub record AddsRest (rule : ℕ) (right : List Symbol) (old new : List (Vec ℕ)) (i : ℕ) : Type 0 where
  pub many : length new ≡ length old
  pub rest : (k : ℕ) (d : Vec ℕ) → k < length old → (get_or new k d).items ++ replicate (stands (k + 1) (drop i right)) rule ≡ (get_or old k d).items ++ replicate (stands (k + 1) right) rule

module _ (rule : ℕ) (right : List Symbol) (old new : List (Vec ℕ)) (i : ℕ) (so_far : AddsRest rule right old new i) (d : Symbol) (within : i < length right) where
  front : (n : ℕ) (x : Symbol) → get_or right i d ≡ x → stands n (drop i right) ≡ stands n (x ∷ drop (i + 1) right)
  front n x read = at_drop_more (λ (l : List Symbol). stands n l) right i d within ∙ ap (λ y. stands n (y ∷ drop (i + 1) right)) read

  -- a token changes nothing
  pub adds_token : (t : ℕ) → get_or right i d ≡ Token t → AddsRest rule right old new (i + 1)
  adds_token t e = record {
    many = so_far.many;
    rest = λ k u lt.
        let same_count : stands (k + 1) (drop i right) ≡ stands (k + 1) (drop (i + 1) right) = front (k + 1) (Token t) e in
        ap (λ n. (get_or new k u).items ++ replicate n rule) (sym same_count) ∙ so_far.rest k u lt;
  }

  -- a nonterminal's list gets the rule
  pub adds_nonterminal : (m : ℕ) (v : Vec ℕ) (was : Vec ℕ) → get_or right i d ≡ Nonterminal m → IsNumberOf (length old) m → was ≡ get_or new (m - 1) was → v.items ≡ was.items ++ rule ∷ [] → AddsRest rule right old (set new (m - 1) v) (i + 1)
  adds_nonterminal m v was e number read_was pushed = record {
    many = length-set new (m - 1) v ∙ so_far.many;
    rest = λ k u lt. ⊎_elim (λ is. here k u is lt) (λ ne. there k u ne lt) (cases_eq k (m - 1));
  }
    where
      count_is : (k : ℕ) → stands (k + 1) (drop i right) ≡ same (k + 1) m + stands (k + 1) (drop (i + 1) right)
      count_is k = front (k + 1) (Nonterminal m) e

      there : (k : ℕ) (u : Vec ℕ) → (k ≡ m - 1 → ⊥) → k < length old → (get_or (set new (m - 1) v) k u).items ++ replicate (stands (k + 1) (drop (i + 1) right)) rule ≡ (get_or old k u).items ++ replicate (stands (k + 1) right) rule
      there k u ne lt =
          let kept = get_or-set_other new (m - 1) k v u ne in
          let no : k + 1 ≡ m → ⊥ = λ h. ne (omega (arith, h, number)) in
          let counts : stands (k + 1) (drop (i + 1) right) ≡ stands (k + 1) (drop i right) = omega (arith, count_is k, same_no (k + 1) m no) in
          ap (λ (o : Vec ℕ). o.items ++ replicate (stands (k + 1) (drop (i + 1) right)) rule) kept
          ∙ ap (λ n. (get_or new k u).items ++ replicate n rule) counts
          ∙ so_far.rest k u lt

      here : (k : ℕ) (u : Vec ℕ) → k ≡ m - 1 → k < length old → (get_or (set new (m - 1) v) k u).items ++ replicate (stands (k + 1) (drop (i + 1) right)) rule ≡ (get_or old k u).items ++ replicate (stands (k + 1) right) rule
      here k u is lt =
          let inside : m - 1 < length new = omega (arith, is, lt, so_far.many) in
          let now : get_or (set new (m - 1) v) k u ≡ v = ap (λ j. get_or (set new (m - 1) v) j u) is ∙ get_or-set_same new (m - 1) v u inside in
          let before : was ≡ get_or new k was = read_was ∙ ap (λ j. get_or new j was) (sym is) in
          let more : suc (stands (k + 1) (drop (i + 1) right)) ≡ stands (k + 1) (drop i right) = omega (arith, count_is k, same_yes (k + 1) m (omega (arith, is, number))) in
          ap (λ (o : Vec ℕ). o.items ++ replicate (stands (k + 1) (drop (i + 1) right)) rule) now
          ∙ ap (λ (l : List ℕ). l ++ replicate (stands (k + 1) (drop (i + 1) right)) rule) pushed
          ∙ append_assoc was.items (rule ∷ []) (replicate (stands (k + 1) (drop (i + 1) right)) rule)
          ∙ ap (λ n. was.items ++ replicate n rule) more
          ∙ ap (λ (o : Vec ℕ). o.items ++ replicate (stands (k + 1) (drop i right)) rule) before
          ∙ so_far.rest k was lt
          ∙ ap (λ (o : Vec ℕ). o.items ++ replicate (stands (k + 1) right) rule) (get_or_default old k was u lt)

-- the lists of the rules below index i
pub record UsersBelow (g : PlainGrammar) (n : ℕ) (users : List ℕ) (i : ℕ) : Type 0 where
  pub within : All (λ k. k < i) users
  pub each : (k : ℕ) (p : Production) → k < i → slice_get g.rules k ≡ Some p → occurs k users ≡ stands n p.right

pub record UserTableBelow (g : PlainGrammar) (users : List (Vec ℕ)) (i : ℕ) : Type 0 where
  pub many : length users ≡ g.nonterminals
  pub each : (k : ℕ) (d : Vec ℕ) → k < length users → UsersBelow g (k + 1) (get_or users k d).items i

pub users_more : (g : PlainGrammar) (old new : List (Vec ℕ)) (i : ℕ) (q : Production) → slice_get g.rules i ≡ Some q → UserTableBelow g old i → AddsUser i q.right old new → UserTableBelow g new (i + 1)
users_more g old new i q at so_far adds = record {
  many = adds.many ∙ so_far.many;
  each = λ k d lt.
      let before = so_far.each k d (omega (arith, lt, adds.many)) in
      subst (λ (l : List ℕ). UsersBelow g (k + 1) l (i + 1)) (sym (adds.each k d (omega (arith, lt, adds.many)))) (more (k + 1) (get_or old k d).items before);
}
  where
    more : (n : ℕ) (l : List ℕ) → UsersBelow g n l i → UsersBelow g n (l ++ replicate (stands n q.right) i) (i + 1)
    more n l before = record {
      within = All-append (λ k. k < i + 1) l (replicate (stands n q.right) i)
          (All-weaker (λ k. k < i) (λ k. k < i + 1) (λ k h. omega (arith, h)) l before.within)
          (All-replicate (λ k. k < i + 1) (stands n q.right) i (omega arith));
      each = λ k p below there. ⊎_elim (λ lower. earlier k p lower there) (λ above. last k p (omega (arith, below, above)) there) (cases_lt k i);
    }
      where
        added : List ℕ
        added = replicate (stands n q.right) i

        earlier : (k : ℕ) (p : Production) → k < i → slice_get g.rules k ≡ Some p → occurs k (l ++ added) ≡ stands n p.right
        earlier k p lower there =
            omega (arith, occurs-append k l added, before.each k p lower there, occurs-others k i (stands n q.right) (λ e. omega (arith, e, lower)))

        last : (k : ℕ) (p : Production) → k ≡ i → slice_get g.rules k ≡ Some p → occurs k (l ++ added) ≡ stands n p.right
        last k p e there =
            let here = ap (λ j. slice_get g.rules j) e in
            let is : q ≡ p = cc in
            omega (
              arith,
              ap (λ j. occurs j (l ++ added)) e,
              occurs-append i l added,
              occurs-none i i l (omega arith) before.within,
              occurs-replicate i (stands n q.right),
              ap (λ (o : Production). stands n o.right) is,
            )

pub users_all : (g : PlainGrammar) (users : List (Vec ℕ)) (i : ℕ) → length g.rules ≡ i → UserTableBelow g users i → IsUserTable g users
users_all g users i all so_far = record {
  many = so_far.many;
  each = λ k d lt.
      let is = so_far.each k d lt in
      record {
        within = subst (λ m. All (λ j. j < m) (get_or users k d).items) (sym all) is.within;
        each = λ j p at. is.each j p (omega (arith, all, slice_get_within g.rules j p at)) at;
      };
}

-- a list that was lent whole is what was written
pub whole_written : {A : Type 0} (old new : List A) (len : ℕ) → length new ≡ length old → len ≡ length old → take len (new ++ drop (length new) old) ≡ new
whole_written {A = A} old new len same is =
    ap (λ (l : List A). take len (new ++ l)) (drop_all (length new) old (omega (arith, same)))
    ∙ ap (λ (l : List A). take len l) (append-nil new)
    ∙ take_all len new (omega (arith, same, is))
