-- The rules of each left side, one rule after another.
use Rattle.std.proofs.Common.{◌≡◌, ◌≢◌, ℕ, zero, suc, ◌+◌, ◌-◌, ◌<◌, List, [], ◌∷◌, ◌++◌, Some, length, get_or, sym, ap, ◌∙◌, subst, ⊎_elim, arith}
use Rattle.std.specs.Prelude.{slice_get}
use Rattle.std.specs.Global.{Vec}
use Rattle.std.proofs.Math.ListN.{set, length-set}
use Rattle.std.proofs.lemmas.Bool.{cases_eq, cases_lt}
use Rattle.std.proofs.lemmas.List.{get_or-set_same, get_or-set_other}
use Rattle.std.proofs.lemmas.Option.{slice_get_within, slice_get-get_or, get_or_from_slice_get}
use Rattle.cs_grammar.specs.Grammar.{Production, PlainGrammar, IsRule, IsNumberOf}
use Rattle.cs_grammar.proofs.OneTree.{one_rule}
use Rattle.cs_least.proofs.OnWays.PlacedLists.{get_cases, get_new, get_kept}
use Rattle.cs_pairs.specs.Kinds.Lefts.{AreRulesTo, AreLeftsTo, AreLefts, HasNoLefts}

nothing : (i r : ℕ) → slice_get [] i ≡ Some r → ⊥
nothing zero r h = cc
nothing (suc i) r h = cc

rules_none : (g : PlainGrammar) (left : ℕ) → AreRulesTo g 0 left []
rules_none g left = record {
  each = λ i r at. absurd (nothing i r at);
  every = λ r p rule is low. absurd (omega (arith, low, rule.above_zero));
  ordered = λ i k r q lt at. absurd (nothing i r at);
}

pub lefts_none : (g : PlainGrammar) (many : ℕ) (lefts : List (Vec ℕ)) → many ≡ g.nonterminals → HasNoLefts many lefts → AreLeftsTo g 0 lefts
lefts_none g many lefts same none = record {
  many = none.many ∙ same;
  each = λ k row at. subst (AreRulesTo g 0 (k + 1)) (sym (none.none k row at)) (rules_none g (k + 1));
}

-- the next rule has another left side
rules_other : (g : PlainGrammar) (n left : ℕ) (p : Production) (numbers : List ℕ) → IsRule g (n + 1) p → (p.left ≡ left → ⊥) → AreRulesTo g n left numbers → AreRulesTo g (n + 1) left numbers
rules_other g n left p numbers rule other so_far = record {
  each = λ i r at. let v = so_far.each i r at in (v.0, v.1, v.2, omega (arith, v.3));
  every = λ r o is_rule is low.
      ⊎_elim
      (λ less. so_far.every r o is_rule is (omega (arith, less)))
      (λ no. let same = one_rule g r (n + 1) o p (omega (arith, low, no)) is_rule rule in absurd (other (sym (ap (λ (z : Production). z.left) same) ∙ is)))
      (cases_lt r (n + 1));
  ordered = so_far.ordered;
}

-- or this one
rules_here : (g : PlainGrammar) (n left : ℕ) (p : Production) (numbers : List ℕ) → IsRule g (n + 1) p → p.left ≡ left → AreRulesTo g n left numbers → AreRulesTo g (n + 1) left (numbers ++ (n + 1) ∷ [])
rules_here g n left p numbers rule here so_far = record {
  each = λ i r at.
      ⊎_elim
      (λ old. let v = so_far.each i r old in (v.0, v.1, v.2, omega (arith, v.3)))
      (λ new. (p, subst (λ m. IsRule g m p) new.1 rule, here, omega (arith, new.1)))
      (get_cases numbers (n + 1) r i at);
  every = λ r o is_rule is low.
      ⊎_elim
      (λ less. let v = so_far.every r o is_rule is (omega (arith, less)) in (v.0, get_kept numbers (n + 1) r v.0 v.1))
      (λ no. let e : n + 1 ≡ r = omega (arith, low, no) in (length numbers, subst (λ m. slice_get (numbers ++ (n + 1) ∷ []) (length numbers) ≡ Some m) e (get_new numbers (n + 1))))
      (cases_lt r (n + 1));
  ordered = λ i k r q lt hr hq.
      ⊎_elim
      (λ old_q. ⊎_elim
      (λ old_r. so_far.ordered i k r q lt old_r old_q)
      (λ new_r. absurd (omega (arith, slice_get_within numbers k q old_q, new_r.0, lt)))
      (get_cases numbers (n + 1) r i hr))
      (λ new_q. ⊎_elim
      (λ old_r. let v = so_far.each i r old_r in omega (arith, v.3, new_q.1))
      (λ new_r. absurd (omega (arith, new_r.0, new_q.0, lt)))
      (get_cases numbers (n + 1) r i hr))
      (get_cases numbers (n + 1) q k hq);
}

pub lefts_more : (g : PlainGrammar) (n : ℕ) (p : Production) (lefts : List (Vec ℕ)) (row row' : Vec ℕ) → IsRule g (n + 1) p → IsNumberOf g.nonterminals p.left → slice_get lefts (p.left - 1) ≡ Some row → row'.items ≡ row.items ++ (n + 1) ∷ [] → AreLeftsTo g n lefts → AreLeftsTo g (n + 1) (set lefts (p.left - 1) row')
lefts_more g n p lefts row row' rule left at pushed so_far = record {
  many = length-set lefts (p.left - 1) row' ∙ so_far.many;
  each = λ k v there.
      let within : k < length lefts = omega (arith, slice_get_within (set lefts (p.left - 1) row') k v there, length-set lefts (p.left - 1) row') in
      let read = get_or_from_slice_get (set lefts (p.left - 1) row') k v v there in
      ⊎_elim
      (λ same.
      let is : v ≡ row' = sym read ∙ ap (λ j. get_or (set lefts (p.left - 1) row') j v) same ∙ get_or-set_same lefts (p.left - 1) row' v (omega (arith, within, same)) in
      let here : p.left ≡ k + 1 = omega (arith, same, left.0) in
      let place : p.left - 1 + 1 ≡ k + 1 = omega (arith, same) in
      subst (AreRulesTo g (n + 1) (k + 1)) (sym (ap (λ (u : Vec ℕ). u.items) is ∙ pushed))
      (rules_here g n (k + 1) p row.items rule here (subst (λ m. AreRulesTo g n m row.items) place (so_far.each (p.left - 1) row at))))
      (λ other.
      let apart : k ≢ p.left - 1 = other in
      let old : slice_get lefts k ≡ Some v = slice_get-get_or lefts k v within ∙ ap Some (sym (get_or-set_other lefts (p.left - 1) k row' v apart) ∙ read) in
      rules_other g n (k + 1) p v.items rule (λ e. other (omega (arith, e))) (so_far.each k v old))
      (cases_eq k (p.left - 1));
}

-- the loop is at its end
pub lefts_all : (g : PlainGrammar) (i : ℕ) (lefts : List (Vec ℕ)) → i ≡ length g.rules → AreLeftsTo g i lefts → AreLefts g lefts
lefts_all g i lefts e all = subst (λ n. AreLeftsTo g n lefts) e all
