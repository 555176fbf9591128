-- A token changes no list; the list of a nonterminal gets the rule once more.
use Rattle.std.proofs.Common.{ℕ, ◌+◌, List, [], ◌∷◌, ◌++◌, length, sym, ap, ◌∙◌, subst}
use Rattle.std.specs.Global.{Vec}
use Rattle.cs_grammar.specs.Grammar.{IsSymbol}
use Rattle.cs_least.proofs.OnCost.UserLists.{AddsRest, adds_token, adds_nonterminal}
use Rattle.cs_least.proofs.cost.users.add_user.Goals as goal
use Rattle.cs_least.proofs.cost.users.add_user.Goals.{in-Nonterminal+in_ok-push, in_default}

pub loop-symbol-preserved : goal.loop-symbol-preserved
loop-symbol-preserved c =
    let rule = c.args.rule in
    let right = c.args.right.now in
    let old = c.args.users.now in
    let i = c.loop-symbol.symbol-index in
    elim c.match-symbol.branch [
      | in-Nonterminal+in_ok-push w ↦
          subst (λ (l : List (Vec ℕ)). AddsRest rule right old l (i + 1)) (sym (rw w.place_of.ensures at w.users-is))
          (adds_nonterminal rule right old _ i c.loop-symbol.invariant _ c.loop-symbol-test.true w.in-Nonterminal.number _ _ w.in-Nonterminal.is
          (subst (IsSymbol 512 (length old)) w.in-Nonterminal.is (c.requires i _ c.loop-symbol-test.true)) (rw w.place_of.ensures at w.index-users-place_of.is)
          (w.in_ok-push.ensures.items ∙ ap (λ (v : Vec ℕ). v.items ++ rule ∷ []) (sym w.index-users-place_of.is)))
      | in_default w ↦
          subst (λ (l : List (Vec ℕ)). AddsRest rule right old l (i + 1)) (sym w.users-is)
          (adds_token rule right old _ i c.loop-symbol.invariant _ c.loop-symbol-test.true w.in_default.field-0 w.in_default.is)
    ]
