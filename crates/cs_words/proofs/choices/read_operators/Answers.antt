-- The value isn't `none`, and each name adds its operator; where one can't, no operators have these names.
use Rattle.std.proofs.Common.{length, take, lit<, rules, sym, subst, inr}
use Rattle.std.proofs.lemmas.List.{length_push}
use Rattle.std.proofs.lemmas.Iterator.Splits.{YieldsList-from_str_split}
use Rattle.std.proofs.lemmas.Iterator.Consumers.{YieldsList-turn, YieldsList-end}
use Rattle.cs_choices.specs.declared.operators.Operators.{Operators}
use Rattle.cs_words.specs.Choices.{IsOperators, Chooses, has_operator, parts}
use Rattle.cs_words.proofs.Names.{added, stuck, none_where, all_taken, no_operators_of}
use Rattle.cs_words.proofs.choices.read_operators.Goals as goal

pub returns-in_err-operators-clause-none : goal.returns-in_err-operators-clause-none
returns-in_err-operators-clause-none c =
    let t = YieldsList-turn (YieldsList-from_str_split 44 c.args.value.now (lit< tt) (cc) (cc) (cc)) c.loop-name.yielded _ c.loop-name.yielded_by _ _ c.in-Some.name c.in-Some.is c.next.ensures.steps in
    let none : (other : Operators) → IsOperators c.args.value.now other → ⊥ = λ other all. no_operators_of c.args.value.now (search rules) (λ one is. stuck has_operator (parts c.args.value.now) (length c.loop-name.yielded) c.in-Some.name.now t.0 t.1 c.loop-name.operators one c.loop-name.invariant.0 (search rules) is) other all in
    none_where _ none

pub loop-name-preserved : goal.loop-name-preserved
loop-name-preserved c =
    let t = YieldsList-turn (YieldsList-from_str_split 44 c.args.value.now (lit< tt) (cc) (cc) (cc)) c.loop-name.yielded _ c.loop-name.yielded_by _ _ c.in-Some.name c.in-Some.is c.next.ensures.steps in
    let is = added has_operator (parts c.args.value.now) (length c.loop-name.yielded) c.in-Some.name.now t.0 t.1 c.loop-name.operators c.in_ok-operators.operators c.loop-name.invariant.0 (search rules) in
    (subst (λ n. Chooses (has_operator c.in_ok-operators.operators) (take n (parts c.args.value.now))) (sym (length_push c.loop-name.yielded c.in-Some.name)) is, search rules, search rules)

pub returns-clause-some : goal.returns-clause-some
returns-clause-some c =
    let t = YieldsList-end (YieldsList-from_str_split 44 c.args.value.now (lit< tt) (cc) (cc) (cc)) c.loop-name.yielded _ c.loop-name.yielded_by _ _ c.in-None.is c.next.ensures.steps in
    inr (all_taken has_operator c.loop-name.operators (parts c.args.value.now) (length c.loop-name.yielded) t.1 c.loop-name.invariant.0)
