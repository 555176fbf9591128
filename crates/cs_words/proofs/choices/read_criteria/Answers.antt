-- Each name adds its criterion; where one can't, no criteria have these names.
use Rattle.std.proofs.Common.{length, take, lit<, rules, sym, subst}
use Rattle.std.proofs.lemmas.List.{length_push}
use Rattle.std.proofs.lemmas.Iterator.Splits.{YieldsList-from_str_split}
use Rattle.std.proofs.lemmas.Iterator.Consumers.{YieldsList-turn, YieldsList-end}
use Rattle.cs_choices.specs.declared.criteria.Criteria.{Criteria}
use Rattle.cs_words.specs.Choices.{IsCriteria, Chooses, has_criterion, parts}
use Rattle.cs_words.proofs.Names.{added, stuck, none_where, all_taken}
use Rattle.cs_words.proofs.choices.read_criteria.Goals as goal

pub returns-in_err-criteria-clause-none : goal.returns-in_err-criteria-clause-none
returns-in_err-criteria-clause-none c =
    let t = YieldsList-turn (YieldsList-from_str_split 44 c.args.value.now (lit< tt) (cc) (cc) (cc)) c.loop-name.yielded _ c.loop-name.yielded_by _ _ c.in-Some.name c.in-Some.is c.next.ensures.steps in
    let none : (other : Criteria) → IsCriteria c.args.value.now other → ⊥ = λ other all. stuck has_criterion (parts c.args.value.now) (length c.loop-name.yielded) c.in-Some.name.now t.0 t.1 c.loop-name.criteria other c.loop-name.invariant.0 (search rules) all in
    none_where _ none

pub loop-name-preserved : goal.loop-name-preserved
loop-name-preserved c =
    let t = YieldsList-turn (YieldsList-from_str_split 44 c.args.value.now (lit< tt) (cc) (cc) (cc)) c.loop-name.yielded _ c.loop-name.yielded_by _ _ c.in-Some.name c.in-Some.is c.next.ensures.steps in
    let is = added has_criterion (parts c.args.value.now) (length c.loop-name.yielded) c.in-Some.name.now t.0 t.1 c.loop-name.criteria c.in_ok-criteria.criteria c.loop-name.invariant.0 (search rules) in
    (subst (λ n. Chooses (has_criterion c.in_ok-criteria.criteria) (take n (parts c.args.value.now))) (sym (length_push c.loop-name.yielded c.in-Some.name)) is, search rules, search rules)

pub returns-clause-some : goal.returns-clause-some
returns-clause-some c =
    let t = YieldsList-end (YieldsList-from_str_split 44 c.args.value.now (lit< tt) (cc) (cc) (cc)) c.loop-name.yielded _ c.loop-name.yielded_by _ _ c.in-None.is c.next.ensures.steps in
    all_taken has_criterion c.loop-name.criteria (parts c.args.value.now) (length c.loop-name.yielded) t.1 c.loop-name.invariant.0
