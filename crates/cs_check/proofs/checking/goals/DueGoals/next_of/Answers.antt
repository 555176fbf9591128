-- The next goal of the last goal's list, or the first of a later criterion's.
use Rattle.std.proofs.Common.{◌≡◌, ◌∷◌, [], List, Option, None, Some, true, refl, sym, ap, ◌∙◌, subst}
use Rattle.std.specs.Prelude.{IfNone, IfSome}
use Rattle.cs_grammar.specs.Grammar.{PlainGrammar}
use Rattle.cs_goals.specs.declared.goal.Goal.{Goal}
use Rattle.cs_goals.specs.Goals.{goals}
use Rattle.cs_check.specs.declared.checking.goals.Criterion.{Criterion}
use Rattle.cs_check.specs.declared.checking.goals.DueGoals.{DueGoals}
use Rattle.cs_check.specs.Passing.DueGoals.{is_last, is_later, criteria_of, GivesNextOf, GivesNoneOf, TellsFinished}
use Rattle.cs_check.proofs.OnDueGoals.{next_here, none_here, next_later, none_later}
use Rattle.cs_check.proofs.checking.goals.DueGoals.next_of.Goals as goal

given_here : (c : Criterion) (d new : DueGoals) (next : Option Goal) → is_last d.last c ≡ true → new.grammar.now ≡ d.grammar.now → new.last ≡ d.last → IfSome next (λ x. d.left ≡ x ∷ new.left) → IfSome next (GivesNextOf d c new)
given_here c d new None is grammar last given = tt
given_here c d new (Some x) is grammar last given = λ g above w knows n. next_here g above c w d new x knows n is given grammar last

ended_here : (c : Criterion) (d : DueGoals) (next : Option Goal) (new : List Goal) → is_last d.last c ≡ true → IfNone next ((d.left ≡ []) × (new ≡ [])) → IfNone next (GivesNoneOf d c)
ended_here c d None new is given = λ g above w knows n x next. none_here g above c w d x knows n is given.0 next
ended_here c d (Some x) new is given = tt

given_later : (c : Criterion) (d new : DueGoals) (list : List Goal) (next : Option Goal) → is_later d.last c ≡ true → TellsFinished d true → list ≡ goals d.grammar.now (criteria_of c) → new.grammar.now ≡ d.grammar.now → new.last ≡ Some c → IfSome next (λ x. list ≡ x ∷ new.left) → IfSome next (GivesNextOf d c new)
given_later c d new list None is told of grammar last given = tt
given_later c d new list (Some x) is told of grammar last given = λ g above w knows n.
    next_later g above c w d new x knows n is ((told g above knows).0 refl)
    (ap (λ (h : PlainGrammar). goals h (criteria_of c)) (sym knows.grammar) ∙ sym of ∙ given) grammar last

ended_later : (c : Criterion) (d : DueGoals) (list : List Goal) (next : Option Goal) (new : List Goal) → is_later d.last c ≡ true → list ≡ goals d.grammar.now (criteria_of c) → IfNone next ((list ≡ []) × (new ≡ [])) → IfNone next (GivesNoneOf d c)
ended_later c d list None new is of given = λ g above w knows n x next.
    none_later g above c w d x knows n is (ap (λ (h : PlainGrammar). goals h (criteria_of c)) (sym knows.grammar) ∙ sym of ∙ given.0) next
ended_later c d list (Some x) new is of given = tt

pub returns-then-is_last-clause-some : goal.returns-then-is_last-clause-some
returns-then-is_last-clause-some c =
    given_here c.args.criterion c.args.self.now (record { grammar = c.args.self.now.grammar; last = c.args.self.now.last; left = c.next.new.self }) c.next.result (sym c.is_last.ensures ∙ c.if-is_last.true) refl refl c.next.ensures.some

pub returns-then-is_last-clause-none : goal.returns-then-is_last-clause-none
returns-then-is_last-clause-none c = ended_here c.args.criterion c.args.self.now c.next.result c.next.new.self (sym c.is_last.ensures ∙ c.if-is_last.true) c.next.ensures.none

pub returns-clause-some : goal.returns-clause-some
returns-clause-some c =
    let d = c.args.self.now in
    let told : TellsFinished d true = subst (TellsFinished d) c.if-not-are_finished.false c.are_finished.ensures in
    let of = c.new-self.ensures ∙ ap (goals d.grammar.now) c.criteria_of.ensures in
    given_later c.args.criterion d (record { grammar = d.grammar; last = Some c.args.criterion; left = c.next-2.new.self }) c.new-self.result c.next-2.result
    (sym c.is_later.ensures ∙ c.if-not-is_later.false) told of refl refl c.next-2.ensures.some

pub returns-clause-none : goal.returns-clause-none
returns-clause-none c =
    let d = c.args.self.now in
    let of = c.new-self.ensures ∙ ap (goals d.grammar.now) c.criteria_of.ensures in
    ended_later c.args.criterion d c.new-self.result c.next-2.result c.next-2.new.self (sym c.is_later.ensures ∙ c.if-not-is_later.false) of c.next-2.ensures.none
