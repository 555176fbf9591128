-- What comes next has these words, or none is due.
use Rattle.std.proofs.Common.{subst}
use Rattle.cs_check.specs.declared.checking.goals.Criterion.{Criterion}
use Rattle.cs_check.specs.Passing.DueGoals.{GivesNextOf}
use Rattle.cs_check.proofs.OnDueWords.{taken}
use Rattle.cs_check.proofs.checking.goals.DueGoals.take.Goals as goal

pub returns-then-are_words_of-clause-some : goal.returns-then-are_words_of-clause-some
returns-then-are_words_of-clause-some c =
    let x = c.in_ok-goal.goal in
    taken c.args.file.now c.args.self.now c.args.words.now c.next_of.new.self x c.are_words_of.result
    (subst (λ (n : Criterion). GivesNextOf c.args.self.now n c.next_of.new.self x) c.criterion_of.ensures c.in_ok-goal.ensures.some)
    c.are_words_of.ensures c.if-are_words_of.true
