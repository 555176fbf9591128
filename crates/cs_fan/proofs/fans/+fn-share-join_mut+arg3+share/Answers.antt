-- Both lists hold answers to their seats' numbers, and so does the one behind the other for the joined seat.
use Rattle.std.proofs.Common.{sym, subst, rules, arith}
use Rattle.std.proofs.lemmas.Grind.{common_steps}
use Rattle.std.proofs.lemmas.List.Elements.{All-append}
use Rattle.cs_fan.specs.Answers.{AreAnswers, IsAnswer}
use Rattle.cs_fan.proofs.fans.+fn-share-join_mut+arg3+share.Goals as goal

pub returns-clause-ok : goal.returns-clause-ok
returns-clause-ok g t c =
    let answers = g.W.Work.answers c.args.all.now.work.now in
    let items = c.args.all.now.items.now in
    let a = c.in_ok-append.ensures in
    let mine : AreAnswers answers items c.in_ok-mine.mine.items = search rules in
    let theirs : AreAnswers answers items c.in_ok-theirs.theirs.items = search rules in
    record {
      end = search rules;
      once = c.join.ensures.once;
      numbers = grind (arith, common_steps);
      answers_are = subst (AreAnswers answers items) (sym a.items) (All-append (IsAnswer answers items) c.in_ok-mine.mine.items c.in_ok-theirs.theirs.items mine theirs);
    }
