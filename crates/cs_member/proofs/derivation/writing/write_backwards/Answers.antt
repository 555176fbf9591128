-- The last task gives way to tasks that, with the rule that is written, write the same and weigh less.
use Rattle.std.proofs.Common.{◌≡◌, ◌++◌, [], ◌∷◌, ℕ, List, Some, arith, sym, subst, reverse}
use Rattle.std.proofs.lemmas.List.Elements.{All-append, All-cons, All-nil, All-pop, All-same}
use Rattle.cs_member.specs.Derivation.Writing.{IsTask, Writes}
use Rattle.cs_member.proofs.OnDerivation.Spelling.{first_task, no_task, nothing_popped, task_taken}
use Rattle.cs_member.proofs.OnDerivation.Weighing.{taken_less}
use Rattle.cs_member.proofs.derivation.writing.write_backwards.Goals as goal

pub loop-task-init : goal.loop-task-init
loop-task-init c =
    let q = c.args.question.now in
    let g = q.grammar.now in
    let chart = c.args.chart.now in
    let task = c.args.task in
    let one : c.in_ok-tasks.tasks.items ≡ task ∷ [] = c.in_ok-tasks.ensures.items in
    record {
      there = All-same (IsTask g q.tables.now chart) c.in_ok-tasks.tasks.items (task ∷ []) one (All-cons (IsTask g q.tables.now chart) task [] c.requires.task (All-nil (IsTask g q.tables.now chart)));
      writes = first_task g q.tokens.now chart task c.in_ok-tasks.tasks.items c.new-backwards.result.items one c.new-backwards.ensures.items;
    }

pub returns : goal.returns
returns c =
    let q = c.args.question.now in
    no_task q.grammar.now q.tokens.now c.args.chart.now c.args.task c.loop-task.tasks.items c.loop-task.backwards.items (nothing_popped c.loop-task.tasks.items (let ok = c.loop-task.tasks.ok.0 in let none = c.in_default.ensures.cases.0 in omega arith)) c.loop-task.invariant.writes

pub take_on-requires-clause-task : goal.take_on-requires-clause-task
take_on-requires-clause-task c =
    let q = c.args.question.now in
    (All-pop (IsTask q.grammar.now q.tables.now c.args.chart.now) c.loop-task.tasks.items c.pop.new.self.items (Some c.in-Some.task) c.in-Some.ensures.items c.loop-task.invariant.there).1

pub loop-task-preserved : goal.loop-task-preserved
loop-task-preserved c =
    let q = c.args.question.now in
    let g = q.grammar.now in
    let chart = c.args.chart.now in
    let rest = c.pop.new.self.items in
    let last = c.in-Some.task in
    let taken = c.in_ok-written.ensures in
    let both = All-pop (IsTask g q.tables.now chart) c.loop-task.tasks.items rest (Some last) c.in-Some.ensures.items c.loop-task.invariant.there in
    record {
      there = All-same (IsTask g q.tables.now chart) c.take_on.new.tasks.items (rest ++ taken.more) taken.grown (All-append (IsTask g q.tables.now chart) rest taken.more both.0 taken.tasks);
      writes = λ rules w.
          subst (λ (l : List ℕ). Writes g q.tokens.now chart c.args.task (rules ++ reverse l)) (sym c.in_ok-push_written.ensures)
          (task_taken g q.tokens.now chart q.tables.now c.args.task last c.in_ok-written.written c.loop-task.tasks.items rest c.take_on.new.tasks.items c.loop-task.backwards.items c.in-Some.ensures.items taken c.loop-task.invariant.writes rules w);
    }

pub loop-task-smaller : goal.loop-task-smaller
loop-task-smaller c =
    let q = c.args.question.now in
    taken_less q.grammar.now q.tokens.now q.tables.now c.args.chart.now c.in-Some.task c.in_ok-written.written c.loop-task.tasks.items c.pop.new.self.items c.take_on.new.tasks.items c.in-Some.ensures.items c.in_ok-written.ensures
