-- The trees before the child, the child's where it is a span, and the empty ones behind are left in that order.
use Rattle.std.proofs.Common.{◌≡◌, ℕ, ◌+◌, List, Option, [], ◌∷◌, ◌++◌, length, sym, ap, ◌∙◌, arith, append-nil}
use Rattle.std.specs.List.{slice_range}
use Rattle.std.specs.Global.{Vec}
use Rattle.cs_grammar.specs.declared.symbol.Symbol.{Symbol}
use Rattle.cs_member.specs.declared.derivation.writing.Task.{Task}
use Rattle.cs_member.specs.declared.derivation.writing.Task.TheVariants.{Trees, Tree as TreeOf}
use Rattle.cs_member.specs.Derivation.Writing.{child_tasks, empty_tasks}
use Rattle.cs_member.proofs.OnDerivation.Spelling.{back_grown, back_taken, found_within, no_child_task}
use Rattle.cs_member.proofs.derivation.writing.leave_back.Goals as goal
use Rattle.cs_member.proofs.derivation.writing.leave_back.Goals.{in-Some+in_ok-push-2, in_default}

pub slice_bounds-leave_empties-end : goal.slice_bounds-leave_empties-end
slice_bounds-leave_empties-end c =
    let q = c.args.question.now in
    let low = found_within q.grammar.now q.tokens.now c.args.chart.now c.args.at c.args.from c.args.way.child c.args.way.back c.rule.result.now c.requires.back c.rule.ensures.rule in
    let long = ap (λ (l : List Symbol). length l) c.right-right.ensures in
    omega arith

pub returns : goal.returns
returns c = λ limit above.
    let q = c.args.question.now in
    let g = q.grammar.now in
    let back = c.args.way.back in
    let p = c.rule.result.now in
    let old = c.args.tasks.now.items in
    let mid = c.match-way.tasks.items in
    let front : Task = Trees back.before c.args.from back.begin in
    let range = slice_range p.right (back.before.place + 1) back.found.place in
    let first : c.push.new.self.items ≡ old ++ front ∷ [] = c.in_ok-push.ensures.items in
    let child : mid ≡ (old ++ front ∷ []) ++ child_tasks c.args.at c.args.way.child = elim c.match-way.branch [
      | in-Some+in_ok-push-2 w ↦
          ap (λ (v : Vec Task). v.items) w.tasks-is ∙ (w.in_ok-push-2.ensures.items ∙ (ap (λ (l : List Task). l ++ TreeOf w.in-Some.number c.args.at ∷ []) first
          ∙ ap (λ (o : Option ℕ). (old ++ front ∷ []) ++ child_tasks c.args.at o) (sym w.in-Some.is)))
      | in_default w ↦
          ap (λ (v : Vec Task). v.items) w.tasks-is ∙ (first ∙ (sym (append-nil (old ++ front ∷ [])) ∙ ap (λ (l : List Task). (old ++ front ∷ []) ++ l) (sym (no_child_task c.args.at c.args.way.child w.in_default.not-Some))))
    ] in
    let rest : c.leave_empties.new.tasks.items ≡ mid ++ empty_tasks range =
    c.in_ok-leave_empties.ensures ∙ ap (λ (l : List Symbol). mid ++ empty_tasks (slice_range l (back.before.place + 1) back.found.place)) c.right-right.ensures in
    back_taken g q.tokens.now c.args.chart.now q.tables.now c.rules-well_formed.ensures.well_formed c.requires.tables.question.empties c.requires.tables.question.rounds limit p c.args.from c.args.at c.args.way.child back old c.leave_empties.new.tasks.items above c.requires.back c.rule.ensures.rule
    (back_grown old mid c.leave_empties.new.tasks.items (child_tasks c.args.at c.args.way.child) (empty_tasks range) front child rest)
