-- An item that begins at this position has empty trees alone, and from any other a way leads back over a child.
use Rattle.std.proofs.Common.{inl, inr, None, subst, arith, ◌+◌, ◌*◌, ◌^◌, ℕ}
use Rattle.std.proofs.lemmas.Option.{slice_get_within}
use Rattle.cs_member.specs.declared.tables.item.Item.{Item}
use Rattle.cs_member.specs.declared.derivation.writing.Task.TheVariants.{Trees}
use Rattle.cs_member.specs.Derivation.Writing.{IsAbove, IsTakenBelow}
use Rattle.cs_member.proofs.OnDerivation.Spelling.{child_small, front_taken, front_empties}
use Rattle.cs_member.proofs.derivation.writing.take_trees.Goals as goal

pub returns-then-from-at : goal.returns-then-from-at
returns-then-from-at c =
    let q = c.args.question.now in
    let left = c.in_ok-leave_front.ensures in
    elim c.requires.item [
      | inl front ↦ front_taken q.grammar.now q.tokens.now c.args.chart.now q.tables.now c.rules-well_formed.ensures.well_formed c.requires.tables.question.empties c.requires.tables.question.rounds c.args.item c.args.from c.args.at c.args.tasks.now.items c.leave_front.new.tasks.items left front.0
          (front_empties q.grammar.now q.tables.now.empties.items front.1 c.args.item left.rule c.rules-well_formed.ensures.well_formed left.number c.requires.tables.question.empties front.2)
      | inr stands ↦ absurd (let lt = stands.0 in let same = c.if-from-at.true in omega arith)
    ]

pub find_way-way-requires-clause-last : goal.find_way-way-requires-clause-last
find_way-way-requires-clause-last c = elim c.requires.item [
  | inl front ↦ absurd (c.if-from-at.false front.0)
  | inr stands ↦ (let lt = slice_get_within c.args.chart.now c.args.at stands.1 stands.2 in let long = c.requires.chart.long in omega arith)
]

pub find_way-way-requires-clause-item : goal.find_way-way-requires-clause-item
find_way-way-requires-clause-item c = elim c.requires.item [
  | inl front ↦ absurd (c.if-from-at.false front.0)
  | inr stands ↦ stands
]

pub returns : goal.returns
returns c =
    let q = c.args.question.now in
    let at = c.args.at in
    let found = c.find_way-way.ensures in
    let limit : ℕ = 2000 + at * 2 ^ 66 + 2 ^ 65 in
    let above : IsAbove at c.find_way-way.result.child limit = record {
      positions = omega arith;
      children = λ m is. (let small = child_small q.grammar.now q.tokens.now c.args.chart.now c.find_way-way.result.back.before c.find_way-way.result.back.begin at m c.find_way-way.result.child found.0.awaits is in omega arith);
    } in
    subst (λ (x : Item). IsTakenBelow q.grammar.now q.tokens.now q.tables.now c.args.chart.now limit (Trees x c.args.from at) None c.args.tasks.now.items c.leave_back.new.tasks.items) found.1 (c.in_ok-leave_back.ensures limit above)
