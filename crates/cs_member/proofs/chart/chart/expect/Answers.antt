-- The nonterminal is expected already, or its descent is joined to what is expected.
use Rattle.std.proofs.Common.{◌≡◌, ◌⊎◌, ℕ, List, Some, inl, inr, refl, sym, subst, arith}
use Rattle.std.specs.Prelude.{◌↔◌, slice_get}
use Rattle.std.proofs.lemmas.Option.{slice_get_read}
use Rattle.cs_member.specs.declared.tables.word.Word.{Word}
use Rattle.cs_member.specs.Tables.Sets.{Has, InWords}
use Rattle.cs_member.specs.Tables.Expecting.{IsDescent}
use Rattle.cs_member.proofs.OnTables.Descending.{descended_with}
use Rattle.cs_member.proofs.chart.chart.expect.Goals as goal
use Rattle.cs_member.proofs.chart.chart.expect.Goals.{After-index-descent}

pub index-descent-requires : goal.index-descent-requires
index-descent-requires c =
    let low = c.requires.nonterminal in
    let size = c.requires.descents.size in
    omega arith

-- those with which the nonterminal's rules may begin
descent : (c : After-index-descent) → IsDescent c.args.question.now.tables.now.corners.items c.args.nonterminal c.index-descent.result.now.items
descent c =
    let low = c.requires.nonterminal in
    let size = c.requires.descents.size in
    let at : slice_get c.args.question.now.tables.now.descents.items c.args.nonterminal ≡ Some c.index-descent.result.now = slice_get_read _ _ c.args.nonterminal c.index-descent.result.now refl (omega arith) c.index-descent.ensures in
    c.requires.descents.each c.args.nonterminal c.index-descent.result.now at

pub returns-then-stands-clause-there : goal.returns-then-stands-clause-there
returns-then-stands-clause-there c = subst (λ (l : List ℕ). Has l c.args.nonterminal) c.deref.ensures.value (c.if-stands.ensures.0 refl)

pub returns-clause-stays : goal.returns-clause-stays
returns-clause-stays c = λ a h. (c.in_ok-add_all.ensures.has a).1 (inl h)

pub returns-clause-there : goal.returns-clause-there
returns-clause-there c =
    let one = descent (goal.at.returns-clause-there c).After-index-descent in
    (c.in_ok-add_all.ensures.has c.args.nonterminal).1 (inr (subst (λ (l : List Word). InWords l c.args.nonterminal) (sym c.as_slice.ensures) one.itself))

pub returns-clause-closed : goal.returns-clause-closed
returns-clause-closed c =
    let one = descent (goal.at.returns-clause-closed c).After-index-descent in
    descended_with c.args.question.now.tables.now.corners.items c.args.nonterminal c.index-descent.result.now.items c.args.expected.now.items c.add_all.new.set.items one
    (subst (λ (l : List Word). (n : ℕ) → Has c.add_all.new.set.items n ↔ (Has c.args.expected.now.items n ⊎ InWords l n)) c.as_slice.ensures c.in_ok-add_all.ensures.has)
    c.requires.closed
