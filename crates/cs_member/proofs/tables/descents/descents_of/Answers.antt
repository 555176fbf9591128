-- The descent of one nonterminal more stands last.
use Rattle.std.proofs.Common.{◌≡◌, ◌+◌, List, sym, subst, arith}
use Rattle.smallvec.specs.SmallVec.{SmallVec}
use Rattle.cs_member.specs.declared.tables.word.Word.{Word}
use Rattle.cs_member.specs.Tables.Expecting.{AreDescents}
use Rattle.cs_member.proofs.OnTables.Descending.{descents_none, descents_push}
use Rattle.cs_member.proofs.tables.descents.descents_of.Goals as goal

pub loop-nonterminal-init : goal.loop-nonterminal-init
loop-nonterminal-init c = subst (λ (l : List (SmallVec Word)). AreDescents 0 c.args.corners.now l) (sym c.in_ok-descents.ensures.items) (descents_none c.args.corners.now)

pub descent_of-requires-clause-nonterminal : goal.descent_of-requires-clause-nonterminal
descent_of-requires-clause-nonterminal c = (let lt = c.loop-nonterminal-test.true in let size = c.requires.size in omega arith)

pub loop-nonterminal-preserved : goal.loop-nonterminal-preserved
loop-nonterminal-preserved c =
    let many = c.loop-nonterminal.nonterminal in
    subst (λ (l : List (SmallVec Word)). AreDescents (many + 1) c.args.corners.now l) (sym c.in_ok-push.ensures.items)
    (descents_push many c.args.corners.now c.loop-nonterminal.descents.items c.in_ok-words.words c.loop-nonterminal.invariant c.in_ok-words.ensures)

pub returns : goal.returns
returns c =
    let same : c.loop-nonterminal.nonterminal ≡ c.args.last + 1 = (let ge = c.loop-nonterminal-test.false in let le = c.loop-nonterminal.auto.nonterminal-end in let size = c.requires.size in omega arith) in
    subst (λ n. AreDescents n c.args.corners.now c.loop-nonterminal.descents.items) same c.loop-nonterminal.invariant
