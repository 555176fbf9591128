-- The first bare mark closes the rest; a bare newline before it, or the end, leaves it open.
use Rattle.std.proofs.Common.{sym, ◌∙◌, refl, arith}
use Rattle.cs_ctext.proofs.Ahead.{rest-start, rest-goes, rest-closes, rest-ends_line, rest-ends}
use Rattle.cs_ctext.proofs.quoted.rest_of.Goals as goal

pub loop-index-init : goal.loop-index-init
loop-index-init c = rest-start _ _

pub loop-index-preserved : goal.loop-index-preserved
loop-index-preserved c =
    rest-goes _ _ _ _ _ _ c.loop-index-test.true refl (sym c.is_bare.ensures ∙ c.if-is_bare.false) (sym c.is_bare-in-loop-index.ensures ∙ c.if-is_bare-2.false) c.is_bare-is_taken.ensures c.loop-index.invariant

pub returns-then-is_bare : goal.returns-then-is_bare
returns-then-is_bare c =
    (rest-closes _ _ _ _ _ c.loop-index-test.true refl (sym c.is_bare.ensures ∙ c.if-is_bare.true) c.loop-index.invariant, omega arith)

pub returns-then-is_bare-2 : goal.returns-then-is_bare-2
returns-then-is_bare-2 c =
    rest-ends_line _ _ _ _ _ c.loop-index-test.true refl (sym c.is_bare.ensures ∙ c.if-is_bare.false) (sym c.is_bare-in-loop-index.ensures ∙ c.if-is_bare-2.true) c.loop-index.invariant

pub returns : goal.returns
returns c = rest-ends _ _ c.loop-index.index _ (omega arith) c.loop-index.invariant
