-- One symbol more has an empty tree, up to the last.
use Rattle.std.proofs.Common.{List, refl, subst}
use Rattle.std.specs.Prelude.{All}
use Rattle.std.proofs.lemmas.List.{take_all}
use Rattle.std.proofs.lemmas.List.Elements.{All-more}
use Rattle.cs_grammar.specs.declared.symbol.Symbol.{Symbol}
use Rattle.cs_member.specs.Tables.Tables.{HasEmpty}
use Rattle.cs_member.proofs.tables.empties.have_empty.Goals as goal

pub loop-symbol-preserved : goal.loop-symbol-preserved
loop-symbol-preserved c = All-more (HasEmpty c.args.empties.now) c.args.symbols.now c.loop-symbol.symbol-index _ c.loop-symbol-test.true c.loop-symbol.invariant (c.if-not-has_empty.ensures.0 refl)

pub returns : goal.returns
returns c = (
  (λ yes_it_is. subst (λ (l : List Symbol). All (HasEmpty c.args.empties.now) l) (take_all c.loop-symbol.symbol-index c.args.symbols.now c.loop-symbol-test.false) c.loop-symbol.invariant),
  (λ all. refl),
)
