-- The list begins with `error`, and each item adds what it declares.
use Rattle.std.proofs.Common.{◌∷◌, [], refl, ap, ◌∙◌}
use Rattle.cs_yacc.specs.Reading.SpellingView.{and_one}
use Rattle.cs_yacc.specs.Reading.Meaning.{declared_at, error_spelling}
use Rattle.cs_yacc.proofs.OnReading.Loops.{gather_step, gather_ends}
use Rattle.cs_yacc.proofs.reading.gather.declared.Goals as goal

pub loop-index-init : goal.loop-index-init
loop-index-init c = record { done = error_spelling ∷ []; table_is = c.in_ok-add.ensures ∙ ap (λ ks. and_one ks error_spelling) c.new-spellings.ensures; all_is = refl }

pub loop-index-preserved : goal.loop-index-preserved
loop-index-preserved c = gather_step declared_at c.args.items.now c.loop-index.index _ _ _ _ _ _ c.loop-index.invariant c.loop-index-test.true c.behind.ensures c.declared_list.ensures c.in_ok-add_listed.ensures

pub returns : goal.returns
returns c = gather_ends declared_at c.args.items.now c.loop-index.index _ _ c.loop-index.invariant c.loop-index-test.false
