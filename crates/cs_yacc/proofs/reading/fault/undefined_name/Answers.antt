-- The spellings of all items are among these; where none is unknown, no name is undefined.
use Rattle.std.proofs.Common.{sym, ◌∙◌}
use Rattle.cs_yacc.specs.Items.Views.{placed_all}
use Rattle.cs_yacc.proofs.OnReading.Unknown.{all_known}
use Rattle.cs_yacc.proofs.reading.fault.undefined_name.Goals as goal

pub returns-else-has_unknown : goal.returns-else-has_unknown
returns-else-has_unknown c =
    all_known c.args.declared.now c.args.lefts.now c.args.spelled.now (placed_all c.args.items.now) (sym c.has_unknown.ensures ∙ c.if-has_unknown.false) c.requires
