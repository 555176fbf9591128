use Rattle.std.specs.Prelude.{option_map}
use Rattle.cs_yacc.specs.Items.Items.{items_of}
use Rattle.cs_yacc.specs.Reading.Meaning.{kept}
use Rattle.cs_yacc.specs.Items.Views.{placed_all}
use Rattle.cs_yacc.specs.Reading.SpellingView.{spelling_of}
use Rattle.cs_yacc.specs.Reading.Marks.{AreWithin}
use Rattle.cs_yacc.specs.Reading.RuleView.{rules_in}
use Rattle.cs_yacc.proofs.OnReading.Loops.{rest_at}
use Rattle.cs_yacc.proofs.OnReading.RuleLoop.{HasRules}
use Rattle.cs_yacc.proofs.reading.spelled.kept_rules.Given as goal

abbrev pub invariant-loop-index : goal.invariant-loop-index
invariant-loop-index l =
    HasRules (rules_in l.words l.rules.items) (option_map spelling_of l.left) (rest_at l.items l.index) (kept (items_of (placed_all l.items)))
    × AreWithin l.words l.rules.items
