-- What the code's parts are.
use Rattle.std.specs.Option.{option_to_list}
use Rattle.cs_yacc.specs.declared.reading.parts.Parts as code
use Rattle.cs_yacc.specs.Items.Views.{placed_all}
use Rattle.cs_yacc.specs.Reading.Meaning.{Parts}
use Rattle.cs_yacc.specs.Reading.RuleView.{rules_in}

abbrev pub parts_in : code.Parts → Parts
parts_in p = record {
  tokens = p.tokens;
  nonterminals = p.lefts;
  start = placed_all (option_to_list p.start);
  rules = rules_in p.words.now p.rules.items;
}
