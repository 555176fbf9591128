use Rattle.std.proofs.Common.{◌≡◌, ◌++◌, map}
use Rattle.cs_gen.specs.declared.symbol.Symbol.TheVariants.{Token}
use Rattle.cs_gen.specs.Texts.{up_to, names}
use Rattle.cs_gen.proofs.yacc.put_declaration.Given as goal

abbrev pub invariant-loop-number : goal.invariant-loop-number
invariant-loop-number l = l.text.items ≡ l.initial.text.items ++ names (map Token (up_to l.number))
