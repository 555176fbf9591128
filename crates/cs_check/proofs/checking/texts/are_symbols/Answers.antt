-- Where the names end before the symbols, they aren't the names of them all.
use Rattle.std.proofs.Common.{◌≡◌, map, get_or}
use Rattle.std.proofs.lemmas.List.{get_or_default}
use Rattle.cs_grammar.specs.declared.symbol.Symbol.TheVariants.{Token}
use Rattle.cs_lines.specs.Words.Names.{symbol_text}
use Rattle.cs_lines.specs.Lines.Read.{names_in}
use Rattle.cs_check.proofs.OnChecking.Comparing.{compared_short}
use Rattle.cs_check.proofs.checking.texts.are_symbols.Goals as goal

pub returns-in_default : goal.returns-in_default
returns-in_default c =
    let file = c.args.file.now in
    let symbols = c.args.symbols.now in
    let place = c.loop-symbol.symbol-index in
    let front = get_or symbols place (Token 0) in (
      λ e. absurd cc,
      λ all. absurd (compared_short (symbol_text file) symbols (names_in c.args.names ≡ map (symbol_text file) symbols) place (names_in c.loop-symbol.rest) c.loop-symbol.invariant
          c.loop-symbol-test.true front (get_or_default symbols place (Token 0) front c.loop-symbol-test.true) c.in_default.ensures all),
    )
