-- To the texts of the named kinds each byte adds its own where it is lesser, and after all bytes all are least.
use Rattle.std.proofs.Common.{arith, ℕ, subst}
use Rattle.cs_scanner.specs.declared.scanning.scanner.Scanner.{Scanner}
use Rattle.cs_scanner.specs.Scan.Compared.{scanning}
use Rattle.cs_scanner.specs.Lexeme.Kinds.{AreLeast}
use Rattle.cs_scanner.specs.Lexeme.Lexeme.{AreLexemes}
use Rattle.cs_scanner.specs.Lexeme.Texts.{texts_of}
use Rattle.cs_scanner.proofs.OnLexeme.Winning.{own_first, least_all}
use Rattle.cs_scanner.proofs.lexeme.lexemes.Lexemes.new.Goals as goal

pub loop-byte-init : goal.loop-byte-init
loop-byte-init c = record {
  least = own_first (scanning c.in_ok-table.table.scanner) (texts_of c.in_ok-texts.texts.items) c.in_ok-texts.ensures.named;
  all = c.in_ok-texts.ensures.all;
}

pub returns : goal.returns
returns c =
    let texts = texts_of c.loop-byte.texts.items in
    let s = scanning c.in_ok-table.table.scanner in
    let B : ℕ → Type 0 = λ q. AreLeast s q texts in
    let least = subst B (omega arith) c.loop-byte.invariant.least in
    let P : Scanner → Type 0 = λ k. AreLexemes (scanning k) c.args.tokens texts in
    subst P c.in_ok-table.ensures.scanner (least_all s c.args.tokens texts c.loop-byte.invariant.all least)
