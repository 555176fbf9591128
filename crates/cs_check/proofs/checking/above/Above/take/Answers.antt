-- The line was read from the bytes, so its judgement is that of the bytes.
use Rattle.cs_scanner.specs.Scan.Compared.{scanning}
use Rattle.cs_check.specs.Checking.Told.{checked_by}
use Rattle.cs_check.proofs.OnChecking.Pieces.{short_told, text_low, read_judged}
use Rattle.cs_check.proofs.checking.above.Above.take.Goals as goal

pub take_line-requires-clause-short : goal.take_line-requires-clause-short
take_line-requires-clause-short c =
    short_told c.in-Some.text.now c.in-Some-read_line.line (rw c.in-Some-read_line.is at c.read_line.ensures)
    (text_low c.args.bytes.now c.in-Some.text.now (rw c.in-Some.is at c.text_of.ensures) c.requires.short)

pub returns-in-Some-read_line-clause-judged : goal.returns-in-Some-read_line-clause-judged
returns-in-Some-read_line-clause-judged c = λ above k few.
    let checked = checked_by c.args.yacc.now (scanning c.args.scanner.now) in
    read_judged checked above c.args.bytes.now c.take_line.new.self c.in-Some.text.now
    (rw c.in-Some.is at c.text_of.ensures) c.in-Some-read_line.line (rw c.in-Some-read_line.is at c.read_line.ensures) c.take_line.result
    (λ l tells. c.take_line.ensures.judged above l k tells few)
