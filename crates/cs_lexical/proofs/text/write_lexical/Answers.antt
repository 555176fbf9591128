-- The file and the scanner have one report.
use Rattle.cs_scanner.specs.Scan.Compared.{scanning}
use Rattle.cs_lexical.proofs.text.write_lexical.Goals as goal

pub write_text-requires-clause-one : goal.write_text-requires-clause-one
write_text-requires-clause-one g c = c.one_lexical_text.ensures c.args.file.now (scanning c.args.scanner.now)

pub write_text-requires-clause-some : goal.write_text-requires-clause-some
write_text-requires-clause-some g c = c.some_lexical_text.ensures c.args.file.now (scanning c.args.scanner.now)
