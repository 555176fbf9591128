-- The text of `lexical`: at most one, and not none.
use Rattle.std.proofs.Common.{refl, sym, ap, ◌∙◌}
use Rattle.cs_io.specs.Asked.{IsNotWithout, IsOne}
use Rattle.cs_scanner.specs.Scan.Scan.{Scanning}
use Rattle.cs_yacc.specs.Reading.File.{File}
use Rattle.cs_lexical.specs.Lines.{IsLexical, lexical_lines}
use Rattle.cs_lexical.proofs.Tables.{same_texts, some_texts}

pub one_text : (file : File) (scanning : Scanning) → IsOne (IsLexical file scanning)
one_text file scanning a b x y = x.lines ∙ ap (lexical_lines file scanning.kinds) (same_texts scanning.patterns x.texts y.texts x.are y.are) ∙ sym y.lines

pub some_text : (file : File) (scanning : Scanning) → IsNotWithout (IsLexical file scanning)
some_text file scanning none = some_texts scanning.patterns (λ texts are. none (lexical_lines file scanning.kinds texts) (record { texts = texts; are = are; lines = refl }))
