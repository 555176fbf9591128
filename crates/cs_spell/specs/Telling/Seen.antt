-- What is seen of the code's values.
use Rattle.std.specs.Prelude.{List, map}
use Rattle.cs_scanner.specs.Scan.Compared.{scanning}
use Rattle.cs_spell.specs.Telling.Spelling.{Making}
use Rattle.cs_spell.specs.Telling.Told as spec
use Rattle.cs_spell.specs.declared.telling.told.Shown.{Shown}
use Rattle.cs_spell.specs.declared.telling.told.Told.{Told}
use Rattle.cs_spell.specs.declared.telling.told.Told.TheVariants as told
use Rattle.cs_spell.specs.declared.telling.telling.Tools.{Tools}
use Rattle.cs_texts.specs.Rendering.Rendering.{rendering}

abbrev pub showing_of : Shown → spec.Showing
showing_of s = record {
  way = s.way;
  rule = s.rule;
  size = s.size;
  derivation = s.derivation.now;
  tokens = s.tokens.now;
  rendering = rendering s.rendered;
}

abbrev pub told_of : Told → spec.Told
told_of told.Shadowed = spec.Shadowed
told_of told.Foreign = spec.Foreign
told_of told.Literal = spec.Literal
told_of told.Infeasible = spec.Infeasible
told_of told.Large = spec.Large
told_of (told.Shown shown) = spec.Shown (showing_of shown)

abbrev pub all_told : List Told → List spec.Told
all_told = map told_of

-- what the tools make spellings by
abbrev pub making_of : Tools → Making
making_of t = record {
  file = t.file.now;
  scanning = scanning t.work.now.scanner.now;
  lexemes = t.work.now.lexemes.now;
  separator = t.work.now.separator.now;
  judged = t.judged.now;
}
