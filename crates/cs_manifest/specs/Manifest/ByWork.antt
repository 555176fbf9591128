-- What texts are made by, of the work that renders them.
use Rattle.cs_manifest.specs.Manifest.Manifest.{Texts}
use Rattle.cs_scanner.specs.Scan.Compared.{scanning}
use Rattle.cs_texts.specs.declared.rendering.render_work.RenderWork.{RenderWork}

-- the scanner's patterns, kinds and literals, and what stands between two lexemes
abbrev pub texts_of : RenderWork → Texts
texts_of work = record { scanning = scanning work.scanner.now; separator = work.separator.now }
