-- The rendering of a list of tokens by what lists are rendered with.
use Rattle.std.specs.Prelude.{ℕ, List}
use Rattle.cs_scanner.specs.Scan.Compared.{scanning}
use Rattle.cs_texts.specs.Rendering.Rendering.{IsRendered, Rendering}
use Rattle.cs_texts.specs.declared.rendering.render_work.RenderWork.{RenderWork}

-- the rendering of a list by the work's scanner, lexemes and separator
abbrev pub IsRenderedBy : RenderWork → List ℕ → Rendering → Type 0
IsRenderedBy work tokens r = IsRendered (scanning work.scanner.now) work.lexemes.now work.separator.now tokens r
