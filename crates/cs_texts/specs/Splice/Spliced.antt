-- What comes of a list of tokens that is rendered by one that is near it.
use Rattle.std.specs.Prelude.{ℕ, List, ◌++◌, Option, IfSome}
use Rattle.cs_texts.specs.Rendering.ByWork.{IsRenderedBy}
use Rattle.cs_texts.specs.Rendering.Rendering.{Rendering, Text, rendering}
use Rattle.cs_texts.specs.declared.rendering.render_work.RenderWork.{RenderWork}
use Rattle.cs_texts.specs.declared.splice.marked.Splice.{Splice}
use Rattle.cs_texts.specs.declared.splice.spliced.Spliced.{Spliced}
use Rattle.cs_texts.specs.declared.splice.spliced.Spliced.TheVariants.{Around, Whole}

-- what an answer says with the middle that is kept beside it: the parts of a text stand one behind another
abbrev pub rendering_around : List ℕ → Spliced → Rendering
rendering_around middle (Around front back) = Text (front.now ++ middle ++ back.now)
rendering_around middle (Whole rendered) = rendering rendered

-- the answer and the middle say what comes of the tokens
abbrev pub RendersNear : RenderWork → List ℕ → List ℕ → Spliced → Type 0
RendersNear work tokens middle spliced = IsRenderedBy work tokens (rendering_around middle spliced)

-- ---- working words of proofs

-- the text is that of the tokens
abbrev pub IsTextNear : RenderWork → List ℕ → List ℕ → Type 0
IsTextNear work tokens text = IsRenderedBy work tokens (Text text)

-- what is said of a front and a back that were told: around the middle they make the text
abbrev pub IfTold : RenderWork → List ℕ → List ℕ → Option Splice → Type 0
IfTold work tokens middle told = IfSome told (λ parts. IsTextNear work tokens (parts.front.now ++ middle ++ parts.back.now))
