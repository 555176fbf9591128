-- A text is its front alone, as its middle and its back are empty.
use Rattle.std.proofs.Common.{ap, ◌∙◌}
use Rattle.std.proofs.lemmas.List.{append-nil}
use Rattle.cs_texts.specs.Rendering.Rendering.{Text}
use Rattle.cs_texts.proofs.rendering.rendered.Rendered.parts.Goals as goal

pub returns-in-Text : goal.returns-in-Text
returns-in-Text c = rw c.in-Text.is (ap Text (append-nil _ ∙ append-nil _ ∙ c.as_slice.ensures.value))
