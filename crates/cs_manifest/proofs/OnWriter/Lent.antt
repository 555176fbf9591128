-- A rendering that is lent.
use Rattle.std.proofs.Common.{◌≡◌, refl, Option, None, Some}
use Rattle.std.specs.Borrow.{Bor}
use Rattle.std.specs.Option.{option_copied}
use Rattle.std.specs.Prelude.{option_map}
use Rattle.cs_manifest.specs.Writer.Entry.{rendering_of}
use Rattle.cs_texts.specs.declared.rendering.rendered.Rendered.{Rendered}
use Rattle.cs_texts.specs.Rendering.Rendering.{rendering}

-- what came of the rendering, lent and as it stands
pub copied : (r : Option (Bor Rendered)) → rendering_of r ≡ option_map rendering (option_copied r)
copied None = refl
copied (Some b) = refl
