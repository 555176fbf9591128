-- The lists of tokens that are rendered.
use Rattle.std.specs.Prelude.{ℕ, ◌≤◌, List, length}
use Rattle.cs_texts.specs.Rendering.Rendering.{AreTokens}
use Rattle.cs_texts.specs.declared.rendering.render_work.RenderWork.{RenderWork}

-- a list that can be rendered: its tokens are among those of the lexemes, and it isn't longer than a scan is compared with
pub record TakesTokens (work : RenderWork) (tokens : List ℕ) : Type 0 where
  pub tokens_of : AreTokens work.lexemes.now tokens
  pub few : length tokens ≤ 1000001
