-- What makes the negatives of a base.
use Rattle.std.specs.Prelude.{◌≡◌, ◌≤◌, ℕ, List, Bool, true, length}
use Rattle.cs_manifest.specs.Filling.Open.{TokenTable}
use Rattle.cs_mutate.specs.Edit.{edited}
use Rattle.cs_mutate.specs.declared.edit.Edit.{Edit}
use Rattle.cs_texts.specs.Work.Renders.{TakesTokens}
use Rattle.cs_texts.specs.declared.rendering.render_work.RenderWork.{RenderWork}
use Rattle.cs_texts.specs.Splice.Apart.{AreApart, ScanBack}
use Rattle.cs_yacc.specs.Reading.File.{File}

-- lists of tokens from 1 to so many can be rendered
abbrev pub CanRender : RenderWork → ℕ → Type 0
CanRender work tokens = length work.lexemes.now ≡ tokens

-- a file, what lists are rendered by, and the tokens that stand apart in texts
pub record PlainTools : Type 0 where
  pub file : File
  pub work : RenderWork
  pub apart : List Bool

-- tools of this file and this work
pub record AreToolsOf (file : File) (work : RenderWork) (tools : PlainTools) : Type 0 where
  pub file_is : tools.file ≡ file
  pub work_is : tools.work ≡ work

-- the tools, the number of the base, and its tokens
pub record Making : Type 0 where
  pub tools : PlainTools
  pub number : ℕ
  pub base : List ℕ

abbrev pub IsMakerOf : PlainTools → ℕ → List ℕ → Making → Type 0
IsMakerOf tools number base making = making ≡ record { tools = tools; number = number; base = base }

-- the list that an edit makes of the base can be rendered
abbrev pub TakesEdited : Making → Edit → Type 0
TakesEdited making edit = TakesTokens making.tools.work (edited making.base edit)

-- ---- working words of proofs

-- the pieces are those of the file's tokens, and texts of tokens that stand apart scan back
pub record AreSound (file : File) (work : RenderWork) (pieces : TokenTable) (apart : List Bool) : Type 0 where
  pub can : CanRender work (length file.token_names)
  pub pieces_are : pieces ≡ record { file = file; lexemes = work.lexemes.now }
  pub scan : ScanBack work apart

-- the base can be rendered, and where that is known its tokens stand apart
pub record IsReady (making : Making) (near : RenderWork) (apart : Bool) : Type 0 where
  pub near_is : near ≡ making.tools.work
  pub takes : TakesTokens making.tools.work making.base
  pub names : length making.tools.work.lexemes.now ≡ length making.tools.file.token_names
  pub short : length making.base ≤ 1000000
  pub all : apart ≡ true → AreApart making.tools.apart making.base
