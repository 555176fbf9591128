-- The negatives of a base that differ in the token that their edit puts alone. Working words of proofs.
use Rattle.std.specs.Prelude.{◌≡◌, ℕ, ◌+◌, ◌<◌, ◌≤◌, List, ◌∷◌, ◌++◌, All, Bool, Option, None, Some, IfSome, IsTrue, length, take, drop, option_map}
use Rattle.std.specs.Borrow.{Bor}
use Rattle.cs_bytes.specs.Names.{space}
use Rattle.cs_manifest.specs.Output.Names.{AreNamedTokens, token_of}
use Rattle.cs_io.specs.Faults.{next_count}
use Rattle.cs_manifest.specs.Writer.Progress.{with_entry}
use Rattle.cs_manifest.specs.Writer.Entry.{IsNamedEntry, lines_of}
use Rattle.cs_manifest.specs.declared.manifest.counts.Counts.{Counts}
use Rattle.cs_manifest.specs.declared.writer.entry.Entry.{Entry}
use Rattle.cs_manifest.specs.Manifest.Lines.{negative_lines}
use Rattle.cs_manifest.specs.Manifest.Manifest.{NegativeEntry, negative_entry_lines}
use Rattle.cs_manifest.specs.Manifest.Named.{IsNamedNegative, IsNamedRendering}
use Rattle.cs_manifest.specs.Filling.Open.{IsQuotedLexeme, LineParts, between_quotes, filled, negative_by, place_of}
use Rattle.cs_manifest.specs.declared.filling.open.OpenEdit.{OpenEdit}
use Rattle.cs_manifest.specs.declared.filling.open.OpenEdit.TheVariants.{Insert, Replace}
use Rattle.cs_manifest.specs.declared.filling.open.OpenPair.{OpenPair}
use Rattle.cs_manifest.specs.declared.filling.open.OpenPair.TheVariants.{Behind, Before}
use Rattle.cs_grammar.specs.declared.symbol.Mark.TheVariants.{Token}
use Rattle.cs_mutate.specs.Edit.{edited}
use Rattle.cs_mutate.specs.declared.negative.Negative.{Negative}
use Rattle.cs_texts.specs.Rendering.Rendering.{HasLexeme, IsRuleText, Text}
use Rattle.cs_texts.specs.Rendering.ByWork.{IsRenderedBy}
use Rattle.cs_texts.specs.declared.rendering.render_work.RenderWork.{RenderWork}
use Rattle.cs_texts.specs.Splice.Apart.{IsApart, ScanBack}
use Rattle.cs_texts.specs.Splice.Spliced.{rendering_around}
use Rattle.cs_writing.specs.Mutants.Makers.{Making, PlainTools}
use Rattle.cs_writing.specs.Mutants.Mutants.{IsOfNegative, made_lines}
use Rattle.cs_writing.specs.declared.mutants.made.Filling.{Filling}
use Rattle.cs_writing.specs.declared.mutants.made.Rendering.{Rendering}
use Rattle.cs_writing.specs.declared.mutants.opened.Opened.{Opened}
use Rattle.cs_writing.specs.declared.mutants.row.Row.{Row}
use Rattle.cs_writing.specs.declared.plan.joining.Side.{Side}
use Rattle.cs_writing.specs.declared.plan.joining.Side.TheVariants as stands
use Rattle.cs_writing.specs.declared.mutants.rows.Rows.{Rows}
use Rattle.cs_writing.specs.declared.mutants.tools.ToldToken.{ToldToken}

-- ---- tokens and negatives

-- the token stands apart, and this is how lines have it
pub record IsTold (tools : PlainTools) (token : ℕ) (told : ToldToken) : Type 0 where
  pub name : told.name.now ≡ space ∷ token_of tools.file token
  pub lexeme : IsQuotedLexeme tools.work.lexemes.now token told.lexeme
  pub apart : IsApart tools.apart token
  pub scan : ScanBack tools.work tools.apart

-- the token stands apart and has a lexeme
pub record CanTell (tools : PlainTools) (token : ℕ) : Type 0 where
  pub apart : IsApart tools.apart token
  pub lexeme : HasLexeme tools.work.lexemes.now token

-- with its token it is the negative
abbrev pub IsOpened : Negative → Opened → Type 0
IsOpened negative o = negative ≡ negative_by o.edit o.pair o.token

-- it can be told without its token
abbrev pub Opens : Negative → Type 0
Opens negative = (opened : Opened) × IsOpened negative opened

-- the token at the place of an edit and the mark make the negative's pair
abbrev pub IsOpenPairOf : Negative → ℕ → ℕ → OpenPair → Type 0
IsOpenPairOf negative place token (Behind left) = (negative.left ≡ left) × (negative.right ≡ Token token) × (negative.at ≡ place)
IsOpenPairOf negative place token (Before right) = (negative.left ≡ Token token) × (negative.right ≡ right) × (negative.at ≡ place + 1)

-- the token at the place of an edit is in the negative's pair
abbrev pub IsInPair : Negative → ℕ → ℕ → Type 0
IsInPair negative place token = (pair : OpenPair) × IsOpenPairOf negative place token pair

-- the edit's place is one of a list with so many tokens
abbrev pub IsOpenPlaced : ℕ → OpenEdit → Type 0
IsOpenPlaced many (Insert place) = place ≤ many
IsOpenPlaced many (Replace place) = place < many

-- where the tokens behind the one that the edit puts begin
abbrev pub behind_place : OpenEdit → ℕ
behind_place (Insert place) = place
behind_place (Replace place) = place + 1

-- ---- texts around a lexeme

module _ (lexemes : List (Option (List ℕ))) (separator : List ℕ) where
  -- in front of a rule's text it makes that of these tokens in front of the others
  abbrev pub IsTextInFront : List ℕ → List ℕ → Type 0
  IsTextInFront tokens text =
      (others more : List ℕ) → 0 < length others → IsRuleText lexemes separator others more
      → IsRuleText lexemes separator (tokens ++ others) (text ++ more)

  -- and behind one
  abbrev pub IsTextBehind : List ℕ → List ℕ → Type 0
  IsTextBehind tokens text =
      (others more : List ℕ) → 0 < length others → IsRuleText lexemes separator others more
      → IsRuleText lexemes separator (others ++ tokens) (more ++ text)

  -- where the separator stands behind each of its lexemes it is a text in front of one, and else behind one
  abbrev pub IsTextBeside : Side → List ℕ → List ℕ → Type 0
  IsTextBeside stands.Before tokens text = IsTextBehind tokens text
  IsTextBeside stands.Behind tokens text = IsTextInFront tokens text

-- each token has a lexeme
abbrev pub HaveAllLexemes : RenderWork → List ℕ → Type 0
HaveAllLexemes work tokens = All (HasLexeme work.lexemes.now) tokens

-- where it was put it stands beside a lexeme
abbrev pub PutsText : RenderWork → Side → List ℕ → List ℕ → Bool → Type 0
PutsText work side tokens text has = IsTrue has → IsTextBeside work.lexemes.now work.separator.now side tokens text

-- a lexeme with the separator on this side of it
abbrev pub with_separator : List ℕ → Side → List ℕ → List ℕ
with_separator separator stands.Before lexeme = separator ++ lexeme
with_separator separator stands.Behind lexeme = lexeme ++ separator

-- ---- rows

-- the row has the lines of the negatives of the base with this edit and this pair, whatever token stands apart there
pub record IsRowOf (making : Making) (edit : OpenEdit) (pair : OpenPair) (row : Row) : Type 0 where
  pub edit_is : row.edit ≡ edit
  pub pair_is : row.pair ≡ pair
  pub text_front : List ℕ
  pub text_back : List ℕ
  pub in_front : IsTextInFront making.tools.work.lexemes.now making.tools.work.separator.now (take (place_of edit) making.base) text_front
  pub behind : IsTextBehind making.tools.work.lexemes.now making.tools.work.separator.now (drop (behind_place edit) making.base) text_back
  pub lines :
      (number token : ℕ) (lexeme : List ℕ)
      → filled row.lines number (space ∷ token_of making.tools.file token) (between_quotes lexeme)
      ≡ negative_lines making.tools.file number making.number (negative_by edit pair token)
      (take (place_of edit) making.base ++ token ∷ drop (behind_place edit) making.base) (Some (Text (text_front ++ lexeme ++ text_back)))

-- each token of the base beside the one that the edit puts has a lexeme
pub record HasTexts (making : Making) (edit : OpenEdit) : Type 0 where
  pub in_front : HaveAllLexemes making.tools.work (take (place_of edit) making.base)
  pub behind : HaveAllLexemes making.tools.work (drop (behind_place edit) making.base)

-- it is one of the base
abbrev pub IsRow : Making → Row → Type 0
IsRow making row = IsRowOf making row.edit row.pair row

pub record AreRows (making : Making) (rows : Rows) : Type 0 where
  pub behind : IfSome rows.behind (IsRow making)
  pub before : IfSome rows.before (IsRow making)

-- the row of pairs as this one
abbrev pub row_for : Rows → OpenPair → Option Row
row_for rows (Behind left) = rows.behind
row_for rows (Before right) = rows.before

abbrev pub AreNoRows : Rows → Type 0
AreNoRows rows = (rows.behind ≡ None) × (rows.before ≡ None)

abbrev pub IsLentRow : Option Row → Option (Bor Row) → Type 0
IsLentRow row lent = row ≡ option_map (λ r. r.now) lent

-- the row is that of pairs as this one, and the other is as before
abbrev pub IsPutIn : Rows → OpenPair → Option Row → Rows → Type 0
IsPutIn old (Behind left) row new = new ≡ record old { behind = row }
IsPutIn old (Before right) row new = new ≡ record old { before = row }

-- the row of pairs as this one is that of these negatives
pub record HasRow (rows : Rows) (edit : OpenEdit) (pair : OpenPair) : Type 0 where
  pub row : Row
  pub there : row_for rows pair ≡ Some row
  pub edit_is : row.edit ≡ edit
  pub pair_is : row.pair ≡ pair

-- ---- what was made

-- the negative that fills a row
abbrev pub negative_of : Filling → Negative
negative_of filling = negative_by filling.opened.edit filling.opened.pair filling.opened.token

-- the one that is made
abbrev pub negative_in : Option Filling → Option Rendering → Option Negative
negative_in None rendering = option_map (λ r. r.negative) rendering
negative_in (Some filling) rendering = Some (negative_of filling)

-- the lines, filled with a number and these pieces, are those of the negative
pub record IsFilled (making : Making) (negative : Negative) (parts : LineParts) (name lexeme : List ℕ) : Type 0 where
  pub told : NegativeEntry
  pub of : IsOfNegative making.tools.work making.base negative told
  pub lines : (number : ℕ) → filled parts number name lexeme ≡ negative_entry_lines making.tools.file making.number making.base number told

-- the negative fills a row that is there
pub record FillsRow (making : Making) (rows : Rows) (filling : Filling) : Type 0 where
  pub row : Row
  pub there : row_for rows filling.opened.pair ≡ Some row
  pub fills : IsFilled making (negative_of filling) row.lines filling.token.name.now filling.token.lexeme.now

-- it is this negative
abbrev pub IsFillingOf : Negative → Filling → Type 0
IsFillingOf negative filling = IsOpened negative filling.opened

-- the list is the edited one, this came of its rendering, and the numbers of all tokens are of the file
pub record IsRenderedAs (making : Making) (tokens middle : List ℕ) (r : Rendering) : Type 0 where
  pub tokens_are : tokens ≡ edited making.base r.negative.edit
  pub rendered_is : IsRenderedBy making.tools.work (edited making.base r.negative.edit) (rendering_around middle r.spliced)
  pub negative_named : IsNamedNegative making.tools.file r.negative
  pub tokens_named : AreNamedTokens making.tools.file tokens
  pub rendering_named : IsNamedRendering making.tools.file (rendering_around middle r.spliced)

-- ---- its entry in a manifest

-- the entry counts as one more negative, and as nothing else
abbrev pub CountsOneNegative : Entry → Type 0
CountsOneNegative entry = (counts : Counts) → with_entry counts entry ≡ record counts { negatives = next_count counts.negatives }

-- the entry of a manifest is that of the negative with this number
pub record IsEntryOf (making : Making) (negative : Negative) (number : ℕ) (entry : Entry) : Type 0 where
  pub told : NegativeEntry
  pub of : IsOfNegative making.tools.work making.base negative told
  pub lines : lines_of making.tools.file entry ≡ made_lines making number told
  pub counts : CountsOneNegative entry
  pub named : IsNamedEntry making.tools.file entry
