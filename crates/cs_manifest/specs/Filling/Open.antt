-- Negatives without the token that their edit puts, and their lines.
use Rattle.std.specs.Prelude.{◌≡◌, ℕ, ◌+◌, List, ◌∷◌, ◌++◌, codes, decimal, Option, Some}
use Rattle.std.specs.Borrow.{Bor}
use Rattle.std.specs.List.{flat_map}
use Rattle.cs_bytes.specs.Names.{space}
use Rattle.cs_grammar.specs.declared.symbol.Mark.{Mark}
use Rattle.cs_grammar.specs.declared.symbol.Mark.TheVariants.{Token}
use Rattle.cs_scanner.specs.Lexeme.Lexeme.{lexeme_in}
use Rattle.cs_mutate.specs.declared.edit.Edit.{Edit}
use Rattle.cs_mutate.specs.declared.edit.Edit.TheVariants as edits
use Rattle.cs_mutate.specs.declared.negative.Negative.{Negative}
use Rattle.cs_texts.specs.Rendering.Rendering.{Text}
use Rattle.cs_yacc.specs.Reading.File.{File}
use Rattle.cs_manifest.specs.Output.Names.{AreNamedTokens, IsNamedMark, token_of}
use Rattle.cs_manifest.specs.Output.Words.{text_byte}
use Rattle.cs_manifest.specs.declared.filling.open.OpenEdit.{OpenEdit}
use Rattle.cs_manifest.specs.declared.filling.open.OpenEdit.TheVariants.{Insert, Replace}
use Rattle.cs_manifest.specs.declared.filling.open.OpenPair.{OpenPair}
use Rattle.cs_manifest.specs.declared.filling.open.OpenPair.TheVariants.{Behind, Before}
use Rattle.cs_manifest.specs.declared.filling.open.OpenNegative.{OpenNegative}
use Rattle.cs_manifest.specs.Manifest.Lines.{negative_lines}

-- ---- with a token

-- the edit that puts this token
abbrev pub edit_with : OpenEdit → ℕ → Edit
edit_with (Insert place) token = edits.Insert place token
edit_with (Replace place) token = edits.Replace place token

abbrev pub place_of : OpenEdit → ℕ
place_of (Insert place) = place
place_of (Replace place) = place

-- With the token the pair stands at the edit's place where the token is its second mark, and else behind that.
abbrev pub negative_by : OpenEdit → OpenPair → ℕ → Negative
negative_by edit (Behind left) token = record { edit = edit_with edit token; left = left; right = Token token; at = place_of edit }
negative_by edit (Before right) token = record { edit = edit_with edit token; left = Token token; right = right; at = place_of edit + 1 }

abbrev pub negative_with : OpenNegative → ℕ → Negative
negative_with negatives token = negative_by negatives.edit negatives.pair token

-- the edited list, and its text where the token has this lexeme
abbrev pub tokens_with : OpenNegative → ℕ → List ℕ
tokens_with negatives token = negatives.front.now ++ token ∷ negatives.back.now

abbrev pub text_with : OpenNegative → List ℕ → List ℕ
text_with negatives lexeme = negatives.text_front.now ++ lexeme ++ negatives.text_back.now

-- the lines of the negative with this number, token and lexeme
abbrev pub lines_with : File → OpenNegative → ℕ → ℕ → List ℕ → List ℕ
lines_with file negatives number token lexeme =
    negative_lines file number negatives.base (negative_with negatives token) (tokens_with negatives token) (Some (Text (text_with negatives lexeme)))

-- the mark that the token makes a pair with
abbrev pub mark_in : OpenPair → Mark
mark_in (Behind left) = left
mark_in (Before right) = right

-- the numbers of its tokens are of the file
pub record IsNamedOpen (file : File) (negatives : OpenNegative) : Type 0 where
  pub mark : IsNamedMark file (mark_in negatives.pair)
  pub front : AreNamedTokens file negatives.front.now
  pub back : AreNamedTokens file negatives.back.now

-- ---- lines with holes

-- a text as it stands between quotes
abbrev pub between_quotes : List ℕ → List ℕ
between_quotes text = flat_map text_byte text

-- what stands around the number, the token, which stands in three places, and the lexeme
pub record LineParts : Type 0 where
  pub head : List ℕ
  pub pair : List ℕ
  pub list : List ℕ
  pub text : List ℕ
  pub end : List ℕ

-- the token's name stands behind a space, and the lexeme as between quotes
abbrev pub filled : LineParts → ℕ → List ℕ → List ℕ → List ℕ
filled parts number name lexeme =
    codes "negative " ++ decimal number ++ parts.head ++ name ++ parts.pair ++ name ++ parts.list ++ name ++ parts.text ++ lexeme ++ parts.end

-- filled with a number, a token and a lexeme they are the lines of that negative
abbrev pub AreLinesOf : File → OpenNegative → LineParts → Type 0
AreLinesOf file negatives parts =
    (number token : ℕ) (lexeme : List ℕ)
    → filled parts number (space ∷ token_of file token) (between_quotes lexeme) ≡ lines_with file negatives number token lexeme

-- ---- tokens in lines

-- what tokens are told by: their names and their lexemes
pub record TokenTable : Type 0 where
  pub file : File
  pub lexemes : List (Option (List ℕ))

-- the piece is the token's lexeme as it stands between quotes
pub record IsQuotedLexeme (lexemes : List (Option (List ℕ))) (token : ℕ) (piece : Bor (List ℕ)) : Type 0 where
  pub lexeme : List ℕ
  pub has : lexeme_in lexemes token ≡ Some lexeme
  pub is : piece.now ≡ between_quotes lexeme
