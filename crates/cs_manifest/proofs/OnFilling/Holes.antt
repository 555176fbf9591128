-- Lines with holes, filled, are the lines of the negatives.
use Rattle.std.proofs.Common.{◌≡◌, ℕ, ◌+◌, List, [], ◌∷◌, ◌++◌, append_assoc, codes, decimal, refl, sym, ap, ◌∙◌, Some}
use Rattle.std.proofs.lemmas.Grind.{flat_map-append}
use Rattle.cs_manifest.specs.declared.filling.open.OpenEdit.{OpenEdit}
use Rattle.cs_manifest.specs.declared.filling.open.OpenEdit.TheVariants.{Insert, Replace}
use Rattle.cs_manifest.specs.declared.filling.open.OpenPair.{OpenPair}
use Rattle.cs_manifest.specs.declared.filling.open.OpenPair.TheVariants.{Behind, Before}
use Rattle.cs_manifest.specs.declared.filling.open.OpenNegative.{OpenNegative}
use Rattle.cs_yacc.specs.Reading.File.{File}
use Rattle.cs_texts.specs.Rendering.Rendering.{Text}
use Rattle.cs_manifest.specs.Output.Names.{mark_text, token_of, token_words}
use Rattle.cs_manifest.specs.Output.Words.{text_byte}
use Rattle.cs_manifest.specs.Filling.Holes.{parts_by, parts_of}
use Rattle.cs_manifest.specs.Manifest.Lines.{negative_lines}
use Rattle.cs_manifest.specs.Filling.Open.{AreLinesOf, between_quotes, filled, negative_by, text_with, tokens_with}

-- The pieces of the lines of a negative, and which of them hold the token's name and lexeme.
record Pieces : Type 0 where
  -- the first line up to the token: its number, its base, the edit's words, and the token's name
  start : List ℕ
  base : List ℕ
  edit : List ℕ
  name : List ℕ
  -- the pair and its place, and what of both stands in front of the name and behind it
  pair : List ℕ
  at : List ℕ
  left : List ℕ
  right : List ℕ
  -- the second line: its word and the names of all tokens, and of those in front of the name and behind it
  list : List ℕ
  tokens : List ℕ
  front : List ℕ
  back : List ℕ
  -- the third line: its words and the whole text, and what of it stands in front of the lexeme and behind it
  text : List ℕ
  whole : List ℕ
  before : List ℕ
  lexeme : List ℕ
  behind : List ℕ
  -- what ends the text, and each line
  quote : List ℕ
  newline : List ℕ
  in_pair : pair ++ at ≡ left ++ name ++ right
  in_tokens : tokens ≡ front ++ (name ++ back)
  in_text : whole ≡ before ++ lexeme ++ behind

-- the parts around the holes with the holes filled, one after another
abbrev filled_parts : Pieces → List ℕ
filled_parts p =
    p.start ++ (p.base ++ p.edit) ++ p.name ++ p.left ++ p.name ++ (p.right ++ (p.newline ++ (p.list ++ p.front))) ++ p.name
    ++ (p.back ++ (p.newline ++ p.text) ++ p.before) ++ p.lexeme ++ (p.behind ++ (p.quote ++ p.newline))

-- the three lines
abbrev whole_lines : Pieces → List ℕ
whole_lines p =
    p.start ++ p.base ++ (p.edit ++ p.name ++ p.pair ++ p.at ++ p.newline) ++ (p.list ++ p.tokens ++ p.newline)
    ++ (p.text ++ (p.whole ++ p.quote) ++ p.newline)

pair_then : (p : Pieces) (rest : List ℕ) → p.pair ++ (p.at ++ rest) ≡ p.left ++ (p.name ++ (p.right ++ rest))
pair_then p rest = sym (append_assoc p.pair p.at rest) ∙ ap (λ (words : List ℕ). words ++ rest) p.in_pair ∙ simp append_assoc

filled_is_whole : (p : Pieces) → filled_parts p ≡ whole_lines p
filled_is_whole p = let then = pair_then p in rw (p.in_tokens, p.in_text) (simp (append_assoc, then))

module _ (file : File) (negatives : OpenNegative) (number token : ℕ) (lexeme : List ℕ) where
  abbrev name : List ℕ
  name = 32 ∷ token_of file token

  in_tokens : token_words file (tokens_with negatives token) ≡ token_words file negatives.front.now ++ (name ++ token_words file negatives.back.now)
  in_tokens = flat_map-append (λ (t : ℕ). 32 ∷ token_of file t) negatives.front.now (token ∷ negatives.back.now)

  in_text : between_quotes (text_with negatives lexeme) ≡ between_quotes negatives.text_front.now ++ between_quotes lexeme ++ between_quotes negatives.text_back.now
  in_text =
      flat_map-append text_byte (negatives.text_front.now ++ lexeme) negatives.text_back.now
      ∙ ap (λ (t : List ℕ). t ++ between_quotes negatives.text_back.now) (flat_map-append text_byte negatives.text_front.now lexeme)

  -- the pieces, by the words of the edit, of the pair and of its place
  abbrev pieces : (edit left pair at right : List ℕ) → pair ++ at ≡ left ++ name ++ right → Pieces
  pieces edit left pair at right in_pair = record {
    start = codes "negative " ++ decimal number;
    base = codes " base " ++ decimal negatives.base;
    edit = edit;
    name = name;
    pair = pair;
    at = at;
    left = left;
    right = right;
    list = codes "  tokens";
    tokens = token_words file (tokens_with negatives token);
    front = token_words file negatives.front.now;
    back = token_words file negatives.back.now;
    text = codes "  text \"";
    whole = between_quotes (text_with negatives lexeme);
    before = between_quotes negatives.text_front.now;
    lexeme = between_quotes lexeme;
    behind = between_quotes negatives.text_back.now;
    quote = 34 ∷ [];
    newline = 10 ∷ [];
    in_pair = in_pair;
    in_tokens = in_tokens;
    in_text = in_text;
  }

  -- the token behind the pair's other mark, and in front of it
  abbrev behind_mark : List ℕ → ℕ → List ℕ → Pieces
  behind_mark edit place mark =
      pieces edit (codes " pair" ++ 32 ∷ mark) ((codes " pair" ++ 32 ∷ mark) ++ name) (codes " at " ++ decimal place) (codes " at " ++ decimal place) refl

  abbrev before_mark : List ℕ → ℕ → List ℕ → Pieces
  before_mark edit place mark =
      pieces edit (codes " pair") ((codes " pair" ++ name) ++ 32 ∷ mark) (codes " at " ++ decimal place) ((32 ∷ mark) ++ (codes " at " ++ decimal place))
      (append_assoc (codes " pair" ++ name) (32 ∷ mark) (codes " at " ++ decimal place))

  by : (edit : OpenEdit) (pair : OpenPair) → filled (parts_by file negatives edit pair) number name (between_quotes lexeme)
      ≡ negative_lines file number negatives.base (negative_by edit pair token) (tokens_with negatives token) (Some (Text (text_with negatives lexeme)))
  by (Insert place) (Behind left) = filled_is_whole (behind_mark (codes " insert " ++ decimal place) place (mark_text file left))
  by (Insert place) (Before right) = filled_is_whole (before_mark (codes " insert " ++ decimal place) (place + 1) (mark_text file right))
  by (Replace place) (Behind left) = filled_is_whole (behind_mark (codes " replace " ++ decimal place) place (mark_text file left))
  by (Replace place) (Before right) = filled_is_whole (before_mark (codes " replace " ++ decimal place) (place + 1) (mark_text file right))

-- the parts are those of the lines
pub parts_fill : (file : File) (negatives : OpenNegative) → AreLinesOf file negatives (parts_of file negatives)
parts_fill file negatives number token lexeme = by file negatives number token lexeme negatives.edit negatives.pair
