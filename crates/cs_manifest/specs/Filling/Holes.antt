-- What stands around the holes in the lines of negatives, as it is put.
use Rattle.std.specs.Prelude.{ℕ, ◌+◌, List, [], ◌∷◌, ◌++◌, codes}
use Rattle.cs_bytes.specs.Names.{double_quote, newline, space}
use Rattle.cs_yacc.specs.Reading.File.{File}
use Rattle.cs_manifest.specs.Output.Names.{mark_text, token_words, tokens_below}
use Rattle.cs_manifest.specs.declared.filling.open.OpenEdit.{OpenEdit}
use Rattle.cs_manifest.specs.declared.filling.open.OpenEdit.TheVariants.{Insert, Replace}
use Rattle.cs_manifest.specs.declared.filling.open.OpenPair.{OpenPair}
use Rattle.cs_manifest.specs.declared.filling.open.OpenPair.TheVariants.{Behind, Before}
use Rattle.cs_manifest.specs.declared.filling.open.OpenNegative.{OpenNegative}
use Rattle.cs_manifest.specs.declared.filling.open.OpenPart.{OpenPart}
use Rattle.cs_manifest.specs.declared.filling.open.OpenPart.TheVariants as parts
use Rattle.cs_manifest.specs.Output.Words.{numbered_word}
use Rattle.cs_manifest.specs.Filling.Open.{LineParts, between_quotes, place_of}

-- the edit in front of its token
abbrev pub edit_words : OpenEdit → List ℕ
edit_words (Insert place) = numbered_word (codes " insert ") place
edit_words (Replace place) = numbered_word (codes " replace ") place

abbrev pub base_edit_words : ℕ → OpenEdit → List ℕ
base_edit_words base edit = numbered_word (codes " base ") base ++ edit_words edit

-- the pair in front of the token
abbrev pub left_words : File → OpenPair → List ℕ
left_words file (Behind left) = codes " pair" ++ space ∷ mark_text file left
left_words file (Before right) = codes " pair"

-- the pair behind the token, and its place in the edited list
abbrev pub right_words : File → OpenPair → ℕ → List ℕ
right_words file (Behind left) place = numbered_word (codes " at ") place
right_words file (Before right) place = (space ∷ mark_text file right) ++ numbered_word (codes " at ") (place + 1)

abbrev pub head_words : OpenNegative → List ℕ
head_words negatives = base_edit_words negatives.base negatives.edit

abbrev pub list_words : File → OpenNegative → List ℕ
list_words file negatives =
    right_words file negatives.pair (place_of negatives.edit) ++ tokens_below file negatives.front.now

abbrev pub text_hole_words : File → OpenNegative → List ℕ
text_hole_words file negatives =
    token_words file negatives.back.now ++ codes "\n  text \"" ++ between_quotes negatives.text_front.now

abbrev pub end_hole_words : OpenNegative → List ℕ
end_hole_words negatives = between_quotes negatives.text_back.now ++ double_quote ∷ newline ∷ []

-- each part
abbrev pub part_words : File → OpenNegative → OpenPart → List ℕ
part_words file negatives parts.Head = head_words negatives
part_words file negatives parts.Pair = left_words file negatives.pair
part_words file negatives parts.List = list_words file negatives
part_words file negatives parts.Text = text_hole_words file negatives
part_words file negatives parts.End = end_hole_words negatives

-- all of them, by the edit and the pair
abbrev pub parts_by : File → OpenNegative → OpenEdit → OpenPair → LineParts
parts_by file negatives edit pair = record {
  head = base_edit_words negatives.base edit;
  pair = left_words file pair;
  list = right_words file pair (place_of edit) ++ tokens_below file negatives.front.now;
  text = text_hole_words file negatives;
  end = end_hole_words negatives;
}

abbrev pub parts_of : File → OpenNegative → LineParts
parts_of file negatives = parts_by file negatives negatives.edit negatives.pair
