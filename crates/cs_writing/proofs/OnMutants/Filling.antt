-- A row filled with a token.
use Rattle.std.proofs.Common.{◌≡◌, ℕ, ◌+◌, List, [], ◌∷◌, ◌++◌, Option, Some, refl, sym, ap, ◌∙◌, subst, arith, append_assoc, take, drop}
use Rattle.std.specs.Prelude.{IfSome}
use Rattle.std.specs.Borrow.{Bor}
use Rattle.std.proofs.lemmas.List.Elements.{All-append, All-cons, All-drop, All-take}
use Rattle.cs_bytes.specs.Names.{space}
use Rattle.cs_manifest.specs.Output.Names.{token_of}
use Rattle.cs_manifest.specs.Manifest.Lines.{negative_lines}
use Rattle.cs_manifest.specs.Filling.Open.{AreLinesOf, edit_with, filled, negative_by, place_of}
use Rattle.cs_manifest.specs.declared.filling.open.OpenEdit.{OpenEdit}
use Rattle.cs_manifest.specs.declared.filling.open.OpenEdit.TheVariants.{Insert, Replace}
use Rattle.cs_manifest.specs.declared.filling.open.OpenPair.{OpenPair}
use Rattle.cs_manifest.specs.declared.filling.open.OpenPair.TheVariants.{Behind, Before}
use Rattle.cs_grammar.specs.declared.symbol.Mark.TheVariants.{Token}
use Rattle.cs_mutate.specs.Edit.{edited}
use Rattle.cs_mutate.specs.declared.negative.Negative.{Negative}
use Rattle.cs_texts.specs.Rendering.Rendering.{IsRuleText, Text}
use Rattle.cs_scanner.specs.Scan.Compared.{scanning}
use Rattle.cs_scanner.specs.Scan.Scan.{Scans}
use Rattle.cs_texts.specs.Splice.Apart.{AreApart, IsApart}
use Rattle.cs_writing.specs.Mutants.Makers.{Making}
use Rattle.cs_writing.specs.Mutants.Rows.{AreRows, IsFilled, IsInPair, IsOpenPairOf, IsRow, IsRowOf, IsTextBehind, IsTextInFront, IsTold, Opens, behind_place, row_for}
use Rattle.cs_writing.specs.declared.mutants.opened.Opened.{Opened}
use Rattle.cs_writing.specs.declared.mutants.row.Row.{Row}
use Rattle.cs_writing.specs.declared.mutants.rows.Rows.{Rows}
use Rattle.cs_writing.specs.declared.mutants.tools.ToldToken.{ToldToken}
use Rattle.cs_writing.proofs.OnPlan.Texts.{whole_text}

-- the edited list around the token
pub edited_open : (w : List ℕ) (edit : OpenEdit) (token : ℕ) → edited w (edit_with edit token) ≡ take (place_of edit) w ++ token ∷ drop (behind_place edit) w
edited_open w (Insert place) token = append_assoc (take place w) (token ∷ []) (drop (place + 0) w) ∙ ap (λ (n : ℕ). take place w ++ token ∷ drop n w) (omega arith)
edited_open w (Replace place) token = append_assoc (take place w) (token ∷ []) (drop (place + 1) w)

-- the edit is that of the negative
pub edit_of : (edit : OpenEdit) (pair : OpenPair) (token : ℕ) → (negative_by edit pair token).edit ≡ edit_with edit token
edit_of edit (Behind left) token = refl
edit_of edit (Before right) token = refl

-- with a token the negative has the pair that this makes
pair_of : (edit : OpenEdit) (pair : OpenPair) (token place t : ℕ) → place_of edit ≡ place → token ≡ t → IsOpenPairOf (negative_by edit pair token) place t pair
pair_of edit (Behind left) token place t at is = (refl, ap Token is, at)
pair_of edit (Before right) token place t at is = (ap Token is, refl, ap (λ (n : ℕ). n + 1) at)

-- edits that put a token at one place are told apart by place and token
same_open : (a b : OpenEdit) (s t : ℕ) → edit_with a s ≡ edit_with b t → (place_of a ≡ place_of b) × (s ≡ t)
same_open (Insert p) (Insert q) s t e = (cc, cc)
same_open (Replace p) (Replace q) s t e = (cc, cc)
same_open (Insert p) (Replace q) s t e = absurd (cc)
same_open (Replace p) (Insert q) s t e = absurd (cc)

-- the token of a negative that can be told without it is in its pair
pub in_pair : (negative : Negative) (edit : OpenEdit) (token : ℕ) → negative.edit ≡ edit_with edit token → Opens negative → IsInPair negative (place_of edit) token
in_pair negative edit token put opens =
    let o : Opened = opens.0 in
    let same = same_open o.edit edit o.token token (sym (edit_of o.edit o.pair o.token) ∙ ap (λ (n : Negative). n.edit) (sym opens.1) ∙ put) in
    (o.pair, subst (λ (n : Negative). IsOpenPairOf n (place_of edit) token o.pair) (sym opens.1) (pair_of o.edit o.pair o.token (place_of edit) token same.0 same.1))

module _ (making : Making) (edit : OpenEdit) (pair : OpenPair) (token : ℕ) (row : Row) (told : ToldToken) where
  pub filled_row : AreApart making.tools.apart making.base → IsTold making.tools token told → IsRowOf making edit pair row → IsFilled making (negative_by edit pair token) row.lines told.name.now told.lexeme.now
  filled_row apart is of =
      let work = making.tools.work in
      let file = making.tools.file in
      let w = making.base in
      let n = negative_by edit pair token in
      let front = take (place_of edit) w in
      let back = drop (behind_place edit) w in
      let lexeme = is.lexeme.lexeme in
      let text = (of.text_front ++ lexeme) ++ of.text_back in
      let list : edited w n.edit ≡ front ++ token ∷ back = ap (λ e. edited w e) (edit_of edit pair token) ∙ edited_open w edit token in
      let P = IsApart making.tools.apart in
      let all : AreApart making.tools.apart (front ++ token ∷ back) = All-append P front (token ∷ back) (All-take P (place_of edit) w apart) (All-cons P token back is.apart (All-drop P (behind_place edit) w apart)) in
      let rule : IsRuleText work.lexemes.now work.separator.now (front ++ token ∷ back) text = whole_text work.lexemes.now work.separator.now front back of.text_front of.text_back token lexeme of.in_front of.behind is.lexeme.has in
      let scans : Scans (scanning work.scanner.now) text (front ++ token ∷ back) = is.scan (front ++ token ∷ back) text all rule in
      record {
        told = record { negative = n; rendered = Some (Text text) };
        of = record {
          is_of = refl;
          text = subst (λ (l : List ℕ). IsRuleText work.lexemes.now work.separator.now l text × Scans (scanning work.scanner.now) text l) (sym list) (rule, scans);
        };
        lines = λ number.
            ap (λ (name : List ℕ). filled row.lines number name told.lexeme.now) is.name
            ∙ ap (λ (l : List ℕ). filled row.lines number (space ∷ token_of file token) l) is.lexeme.is
            ∙ of.lines number token lexeme
            ∙ ap (λ (l : List ℕ). negative_lines file number making.number n l (Some (Text text))) (sym list);
      }

-- the row of lines that were made of an open negative
pub row_made : (making : Making) (row : Row) (front back text_front text_back : Bor (List ℕ)) → front.now ≡ take (place_of row.edit) making.base → back.now ≡ drop (behind_place row.edit) making.base
    → IsTextInFront making.tools.work.lexemes.now making.tools.work.separator.now front.now text_front.now
    → IsTextBehind making.tools.work.lexemes.now making.tools.work.separator.now back.now text_back.now
    → AreLinesOf making.tools.file (record { base = making.number; edit = row.edit; pair = row.pair; front = front; back = back; text_front = text_front; text_back = text_back }) row.lines
    → IsRow making row
row_made making row front back text_front text_back front_is back_is in_front behind lines =
    let lexemes = making.tools.work.lexemes.now in
    let sep = making.tools.work.separator.now in
    let tell = λ (number token : ℕ) (lexeme list : List ℕ).
    negative_lines making.tools.file number making.number (negative_by row.edit row.pair token) list (Some (Text ((text_front.now ++ lexeme) ++ text_back.now))) in
    record {
      edit_is = refl;
      pair_is = refl;
      text_front = text_front.now;
      text_back = text_back.now;
      in_front = subst (λ (l : List ℕ). IsTextInFront lexemes sep l text_front.now) front_is in_front;
      behind = subst (λ (l : List ℕ). IsTextBehind lexemes sep l text_back.now) back_is behind;
      lines = λ number token lexeme.
          lines number token lexeme
          ∙ ap (λ (l : List ℕ). tell number token lexeme (l ++ token ∷ back.now)) front_is
          ∙ ap (λ (l : List ℕ). tell number token lexeme (take (place_of row.edit) making.base ++ token ∷ l)) back_is;
    }

-- a row that is there is one of the base
pub row_there : (making : Making) (rows : Rows) (pair : OpenPair) (row : Row) → AreRows making rows → row_for rows pair ≡ Some row → IsRow making row
row_there making rows (Behind left) row are there = subst (λ (o : Option Row). IfSome o (IsRow making)) there are.behind
row_there making rows (Before right) row are there = subst (λ (o : Option Row). IfSome o (IsRow making)) there are.before
