-- The first word of a line is one of twelve.
use Rattle.std.proofs.Common.{◌≡◌, ℕ, true, List, [], ◌∷◌, ◌++◌, Option, None, Some, refl, sym, ap, ◌∙◌, subst}
use Rattle.std.specs.Prelude.{MatchOption}
use Rattle.cs_lines.specs.declared.lines.keyword.Keyword.{Keyword}
use Rattle.cs_lines.specs.declared.lines.keyword.Keyword.TheVariants as first
use Rattle.cs_lines.specs.declared.lines.line.Line as held
use Rattle.cs_lines.specs.Lines.Line.{Line, Opening, Weighing, TokenLine, RuleLine, LexemeLine, SetLine, RowLine, CaseLine, DeriveLine, TokensLine, TextLine, NoLexemeLine, NoScanLine, GoalLine, BaseLine, NegativeLine, EndLine}
use Rattle.cs_lines.specs.Lines.Splits.{split}
use Rattle.cs_lines.specs.Lines.Texts.{joined, words}
use Rattle.cs_lines.specs.Lines.Keywords.{keyword}
use Rattle.cs_lines.specs.Lines.Read.{IsReadAs, SaysNone, Answers}
use Rattle.cs_lines.proofs.OnTexts.Words.{free, AreFree}
use Rattle.cs_lines.proofs.OnLines.Splits.{joined_split, split_free, next_word}
use Rattle.cs_lines.proofs.OnLines.Forms.{says_text}

abbrev kind : Line → Keyword
kind Opening = first.Conform
kind (Weighing weigh) = first.Weigh
kind (TokenLine n name) = first.Token
kind (RuleLine n left right) = first.Rule
kind (LexemeLine name text) = first.Lexeme
kind (SetLine k named) = first.Closed
kind (RowLine k name named) = first.Closed
kind (CaseLine n size) = first.Case
kind (DeriveLine rules) = first.Nothing
kind (TokensLine named) = first.Nothing
kind (TextLine text) = first.Nothing
kind (NoLexemeLine name) = first.Nothing
kind (NoScanLine after) = first.Nothing
kind (GoalLine n goal verdict) = first.Goal
kind (BaseLine n goal) = first.Base
kind (NegativeLine n base edit left right at) = first.Negative
kind (EndLine counts) = first.End

abbrev behind_first : List (List ℕ) → List ℕ
behind_first [] = []
behind_first (w ∷ ws) = joined ws

begins : (l : Line) → joined (words l) ≡ keyword (kind l) ++ 32 ∷ behind_first (words l)
begins Opening = refl
begins (Weighing weigh) = refl
begins (TokenLine n name) = refl
begins (RuleLine n left right) = refl
begins (LexemeLine name None) = refl
begins (LexemeLine name (Some text)) = refl
begins (SetLine k named) = refl
begins (RowLine k name named) = refl
begins (CaseLine n size) = refl
begins (DeriveLine rules) = refl
begins (TokensLine named) = refl
begins (TextLine text) = refl
begins (NoLexemeLine name) = refl
begins (NoScanLine after) = refl
begins (GoalLine n goal verdict) = refl
begins (BaseLine n goal) = refl
begins (NegativeLine n base edit left right at) = refl
begins (EndLine counts) = refl

keyword_free : (k : Keyword) → free (keyword k) ≡ true
keyword_free first.Nothing = refl
keyword_free first.Negative = refl
keyword_free first.Goal = refl
keyword_free first.Case = refl
keyword_free first.Base = refl
keyword_free first.End = refl
keyword_free first.Closed = refl
keyword_free first.Lexeme = refl
keyword_free first.Rule = refl
keyword_free first.Token = refl
keyword_free first.Weigh = refl
keyword_free first.Conform = refl

-- a text whose first word is none of them says no line
pub no_keyword : (text word : List ℕ) (others : List (List ℕ)) → split text ≡ word ∷ others → ((k : Keyword) → word ≡ keyword k → ⊥) → SaysNone text
no_keyword text word others is none l h =
    let whole : joined (word ∷ others) ≡ joined (words l) = sym (ap joined is) ∙ joined_split text ∙ says_text text l h in
    let are_free : AreFree (word ∷ others) = subst AreFree is (split_free text) in
    none (kind l) (next_word (keyword (kind l)) (behind_first (words l)) word others are_free (keyword_free (kind l)) (whole ∙ begins l)).same

-- what is answered of its words is answered of the text
pub answered : (text word first_word : List ℕ) (others : List (List ℕ)) (result : Option held.Line) → split text ≡ word ∷ others → word ≡ first_word → Answers (first_word ∷ others) result → MatchOption result (SaysNone text) (IsReadAs text)
answered text word first_word others result is same answers =
    let whole : joined (first_word ∷ others) ≡ text = ap (λ (w : List ℕ). joined (w ∷ others)) (sym same) ∙ sym (ap joined is) ∙ joined_split text in
    subst (λ (t : List ℕ). MatchOption result (SaysNone t) (IsReadAs t)) whole answers
