-- A list of tokens with its text and the marks of its matches. Working words of proofs.
use Rattle.std.specs.Prelude.{◌≡◌, ℕ, ◌-◌, List, ◌++◌, Option, IfSome, length, take, drop}
use Rattle.cs_scanner.specs.Scan.Compared.{scanning}
use Rattle.cs_scanner.specs.Scan.Scan.{Scans}
use Rattle.cs_scanner.specs.Scan.Going.{IsBegunBy}
use Rattle.cs_texts.specs.Rendering.Rendering.{AreTokens, IsRuleText}
use Rattle.cs_texts.specs.declared.rendering.render_work.RenderWork.{RenderWork}
use Rattle.cs_texts.specs.declared.splice.marks.TextMark.{TextMark}
use Rattle.cs_texts.specs.declared.splice.marked.Marked.{Marked}
use Rattle.cs_texts.specs.Splice.Marks.{AreAligned, AreAllMarks, IsAligned, IsMark}
use Rattle.cs_texts.specs.Splice.Spliced.{IsTextNear}

-- its text is that of its tokens, and its marks are those of its matches
pub record IsMarkedList (p : Marked) : Type 0 where
  pub tokens : AreTokens p.work.now.lexemes.now p.tokens.now
  pub rendered : IsTextNear p.work.now p.tokens.now p.text.items
  pub marks : AreAllMarks (scanning p.work.now.scanner.now) p.text.items p.tokens.now p.marks.items
  pub aligned : AreAligned p.work.now.lexemes.now p.work.now.separator.now p.tokens.now p.text.items p.marks.items

-- what is said of a list that could be marked, by which those near it can be spliced
abbrev pub IfMarkedList : RenderWork → Option Marked → Type 0
IfMarkedList work found = IfSome found (λ p. IsMarkedList p × (p.work.now ≡ work))

-- the mark of the match that gives the token at the place
pub record IsMarkAt (p : Marked) (place : ℕ) (mark : TextMark) : Type 0 where
  pub is_mark : IsMark (scanning p.work.now.scanner.now) p.text.items p.tokens.now place mark
  pub aligned : IsAligned p.work.now.lexemes.now p.work.now.separator.now p.tokens.now p.text.items place mark

-- the rule's text of the first so many tokens; its scan passes them if this is put behind it, whatever comes then
pub record IsFrontFor (p : Marked) (count : ℕ) (put front : List ℕ) : Type 0 where
  pub rule : IsRuleText p.work.now.lexemes.now p.work.now.separator.now (take count p.tokens.now) front
  pub passes : (rest : List ℕ) → IsBegunBy (scanning p.work.now.scanner.now) (front ++ put ++ rest) (take count p.tokens.now) (put ++ rest)

-- the rule's text of the last so many tokens, which scans to them
pub record IsBack (p : Marked) (count : ℕ) (back : List ℕ) : Type 0 where
  pub rule : IsRuleText p.work.now.lexemes.now p.work.now.separator.now (drop (length p.tokens.now - count) p.tokens.now) back
  pub scans : Scans (scanning p.work.now.scanner.now) back (drop (length p.tokens.now - count) p.tokens.now)
