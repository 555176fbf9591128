-- The first match stands at the start; each next one behind the lexeme and the separator.
use Rattle.std.proofs.Common.{◌≡◌, ◌+◌, Some, None, sym, subst, arith, length, get_or}
use Rattle.std.specs.Prelude.{slice_get}
use Rattle.std.proofs.lemmas.Option.{slice_get-get_or}
use Rattle.cs_scanner.specs.Lexeme.Lexeme.{lexeme_in}
use Rattle.cs_texts.specs.declared.splice.marks.TextMark.{TextMark}
use Rattle.cs_texts.specs.Splice.Marks.{IsDue}
use Rattle.cs_texts.proofs.OnSplice.Aligning.{due_start, due_next, aligned_here, aligned_more}
use Rattle.cs_texts.proofs.splice.marks.are_lexemes.Goals as goal

pub loop-i-init : goal.loop-i-init
loop-i-init c = record {
  aligned = λ k mark lt at. absurd (omega (arith, lt));
  due = λ some. due_start c.args.lexemes.now c.args.separator.now c.args.tokens.now c.args.text.now c.requires.rule some;
}

pub loop-i-preserved : goal.loop-i-preserved
loop-i-preserved c =
    let lexemes = c.args.lexemes.now in
    let sep = c.args.separator.now in
    let tokens = c.args.tokens.now in
    let text = c.args.text.now in
    let i = c.loop-i.i in
    let at = c.loop-i.at in
    let lexeme = c.in-Some.lexeme.now in
    let none : TextMark = record { start = 0; end = 0; read = None } in
    let mark : TextMark = get_or c.args.marks.now i none in
    let here : slice_get c.args.marks.now i ≡ Some mark = slice_get-get_or c.args.marks.now i none (omega (arith, c.requires.all, c.loop-i-test.true)) in
    let has : lexeme_in lexemes (get_or tokens i 0) ≡ Some lexeme = sym c.in-Some.ensures in
    let due : IsDue lexemes sep tokens text i at = c.loop-i.invariant.due c.loop-i-test.true in
    let end : mark.end ≡ at + length lexeme = omega (arith, c.if-mark-at-2.false, c.if-mark-at-3.false) in
    record {
      aligned = aligned_more lexemes sep tokens text c.args.marks.now i mark c.loop-i.invariant.aligned here (aligned_here lexemes sep tokens text lexeme i at mark c.loop-i-test.true due has c.if-mark-at.false end);
      due = λ lt.
          let next : IsDue lexemes sep tokens text (i + 1) ((at + length lexeme) + length sep) = due_next lexemes sep tokens text lexeme i at lt due has in
          let place : (at + length lexeme) + length sep ≡ c.saturating_add-at.result = omega (arith, c.saturating_add-at.ensures, end, next.within) in
          subst (λ n. IsDue lexemes sep tokens text (i + 1) n) place next;
    }
