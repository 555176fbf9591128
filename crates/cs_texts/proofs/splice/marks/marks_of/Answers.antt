-- A match that gives nothing, or the list's next token.
use Rattle.std.proofs.Common.{◌≡◌, ◌+◌, ◌≤◌, [], ◌∷◌, ◌++◌, sym, ap, ◌∙◌, subst, arith, length, take}
use Rattle.std.proofs.lemmas.List.{length_push}
use Rattle.cs_scanner.specs.Scan.Compared.{scanning}
use Rattle.cs_texts.specs.declared.splice.marks.TextMark.{TextMark}
use Rattle.cs_texts.specs.Splice.Marks.{AreMarks, IsFront, IsMark}
use Rattle.cs_texts.specs.Splice.Settled.{IsCounted, tokens_of}
use Rattle.cs_texts.proofs.OnSplice.Marking.{front_next, front_still, marks_more}
use Rattle.cs_texts.proofs.splice.marks.marks_of.Goals as goal

pub matches-preserved-in_ok-push : goal.matches-preserved-in_ok-push
matches-preserved-in_ok-push c =
    let s = scanning c.args.scanner.now in
    let text = c.args.text.now in
    let tokens = c.args.tokens.now in
    let marks = c.matches.marks.items in
    let at = c.matches.at in
    let step = c.in-Some.step in
    let more = c.further-read.result in
    let count = c.in-Some-counted.field-0 in
    let many : c.len.result ≡ length marks = omega arith in
    let counted : IsCounted tokens (length marks) (tokens_of step.given) count = subst (λ n. IsCounted tokens n (tokens_of step.given) count) many c.in-Some-counted.ensures in
    let one : length (tokens_of step.given) ≡ 1 = ap (λ g. length (tokens_of g)) c.in-Token.is in
    let next : count ≡ length marks + 1 = omega (arith, counted.all, one) in
    let front : IsFront s text (take count tokens) (at + step.size) more = subst (λ ts. IsFront s text ts (at + step.size) more) (sym counted.front) (front_next s text (take (length marks) tokens) at c.matches.read more step c.matches.invariant.front c.in-Some.ensures c.further-read.ensures) in
    let mark : TextMark = record { start = at; end = at + step.size; read = more } in
    let is_mark : IsMark s text tokens (length marks) mark = record { starts = c.matches.invariant.front.passed; ends = subst (λ n. IsFront s text (take n tokens) (at + step.size) more) next front; order = omega arith } in
    let longer : length (marks ++ mark ∷ []) ≡ length marks + 1 = length_push marks mark in
    subst (λ ms. record { few : length ms ≤ length tokens; front : IsFront s text (take (length ms) tokens) (at + step.size) more; marks : AreMarks s text tokens ms }) (sym c.in_ok-push.ensures.items)
    (record {
      few = omega (arith, longer, next, counted.within);
      front = subst (λ n. IsFront s text (take n tokens) (at + step.size) more) (next ∙ sym longer) front;
      marks = marks_more s text tokens marks mark c.matches.invariant.marks is_mark;
    })

pub matches-preserved : goal.matches-preserved
matches-preserved c = record {
  few = c.matches.invariant.few;
  front = front_still (scanning c.args.scanner.now) c.args.text.now (take (length c.matches.marks.items) c.args.tokens.now) c.matches.at c.matches.read c.further-read.result c.in-Some.step
      c.matches.invariant.front c.in-Some.ensures c.further-read.ensures (ap tokens_of c.in_default-given.is);
  marks = c.matches.invariant.marks;
}
