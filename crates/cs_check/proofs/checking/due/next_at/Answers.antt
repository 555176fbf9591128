-- The places up to that of the last token, and none behind it.
use Rattle.std.proofs.Common.{◌≡◌, ◌+◌, ◌<◌, ◌≤◌, ℕ, List, [], map, sym, ap, ◌∙◌, arith, Some}
use Rattle.std.specs.Prelude.{slice_get}
use Rattle.std.specs.List.{range_with_len}
use Rattle.std.proofs.lemmas.List.{append-nil}
use Rattle.cs_lines.specs.Lines.Line.{Next}
use Rattle.cs_check.specs.Passing.Head.{Due, TheRow}
use Rattle.cs_check.proofs.OnDues.{in_range, behind_range}
use Rattle.cs_check.proofs.checking.due.next_at.Goals as goal

pub returns-then-place-tokens : goal.returns-then-place-tokens
returns-then-place-tokens c =
    let many = c.args.grammar.now.tokens + 1 in
    let lines : List Due = map (TheRow Next) (range_with_len 0 many) in
    let within : c.args.place < many = omega (arith, c.if-place-tokens.true, c.tokens.ensures) in
    let none : 0 + c.args.place ≡ c.args.place = omega arith in
    sym (ap (λ (l : List Due). slice_get l c.args.place) (sym (append-nil lines)) ∙ in_range (TheRow Next) [] 0 many c.args.place within ∙ ap (λ (n : ℕ). Some (TheRow Next n)) none)

pub returns-else-place-tokens : goal.returns-else-place-tokens
returns-else-place-tokens c =
    let many = c.args.grammar.now.tokens + 1 in
    let lines : List Due = map (TheRow Next) (range_with_len 0 many) in
    let past : many ≤ c.args.place = omega (arith, c.if-place-tokens.false, c.tokens.ensures) in
    sym (ap (λ (l : List Due). slice_get l c.args.place) (sym (append-nil lines)) ∙ behind_range (TheRow Next) [] 0 many c.args.place past)
