-- The row has the name that is due, and its names are put into the sets that were claimed before.
use Rattle.std.proofs.Common.{◌≡◌, ℕ, List, Option, sym, ap, ◌∙◌, subst}
use Rattle.cs_lines.specs.declared.lines.line.Line as held
use Rattle.cs_lines.specs.Lines.Line.{Line, RowLine}
use Rattle.cs_lines.specs.Lines.Read.{Tells, names_in, row_kind}
use Rattle.cs_closed.specs.Closed.Sets.{PlainSets}
use Rattle.cs_check.specs.Checking.Excluded.{AreSetsIn}
use Rattle.cs_check.proofs.OnChecking.HeadClaims.{row_judged}
use Rattle.cs_check.proofs.checking.head.take_row.Goals as goal

pub returns-in-Some-clause-judged : goal.returns-in-Some-clause-judged
returns-in-Some-clause-judged c = λ lines l sets unclaimed next tells takes.
    let file = c.args.file.now in
    let kind = row_kind c.args.kind in
    let name = c.in-Row.name.now in
    let names = names_in c.in-Row.names in
    let told = subst (λ (x : Line). Tells c.args.line.now x) takes.2 tells in
    let read = subst (λ (x : held.Line). Tells x (RowLine kind takes.0 takes.1)) c.in-Row.is told in
    let is : l ≡ RowLine kind name names = takes.2 ∙ ap (λ (x : List ℕ). RowLine kind x takes.1) (sym read.1) ∙ ap (λ (x : List (List ℕ)). RowLine kind name x) (sym read.2) in
    let claimed = subst (λ (t : Option PlainSets). AreSetsIn file lines t) c.in-Some.is sets in
    row_judged file lines kind c.args.number name names l is (c.is_row_name.ensures.0 c.if-not-is_row_name.false) next c.in-Some.held c.claim_row.new.sets claimed
    c.claim_row.result c.claim_row.ensures.known c.claim_row.ensures.claimed
