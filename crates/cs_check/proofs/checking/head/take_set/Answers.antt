-- The names of the line are put into the sets that were claimed before, or into those with nothing in them.
use Rattle.std.proofs.Common.{◌≡◌, ℕ, List, Option, sym, ap, ◌∙◌, subst}
use Rattle.std.specs.Prelude.{IfNone}
use Rattle.cs_lines.specs.declared.lines.line.Line as held
use Rattle.cs_lines.specs.Lines.Line.{Line, SetLine}
use Rattle.cs_lines.specs.Lines.Read.{Tells, names_in, set_kind}
use Rattle.cs_closed.specs.Closed.Sets.{PlainSets}
use Rattle.cs_check.specs.Checking.Excluded.{AreSetsIn}
use Rattle.cs_check.specs.Checking.Head.{IsUnclaimed}
use Rattle.cs_check.proofs.OnChecking.HeadClaims.{set_judged}
use Rattle.cs_check.proofs.checking.head.take_set.Goals as goal

pub returns-clause-judged : goal.returns-clause-judged
returns-clause-judged c = λ lines l sets unclaimed next tells takes.
    let file = c.args.file.now in
    let kind = set_kind c.args.kind in
    let names = names_in c.in-Set.names in
    let told = subst (λ (x : Line). Tells c.args.line.now x) takes.1 tells in
    let read = subst (λ (x : held.Line). Tells x (SetLine kind takes.0)) c.in-Set.is told in
    let is : l ≡ SetLine kind names = takes.1 ∙ ap (λ (x : List (List ℕ)). SetLine kind x) (sym read.1) in
    let was = sym c.take.ensures.value in
    let claimed = c.in_ok-held.ensures.claimed lines
    (subst (λ (t : Option PlainSets). AreSetsIn file lines t) was sets) (subst (λ (t : Option PlainSets). IfNone t (IsUnclaimed lines)) was unclaimed) in
    set_judged file lines kind names l is next c.in_ok-held.held c.claim_set-known.new.sets claimed
    c.claim_set-known.result c.claim_set-known.ensures.known c.claim_set-known.ensures.claimed
