-- A match of what is wanted next; the end.
use Rattle.std.proofs.Common.{◌≡◌, ◌-◌, ◌++◌, take, drop, length, sym, ap, ◌∙◌, subst}
use Rattle.std.proofs.lemmas.List.{drop-append-le}
use Rattle.cs_scanner.specs.Scan.Compared.{scanning}
use Rattle.cs_scanner.specs.Scan.Going.{IsBegunBy}
use Rattle.cs_scanner.proofs.OnScan.Together.{tail_is, begun_more}
use Rattle.cs_texts.specs.Splice.Settled.{tokens_of}
use Rattle.cs_texts.proofs.splice.step.arrives.Goals as goal

pub matches-preserved : goal.matches-preserved
matches-preserved c =
    let s = scanning c.args.scanner.now in
    let text = c.args.near.now ++ c.args.far.now in
    let rest = c.matches.rest.now in
    let far = c.args.far.now in
    let step = c.in-Some.step in
    let front = take c.matches.count c.args.tokens.now in
    let counted = c.in-Some-counted.ensures in
    let more = begun_more s text front (rest ++ far) step.size (tokens_of step.given) c.matches.invariant.begun c.in-Some.ensures.gives in
    let cut : drop step.size (rest ++ far) ≡ take (length rest - step.size) (drop step.size rest) ++ far =
    drop-append-le step.size rest far c.if-step-rest.false ∙ ap (λ r. r ++ far) (sym (tail_is step.size rest)) in
    record {
      within = counted.within;
      begun = subst (λ t. IsBegunBy s text t (take (length rest - step.size) (drop step.size rest) ++ far)) (sym counted.front) (subst (λ r. IsBegunBy s text (front ++ tokens_of step.given) r) cut more);
    }
