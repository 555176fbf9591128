-- One mark more; what is marked stands apart.
use Rattle.std.proofs.Common.{◌≡◌, ◌+◌, ◌∷◌, sym, ap, ◌∙◌, subst, true, length}
use Rattle.std.proofs.lemmas.List.{length_push}
use Rattle.cs_texts.specs.Splice.Apart.{MarkApart, StandsApart}
use Rattle.cs_texts.proofs.OnSplice.Standing.{mark_more, scan_back}
use Rattle.cs_texts.proofs.splice.apart.Apart.new.Goals as goal

pub loop-place-preserved : goal.loop-place-preserved
loop-place-preserved c =
    let work = c.args.work.now in
    let marks = c.loop-place.marks.items in
    let mark = c.stands_apart.result in
    let all = c.loop-place.invariant.all in
    let here : mark ≡ true → StandsApart work (length marks + 1) = λ yes. subst (λ n. StandsApart work (n + 1)) (sym all) (c.stands_apart.ensures yes) in
    record {
      all = ap length c.in_ok-push.ensures.items ∙ length_push marks mark ∙ ap (λ n. n + 1) all;
      apart = subst (λ ms. MarkApart work ms) (sym c.in_ok-push.ensures.items) (mark_more work marks mark c.loop-place.invariant.apart here);
    }

pub returns-clause-lexemes : goal.returns-clause-lexemes
returns-clause-lexemes c token is = let apart = c.loop-place.invariant.apart token is in (apart.first ∷ apart.rest, apart.has)

pub returns-clause-scan : goal.returns-clause-scan
returns-clause-scan c = scan_back c.args.work.now c.loop-place.marks.items c.loop-place.invariant.apart
