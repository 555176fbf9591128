-- A match that gives nothing, or the list's next token; a token that isn't, or a stop; the end.
use Rattle.std.proofs.Common.{◌≡◌, slice_get, Some, ◌+◌, true, false, [], ◌∷◌, arith, take, drop, sym, subst, refl}
use Rattle.std.proofs.lemmas.List.{append-nil}
use Rattle.std.proofs.lemmas.Option.{slice_get_within}
use Rattle.cs_scanner.specs.Scan.Compared.{scanning}
use Rattle.cs_scanner.specs.Scan.Going.{IsBegunBy}
use Rattle.cs_scanner.proofs.OnScan.Together.{not_empty, is_empty, tail_is, take_next, begun_more, over_whole, end_common, stop_common, token_common, stop_not_whole, token_not_whole}
use Rattle.cs_scanner.proofs.scanning.comparing.agrees.Goals as goal
use Rattle.cs_scanner.proofs.scanning.comparing.agrees.Goals.{in-Pass, in-Give+else-not-is_at}

pub matches-preserved : goal.matches-preserved
matches-preserved c =
    let s = scanning c.args.scanner.now in
    let text = c.args.text.now in
    let tokens = c.args.tokens.now in
    let rest = c.matches.rest.now in
    let begun = c.matches.invariant.begun in
    elim c.match-advance.branch [
      | in-Pass w ↦
          let e = w.in-Pass.ensures in
          let i = w.after-is in
          let j = w.size-is in
          record {
            within = omega arith;
            begun = rw (i, j) (subst (IsBegunBy s text (take c.matches.after tokens)) (sym (tail_is w.in-Pass.size rest)) (subst (λ t. IsBegunBy s text t (drop w.in-Pass.size rest)) (append-nil (take c.matches.after tokens)) (begun_more s text (take c.matches.after tokens) rest w.in-Pass.size [] begun e)));
          }
      | in-Give+else-not-is_at w ↦
          let e = w.in-Give.ensures in
          let i = w.after-is in
          let j = w.size-is in
          let at = w.if-not-is_at.ensures.0 refl in
          record {
            within = omega (arith, slice_get_within tokens c.matches.after w.in-Give.token at);
            begun = rw (i, j) (subst (IsBegunBy s text (take (c.matches.after + 1) tokens)) (sym (tail_is w.in-Give.size rest)) (subst (λ t. IsBegunBy s text t (drop w.in-Give.size rest)) (sym (take_next c.matches.after w.in-Give.token tokens at)) (begun_more s text (take c.matches.after tokens) rest w.in-Give.size (w.in-Give.token ∷ []) begun e)));
          }
    ]

pub returns-then-not-is_at-clause-whole : goal.returns-then-not-is_at-clause-whole
returns-then-not-is_at-clause-whole c =
    let not_at : slice_get c.args.tokens.now c.matches.after ≡ Some c.in-Give.token → ⊥ = λ e. let yes : false ≡ true = c.if-not-is_at.ensures.1 e in cc in
    (λ e. cc, λ r. absurd (token_not_whole (scanning c.args.scanner.now) c.args.text.now c.args.tokens.now c.matches.rest.now c.matches.after c.in-Give.size c.in-Give.token c.matches.invariant.begun c.in-Give.ensures not_at c.matches.invariant.within r))

pub returns-then-not-is_at-clause-after : goal.returns-then-not-is_at-clause-after
returns-then-not-is_at-clause-after c =
    let not_at : slice_get c.args.tokens.now c.matches.after ≡ Some c.in-Give.token → ⊥ = λ e. let yes : false ≡ true = c.if-not-is_at.ensures.1 e in cc in
    token_common (scanning c.args.scanner.now) c.args.text.now c.args.tokens.now c.matches.rest.now c.matches.after c.in-Give.size c.in-Give.token c.matches.invariant.begun c.in-Give.ensures not_at c.matches.invariant.within

pub returns-in-Stop-clause-whole : goal.returns-in-Stop-clause-whole
returns-in-Stop-clause-whole c =
    let t = c.matches-test.ensures in
    let e = c.in-Stop.ensures in
    let b = c.matches.invariant.begun in
    (λ e. cc, λ r. absurd (stop_not_whole (scanning c.args.scanner.now) c.args.text.now c.args.tokens.now c.matches.rest.now _ b (not_empty c.matches.rest.now t) e r))

pub returns-in-Stop-clause-after : goal.returns-in-Stop-clause-after
returns-in-Stop-clause-after c =
    stop_common (scanning c.args.scanner.now) c.args.text.now c.args.tokens.now c.matches.rest.now c.matches.after c.matches.invariant.begun (not_empty c.matches.rest.now c.matches-test.ensures) c.in-Stop.ensures c.matches.invariant.within

pub returns-then-after-tokens-clause-whole : goal.returns-then-after-tokens-clause-whole
returns-then-after-tokens-clause-whole c =
    (λ e. over_whole (scanning c.args.scanner.now) c.args.text.now c.args.tokens.now c.matches.rest.now c.matches.after c.matches.invariant.begun (is_empty c.matches.rest.now c.matches-test.ensures) c.if-after-tokens.true, λ r. refl)

pub returns-else-after-tokens-clause-after : goal.returns-else-after-tokens-clause-after
returns-else-after-tokens-clause-after c =
    end_common (scanning c.args.scanner.now) c.args.text.now c.args.tokens.now c.matches.rest.now c.matches.after c.matches.invariant.begun (is_empty c.matches.rest.now c.matches-test.ensures) c.matches.invariant.within
