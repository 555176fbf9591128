-- A match that gives nothing, or a token; a stop; the end.
use Rattle.std.proofs.Common.{[], ◌∷◌, ◌++◌, List, ℕ, drop, sym, subst}
use Rattle.std.proofs.lemmas.List.{append-nil}
use Rattle.cs_scanner.specs.Scan.Compared.{scanning}
use Rattle.cs_scanner.specs.Scan.Going.{IsPassed}
use Rattle.cs_scanner.proofs.OnScan.Together.{not_empty, is_empty, tail_is}
use Rattle.cs_scanner.proofs.OnScan.Stopping.{passed_none, passed_more, stops_now, scans_now}
use Rattle.cs_scanner.proofs.scanning.tokens.scan.Goals as goal
use Rattle.cs_scanner.proofs.scanning.tokens.scan.Goals.{in-Pass, in-Give+in_ok-push-in-Give}

pub matches-init : goal.matches-init
matches-init c = rw c.new-tokens.ensures.items (passed_none (scanning c.args.scanner.now) c.args.text.now)

pub matches-preserved : goal.matches-preserved
matches-preserved c =
    let s = scanning c.args.scanner.now in
    let text = c.args.text.now in
    let rest = c.matches.rest.now in
    let given = c.matches.tokens.items in
    let h = c.matches.invariant in
    elim c.match-advance.branch [
      | in-Pass w ↦
          let size = w.in-Pass.size in
          let P : List ℕ → Type 0 = λ t. IsPassed s text t (drop size rest) in
          let passed = subst P (append-nil given) (passed_more s text given rest size [] h w.in-Pass.ensures) in
          rw (w.tokens-is, w.size-is) (subst (IsPassed s text given) (sym (tail_is size rest)) passed)
      | in-Give+in_ok-push-in-Give w ↦
          let size = w.in-Give.size in
          let token = w.in-Give.token in
          let passed = passed_more s text given rest size (token ∷ []) h w.in-Give.ensures in
          rw (w.tokens-is, w.size-is, w.in_ok-push-in-Give.ensures.items) (subst (IsPassed s text (given ++ token ∷ [])) (sym (tail_is size rest)) passed)
    ]

pub returns-in-Stop : goal.returns-in-Stop
returns-in-Stop c = stops_now (scanning c.args.scanner.now) c.args.text.now c.matches.tokens.items c.matches.rest.now c.matches.invariant (not_empty c.matches.rest.now c.matches-test.ensures) c.in-Stop.ensures

pub returns : goal.returns
returns c = scans_now (scanning c.args.scanner.now) c.args.text.now c.matches.tokens.items c.matches.rest.now c.matches.invariant (is_empty c.matches.rest.now c.matches-test.ensures)
