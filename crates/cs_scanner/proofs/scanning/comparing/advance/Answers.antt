-- A match that gives tokens is the longest match, and its kind gives none.
use Rattle.std.proofs.Common.{◌≡◌, ℕ, ◌-◌, List, Some, None, slice_get, subst, ap, sym, ◌∙◌}
use Rattle.std.proofs.lemmas.Option.{get_or_from_slice_get}
use Rattle.cs_pattern_parts.specs.declared.kind.Kind.{Kind}
use Rattle.cs_pattern_parts.specs.declared.kind.Kind.TheVariants.{Token}
use Rattle.cs_scanner.specs.declared.scanning.comparing.GivenOrStop.{GivenOrStop}
use Rattle.cs_scanner.specs.declared.scanning.comparing.GivenOrStop.TheVariants.{Stop}
use Rattle.cs_scanner.specs.Scan.Going.{tokens_of}
use Rattle.cs_scanner.specs.Scan.Scan.{given}
use Rattle.cs_scanner.proofs.OnScan.OneMatch.{match_one}
use Rattle.cs_scanner.proofs.scanning.comparing.advance.Goals as goal

none_given : (literals text tokens : List ℕ) (kind other : Kind) (g : GivenOrStop) → kind ≡ other → tokens_of g ≡ given literals kind text → g ≡ Stop → given literals other text ≡ Some tokens → ⊥
none_given literals text tokens kind other g same answer stop gives =
    let none : None ≡ Some tokens = ap tokens_of (sym stop) ∙ answer ∙ ap (λ k. given literals k text) same ∙ gives in
    cc

pub returns-in-Stop : goal.returns-in-Stop
returns-in-Stop c size tokens g =
    let one = match_one _ c.args.text.now _ _ _ _ g.is_match c.in-Some.ensures in
    let kinds = c.args.scanner.now.kinds.now in
    let at : slice_get kinds c.place_of.result ≡ Some g.kind = subst (λ k. slice_get kinds k ≡ Some g.kind) (ap (λ n. n - 1) one.0 ∙ sym c.place_of.ensures) g.at in
    none_given _ c.args.text.now tokens _ g.kind c.give.result (get_or_from_slice_get kinds c.place_of.result g.kind (Token 0) at) c.give.ensures c.in-Stop.is g.gives
