-- The longest match, and what the kind of its rule gives.
use Rattle.std.proofs.Common.{◌≡◌, ◌<◌, ◌-◌, ◌++◌, Some, subst, ◌∙◌, arith, length, get_or}
use Rattle.std.specs.Prelude.{slice_get}
use Rattle.std.proofs.lemmas.List.{get_or_append_left, length-map}
use Rattle.std.proofs.lemmas.Option.{slice_get-get_or, slice_get_within}
use Rattle.cs_pattern_parts.specs.Tree.Pattern.{regex}
use Rattle.cs_pattern_parts.specs.declared.kind.Kind.{Kind}
use Rattle.cs_pattern_parts.specs.declared.kind.Kind.TheVariants.{Token}
use Rattle.cs_scanner.specs.Scan.Compared.{scanning}
use Rattle.cs_scanner.specs.Scan.Scan.{IsLongest, IsMatch}
use Rattle.cs_texts.proofs.OnSplice.Settling.{step_made}
use Rattle.cs_texts.proofs.splice.step.step_over.Goals as goal

pub returns : goal.returns
returns c =
    let scanner = c.args.scanner.now in
    let s = scanning scanner in
    let text = c.args.near.now ++ c.args.far.now in
    let rule = c.in_ok-rule.rule in
    let size = c.in_ok-rule.size in
    let place = c.place_of.result in
    let kind : Kind = get_or scanner.kinds.now place (Token 0) in
    let match : IsMatch s.patterns text rule size = subst (λ o. IsLongest s.patterns text o) c.in_ok-rule.was c.look_over-found.ensures.longest in
    let m = match.matches in
    let known : m.index < length s.patterns = slice_get_within s.patterns m.index m.pattern m.at in
    let many : length s.patterns ≡ length scanner.automaton.now.patterns = length-map scanner.automaton.now.patterns regex in
    let within : place < length scanner.kinds.now = omega (arith, c.place_of.ensures, m.number, known, many, scanner.has_kinds) in
    let at : slice_get scanner.kinds.now (rule - 1) ≡ Some kind = subst (λ k. slice_get scanner.kinds.now k ≡ Some kind) c.place_of.ensures (slice_get-get_or scanner.kinds.now place (Token 0) within) in
    let first : get_or text 0 0 ≡ get_or c.args.near.now 0 0 = get_or_append_left c.args.near.now c.args.far.now 0 0 c.requires.some in
    step_made s text c.look_over-found.result rule size kind c.in_ok-given.given c.in_ok-rule.was c.look_over-found.ensures at (λ t same. c.in_ok-given.ensures t (same ∙ first))
