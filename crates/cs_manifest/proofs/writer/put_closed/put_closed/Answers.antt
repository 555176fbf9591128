-- The closed sets are of the file's grammar, so each number in them has a name, and their lines follow one another.
use Rattle.std.proofs.Common.{◌≡◌, ◌<◌, All, List, ℕ, ap, codes, length, subst, sym}
use Rattle.cs_grammar.specs.declared.symbol.Mark.{Mark}
use Rattle.cs_grammar.specs.declared.symbol.Mark.TheVariants.{Begin}
use Rattle.cs_manifest.specs.Output.Words.{with_numbers}
use Rattle.cs_manifest.specs.Output.Names.{AreNamedMarks, AreNamedTokens}
use Rattle.cs_manifest.proofs.OnOutput.Pieces.{spelled, then}
use Rattle.cs_manifest.specs.Manifest.SharedLines.{edge_line, next_line, token_next_line}
use Rattle.cs_manifest.proofs.OnManifest.Naming.{begin_named, first_few, first_many, first_named, last_few, last_many, last_named, next_few, next_many, next_named, sets_named}
use Rattle.cs_manifest.proofs.writer.put_closed.put_closed.Goals as goal

pub returns : goal.returns
returns g c =
    let file = c.args.file.now in
    let first = spelled _ (ap (with_numbers (edge_line (codes "closed first ") file)) c.first.ensures) c.put_edges.ensures in
    let last = spelled _ (ap (with_numbers (edge_line (codes "closed last ") file)) c.last.ensures) c.put_edges-2.ensures in
    let begin = spelled _ (ap (next_line file Begin) c.begin.ensures) c.put_next.ensures in
    let next = spelled _ (ap (with_numbers (token_next_line file)) c.next.ensures) c.put_token_nexts.ensures in
    then (then (then (then c.put_sets.ensures first) last) begin) next

pub put_sets-requires : goal.put_sets-requires
put_sets-requires g c = sets_named c.args.file.now c.token_names-named.ensures.named c.args.closed.now c.requires

pub put_edges-requires-clause-many : goal.put_edges-requires-clause-many
put_edges-requires-clause-many g c = subst (λ (l : List (List ℕ)). length l ≡ length c.args.file.now.nonterminal_names) (sym c.first.ensures) (first_many c.args.file.now c.token_names-named.ensures.named c.args.closed.now c.requires)

pub put_edges-requires-clause-few : goal.put_edges-requires-clause-few
put_edges-requires-clause-few g c = subst (λ (l : List (List ℕ)). length l < 65536) (sym c.first.ensures) (first_few c.args.file.now c.token_names-named.ensures.named c.args.closed.now c.requires)

pub put_edges-requires-clause-named : goal.put_edges-requires-clause-named
put_edges-requires-clause-named g c = subst (λ (l : List (List ℕ)). All (AreNamedTokens c.args.file.now) l) (sym c.first.ensures) (first_named c.args.file.now c.token_names-named.ensures.named c.args.closed.now c.requires)

pub put_edges-requires-2-clause-many : goal.put_edges-requires-2-clause-many
put_edges-requires-2-clause-many g c = subst (λ (l : List (List ℕ)). length l ≡ length c.args.file.now.nonterminal_names) (sym c.last.ensures) (last_many c.args.file.now c.token_names-named.ensures.named c.args.closed.now c.requires)

pub put_edges-requires-2-clause-few : goal.put_edges-requires-2-clause-few
put_edges-requires-2-clause-few g c = subst (λ (l : List (List ℕ)). length l < 65536) (sym c.last.ensures) (last_few c.args.file.now c.token_names-named.ensures.named c.args.closed.now c.requires)

pub put_edges-requires-2-clause-named : goal.put_edges-requires-2-clause-named
put_edges-requires-2-clause-named g c = subst (λ (l : List (List ℕ)). All (AreNamedTokens c.args.file.now) l) (sym c.last.ensures) (last_named c.args.file.now c.token_names-named.ensures.named c.args.closed.now c.requires)

pub put_next-requires-clause-marks : goal.put_next-requires-clause-marks
put_next-requires-clause-marks g c = subst (λ (l : List Mark). AreNamedMarks c.args.file.now l) (sym c.begin.ensures) (begin_named c.args.file.now c.token_names-named.ensures.named c.args.closed.now c.requires)

pub put_token_nexts-requires-clause-many : goal.put_token_nexts-requires-clause-many
put_token_nexts-requires-clause-many g c = subst (λ (l : List (List Mark)). length l ≡ length c.args.file.now.token_names) (sym c.next.ensures) (next_many c.args.file.now c.token_names-named.ensures.named c.args.closed.now c.requires)

pub put_token_nexts-requires-clause-few : goal.put_token_nexts-requires-clause-few
put_token_nexts-requires-clause-few g c = subst (λ (l : List (List Mark)). length l < 65536) (sym c.next.ensures) (next_few c.args.file.now c.token_names-named.ensures.named c.args.closed.now c.requires)

pub put_token_nexts-requires-clause-named : goal.put_token_nexts-requires-clause-named
put_token_nexts-requires-clause-named g c = subst (λ (l : List (List Mark)). All (AreNamedMarks c.args.file.now) l) (sym c.next.ensures) (next_named c.args.file.now c.token_names-named.ensures.named c.args.closed.now c.requires)
