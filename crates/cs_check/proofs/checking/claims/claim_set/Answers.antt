-- The names of the line are put into the set of its kind, and the other sets stay.
use Rattle.std.proofs.Common.{ap}
use Rattle.std.proofs.lemmas.Bool.{OnTrue_at}
use Rattle.cs_lines.specs.Lines.Line.{Productive, Reachable, Empty}
use Rattle.cs_lines.specs.Lines.Read.{names_in, set_kind}
use Rattle.cs_check.proofs.OnChecking.Claims.{productive_claimed, reachable_claimed, empty_claimed, set_claims}
use Rattle.cs_check.proofs.checking.claims.claim_set.Goals as goal

pub returns-in-Productive-clause-claimed : goal.returns-in-Productive-clause-claimed
returns-in-Productive-clause-claimed c =
    set_claims c.args.file.now _ c.args.sets.now _ c.sets.view_is c.requires c.put_nonterminals.result (names_in c.args.names) Productive (set_kind c.args.kind) (ap set_kind c.in-Productive.is)
    (λ whole so. productive_claimed c.args.file.now _ whole (names_in c.args.names) c.put_nonterminals.new.set c.put_nonterminals.ensures.length (OnTrue_at so c.put_nonterminals.ensures.put))

pub returns-in-Reachable-clause-claimed : goal.returns-in-Reachable-clause-claimed
returns-in-Reachable-clause-claimed c =
    set_claims c.args.file.now _ c.args.sets.now _ c.sets.view_is c.requires c.put_nonterminals-in-Reachable.result (names_in c.args.names) Reachable (set_kind c.args.kind) (ap set_kind c.in-Reachable.is)
    (λ whole so. reachable_claimed c.args.file.now _ whole (names_in c.args.names) c.put_nonterminals-in-Reachable.new.set c.put_nonterminals-in-Reachable.ensures.length (OnTrue_at so c.put_nonterminals-in-Reachable.ensures.put))

pub returns-in-Empty-clause-claimed : goal.returns-in-Empty-clause-claimed
returns-in-Empty-clause-claimed c =
    set_claims c.args.file.now _ c.args.sets.now _ c.sets.view_is c.requires c.put_nonterminals-in-Empty.result (names_in c.args.names) Empty (set_kind c.args.kind) (ap set_kind c.in-Empty.is)
    (λ whole so. empty_claimed c.args.file.now _ whole (names_in c.args.names) c.put_nonterminals-in-Empty.new.set c.put_nonterminals-in-Empty.ensures.length (OnTrue_at so c.put_nonterminals-in-Empty.ensures.put))
