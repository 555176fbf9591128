-- The names of a first, last or next line are put into its table, and the other sets stay.
use Rattle.std.proofs.Common.{Bool, List, refl, sym, ap, subst, arith}
use Rattle.std.specs.Vec.{with_items}
use Rattle.std.proofs.lemmas.Bool.{OnTrue_at}
use Rattle.std.proofs.lemmas.List.{with_items_is}
use Rattle.cs_lines.specs.Lines.Line.{First, Last, Next}
use Rattle.cs_lines.specs.Lines.Read.{names_in, row_kind}
use Rattle.cs_closed.specs.Closed.Sets.{PlainSets}
use Rattle.cs_check.specs.Checking.Claims.{IsTable, AreWholeSets, IsWithTokens}
use Rattle.cs_check.proofs.OnChecking.Claims.{first_claimed, last_claimed, next_claimed, row_claims}
use Rattle.cs_check.proofs.checking.claims.claim_row.Goals as goal

pub returns-in-First-clause-known : goal.returns-in-First-clause-known
returns-in-First-clause-known c = rw c.in-First.is c.put_in_each.ensures.known

pub returns-in-First-clause-whole : goal.returns-in-First-clause-whole
returns-in-First-clause-whole c =
    let g = c.args.file.now.grammar in
    let whole = subst (λ (t : PlainSets). AreWholeSets g t) (sym c.sets.view_is) c.requires.whole in
    let was = whole.first.rows in
    let is = c.put_in_each.ensures.table.rows in
    let e = with_items_is c.sets.inside.first c.put_in_each.new.table (omega (arith, c.sets.inside.first.ok.0)) in
    record { productive = whole.productive; reachable = whole.reachable; empty = whole.empty; first = subst (λ (t : List (List Bool)). IsTable g.tokens g.nonterminals t) (sym e) c.put_in_each.ensures.table; last = whole.last; begin = whole.begin; next = whole.next; end = whole.end }

pub returns-in-First-clause-claimed : goal.returns-in-First-clause-claimed
returns-in-First-clause-claimed c =
    let file = c.args.file.now in
    let names = names_in c.args.names in
    let table = c.put_in_each.new.table in
    row_claims file _ c.args.sets.now _ c.sets.view_is c.requires.whole c.put_in_each.result names First (row_kind c.args.kind) c.args.number (ap row_kind c.in-First.is)
    (λ whole so.
    let was = whole.first.rows in
    let is = c.put_in_each.ensures.table.rows in
    let e = with_items_is c.sets.inside.first table (omega (arith, c.sets.inside.first.ok.0)) in
    let put = subst (λ (t : List (List Bool)). IsWithTokens file names c.args.number t table) c.as_mut_slice.ensures.value (OnTrue_at so c.put_in_each.ensures.put) in
    first_claimed file _ whole names (with_items c.sets.inside.first table).items c.args.number
    (subst (λ (t : List (List Bool)). IsTable file.grammar.tokens file.grammar.nonterminals t) (sym e) c.put_in_each.ensures.table)
    (subst (λ (t : List (List Bool)). IsWithTokens file names c.args.number c.sets.inside.first.items t) (sym e) put))

pub returns-in-Last-clause-known : goal.returns-in-Last-clause-known
returns-in-Last-clause-known c = rw c.in-Last.is c.put_in_each-in-Last.ensures.known

pub returns-in-Last-clause-whole : goal.returns-in-Last-clause-whole
returns-in-Last-clause-whole c =
    let g = c.args.file.now.grammar in
    let whole = subst (λ (t : PlainSets). AreWholeSets g t) (sym c.sets-in-Last.view_is) c.requires.whole in
    let was = whole.last.rows in
    let is = c.put_in_each-in-Last.ensures.table.rows in
    let e = with_items_is c.sets-in-Last.inside.last c.put_in_each-in-Last.new.table (omega (arith, c.sets-in-Last.inside.last.ok.0)) in
    record { productive = whole.productive; reachable = whole.reachable; empty = whole.empty; first = whole.first; last = subst (λ (t : List (List Bool)). IsTable g.tokens g.nonterminals t) (sym e) c.put_in_each-in-Last.ensures.table; begin = whole.begin; next = whole.next; end = whole.end }

pub returns-in-Last-clause-claimed : goal.returns-in-Last-clause-claimed
returns-in-Last-clause-claimed c =
    let file = c.args.file.now in
    let names = names_in c.args.names in
    let table = c.put_in_each-in-Last.new.table in
    row_claims file _ c.args.sets.now _ c.sets-in-Last.view_is c.requires.whole c.put_in_each-in-Last.result names Last (row_kind c.args.kind) c.args.number (ap row_kind c.in-Last.is)
    (λ whole so.
    let was = whole.last.rows in
    let is = c.put_in_each-in-Last.ensures.table.rows in
    let e = with_items_is c.sets-in-Last.inside.last table (omega (arith, c.sets-in-Last.inside.last.ok.0)) in
    let put = subst (λ (t : List (List Bool)). IsWithTokens file names c.args.number t table) c.as_mut_slice-in-Last.ensures.value (OnTrue_at so c.put_in_each-in-Last.ensures.put) in
    last_claimed file _ whole names (with_items c.sets-in-Last.inside.last table).items c.args.number
    (subst (λ (t : List (List Bool)). IsTable file.grammar.tokens file.grammar.nonterminals t) (sym e) c.put_in_each-in-Last.ensures.table)
    (subst (λ (t : List (List Bool)). IsWithTokens file names c.args.number c.sets-in-Last.inside.last.items t) (sym e) put))

pub returns-in-Next-clause-known : goal.returns-in-Next-clause-known
returns-in-Next-clause-known c = rw c.in-Next.is c.put_next.ensures.known

pub returns-in-Next-clause-claimed : goal.returns-in-Next-clause-claimed
returns-in-Next-clause-claimed c =
    row_claims c.args.file.now _ c.args.sets.now _ refl c.requires.whole c.put_next.result (names_in c.args.names) Next (row_kind c.args.kind) c.args.number (ap row_kind c.in-Next.is)
    (λ whole so. next_claimed c.args.file.now _ whole (names_in c.args.names) c.put_next.new.sets c.args.number c.put_next.ensures.whole (OnTrue_at so c.put_next.ensures.put) c.put_next.ensures.same)
