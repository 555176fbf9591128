-- A last group with nothing pending is closed; otherwise all of the stack lead to the node that is taken.
use Rattle.std.proofs.Common.{◌≡◌, ◌≤◌, ◌++◌, ◌∷◌, [], ℕ, List, length, sym, subst, arith}
use Rattle.std.specs.Prelude.{Contains}
use Rattle.std.proofs.lemmas.Option.{slice_get-get_or}
use Rattle.std.proofs.lemmas.Result.{on_ok_weaker}
use Rattle.cs_graph.specs.declared.component.Group.{Group}
use Rattle.cs_graph.specs.Groups.{IsSearch, IsSearchBut}
use Rattle.cs_graph.proofs.Grouping.{low_groups, takes, taken_from, all_lead}
use Rattle.cs_graph.proofs.Closing.{last_within, nodes_within, closing_step}
use Rattle.cs_graph.proofs.component.step.Goals as goal
use Rattle.cs_graph.proofs.component.step.Goals.{In-Some}

-- the search with the last group back, and its last pending node apart
there : (c : In-Some) → IsSearch c.args.graph.now c.args.search.now.states.items c.args.search.now.stack.items (c.pop.new.self.items ++ c.in-Some.to ∷ []) (c.args.search.now.groups.items ++ c.args.last ∷ []) c.args.search.now.closed.items
there c =
    let s = c.args.search.now in
    let P : List ℕ → Type 0 = λ pending. IsSearch c.args.graph.now s.states.items s.stack.items pending (s.groups.items ++ c.args.last ∷ []) s.closed.items in
    subst P c.in-Some.ensures.items c.requires.search

-- that node is pending in each group
low : (c : In-Some) (g : Group) → Contains (c.args.search.now.groups.items ++ c.args.last ∷ []) g → g.pending ≤ length c.pop.new.self.items
low c =
    let s = c.args.search.now in
    let ok = s.pending.ok in
    low_groups s.groups.items c.args.last s.pending.items c.pop.new.self.items c.in-Some.to c.requires.search.rising c.in-Some.ensures.items (omega (arith, c.len.ensures, c.if-len-last.false))

pub close-requires-clause-first : goal.close-requires-clause-first
close-requires-clause-first c =
    let s = c.args.search.now in
    last_within c.args.graph.now s.states.items s.stack.items s.pending.items s.groups.items s.closed.items c.args.last c.requires.search

pub close-requires-clause-nodes : goal.close-requires-clause-nodes
close-requires-clause-nodes c = λ k d lt.
    let s = c.args.search.now in
    nodes_within c.args.graph.now s.states.items s.stack.items s.pending.items s.groups.items s.closed.items c.args.last c.requires.search k _ (slice_get-get_or s.stack.items k d lt)

pub returns-then-len-last : goal.returns-then-len-last
returns-then-len-last c =
    let s = c.args.search.now in
    let ok = s.pending.ok in
    on_ok_weaker c.close.result (λ h. closing_step c.args.graph.now s c.close.new.search c.args.last c.requires.search (omega (arith, c.len.ensures, c.if-len-last.true)) h) c.close.ensures

pub look-requires-clause-search : goal.look-requires-clause-search
look-requires-clause-search c =
    let at = (goal.at.look-requires-clause-search c).In-Some in
    let g = c.args.graph.now in
    let s = c.args.search.now in
    let Q : List Group → Type 0 = λ groups. IsSearchBut g s.states.items s.stack.items c.pop.new.self.items groups s.closed.items (λ n. n ≡ c.in-Some.to) in
    subst Q (sym c.in_ok-push.ensures.items) (takes g s.states.items s.stack.items c.pop.new.self.items (s.groups.items ++ c.args.last ∷ []) s.closed.items c.in-Some.to (there at) (low at))

pub look-requires-clause-node : goal.look-requires-clause-node
look-requires-clause-node c =
    let at = (goal.at.look-requires-clause-node c).In-Some in
    let s = c.args.search.now in
    let from = taken_from c.args.graph.now s.states.items s.stack.items c.pop.new.self.items (s.groups.items ++ c.args.last ∷ []) s.closed.items c.in-Some.to (there at) (low at) in
    c.requires.graph from.node c.in-Some.to from.step

pub look-requires-clause-led_to : goal.look-requires-clause-led_to
look-requires-clause-led_to c =
    let at = (goal.at.look-requires-clause-led_to c).In-Some in
    let s = c.args.search.now in
    all_lead c.args.graph.now s.states.items s.stack.items c.pop.new.self.items (s.groups.items ++ c.args.last ∷ []) s.closed.items c.in-Some.to (there at) (low at)
