-- Batch by batch, what was written and what is left make up all chains, of which each comes once.
use Rattle.std.proofs.Common.{◌≡◌, ◌<◌, ◌≤◌, List, [], ◌++◌, length, subst, sym, ap, ◌∙◌, arith}
use Rattle.std.specs.Prelude.{All}
use Rattle.std.proofs.lemmas.Result.{err_from_is_err_and}
use Rattle.cs_grammar.specs.Grammar.{PlainGrammar}
use Rattle.cs_grammar.specs.Weights.{Weighed}
use Rattle.cs_chain.specs.declared.chains.chain.Chain.{Chain}
use Rattle.cs_chain.specs.Chains.Chain.{IsChain}
use Rattle.cs_chain.specs.Chains.Chains.{chains}
use Rattle.cs_chain_text.specs.Progress.{CanCount, StopsBatch, WroteBatch}
use Rattle.cs_chain_text.proofs.OnWriting.Batches.{GoalsSoFar, chains_are, fewer_left, goals_all, goals_count, goals_counted, goals_halted, goals_memory, goals_more, goals_none, nothing_in}
use Rattle.cs_chain_text.proofs.writing.writing.write_goals.Given.{Over}
use Rattle.cs_chain_text.proofs.writing.writing.write_goals.Goals as goal
use Rattle.cs_chain_text.proofs.writing.writing.write_goals.Goals.{In_ok-batch, Then-is_empty}

-- the chains of the batch are the grammar's
each : (g : Over) (c : In_ok-batch g) → All (IsChain c.args.telling.now.work.embeds.now.grammar) c.in_ok-batch.batch.items
each g c =
    let far = c.batches.invariant.far in
    let d = c.args.telling.now.chained in
    let own = ap (λ (v : Weighed). v.grammar) c.requires.work.embeds in
    let whole = far.split ∙ ap (λ (l : List Chain). far.done ++ l) c.in_ok-batch.ensures.split in
    subst (λ (h : PlainGrammar). All (IsChain h) c.in_ok-batch.batch.items) (sym own)
    (chains_are d.yacc.now.grammar (c.each_chain_once.ensures.all d.yacc.now.grammar) far.done c.in_ok-batch.batch.items c.next_batch.new.chains whole)

-- no chain is left
none_left : (g : Over) (c : Then-is_empty g) → c.batches.chains ≡ []
none_left g c =
    let empty : length c.in_ok-batch.batch.items ≡ 0 = (let e = c.is_empty.ensures in let t = c.if-is_empty.true in let o = c.in_ok-batch.batch.ok in grind arith) in
    c.in_ok-batch.ensures.some (nothing_in c.in_ok-batch.batch.items empty)

pub batches-init : goal.batches-init
batches-init g c =
    record {
      far = goals_none g.S.Sink c.args.telling.now.chained c.args.sink.now c.new-chains.result c.args.tally.now (c.new-chains.ensures ∙ ap chains c.grammar.ensures.grammar) c.requires.tally;
      cores = c.requires.cores;
    }

pub batches-smaller : goal.batches-smaller
batches-smaller g c =
    let some : 0 < length c.in_ok-batch.batch.items = (let e = c.is_empty.ensures in let t = c.if-is_empty.false in let o = c.in_ok-batch.batch.ok in grind arith) in
    fewer_left c.batches.chains c.in_ok-batch.batch.items c.next_batch.new.chains c.in_ok-batch.ensures.split some

pub write_batch-requires-clause-chains : goal.write_batch-requires-clause-chains
write_batch-requires-clause-chains g c = λ κs met.
    let at = (goal.at.write_batch-requires-clause-chains g c).In_ok-batch in
    subst (λ (l : List Chain). All (IsChain c.args.telling.now.work.embeds.now.grammar) l) (sym c.deref.ensures.value) (each g at)

pub write_batch-requires-clause-few : goal.write_batch-requires-clause-few
write_batch-requires-clause-few g c = λ κs met.
    subst (λ (l : List Chain). length l ≤ 1024) (sym c.deref.ensures.value) c.in_ok-batch.ensures.few

pub write_batch-requires-clause-count : goal.write_batch-requires-clause-count
write_batch-requires-clause-count g c = λ κs met.
    let d = c.args.telling.now.chained in
    let batch = c.in_ok-batch.batch.items in
    let rest = c.next_batch.new.chains in
    let far = subst (λ (l : List Chain). GoalsSoFar g.S.Sink d c.args.sink.now l c.batches.sink c.batches.tally) c.in_ok-batch.ensures.split c.batches.invariant.far in
    let can = goals_count g.S.Sink d c.args.sink.now batch rest c.batches.sink c.batches.tally c.requires.ready.few far in
    subst (λ (l : List Chain). CanCount c.batches.tally (length l)) (sym c.deref.ensures.value) can

-- memory ran out
pub returns-in_err-batch-clause-text : goal.returns-in_err-batch-clause-text
returns-in_err-batch-clause-text g c =
    let p = err_from_is_err_and c.from_residual.result c.from_residual.ensures.1 in
    rw (p.1, p.2) (goals_memory g.S.Sink c.args.telling.now.chained c.args.sink.now c.one_text.ensures c.batches.chains c.batches.sink c.batches.tally c.batches.invariant.far)

-- the batch wasn't written
pub returns-in_err-write_batch-clause-text : goal.returns-in_err-write_batch-clause-text
returns-in_err-write_batch-clause-text g c =
    let p = err_from_is_err_and c.from_residual-in_err-write_batch.result c.from_residual-in_err-write_batch.ensures.1 in
    let d = c.args.telling.now.chained in
    let halt = c.in_err-write_batch.field-0.0 in
    let stops = subst (λ (l : List Chain). StopsBatch g.S.Sink d l c.batches.tally c.write_batch.new.tally c.batches.sink c.write_batch.new.sink halt) c.deref.ensures.value c.in_err-write_batch.ensures.put in
    rw (p.1, p.2) (goals_halted g.S.Sink d c.args.sink.now c.one_text.ensures c.batches.chains c.in_ok-batch.batch.items c.next_batch.new.chains c.batches.sink c.write_batch.new.sink c.batches.tally c.write_batch.new.tally
    halt c.batches.invariant.far c.in_ok-batch.ensures.split stops)

-- no chain was left
pub returns-then-is_empty-clause-text : goal.returns-then-is_empty-clause-text
returns-then-is_empty-clause-text g c =
    goals_all g.S.Sink c.args.telling.now.chained c.args.sink.now c.one_text.ensures c.batches.chains c.batches.sink c.batches.tally c.batches.invariant.far
    (none_left g (goal.at.returns-then-is_empty-clause-text g c).Then-is_empty)

pub returns-then-is_empty-clause-counted : goal.returns-then-is_empty-clause-counted
returns-then-is_empty-clause-counted g c =
    goals_counted g.S.Sink c.args.telling.now.chained c.args.sink.now c.one_text.ensures c.batches.chains c.batches.sink c.batches.tally c.batches.invariant.far
    (none_left g (goal.at.returns-then-is_empty-clause-counted g c).Then-is_empty)

pub batches-preserved : goal.batches-preserved
batches-preserved g c =
    let d = c.args.telling.now.chained in
    let e = c.in_ok-write_batch.ensures in
    let batch = c.in_ok-batch.batch.items in
    let w = subst (λ (l : List Chain). WroteBatch g.S.Sink d l c.batches.tally c.write_batch.new.tally c.batches.sink c.write_batch.new.sink) c.deref.ensures.value e.put in
    record {
      far = goals_more g.S.Sink d c.args.sink.now c.one_text.ensures c.batches.chains batch c.next_batch.new.chains c.batches.sink c.write_batch.new.sink c.batches.tally c.write_batch.new.tally
          w.entries c.batches.invariant.far c.in_ok-batch.ensures.split w.are w.written w.counted;
      cores = e.cores ∙ c.batches.invariant.cores;
    }
