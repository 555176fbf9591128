-- The rules before the hole lead to it, and the others from the symbols in it to the tokens.
use Rattle.std.proofs.Common.{◌≡◌}
use Rattle.cs_grammar.specs.Walk.{in_hand}
use Rattle.cs_grammar.specs.Leftmost.{from_start}
use Rattle.cs_wrong.proofs.OnSlips.Filling.{filled_within}
use Rattle.cs_wrong.proofs.OnSlips.Walking.{begun, ended, to_end, to_hole}
use Rattle.cs_wrong.proofs.slips.lists.tokens_by.Goals as goal
use Rattle.cs_wrong.proofs.slips.lists.tokens_by.Goals.{In_ok-push}

start_is : (c : In_ok-push) → in_hand c.in_ok-tokens.tokens c.push.new.self ≡ from_start c.args.grammar.now
start_is c = begun c.args.grammar.now c.in_ok-tokens.tokens c.push.new.self c.in_ok-pending.pending.items c.start.result c.in_ok-tokens.ensures.items c.in_ok-pending.ensures.items c.in_ok-push.ensures.items c.start.ensures

pub read-requires : goal.read-requires
read-requires c =
    let fill = c.requires.fill in
    to_hole c.args.grammar.now c.args.before.now c.args.symbols.now c.args.behind.now fill.0 fill.1 (in_hand c.in_ok-tokens.tokens c.push.new.self) (start_is (goal.at.read-requires c).In_ok-push)

pub read-requires-2 : goal.read-requires-2
read-requires-2 c =
    let fill = c.requires.fill in
    to_end c.args.grammar.now c.args.before.now c.args.symbols.now c.args.behind.now fill.0 fill.1 (in_hand c.in_ok-tokens.tokens c.push.new.self) (start_is (goal.at.read-requires-2 c).In_ok-push)
    (in_hand c.read.new.done c.read.new.pending) c.in_ok-read.ensures c.settle.new.done c.settle.new.pending c.put_on_top.new.stack c.in_ok-_hole._hole c.in_ok-_hole.ensures c.in_ok-put_on_top.ensures.ok

pub returns-clause-filled : goal.returns-clause-filled
returns-clause-filled c =
    let fill = c.requires.fill in
    ended c.args.grammar.now c.args.before.now c.args.symbols.now c.args.behind.now fill.0 fill.1 (in_hand c.in_ok-tokens.tokens c.push.new.self) (start_is (goal.at.returns-clause-filled c).In_ok-push)
    (in_hand c.read.new.done c.read.new.pending) c.in_ok-read.ensures c.settle.new.done c.settle.new.pending c.put_on_top.new.stack c.in_ok-_hole._hole c.in_ok-_hole.ensures c.in_ok-put_on_top.ensures.ok
    (in_hand c.read-2.new.done c.read-2.new.pending) c.in_ok-read-2.ensures c.settle-2.new.done c.settle-2.new.pending c.in_ok-_end._end c.in_ok-_end.ensures

pub returns-clause-tokens : goal.returns-clause-tokens
returns-clause-tokens c =
    let fill = c.requires.fill in
    let filled = ended c.args.grammar.now c.args.before.now c.args.symbols.now c.args.behind.now fill.0 fill.1 (in_hand c.in_ok-tokens.tokens c.push.new.self) (start_is (goal.at.returns-clause-tokens c).In_ok-push)
    (in_hand c.read.new.done c.read.new.pending) c.in_ok-read.ensures c.settle.new.done c.settle.new.pending c.put_on_top.new.stack c.in_ok-_hole._hole c.in_ok-_hole.ensures c.in_ok-put_on_top.ensures.ok
    (in_hand c.read-2.new.done c.read-2.new.pending) c.in_ok-read-2.ensures c.settle-2.new.done c.settle-2.new.pending c.in_ok-_end._end c.in_ok-_end.ensures in
    filled_within c.args.grammar.now c.rules-well_formed.ensures.well_formed c.args.before.now c.args.symbols.now c.args.behind.now c.settle-2.new.done.items c.requires.symbols filled
