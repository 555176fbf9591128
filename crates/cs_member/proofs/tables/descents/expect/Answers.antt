-- The nonterminal is marked already, or is marked and listed now.
use Rattle.std.proofs.Common.{ap, ◌∙◌, Some, true, refl}
use Rattle.std.proofs.lemmas.Option.{slice_get_read}
use Rattle.cs_member.proofs.OnTables.Places.{at_set}
use Rattle.cs_member.proofs.OnChart.Marking.{marks_none, marks_one, marked_one}
use Rattle.cs_member.proofs.tables.descents.expect.Goals as goal

pub returns-then-index-clause-marks : goal.returns-then-index-clause-marks
returns-then-index-clause-marks c = marks_none c.args.expected.now.items c.args.pending.now.items

pub returns-then-index-clause-is_marked : goal.returns-then-index-clause-is_marked
returns-then-index-clause-is_marked c = slice_get_read c.args.expected.now.items _ c.args.nonterminal c.index.result.now refl c.requires.nonterminal c.index.ensures ∙ ap Some c.if-index.true

pub returns-clause-marked : goal.returns-clause-marked
returns-clause-marked c = marked_one c.args.expected.now.items c.args.pending.now.items c.push.new.self.items c.args.nonterminal c.requires.nonterminal c.in_ok-push.ensures.items c.requires.marked

pub returns-clause-marks : goal.returns-clause-marks
returns-clause-marks c = marks_one c.args.expected.now.items c.args.pending.now.items c.push.new.self.items c.args.nonterminal c.requires.nonterminal c.in_ok-push.ensures.items

pub returns-clause-is_marked : goal.returns-clause-is_marked
returns-clause-is_marked c = at_set c.args.expected.now.items c.args.nonterminal true c.requires.nonterminal
