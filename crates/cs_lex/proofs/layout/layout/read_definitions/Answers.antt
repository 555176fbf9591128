-- The definitions and their names grow together, line by line, and the first fault stops layout.
use Rattle.std.proofs.Common.{ap, sym, ◌∙◌, length, arith}
use Rattle.std.proofs.lemmas.Result.{err_from_is_err_and}
use Rattle.cs_lex.specs.Layout.Names.{texts_of}
use Rattle.cs_lex.specs.Layout.Layout.{names_of, in_definitions}
use Rattle.cs_lex.proofs.OnLayout.Lying.{no_definitions_lie, definitions_lie_on, definitions_lie_more}
use Rattle.cs_lex.proofs.OnLayout.Reading.{definitions_start, passed_more, defines_new, defined_twice, never_ends, names_more, stop_answers}
use Rattle.cs_lex.proofs.layout.layout.read_definitions.Goals as goal

pub loop-at-init : goal.loop-at-init
loop-at-init c = record {
  lines = definitions_start c.args.bytes.now c.new-definitions.result.items c.new-definitions.ensures.items;
  within = omega arith;
  lie = no_definitions_lie (length c.args.bytes.now) c.new-definitions.result.items c.new-definitions.ensures.items;
  names = ap texts_of c.new-names.ensures.empty ∙ sym (ap (names_of c.args.bytes.now) c.new-definitions.ensures.items);
}

pub returns-in_err-behind-clause-answers : goal.returns-in_err-behind-clause-answers
returns-in_err-behind-clause-answers c =
    let p = err_from_is_err_and c.from_residual.result c.from_residual.ensures.1 in
    rw (p.1, p.2) (stop_answers c.args.bytes.now c.in_err-behind.field-0.0
    (in_definitions (record { at = c.loop-at.at; definitions = c.loop-at.definitions.items }) c.loop-at.invariant.lines (c.in_err-behind.ensures c.loop-at.definitions.items)))

pub loop-at-preserved-in-Passed : goal.loop-at-preserved-in-Passed
loop-at-preserved-in-Passed c =
    let h = rw c.in-Passed.is at c.in_ok-behind.ensures in
    record {
      lines = passed_more c.args.bytes.now c.loop-at.at c.loop-at.definitions.items c.loop-at.invariant.lines c.in-Passed.to h.1.0 h.0;
      within = h.1.1;
      lie = definitions_lie_on (length c.args.bytes.now) c.loop-at.at c.in-Passed.to c.loop-at.definitions.items c.loop-at.invariant.lie (omega (arith, h.1.0));
      names = c.loop-at.invariant.names;
    }

pub returns-then-not-branch-clause-answers : goal.returns-then-not-branch-clause-answers
returns-then-not-branch-clause-answers c =
    let h = rw c.in-Definition.is at c.in_ok-behind.ensures in
    defined_twice c.args.bytes.now c.loop-at.at c.loop-at.definitions.items c.loop-at.invariant.lines c.in-Definition.definition (texts_of c.loop-at.names.keys) c.bytes_of.result.now c.in_ok-add_name-in-Definition.field-0
    c.loop-at.invariant.names h.0 c.bytes_of.ensures c.in_ok-add_name-in-Definition.ensures.new c.if-not-branch.true

pub loop-at-preserved : goal.loop-at-preserved
loop-at-preserved c =
    let h = rw c.in-Definition.is at c.in_ok-behind.ensures in
    record {
      lines = defines_new c.args.bytes.now c.loop-at.at c.loop-at.definitions.items c.loop-at.invariant.lines c.in-Definition.definition (texts_of c.loop-at.names.keys) c.bytes_of.result.now c.in_ok-add_name-in-Definition.field-0 c.in-Definition.to c.push.new.self.items
          c.loop-at.invariant.names h.0 c.bytes_of.ensures c.in_ok-add_name-in-Definition.ensures.new c.if-not-branch.false h.2 c.in_ok-push-in-Definition.ensures.items;
      within = h.3.1;
      lie = definitions_lie_more c.args.bytes.now c.loop-at.at c.in-Definition.to c.loop-at.definitions.items c.push.new.self.items c.in-Definition.definition c.loop-at.invariant.lie h.1 h.2 c.in_ok-push-in-Definition.ensures.items;
      names = names_more c.args.bytes.now c.loop-at.definitions.items c.push.new.self.items c.in-Definition.definition (texts_of c.loop-at.names.keys) (texts_of c.add_name.new.names.keys) c.bytes_of.result.now
          c.loop-at.invariant.names c.in_ok-push-in-Definition.ensures.items c.bytes_of.ensures (c.in_ok-add_name-in-Definition.ensures.added c.if-not-branch.false);
    }

pub returns-clause-answers : goal.returns-clause-answers
returns-clause-answers c = never_ends c.args.bytes.now c.loop-at.at c.loop-at.definitions.items c.loop-at.invariant.lines c.loop-at-test.false

pub returns-in-End-clause-lies : goal.returns-in-End-clause-lies
returns-in-End-clause-lies c = definitions_lie_on (length c.args.bytes.now) c.loop-at.at (length c.args.bytes.now) c.loop-at.definitions.items c.loop-at.invariant.lie c.loop-at.invariant.within
