-- Together the texts are no longer than the bytes, and a new name is none of those before it.
use Rattle.std.proofs.Common.{get_or, ap, Err}
use Rattle.std.proofs.lemmas.List.{get_or_default}
use Rattle.cs_lex.specs.declared.layout.parts.Definition.{Definition}
use Rattle.cs_lex.proofs.OnReading.DefinitionsFound.{room_left, not_twice}
use Rattle.cs_lex.proofs.reading.definitions.spelled.Goals as goal

zero_definition : Definition
zero_definition = record { at = 0; name = record { from = 0; to = 0 }; substitute = record { from = 0; to = 0 } }

pub add-requires : goal.add-requires
unfolding zero_definition
add-requires c =
    let d : Definition = get_or c.args.all.now c.loop-definition.definition-index zero_definition in
    room_left c.args.bytes.now c.args.all.now c.loop-definition.definition-index d c.loop-definition.definitions c.bytes_of-name.result.now c.bytes_of-text.result.now c.requires.lie.together c.requires.short
    c.loop-definition-test.true (get_or_default c.args.all.now c.loop-definition.definition-index zero_definition d c.loop-definition-test.true) c.loop-definition.invariant c.bytes_of-name.ensures c.bytes_of-text.ensures

pub unreachable-requires : goal.unreachable-requires
unfolding zero_definition
unreachable-requires c =
    let d : Definition = get_or c.args.all.now c.loop-definition.definition-index zero_definition in
    not_twice c.args.bytes.now c.args.all.now c.loop-definition.definition-index d c.loop-definition.definitions c.bytes_of-name.result.now c.requires.new
    c.loop-definition-test.true (get_or_default c.args.all.now c.loop-definition.definition-index zero_definition d c.loop-definition-test.true) c.loop-definition.invariant c.bytes_of-name.ensures (c.in-Err-Twice.ensures.twice.0 (ap Err c.in-Err-Twice.field-0-is))
