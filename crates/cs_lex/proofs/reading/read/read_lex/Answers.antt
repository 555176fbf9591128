-- What one step refuses refuses the bytes, and what all steps find is the file that the bytes mean.
use Rattle.std.proofs.lemmas.Result.{err_from_is_err_and}
use Rattle.std.proofs.Common.{ap, length}
use Rattle.cs_lex.proofs.OnLayout.NewNames.{new_names}
use Rattle.cs_lex.specs.Reading.File.{File, HasTokensOf}
use Rattle.cs_pattern_parts.specs.Tree.Pattern.{regexes}
use Rattle.cs_lex.specs.Reading.Reading.{IsLexFile}
use Rattle.cs_lex.proofs.OnReading.Whole.{layout_refused, rules_refused, definitions_refused, pattern_refused, positions_refused, whole_file, whole_tokens, whole_fits}
use Rattle.cs_lex.proofs.reading.read.read_lex.Goals as goal

pub returns-in_err-layout-clause-refused : goal.returns-in_err-layout-clause-refused
returns-in_err-layout-clause-refused c =
    let p = err_from_is_err_and c.from_residual.result c.from_residual.ensures.1 in
    rw (p.1, p.2) (layout_refused c.args.bytes.now c.in_err-layout.field-0.0 c.in_err-layout.ensures.answers)

pub returns-in_err-check_rules-clause-refused : goal.returns-in_err-check_rules-clause-refused
returns-in_err-check_rules-clause-refused c =
    let p = err_from_is_err_and c.from_residual-in_err-check_rules.result c.from_residual-in_err-check_rules.ensures.1 in
    rw (p.1, p.2) (rules_refused c.args.bytes.now c.in_ok-layout.layout.definitions.items c.in_ok-layout.layout.rules.items c.in_ok-layout.ensures.answers c.in_err-check_rules.field-0.0 (rw c.deref.ensures.value at c.in_err-check_rules.ensures.refused))

pub checked_definitions-requires-clause-new : goal.checked_definitions-requires-clause-new
checked_definitions-requires-clause-new c = rw c.deref-2.ensures.value (new_names c.args.bytes.now c.in_ok-layout.layout.definitions.items c.in_ok-layout.layout.rules.items c.in_ok-layout.ensures.answers)

pub returns-in_err-definitions-clause-refused : goal.returns-in_err-definitions-clause-refused
returns-in_err-definitions-clause-refused c =
    let p = err_from_is_err_and c.from_residual-in_err-definitions.result c.from_residual-in_err-definitions.ensures.1 in
    rw (p.1, p.2) (definitions_refused c.args.bytes.now c.in_ok-layout.layout.definitions.items c.in_ok-layout.layout.rules.items c.in_ok-layout.ensures.answers (rw c.deref.ensures.value at c.in_ok-check_rules.ensures.ok) c.in_err-definitions.field-0.0
    (rw c.deref-2.ensures.value at c.in_err-definitions.ensures.refused))

pub returns-in_err-collected-clause-refused : goal.returns-in_err-collected-clause-refused
returns-in_err-collected-clause-refused c =
    let p = err_from_is_err_and c.from_residual-in_err-collected.result c.from_residual-in_err-collected.ensures.1 in
    rw (p.1, p.2) (pattern_refused c.args.bytes.now c.in_ok-layout.layout.definitions.items c.in_ok-layout.layout.rules.items c.in_ok-layout.ensures.answers (rw c.deref.ensures.value at c.in_ok-check_rules.ensures.ok) c.in_ok-definitions.definitions
    (rw c.deref-2.ensures.value at c.in_ok-definitions.ensures.checked) (rw c.deref-2.ensures.value at c.in_ok-definitions.ensures.accepted) c.in_err-collected.field-0.0 (rw c.deref-3.ensures.value at c.in_err-collected.ensures.refused))

pub returns-in_err-patterns-clause-refused : goal.returns-in_err-patterns-clause-refused
returns-in_err-patterns-clause-refused c =
    let p = err_from_is_err_and c.from_residual-in_err-patterns.result c.from_residual-in_err-patterns.ensures.1 in
    rw (p.1, p.2) (positions_refused c.args.bytes.now c.in_ok-layout.layout.definitions.items c.in_ok-layout.layout.rules.items c.in_ok-layout.ensures.answers (rw c.deref.ensures.value at c.in_ok-check_rules.ensures.ok) c.in_ok-definitions.definitions
    (rw c.deref-2.ensures.value at c.in_ok-definitions.ensures.checked) (rw c.deref-2.ensures.value at c.in_ok-definitions.ensures.accepted) c.in_ok-collected.collected (rw c.deref-3.ensures.value at c.in_ok-collected.ensures.found) c.in_err-patterns.field-0.0 c.in_err-patterns.ensures.refused)

pub new-requires : goal.new-requires
new-requires c =
    let file : File = record { patterns = regexes c.in_ok-patterns.patterns.items; kinds = c.in_ok-kinds.kinds.items; literals = c.in_ok-literals.literals.items } in
    whole_fits c.args.bytes.now c.in_ok-layout.layout.definitions.items c.in_ok-layout.layout.rules.items c.in_ok-layout.ensures.answers (rw c.deref.ensures.value at c.in_ok-check_rules.ensures.ok) c.in_ok-definitions.definitions
    (rw c.deref-2.ensures.value at c.in_ok-definitions.ensures.checked) (rw c.deref-2.ensures.value at c.in_ok-definitions.ensures.accepted) c.in_ok-collected.collected (rw c.deref-3.ensures.value at c.in_ok-collected.ensures.found)
    c.args.yacc.now file c.in_ok-patterns.ensures.within.0 (ap regexes c.in_ok-patterns.ensures.within.1) (rw c.deref-4.ensures.value at c.in_ok-kinds.ensures) c.in_ok-literals.ensures

pub returns-clause-read : goal.returns-clause-read
returns-clause-read c =
    let file : File = record { patterns = regexes c.in_ok-patterns.patterns.items; kinds = c.in_ok-kinds.kinds.items; literals = c.in_ok-literals.literals.items } in
    let h : IsLexFile c.args.bytes.now c.args.yacc.now file = whole_file c.args.bytes.now c.in_ok-layout.layout.definitions.items c.in_ok-layout.layout.rules.items c.in_ok-layout.ensures.answers (rw c.deref.ensures.value at c.in_ok-check_rules.ensures.ok) c.in_ok-definitions.definitions
    (rw c.deref-2.ensures.value at c.in_ok-definitions.ensures.checked) (rw c.deref-2.ensures.value at c.in_ok-definitions.ensures.accepted) c.in_ok-collected.collected (rw c.deref-3.ensures.value at c.in_ok-collected.ensures.found)
    c.args.yacc.now file c.in_ok-patterns.ensures.within.0 (ap regexes c.in_ok-patterns.ensures.within.1) (rw c.deref-4.ensures.value at c.in_ok-kinds.ensures) c.in_ok-literals.ensures in
    rw c.new.ensures h

pub returns-clause-tokens : goal.returns-clause-tokens
returns-clause-tokens c =
    let file : File = record { patterns = regexes c.in_ok-patterns.patterns.items; kinds = c.in_ok-kinds.kinds.items; literals = c.in_ok-literals.literals.items } in
    let h : HasTokensOf (length c.args.yacc.now.token_names) file = whole_tokens c.args.bytes.now c.in_ok-layout.layout.definitions.items c.in_ok-layout.layout.rules.items c.in_ok-layout.ensures.answers (rw c.deref.ensures.value at c.in_ok-check_rules.ensures.ok) c.in_ok-definitions.definitions
    (rw c.deref-2.ensures.value at c.in_ok-definitions.ensures.checked) (rw c.deref-2.ensures.value at c.in_ok-definitions.ensures.accepted) c.in_ok-collected.collected (rw c.deref-3.ensures.value at c.in_ok-collected.ensures.found)
    c.args.yacc.now file c.in_ok-patterns.ensures.within.0 (ap regexes c.in_ok-patterns.ensures.within.1) (rw c.deref-4.ensures.value at c.in_ok-kinds.ensures) c.in_ok-literals.ensures in
    rw c.new.ensures h
