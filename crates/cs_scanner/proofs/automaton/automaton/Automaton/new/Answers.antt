-- The tables of the patterns.
use Rattle.std.proofs.Common.{◌≡◌, ◌∙◌, ℕ, ◌+◌, ◌*◌, ◌/◌, ◌≤◌, List, sym, ap, subst, arith, length, map}
use Rattle.std.proofs.lemmas.List.{length-map}
use Rattle.cs_pattern_parts.specs.Tree.Pattern.{regex}
use Rattle.cs_scanner.specs.Automaton.Meaning.{all_classes, re, res}
use Rattle.cs_scanner.specs.Automaton.Places.{all_letters}
use Rattle.cs_scanner.specs.Automaton.Programs.{rules_of, values}
use Rattle.cs_scanner.specs.Automaton.Re.{Re}
use Rattle.cs_scanner.specs.Automaton.Sets.{lists}
use Rattle.cs_scanner.specs.Automaton.States.{AreColumns, AreFull, AreRulesOf, AreRowsOf, IsBuilt, option_lists}
use Rattle.cs_scanner.proofs.OnAutomaton.Answering.{tables_of, columns_are}
use Rattle.cs_scanner.proofs.OnAutomaton.Counting.{not_above}
use Rattle.cs_scanner.proofs.OnAutomaton.Scanning.{full, few_letters}
use Rattle.cs_scanner.proofs.OnAutomaton.Stating.{rules_length}
use Rattle.cs_scanner.proofs.OnAutomaton.Steps.{length-all_classes}
use Rattle.cs_scanner.proofs.automaton.automaton.Automaton.new.Goals as goal
use Rattle.cs_scanner.proofs.automaton.automaton.Automaton.new.Goals.{In_ok-rows, In_ok-sets}

-- the columns of the patterns' classes
columns : (c : In_ok-rows) → AreColumns (all_classes (res (map regex c.args.patterns.now))) (lists c.in_ok-rows.field-0.rows.keys) c.in_ok-rows.field-0.column_of.items (c.len.result / 64 + 1)
columns c =
    let P : List (List ℕ) → Type 0 = λ t. AreColumns t (lists c.in_ok-rows.field-0.rows.keys) c.in_ok-rows.field-0.column_of.items (c.len.result / 64 + 1) in
    subst P (ap values c.deref.ensures.value ∙ c.in_ok-program.ensures.classes) c.in_ok-rows.ensures

-- the sets and steps that are built of the patterns
built : (c : In_ok-sets) → IsBuilt (res (map regex c.args.patterns.now)) (lists c.in_ok-rows.field-0.rows.keys) (c.len.result / 64 + 1) 16384 (lists c.in_ok-sets.field-0.sets.keys) (option_lists c.in_ok-sets.field-0.steps.items)
built c =
    let B : List (Re (List ℕ)) → List (List ℕ) → Type 0 = λ rs rows. IsBuilt rs rows (c.len.result / 64 + 1) 16384 (lists c.in_ok-sets.field-0.sets.keys) (option_lists c.in_ok-sets.field-0.steps.items) in
    let rows = lists c.in_ok-rows.field-0.rows.keys in
    subst (λ t. B t rows) (ap (λ t. res (map regex t)) c.in_ok-program.ensures.patterns)
    (subst (B (rules_of c.in_ok-program.program)) (ap lists c.as_slice.ensures.keys) c.in_ok-sets.ensures.built)

pub make_program-requires : goal.make_program-requires
make_program-requires c = few_letters (map regex c.args.patterns.now) c.requires.scannable

pub make_states-requires-clause-full : goal.make_states-requires-clause-full
make_states-requires-clause-full c =
    let F : List (Re (List ℕ)) → Type 0 = λ t. AreFull t in
    let same : res (map regex c.args.patterns.now) ≡ rules_of c.in_ok-program.program = ap (λ t. res (map regex t)) (sym c.in_ok-program.ensures.patterns) in
    subst F same (full (map regex c.args.patterns.now) c.requires.scannable)

pub make_states-requires-clause-few : goal.make_states-requires-clause-few
make_states-requires-clause-few c =
    let ps = c.args.patterns.now in
    omega (arith, rules_length c.in_ok-program.program.rules.items 0 (map regex ps) c.in_ok-program.ensures.rules, length-map (map regex ps) re, length-map ps regex, c.requires.scannable.few)

pub make_states-requires-clause-wide : goal.make_states-requires-clause-wide
make_states-requires-clause-wide c =
    let rs = res (map regex c.args.patterns.now) in
    let program = c.in_ok-program.program in
    let P : List (Re (List ℕ)) → Type 0 = λ t. all_letters t ≤ 64 * (c.len.result / 64 + 1) in
    let same : rs ≡ rules_of program = ap (λ t. res (map regex t)) (sym c.in_ok-program.ensures.patterns) in
    subst P same (omega (arith, length-all_classes rs, ap length c.in_ok-program.ensures.classes, length-map program.classes.items (λ b. b.now), c.len.ensures, program.classes.ok.0))

pub make_states-requires-clause-columns : goal.make_states-requires-clause-columns
make_states-requires-clause-columns c =
    let rs = res (map regex c.args.patterns.now) in
    let width = c.len.result / 64 + 1 in
    let rows = lists c.in_ok-rows.field-0.rows.keys in
    let same : rs ≡ rules_of c.in_ok-program.program = ap (λ t. res (map regex t)) (sym c.in_ok-program.ensures.patterns) in
    let Q : List (Re (List ℕ)) → Type 0 = λ t. AreRowsOf t width rows in
    let R : List (List ℕ) → Type 0 = λ t. AreRowsOf (rules_of c.in_ok-program.program) width t in
    let columns = columns (goal.at.make_states-requires-clause-columns c).In_ok-rows in
    subst R (ap lists (sym c.as_slice.ensures.keys)) (subst Q same (columns_are rs rows c.in_ok-rows.field-0.column_of.items width columns))

pub invariant_of-result : goal.invariant_of-result
invariant_of-result c =
    let at = goal.at.invariant_of-result c in
    let rs = res (map regex c.args.patterns.now) in
    let sets = lists c.in_ok-sets.field-0.sets.keys in
    let rules = lists c.in_ok-sets.field-0.rules.items in
    let same : rules_of c.in_ok-program.program ≡ rs = ap (λ t. res (map regex t)) c.in_ok-program.ensures.patterns in
    let F : List (Re (List ℕ)) → Type 0 = λ t. AreRulesOf t sets rules in
    tables_of rs (lists c.in_ok-rows.field-0.rows.keys) c.in_ok-rows.field-0.column_of.items (c.len.result / 64 + 1) sets (option_lists c.in_ok-sets.field-0.steps.items) rules
    (full (map regex c.args.patterns.now) c.requires.scannable) (columns at.In_ok-rows) (built at.In_ok-sets) (subst F same c.in_ok-sets.ensures.rules)
    (length-map c.in_ok-sets.field-0.rules.items (λ v. v.items) ∙ c.in_ok-sets.ensures.each ∙ sym (length-map c.in_ok-sets.field-0.sets.keys (λ v. v.items)))

pub returns-clause-few : goal.returns-clause-few
returns-clause-few c =
    let at = goal.at.returns-clause-few c in
    let ps = map regex c.args.patterns.now in
    not_above (res ps) (full ps c.requires.scannable) (lists c.in_ok-rows.field-0.rows.keys) c.in_ok-rows.field-0.column_of.items (c.len.result / 64 + 1) 16384
    (columns at.In_ok-rows) (lists c.in_ok-sets.field-0.sets.keys) (option_lists c.in_ok-sets.field-0.steps.items) (built at.In_ok-sets)
