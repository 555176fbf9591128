-- One state more, and all states.
use Rattle.std.proofs.Common.{◌≡◌, ◌∙◌, ℕ, List, ◌++◌, ◌∷◌, [], length, arith, sym, ap, subst, refl, Some, get_or}
use Rattle.std.specs.Prelude.{slice_get, Option, ◌==◌}
use Rattle.std.proofs.lemmas.List.{length-map, length_push}
use Rattle.std.proofs.lemmas.Option.{slice_get_within, slice_get-get_or}
use Rattle.cs_scanner.specs.Automaton.Programs.{rules_of}
use Rattle.cs_scanner.specs.Automaton.Sets.{lists}
use Rattle.cs_scanner.specs.Automaton.States.{AddsSteps, AreSteps, IsStepped, option_lists}
use Rattle.cs_scanner.proofs.OnAutomaton.Counting.{too_many}
use Rattle.cs_scanner.proofs.OnAutomaton.Growing.{stepped_more}
use Rattle.cs_scanner.proofs.OnAutomaton.Stating.{ready_state, rules_more, lists_pushed, option_lists_push}
use Rattle.cs_scanner.proofs.automaton.states.make_states.Goals as goal

pub returns-then-len-clause-too_many : goal.returns-then-len-clause-too_many
returns-then-len-clause-too_many c = λ most e.
    let m : most ≡ 16384 = cc in (
      m,
      too_many (rules_of c.args.program.now) c.requires.full c.args.width 16384 (lists c.states.sets.keys) c.states.invariant.states
          (omega (arith, length-map c.states.sets.keys (λ w. w.items), c.if-len.true, c.len-in-states-2.ensures.len)),
    )

pub steps_of-requires-clause-long : goal.steps_of-requires-clause-long
steps_of-requires-clause-long c = λ k row at.
    let wide = (c.states.invariant.states.wide c.len-state.result c.set_at.result.now c.set_at.ensures).0 in
    (c.requires.columns k row at).long ∙ sym wide ∙ sym c.in_ok-next.ensures.long ∙ sym (ap length c.deref.ensures.value)

pub states-init : goal.states-init
states-init c =
    record {
      states = c.in_ok-sets.ensures.start (rules_of c.args.program.now);
      few = rw c.new-steps.ensures.items (omega arith);
      some = rw c.new-steps.ensures.items (omega arith);
      bounded = omega (arith, c.in_ok-sets.ensures.one);
      steps = rw c.new-steps.ensures.items (λ k steps e. absurd cc);
      rules = rw c.new-rules.ensures.items (λ k x lt. absurd (omega (arith, lt)));
      each = rw (c.new-steps.ensures.items, c.new-rules.ensures.items) refl;
    }

pub states-preserved : goal.states-preserved
states-preserved c =
    let rs = rules_of c.args.program.now in
    let h = c.states.invariant in
    let width = c.args.width in
    let rows = lists c.args.rows.now in
    let old = lists c.states.sets.keys in
    let new = lists c.steps_of.new.sets.keys in
    let all = option_lists c.states.steps.items in
    let state = c.len-state.result in
    let words = c.set_at.result.now in
    let next = c.in_ok-next.field-0.next.items in
    let ending = c.in_ok-next.field-0.rules.items in
    let row = c.in_ok-row.row.items in
    let at = c.set_at.ensures in
    let after = c.in_ok-next.ensures in
    let r = ready_state rs width c.requires.wide old state words next ending (state == 0) h.states at refl after in
    let long = after.long ∙ (h.states.wide state words at).0 in
    let Q : List ℕ → Type 0 = λ t. AddsSteps old new t rows row in
    let has = subst Q c.deref.ensures.value c.in_ok-row.ensures.steps rs width state long r.ready c.requires.columns in
    let pushed = c.in_ok-push.ensures.items in
    let pushed_rule = c.in_ok-push-2.ensures.items in
    let count : state ≡ length c.states.steps.items = omega (arith, c.len-state.ensures, c.states.steps.ok.0) in
    let lists_all : length all ≡ length c.states.steps.items = length-map c.states.steps.items (λ w. w.items) in
    let lists_old : length old ≡ length c.states.sets.keys = length-map c.states.sets.keys (λ w. w.items) in
    let lists_new : length new ≡ length c.steps_of.new.sets.keys = length-map c.steps_of.new.sets.keys (λ w. w.items) in
    let lists_rows : length rows ≡ length c.args.rows.now = length-map c.args.rows.now (λ w. w.items) in
    let there = slice_get_within new state words (has.grows state words at) in
    let place : state ≡ length all = omega (arith, count, lists_all) in
    let P : ℕ → Type 0 = λ i. AreSteps rs rows new i row in
    let S : List (List (Option ℕ)) → Type 0 = λ t. IsStepped rs rows new t in
    let whole : option_lists c.push.new.self.items ≡ all ++ row ∷ [] = ap (λ t. option_lists t) pushed ∙ option_lists_push c.states.steps.items c.in_ok-row.row in
    let known : (k : ℕ) (z : List (Option ℕ)) → slice_get all k ≡ Some z → (ps : List ℕ) × (slice_get old k ≡ Some ps) = λ k z e. let below = slice_get_within all k z e in (get_or old k [], slice_get-get_or old k [] (omega (arith, below, lists_all, lists_old, h.some))) in
    let kept = lists c.states.rules.items in
    let kept_all : length kept ≡ length c.states.rules.items = length-map c.states.rules.items (λ w. w.items) in
    let more : lists c.push-in-states.new.self.items ≡ kept ++ ending ∷ [] = ap lists pushed_rule ∙ lists_pushed c.states.rules.items c.in_ok-next.field-0.rules in
    record {
      states = has.ready.states;
      few = rw (pushed, length_push) (omega (arith, count, c.len.ensures, c.states-test.true, c.if-len.false, c.len-in-states.ensures.len, c.len-in-states-2.ensures.len, c.states.steps.ok.0));
      some = rw (pushed, length_push) (omega (arith, count, there, lists_new));
      bounded = omega (arith, c.in_ok-row.ensures.few, c.if-len.false, c.len-in-states-2.ensures.len);
      steps = subst S (sym whole) (stepped_more rs rows old new all row h.steps known has.grows (c.in_ok-row.ensures.all ∙ sym lists_rows) (subst P place has.steps_are));
      rules = rules_more rs old new kept (lists c.push-in-states.new.self.items) ending state words more (omega (arith, h.each, count, kept_all)) (omega (arith, h.each, h.some, lists_old, kept_all)) at has.grows h.rules r.spelled;
      each = rw (pushed, pushed_rule) (omega (arith, h.each, length_push c.states.steps.items c.in_ok-row.row, length_push c.states.rules.items c.in_ok-next.field-0.rules));
    }
