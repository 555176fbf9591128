-- All states that the search met.
use Rattle.std.proofs.Common.{◌<◌, ◌∷◌, [], List, Vec, Global, subst, arith, length}
use Rattle.cs_scanner.specs.declared.lexeme.search.Visit.{Visit}
use Rattle.cs_scanner.specs.declared.lexeme.steps.Step.{Step}
use Rattle.cs_scanner.specs.Lexeme.Kinds.{first_visit}
use Rattle.cs_scanner.specs.Lexeme.Steps.{rows_of}
use Rattle.cs_scanner.specs.Lexeme.Visits.{AreAllMet}
use Rattle.cs_scanner.proofs.OnLexeme.Meeting.{few_visits}
use Rattle.cs_scanner.proofs.OnLexeme.Seeing.{length-seen, searched, state_texts}
use Rattle.cs_scanner.proofs.lexeme.state_texts.StateTexts.new.Goals as goal
use Rattle.cs_scanner.proofs.lexeme.state_texts.StateTexts.new.Goals.{In_ok-meet_all}

all_met : (c : In_ok-meet_all) → AreAllMet c.args.automaton.now (rows_of c.in_ok-rows.rows.items) 0 (first_visit c.start.result ∷ []) c.meet_all.new.visits.items
all_met c =
    let m = c.args.automaton.now in
    let visits = c.meet_all.new.visits.items in
    let R : List (Vec Step Global) → Type 0 = λ t. AreAllMet m (rows_of t) 0 c.in_ok-visits.visits.items visits in
    let A : List Visit → Type 0 = λ t. AreAllMet m (rows_of c.in_ok-rows.rows.items) 0 t visits in
    subst A c.in_ok-visits.ensures (subst R c.deref.ensures.value c.in_ok-meet_all.ensures)

pub returns-clause-texts : goal.returns-clause-texts
returns-clause-texts c =
    let all = all_met (goal.at.returns-clause-texts c).In_ok-meet_all in
    state_texts c.args.automaton.now c.meet_all.new.visits.items all.visits_are (rows_of c.in_ok-rows.rows.items) c.in_ok-rows.ensures c.start.result all c.start.ensures.stands

pub returns-clause-few : goal.returns-clause-few
returns-clause-few c =
    let all = all_met (goal.at.returns-clause-few c).In_ok-meet_all in
    let visits = c.meet_all.new.visits.items in
    let longer = all.extends.longer in
    let some : 0 < length visits = omega (arith, longer) in
    omega (arith, length-seen visits some, few_visits c.args.automaton.now visits all.visits_are, c.state_count-states.ensures.count, c.state_count-states.ensures.few)

pub invariant_of-result : goal.invariant_of-result
invariant_of-result c =
    let all = all_met (goal.at.invariant_of-result c).In_ok-meet_all in
    searched c.args.automaton.now c.meet_all.new.visits.items all.visits_are (rows_of c.in_ok-rows.rows.items) c.in_ok-rows.ensures c.start.result all c.start.ensures.stands
