-- The rules of one state more are noted, and its text is kept where it is new to a rule or a pair.
use Rattle.std.proofs.Common.{◌≡◌, ◌⊎◌, ◌<◌, ◌∙◌, ℕ, List, [], ◌∷◌, Some, Vec, Global, sym, subst, inl, inr, arith, length, ⊎_elim}
use Rattle.std.specs.Prelude.{IsTrue}
use Rattle.std.proofs.lemmas.List.{map-append, length-map}
use Rattle.cs_scanner.specs.Automaton.Machine.{AreMatching, IsFirstRule, StateOf, patterns_of}
use Rattle.cs_scanner.specs.Lexeme.StateTexts.{IsStateText, entry_in}
use Rattle.cs_scanner.specs.Lexeme.Texts.{text_of, texts_of}
use Rattle.cs_lexical.specs.Least.{lists}
use Rattle.cs_lexical.proofs.Firsts.{entry_is}
use Rattle.cs_lexical.proofs.Noted.{first_within, next, rules_within}
use Rattle.cs_lexical.proofs.lexical.note_all.Goals as goal
use Rattle.cs_lexical.proofs.lexical.note_all.Goals.{After-first_rule, After-rules_at, After-state-state}

-- the state of the loop's place
in_met : (c : After-state-state) → c.loop-place.place < length c.args.met.now
in_met c = omega (arith, c.loop-place-test.true, c.count-place-end.ensures)

state_text : (c : After-state-state) → IsStateText c.args.automaton.now (entry_in c.args.met.now c.loop-place.place)
state_text c = c.requires.met.each c.loop-place.place (entry_in c.args.met.now c.loop-place.place) (entry_is c.args.automaton.now c.args.met.now c.requires.met c.loop-place.place (in_met c))

within : (c : After-state-state) → c.state-state.result < length c.args.automaton.now.sets
within c = let S : ℕ → Type 0 = λ q. q < length c.args.automaton.now.sets in subst S (sym c.state-state.ensures) (state_text c).within

-- the first of its rules, and all
lowest : (c : After-first_rule) (x : List ℕ) → StateOf c.args.automaton.now (entry_in c.args.met.now c.loop-place.place).state x → IsFirstRule (patterns_of c.args.automaton.now) x c.first_rule.result
lowest c =
    let m = c.args.automaton.now in
    let F : ℕ → Type 0 = λ q. (x : List ℕ) → StateOf m q x → IsFirstRule (patterns_of m) x c.first_rule.result in
    subst F c.state-state.ensures c.first_rule.ensures

every : (c : After-rules_at) (x : List ℕ) → StateOf c.args.automaton.now (entry_in c.args.met.now c.loop-place.place).state x → AreMatching (patterns_of c.args.automaton.now) x c.rules_at.result.now
every c =
    let m = c.args.automaton.now in
    let A : ℕ → Type 0 = λ q. (x : List ℕ) → StateOf m q x → AreMatching (patterns_of m) x c.rules_at.result.now in
    subst A c.state-state.ensures c.rules_at.ensures

pub first_rule-requires : goal.first_rule-requires
first_rule-requires c = within (goal.at.first_rule-requires c).After-state-state

pub note_win-won-requires : goal.note_win-won-requires
note_win-won-requires c =
    let at = goal.at.note_win-won-requires c in
    first_within c.args.automaton.now (entry_in c.args.met.now c.loop-place.place) (state_text at.After-state-state) (length c.loop-place.wins) c.loop-place.invariant.rules c.first_rule.result (lowest at.After-first_rule)

pub rules_at-requires : goal.rules_at-requires
rules_at-requires c = within (goal.at.rules_at-requires c).After-state-state

pub note_rows-overlap-requires-clause-rules : goal.note_rows-overlap-requires-clause-rules
note_rows-overlap-requires-clause-rules c =
    let at = goal.at.note_rows-overlap-requires-clause-rules c in
    let m = c.args.automaton.now in
    let many : length c.loop-place.rows ≡ length m.patterns = sym (length-map c.loop-place.rows (λ (v : Vec ℕ Global). v.items)) ∙ c.loop-place.invariant.are_rows.all in
    rules_within m (entry_in c.args.met.now c.loop-place.place) (state_text at.After-state-state) (length c.loop-place.rows) many c.rules_at.result.now (every at.After-rules_at)

pub loop-place-preserved : goal.loop-place-preserved
loop-place-preserved c =
    let was = goal.at.loop-place-preserved c in
    let met = c.args.met.now in
    let s = c.requires.met in
    let m = c.args.automaton.now in
    let place = c.loop-place.place in
    let t = entry_in met place in
    let at = entry_is m met s place (in_met was.After-state-state) in
    let text = text_of c.in_ok-text_if.field-0 in
    let kept = c.in_ok-text_if.ensures in
    let K : Type 0 = text ≡ Some (t.text) in
    let won : (c.note_win-won.new.wins ≡ c.loop-place.wins) ⊎ K = ⊎_elim (λ (yes : IsTrue c.note_win-won.result). inr (kept.won yes)) (λ (same : c.note_win-won.new.wins ≡ c.loop-place.wins). inl same) c.note_win-won.ensures.told in
    let both : (lists c.note_rows-overlap.new.rows ≡ lists c.loop-place.rows) ⊎ K = ⊎_elim (λ (yes : IsTrue c.note_rows-overlap.result). inr (kept.overlap yes)) (λ (same : lists c.note_rows-overlap.new.rows ≡ lists c.loop-place.rows). inl same) c.note_rows-overlap.ensures.told in
    let same : length c.note_win-won.new.wins ≡ length c.loop-place.wins = c.note_win-won.auto.wins in
    rw (c.in_ok-push-2.ensures.items, map-append text_of c.loop-place.texts.items (c.in_ok-text_if.field-0 ∷ []))
    (next m met s place t at (texts_of c.loop-place.texts.items) text c.loop-place.invariant.kept c.loop-place.wins c.note_win-won.new.wins (lists c.loop-place.rows) (lists c.note_rows-overlap.new.rows) c.first_rule.result c.rules_at.result.now
    (lowest was.After-first_rule) (every was.After-rules_at) c.note_win-won.ensures.wins c.note_rows-overlap.ensures.rows won both same c.loop-place.invariant)
