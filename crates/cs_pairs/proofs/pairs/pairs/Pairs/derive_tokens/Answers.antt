-- The tokens have a least tree, so the row of the second tells where the first meets it.
use Rattle.std.proofs.Common.{◌≡◌, Some, None, get_or, sym, ap, ◌∙◌, subst, arith}
use Rattle.cs_grammar.specs.declared.symbol.Mark.TheVariants.{Token}
use Rattle.cs_grammar.specs.Grammar.{IsNumberOf}
use Rattle.cs_grammar.specs.Weights.{Weighed}
use Rattle.cs_least.specs.declared.cost.cost.Cost.TheVariants.{Least}
use Rattle.cs_pairs.specs.declared.pairs.meeting.Meeting.{Meeting}
use Rattle.cs_pairs.specs.Pairs.ChosenPair.{HasLeastPair, IsChosenMeeting}
use Rattle.cs_pairs.specs.Pairs.Meetings.{TellMeetings}
use Rattle.cs_pairs.proofs.OnPairs.Derived.{tokens_meeting}
use Rattle.cs_pairs.proofs.OnPairs.FollowLists.{row_of_meetings}
use Rattle.cs_pairs.proofs.pairs.pairs.Pairs.derive_tokens.Goals as goal
use Rattle.cs_pairs.proofs.pairs.pairs.Pairs.derive_tokens.Goals.{After-place_of-2}

-- the row of the second token
row : (c : After-place_of-2) → TellMeetings c.self.inside.kinds.weights c.self.inside.kinds.grammar c.args.tokens.second c.self.inside.kinds.grammar.tokens c.places-meetings.result.now
row c =
    let v = c.self.inside.kinds in
    let second = subst (λ (u : Weighed). IsNumberOf u.grammar.tokens c.args.tokens.second) (sym c.self.view_is) c.requires.second in
    row_of_meetings v.weights v.grammar c.args.tokens.second c.self.inside.rows.meetings.items c.places-meetings.result.now c.index.result.now c.place_of.result c.self.invariant.1 second c.places-meetings.ensures c.index.ensures c.place_of.ensures

first : (c : After-place_of-2) → IsNumberOf c.self.inside.kinds.grammar.tokens c.args.tokens.first
first c = subst (λ (u : Weighed). IsNumberOf u.grammar.tokens c.args.tokens.first) (sym c.self.view_is) c.requires.first

-- where the tokens meet
told : (c : After-place_of-2) → (at : Meeting) × (get_or c.places-meetings.result.now c.place_of-2.result None ≡ Some at) × IsChosenMeeting c.self.inside.kinds.weights c.self.inside.kinds.grammar c.args.tokens.first c.args.tokens.second at.rule at.place
told c =
    let v = c.self.inside.kinds in
    let a = c.args.tokens.first in
    let b = c.args.tokens.second in
    let least = subst (λ (u : Weighed). HasLeastPair u.weights u.grammar (Token a) (Token b)) (sym c.self.view_is) c.requires.least in
    let m = (row c).each a (first c) least.0 least.1 in
    (m.0, ap (λ i. get_or c.places-meetings.result.now i None) c.place_of-2.ensures ∙ m.1, tokens_meeting v.weights v.grammar a b (Least least.0) least.1 least m.0.rule m.0.place m.2)

pub bounds-meetings-place_of : goal.bounds-meetings-place_of
bounds-meetings-place_of c =
    let d = (goal.at.bounds-meetings-place_of c).After-place_of-2 in
    omega (arith, (row d).many, first d, d.place_of-2.ensures)

pub unreachable-requires : goal.unreachable-requires
unreachable-requires c = let m = told (goal.at.unreachable-requires c).After-place_of-2 in c.in_default.not-Some m.0 m.1

pub seam_code-requires-clause-meeting : goal.seam_code-requires-clause-meeting
seam_code-requires-clause-meeting c =
    let v = c.self.inside.kinds in
    let m = told (goal.at.seam_code-requires-clause-meeting c).After-place_of-2 in
    let e : Some m.0 ≡ Some c.in-Some.at = sym m.1 ∙ c.in-Some.is in
    let same : m.0 ≡ c.in-Some.at = cc in
    subst (λ (z : Meeting). IsChosenMeeting v.weights v.grammar c.args.tokens.first c.args.tokens.second z.rule z.place) same m.2
