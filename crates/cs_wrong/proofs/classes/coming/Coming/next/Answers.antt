-- The slip at the place is the first that is left, and behind it its list is known.
use Rattle.std.proofs.Common.{◌<◌, ◌+◌, get_or, length, sym, subst, arith, refl}
use Rattle.cs_grammar.specs.Weights.{Weighed}
use Rattle.cs_wrong.proofs.OnClasses.Taking.{can_more, coming_at, fits_next, taken_one}
use Rattle.cs_wrong.specs.Classes.Coming.{CanTake, PlainComing, TakesOne}
use Rattle.cs_wrong.specs.Slips.Found.{AreTokensOf, IsFitting, TellsList}
use Rattle.cs_wrong.specs.declared.classes.coming.Candidate.{Candidate}
use Rattle.cs_wrong.specs.declared.slips.slip.Slip.TheVariants.{Empty}
use Rattle.cs_wrong.proofs.classes.coming.Coming.next.Goals as goal
use Rattle.cs_wrong.proofs.classes.coming.Coming.next.Goals.{Else-self}

within : (c : Else-self) → c.self.inside.at < length c.self.inside.slips.now
within c = omega (arith, c.if-self.false, c.self.invariant)

can : (c : Else-self) → CanTake c.args.pairs.now (coming_at c.self.inside.slips.now c.self.inside.at c.self.inside.met)
can c = subst (λ (s : PlainComing). CanTake c.args.pairs.now s) (sym c.self.view_is) c.requires

pub list_of-requires : goal.list_of-requires
list_of-requires c =
    let at = (goal.at.list_of-requires c).Else-self in
    let slips = c.self.inside.slips.now in
    let i = c.self.inside.at in
    subst (λ (v : Weighed). IsFitting v.grammar (get_or slips i Empty)) (sym c.embeds.ensures) (fits_next c.args.pairs.now slips i c.self.inside.met Empty (within at) (can at))

pub returns-clause-found : goal.returns-clause-found
returns-clause-found c =
    let at = (goal.at.returns-clause-found c).Else-self in
    let i = c.self.inside.at in
    let slips = c.self.inside.slips.now in
    let candidate : Candidate = record { slip = get_or slips i Empty; list = c.in_ok-list.list; again = c.in_ok-again.again; at = c.place_in-at.result } in
    let list = subst (λ (v : Weighed). TellsList v candidate.slip candidate.list) c.embeds.ensures c.in_ok-list.ensures.list in
    let tokens = subst (λ (v : Weighed). AreTokensOf v.grammar candidate.list) c.embeds.ensures c.in_ok-list.ensures.tokens in
    subst (λ (s : PlainComing). TakesOne c.args.pairs.now s candidate (coming_at slips (i + 1) c.meet_list.new.met)) c.self.view_is
    (taken_one c.args.pairs.now slips i c.self.inside.met c.meet_list.new.met candidate Empty (within at) refl (can at) list c.in_ok-again.ensures tokens c.in_ok-list.ensures.few c.place_in-at.ensures)

pub returns-clause-slips : goal.returns-clause-slips
returns-clause-slips c =
    let at = (goal.at.returns-clause-slips c).Else-self in
    let i = c.self.inside.at in
    let slips = c.self.inside.slips.now in
    let candidate : Candidate = record { slip = get_or slips i Empty; list = c.in_ok-list.list; again = c.in_ok-again.again; at = c.place_in-at.result } in
    let list = subst (λ (v : Weighed). TellsList v candidate.slip candidate.list) c.embeds.ensures c.in_ok-list.ensures.list in
    can_more c.args.pairs.now slips i c.self.inside.met c.meet_list.new.met candidate Empty (within at) refl (can at) list c.in_ok-again.ensures
