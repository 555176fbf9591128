-- One token more, with the nonterminals that end with it where the other isn't in its line.
use Rattle.std.proofs.Common.{◌≡◌, ◌+◌, ◌<◌, ◌≤◌, Bool, List, [], length, get_or, sym, ap, ◌∙◌, subst}
use Rattle.std.proofs.lemmas.List.{get_or_default}
use Rattle.cs_closed.specs.Closed.Sets.{PlainSets, IsPair}
use Rattle.cs_closed.proofs.OnClosed.Parting.{ArePartedTo, parted_none, parted_skip, parted_add, parted_all}
use Rattle.cs_closed.proofs.closed.sets.Sets.parted.Goals as goal
use Rattle.cs_closed.proofs.closed.sets.Sets.parted.Goals.{then-not-has_pair, else-not-has_pair}

pub loop-place-init : goal.loop-place-init
loop-place-init c = parted_none c.args.self.now c.args.token 1024

pub loop-place-preserved : goal.loop-place-preserved
loop-place-preserved c =
    let s = c.args.self.now in
    let next_is : c.deref.result.now ≡ s.next = c.deref.ensures.value ∙ ap (λ (t : PlainSets). t.next) c.self.view_is in
    let last_is : c.as_slice-lasts.result.now ≡ s.last = c.as_slice-lasts.ensures.value ∙ ap (λ (t : PlainSets). t.last) c.self.view_is in
    elim c.if-not-has_pair.branch [
      | then-not-has_pair w ↦
          (let low : c.loop-place.place < length s.last = subst (λ (l : List (List Bool)). c.loop-place.place < length l) last_is c.loop-place-test.true in
          let is_row : w.members.result.now ≡ get_or s.last c.loop-place.place [] =
          w.members.ensures ∙ w.index-lasts-place.is
          ∙ ap (λ (l : List (List Bool)). get_or l c.loop-place.place w.index-lasts-place.result) last_is
          ∙ get_or_default s.last c.loop-place.place w.index-lasts-place.result [] low in
          subst (λ (l : List Bool). ArePartedTo s c.args.token (c.loop-place.place + 1) l) (sym w.parted-is)
          (parted_add s c.args.token c.loop-place.place c.number_of.result c.number_of.ensures c.loop-place.parted c.loop-place.invariant w.add.new.set w.members.result.now is_row
          (λ stands. absurd (let yes = c.has_pair.ensures.1 (subst (λ (t : List (List Bool)). IsPair t c.number_of.result c.args.token) (sym next_is) stands) in let other = w.if-not-has_pair.true in cc))
          w.add.ensures))
      | else-not-has_pair w ↦
          subst (λ (l : List Bool). ArePartedTo s c.args.token (c.loop-place.place + 1) l) (sym w.parted-is)
          (parted_skip s c.args.token c.loop-place.place c.number_of.result c.number_of.ensures c.loop-place.parted c.loop-place.invariant
          (subst (λ (t : List (List Bool)). IsPair t c.number_of.result c.args.token) next_is (c.has_pair.ensures.0 w.if-not-has_pair.false)))
    ]

pub returns : goal.returns
returns c =
    let last_is : c.as_slice-lasts.result.now ≡ c.args.self.now.last = c.as_slice-lasts.ensures.value ∙ ap (λ (t : PlainSets). t.last) c.self.view_is in
    parted_all c.args.self.now c.args.token c.loop-place.place c.loop-place.parted
    (subst (λ (l : List (List Bool)). length l ≤ c.loop-place.place) last_is c.loop-place-test.false)
    c.loop-place.invariant
