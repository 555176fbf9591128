-- Behind the item the place is reached just where the symbols up to it have empty trees.
use Rattle.std.proofs.Common.{◌≡◌, ℕ, List, refl, sym, subst, arith}
use Rattle.std.specs.Prelude.{All}
use Rattle.std.specs.List.{slice_range}
use Rattle.std.proofs.lemmas.Bool.{false≢true}
use Rattle.cs_grammar.specs.declared.symbol.Symbol.{Symbol}
use Rattle.cs_member.specs.declared.tables.item.Item.{Item}
use Rattle.cs_member.specs.Chart.Now.{IsPast}
use Rattle.cs_member.specs.Tables.Tables.{HasEmpty}
use Rattle.cs_member.specs.Derivation.Back.{IsPlaceSought}
use Rattle.cs_member.proofs.OnDerivation.Leading.{past_all, all_past}
use Rattle.cs_member.proofs.derivation.back.lead.Goals as goal
use Rattle.cs_member.proofs.derivation.back.lead.Goals.{then-place-start-via-then-place-start, then-place-start-via-else-place-start+then-not-have_empty}

pub returns-then-place-start : goal.returns-then-place-start
returns-then-place-start c = λ first x is leads.
    let g = c.args.question.now.grammar.now in
    let empties = c.args.question.now.tables.now.empties.items in
    let a = c.args.first in
    let k = c.in_ok-place.place in
    let p = c.rule.result.now in
    let place : IsPlaceSought g c.args.sought a.rule k = c.in_ok-place.ensures in
    let past : IsPast g a x = subst (λ (y : Item). IsPast g y x) is leads.past in
    let same : x.place ≡ k = place.only x past.same leads.meets in
    elim c.then-place-start.branch [
      | then-place-start-via-then-place-start w ↦ (let lt = w.if-place-start.true in let low = past.low in omega arith)
      | then-place-start-via-else-place-start+then-not-have_empty w ↦
          let all = past_all g empties c.rules-well_formed.ensures.well_formed c.requires.question.empties a x p c.rule.ensures.rule past in
          let here : All (HasEmpty empties) (slice_range p.right a.place k) = subst (λ n. All (HasEmpty empties) (slice_range p.right a.place n)) same all in
          let read : All (HasEmpty empties) (slice_range c.right-right.result.now a.place k) = subst (λ (l : List Symbol). All (HasEmpty empties) (slice_range l a.place k)) (sym c.right-right.ensures) here in
          false≢true (w.if-not-have_empty.ensures.1 (subst (λ (l : List ℕ). All (HasEmpty l) (slice_range c.right-right.result.now a.place k)) (sym w.deref.ensures.value) read))
    ]

pub returns : goal.returns
returns c =
    let g = c.args.question.now.grammar.now in
    let empties = c.args.question.now.tables.now.empties.items in
    let a = c.args.first in
    let k = c.in_ok-place.place in
    let p = c.rule.result.now in
    let place : IsPlaceSought g c.args.sought a.rule k = c.in_ok-place.ensures in
    let read : All (HasEmpty empties) (slice_range c.right-right.result.now a.place k) = subst (λ (l : List ℕ). All (HasEmpty l) (slice_range c.right-right.result.now a.place k)) c.deref.ensures.value (c.if-not-have_empty.ensures.0 refl) in
    let all : All (HasEmpty empties) (slice_range p.right a.place k) = subst (λ (l : List Symbol). All (HasEmpty empties) (slice_range l a.place k)) c.right-right.ensures read in
    record {
      past = all_past g empties c.rules-well_formed.ensures.well_formed c.requires.question.empties a k p c.rule.ensures.rule c.if-place-start.false (place.within p c.rule.ensures.rule) all;
      meets = place.meets;
    }
