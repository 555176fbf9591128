-- Base by base, its opening and its edits stand behind those of the bases before it.
use Rattle.std.proofs.Common.{◌≡◌, ◌+◌, ◌<◌, ◌≤◌, List, [], ◌∷◌, ℕ, drop, get_or, length, length-drop, refl, subst, sym, ap, ◌∙◌, arith, suc, add-one}
use Rattle.std.specs.Prelude.{Some}
use Rattle.std.proofs.Math.Seq.{drop-cons}
use Rattle.std.proofs.lemmas.Result.{err_from_is_err_and}
use Rattle.cs_deep.proofs.OnWriting.Basing.{base_more, bases_all, bases_counted, bases_none, edits_stop, many_done, opening_cut}
use Rattle.cs_deep.proofs.OnWriting.Counting.{none_within, within_counted}
use Rattle.cs_deep.specs.Writing.Deep.{IsEditOf}
use Rattle.cs_deep.specs.Writing.Lines.{IsWithin}
use Rattle.cs_deep.specs.declared.writing.tally.Tally.{Tally}
use Rattle.cs_grammar.proofs.Measures.{All-at}
use Rattle.cs_manifest.specs.Manifest.ByWork.{texts_of}
use Rattle.cs_manifest.proofs.OnManifest.Zips.{length_zip}
use Rattle.cs_writing.proofs.OnWriting.Ones.{nothing_in}
use Rattle.cs_deep.specs.Writing.Progress.{edits_by}
use Rattle.cs_deep.proofs.writing.writing.write_bases.Given.{Over}
use Rattle.cs_deep.proofs.writing.writing.write_bases.Goals as goal
use Rattle.cs_deep.proofs.writing.writing.write_bases.Goals.{After-get-goal}
use Rattle.cs_writing.proofs.OnWriting.Batch.{StandsAt, stands_at}
use Rattle.cs_writing.proofs.OnWriting.Edits.{few_edits}
use Rattle.cs_writing.specs.Writing.Mutants.{IsEditable}

-- the base of an iteration
abbrev base_of : (g : Over) (c : After-get-goal g) → ℕ × List ℕ
base_of g c = (c.get-goal.result.0, c.get-goal.result.1.now)

stands : (g : Over) (c : After-get-goal g) → StandsAt c.args.bases.now.list c.loop-index.index (base_of g c)
stands g c = stands_at c.args.bases.now.list c.loop-index.index (base_of g c) c.get-goal.ensures

editable : (g : Over) (c : After-get-goal g) → IsEditable c.args.deep.now.yacc.now.grammar.tokens (base_of g c)
editable g c = All-at (IsEditable c.args.deep.now.yacc.now.grammar.tokens) c.args.bases.now.list c.loop-index.index (base_of g c) c.requires.bases c.get-goal.ensures

-- it stands in front of those that are left
left_is : (list : List (ℕ × List ℕ)) (i : ℕ) (base : ℕ × List ℕ) → i < length list → base ≡ get_or list i base → drop i list ≡ base ∷ drop (i + 1) list
left_is list i base below is =
    drop-cons list i base below ∙ ap (λ (b : ℕ × List ℕ). b ∷ drop (suc i) list) (sym is) ∙ ap (λ (n : ℕ). base ∷ drop n list) (sym (add-one i))

pub loop-index-init : goal.loop-index-init
loop-index-init g c = record {
  within = subst IsWithin (sym c.requires.tally) none_within;
  few = let none = ap (λ (t : Tally). t.edits) c.requires.tally in omega (arith, none);
  so_far = bases_none g.S.Sink c.args.deep.now c.one_text.ensures c.args.bases.now.list c.args.sink.now (drop 0 c.args.bases.now.list) c.args.tally.now refl c.requires.tally;
}

-- the first bases and this one
done_is : (g : Over) (c : After-get-goal g) → length c.loop-index.invariant.so_far.done ≡ c.loop-index.index
done_is g c =
    let below = (stands g c).within in
    many_done g.S.Sink c.args.deep.now c.one_text.ensures c.args.bases.now.list c.args.sink.now (drop c.loop-index.index c.args.bases.now.list) c.loop-index.sink c.loop-index.tally
    c.loop-index.invariant.so_far c.loop-index.index refl (omega (arith, below))

next_is : (g : Over) (c : After-get-goal g) → drop c.loop-index.index c.args.bases.now.list ≡ base_of g c ∷ drop (c.loop-index.index + 1) c.args.bases.now.list
next_is g c = left_is c.args.bases.now.list c.loop-index.index (base_of g c) (stands g c).within (stands g c).is

-- its edits are few
few_of : (g : Over) (c : After-get-goal g) → length (edits_by c.args.deep.now (base_of g c).1) ≤ 1100000000
few_of g c =
    let d = c.args.deep.now in
    few_edits d.yacc.now.grammar.tokens (base_of g c).1 d.means.mutation.operators c.requires.ready.ready.plan.file.grammar.tokens (editable g c).short

pub returns-in_err-write_opening-clause-text : goal.returns-in_err-write_opening-clause-text
returns-in_err-write_opening-clause-text g c =
    let p = err_from_is_err_and c.from_residual.result c.from_residual.ensures.1 in
    let at = (goal.at.returns-in_err-write_opening-clause-text g c).After-get-goal in
    let list = c.args.bases.now.list in
    let i = c.loop-index.index in
    rw (p.1, p.2) (opening_cut g.S.Sink c.args.deep.now c.one_text.ensures list c.args.sink.now (base_of g at) (drop (i + 1) list) (drop i list) (next_is g at) c.loop-index.sink c.loop-index.tally
    c.loop-index.invariant.so_far i (done_is g at) c.write_opening.new.sink c.in_err-write_opening.ensures)

pub write_base-requires-clause-base : goal.write_base-requires-clause-base
write_base-requires-clause-base g c = λ κs met.
    let is = editable g (goal.at.write_base-requires-clause-base g c).After-get-goal in
    record { short = is.short; tokens_of = is.tokens_of }

pub write_base-requires-clause-few : goal.write_base-requires-clause-few
write_base-requires-clause-few g c = λ κs met.
    let few = few_of g (goal.at.write_base-requires-clause-few g c).After-get-goal in
    record { within = c.loop-index.invariant.within; few = omega (arith, few, c.loop-index.invariant.few) }

pub returns-in_err-write_base-clause-text : goal.returns-in_err-write_base-clause-text
returns-in_err-write_base-clause-text g c =
    let p = err_from_is_err_and c.from_residual-in_err-write_base.result c.from_residual-in_err-write_base.ensures.1 in
    let at = (goal.at.returns-in_err-write_base-clause-text g c).After-get-goal in
    let list = c.args.bases.now.list in
    let i = c.loop-index.index in
    rw (p.1, p.2) (edits_stop g.S.Sink c.args.deep.now c.one_text.ensures list c.args.sink.now (base_of g at) (drop (i + 1) list) (drop i list) (next_is g at) c.loop-index.sink c.loop-index.tally
    c.loop-index.invariant.so_far i (done_is g at) c.write_opening.new.sink c.write_base.new.sink c.in_err-write_base.field-0.0 c.in_ok-write_opening.ensures c.in_err-write_base.ensures.text)

pub loop-index-preserved : goal.loop-index-preserved
loop-index-preserved g c =
    let at = (goal.at.loop-index-preserved g c).After-get-goal in
    let d = c.args.deep.now in
    let list = c.args.bases.now.list in
    let i = c.loop-index.index in
    let more = c.in_ok-write_base.ensures in
    let is = more.text.is in
    let counted = more.counted is.entries is.are in
    let R = IsEditOf d.yacc.now.grammar (Some (texts_of d.means.work.now)) (Some d.means.work.now.lexemes.now) (base_of g at).1 in
    let few = few_of g at in
    record {
      within = within_counted is.entries c.loop-index.tally c.write_base.new.tally c.loop-index.invariant.within counted;
      few = omega (arith, counted.edits, few, length_zip R (edits_by d (base_of g at).1) is.entries is.are, c.loop-index.invariant.few);
      so_far = base_more g.S.Sink d c.one_text.ensures list c.args.sink.now (base_of g at) (drop (i + 1) list) (drop i list) (next_is g at) c.loop-index.sink c.loop-index.tally
          c.loop-index.invariant.so_far i (done_is g at) c.write_opening.new.sink c.write_base.new.sink c.write_base.new.tally c.in_ok-write_opening.ensures more.text more.counted;
    }

-- none is left
none_left : (list : List (ℕ × List ℕ)) (i : ℕ) → length list ≤ i → drop i list ≡ []
none_left list i past = nothing_in (drop i list) (omega (arith, length-drop i list, past))

pub returns-clause-text : goal.returns-clause-text
returns-clause-text g c =
    let list = c.args.bases.now.list in
    let i = c.loop-index.index in
    bases_all g.S.Sink c.args.deep.now c.one_text.ensures list c.args.sink.now (drop i list) c.loop-index.sink c.loop-index.tally c.loop-index.invariant.so_far
    (none_left list i (omega (arith, c.loop-index-test.false, c.len-index-end.ensures)))

pub returns-clause-counted : goal.returns-clause-counted
returns-clause-counted g c =
    let list = c.args.bases.now.list in
    let i = c.loop-index.index in
    bases_counted g.S.Sink c.args.deep.now c.one_text.ensures list c.args.sink.now (drop i list) c.loop-index.sink c.loop-index.tally c.loop-index.invariant.so_far
    (none_left list i (omega (arith, c.loop-index-test.false, c.len-index-end.ensures)))

-- the names of what is lent stay
pub returns-in_err-write_opening-clause-lent : goal.returns-in_err-write_opening-clause-lent
returns-in_err-write_opening-clause-lent g c = c.in_err-write_opening.ensures.lent ∙ c.loop-index.invariant.so_far.written.lent

pub returns-in_err-write_base-clause-lent : goal.returns-in_err-write_base-clause-lent
returns-in_err-write_base-clause-lent g c = c.in_err-write_base.ensures.lent ∙ c.in_ok-write_opening.ensures.lent ∙ c.loop-index.invariant.so_far.written.lent

pub returns-clause-lent : goal.returns-clause-lent
returns-clause-lent g c = c.loop-index.invariant.so_far.written.lent
