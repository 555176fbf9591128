-- Text by text those before are read, so the first that stops refuses the definitions.
use Rattle.std.proofs.Common.{◌≡◌, ◌≤◌, ◌∷◌, [], ◌∙◌, ℕ, List, length, sym, ap, subst, arith, inl, inr, length-append}
use Rattle.std.specs.Prelude.{Some, slice_get}
use Rattle.std.proofs.lemmas.List.{length-map}
use Rattle.std.proofs.lemmas.Option.{slice_get_cases, slice_get_within}
use Rattle.std.proofs.lemmas.Result.{err_from_is_err_and}
use Rattle.cs_pattern_parts.specs.Items.Views.{placed_all}
use Rattle.cs_pattern.specs.Operations.Definitions.{definition_of, definitions_of}
use Rattle.cs_pattern.specs.Text.Stages.{StopsAs}
use Rattle.cs_pattern.specs.Text.Table.{Reads}
use Rattle.cs_pattern.proofs.OnText.Staged.{entry_definition, text_bytes, few_read, more_items, stops_refuse}
use Rattle.cs_pattern.proofs.text.checking.read_all.Goals as goal

pub read_text-requires-clause-text : goal.read_text-requires-clause-text
read_text-requires-clause-text c =
    let at = entry_definition c.args.texts.now.entries c.len.result c.in-Some.field-0-0.now c.in-Some.text.now (sym c.in-Some.ensures.entry) in
    let h = text_bytes (definitions_of c.args.texts.now.entries) c.len.result (definition_of (c.in-Some.field-0-0.now, c.in-Some.text.now)) at in
    omega (arith, h, ap length c.deref.ensures.value, c.requires)

pub read_text-requires-clause-index : goal.read_text-requires-clause-index
read_text-requires-clause-index c =
    let sized = c.loop-text.all.ok in
    let within = c.loop-text.invariant.within in
    let h = few_read (definitions_of c.args.texts.now.entries) c.loop-text.all.items (length c.loop-text.all.items) (omega (arith, length-map c.args.texts.now.entries definition_of)) c.loop-text.invariant.each in
    omega (arith, h, c.len-in-Some.ensures, c.requires)

pub returns-in_err-read_text-clause-refused : goal.returns-in_err-read_text-clause-refused
returns-in_err-read_text-clause-refused c =
    let ds = definitions_of c.args.texts.now.entries in
    let sized = c.loop-text.all.ok in
    let index : c.len-in-Some.result ≡ c.len.result = c.len-in-Some.ensures ∙ sym c.len.ensures in
    let at = entry_definition c.args.texts.now.entries c.len.result c.in-Some.field-0-0.now c.in-Some.text.now (sym c.in-Some.ensures.entry) in
    let p = err_from_is_err_and c.from_residual.result c.from_residual.ensures.1 in
    let stops = subst (λ (text : List ℕ). StopsAs c.len.result text c.in_err-read_text.field-0.0) c.deref.ensures.value (subst (λ n. StopsAs n c.deref.result.now c.in_err-read_text.field-0.0) index c.in_err-read_text.ensures.stops) in
    rw (p.1, p.2)
    (stops_refuse ds c.loop-text.all.items c.len.result (definition_of (c.in-Some.field-0-0.now, c.in-Some.text.now)) c.in_err-read_text.field-0.0 at stops
    (λ i e lt there. c.loop-text.invariant.each i e (omega (arith, lt, c.len.ensures)) there))

pub loop-text-preserved : goal.loop-text-preserved
loop-text-preserved c =
    let ds = definitions_of c.args.texts.now.entries in
    let sized = c.loop-text.all.ok in
    let index : c.len.result ≡ length c.loop-text.all.items = omega (arith, c.len.ensures) in
    let at = entry_definition c.args.texts.now.entries c.len.result c.in-Some.field-0-0.now c.in-Some.text.now (sym c.in-Some.ensures.entry) in
    let d = definition_of (c.in-Some.field-0-0.now, c.in-Some.text.now) in
    let lt = slice_get_within c.args.texts.now.entries c.len.result _ (sym c.in-Some.ensures.entry) in
    rw c.in_ok-push.ensures.items
    record {
      within = omega (arith, lt, length-append c.loop-text.all.items (c.in_ok-read_text.field-0 ∷ []));
      each = more_items ds c.loop-text.all.items c.in_ok-read_text.field-0 d (subst (λ n. slice_get ds n ≡ Some d) index at)
          (subst (λ (text : List ℕ). Reads text (placed_all c.in_ok-read_text.field-0.items)) c.deref.ensures.value c.in_ok-read_text.ensures.read)
          (omega (arith, c.in_ok-read_text.ensures.short, ap length c.deref.ensures.value)) c.loop-text.invariant.each;
    }

pub returns-clause-read : goal.returns-clause-read
returns-clause-read c =
    let sized = c.loop-text.all.ok in
    let within = c.loop-text.invariant.within in
    let all : length c.args.texts.now.entries ≤ length c.loop-text.all.items = elim (slice_get_cases c.args.texts.now.entries c.len.result).1 [
      | inl found ↦ let e = c.in_default.ensures.entry in let f = found.2 in absurd cc
      | inr past ↦ omega (arith, past.0, c.len.ensures)
    ] in
    let size = length-map c.args.texts.now.entries definition_of in
    record {
      count = omega arith;
      each = λ i d at. c.loop-text.invariant.each i d (let lt = slice_get_within (definitions_of c.args.texts.now.entries) i d at in omega arith) at;
    }
