-- The first place whose kind names a token puts its text, and behind that place the token isn't open.
use Rattle.std.proofs.Common.{arith, Some, refl, ℕ, ◌+◌, List, Option, Vec, Global, ◌-◌, subst, sym, ◌∙◌, ap}
use Rattle.std.specs.Prelude.{slice_set}
use Rattle.std.proofs.lemmas.List.{length-set}
use Rattle.cs_scanner.specs.Scan.Compared.{scanning}
use Rattle.cs_scanner.specs.Lexeme.Kinds.{AreAllFound, IsOpen, NamesNoOpen}
use Rattle.cs_scanner.specs.Lexeme.Texts.{texts_of}
use Rattle.cs_scanner.proofs.OnLexeme.Standing.{visit_at, is_visit}
use Rattle.cs_scanner.proofs.OnLexeme.Winning.{reached, found_same, found_put, none_found}
use Rattle.cs_scanner.proofs.lexeme.lexemes.put_named.Goals as goal
use Rattle.cs_scanner.proofs.lexeme.lexemes.put_named.Goals.{in-Some+in_ok-text, in_default}

pub kind_at-kind-requires-clause-reached : goal.kind_at-kind-requires-clause-reached
kind_at-kind-requires-clause-reached c =
    let visits = c.args.visits.now in
    let at = c.loop-place.place in
    reached (scanning c.args.table.now.scanner) c.args.table.now.scanner.automaton.now visits c.requires.visits at (visit_at visits at) (is_visit visits at c.loop-place-test.true)

pub loop-place-init : goal.loop-place-init
loop-place-init c = record {
  found = none_found (scanning c.args.table.now.scanner) c.args.table.now.scanner.automaton.now c.args.visits.now (texts_of c.args.texts.now.items) c.requires.texts.none;
  all = refl;
}

pub loop-place-preserved : goal.loop-place-preserved
loop-place-preserved c =
    let visits = c.args.visits.now in
    let at = c.loop-place.place in
    let v = visit_at visits at in
    let here = is_visit visits at c.loop-place-test.true in
    let scanner = c.args.table.now.scanner in
    let s = scanning scanner in
    let m = scanner.automaton.now in
    let before = c.loop-place.invariant in
    let texts = texts_of c.loop-place.texts.items in
    let P : List (Option (List ℕ)) → Type 0 = λ t. AreAllFound scanner visits (at + 1) (texts_of c.args.texts.now.items) t in
    elim c.match-open_token.branch [
      | in-Some+in_ok-text w ↦
          let some = w.in-Some.ensures.some in
          let O : List (Option (Vec ℕ Global)) → Type 0 = λ t. IsOpen (texts_of t) w.in-Some.token in
          let opened = subst O c.deref.ensures.value some.1 in
          let text = w.in_ok-text.text.items in
          let new = slice_set texts (w.in-Some.token - 1) (Some text) in
          let one : AreAllFound scanner visits (at + 1) (texts_of c.args.texts.now.items) new = record {
            found = found_put s m visits at v c.kind_at-kind.result texts w.in-Some.token text (omega arith) here c.kind_at-kind.ensures some.0 opened w.in_ok-text.ensures before.found;
            all = length-set texts (w.in-Some.token - 1) (Some text) ∙ before.all;
          } in
          subst P (ap (λ (u : Vec (Option (Vec ℕ Global)) Global). texts_of u.items) (sym w.texts-is)) (subst P (sym w.put_text.ensures) one)
      | in_default w ↦
          let N : List (Option (Vec ℕ Global)) → Type 0 = λ t. NamesNoOpen (texts_of t) c.kind_at-kind.result in
          let one : AreAllFound scanner visits (at + 1) (texts_of c.args.texts.now.items) texts = record {
            found = found_same s m visits at v c.kind_at-kind.result texts here c.kind_at-kind.ensures (subst N c.deref.ensures.value w.in_default.ensures.none) before.found;
            all = before.all;
          } in
          subst P (ap (λ (u : Vec (Option (Vec ℕ Global)) Global). texts_of u.items) (sym w.texts-is)) one
    ]

pub returns : goal.returns
returns c =
    let P : ℕ → Type 0 = λ q. AreAllFound c.args.table.now.scanner c.args.visits.now q (texts_of c.args.texts.now.items) (texts_of c.loop-place.texts.items) in
    subst P (omega arith) c.loop-place.invariant
