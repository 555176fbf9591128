-- A name that has no index is the name of no definition, so its entry is put behind the others.
use Rattle.std.proofs.Common.{subst, ◌+◌, length, arith, ◌≡◌, ◌∙◌, ap, sym, ◌++◌, ◌∷◌, [], ℕ, List, Bool, false, true, refl}
use Rattle.std.specs.Prelude.{is_some, position, Result, Err, IsErrOf, IsTrue, ◌↔◌}
use Rattle.std.specs.Str.{bytes_eq}
use Rattle.std.proofs.lemmas.Bool.{false≢true}
use Rattle.std.proofs.lemmas.List.{map_push}
use Rattle.std.proofs.lemmas.List.Sums.{sum_by_push}
use Rattle.std.proofs.lemmas.Result.{err_from_is_err_and}
use Rattle.std.proofs.lemmas.List.Elements.{All-push}
use Rattle.cs_pattern_parts.specs.Items.StandsFor.{AreBytes}
use Rattle.cs_pattern.specs.Text.Classes.{HaveByteTexts}
use Rattle.cs_pattern.proofs.OnText.ClassBytes.{AreBytes-from_fits}
use Rattle.cs_pattern.specs.declared.text.fault.DefinitionError.{DefinitionError}
use Rattle.cs_pattern.specs.declared.text.fault.DefinitionError.TheVariants.{Twice, Memory}
use Rattle.cs_pattern.specs.Operations.Definitions.{Definition, definition_of, definitions_of, has_name, total_bytes}
use Rattle.cs_pattern.proofs.OnOperations.Named.{insert_absent, position-map}
use Rattle.cs_pattern.proofs.text.definitions.Definitions.add.Goals as goal

same_end : (a b : List Definition) (n m t u : List ℕ) → a ≡ b → n ≡ m → t ≡ u → a ++ record { name = n; text = t } ∷ [] ≡ b ++ record { name = m; text = u } ∷ []
same_end a b n m t u e f g =
    ap (λ (x : List Definition). x ++ record { name = n; text = t } ∷ []) e
    ∙ ap (λ (x : List ℕ). b ++ record { name = x; text = t } ∷ []) f
    ∙ ap (λ (x : List ℕ). b ++ record { name = m; text = x } ∷ []) g

-- what the test of the name says
tested : (name : List ℕ) (es ds : List Definition) (v b : Bool) → es ≡ ds → v ≡ has_name name es → v ≡ b → has_name name ds ≡ b
tested name es ds v b e f g = ap (has_name name) (sym e) ∙ sym f ∙ g

no_twice : {T : Type 0} (r : Result T DefinitionError) (e : DefinitionError) (h : Bool) → r ≡ Err e → e ≡ Memory → h ≡ false → IsErrOf r Twice ↔ IsTrue h
no_twice r e h is was none = (λ t. let x : r ≡ Err Twice = t in absurd cc, λ t. let x : h ≡ true = t in absurd (false≢true (sym none ∙ x)))

pub returns-clause-ok : goal.returns-clause-ok
returns-clause-ok c =
    let none = sym (ap is_some (position-map (λ d. bytes_eq c.args.name.now d.name) definition_of c.self.inside.texts.entries)) ∙ ap is_some (sym c.index_of.ensures) ∙ sym c.is_some.ensures ∙ c.if-is_some.false in
    ap definitions_of (c.in_ok-insert.ensures.entries ∙ insert_absent _ c.in_ok-name.name c.in_ok-text.text c.self.inside.texts.entries
    (ap (λ (n : List ℕ). is_some (position (λ x. bytes_eq n (definition_of x).name) c.self.inside.texts.entries)) c.in_ok-name.ensures.items ∙ none))
    ∙ map_push definition_of _ _
    ∙ same_end _ _ _ _ _ _ c.self.view_is c.in_ok-name.ensures.items c.in_ok-text.ensures.items

pub returns-then-is_some-clause-twice : goal.returns-then-is_some-clause-twice
returns-then-is_some-clause-twice c =
    (λ _. tested c.args.name.now _ c.args.self.now c.is_some.result true c.self.view_is (c.is_some.ensures ∙ ap is_some c.index_of.ensures) c.if-is_some.true, λ _. refl)

pub returns-clause-twice : goal.returns-clause-twice
returns-clause-twice c =
    let none = tested c.args.name.now _ c.args.self.now c.is_some.result false c.self.view_is (c.is_some.ensures ∙ ap is_some c.index_of.ensures) c.if-is_some.false in
    (λ t. absurd cc, λ t. absurd (false≢true (sym none ∙ t)))

pub returns-in_err-name-clause-twice : goal.returns-in_err-name-clause-twice
returns-in_err-name-clause-twice c =
    let none = tested c.args.name.now _ c.args.self.now c.is_some.result false c.self.view_is (c.is_some.ensures ∙ ap is_some c.index_of.ensures) c.if-is_some.false in
    let p = err_from_is_err_and c.from_residual.result c.from_residual.ensures.1 in
    no_twice _ _ _ p.1 p.2 none

pub returns-in_err-text-clause-twice : goal.returns-in_err-text-clause-twice
returns-in_err-text-clause-twice c =
    let none = tested c.args.name.now _ c.args.self.now c.is_some.result false c.self.view_is (c.is_some.ensures ∙ ap is_some c.index_of.ensures) c.if-is_some.false in
    let p = err_from_is_err_and c.from_residual-in_err-text.result c.from_residual-in_err-text.ensures.1 in
    no_twice _ _ _ p.1 p.2 none

pub returns-in_err-insert-clause-twice : goal.returns-in_err-insert-clause-twice
returns-in_err-insert-clause-twice c =
    let none = tested c.args.name.now _ c.args.self.now c.is_some.result false c.self.view_is (c.is_some.ensures ∙ ap is_some c.index_of.ensures) c.if-is_some.false in
    let p = err_from_is_err_and c.from_residual-in_err-insert.result c.from_residual-in_err-insert.ensures.1 in
    no_twice _ _ _ p.1 p.2 none

pub invariant_of-self-2 : goal.invariant_of-self-2
invariant_of-self-2 c =
    let none = sym (ap is_some (position-map (λ d. bytes_eq c.args.name.now d.name) definition_of c.self.inside.texts.entries)) ∙ ap is_some (sym c.index_of.ensures) ∙ sym c.is_some.ensures ∙ c.if-is_some.false in
    let entries =
    ap definitions_of (c.in_ok-insert.ensures.entries ∙ insert_absent _ c.in_ok-name.name c.in_ok-text.text c.self.inside.texts.entries
    (ap (λ (n : List ℕ). is_some (position (λ x. bytes_eq n (definition_of x).name) c.self.inside.texts.entries)) c.in_ok-name.ensures.items ∙ none))
    ∙ map_push definition_of c.self.inside.texts.entries (c.in_ok-name.name, c.in_ok-text.text) in
    let bytes = ap total_bytes entries ∙ sum_by_push (λ (d : Definition). length d.name + length d.text) (definitions_of c.self.inside.texts.entries) (definition_of (c.in_ok-name.name, c.in_ok-text.text)) in (
      omega (arith, bytes, ap length c.in_ok-name.ensures.items, ap length c.in_ok-text.ensures.items, ap total_bytes c.self.view_is, c.requires),
      subst HaveByteTexts (sym entries) (All-push (λ (d : Definition). AreBytes d.text) (definitions_of c.self.inside.texts.entries) (definition_of (c.in_ok-name.name, c.in_ok-text.text)) c.self.invariant.1
          (subst AreBytes (sym c.in_ok-text.ensures.items) (AreBytes-from_fits c.args.text.now c.type_inv.text))),
    )
