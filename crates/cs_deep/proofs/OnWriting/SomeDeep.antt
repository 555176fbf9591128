-- No file is without a text of `deep` by a choice, where it isn't so that tokens have no lexemes and no rendering.
use Rattle.std.proofs.Common.{ℕ, Bool, true, false, List, [], refl, Option, None}
use Rattle.std.specs.Prelude.{if◌then◌else◌}
use Rattle.cs_deep.proofs.OnWriting.Classing.{some_class_of}
use Rattle.cs_deep.specs.Edits.Classes.{is_outside}
use Rattle.cs_deep.specs.Writing.Deep.{IsDeepBaseOf, IsDeepText, IsEditOf, bases_by, deep_text}
use Rattle.cs_grammar.specs.Grammar.{PlainGrammar}
use Rattle.cs_io.specs.Asked.{IsNotWithout}
use Rattle.cs_manifest.proofs.OnManifest.SomeManifest.{some_entries}
use Rattle.cs_manifest.proofs.OnManifest.Zips.{some_zip}
use Rattle.cs_manifest.specs.Manifest.Manifest.{AreLexemesBy, Choice, IsRenderedBy, IsRenderedIf, Texts, weighed_by}
use Rattle.cs_mutate.specs.Edit.{edited}
use Rattle.cs_mutate.specs.Edits.{edits}
use Rattle.cs_mutate.specs.declared.edit.Edit.{Edit}
use Rattle.cs_yacc.specs.Reading.File.{File}

module _ (g : PlainGrammar) (choice : Choice) (lexemes : Option (List (Option (List ℕ)))) (some : (tokens : List ℕ) → IsNotWithout (IsRenderedBy choice.texts lexemes tokens)) where
  rendered_if : (so : Bool) (tokens : List ℕ) → IsNotWithout (IsRenderedIf so choice.texts lexemes tokens)
  rendered_if true tokens none = some tokens none
  rendered_if false tokens none = none None refl

  some_edit : (base : List ℕ) (edit : Edit) → IsNotWithout (IsEditOf g choice.texts lexemes base edit)
  some_edit base edit none =
      let list = edited base edit in
      some_class_of g list
      (λ class is. rendered_if (is_outside class) list
      (λ rendered text. none (record { edit = edit; class = class; tokens = if is_outside class then list else []; rendered = rendered }) (record { is_of = refl; class = is; tokens = refl; text = text })))

  pub some_deep_base : (base : ℕ × List ℕ) → IsNotWithout (IsDeepBaseOf g choice lexemes base)
  some_deep_base base none =
      some_zip (edits g.tokens base.1 choice.operators) (λ edit among. some_edit base.1 edit)
      (λ entries are. none (record { goal = base.0; edits = entries }) (record { goal = refl; edits = are }))

module _ (choice : Choice) (file : File)
    (some_rendering : (texts : Option Texts) (lexemes : Option (List (Option (List ℕ)))) (tokens : List ℕ) → IsNotWithout (IsRenderedBy texts lexemes tokens))
    (some_lexemes : IsNotWithout (AreLexemesBy choice.texts file.grammar.tokens)) where
  pub some_text_of : IsNotWithout (IsDeepText choice file)
  some_text_of none =
      some_lexemes
      (λ lexemes are. some_entries (weighed_by choice file lexemes) None None (some_rendering None None) choice
      (λ entries each. some_zip (bases_by choice entries) (λ base among. some_deep_base file.grammar choice lexemes (some_rendering choice.texts lexemes) base)
      (λ bases of. none (deep_text file bases)
      (record { lexemes = lexemes; entries = entries; bases = bases; are_lexemes = are; verdicts = each; edits = of; lines = refl }))))
