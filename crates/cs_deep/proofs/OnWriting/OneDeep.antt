-- A file has at most one text of `deep` by a choice, where the lexemes and the rendering of tokens are one.
use Rattle.std.proofs.Common.{◌≡◌, ℕ, List, [], sym, ap, ◌∙◌, subst, Option, None}
use Rattle.std.specs.Prelude.{if◌then◌else◌}
use Rattle.std.specs.List.{AllZip}
use Rattle.cs_deep.proofs.OnWriting.Classing.{one_class_of}
use Rattle.cs_deep.specs.Edits.Classes.{is_outside}
use Rattle.cs_deep.specs.Writing.Deep.{DeepBase, EditEntry, IsDeepBaseOf, IsDeepText, IsEditOf, bases_by, deep_text}
use Rattle.cs_deep.specs.declared.edits.class.EditClass.{EditClass}
use Rattle.cs_goals.specs.Goals.{goals}
use Rattle.cs_grammar.specs.Grammar.{PlainGrammar}
use Rattle.cs_manifest.proofs.OnManifest.OneManifest.{one_entry, one_rendered_if, one_zip}
use Rattle.cs_manifest.specs.Manifest.Manifest.{Choice, GoalEntry, HasOneText, IsEntryOf, IsRenderedIf, Texts, weighed_by}
use Rattle.cs_mutate.specs.Edit.{edited}
use Rattle.cs_mutate.specs.Edits.{edits}
use Rattle.cs_mutate.specs.declared.edit.Edit.{Edit}
use Rattle.cs_texts.specs.Rendering.Rendering.{Rendering}
use Rattle.cs_yacc.specs.Reading.File.{File}

module _ (texts : Option Texts) (one : HasOneText texts) (lexemes : Option (List (Option (List ℕ)))) (g : PlainGrammar) where
  pub one_edit : (base : List ℕ) (edit : Edit) (a b : EditEntry) → IsEditOf g texts lexemes base edit a → IsEditOf g texts lexemes base edit b → a ≡ b
  one_edit base edit a b ha hb =
      let list = edited base edit in
      let class : a.class ≡ b.class = one_class_of g list a.class b.class ha.class hb.class in
      let tokens : a.tokens ≡ b.tokens = ha.tokens ∙ ap (λ (k : EditClass). if is_outside k then list else []) class ∙ sym hb.tokens in
      let text = subst (λ (k : EditClass). IsRenderedIf (is_outside k) texts lexemes list b.rendered) (sym class) hb.text in
      let rendered : a.rendered ≡ b.rendered = one_rendered_if texts one lexemes (is_outside a.class) list a.rendered b.rendered ha.text text in
      ap (λ (e : Edit). record { edit = e; class = a.class; tokens = a.tokens; rendered = a.rendered }) (ha.is_of ∙ sym hb.is_of)
      ∙ ap (λ (k : EditClass). record { edit = b.edit; class = k; tokens = a.tokens; rendered = a.rendered }) class
      ∙ ap (λ (l : List ℕ). record { edit = b.edit; class = b.class; tokens = l; rendered = a.rendered }) tokens
      ∙ ap (λ (r : Option Rendering). record { edit = b.edit; class = b.class; tokens = b.tokens; rendered = r }) rendered

module _ (choice : Choice) (one : HasOneText choice.texts) (lexemes : Option (List (Option (List ℕ)))) (g : PlainGrammar) where
  pub one_deep_base : (base : ℕ × List ℕ) (a b : DeepBase) → IsDeepBaseOf g choice lexemes base a → IsDeepBaseOf g choice lexemes base b → a ≡ b
  one_deep_base base a b ha hb =
      ap (λ (n : ℕ). record { goal = n; edits = a.edits }) (ha.goal ∙ sym hb.goal)
      ∙ ap (λ (es : List EditEntry). record { goal = b.goal; edits = es })
      (one_zip (one_edit choice.texts one lexemes g base.1) (edits g.tokens base.1 choice.operators) a.edits b.edits ha.edits hb.edits)

module _ (choice : Choice) (file : File) (one : (texts : Option Texts) → HasOneText texts) where
  pub one_text_of : (text other : List ℕ) → IsDeepText choice file text → IsDeepText choice file other → text ≡ other
  one_text_of text other a b =
      let lexemes : a.lexemes ≡ b.lexemes = (one choice.texts).lexemes file.grammar.tokens a.lexemes b.lexemes a.are_lexemes b.are_lexemes in
      let verdicts = subst (λ (l : Option (List (Option (List ℕ)))). AllZip (IsEntryOf (weighed_by choice file l) None None) (goals file.grammar choice.criteria) b.entries) (sym lexemes) b.verdicts in
      let entries : a.entries ≡ b.entries = one_zip (one_entry None (one None) None (weighed_by choice file a.lexemes)) (goals file.grammar choice.criteria) a.entries b.entries a.verdicts verdicts in
      let moved = subst (λ (l : Option (List (Option (List ℕ)))). AllZip (IsDeepBaseOf file.grammar choice l) (bases_by choice b.entries) b.bases) (sym lexemes) b.edits in
      let again = subst (λ (es : List GoalEntry). AllZip (IsDeepBaseOf file.grammar choice a.lexemes) (bases_by choice es) b.bases) (sym entries) moved in
      let bases : a.bases ≡ b.bases = one_zip (one_deep_base choice (one choice.texts) a.lexemes file.grammar) (bases_by choice a.entries) a.bases b.bases a.edits again in
      a.lines ∙ ap (deep_text file) bases ∙ sym b.lines
