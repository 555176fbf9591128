-- The search for the negatives of a base, as the layer below makes it and as the manifest's definition has it.
use Rattle.std.proofs.Common.{◌≡◌, ℕ, ◌≤◌, List, length, sym, ap, ◌∙◌, subst, Option, Some, arith}
use Rattle.std.specs.Prelude.{All, option_map}
use Rattle.std.specs.List.{AllZip}
use Rattle.std.specs.Option.{option_map_or}
use Rattle.cs_grammar.specs.Grammar.{IsNumberOf, PlainGrammar}
use Rattle.cs_manifest.specs.Manifest.ByWork.{texts_of}
use Rattle.cs_manifest.specs.Manifest.Manifest.{AreNegativesOf, IsNegativeOf, NegativeEntry, Texts}
use Rattle.cs_mutate.specs.Negatives.{Search, search_of}
use Rattle.cs_texts.specs.declared.rendering.render_work.RenderWork.{RenderWork}
use Rattle.cs_writing.specs.declared.plan.plan.Means.{Means}
use Rattle.cs_writing.specs.declared.plan.plan.Plan.{Plan}
use Rattle.cs_writing.specs.declared.plan.plan.PlanForm.{PlanForm}
use Rattle.cs_writing.specs.declared.plan.plan.PlanForm.TheVariants.{Rules, Suite, Shared}
use Rattle.cs_writing.specs.Mutants.Makers.{CanRender}
use Rattle.cs_writing.specs.Plan.Plans.{AreMeansOf, IsFormOf, IsPlan, choice_in, first_by, lexemes_in, means_in, no_operator, texts_in}
use Rattle.cs_yacc.specs.Reading.File.{File}
use Rattle.cs_writing.specs.Writing.Mutants.{AreMade, IsEditable}
use Rattle.cs_mutate.specs.declared.negative.Negative.{Negative}
use Rattle.cs_mutate.proofs.KeptLists.{few_kept_of}
use Rattle.cs_writing.proofs.OnWriting.Edits.{few_edits}
use Rattle.cs_manifest.proofs.OnManifest.Zips.{length_zip}

-- the means of a form are of its file
means_of : (file : File) (form : PlanForm) → IsFormOf file form → (means : Means) → means_in form ≡ Some means → AreMeansOf file means
means_of file Rules are means is = absurd cc
means_of file (Suite m) are means is = let same : m ≡ means = cc in subst (AreMeansOf file) same are
means_of file (Shared m closed) are means is = let same : m ≡ means = cc in subst (AreMeansOf file) same are.0

module _ (plan : Plan) (is_plan : IsPlan plan) (means : Means) (is : means_in plan.form ≡ Some means) where
  abbrev work : RenderWork
  work = means.work.now

  are_means : AreMeansOf plan.yacc.now means
  are_means = means_of plan.yacc.now plan.form is_plan.form means is

  -- lists of the file's tokens can be rendered
  pub can_render : CanRender work (length plan.yacc.now.token_names)
  can_render = are_means.texts.all ∙ sym is_plan.file.tokens

  abbrev g : PlainGrammar
  g = plan.yacc.now.grammar

  -- the pairs are those of the grammar
  pub grammar_is : means.mutation.pairs.now.grammar ≡ g
  grammar_is = are_means.pairs

  pub texts_are : texts_in plan ≡ Some (texts_of work)
  texts_are = ap (λ (m : Option Means). option_map (λ x. texts_of x.work.now) m) is

  lexemes_are : lexemes_in plan ≡ Some work.lexemes.now
  lexemes_are = ap (λ (m : Option Means). option_map (λ x. x.work.now.lexemes.now) m) is

  module _ (base : ℕ × List ℕ) (search : Search) (search_is : search ≡ search_of means.mutation.pairs.now.grammar base.1 means.mutation.operators) where
    searched : search ≡ search_of g base.1 (choice_in plan).operators
    searched =
        search_is ∙ ap (λ (h : PlainGrammar). search_of h base.1 means.mutation.operators) grammar_is
        ∙ ap (λ (m : Option Means). search_of g base.1 (option_map_or (λ x. x.mutation.operators) m no_operator)) (sym is)

    pub base_is : search.base ≡ base.1
    base_is = ap (λ (s : Search). s.base) search_is

    first_is : means.mutation.first ≡ (choice_in plan).first
    first_is = sym (ap first_by is)

    pub to_made : (before : List Negative) (entries : List NegativeEntry) → AreNegativesOf g (choice_in plan) (lexemes_in plan) before base.1 entries → AreMade work means.mutation.first before search entries
    to_made before entries a =
        subst (λ (f : Option ℕ). AreMade work f before search entries) (sym first_is)
        (subst (λ (s : Search). AreMade work (choice_in plan).first before s entries) (sym searched) (record {
          kept = a.kept;
          all = record { negatives = a.negatives; all = a.all; are_kept = a.are_kept };
          each = subst (λ (t : Option Texts). AllZip (IsNegativeOf t (Some work.lexemes.now) base.1) a.kept entries) texts_are
              (subst (λ (l : Option (List (Option (List ℕ)))). AllZip (IsNegativeOf (texts_in plan) l base.1) a.kept entries) lexemes_are a.each);
        }))

    pub from_made : (before : List Negative) (entries : List NegativeEntry) → AreMade work means.mutation.first before search entries → AreNegativesOf g (choice_in plan) (lexemes_in plan) before base.1 entries
    from_made before entries made =
        let a = subst (λ (s : Search). AreMade work (choice_in plan).first before s entries) searched (subst (λ (f : Option ℕ). AreMade work f before search entries) first_is made) in
        record {
          negatives = a.all.negatives;
          kept = a.kept;
          all = a.all.all;
          are_kept = a.all.are_kept;
          each = subst (λ (l : Option (List (Option (List ℕ)))). AllZip (IsNegativeOf (texts_in plan) l base.1) a.kept entries) (sym lexemes_are)
              (subst (λ (t : Option Texts). AllZip (IsNegativeOf t (Some work.lexemes.now) base.1) a.kept entries) (sym texts_are) a.each);
        }

    -- it is short
    pub few_searched : IsEditable g.tokens base → length search.edits ≤ 1100000000
    few_searched editable =
        let few = few_edits g.tokens base.1 (choice_in plan).operators is_plan.file.grammar.tokens editable.short in
        omega (arith, few, ap (λ (s : Search). length s.edits) searched)

    pub few_made : IsEditable g.tokens base → (before : List Negative) (entries : List NegativeEntry) → AreMade work means.mutation.first before search entries → length entries ≤ 1100000000
    few_made editable before entries made =
        omega (
          arith,
          few_searched editable,
          length_zip (IsNegativeOf (Some (texts_of work)) (Some work.lexemes.now) search.base) made.kept entries made.each,
          few_kept_of search.grammar search.base means.mutation.first before search.edits made.kept made.all,
        )

  pub tokens_are : (base : ℕ × List ℕ) → IsEditable g.tokens base → All (IsNumberOf means.mutation.pairs.now.grammar.tokens) base.1
  tokens_are base editable = subst (λ (h : PlainGrammar). All (IsNumberOf h.tokens) base.1) (sym grammar_is) editable.tokens_of
