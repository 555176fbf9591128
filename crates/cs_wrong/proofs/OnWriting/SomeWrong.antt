-- No file is without a text of `wrong`, where it isn't so that tokens have no lexemes and no rendering.
use Rattle.std.proofs.Common.{ℕ, Bool, true, false, List, [], ◌∷◌, ◌++◌, refl, ap, inl, inr, ⊎_elim, Option, None}
use Rattle.std.specs.List.{AllZip}
use Rattle.cs_choices.specs.declared.weigh.Weigh.{Weigh}
use Rattle.cs_goals.proofs.Members.{Among, Contains-from_Among}
use Rattle.cs_grammar.specs.Weights.{Weighed}
use Rattle.cs_io.specs.Asked.{IsNotWithout}
use Rattle.cs_manifest.proofs.OnManifest.Zips.{some_zip}
use Rattle.cs_manifest.specs.Manifest.Manifest.{AreLexemesBy, IsRenderedBy, IsRenderedIf, Texts}
use Rattle.cs_wrong.proofs.OnClasses.Told.{some_told, with_list}
use Rattle.cs_wrong.proofs.OnSlips.Exact.{all}
use Rattle.cs_wrong.specs.Classes.Classes.{IsTold, behind, is_wrong}
use Rattle.cs_wrong.specs.Slips.Slips.{IsSlip, slips}
use Rattle.cs_wrong.specs.Writing.Text.{IsEntryOf, IsWrongText, weighed_by, wrong_text}
use Rattle.cs_wrong.specs.declared.classes.class.SlipClass.{SlipClass}
use Rattle.cs_choices.specs.declared.slips.Slips.{Slips}
use Rattle.cs_wrong.specs.declared.slips.slip.Slip.{Slip}
use Rattle.cs_wrong.specs.declared.slips.slip.Slip.TheVariants.{Empty, Of}
use Rattle.cs_yacc.specs.Reading.File.{File}

-- what stands behind others is of the list
pub among_behind : (before xs : List Slip) (x : List Slip × Slip) → Among x (behind before xs) → Among x.1 xs
among_behind before [] x h = absurd h
among_behind before (y ∷ xs) x h = ⊎_elim (λ here. inl (ap (λ (p : List Slip × Slip). p.1) here)) (λ later. inr (among_behind (before ++ y ∷ []) xs x later)) h

module _ (of : Weighed) (texts : Option Texts) (lexemes : Option (List (Option (List ℕ)))) (some : (tokens : List ℕ) → IsNotWithout (IsRenderedBy texts lexemes tokens)) where
  rendered_if : (so : Bool) (tokens : List ℕ) → IsNotWithout (IsRenderedIf so texts lexemes tokens)
  rendered_if true tokens none = some tokens none
  rendered_if false tokens none = none None refl

  -- a slip has a class
  class_of : (earlier : List Slip) (slip : Slip) (c : Slips) → IsSlip of.grammar c slip → ((class : SlipClass) (list : List ℕ) → IsTold of earlier slip class list → ⊥) → ⊥
  class_of earlier Empty c is none = with_list of earlier Empty none [] refl
  class_of earlier (Of r change) c is none = some_told of earlier r change is.0 is.1 none

  some_entry : (placed : List Slip × Slip) (c : Slips) → IsSlip of.grammar c placed.1 → IsNotWithout (IsEntryOf of texts lexemes placed)
  some_entry placed c is none =
      class_of placed.0 placed.1 c is
      (λ class list told. rendered_if (is_wrong class) list
      (λ rendered text. none (record { slip = placed.1; class = class; tokens = list; rendered = rendered }) (record { is_of = refl; told = told; text = text })))

  pub some_entries : (c : Slips) → IsNotWithout (AllZip (IsEntryOf of texts lexemes) (behind [] (slips of.grammar c)))
  some_entries c =
      some_zip (behind [] (slips of.grammar c))
      (λ placed among. some_entry placed c ((all of.grammar c placed.1).0 (Contains-from_Among placed.1 (slips of.grammar c) (among_behind [] (slips of.grammar c) placed among))))

pub some_text_of : (file : File) (texts : Option Texts) (weigh : Weigh) (chosen : Slips)
    → ((texts : Option Texts) (lexemes : Option (List (Option (List ℕ)))) (tokens : List ℕ) → IsNotWithout (IsRenderedBy texts lexemes tokens))
    → IsNotWithout (AreLexemesBy texts file.grammar.tokens) → IsNotWithout (IsWrongText file texts weigh chosen)
some_text_of file texts weigh chosen some_rendering some_lexemes none =
    some_lexemes
    (λ lexemes are. some_entries (weighed_by weigh file lexemes) texts lexemes (some_rendering texts lexemes) chosen
    (λ entries each. none (wrong_text file entries)
    (record { lexemes = lexemes; entries = entries; are_lexemes = are; slips = each; lines = refl })))
