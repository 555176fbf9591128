-- The text that is asked for, by what was made of it.
use Rattle.std.proofs.Common.{List, refl, subst}
use Rattle.cs_grammar.specs.Weights.{Measure, weighed}
use Rattle.cs_spell.specs.Telling.Chosen.{AreRuleVerdicts, RuleVerdict}
use Rattle.cs_spell.specs.Telling.Lines.{spell_text}
use Rattle.cs_spell.specs.Telling.Spelling.{AreTold, making_with}
use Rattle.cs_spell.specs.Telling.Told.{Told}
use Rattle.cs_manifest.specs.Manifest.ByWork.{texts_of}
use Rattle.cs_spell.specs.Writing.Writing.{AreJudgedFor, IsAsked, IsReady}
use Rattle.cs_spell.specs.declared.writing.writing.Spelled.{Spelled}

module _ (s : Spelled) (ready : IsReady s) (judged : List RuleVerdict) (are : AreJudgedFor s judged) where
  -- what was told makes the text
  pub asked_of : (told : List Told) → AreTold (making_with s.file.now (texts_of s.work.now) s.work.now.lexemes.now judged) told → IsAsked s (spell_text s.file.now told)
  asked_of told h = record {
    lexemes = s.work.now.lexemes.now;
    judged = judged;
    told = told;
    are_lexemes = ready.lexemes;
    are_judged = subst (λ (w : Measure). AreRuleVerdicts (weighed s.file.now.grammar w) judged) ready.weights are;
    are_told = h;
    lines = refl;
  }
