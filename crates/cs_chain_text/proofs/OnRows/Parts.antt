-- The lines of a frame and of a node have their parts.
use Rattle.std.proofs.Common.{◌≡◌, ℕ, List, [], ◌∷◌, ◌++◌, refl, sym, ap, ◌∙◌, subst, Option, None, Some, Result, Ok, Err}
use Rattle.std.specs.Prelude.{IfOk, IfSome, codes, decimal}
use Rattle.std.proofs.lemmas.List.Elements.{All-push}
use Rattle.cs_grammar.specs.Weights.{Weighed}
use Rattle.cs_least.specs.Cost.Rank.{IsCapped}
use Rattle.cs_yacc.specs.Reading.File.{File}
use Rattle.cs_manifest.specs.Writer.Below.{derive_below}
use Rattle.cs_manifest.specs.Output.Names.{token_words}
use Rattle.cs_manifest.specs.Output.Words.{line, numbered_word, spaced}
use Rattle.cs_chain.specs.declared.chains.chain.Chain.{Chain}
use Rattle.cs_chain.specs.declared.judging.frame.Core.{Core}
use Rattle.cs_chain.specs.declared.judging.frame.Frame.{Frame}
use Rattle.cs_chain.specs.Judging.Frame.{FitsCore, FitsFrames}
use Rattle.cs_chain_text.specs.declared.rows.around.Around.{Around}
use Rattle.cs_chain_text.specs.declared.rows.cores.CoreLines.{CoreLines}
use Rattle.cs_chain_text.specs.declared.rows.frames.FrameLines.{FrameLines}
use Rattle.cs_chain_text.specs.Rows.Parts.{head_words, middle_words}
use Rattle.cs_chain_text.specs.Rows.Rows.{AreAround, AreCoreLines, AreCores, AreFrameLines, AreInside, HasCoreParts, HasFrameParts}

-- what is found is of another kind too
pub found_as : {A E : Type 0} (P Q : A → Type 0) → ((a : A) → P a → Q a) → (r : Result (Option A) E) → IfOk r (λ o. IfSome o P) → IfOk r (λ o. IfSome o Q)
found_as P Q f (Ok (Some a)) h = f a h
found_as P Q f (Ok None) h = tt
found_as P Q f (Err e) h = tt

pub frame_lines : (file : File) (v : Weighed) (chain : Chain) (frame : Frame) (around : Around) → FitsFrames v chain frame → IsCapped v.weights.limit frame.cost → AreAround v.grammar frame around
    → (lines : FrameLines) → HasFrameParts file chain frame around lines → AreFrameLines file v lines
frame_lines file v chain frame around fits capped are lines h = record {
  frames = subst (λ (c : Chain). FitsFrames v c lines.frame) (sym h.chain_is) (subst (λ (f : Frame). FitsFrames v chain f) (sym h.frame_is) fits);
  capped = subst (λ (f : Frame). IsCapped v.weights.limit f.cost) (sym h.frame_is) capped;
  around = subst (λ (a : Around). AreAround v.grammar lines.frame a) (sym h.around_is) (subst (λ (f : Frame). AreAround v.grammar f around) (sym h.frame_is) are);
  parts = record {
    chain_is = refl;
    frame_is = refl;
    around_is = refl;
    head = h.head ∙ ap head_words (sym h.chain_is);
    before = h.before ∙ ap (λ (f : Frame). derive_below f.before) (sym h.frame_is);
    middle = h.middle
        ∙ ap (λ (f : Frame). middle_words file f.behind around.first.items) (sym h.frame_is)
        ∙ ap (λ (a : Around). middle_words file lines.frame.behind a.first.items) (sym h.around_is);
    end = h.end ∙ ap (λ (a : Around). line (token_words file a.last.items)) (sym h.around_is);
  };
}

pub core_lines : (file : File) (v : Weighed) (rule left : ℕ) (core : Core) (tokens : List ℕ) → FitsCore v rule core → IsCapped v.weights.limit core.cost → AreInside v.grammar left core tokens
    → (lines : CoreLines) → HasCoreParts file rule left core tokens lines → AreCoreLines file v lines
core_lines file v rule left core tokens fits capped are lines h = record {
  core = subst (λ (r : ℕ). FitsCore v r lines.core) (sym h.rule_is) (subst (λ (k : Core). FitsCore v rule k) (sym h.core_is) fits);
  capped = subst (λ (k : Core). IsCapped v.weights.limit k.cost) (sym h.core_is) capped;
  inside = subst (λ (l : ℕ). AreInside v.grammar l lines.core lines.tokens.items) (sym h.left_is)
      (subst (λ (ts : List ℕ). AreInside v.grammar left lines.core ts) (sym h.tokens_are) (subst (λ (k : Core). AreInside v.grammar left k tokens) (sym h.core_is) are));
  parts = record {
    rule_is = refl;
    left_is = refl;
    core_is = refl;
    tokens_are = refl;
    number = h.number ∙ ap (λ (r : ℕ). numbered_word (codes " ") r) (sym h.rule_is);
    code = h.code ∙ ap (λ (k : Core). spaced decimal k.code) (sym h.core_is);
    names = h.names ∙ ap (λ (ts : List ℕ). token_words file ts) (sym h.tokens_are);
  };
}

-- those of one rule more
pub cores_more : (file : File) (v : Weighed) (old new : List CoreLines) (found : Option CoreLines) (lines : CoreLines) → AreCores file v old → IfSome found (AreCoreLines file v) → found ≡ Some lines → new ≡ old ++ lines ∷ [] → AreCores file v new
cores_more file v old new found lines are one is pushed =
    subst (AreCores file v) (sym pushed) (All-push (AreCoreLines file v) old lines are (subst (λ (o : Option CoreLines). IfSome o (AreCoreLines file v)) is one))
