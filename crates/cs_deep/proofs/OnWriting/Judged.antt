-- What is judged of an edit.
use Rattle.std.proofs.Common.{◌≡◌, ℕ, ◌+◌, Bool, true, false, List, [], ◌∷◌, length, get_or, refl, sym, ap, subst, arith, Some, None}
use Rattle.std.specs.Prelude.{All, if◌then◌else◌}
use Rattle.cs_deep.specs.Edits.Candidates.{TellsPoison}
use Rattle.cs_deep.specs.Edits.Classes.{IsClass, IsPoisoned, is_outside}
use Rattle.cs_deep.specs.Writing.Deep.{EditEntry}
use Rattle.cs_deep.specs.Writing.Judging.{CanJudge, HasLength, IsPlain, Judges}
use Rattle.cs_deep.specs.declared.edits.candidates.Candidate.{Candidate}
use Rattle.cs_deep.specs.declared.edits.class.EditClass.{EditClass}
use Rattle.cs_deep.specs.declared.edits.class.EditClass.TheVariants.{Outside}
use Rattle.cs_deep.specs.declared.writing.judging.DeepWork.{DeepWork}
use Rattle.cs_grammar.specs.Grammar.{IsNumberOf}
use Rattle.cs_grammar.specs.Sentence.{framed}
use Rattle.cs_manifest.specs.Manifest.ByWork.{texts_of}
use Rattle.cs_manifest.specs.Manifest.Manifest.{IsRenderedIf}
use Rattle.cs_mutate.proofs.Patches.{length-patched}
use Rattle.cs_mutate.proofs.Searching.{edited_tokens}
use Rattle.cs_mutate.specs.Edit.{IsPlaced, edited}
use Rattle.cs_mutate.specs.Poison.{HasNoPoison}
use Rattle.cs_mutate.specs.declared.edit.Edit.{Edit}
use Rattle.cs_mutate.specs.declared.edit.Edit.TheVariants.{Delete, Insert, Replace, Swap}
use Rattle.cs_texts.specs.Rendering.Rendering.{AreTokens, Rendering}
use Rattle.cs_texts.specs.Rendering.ByWork.{IsRenderedBy}

-- the length of an edited list
pub length_is : (w : List ℕ) (e : Edit) (n : ℕ) → IsPlaced (length w) e → HasLength (length w) e n → length (edited w e) ≡ n
length_is w (Delete i) n within has = omega (arith, within, has, length-patched w i [] 1 (omega arith))
length_is w (Insert i t) n within has = omega (arith, within, has, length-patched w i (t ∷ []) 0 within)
length_is w (Replace i t) n within has = omega (arith, within, has, length-patched w i (t ∷ []) 1 (omega arith))
length_is w (Swap i) n within has = omega (arith, within, has, length-patched w i (get_or w (i + 1) 0 ∷ get_or w i 0 ∷ []) 2 (omega arith))

-- a mark that is set, and one that isn't
pub poisoned_by : (work : DeepWork) (c : Candidate) → CanJudge work c → c.negative ≡ true → IsPoisoned work.recognizer.now (edited work.base.now c.edit)
poisoned_by work c can set = subst (λ (b : Bool). TellsPoison work.recognizer.now (edited work.base.now c.edit) b) set can.candidate.marked

pub harmless_by : (work : DeepWork) (c : Candidate) → CanJudge work c → c.negative ≡ false → HasNoPoison work.recognizer.now (framed (edited work.base.now c.edit))
harmless_by work c can unset = subst (λ (b : Bool). TellsPoison work.recognizer.now (edited work.base.now c.edit) b) unset can.candidate.marked

-- an entry of another class than outside
module _ (work : DeepWork) (edit : Edit) where
  plain_text : (class : EditClass) → is_outside class ≡ false → IsRenderedIf (is_outside class) (Some (texts_of work.render.now)) (Some work.render.now.lexemes.now) (edited work.base.now edit) None
  plain_text class other =
      subst (λ (b : Bool). IsRenderedIf b (Some (texts_of work.render.now)) (Some work.render.now.lexemes.now) (edited work.base.now edit) None) (sym other) refl

  pub judges_plain : (class : EditClass) (entry : EditEntry) → IsPlain edit class entry → is_outside class ≡ false → IsClass work.recognizer.now work.base.now edit class → Judges work edit entry
  judges_plain class entry is other of =
      subst (λ (e : EditEntry). Judges work edit e) (sym is) (record {
        is_of = refl;
        class = of;
        tokens = sym (ap (λ (b : Bool). if b then edited work.base.now edit else []) other);
        text = plain_text class other;
      })

  -- one that is outside
  pub judges_outside : (tokens : List ℕ) (rendered : Rendering) → tokens ≡ edited work.base.now edit → IsClass work.recognizer.now work.base.now edit Outside
      → IsRenderedBy work.render.now tokens rendered → Judges work edit (record { edit = edit; class = Outside; tokens = tokens; rendered = Some rendered })
  judges_outside tokens rendered is of text = record {
    is_of = refl;
    class = of;
    tokens = is;
    text = subst (λ (l : List ℕ). IsRenderedBy work.render.now l rendered) is text;
  }

-- the tokens of an edited list
pub tokens_by : (work : DeepWork) (c : Candidate) → CanJudge work c → All (IsNumberOf work.recognizer.now.tokens) (edited work.base.now c.edit)
tokens_by work c can = edited_tokens work.recognizer.now.tokens work.base.now can.tokens c.edit can.candidate.fits

pub lexemes_by : (work : DeepWork) (c : Candidate) (list : List ℕ) → CanJudge work c → list ≡ edited work.base.now c.edit → AreTokens work.render.now.lexemes.now list
lexemes_by work c list can is =
    subst (λ (l : List ℕ). AreTokens work.render.now.lexemes.now l) (sym is)
    (subst (λ (n : ℕ). All (IsNumberOf n) (edited work.base.now c.edit)) (sym can.lexemes) (tokens_by work c can))
