-- A file has at most one text of `wrong`, where the lexemes and the rendering of tokens are one.
use Rattle.std.proofs.Common.{◌≡◌, ◌+◌, ℕ, Bool, true, false, cond, List, [], ◌∷◌, refl, sym, ap, ◌∙◌, subst, arith, Option}
use Rattle.std.specs.Prelude.{All}
use Rattle.std.specs.List.{AllZip}
use Rattle.std.proofs.lemmas.List.Elements.{All-cons, All-nil}
use Rattle.std.proofs.lemmas.List.Sums.{sum_by-cons}
use Rattle.cs_choices.specs.declared.weigh.Weigh.{Weigh}
use Rattle.cs_grammar.specs.Sentence.{IsSentence}
use Rattle.cs_grammar.specs.Weights.{Weighed}
use Rattle.cs_manifest.proofs.OnManifest.OneManifest.{one_rendered_if, one_zip}
use Rattle.cs_manifest.specs.Manifest.Manifest.{HasOneText, IsRenderedIf, Texts}
use Rattle.cs_texts.specs.Rendering.Rendering.{Rendering}
use Rattle.cs_wrong.proofs.OnClasses.Told.{no_sentence, one_told}
use Rattle.cs_wrong.specs.Classes.Classes.{behind, is_again, is_large, is_long, is_nothing, is_sentence, is_wrong}
use Rattle.cs_wrong.specs.Slips.Slips.{slips}
use Rattle.cs_wrong.specs.Writing.Text.{AddsUp, AreEntriesOf, IsEntryOf, IsWrongText, SlipEntry, many_with, weighed_by, wrong_ones, wrong_text}
use Rattle.cs_wrong.specs.declared.classes.class.SlipClass.{SlipClass}
use Rattle.cs_wrong.specs.declared.classes.class.SlipClass.TheVariants.{Nothing, Large, Again, Pair, Long, Sentence, Outside}
use Rattle.cs_choices.specs.declared.slips.Slips.{Slips}
use Rattle.cs_wrong.specs.declared.slips.slip.Slip.{Slip}
use Rattle.cs_yacc.specs.Reading.File.{File}

module _ (texts : Option Texts) (one : HasOneText texts) (lexemes : Option (List (Option (List ℕ)))) (of : Weighed) where
  -- a slip behind others has one entry
  pub one_entry : (placed : List Slip × Slip) (a b : SlipEntry) → IsEntryOf of texts lexemes placed a → IsEntryOf of texts lexemes placed b → a ≡ b
  one_entry placed a b ha hb =
      let same = one_told of placed.0 placed.1 a.class b.class a.tokens b.tokens ha.told hb.told in
      let text = subst (λ (k : SlipClass). IsRenderedIf (is_wrong k) texts lexemes b.tokens b.rendered) (sym same.class) hb.text in
      let moved = subst (λ (l : List ℕ). IsRenderedIf (is_wrong a.class) texts lexemes l b.rendered) (sym same.list) text in
      let rendered : a.rendered ≡ b.rendered = one_rendered_if texts one lexemes (is_wrong a.class) a.tokens a.rendered b.rendered ha.text moved in
      ap (λ (s : Slip). record { slip = s; class = a.class; tokens = a.tokens; rendered = a.rendered }) (ha.is_of ∙ sym hb.is_of)
      ∙ ap (λ (k : SlipClass). record { slip = b.slip; class = k; tokens = a.tokens; rendered = a.rendered }) same.class
      ∙ ap (λ (l : List ℕ). record { slip = b.slip; class = b.class; tokens = l; rendered = a.rendered }) same.list
      ∙ ap (λ (r : Option Rendering). record { slip = b.slip; class = b.class; tokens = b.tokens; rendered = r }) rendered

  pub one_entries : (list : List (List Slip × Slip)) (a b : List SlipEntry) → AllZip (IsEntryOf of texts lexemes) list a → AllZip (IsEntryOf of texts lexemes) list b → a ≡ b
  one_entries list a b ha hb = one_zip one_entry list a b ha hb

pub one_text_of : ((texts : Option Texts) → HasOneText texts) → (file : File) (texts : Option Texts) (weigh : Weigh) (chosen : Slips) (text other : List ℕ) → IsWrongText file texts weigh chosen text → IsWrongText file texts weigh chosen other → text ≡ other
one_text_of one file texts weigh chosen text other a b =
    let lexemes : a.lexemes ≡ b.lexemes = (one texts).lexemes file.grammar.tokens a.lexemes b.lexemes a.are_lexemes b.are_lexemes in
    let moved = subst (λ (l : Option (List (Option (List ℕ)))). AreEntriesOf (weighed_by weigh file l) texts l (slips file.grammar chosen) b.entries) (sym lexemes) b.slips in
    let entries : a.entries ≡ b.entries = one_entries texts (one texts) a.lexemes (weighed_by weigh file a.lexemes) (behind [] (slips file.grammar chosen)) a.entries b.entries a.slips moved in
    a.lines ∙ ap (wrong_text file) entries ∙ sym b.lines

-- no list of an entry that is written is a sentence
module _ (texts : Option Texts) (lexemes : Option (List (Option (List ℕ)))) (of : Weighed) where
  kept : (placed : List Slip × Slip) (e : SlipEntry) (rest : List SlipEntry) → IsEntryOf of texts lexemes placed e → All (λ (x : SlipEntry). IsSentence of.grammar x.tokens → ⊥) rest
      → (b : Bool) → is_wrong e.class ≡ b → All (λ (x : SlipEntry). IsSentence of.grammar x.tokens → ⊥) (cond b (e ∷ rest) rest)
  kept placed e rest is all true wrong = All-cons (λ (x : SlipEntry). IsSentence of.grammar x.tokens → ⊥) e rest (no_sentence of placed.0 placed.1 e.class e.tokens is.told wrong) all
  kept placed e rest is all false wrong = all

  pub none_sentences : (list : List (List Slip × Slip)) (entries : List SlipEntry) → AllZip (IsEntryOf of texts lexemes) list entries → All (λ (x : SlipEntry). IsSentence of.grammar x.tokens → ⊥) (wrong_ones entries)
  none_sentences [] [] zip = All-nil (λ (x : SlipEntry). IsSentence of.grammar x.tokens → ⊥)
  none_sentences [] (e ∷ es) zip = absurd zip
  none_sentences (x ∷ xs) [] zip = absurd zip
  none_sentences (x ∷ xs) (e ∷ es) zip = kept x e (wrong_ones es) zip.0 (none_sentences xs es zip.1) (is_wrong e.class) refl

-- ---- the counts of the classes add up

-- each class is counted once
one_count : (class : SlipClass) → cond (is_nothing class) 1 0 + cond (is_large class) 1 0 + cond (is_again class) 1 0 + cond (is_long class) 1 0 + cond (is_sentence class) 1 0 + cond (is_wrong class) 1 0 ≡ 1
one_count Nothing = refl
one_count Large = refl
one_count Again = refl
one_count (Pair left right place) = refl
one_count Long = refl
one_count Sentence = refl
one_count Outside = refl

many_more : (test : SlipClass → Bool) (e : SlipEntry) (rest : List SlipEntry) → many_with test (e ∷ rest) ≡ cond (test e.class) 1 0 + many_with test rest
many_more test e rest = sum_by-cons (λ (x : SlipEntry). cond (test x.class) 1 0) e rest

pub add_up : (entries : List SlipEntry) → AddsUp entries
add_up [] = refl
add_up (e ∷ rest) =
    omega (arith, one_count e.class, add_up rest, many_more is_nothing e rest, many_more is_large e rest, many_more is_again e rest, many_more is_long e rest, many_more is_sentence e rest, many_more is_wrong e rest)
