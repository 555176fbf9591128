-- The rule's text around a lexeme.
use Rattle.std.proofs.Common.{◌≡◌, ℕ, ◌<◌, List, [], ◌∷◌, ◌++◌, Option, None, Some, refl, sym, ap, ◌∙◌, subst, arith, get_or, length, length-append, append_assoc, append-nil}
use Rattle.std.specs.Prelude.{All, is_some}
use Rattle.std.proofs.lemmas.Bool.{false≢true}
use Rattle.std.proofs.lemmas.List.Elements.{All-get_or}
use Rattle.cs_scanner.specs.Lexeme.Lexeme.{lexeme_in}
use Rattle.cs_texts.specs.Rendering.Rendering.{HasLexeme, IsRuleText}
use Rattle.cs_texts.proofs.OnSplice.Aligning.{rule_join}
use Rattle.cs_writing.specs.Mutants.Rows.{IsTextBehind, IsTextBeside, IsTextInFront, with_separator}
use Rattle.cs_writing.specs.declared.plan.joining.Side.{Side}
use Rattle.cs_writing.specs.declared.plan.joining.Side.TheVariants.{Before, Behind}

-- where a token has no lexeme not each has one
pub none_at : (lexemes : List (Option (List ℕ))) (tokens : List ℕ) (i : ℕ) → i < length tokens → lexeme_in lexemes (get_or tokens i 0) ≡ None → ¬ All (HasLexeme lexemes) tokens
none_at lexemes tokens i within none all = false≢true (ap is_some (sym none ∙ (All-get_or (HasLexeme lexemes) tokens i 0 within all).1))

module _ (lexemes : List (Option (List ℕ))) (sep : List ℕ) where
  abbrev Rule : List ℕ → List ℕ → Type 0
  Rule tokens text = IsRuleText lexemes sep tokens text

  one_text : (token : ℕ) (lexeme : List ℕ) → lexeme_in lexemes token ≡ Some lexeme → Rule (token ∷ []) lexeme
  one_text token lexeme has = record { texts = lexeme ∷ []; each = (has, tt); is = refl }

  -- a token's lexeme behind the others' text
  pub text_to_last : (front text : List ℕ) (last : ℕ) (lexeme : List ℕ) → IsTextInFront lexemes sep front text → lexeme_in lexemes last ≡ Some lexeme → Rule (front ++ last ∷ []) (text ++ lexeme)
  text_to_last front text last lexeme in_front has = in_front (last ∷ []) lexeme (omega arith) (one_text last lexeme has)

  front_none : IsTextInFront lexemes sep [] []
  front_none others more some rule = rule

  front_more : (tokens text : List ℕ) (token : ℕ) (lexeme : List ℕ) → IsTextInFront lexemes sep tokens text → lexeme_in lexemes token ≡ Some lexeme → IsTextInFront lexemes sep (tokens ++ token ∷ []) (text ++ (lexeme ++ sep))
  front_more tokens text token lexeme front has others more some rule =
      subst (λ (t : List ℕ). Rule ((tokens ++ token ∷ []) ++ others) t) (simp append_assoc)
      (subst (λ (l : List ℕ). Rule l (text ++ ((lexeme ++ sep) ++ more))) (sym (append_assoc tokens (token ∷ []) others))
      (front (token ∷ others) ((lexeme ++ sep) ++ more) (omega arith) (rule_join lexemes sep (token ∷ []) others lexeme more (omega arith) some (one_text token lexeme has) rule)))

  behind_none : IsTextBehind lexemes sep [] []
  behind_none others more some rule = subst (λ (l : List ℕ). Rule l (more ++ [])) (sym (append-nil others)) (subst (λ (t : List ℕ). Rule others t) (sym (append-nil more)) rule)

  behind_more : (tokens text : List ℕ) (token : ℕ) (lexeme : List ℕ) → IsTextBehind lexemes sep tokens text → lexeme_in lexemes token ≡ Some lexeme → IsTextBehind lexemes sep (tokens ++ token ∷ []) (text ++ (sep ++ lexeme))
  behind_more tokens text token lexeme behind has others more some rule =
      let long : 0 < length (others ++ tokens) = omega (arith, some, length-append others tokens) in
      subst (λ (t : List ℕ). Rule (others ++ (tokens ++ token ∷ [])) t) (simp append_assoc)
      (subst (λ (l : List ℕ). Rule l (((more ++ text) ++ sep) ++ lexeme)) (append_assoc others tokens (token ∷ []))
      (rule_join lexemes sep (others ++ tokens) (token ∷ []) (more ++ text) lexeme long (omega arith) (behind others more some rule) (one_text token lexeme has)))

  -- the text of no tokens on either side, and with one token more
  pub beside_none : (side : Side) → IsTextBeside lexemes sep side [] []
  beside_none Before = behind_none
  beside_none Behind = front_none

  pub beside_more : (side : Side) (tokens text : List ℕ) (token : ℕ) (lexeme : List ℕ) → IsTextBeside lexemes sep side tokens text → lexeme_in lexemes token ≡ Some lexeme
      → IsTextBeside lexemes sep side (tokens ++ token ∷ []) (text ++ with_separator sep side lexeme)
  beside_more Before tokens text token lexeme behind has = behind_more tokens text token lexeme behind has
  beside_more Behind tokens text token lexeme front has = front_more tokens text token lexeme front has

  -- a lexeme between the two
  pub whole_text : (front back before after : List ℕ) (token : ℕ) (lexeme : List ℕ) → IsTextInFront lexemes sep front before → IsTextBehind lexemes sep back after → lexeme_in lexemes token ≡ Some lexeme
      → Rule (front ++ token ∷ back) ((before ++ lexeme) ++ after)
  whole_text front back before after token lexeme in_front behind has =
      subst (λ (t : List ℕ). Rule (front ++ token ∷ back) t) (sym (append_assoc before lexeme after))
      (in_front (token ∷ back) (lexeme ++ after) (omega arith) (behind (token ∷ []) lexeme (omega arith) (one_text token lexeme has)))
