-- The rule's text, token by token.
use Rattle.std.proofs.Common.{◌≡◌, ℕ, zero, suc, ◌+◌, ◌<◌, ◌≤◌, arith, List, [], ◌∷◌, ◌++◌, length, take, drop, sym, ◌∙◌, ap, subst, refl, Option, Some, append_assoc}
use Rattle.std.specs.Prelude.{All, slice_index}
use Rattle.std.specs.List.{AllZip}
use Rattle.std.proofs.lemmas.List.{take_more, take_all}
use Rattle.std.proofs.lemmas.List.Elements.{All-push}
use Rattle.cs_scanner.specs.Lexeme.Lexeme.{lexeme_in}
use Rattle.cs_texts.specs.Rendering.Joined.{joined}
use Rattle.cs_texts.specs.Rendering.Rendering.{HasLexeme, IsRuleText}

joined_pushed : (sep x : List ℕ) (xs : List (List ℕ)) (t : List ℕ) → joined sep ((x ∷ xs) ++ t ∷ []) ≡ (joined sep (x ∷ xs) ++ sep) ++ t
joined_pushed sep x [] t = refl
joined_pushed sep x (y ∷ ys) t = ap (λ r. (x ++ sep) ++ r) (joined_pushed sep y ys t) ∙ simp append_assoc

zip_pushed : (R : ℕ → List ℕ → Type 0) (xs : List ℕ) (ys : List (List ℕ)) (x : ℕ) (y : List ℕ) → AllZip R xs ys → R x y → AllZip R (xs ++ x ∷ []) (ys ++ y ∷ [])
zip_pushed R [] [] x y all r = (r, tt)
zip_pushed R [] (b ∷ ys) x y all r = absurd all
zip_pushed R (a ∷ xs) [] x y all r = absurd all
zip_pushed R (a ∷ xs) (b ∷ ys) x y all r = (all.0, zip_pushed R xs ys x y all.1 r)

module _ (lexemes : List (Option (List ℕ))) (sep : List ℕ) where
  abbrev Has : ℕ → List ℕ → Type 0
  Has token lexeme = lexeme_in lexemes token ≡ Some lexeme

  -- the text of one token alone
  pub first_text : (text : List ℕ) (token : ℕ) (lexeme : List ℕ) → IsRuleText lexemes sep [] text → Has token lexeme → IsRuleText lexemes sep (token ∷ []) (text ++ lexeme)
  first_text text token lexeme rule has = go rule.texts rule.each rule.is
    where
      go : (texts : List (List ℕ)) → AllZip Has [] texts → text ≡ joined sep texts → IsRuleText lexemes sep (token ∷ []) (text ++ lexeme)
      go [] all is = record { texts = lexeme ∷ []; each = (has, tt); is = ap (λ t. t ++ lexeme) is }
      go (x ∷ texts) all is = absurd all

  -- one token more, behind a separator
  pub next_text : (t : ℕ) (front : List ℕ) (text : List ℕ) (token : ℕ) (lexeme : List ℕ) → IsRuleText lexemes sep (t ∷ front) text → Has token lexeme → IsRuleText lexemes sep ((t ∷ front) ++ token ∷ []) ((text ++ sep) ++ lexeme)
  next_text t front text token lexeme rule has = go rule.texts rule.each rule.is
    where
      go : (texts : List (List ℕ)) → AllZip Has (t ∷ front) texts → text ≡ joined sep texts → IsRuleText lexemes sep ((t ∷ front) ++ token ∷ []) ((text ++ sep) ++ lexeme)
      go [] all is = absurd all
      go (x ∷ texts) all is = record { texts = (x ∷ texts) ++ lexeme ∷ []; each = zip_pushed Has (t ∷ front) (x ∷ texts) token lexeme all has; is = ap (λ r. (r ++ sep) ++ lexeme) is ∙ sym (joined_pushed sep x texts lexeme) }

  pub at_first : (tokens text : List ℕ) (i : ℕ) (lexeme : List ℕ) → i ≤ 0 → i < length tokens → Has (slice_index tokens i) lexeme → IsRuleText lexemes sep (take i tokens) text → IsRuleText lexemes sep (take (i + 1) tokens) (text ++ lexeme)
  at_first [] text i lexeme none within has rule = absurd (omega arith)
  at_first (t ∷ tokens) text zero lexeme none within has rule = first_text text t lexeme rule has
  at_first (t ∷ tokens) text (suc i) lexeme none within has rule = absurd (omega arith)

  pub at_next : (tokens text : List ℕ) (i : ℕ) (lexeme : List ℕ) → 0 < i → i < length tokens → Has (slice_index tokens i) lexeme → IsRuleText lexemes sep (take i tokens) text → IsRuleText lexemes sep (take (i + 1) tokens) ((text ++ sep) ++ lexeme)
  at_next [] text i lexeme some within has rule = absurd (omega arith)
  at_next (t ∷ tokens) text zero lexeme some within has rule = absurd (omega arith)
  at_next (t ∷ tokens) text (suc i) lexeme some within has rule =
      let P : List ℕ → Type 0 = λ f. IsRuleText lexemes sep f ((text ++ sep) ++ lexeme) in
      subst P (sym (take_more (t ∷ tokens) (suc i) 0 within)) (next_text t (take i tokens) text (slice_index (t ∷ tokens) (suc i)) lexeme rule has)

pub split_at : (tokens : List ℕ) (i : ℕ) → i < length tokens → tokens ≡ take i tokens ++ slice_index tokens i ∷ drop (suc i) tokens
split_at [] i within = absurd (omega arith)
split_at (t ∷ tokens) zero within = refl
split_at (t ∷ tokens) (suc i) within = ap (λ r. t ∷ r) (split_at tokens i (omega arith))

pub have_more : (lexemes : List (Option (List ℕ))) (tokens : List ℕ) (i : ℕ) → i < length tokens → All (HasLexeme lexemes) (take i tokens) → HasLexeme lexemes (slice_index tokens i) → All (HasLexeme lexemes) (take (i + 1) tokens)
have_more lexemes tokens i within all has =
    let P : List ℕ → Type 0 = λ f. All (HasLexeme lexemes) f in
    subst P (sym (take_more tokens i 0 within)) (All-push (HasLexeme lexemes) (take i tokens) (slice_index tokens i) all has)

pub have_all : (lexemes : List (Option (List ℕ))) (tokens : List ℕ) (i : ℕ) → length tokens ≤ i → All (HasLexeme lexemes) (take i tokens) → All (HasLexeme lexemes) tokens
have_all lexemes tokens i whole all = let P : List ℕ → Type 0 = λ f. All (HasLexeme lexemes) f in subst P (take_all i tokens whole) all
