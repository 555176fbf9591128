-- Laws of the order, of lexemes, and of their lists.
use Rattle.std.proofs.Common.{◌≡◌, ℕ, zero, suc, ◌+◌, ◌-◌, ◌<◌, ◌≤◌, ◌⊎◌, arith, List, [], ◌∷◌, ◌++◌, length, length-append, Option, None, Some, refl, sym, ap, ◌∙◌, subst, inl, inr, ⊎_elim}
use Rattle.std.specs.Prelude.{slice_index_or}
use Rattle.std.proofs.lemmas.Bool.{cases_lt}
use Rattle.std.proofs.lemmas.List.{get_or_append_left, get_or_push}
use Rattle.cs_pattern_parts.specs.Items.StandsFor.{AreBytes}
use Rattle.cs_scanner.specs.Scan.Scan.{Scanning}
use Rattle.cs_scanner.specs.Lexeme.Number.{number}
use Rattle.cs_scanner.specs.Lexeme.Order.{IsAtMost, IsBefore}
use Rattle.cs_scanner.specs.Lexeme.Lexeme.{AreLexemes, IsLexeme, IsLexemeOf, IsOneMatch, lexeme_in}
use Rattle.cs_scanner.specs.Lexeme.Laws.{IsOrdered, AreOneLexeme, AreOneList, HasLexemeIfAny, HaveSomeList}
use Rattle.cs_scanner.proofs.OnLexeme.Numbers.{order_is_total, before_is_lower, number_by_at_most}

pub ordered_texts : (x y : List ℕ) → IsOrdered x y
ordered_texts x y bytes also = (order_is_total x y bytes also, λ most before. omega (arith, number_by_at_most x y bytes most, before_is_lower y x also before))

pub one_lexeme_lem : (s : Scanning) (token : ℕ) (x y : List ℕ) → AreOneLexeme s token x y
one_lexeme_lem s token x y a b = ⊎_elim
    (λ (same : x ≡ y). same)
    (λ (before : IsBefore x y). ⊎_elim
    (λ (same : y ≡ x). sym same)
    (λ (behind : IsBefore y x). absurd (omega (arith, before_is_lower x y a.bytes before, before_is_lower y x b.bytes behind)))
    (b.least x a.bytes a.gives))
    (a.least y b.bytes b.gives)

-- where there is no lexeme, no text with a lower number gives the token
none_below : (s : Scanning) (token n : ℕ) → ((lexeme : List ℕ) → IsLexeme s token lexeme → ⊥) → (x : List ℕ) → number x < n → AreBytes x → IsOneMatch s token x → ⊥
none_below s token zero none x less bytes gives = omega arith
none_below s token (suc n) none x less bytes gives =
    none x (record {
      bytes = bytes;
      gives = gives;
      least = λ other also other_gives. ⊎_elim
          (λ (most : IsAtMost x other). most)
          (λ (before : IsBefore other x). absurd (none_below s token n none other (omega (arith, before_is_lower other x also before)) also other_gives))
          (order_is_total x other bytes also);
    })

pub some_lexeme_lem : (s : Scanning) (token : ℕ) (x : List ℕ) → HasLexemeIfAny s token x
some_lexeme_lem s token x bytes gives none = none_below s token (suc (number x)) none x (omega arith) bytes gives

-- ---- lists of lexemes

-- lists whose entries are the same at each place are the same
same_by_place : (xs ys : List (Option (List ℕ))) → length xs ≡ length ys → ((i : ℕ) → i < length xs → slice_index_or xs i None ≡ slice_index_or ys i None) → xs ≡ ys
same_by_place [] [] same each = refl
same_by_place [] (y ∷ ys) same each = absurd (omega (arith, same))
same_by_place (x ∷ xs) [] same each = absurd (omega (arith, same))
same_by_place (x ∷ xs) (y ∷ ys) same each =
    let first : x ≡ y = each 0 (omega arith) in
    let others = same_by_place xs ys (omega (arith, same)) (λ i within. each (suc i) (omega (arith, within))) in
    ap (λ (l : List (Option (List ℕ))). x ∷ l) others ∙ ap (λ (e : Option (List ℕ)). e ∷ ys) first

module _ (s : Scanning) where
  one_lexeme_of : (token : ℕ) (a b : Option (List ℕ)) → IsLexemeOf s token a → IsLexemeOf s token b → a ≡ b
  one_lexeme_of token None None ha hb = refl
  one_lexeme_of token None (Some y) ha hb = absurd (ha y hb.bytes hb.gives)
  one_lexeme_of token (Some x) None ha hb = absurd (hb x ha.bytes ha.gives)
  one_lexeme_of token (Some x) (Some y) ha hb = ap Some (one_lexeme_lem s token x y ha hb)

  pub one_list : (tokens : ℕ) (xs ys : List (Option (List ℕ))) → AreOneList s tokens xs ys
  one_list tokens xs ys hx hy =
      same_by_place xs ys (hx.all ∙ sym hy.all)
      (λ i within.
      let at : i + 1 - 1 ≡ i = omega arith in
      let in_x = hx.each (i + 1) (omega arith) (omega (arith, within, hx.all)) in
      let in_y = hy.each (i + 1) (omega arith) (omega (arith, within, hx.all)) in
      subst (λ (k : ℕ). slice_index_or xs k None ≡ slice_index_or ys k None) at (one_lexeme_of (i + 1) (lexeme_in xs (i + 1)) (lexeme_in ys (i + 1)) in_x in_y))

  -- a token has a lexeme or none: that it has neither cannot be
  some_lexeme_of : (token : ℕ) → ((entry : Option (List ℕ)) → IsLexemeOf s token entry → ⊥) → ⊥
  some_lexeme_of token none = none None (λ text bytes gives. some_lexeme_lem s token text bytes gives (λ lexeme is. none (Some lexeme) is))

  -- the entry of the next token behind those before it
  longer : (tokens : ℕ) (xs : List (Option (List ℕ))) (entry : Option (List ℕ)) → AreLexemes s tokens xs → IsLexemeOf s (suc tokens) entry → AreLexemes s (suc tokens) (xs ++ entry ∷ [])
  longer tokens xs entry are is = record {
    all = length-append xs (entry ∷ []) ∙ omega (arith, are.all);
    each = λ token behind within. at token behind within (cases_lt tokens token);
  }
    where
      at : (token : ℕ) → 0 < token → token ≤ suc tokens → (tokens < token) ⊎ (token ≤ tokens) → IsLexemeOf s token (lexeme_in (xs ++ entry ∷ []) token)
      at token behind within (inl last) =
          let same : token ≡ suc tokens = omega (arith, last, within) in
          let here : lexeme_in (xs ++ entry ∷ []) token ≡ entry = get_or_push xs entry None (token - 1) (omega (arith, are.all, same)) in
          subst (λ (e : Option (List ℕ)). IsLexemeOf s token e) (sym here) (subst (λ (k : ℕ). IsLexemeOf s k entry) (sym same) is)
      at token behind within (inr first) =
          let here : lexeme_in (xs ++ entry ∷ []) token ≡ lexeme_in xs token = get_or_append_left xs (entry ∷ []) None (token - 1) (omega (arith, are.all, behind, first)) in
          subst (λ (e : Option (List ℕ)). IsLexemeOf s token e) (sym here) (are.each token behind first)

  pub some_list : (tokens : ℕ) → HaveSomeList s tokens
  some_list zero none = none [] (record { all = refl; each = λ token behind within. absurd (omega (arith, behind, within)) })
  some_list (suc tokens) none =
      some_list tokens (λ xs are. some_lexeme_of (suc tokens) (λ entry is. none (xs ++ entry ∷ []) (longer tokens xs entry are is)))
