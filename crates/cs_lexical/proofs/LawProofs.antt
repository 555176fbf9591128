-- Least texts: at most one, and not none where some text is P.
use Rattle.std.proofs.Common.{◌≡◌, ℕ, zero, suc, ◌<◌, arith, List, sym, ap, ⊎_elim, Option, None, Some, refl}
use Rattle.cs_pattern_parts.specs.Items.StandsFor.{AreBytes}
use Rattle.cs_pattern_parts.specs.Tree.Pattern.{Regex}
use Rattle.cs_scanner.specs.Lexeme.Number.{number}
use Rattle.cs_scanner.specs.Lexeme.Order.{IsAtMost, IsBefore}
use Rattle.cs_scanner.proofs.OnLexeme.Numbers.{before_is_lower, order_is_total}
use Rattle.cs_lexical.specs.Winning.{IsLeastIfAny, IsLeastOf, Overlap, Wins}
use Rattle.cs_lexical.specs.Laws.{HasLeastBoth, HasLeastWin, HasOneWhere}

module _ (P : List ℕ → Type 0) where
  pub one_least : (x y : List ℕ) → IsLeastOf P x → IsLeastOf P y → x ≡ y
  one_least x y a b = ⊎_elim
      (λ (same : x ≡ y). same)
      (λ (before : IsBefore x y). ⊎_elim
      (λ (same : y ≡ x). sym same)
      (λ (behind : IsBefore y x). absurd (omega (arith, before_is_lower x y a.bytes before, before_is_lower y x b.bytes behind)))
      (b.least x a.bytes a.is))
      (a.least y b.bytes b.is)

  -- where none is least, no text with a lower number is P
  none_below : (n : ℕ) → ((text : List ℕ) → IsLeastOf P text → ⊥) → (x : List ℕ) → number x < n → AreBytes x → P x → ⊥
  none_below zero none x less bytes is = omega (arith, less)
  none_below (suc n) none x less bytes is =
      none x (record {
        bytes = bytes;
        is = is;
        least = λ other also p. ⊎_elim
            (λ (most : IsAtMost x other). most)
            (λ (before : IsBefore other x). absurd (none_below n none other (omega (arith, less, before_is_lower other x also before)) also p))
            (order_is_total x other bytes also);
      })

  pub some_least : HasOneWhere P (IsLeastOf P)
  some_least x bytes is none = none_below (suc (number x)) none x (omega arith) bytes is

  -- an entry has at most one value, and not none
  pub one_entry : (a b : Option (List ℕ)) → IsLeastIfAny P a → IsLeastIfAny P b → a ≡ b
  one_entry None None ha hb = refl
  one_entry None (Some y) ha hb = absurd (ha y hb.bytes hb.is)
  one_entry (Some x) None ha hb = absurd (hb x ha.bytes ha.is)
  one_entry (Some x) (Some y) ha hb = ap Some (one_least x y ha hb)

  pub some_entry : ((entry : Option (List ℕ)) → IsLeastIfAny P entry → ⊥) → ⊥
  some_entry none = none None (λ text bytes is. some_least text bytes is (λ least it. none (Some least) it))

pub least_win : (patterns : List Regex) (rule : ℕ) → HasLeastWin patterns rule
least_win patterns rule = record { one = one_least (Wins patterns rule); some = some_least (Wins patterns rule) }

pub least_both : (patterns : List Regex) (rule other : ℕ) → HasLeastBoth patterns rule other
least_both patterns rule other = record { one = one_least (Overlap patterns rule other); some = some_least (Overlap patterns rule other) }
