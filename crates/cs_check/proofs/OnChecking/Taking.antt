-- What one more name adds to sets, tables and marks.
use Rattle.std.proofs.Common.{◌≡◌, ℕ, Bool, List, [], ◌∷◌, ◌++◌, sym, subst, ⊎_elim, inl, inr}
use Rattle.cs_grammar.specs.declared.symbol.Mark.{Mark}
use Rattle.cs_yacc.specs.Reading.File.{File}
use Rattle.cs_lines.specs.Words.Names.{token_of, nonterminal_of, IsTokenNamed, IsNonterminalNamed, IsBehindNamed}
use Rattle.cs_closed.specs.Closed.Sets.{PlainSets, IsIn, IsWith, IsPair, IsNext}
use Rattle.cs_check.specs.Checking.Claims.{IsWithNonterminals, IsWithTokens, IsWithNamed, IsWithBehind}
use Rattle.cs_check.proofs.OnChecking.Inserts.{IsWithPair}
use Rattle.cs_check.proofs.OnChecking.Named.{one_named, IsAdded, added_none, added_more}

-- ---- sets of nonterminals

module _ (file : File) (old : List Bool) where
  -- as what is added
  as_added : (names : List (List ℕ)) (new : List Bool) → IsWithNonterminals file names old new → IsAdded (IsNonterminalNamed file) (λ (n : ℕ). Unit {0}) names (IsIn old) (IsIn new)
  as_added names new with n = (
    λ h. ⊎_elim (λ a. inl a) (λ b. inr (tt, b)) ((with n).0 h),
    λ h. (with n).1 (⊎_elim (λ a. inl a) (λ b. inr b.1) h),
  )

  from_added : (names : List (List ℕ)) (new : List Bool) → IsAdded (IsNonterminalNamed file) (λ (n : ℕ). Unit {0}) names (IsIn old) (IsIn new) → IsWithNonterminals file names old new
  from_added names new with n = (
    λ h. ⊎_elim (λ a. inl a) (λ b. inr b.1) ((with n).0 h),
    λ h. (with n).1 (⊎_elim (λ a. inl a) (λ b. inr (tt, b)) h),
  )

  pub none_nonterminals : IsWithNonterminals file [] old old
  none_nonterminals =
      from_added [] old (added_none (IsNonterminalNamed file) (λ (n : ℕ). Unit {0}) (IsIn old))

  pub more_nonterminals : (mid new : List Bool) (names : List (List ℕ)) (name : List ℕ) (number : ℕ) → IsNonterminalNamed file name number → IsWith mid number new → IsWithNonterminals file names old mid → IsWithNonterminals file (names ++ name ∷ []) old new
  more_nonterminals mid new names name number named with before =
      from_added (names ++ name ∷ []) new
      (added_more (IsNonterminalNamed file) (λ (n : ℕ). Unit {0}) (IsIn old) (IsIn mid) (IsIn new) names name
      (as_added names mid before)
      (λ n. (
        λ h. ⊎_elim (λ a. inl a) (λ same. inr (tt, subst (λ (k : ℕ). IsNonterminalNamed file name k) (sym same) named)) ((with n).0 h),
        λ h. (with n).1 (⊎_elim (λ a. inl a)
            (λ b. inr (one_named file.grammar.nonterminals (nonterminal_of file) name n number b.1 named)) h),
      )))

-- ---- tables by tokens

module _ (file : File) (number : ℕ) (old : List (List Bool)) where
  pub none_tokens : IsWithTokens file [] number old old
  none_tokens n = added_none (IsTokenNamed file) (λ (t : ℕ). n ≡ number) (IsPair old n)

  pub more_tokens : (mid new : List (List Bool)) (names : List (List ℕ)) (name : List ℕ) (token : ℕ) → IsTokenNamed file name token → IsWithPair number token mid new → IsWithTokens file names number old mid → IsWithTokens file (names ++ name ∷ []) number old new
  more_tokens mid new names name token named with before n =
      added_more (IsTokenNamed file) (λ (t : ℕ). n ≡ number) (IsPair old n) (IsPair mid n) (IsPair new n) names name
      (before n)
      (λ t. (
        λ h. ⊎_elim (λ a. inl a) (λ b. inr (b.0, subst (λ (k : ℕ). IsTokenNamed file name k) (sym b.1) named)) ((with n t).0 h),
        λ h. (with n t).1 (⊎_elim (λ a. inl a)
            (λ b. inr (b.0, one_named file.grammar.tokens (token_of file) name t token b.1 named)) h),
      ))

-- ---- marks behind marks

module _ (file : File) (a : Mark) (old : PlainSets) where
  pub none_behind : IsWithBehind file [] a old old
  none_behind l = added_none (IsBehindNamed file) (λ (r : Mark). l ≡ a) (IsNext old l)

  pub more_behind : (mid new : PlainSets) (names : List (List ℕ)) (name : List ℕ) → IsWithNamed file name a mid new → IsWithBehind file names a old mid → IsWithBehind file (names ++ name ∷ []) a old new
  more_behind mid new names name with before l =
      added_more (IsBehindNamed file) (λ (r : Mark). l ≡ a) (IsNext old l) (IsNext mid l) (IsNext new l) names name
      (before l) (with l)
