-- The lines above a line that stays: those that were, and those that are.
use Rattle.std.proofs.Common.{◌≡◌, ℕ, ◌≤◌, List, [], length, refl, sym, subst, ⊎_elim, inl, ◌⊎◌}
use Rattle.cs_grammar.specs.Grammar.{PlainGrammar}
use Rattle.cs_yacc.specs.Reading.File.{File}
use Rattle.cs_lines.specs.Words.Edits.{EditWords}
use Rattle.cs_lines.specs.Lines.Line.{Line}
use Rattle.cs_check.specs.Passing.Above.{edits}
use Rattle.cs_check.specs.Passing.Head.{head_size}
use Rattle.cs_check.specs.Passing.Places.{Part, InHead, OfCase, OfDerivation, OfCaseTokens, OfCaseText, OfGoal, OfBase, OfNegative, OfNegativeTokens, OfNegativeText, OfEnd, last_part}
use Rattle.cs_check.specs.Passing.Entries.{IsLast, IsTold}
use Rattle.cs_check.proofs.OnChecking.Told.{case_kept}
use Rattle.cs_check.proofs.OnPassing.Behind.{IsPast}
use Rattle.cs_check.proofs.OnPassing.Alike.{AreAlike, alike_none, made_alike}
use Rattle.cs_check.proofs.OnPassing.Kin.{IsOpen, IsWithin, AreKin}

pub record AreLeft (g : PlainGrammar) (above other : List Line) : Type 0 where
  pub alike : AreAlike above other
  pub long : (length other ≡ length above) ⊎ (IsPast g above × (head_size g above ≤ length other))
  pub part : AreKin (last_part above) (last_part other)
  pub told : IsWithin (last_part above) → (edit : EditWords) → IsLast (edits above) edit → IsLast (edits other) edit

pub left_none : (g : PlainGrammar) → AreLeft g [] []
left_none g = record { alike = alike_none; long = inl refl; part = inl refl; told = λ within edit h. h }

-- the tokens that lines tell
module _ (file : File) (above other : List Line) (alike : AreAlike above other) (tokens : List ℕ) where
  told_same : (p : Part) → (IsWithin p → (edit : EditWords) → IsLast (edits above) edit → IsLast (edits other) edit) → IsTold file above p tokens → IsTold file other p tokens
  told_same OfNegative told h = (h.0, told tt h.0 h.1, made_alike above other alike file h.0 tokens h.2)
  told_same OfNegativeTokens told h = (h.0, told tt h.0 h.1, made_alike above other alike file h.0 tokens h.2)
  told_same InHead told h = case_kept file above other alike.derivations tokens h
  told_same OfCase told h = case_kept file above other alike.derivations tokens h
  told_same OfDerivation told h = case_kept file above other alike.derivations tokens h
  told_same OfCaseTokens told h = case_kept file above other alike.derivations tokens h
  told_same OfCaseText told h = case_kept file above other alike.derivations tokens h
  told_same OfGoal told h = case_kept file above other alike.derivations tokens h
  told_same OfBase told h = case_kept file above other alike.derivations tokens h
  told_same OfNegativeText told h = case_kept file above other alike.derivations tokens h
  told_same OfEnd told h = case_kept file above other alike.derivations tokens h

  told_open : (p q : Part) → IsOpen p → IsOpen q → IsTold file above p tokens → IsTold file other q tokens
  told_open OfBase OfBase h k t = case_kept file above other alike.derivations tokens t
  told_open OfBase OfNegativeText h k t = case_kept file above other alike.derivations tokens t
  told_open OfNegativeText OfBase h k t = case_kept file above other alike.derivations tokens t
  told_open OfNegativeText OfNegativeText h k t = case_kept file above other alike.derivations tokens t
  told_open OfBase q h k t = absurd k
  told_open OfNegativeText q h k t = absurd k
  told_open p q h k t = absurd h

  pub told_kin : (p q : Part) → AreKin p q → (IsWithin p → (edit : EditWords) → IsLast (edits above) edit → IsLast (edits other) edit) → IsTold file above p tokens → IsTold file other q tokens
  told_kin p q kin told h =
      ⊎_elim
      (λ (e : q ≡ p). subst (λ (x : Part). IsTold file other x tokens) (sym e) (told_same p told h))
      (λ (o : IsOpen p × IsOpen q). told_open p q o.0 o.1 h)
      kin
