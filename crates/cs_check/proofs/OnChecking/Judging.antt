-- What is found out of a line is so of the text: its lines above say one list of lines.
use Rattle.std.proofs.Common.{◌≡◌, ℕ, ◌<◌, ◌≤◌, List, [], ◌∷◌, ◌++◌, Option, Some, None, refl, ap, ◌∙◌, subst, ⊎_elim, arith}
use Rattle.std.proofs.lemmas.Bool.{cases_lt}
use Rattle.cs_check.specs.declared.passing.fault.ClaimFault.{ClaimFault}
use Rattle.cs_check.specs.declared.passing.fault.ClaimFault.TheVariants.{Form, Head, Unclosed, Derive, Size, Yield, Scan, Goal, Infeasible, Base, Edit, Pair, Totals}
use Rattle.cs_lines.specs.Lines.Line.{Line}
use Rattle.cs_lines.specs.Lines.Texts.{Says}
use Rattle.cs_check.specs.Passing.First.{IsFaultless, IsLowest}
use Rattle.cs_check.specs.Passing.Places.{OfEnd, last_part}
use Rattle.cs_check.specs.Passing.Faults.{Checked, Has, IsSaid, AreSaid, HasFault}
use Rattle.cs_check.specs.Passing.Passing.{number}
use Rattle.cs_check.specs.Checking.Judging.{IsRight, IsWrong}
use Rattle.cs_lines.proofs.OnTexts.OneLine.{one_line}

one_said : (text : Option (List ℕ)) (l k : Line) → IsSaid text l → IsSaid text k → l ≡ k
one_said None l k h i = absurd h
one_said (Some bytes) l k h i = one_line bytes l k h i

pub one_list : (texts : List (Option (List ℕ))) (ls ks : List Line) → AreSaid texts ls → AreSaid texts ks → ls ≡ ks
one_list [] [] [] h i = refl
one_list [] [] (k ∷ ks) h i = absurd i
one_list [] (l ∷ ls) ks h i = absurd h
one_list (t ∷ texts) [] ks h i = absurd h
one_list (t ∷ texts) (l ∷ ls) [] h i = absurd i
one_list (t ∷ texts) (l ∷ ls) (k ∷ ks) h i =
    ap (λ (x : Line). x ∷ ls) (one_said t l k h.0 i.0) ∙ ap (λ (x : List Line). k ∷ x) (one_list texts ls ks h.1 i.1)

pub said_push : (texts : List (Option (List ℕ))) (lines : List Line) (bytes : List ℕ) (l : Line) → AreSaid texts lines → Says bytes l → AreSaid (texts ++ Some bytes ∷ []) (lines ++ l ∷ [])
said_push [] [] bytes l h says = (says, tt)
said_push [] (k ∷ lines) bytes l h says = absurd h
said_push (t ∷ texts) [] bytes l h says = absurd h
said_push (t ∷ texts) (k ∷ lines) bytes l h says = (h.0, said_push texts lines bytes l h.1 says)

module _ (c : Checked) (above : List (Option (List ℕ))) (lines : List Line) (said : AreSaid above lines) where
  module _ (bytes : List ℕ) (l : Line) (says : Says bytes l) where
    same : (f : ClaimFault) (lines' : List Line) (l' : Line) → AreSaid above lines' → Says bytes l' → Has c f lines l → Has c f lines' l'
    same f lines' l' said' says' has =
        subst (λ (x : Line). Has c f lines' x) (one_line bytes l l' says says')
        (subst (λ (x : List Line). Has c f x l) (one_list above lines lines' said said') has)

    -- what the text has of a fault the line has
    has_not : (f : ClaimFault) → HasFault c above (Some bytes) f → Has c f lines l → ⊥
    has_not Form fault has = fault (lines, l, said, says, has)
    has_not Head fault has = fault.4 (same Head fault.0 fault.1 fault.2 fault.3 has)
    has_not Unclosed fault has = fault.4 (same Unclosed fault.0 fault.1 fault.2 fault.3 has)
    has_not Derive fault has = fault.4 (same Derive fault.0 fault.1 fault.2 fault.3 has)
    has_not Size fault has = fault.4 (same Size fault.0 fault.1 fault.2 fault.3 has)
    has_not Yield fault has = fault.4 (same Yield fault.0 fault.1 fault.2 fault.3 has)
    has_not Scan fault has = fault.4 (same Scan fault.0 fault.1 fault.2 fault.3 has)
    has_not Goal fault has = fault.4 (same Goal fault.0 fault.1 fault.2 fault.3 has)
    has_not Infeasible fault has = fault.4 (same Infeasible fault.0 fault.1 fault.2 fault.3 has)
    has_not Base fault has = fault.4 (same Base fault.0 fault.1 fault.2 fault.3 has)
    has_not Edit fault has = fault.4 (same Edit fault.0 fault.1 fault.2 fault.3 has)
    has_not Pair fault has = fault.4 (same Pair fault.0 fault.1 fault.2 fault.3 has)
    has_not Totals fault has = fault.4 (same Totals fault.0 fault.1 fault.2 fault.3 has)

    -- and the other way
    has_fault : (f : ClaimFault) → (Has c f lines l → ⊥) → HasFault c above (Some bytes) f
    has_fault Form never = λ form. never (back form)
      where
        back : (lines' : List Line) × (l' : Line) × AreSaid above lines' × Says bytes l' × Has c Form lines' l' → Has c Form lines l
        back form =
            subst (λ (x : Line). Has c Form lines x) (one_line bytes form.1 l form.3 says)
            (subst (λ (x : List Line). Has c Form x form.1) (one_list above form.0 lines form.2 said) form.4)
    has_fault Head never = (lines, l, said, says, never)
    has_fault Unclosed never = (lines, l, said, says, never)
    has_fault Derive never = (lines, l, said, says, never)
    has_fault Size never = (lines, l, said, says, never)
    has_fault Yield never = (lines, l, said, says, never)
    has_fault Scan never = (lines, l, said, says, never)
    has_fault Goal never = (lines, l, said, says, never)
    has_fault Infeasible never = (lines, l, said, says, never)
    has_fault Base never = (lines, l, said, says, never)
    has_fault Edit never = (lines, l, said, says, never)
    has_fault Pair never = (lines, l, said, says, never)
    has_fault Totals never = (lines, l, said, says, never)

    pub right_faultless : IsRight c lines l → IsFaultless (HasFault c) above (Some bytes)
    right_faultless right f fault = has_not f fault (right f)

    pub wrong_lowest : (f : ClaimFault) → IsWrong c lines l f → IsLowest (HasFault c) number above (Some bytes) f
    wrong_lowest f wrong = record {
      has = has_fault f wrong.wrong;
      lowest = λ g fault.
          ⊎_elim (λ (less : number g < number f). absurd (has_not g fault (wrong.lower g less)))
          (λ (other : number f ≤ number g). other)
          (cases_lt (number g) (number f));
    }

  -- bytes that say no line
  pub unsaid_lowest : (bytes : List ℕ) → ((l : Line) → Says bytes l → ⊥) → IsLowest (HasFault c) number above (Some bytes) Form
  unsaid_lowest bytes none = record { has = λ form. none form.1 form.3; lowest = λ g fault. omega arith }

  -- the end of the text
  pub end_faultless : last_part lines ≡ OfEnd → IsFaultless (HasFault c) above None
  end_faultless is Form fault = fault (lines, said, is)
  end_faultless is Head fault = fault.3
  end_faultless is Unclosed fault = fault.3
  end_faultless is Derive fault = fault.3
  end_faultless is Size fault = fault.3
  end_faultless is Yield fault = fault.3
  end_faultless is Scan fault = fault.3
  end_faultless is Goal fault = fault.3
  end_faultless is Infeasible fault = fault.3
  end_faultless is Base fault = fault.3
  end_faultless is Edit fault = fault.3
  end_faultless is Pair fault = fault.3
  end_faultless is Totals fault = fault.3

  pub end_lowest : (last_part lines ≡ OfEnd → ⊥) → IsLowest (HasFault c) number above None Form
  end_lowest never = record {
    has = λ form. never (subst (λ (x : List Line). last_part x ≡ OfEnd) (one_list above form.0 lines form.1 said) form.2);
    lowest = λ g fault. omega arith;
  }
