-- What each line behind the head has to say, and which fault is its lowest.
use Rattle.std.proofs.Common.{◌≡◌, ℕ, ◌<◌, Bool, true, false, List, refl, sym, ap, ◌∙◌, arith}
use Rattle.std.proofs.lemmas.Bool.{false≢true}
use Rattle.cs_check.specs.declared.passing.fault.ClaimFault.{ClaimFault}
use Rattle.cs_check.specs.declared.passing.fault.ClaimFault.TheVariants.{Form, Head, Unclosed, Derive, Size, Yield, Scan, Goal, Infeasible, Base, Edit, Pair, Totals}
use Rattle.cs_lines.specs.Words.Edits.{EditWords}
use Rattle.cs_lines.specs.Lines.Line.{GoalWords, VerdictWords, Counts, Line, Opening, Weighing, TokenLine, RuleLine, LexemeLine, SetLine, RowLine, CaseLine, DeriveLine, TokensLine, TextLine, NoLexemeLine, NoScanLine, GoalLine, BaseLine, NegativeLine, EndLine}
use Rattle.cs_check.specs.Passing.Head.{Due, TheOpening, TheWeighing, TheToken, TheRule, TheLexeme, TheSet, TheRow, Takes}
use Rattle.cs_check.specs.Passing.Places.{IsInHead}
use Rattle.cs_check.specs.Passing.Faults.{Checked, Has}
use Rattle.cs_check.specs.Passing.Passing.{number}
use Rattle.cs_check.specs.Checking.Judging.{IsRight, IsWrong}

-- what holds of each fault holds of all
pub all_faults : (P : ClaimFault → Type 0) → P Form → P Head → P Unclosed → P Derive → P Size → P Yield → P Scan → P Goal → P Infeasible → P Base → P Edit → P Pair → P Totals → (f : ClaimFault) → P f
all_faults P at_form at_head at_unclosed at_derive at_size at_yield at_scan at_goal at_infeasible at_base at_edit at_pair at_totals Form = at_form
all_faults P at_form at_head at_unclosed at_derive at_size at_yield at_scan at_goal at_infeasible at_base at_edit at_pair at_totals Head = at_head
all_faults P at_form at_head at_unclosed at_derive at_size at_yield at_scan at_goal at_infeasible at_base at_edit at_pair at_totals Unclosed = at_unclosed
all_faults P at_form at_head at_unclosed at_derive at_size at_yield at_scan at_goal at_infeasible at_base at_edit at_pair at_totals Derive = at_derive
all_faults P at_form at_head at_unclosed at_derive at_size at_yield at_scan at_goal at_infeasible at_base at_edit at_pair at_totals Size = at_size
all_faults P at_form at_head at_unclosed at_derive at_size at_yield at_scan at_goal at_infeasible at_base at_edit at_pair at_totals Yield = at_yield
all_faults P at_form at_head at_unclosed at_derive at_size at_yield at_scan at_goal at_infeasible at_base at_edit at_pair at_totals Scan = at_scan
all_faults P at_form at_head at_unclosed at_derive at_size at_yield at_scan at_goal at_infeasible at_base at_edit at_pair at_totals Goal = at_goal
all_faults P at_form at_head at_unclosed at_derive at_size at_yield at_scan at_goal at_infeasible at_base at_edit at_pair at_totals Infeasible = at_infeasible
all_faults P at_form at_head at_unclosed at_derive at_size at_yield at_scan at_goal at_infeasible at_base at_edit at_pair at_totals Base = at_base
all_faults P at_form at_head at_unclosed at_derive at_size at_yield at_scan at_goal at_infeasible at_base at_edit at_pair at_totals Edit = at_edit
all_faults P at_form at_head at_unclosed at_derive at_size at_yield at_scan at_goal at_infeasible at_base at_edit at_pair at_totals Pair = at_pair
all_faults P at_form at_head at_unclosed at_derive at_size at_yield at_scan at_goal at_infeasible at_base at_edit at_pair at_totals Totals = at_totals

-- a line of the head
abbrev pub is_head : Line → Bool
is_head Opening = true
is_head (Weighing weigh) = true
is_head (TokenLine n name) = true
is_head (RuleLine n left right) = true
is_head (LexemeLine name text) = true
is_head (SetLine kind names) = true
is_head (RowLine kind name names) = true
is_head l = false

pub taken_head : (d : Due) (l : Line) → Takes d l → is_head l ≡ true
taken_head TheOpening l e = ap is_head e
taken_head TheWeighing l e = ap is_head e.1
taken_head (TheToken t) l e = ap is_head e.1
taken_head (TheRule r) l e = ap is_head e.2
taken_head (TheLexeme t) l e = ap is_head e.2
taken_head (TheSet kind) l e = ap is_head e.1
taken_head (TheRow kind n) l e = ap is_head e.2

module _ (c : Checked) (lines : List Line) where
  behind : (l : Line) → is_head l ≡ false → IsInHead c.file.grammar lines l → ⊥
  behind l never h = false≢true (sym never ∙ taken_head h.due l h.takes)

  -- a line of the head lacks each fault, where it lacks the first three
  pub right_head : (l : Line) → is_head l ≡ true → Has c Form lines l → Has c Head lines l → Has c Unclosed lines l → IsRight c lines l
  right_head Opening is form head unclosed =
      all_faults (λ (f : ClaimFault). Has c f lines Opening) form head unclosed tt tt tt tt tt tt tt tt tt tt
  right_head (Weighing weigh) is form head unclosed =
      all_faults (λ (f : ClaimFault). Has c f lines (Weighing weigh)) form head unclosed tt tt tt tt tt tt tt tt tt tt
  right_head (TokenLine n name) is form head unclosed =
      all_faults (λ (f : ClaimFault). Has c f lines (TokenLine n name)) form head unclosed tt tt tt tt tt tt tt tt tt tt
  right_head (RuleLine n left right) is form head unclosed =
      all_faults (λ (f : ClaimFault). Has c f lines (RuleLine n left right)) form head unclosed tt tt tt tt tt tt tt tt tt tt
  right_head (LexemeLine name text) is form head unclosed =
      all_faults (λ (f : ClaimFault). Has c f lines (LexemeLine name text)) form head unclosed tt tt tt tt tt tt tt tt tt tt
  right_head (SetLine kind names) is form head unclosed =
      all_faults (λ (f : ClaimFault). Has c f lines (SetLine kind names)) form head unclosed tt tt tt tt tt tt tt tt tt tt
  right_head (RowLine kind name names) is form head unclosed =
      all_faults (λ (f : ClaimFault). Has c f lines (RowLine kind name names)) form head unclosed tt tt tt tt tt tt tt tt tt tt
  right_head l is form head unclosed = absurd cc

  -- a line behind the head lacks each fault, where it lacks these
  module _ (l : Line) (never : is_head l ≡ false) (form : Has c Form lines l) where
    right_where : Has c Derive lines l → Has c Size lines l → Has c Yield lines l → Has c Scan lines l → Has c Goal lines l → Has c Infeasible lines l → Has c Base lines l → Has c Edit lines l → Has c Pair lines l → Has c Totals lines l → IsRight c lines l
    right_where has_derive has_size has_yield has_scan has_goal has_infeasible has_base has_edit has_pair has_totals =
        all_faults (λ (f : ClaimFault). Has c f lines l) form (λ h. absurd (behind l never h)) (λ h. absurd (behind l never h)) has_derive has_size has_yield has_scan has_goal has_infeasible has_base has_edit has_pair has_totals

    -- and has one that it has, where it lacks the lower ones of these
    wrong_where : (f : ClaimFault) → (Has c f lines l → ⊥) → (number Derive < number f → Has c Derive lines l) → (number Size < number f → Has c Size lines l) → (number Yield < number f → Has c Yield lines l) → (number Scan < number f → Has c Scan lines l) → (number Goal < number f → Has c Goal lines l) → (number Infeasible < number f → Has c Infeasible lines l) → (number Base < number f → Has c Base lines l) → (number Edit < number f → Has c Edit lines l) → (number Pair < number f → Has c Pair lines l) → (number Totals < number f → Has c Totals lines l) → IsWrong c lines l f
    wrong_where f has_not has_derive has_size has_yield has_scan has_goal has_infeasible has_base has_edit has_pair has_totals = record {
      wrong = has_not;
      lower =
          all_faults (λ (g : ClaimFault). number g < number f → Has c g lines l) (λ less. form) (λ less h. absurd (behind l never h)) (λ less h. absurd (behind l never h))
          has_derive has_size has_yield has_scan has_goal has_infeasible has_base has_edit has_pair has_totals;
    }

  module _ (n size : ℕ) (form : Has c Form lines (CaseLine n size)) where
    pub right_case : IsRight c lines (CaseLine n size)
    right_case = right_where (CaseLine n size) refl form tt tt tt tt tt tt tt tt tt tt

  module _ (rules : List ℕ) (form : Has c Form lines (DeriveLine rules)) where
    pub right_derive : Has c Derive lines (DeriveLine rules) → Has c Size lines (DeriveLine rules) → IsRight c lines (DeriveLine rules)
    right_derive has_derive has_size = right_where (DeriveLine rules) refl form has_derive has_size tt tt tt tt tt tt tt tt

    pub wrong_derive_derive : (Has c Derive lines (DeriveLine rules) → ⊥) → IsWrong c lines (DeriveLine rules) Derive
    wrong_derive_derive never =
        wrong_where (DeriveLine rules) refl form Derive never (λ less. absurd (omega arith)) (λ less. absurd (omega arith)) (λ less. tt) (λ less. tt) (λ less. tt) (λ less. tt) (λ less. tt) (λ less. tt) (λ less. tt) (λ less. tt)

    pub wrong_derive_size : Has c Derive lines (DeriveLine rules) → (Has c Size lines (DeriveLine rules) → ⊥) → IsWrong c lines (DeriveLine rules) Size
    wrong_derive_size has_derive never =
        wrong_where (DeriveLine rules) refl form Size never (λ less. has_derive) (λ less. absurd (omega arith)) (λ less. tt) (λ less. tt) (λ less. tt) (λ less. tt) (λ less. tt) (λ less. tt) (λ less. tt) (λ less. tt)

  module _ (names : List (List ℕ)) (form : Has c Form lines (TokensLine names)) where
    pub right_tokens : Has c Yield lines (TokensLine names) → IsRight c lines (TokensLine names)
    right_tokens has_yield = right_where (TokensLine names) refl form tt tt has_yield tt tt tt tt tt tt tt

    pub wrong_tokens_yield : (Has c Yield lines (TokensLine names) → ⊥) → IsWrong c lines (TokensLine names) Yield
    wrong_tokens_yield never =
        wrong_where (TokensLine names) refl form Yield never (λ less. tt) (λ less. tt) (λ less. absurd (omega arith)) (λ less. tt) (λ less. tt) (λ less. tt) (λ less. tt) (λ less. tt) (λ less. tt) (λ less. tt)

  module _ (text : List ℕ) (form : Has c Form lines (TextLine text)) where
    pub right_text : Has c Scan lines (TextLine text) → IsRight c lines (TextLine text)
    right_text has_scan = right_where (TextLine text) refl form tt tt tt has_scan tt tt tt tt tt tt

    pub wrong_text_scan : (Has c Scan lines (TextLine text) → ⊥) → IsWrong c lines (TextLine text) Scan
    wrong_text_scan never =
        wrong_where (TextLine text) refl form Scan never (λ less. tt) (λ less. tt) (λ less. tt) (λ less. absurd (omega arith)) (λ less. tt) (λ less. tt) (λ less. tt) (λ less. tt) (λ less. tt) (λ less. tt)

  module _ (name : List ℕ) (form : Has c Form lines (NoLexemeLine name)) where
    pub right_no_lexeme : IsRight c lines (NoLexemeLine name)
    right_no_lexeme = right_where (NoLexemeLine name) refl form tt tt tt tt tt tt tt tt tt tt

  module _ (after : ℕ) (form : Has c Form lines (NoScanLine after)) where
    pub right_no_scan : IsRight c lines (NoScanLine after)
    right_no_scan = right_where (NoScanLine after) refl form tt tt tt tt tt tt tt tt tt tt

  module _ (n : ℕ) (words : GoalWords) (verdict : VerdictWords) (form : Has c Form lines (GoalLine n words verdict)) where
    pub right_goal : Has c Goal lines (GoalLine n words verdict) → Has c Infeasible lines (GoalLine n words verdict) → IsRight c lines (GoalLine n words verdict)
    right_goal has_goal has_infeasible = right_where (GoalLine n words verdict) refl form tt tt tt tt has_goal has_infeasible tt tt tt tt

    pub wrong_goal_goal : (Has c Goal lines (GoalLine n words verdict) → ⊥) → IsWrong c lines (GoalLine n words verdict) Goal
    wrong_goal_goal never =
        wrong_where (GoalLine n words verdict) refl form Goal never (λ less. tt) (λ less. tt) (λ less. tt) (λ less. tt) (λ less. absurd (omega arith)) (λ less. absurd (omega arith)) (λ less. tt) (λ less. tt) (λ less. tt) (λ less. tt)

    pub wrong_goal_infeasible : Has c Goal lines (GoalLine n words verdict) → (Has c Infeasible lines (GoalLine n words verdict) → ⊥) → IsWrong c lines (GoalLine n words verdict) Infeasible
    wrong_goal_infeasible has_goal never =
        wrong_where (GoalLine n words verdict) refl form Infeasible never (λ less. tt) (λ less. tt) (λ less. tt) (λ less. tt) (λ less. has_goal) (λ less. absurd (omega arith)) (λ less. tt) (λ less. tt) (λ less. tt) (λ less. tt)

  module _ (n goal : ℕ) (form : Has c Form lines (BaseLine n goal)) where
    pub right_base : Has c Goal lines (BaseLine n goal) → Has c Base lines (BaseLine n goal) → IsRight c lines (BaseLine n goal)
    right_base has_goal has_base = right_where (BaseLine n goal) refl form tt tt tt tt has_goal tt has_base tt tt tt

    pub wrong_base_goal : (Has c Goal lines (BaseLine n goal) → ⊥) → IsWrong c lines (BaseLine n goal) Goal
    wrong_base_goal never =
        wrong_where (BaseLine n goal) refl form Goal never (λ less. tt) (λ less. tt) (λ less. tt) (λ less. tt) (λ less. absurd (omega arith)) (λ less. tt) (λ less. absurd (omega arith)) (λ less. tt) (λ less. tt) (λ less. tt)

    pub wrong_base_base : Has c Goal lines (BaseLine n goal) → (Has c Base lines (BaseLine n goal) → ⊥) → IsWrong c lines (BaseLine n goal) Base
    wrong_base_base has_goal never =
        wrong_where (BaseLine n goal) refl form Base never (λ less. tt) (λ less. tt) (λ less. tt) (λ less. tt) (λ less. has_goal) (λ less. tt) (λ less. absurd (omega arith)) (λ less. tt) (λ less. tt) (λ less. tt)

  module _ (n base : ℕ) (edit : EditWords) (left right : List ℕ) (at : ℕ) (form : Has c Form lines (NegativeLine n base edit left right at)) where
    pub right_negative : Has c Base lines (NegativeLine n base edit left right at) → Has c Edit lines (NegativeLine n base edit left right at) → Has c Pair lines (NegativeLine n base edit left right at) → IsRight c lines (NegativeLine n base edit left right at)
    right_negative has_base has_edit has_pair = right_where (NegativeLine n base edit left right at) refl form tt tt tt tt tt tt has_base has_edit has_pair tt

    pub wrong_negative_base : (Has c Base lines (NegativeLine n base edit left right at) → ⊥) → IsWrong c lines (NegativeLine n base edit left right at) Base
    wrong_negative_base never =
        wrong_where (NegativeLine n base edit left right at) refl form Base never (λ less. tt) (λ less. tt) (λ less. tt) (λ less. tt) (λ less. tt) (λ less. tt) (λ less. absurd (omega arith)) (λ less. absurd (omega arith)) (λ less. absurd (omega arith)) (λ less. tt)

    pub wrong_negative_edit : Has c Base lines (NegativeLine n base edit left right at) → (Has c Edit lines (NegativeLine n base edit left right at) → ⊥) → IsWrong c lines (NegativeLine n base edit left right at) Edit
    wrong_negative_edit has_base never =
        wrong_where (NegativeLine n base edit left right at) refl form Edit never (λ less. tt) (λ less. tt) (λ less. tt) (λ less. tt) (λ less. tt) (λ less. tt) (λ less. has_base) (λ less. absurd (omega arith)) (λ less. absurd (omega arith)) (λ less. tt)

    pub wrong_negative_pair : Has c Base lines (NegativeLine n base edit left right at) → Has c Edit lines (NegativeLine n base edit left right at) → (Has c Pair lines (NegativeLine n base edit left right at) → ⊥) → IsWrong c lines (NegativeLine n base edit left right at) Pair
    wrong_negative_pair has_base has_edit never =
        wrong_where (NegativeLine n base edit left right at) refl form Pair never (λ less. tt) (λ less. tt) (λ less. tt) (λ less. tt) (λ less. tt) (λ less. tt) (λ less. has_base) (λ less. has_edit) (λ less. absurd (omega arith)) (λ less. tt)

  module _ (counts : Counts) (form : Has c Form lines (EndLine counts)) where
    pub right_end : Has c Goal lines (EndLine counts) → Has c Totals lines (EndLine counts) → IsRight c lines (EndLine counts)
    right_end has_goal has_totals = right_where (EndLine counts) refl form tt tt tt tt has_goal tt tt tt tt has_totals

    pub wrong_end_goal : (Has c Goal lines (EndLine counts) → ⊥) → IsWrong c lines (EndLine counts) Goal
    wrong_end_goal never =
        wrong_where (EndLine counts) refl form Goal never (λ less. tt) (λ less. tt) (λ less. tt) (λ less. tt) (λ less. absurd (omega arith)) (λ less. tt) (λ less. tt) (λ less. tt) (λ less. tt) (λ less. absurd (omega arith))

    pub wrong_end_totals : Has c Goal lines (EndLine counts) → (Has c Totals lines (EndLine counts) → ⊥) → IsWrong c lines (EndLine counts) Totals
    wrong_end_totals has_goal never =
        wrong_where (EndLine counts) refl form Totals never (λ less. tt) (λ less. tt) (λ less. tt) (λ less. tt) (λ less. has_goal) (λ less. tt) (λ less. tt) (λ less. tt) (λ less. tt) (λ less. absurd (omega arith))
