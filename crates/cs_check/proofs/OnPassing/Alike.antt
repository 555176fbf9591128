-- Lists of lines that tell the same, but for their negatives.
use Rattle.std.proofs.Common.{◌≡◌, ℕ, Bool, false, List, [], ◌∷◌, ◌++◌, Option, length, refl, sym, ap, ◌∙◌, subst}
use Rattle.std.specs.Prelude.{◌||◌, if◌then◌else◌}
use Rattle.std.specs.List.{filter_map, cons_option}
use Rattle.std.proofs.lemmas.List.Elements.{filter_map-append}
use Rattle.std.proofs.lemmas.List.Folds.{list_any-append}
use Rattle.cs_grammar.specs.Grammar.{PlainGrammar}
use Rattle.cs_grammar.specs.declared.symbol.Mark.{Mark}
use Rattle.cs_grammar.specs.Weights.{Measure}
use Rattle.cs_choices.specs.declared.weigh.Weigh.{Weigh}
use Rattle.cs_goals.specs.declared.goal.Goal.{Goal}
use Rattle.cs_goals.specs.declared.goal.Goal.TheVariants.{Pair}
use Rattle.cs_yacc.specs.Reading.File.{File}
use Rattle.cs_closed.specs.Closed.Sets.{PlainSets}
use Rattle.cs_lines.specs.Words.Edits.{EditWords}
use Rattle.cs_lines.specs.Lines.Line.{SetKind, RowKind, GoalWords, VerdictWords, Feasible, Infeasible, Large, Line}
use Rattle.cs_check.specs.Passing.Above.{is_set, has_sets, set_in, sets, row_in, rows, weigh_in, weighs, lexeme_in, lexemes, size_in, case_sizes, derivation_in, derivations, goal_in, goals_in, verdict_in, verdicts, base_in, base_goals}
use Rattle.cs_check.specs.Passing.Head.{AreClaimed, head_size, whole_head, tables}
use Rattle.cs_check.specs.Passing.Goals.{IsDue, AreFinished}
use Rattle.cs_check.specs.Passing.Entries.{IsNumbered, IsMeasured, measured, IsMetBy, IsShown, HasCase, IsBase, IsMade, IsExcluded, IsKeptApart}
use Rattle.cs_check.specs.Passing.Faults.{HasCases}
use Rattle.cs_check.proofs.OnChecking.Told.{base_kept}
use Rattle.cs_check.proofs.OnPassing.Excluding.{claimed_same}

-- a line tells what another tells
pub record TellSame (l k : Line) : Type 0 where
  pub some : is_set k ≡ is_set l
  pub sets : (kind : SetKind) → set_in kind k ≡ set_in kind l
  pub rows : (kind : RowKind) → row_in kind k ≡ row_in kind l
  pub weigh : weigh_in k ≡ weigh_in l
  pub lexeme : lexeme_in k ≡ lexeme_in l
  pub size : size_in k ≡ size_in l
  pub derivation : derivation_in k ≡ derivation_in l
  pub goal : goal_in k ≡ goal_in l
  pub verdict : verdict_in k ≡ verdict_in l
  pub base : base_in k ≡ base_in l

-- and lists of lines do
pub record AreAlike (above other : List Line) : Type 0 where
  pub some : has_sets other ≡ has_sets above
  pub sets : (kind : SetKind) → sets kind other ≡ sets kind above
  pub rows : (kind : RowKind) → rows kind other ≡ rows kind above
  pub weighs : weighs other ≡ weighs above
  pub lexemes : lexemes other ≡ lexemes above
  pub sizes : case_sizes other ≡ case_sizes above
  pub derivations : derivations other ≡ derivations above
  pub goals : goals_in other ≡ goals_in above
  pub verdicts : verdicts other ≡ verdicts above
  pub bases : base_goals other ≡ base_goals above

pub alike_none : AreAlike [] []
alike_none = record {
  some = refl;
  sets = λ kind. refl;
  rows = λ kind. refl;
  weighs = refl;
  lexemes = refl;
  sizes = refl;
  derivations = refl;
  goals = refl;
  verdicts = refl;
  bases = refl;
}

module _ {X : Type 0} (in_line : Line → Option X) (above other : List Line) (l k : Line) where
  pub told_more : filter_map in_line other ≡ filter_map in_line above → in_line k ≡ in_line l → filter_map in_line (other ++ k ∷ []) ≡ filter_map in_line (above ++ l ∷ [])
  told_more same e =
      filter_map-append in_line other (k ∷ [])
      ∙ ap (λ (s : List X). s ++ cons_option (in_line k) []) same
      ∙ ap (λ (o : Option X). filter_map in_line above ++ cons_option o []) e
      ∙ sym (filter_map-append in_line above (l ∷ []))

some_more : (above other : List Line) (l k : Line) → has_sets other ≡ has_sets above → is_set k ≡ is_set l → has_sets (other ++ k ∷ []) ≡ has_sets (above ++ l ∷ [])
some_more above other l k same e =
    list_any-append is_set other (k ∷ [])
    ∙ ap (λ (b : Bool). b || (is_set k || false)) same
    ∙ ap (λ (b : Bool). has_sets above || (b || false)) e
    ∙ sym (list_any-append is_set above (l ∷ []))

pub alike_more : (above other : List Line) (l k : Line) → AreAlike above other → TellSame l k → AreAlike (above ++ l ∷ []) (other ++ k ∷ [])
alike_more above other l k h t = record {
  some = some_more above other l k h.some t.some;
  sets = λ kind. told_more (set_in kind) above other l k (h.sets kind) (t.sets kind);
  rows = λ kind. told_more (row_in kind) above other l k (h.rows kind) (t.rows kind);
  weighs = told_more weigh_in above other l k h.weighs t.weigh;
  lexemes = told_more lexeme_in above other l k h.lexemes t.lexeme;
  sizes = told_more size_in above other l k h.sizes t.size;
  derivations = told_more derivation_in above other l k h.derivations t.derivation;
  goals = told_more goal_in above other l k h.goals t.goal;
  verdicts = told_more verdict_in above other l k h.verdicts t.verdict;
  bases = told_more base_in above other l k h.bases t.base;
}

pub same_tells : (l k : Line) → k ≡ l → TellSame l k
same_tells l k e = record {
  some = ap is_set e;
  sets = λ kind. ap (set_in kind) e;
  rows = λ kind. ap (row_in kind) e;
  weigh = ap weigh_in e;
  lexeme = ap lexeme_in e;
  size = ap size_in e;
  derivation = ap derivation_in e;
  goal = ap goal_in e;
  verdict = ap verdict_in e;
  base = ap base_in e;
}

-- ---- what is so below the ones is so below the others

module _ (above other : List Line) (h : AreAlike above other) where
  pub head_alike : (g : PlainGrammar) → head_size g other ≡ head_size g above
  head_alike g = ap (λ (b : Bool). if b then length (whole_head g) else length (tables g)) h.some

  pub measured_alike : (w : Measure) → IsMeasured above w → IsMeasured other w
  measured_alike w m = (
    m.0,
    subst (λ (s : List Weigh). IsNumbered s 1 m.0) (sym h.weighs) m.1,
    m.2 ∙ ap (measured m.0) (sym h.lexemes),
  )

  pub met_alike : (g : PlainGrammar) (goal : Goal) (case : ℕ) → IsMetBy g above goal case → IsMetBy g other goal case
  met_alike g goal case m = (m.0, subst (λ (s : List (List ℕ)). IsNumbered s case m.0) (sym h.derivations) m.1, m.2)

  pub shown_alike : (g : PlainGrammar) (goal : Goal) (size case first : ℕ) → IsShown g above goal size case first → IsShown g other goal size case first
  shown_alike g goal size case first s = record {
    sized = subst (λ (l : List ℕ). IsNumbered l case size) (sym h.sizes) s.sized;
    met = met_alike g goal case s.met;
    met_first = met_alike g goal first s.met_first;
  }

  pub cases_alike : (g : PlainGrammar) (verdict : VerdictWords) (goal : Goal) → HasCases g above verdict goal → HasCases g other verdict goal
  cases_alike g (Feasible size case first) goal s = shown_alike g goal size case first s
  cases_alike g Infeasible goal s = tt
  cases_alike g Large goal s = tt

  pub due_alike : (file : File) (words : GoalWords) (goal : Goal) → IsDue file (goals_in above) words goal → IsDue file (goals_in other) words goal
  due_alike file words goal d = subst (λ (s : List GoalWords). IsDue file s words goal) (sym h.goals) d

  pub finished_alike : (g : PlainGrammar) → AreFinished g (goals_in above) → AreFinished g (goals_in other)
  finished_alike g d = subst (AreFinished g) (sym h.goals) d

  pub case_alike : (goal case : ℕ) → HasCase above goal case → HasCase other goal case
  case_alike goal case k = (k.0, k.1, subst (λ (s : List VerdictWords). IsNumbered s goal (Feasible k.0 case k.1)) (sym h.verdicts) k.2)

  pub base_alike : (file : File) (tokens : List ℕ) → IsBase file.grammar above tokens → IsBase file.grammar other tokens
  base_alike file tokens b = base_kept file above other h.derivations h.verdicts h.bases tokens b

  pub made_alike : (file : File) (edit : EditWords) (tokens : List ℕ) → IsMade file above edit tokens → IsMade file other edit tokens
  made_alike file edit tokens m = (m.0, base_alike file m.0 m.1, m.2)

  pub claimed_alike : (file : File) (s : PlainSets) → AreClaimed file above s → AreClaimed file other s
  claimed_alike file s k = claimed_same file above other h.sets h.rows s k

  pub claimed_back : (file : File) (s : PlainSets) → AreClaimed file other s → AreClaimed file above s
  claimed_back file s k = claimed_same file other above (λ kind. sym (h.sets kind)) (λ kind. sym (h.rows kind)) s k

  pub excluded_alike : (file : File) (goal : Goal) → IsExcluded file above goal → IsExcluded file other goal
  excluded_alike file goal e = (h.some ∙ e.0, e.1, claimed_alike file e.1 e.2, e.3)

  pub apart_alike : (file : File) (marks : List Mark) (at : ℕ) (left right : List ℕ) → IsKeptApart file above marks at left right → IsKeptApart file other marks at left right
  apart_alike file marks at left right k = record {
    a = k.a;
    b = k.b;
    first = k.first;
    second = k.second;
    named = k.named;
    named_behind = k.named_behind;
    apart = excluded_alike file (Pair k.a k.b) k.apart;
  }
