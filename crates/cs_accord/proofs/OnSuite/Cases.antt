-- The lines of a case, and the line of a goal, lack each fault where they stand.
use Rattle.std.proofs.Common.{◌≡◌, ℕ, ◌+◌, List, [], ◌∷◌, ◌++◌, Some, map, length, refl, sym, ap, ◌∙◌, subst, arith}
use Rattle.std.specs.Prelude.{slice_get}
use Rattle.std.specs.List.{Contains}
use Rattle.cs_grammar.specs.declared.symbol.Symbol.TheVariants.{Nonterminal}
use Rattle.cs_grammar.specs.Grammar.{PlainGrammar}
use Rattle.cs_grammar.specs.Leftmost.{IsYield}
use Rattle.cs_grammar.specs.Tree.{Tree, IsTree}
use Rattle.cs_choices.specs.declared.weigh.Weigh.{Weigh}
use Rattle.cs_goals.specs.declared.goal.Goal.{Goal}
use Rattle.cs_goals.specs.Goal.{IsGoal}
use Rattle.cs_goals.specs.Meets.{IsMeeting, Meets}
use Rattle.cs_closed.proofs.OnClosed.Exact.{exact_exclude}
use Rattle.cs_texts.specs.Rendering.Rendering.{Rendering, Text, NoLexeme, Differs, IsRendered}
use Rattle.cs_lines.specs.Words.Names.{token_of}
use Rattle.cs_lines.specs.Lines.Line.{GoalWords, VerdictWords, Feasible, Infeasible, Large, Line, CaseLine, DeriveLine, TextLine, NoLexemeLine, NoScanLine, GoalLine}
use Rattle.cs_check.specs.Passing.Above.{derivations, goals_in}
use Rattle.cs_check.specs.Passing.Entries.{IsNumbered as IsEntry, IsCase, IsLast, IsMeasured, HasSize, IsShown, IsTold, AreTold as AreTokensTold, IsExcluded, measured}
use Rattle.cs_check.specs.Passing.Faults.{HasCases, HasExcluded}
use Rattle.cs_check.specs.Passing.Goals.{words_of, IsDue}
use Rattle.cs_check.specs.Passing.Places.{part_of, last_part, next_parts}
use Rattle.cs_check.proofs.OnChecking.Kinds.{right_case, right_derive, right_tokens, right_text, right_no_lexeme, right_no_scan, right_goal}
use Rattle.cs_accord.specs.Suite.{case_lines, text_line, tokens_line}
use Rattle.cs_accord.proofs.OnSuite.Above.{IsAbove, IsBehind, may_come, behind_line, behind_both}
use Rattle.cs_accord.proofs.OnSuite.Claims.{made, made_exact, made_claimed}
use Rattle.cs_accord.proofs.OnSuite.Setting.{Setting, IsSetting, by, told_measure}
use Rattle.cs_accord.proofs.OnSuite.Telling.{Content, of_case, of_derivation, of_tokens, of_text, of_goal, is_last}

module _ {s : Setting} {above : List Line} {c : Content} (a : IsAbove s above c) where
  is_measured : IsMeasured above (told_measure s)
  is_measured = (s.choice.weigh, (omega arith, ap (λ (l : List Weigh). slice_get l 0) a.below.weighed), ap (measured s.choice.weigh) (sym a.below.texts))

  -- the goal is excluded by the closed lines, where no tree meets it
  excluded : IsSetting s → (goal : Goal) → IsGoal s.file.grammar goal → ((t : Tree) → IsTree s.file.grammar (Nonterminal s.file.grammar.start) t → Meets goal t → ⊥) → IsExcluded s.file above goal
  excluded is goal is_goal none =
      let sets = made s.file is.named s.closed is.closed in (
        a.below.has,
        sets,
        made_claimed s.file is.named s.closed is.closed above a.below.told,
        exact_exclude s.file.grammar sets (made_exact s.file is.named s.closed is.closed) goal is_goal none,
      )

  -- what came of rendering tokens of which the line above tells
  module _ (shown : List Line) (is_text : part_of (last_part c.shown) (TextLine []) ≡ last_part shown) (follows : Contains (next_parts (last_part c.shown)) (part_of (last_part c.shown) (TextLine []))) (tokens : List ℕ) (are_told : AreTokensTold s.file above tokens) where
    pub text_fine : (rendered : Rendering) → IsRendered s.texts.scanning s.lexemes s.texts.separator tokens rendered → IsBehind s above (text_line s.file rendered ∷ []) (record c { shown = shown })
    text_fine (Text text) is = behind_line a (TextLine text) shown refl is_text (right_text (by s) above text (may_come a (TextLine text) follows tt) (tokens, are_told, is.1))
    text_fine (NoLexeme token) is =
        let name = token_of s.file token in behind_line a (NoLexemeLine name) shown refl is_text (right_no_lexeme (by s) above name (may_come a (NoLexemeLine name) follows tt))
    text_fine (Differs after) is = behind_line a (NoScanLine after) shown refl is_text (right_no_scan (by s) above after (may_come a (NoScanLine after) follows tt))

case_told : (lines : List Line) {g : PlainGrammar} {tokens : List ℕ} (codes : List (List ℕ)) (rules : List ℕ) → derivations lines ≡ codes ++ rules ∷ [] → IsYield g rules tokens → IsCase g lines tokens
case_told lines codes rules e yields = (rules, subst (λ (l : List (List ℕ)). IsLast l rules) (sym e) (is_last codes rules), yields)

-- ---- a case

-- a case: the size of its derivation, the tokens, and what came of their rendering
pub record Case : Type 0 where
  pub size : ℕ
  pub rules : List ℕ
  pub tokens : List ℕ
  pub rendered : Rendering

pub record IsCaseOf (s : Setting) (k : Case) : Type 0 where
  pub has : HasSize s.file.grammar (told_measure s) k.rules k.size
  pub yields : IsYield s.file.grammar k.rules k.tokens
  pub text : IsRendered s.texts.scanning s.lexemes s.texts.separator k.tokens k.rendered

abbrev pub with_case : Content → Case → Content
with_case c k = record c { shown = of_text; sizes = c.sizes ++ k.size ∷ []; codes = c.codes ++ k.rules ∷ [] }

module _ {s : Setting} {above : List Line} {c : Content} (a : IsAbove s above c) where
  pub case_fine : (number : ℕ) (k : Case) → Contains (next_parts (last_part c.shown)) (last_part of_case) → number ≡ length c.sizes + 1 → IsCaseOf s k
      → IsBehind s above (case_lines s.file number k.size k.rules k.tokens (Some k.rendered)) (with_case c k)
  case_fine number k follows numbered is =
      let first : Line = CaseLine number k.size in
      let second : Line = DeriveLine k.rules in
      let third = tokens_line s.file k.tokens in
      let last = text_line s.file k.rendered in
      let one = above ++ first ∷ [] in
      let two = one ++ second ∷ [] in
      let three = two ++ third ∷ [] in
      let b1 = behind_line a first of_case refl refl (right_case (by s) above number k.size (may_come a first follows (numbered ∙ ap (λ (l : List ℕ). length l + 1) (sym a.told.sizes_are)))) in
      let t1 = b1.told.told in
      let b2 = behind_line b1.told second of_derivation refl refl
      (right_derive (by s) one k.rules (may_come b1.told second (0, omega arith, refl) tt) (is.has.tree, is.has.is_tree, is.has.code)
      (told_measure s, k.size, is_measured b1.told, subst (λ (l : List ℕ). IsLast l k.size) (sym t1.sizes_are) (is_last c.sizes k.size), is.has)) in
      let t2 = b2.told.told in
      let told_two : AreTokensTold s.file two k.tokens = subst (λ q. IsTold s.file two q k.tokens) (sym t2.part_is) (case_told two c.codes k.rules t2.codes_are is.yields) in
      let b3 = behind_line b2.told third of_tokens refl refl (right_tokens (by s) two (map (token_of s.file) k.tokens) (may_come b2.told third (0, omega arith, refl) tt) (k.tokens, told_two, refl)) in
      let t3 = b3.told.told in
      let told_three : AreTokensTold s.file three k.tokens = subst (λ q. IsTold s.file three q k.tokens) (sym t3.part_is) (case_told three c.codes k.rules t3.codes_are is.yields) in
      let b4 = text_fine b3.told of_text refl (0, omega arith, refl) k.tokens told_three k.rendered is.text in
      behind_both (first ∷ []) (second ∷ third ∷ last ∷ []) b1 (behind_both (second ∷ []) (third ∷ last ∷ []) b2 (behind_both (third ∷ []) (last ∷ []) b3 b4))

-- ---- a goal

-- the goal may come, and is due
pub record IsNext (s : Setting) (c : Content) (goal : Goal) : Type 0 where
  pub follows : Contains (next_parts (last_part c.shown)) (last_part of_goal)
  pub due : IsDue s.file c.goals (words_of s.file goal) goal

-- the case has the size, and it and the first meet the goal
pub record AreMeeting (g : PlainGrammar) (c : Content) (goal : Goal) (size case first : ℕ) : Type 0 where
  pub sized : IsEntry c.sizes case size
  pub met : (rules : List ℕ) × IsEntry c.codes case rules × IsMeeting g goal rules
  pub met_first : (rules : List ℕ) × IsEntry c.codes first rules × IsMeeting g goal rules

abbrev pub with_goal : Content → GoalWords → VerdictWords → Content
with_goal c goal verdict = record c { shown = of_goal; goals = c.goals ++ goal ∷ []; words = c.words ++ verdict ∷ [] }

module _ {s : Setting} {above : List Line} {c : Content} (a : IsAbove s above c) {goal : Goal} (next : IsNext s c goal) where
  abbrev At : VerdictWords → Line
  At verdict = GoalLine (length c.goals + 1) (words_of s.file goal) verdict

  goal_due : IsDue s.file (goals_in above) (words_of s.file goal) goal
  goal_due = subst (λ (l : List GoalWords). IsDue s.file l (words_of s.file goal) goal) (sym a.told.goals_are) next.due

  goal_fine : (verdict : VerdictWords) → HasCases s.file.grammar above verdict goal → HasExcluded s.file above (At verdict) → IsBehind s above (At verdict ∷ []) (with_goal c (words_of s.file goal) verdict)
  goal_fine verdict has none =
      behind_line a (At verdict) of_goal refl refl
      (right_goal (by s) above (length c.goals + 1) (words_of s.file goal) verdict (may_come a (At verdict) next.follows (ap (λ (l : List GoalWords). length l + 1) (sym a.told.goals_are)))
      (goal, goal_due, has) none)

  pub feasible_fine : (size case first : ℕ) → AreMeeting s.file.grammar c goal size case first → IsBehind s above (At (Feasible size case first) ∷ []) (with_goal c (words_of s.file goal) (Feasible size case first))
  feasible_fine size case first are =
      let shown : IsShown s.file.grammar above goal size case first = record {
        sized = subst (λ (l : List ℕ). IsEntry l case size) (sym a.told.sizes_are) are.sized;
        met = (are.met.0, subst (λ (l : List (List ℕ)). IsEntry l case are.met.0) (sym a.told.codes_are) are.met.1, are.met.2);
        met_first = (are.met_first.0, subst (λ (l : List (List ℕ)). IsEntry l first are.met_first.0) (sym a.told.codes_are) are.met_first.1, are.met_first.2);
      } in
      goal_fine (Feasible size case first) shown tt

  pub infeasible_fine : IsSetting s → IsGoal s.file.grammar goal → ((t : Tree) → IsTree s.file.grammar (Nonterminal s.file.grammar.start) t → Meets goal t → ⊥)
      → IsBehind s above (At Infeasible ∷ []) (with_goal c (words_of s.file goal) Infeasible)
  infeasible_fine is is_goal none = goal_fine Infeasible tt (goal, goal_due, excluded a is goal is_goal none)

  pub large_fine : IsBehind s above (At Large ∷ []) (with_goal c (words_of s.file goal) Large)
  large_fine = goal_fine Large tt tt
