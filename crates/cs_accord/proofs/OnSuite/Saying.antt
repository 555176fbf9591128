-- What stands in a manifest are lines: each piece is the line that says it.
use Rattle.std.proofs.Common.{◌≡◌, ℕ, suc, ◌+◌, List, [], ◌∷◌, ◌++◌, Option, None, Some, map, refl, sym, ap, ◌∙◌, subst, append_assoc, append-nil, arith}
use Rattle.std.specs.Prelude.{codes, decimal, slice_get}
use Rattle.std.specs.List.{AllByRecursion}
use Rattle.cs_grammar.specs.declared.symbol.Mark.{Mark}
use Rattle.cs_grammar.specs.Grammar.{Production}
use Rattle.cs_choices.specs.declared.weigh.Weigh.{Weigh}
use Rattle.cs_choices.specs.declared.weigh.Weigh.TheVariants.{Nodes, Bytes}
use Rattle.cs_goals.specs.declared.goal.Goal.{Goal}
use Rattle.cs_goals.specs.declared.goal.Goal.TheVariants.{Rule, Context, Pair}
use Rattle.cs_mutate.specs.declared.edit.Edit.{Edit}
use Rattle.cs_mutate.specs.declared.edit.Edit.TheVariants.{Delete, Insert, Replace, Swap}
use Rattle.cs_mutate.specs.declared.negative.Negative.{Negative}
use Rattle.cs_texts.specs.Rendering.Rendering.{Rendering, Text, NoLexeme, Differs}
use Rattle.cs_yacc.specs.declared.reading.name.TokenName.{TokenName}
use Rattle.cs_yacc.specs.Reading.File.{File}
use Rattle.cs_manifest.specs.Output.Words.{spaced, numbered_from, numbered_word}
use Rattle.cs_manifest.specs.declared.manifest.verdict.SharedVerdict.{SharedVerdict}
use Rattle.cs_manifest.specs.declared.manifest.verdict.SharedVerdict.TheVariants as shared
use Rattle.cs_manifest.specs.Manifest.Lines as put
use Rattle.cs_manifest.specs.Manifest.SharedLines as put_shared
use Rattle.cs_lines.specs.Words.Names.{token_text, token_of, nonterminal_of, symbol_text, mark_text}
use Rattle.cs_lines.specs.Words.Words.{line, numeral}
use Rattle.cs_lines.specs.Lines.Line.{Productive, Reachable, Empty, First, Last, Counts, Line, Weighing, TokenLine, LexemeLine, SetLine, RowLine, CaseLine, DeriveLine, GoalLine, BaseLine, EndLine}
use Rattle.cs_lines.specs.Lines.Texts.{joined, goal_words, verdict_words, edit_words}
use Rattle.cs_check.specs.Passing.Head.{rule_of}
use Rattle.cs_check.specs.Passing.Goals.{words_of}
use Rattle.cs_accord.specs.Suite.{numbered, next_line, text_line, text_lines, tokens_line, case_lines, verdict_of, edit_of, negative_line}
use Rattle.cs_accord.proofs.OnSuite.Digits.{IsSmall, digits_are, spaced_digits}
use Rattle.cs_accord.proofs.OnSuite.Inner.{text_of, told, IsSayable, AreSayable}

-- ---- bytes and lines

-- the bytes are these lines, which may be said
pub record Writes (bytes : List ℕ) (lines : List Line) : Type 0 where
  pub is : bytes ≡ told lines
  pub are : AreSayable lines

told_both : (xs ys : List Line) → told (xs ++ ys) ≡ told xs ++ told ys
told_both [] ys = refl
told_both (x ∷ xs) ys = ap (λ (l : List ℕ). text_of x ++ l) (told_both xs ys) ∙ sym (append_assoc (text_of x) (told xs) (told ys))

sayable_both : (xs ys : List Line) → AreSayable xs → AreSayable ys → AreSayable (xs ++ ys)
sayable_both [] ys h k = k
sayable_both (x ∷ xs) ys h k = (h.0, sayable_both xs ys h.1 k)

pub writes_none : Writes [] []
writes_none = record { is = refl; are = tt }

pub writes_one : (bytes : List ℕ) (l : Line) → bytes ≡ text_of l → IsSayable l → Writes bytes (l ∷ [])
writes_one bytes l is sayable = record { is = is ∙ sym (append-nil (text_of l)); are = (sayable, tt) }

pub writes_both : (first second : List ℕ) (xs ys : List Line) → Writes first xs → Writes second ys → Writes (first ++ second) (xs ++ ys)
writes_both first second xs ys h k = record {
  is = ap (λ (l : List ℕ). l ++ second) h.is ∙ ap (λ (l : List ℕ). told xs ++ l) k.is ∙ sym (told_both xs ys);
  are = sayable_both xs ys h.are k.are;
}

pub writes_more : (first second : List ℕ) (l : Line) (ls : List Line) → first ≡ text_of l → IsSayable l → Writes second ls → Writes (first ++ second) (l ∷ ls)
writes_more first second l ls is sayable k = writes_both first second (l ∷ []) ls (writes_one first l is sayable) k

pub writes_as : (bytes other : List ℕ) (lines : List Line) → bytes ≡ other → Writes other lines → Writes bytes lines
writes_as bytes other lines e h = record { is = e ∙ h.is; are = h.are }

-- of each member
module _ {A : Type 0} (f : ℕ → A → List ℕ) (h : ℕ → A → List Line) where
  pub writes_each : (n : ℕ) (xs : List A) → ((i : ℕ) (x : A) → slice_get xs i ≡ Some x → Writes (f (n + i) x) (h (n + i) x)) → Writes (numbered_from n f xs) (numbered n h xs)
  writes_each n [] each = writes_none
  writes_each n (x ∷ xs) each =
      let here : n + 0 ≡ n = omega arith in
      writes_both (f n x) (numbered_from (n + 1) f xs) (h n x) (numbered (n + 1) h xs)
      (subst (λ k. Writes (f k x) (h k x)) here (each 0 x refl))
      (writes_each (n + 1) xs (λ i y at. let next : n + suc i ≡ n + 1 + i = omega arith in subst (λ k. Writes (f k y) (h k y)) next (each (suc i) y at)))

-- ---- words with a space between any two

joined_spaced : {A : Type 0} (w : List ℕ) (f : A → List ℕ) (xs : List A) → joined (w ∷ map f xs) ≡ w ++ spaced f xs
joined_spaced w f [] = sym (append-nil w)
joined_spaced w f (x ∷ xs) = ap (λ (l : List ℕ). w ++ 32 ∷ l) (joined_spaced (f x) f xs)

flat3 : (a b c : List ℕ) → (a ++ b) ++ c ≡ a ++ (b ++ c)
flat3 a b c = append_assoc a b c

flat4 : (a b c d : List ℕ) → ((a ++ b) ++ c) ++ d ≡ a ++ (b ++ (c ++ d))
flat4 a b c d = simp (append_assoc) refl

flat7 : (a b c d e f h : List ℕ) → (((((a ++ b) ++ c) ++ d) ++ e) ++ f) ++ h ≡ a ++ (b ++ (c ++ (d ++ (e ++ (f ++ h)))))
flat7 a b c d e f h = simp (append_assoc) refl

-- ---- the head

pub says_weigh : (weigh : Weigh) → put_shared.weigh_line weigh ≡ text_of (Weighing weigh)
says_weigh Nodes = refl
says_weigh Bytes = refl

pub says_token : (n : ℕ) (name : TokenName) → IsSmall n → put.token_line n name ≡ text_of (TokenLine n (token_text name))
says_token n name small = ap (λ (d : List ℕ). line (codes "token " ++ d ++ 32 ∷ token_text name)) (digits_are n small)

pub says_rule : (file : File) (n : ℕ) (p : Production) → IsSmall n → put.rule_line file n p ≡ text_of (rule_of file n p)
says_rule file n p small =
    let left = nonterminal_of file p.left in
    let right = put.symbol_words file p.right in
    ap (λ (d : List ℕ). line (codes "rule " ++ d ++ 32 ∷ left ++ codes " :" ++ right)) (digits_are n small)
    ∙ ap (λ (l : List ℕ). line (codes "rule " ++ l)) (flat4 (numeral n) (32 ∷ left) (codes " :") right)
    ∙ ap (λ (l : List ℕ). line (codes "rule " ++ (numeral n ++ 32 ∷ (left ++ 32 ∷ l)))) (sym (joined_spaced (codes ":") (symbol_text file) p.right))

pub says_lexeme : (name : TokenName) (text : Option (List ℕ)) → line (codes "lexeme " ++ token_text name ++ 32 ∷ put.lexeme_text text) ≡ text_of (LexemeLine (token_text name) text)
says_lexeme name None = refl
says_lexeme name (Some text) = refl

pub says_productive : (file : File) (set : List ℕ) → put_shared.set_line (codes "closed productive") file set ≡ text_of (SetLine Productive (map (nonterminal_of file) set))
says_productive file set = ap (λ (l : List ℕ). line (codes "closed " ++ l)) (sym (joined_spaced (codes "productive") (nonterminal_of file) set))

pub says_reachable : (file : File) (set : List ℕ) → put_shared.set_line (codes "closed reachable") file set ≡ text_of (SetLine Reachable (map (nonterminal_of file) set))
says_reachable file set = ap (λ (l : List ℕ). line (codes "closed " ++ l)) (sym (joined_spaced (codes "reachable") (nonterminal_of file) set))

pub says_empty : (file : File) (set : List ℕ) → put_shared.set_line (codes "closed empty") file set ≡ text_of (SetLine Empty (map (nonterminal_of file) set))
says_empty file set = ap (λ (l : List ℕ). line (codes "closed " ++ l)) (sym (joined_spaced (codes "empty") (nonterminal_of file) set))

-- what stands behind a name and a colon
behind_colon : {A : Type 0} (front name : List ℕ) (f : A → List ℕ) (xs : List A) → line (front ++ (name ++ codes " :" ++ spaced f xs)) ≡ line (front ++ (name ++ 32 ∷ joined (codes ":" ∷ map f xs)))
behind_colon front name f xs =
    ap (λ (l : List ℕ). line (front ++ l)) (flat3 name (codes " :") (spaced f xs))
    ∙ ap (λ (l : List ℕ). line (front ++ (name ++ 32 ∷ l))) (sym (joined_spaced (codes ":") f xs))

pub says_first : (file : File) (n : ℕ) (set : List ℕ) → put_shared.edge_line (codes "closed first ") file n set ≡ text_of (RowLine First (nonterminal_of file n) (map (token_of file) set))
says_first file n set = behind_colon (codes "closed first ") (nonterminal_of file n) (token_of file) set

pub says_last : (file : File) (n : ℕ) (set : List ℕ) → put_shared.edge_line (codes "closed last ") file n set ≡ text_of (RowLine Last (nonterminal_of file n) (map (token_of file) set))
says_last file n set = behind_colon (codes "closed last ") (nonterminal_of file n) (token_of file) set

pub says_next : (file : File) (mark : Mark) (behind : List Mark) → put_shared.next_line file mark behind ≡ text_of (next_line file mark behind)
says_next file mark behind = behind_colon (codes "closed next ") (mark_text file mark) (mark_text file) behind

-- ---- cases

abbrev pub IsSmallRendering : Option Rendering → Type 0
IsSmallRendering None = Unit {0}
IsSmallRendering (Some (Text text)) = Unit {0}
IsSmallRendering (Some (NoLexeme token)) = Unit {0}
IsSmallRendering (Some (Differs after)) = IsSmall after

pub says_text : (file : File) (rendered : Rendering) → IsSmallRendering (Some rendered) → put.text_line file rendered ≡ text_of (text_line file rendered)
says_text file (Text text) small = refl
says_text file (NoLexeme token) small = refl
says_text file (Differs after) small = ap (λ (d : List ℕ). line (codes "  no text scan " ++ d)) (digits_are after small)

says_derivation : (rules : List ℕ) → AllByRecursion IsSmall rules → put.derive_line rules ≡ text_of (DeriveLine rules)
says_derivation rules small =
    ap (λ (l : List ℕ). line (codes "  derive" ++ l)) (spaced_digits rules small)
    ∙ ap (λ (l : List ℕ). line (32 ∷ 32 ∷ l)) (sym (joined_spaced (codes "derive") numeral rules))

pub says_tokens : (file : File) (tokens : List ℕ) → put.tokens_line file tokens ≡ text_of (tokens_line file tokens)
says_tokens file tokens = ap (λ (l : List ℕ). line (32 ∷ 32 ∷ l)) (sym (joined_spaced (codes "tokens") (token_of file) tokens))

says_case : (n size : ℕ) → IsSmall n → IsSmall size → numbered_word (codes "case ") n ++ put.size_words size ≡ text_of (CaseLine n size)
says_case n size small fits =
    ap (λ (d : List ℕ). (codes "case " ++ d) ++ put.size_words size) (digits_are n small)
    ∙ ap (λ (d : List ℕ). codes "case " ++ (numeral n ++ line (codes " size " ++ d))) (digits_are size fits)
    ∙ ap (λ (l : List ℕ). codes "case " ++ l) (sym (flat3 (numeral n) (codes " size " ++ numeral size) (10 ∷ [])))

-- the numbers of a case are told by at most 64 bits
pub record IsSmallCase (n size : ℕ) (rules : List ℕ) (rendered : Option Rendering) : Type 0 where
  pub number : IsSmall n
  pub fits : IsSmall size
  pub few : AllByRecursion IsSmall rules
  pub text : IsSmallRendering rendered

rearranged : (c s d t x : List ℕ) → (c ++ ((s ++ d) ++ t)) ++ x ≡ (c ++ s) ++ (d ++ (t ++ x))
rearranged c s d t x = simp (append_assoc) refl

module _ (file : File) where
  pub writes_texts : (rendered : Option Rendering) → IsSmallRendering rendered → AreSayable (text_lines file rendered) → Writes (put.text_lines file rendered) (text_lines file rendered)
  writes_texts None small sayable = writes_none
  writes_texts (Some rendered) small sayable = writes_one (put.text_line file rendered) (text_line file rendered) (says_text file rendered small) sayable.0

  pub writes_case : (n size : ℕ) (rules tokens : List ℕ) (rendered : Option Rendering) → IsSmallCase n size rules rendered → AreSayable (case_lines file n size rules tokens rendered)
      → Writes (put_shared.case_lines file n size rules tokens rendered) (case_lines file n size rules tokens rendered)
  writes_case n size rules tokens rendered small sayable =
      writes_as (put_shared.case_lines file n size rules tokens rendered) _ (case_lines file n size rules tokens rendered)
      (rearranged (numbered_word (codes "case ") n) (put.size_words size) (put.derive_line rules) (put.tokens_line file tokens) (put.text_lines file rendered))
      (writes_more (numbered_word (codes "case ") n ++ put.size_words size) _ (CaseLine n size) _ (says_case n size small.number small.fits) sayable.0
      (writes_more (put.derive_line rules) _ (DeriveLine rules) _ (says_derivation rules small.few) sayable.1.0
      (writes_more (put.tokens_line file tokens) _ (tokens_line file tokens) _ (says_tokens file tokens) sayable.1.1.0
      (writes_texts rendered small.text sayable.1.1.1))))

  -- ---- goals

  abbrev pub IsSmallGoal : Goal → Type 0
  IsSmallGoal (Rule r) = IsSmall r
  IsSmallGoal (Context p i q) = IsSmall p × IsSmall i × IsSmall q
  IsSmallGoal (Pair a b) = Unit {0}

  abbrev pub IsSmallVerdict : SharedVerdict → Type 0
  IsSmallVerdict (shared.Feasible size named) = IsSmall size × IsSmall named.case × IsSmall named.first
  IsSmallVerdict shared.Infeasible = Unit {0}
  IsSmallVerdict shared.Large = Unit {0}

  goal_joined : (goal : Goal) (o : List ℕ) (os : List (List ℕ)) → IsSmallGoal goal → joined (goal_words (words_of file goal) (o ∷ os)) ≡ put.goal_text file goal ++ 32 ∷ joined (o ∷ os)
  goal_joined (Rule r) o os small = ap (λ (d : List ℕ). codes "rule " ++ (d ++ 32 ∷ joined (o ∷ os))) (sym (digits_are r small))
  goal_joined (Context p i q) o os small =
      ap (λ (d : List ℕ). codes "context " ++ (d ++ 32 ∷ (numeral i ++ 32 ∷ (numeral q ++ 32 ∷ joined (o ∷ os))))) (sym (digits_are p small.0))
      ∙ ap (λ (d : List ℕ). codes "context " ++ (decimal p ++ 32 ∷ (d ++ 32 ∷ (numeral q ++ 32 ∷ joined (o ∷ os))))) (sym (digits_are i small.1))
      ∙ ap (λ (d : List ℕ). codes "context " ++ (decimal p ++ 32 ∷ (decimal i ++ 32 ∷ (d ++ 32 ∷ joined (o ∷ os))))) (sym (digits_are q small.2))
      ∙ ap (λ (l : List ℕ). codes "context " ++ l) (sym (flat4 (decimal p) (codes " " ++ decimal i) (codes " " ++ decimal q) (32 ∷ joined (o ∷ os))))
  goal_joined (Pair a b) o os small = ap (λ (l : List ℕ). codes "pair " ++ l) (sym (flat3 (mark_text file a) (32 ∷ mark_text file b) (32 ∷ joined (o ∷ os))))

  verdict_joined : (verdict : SharedVerdict) → IsSmallVerdict verdict → put_shared.shared_verdict_line verdict ≡ line (32 ∷ joined (verdict_words (verdict_of verdict)))
  verdict_joined (shared.Feasible size named) small =
      ap (λ (d : List ℕ). line ((codes " size " ++ d) ++ (codes " case " ++ decimal named.case) ++ (codes " first " ++ decimal named.first))) (digits_are size small.0)
      ∙ ap (λ (d : List ℕ). line ((codes " size " ++ numeral size) ++ (codes " case " ++ d) ++ (codes " first " ++ decimal named.first))) (digits_are named.case small.1)
      ∙ ap (λ (d : List ℕ). line ((codes " size " ++ numeral size) ++ (codes " case " ++ numeral named.case) ++ (codes " first " ++ d))) (digits_are named.first small.2)
      ∙ ap (λ (l : List ℕ). line (codes " size " ++ l)) (flat3 (numeral size) (codes " case " ++ numeral named.case) (codes " first " ++ numeral named.first))
  verdict_joined shared.Infeasible small = refl
  verdict_joined shared.Large small = refl

  -- a verdict has words
  with_words : (goal : Goal) (verdict : SharedVerdict) → IsSmallGoal goal → joined (goal_words (words_of file goal) (verdict_words (verdict_of verdict))) ≡ put.goal_text file goal ++ 32 ∷ joined (verdict_words (verdict_of verdict))
  with_words goal (shared.Feasible size named) small = goal_joined goal _ _ small
  with_words goal shared.Infeasible small = goal_joined goal _ _ small
  with_words goal shared.Large small = goal_joined goal _ _ small

  behind_number : (word : List ℕ) (goal : Goal) (others : List (List ℕ)) → joined (word ∷ goal_words (words_of file goal) others) ≡ word ++ 32 ∷ joined (goal_words (words_of file goal) others)
  behind_number word (Rule r) others = refl
  behind_number word (Context p i q) others = refl
  behind_number word (Pair a b) others = refl

  pub says_goal : (n : ℕ) (goal : Goal) (verdict : SharedVerdict) → IsSmall n → IsSmallGoal goal → IsSmallVerdict verdict
      → put_shared.shared_goal_line file n goal verdict ≡ text_of (GoalLine n (words_of file goal) (verdict_of verdict))
  says_goal n goal verdict small fits few =
      let text = put.goal_text file goal in
      let behind = joined (verdict_words (verdict_of verdict)) in
      ap (λ (l : List ℕ). put.goal_words file n goal ++ l) (verdict_joined verdict few)
      ∙ ap (λ (d : List ℕ). (codes "goal " ++ d ++ 32 ∷ text) ++ line (32 ∷ behind)) (digits_are n small)
      ∙ ap (λ (l : List ℕ). codes "goal " ++ l) (flat3 (numeral n) (32 ∷ text) (line (32 ∷ behind)))
      ∙ ap (λ (l : List ℕ). codes "goal " ++ (numeral n ++ 32 ∷ l)) (sym (flat3 text (32 ∷ behind) (10 ∷ [])))
      ∙ ap (λ (l : List ℕ). codes "goal " ++ l) (sym (flat3 (numeral n) (32 ∷ (text ++ 32 ∷ behind)) (10 ∷ [])))
      ∙ ap (λ (l : List ℕ). line (codes "goal " ++ (numeral n ++ 32 ∷ l))) (sym (with_words goal verdict fits))
      ∙ ap (λ (l : List ℕ). line (codes "goal " ++ l)) (sym (behind_number (numeral n) goal (verdict_words (verdict_of verdict))))

  -- ---- bases and negatives

  pub says_base : (n goal : ℕ) → IsSmall n → IsSmall goal → put.base_line n goal ≡ text_of (BaseLine n goal)
  says_base n goal small fits =
      ap (λ (d : List ℕ). line ((codes "base " ++ d) ++ (codes " goal " ++ decimal goal))) (digits_are n small)
      ∙ ap (λ (d : List ℕ). line ((codes "base " ++ numeral n) ++ (codes " goal " ++ d))) (digits_are goal fits)

  abbrev pub IsSmallEdit : Edit → Type 0
  IsSmallEdit (Delete i) = IsSmall i
  IsSmallEdit (Insert i t) = IsSmall i
  IsSmallEdit (Replace i t) = IsSmall i
  IsSmallEdit (Swap i) = IsSmall i

  edit_joined : (word : List ℕ) (edit : Edit) (o : List ℕ) (os : List (List ℕ)) → IsSmallEdit edit → joined (word ∷ edit_words (edit_of file edit) (o ∷ os)) ≡ word ++ 32 ∷ (put.edit_text file edit ++ 32 ∷ joined (o ∷ os))
  edit_joined word (Delete i) o os small = ap (λ (d : List ℕ). word ++ 32 ∷ (codes "delete " ++ (d ++ 32 ∷ joined (o ∷ os)))) (sym (digits_are i small))
  edit_joined word (Insert i t) o os small =
      ap (λ (d : List ℕ). word ++ 32 ∷ (codes "insert " ++ (d ++ 32 ∷ (token_of file t ++ 32 ∷ joined (o ∷ os))))) (sym (digits_are i small))
      ∙ ap (λ (l : List ℕ). word ++ 32 ∷ (codes "insert " ++ l)) (sym (flat3 (decimal i) (32 ∷ token_of file t) (32 ∷ joined (o ∷ os))))
  edit_joined word (Replace i t) o os small =
      ap (λ (d : List ℕ). word ++ 32 ∷ (codes "replace " ++ (d ++ 32 ∷ (token_of file t ++ 32 ∷ joined (o ∷ os))))) (sym (digits_are i small))
      ∙ ap (λ (l : List ℕ). word ++ 32 ∷ (codes "replace " ++ l)) (sym (flat3 (decimal i) (32 ∷ token_of file t) (32 ∷ joined (o ∷ os))))
  edit_joined word (Swap i) o os small = ap (λ (d : List ℕ). word ++ 32 ∷ (codes "swap " ++ (d ++ 32 ∷ joined (o ∷ os)))) (sym (digits_are i small))

  -- the words of the pair and its place
  abbrev pair_words : Negative → List (List ℕ)
  pair_words n = codes "pair" ∷ mark_text file n.left ∷ mark_text file n.right ∷ codes "at" ∷ numeral n.at ∷ []

  at_words : (n : Negative) → IsSmall n.at → put.pair_words file n.left n.right ++ numbered_word (codes " at ") n.at ≡ joined (pair_words n)
  at_words n small =
      ap (λ (d : List ℕ). put.pair_words file n.left n.right ++ (codes " at " ++ d)) (digits_are n.at small)
      ∙ ap (λ (l : List ℕ). codes "pair " ++ l) (flat3 (mark_text file n.left) (32 ∷ mark_text file n.right) (codes " at " ++ numeral n.at))

  fault_is : (e p a : List ℕ) → 32 ∷ e ++ 32 ∷ p ++ a ≡ 32 ∷ (e ++ 32 ∷ (p ++ a))
  fault_is e p a = ap (λ (l : List ℕ). 32 ∷ l) (flat3 e (32 ∷ p) a)

  pub says_negative : (number base : ℕ) (n : Negative) → IsSmall number → IsSmall base → IsSmallEdit n.edit → IsSmall n.at
      → put.base_words number base ++ put.fault_line file n ≡ text_of (negative_line file number base n)
  says_negative number base n small fits few low =
      let edit = put.edit_text file n.edit in
      let pair = joined (pair_words n) in
      ap (λ (d : List ℕ). ((codes "negative " ++ d) ++ (codes " base " ++ decimal base)) ++ put.fault_line file n) (digits_are number small)
      ∙ ap (λ (d : List ℕ). ((codes "negative " ++ numeral number) ++ (codes " base " ++ d)) ++ put.fault_line file n) (digits_are base fits)
      ∙ ap (λ (l : List ℕ). ((codes "negative " ++ numeral number) ++ (codes " base " ++ numeral base)) ++ line l)
      (fault_is edit (put.pair_words file n.left n.right) (numbered_word (codes " at ") n.at) ∙ ap (λ (l : List ℕ). 32 ∷ (edit ++ 32 ∷ l)) (at_words n low))
      ∙ ap (λ (l : List ℕ). codes "negative " ++ l) (flat3 (numeral number) (codes " base " ++ numeral base) (line (32 ∷ (edit ++ 32 ∷ pair))))
      ∙ ap (λ (l : List ℕ). codes "negative " ++ (numeral number ++ (codes " base " ++ l))) (sym (flat3 (numeral base) (32 ∷ (edit ++ 32 ∷ pair)) (10 ∷ [])))
      ∙ ap (λ (l : List ℕ). codes "negative " ++ l) (sym (flat3 (numeral number) (codes " base " ++ (numeral base ++ 32 ∷ (edit ++ 32 ∷ pair))) (10 ∷ [])))
      ∙ ap (λ (l : List ℕ). line (codes "negative " ++ (numeral number ++ (codes " base " ++ l)))) (sym (edit_joined (numeral base) n.edit _ _ few))

-- ---- the end

abbrev pub AreSmallCounts : Counts → Type 0
AreSmallCounts c = IsSmall c.goals × IsSmall c.feasible × IsSmall c.infeasible × IsSmall c.large × IsSmall c.negatives × IsSmall c.cases

pub says_end : (c : Counts) → AreSmallCounts c → put.end_words c.goals c.feasible c.infeasible c.large c.negatives (Some c.cases) ≡ text_of (EndLine c)
says_end c small =
    let words = λ (g f i l n k : List ℕ). line ((codes "end goals " ++ g) ++ (codes " feasible " ++ f) ++ (codes " infeasible " ++ i) ++ (codes " large " ++ l) ++ (codes " negatives " ++ n) ++ (codes " cases " ++ k)) in
    ap (λ (d : List ℕ). words d (decimal c.feasible) (decimal c.infeasible) (decimal c.large) (decimal c.negatives) (decimal c.cases)) (digits_are c.goals small.0)
    ∙ ap (λ (d : List ℕ). words (numeral c.goals) d (decimal c.infeasible) (decimal c.large) (decimal c.negatives) (decimal c.cases)) (digits_are c.feasible small.1)
    ∙ ap (λ (d : List ℕ). words (numeral c.goals) (numeral c.feasible) d (decimal c.large) (decimal c.negatives) (decimal c.cases)) (digits_are c.infeasible small.2)
    ∙ ap (λ (d : List ℕ). words (numeral c.goals) (numeral c.feasible) (numeral c.infeasible) d (decimal c.negatives) (decimal c.cases)) (digits_are c.large small.3)
    ∙ ap (λ (d : List ℕ). words (numeral c.goals) (numeral c.feasible) (numeral c.infeasible) (numeral c.large) d (decimal c.cases)) (digits_are c.negatives small.4)
    ∙ ap (λ (d : List ℕ). words (numeral c.goals) (numeral c.feasible) (numeral c.infeasible) (numeral c.large) (numeral c.negatives) d) (digits_are c.cases small.5)
    ∙ ap (λ (l : List ℕ). codes "end goals " ++ l)
    (flat7 (numeral c.goals) (codes " feasible " ++ numeral c.feasible) (codes " infeasible " ++ numeral c.infeasible) (codes " large " ++ numeral c.large) (codes " negatives " ++ numeral c.negatives) (codes " cases " ++ numeral c.cases) (10 ∷ []))
    ∙ sym (ap (λ (l : List ℕ). codes "end goals " ++ l) (end_flat (numeral c.goals) (numeral c.feasible) (numeral c.infeasible) (numeral c.large) (numeral c.negatives) (numeral c.cases)))
  where
    end_flat : (g f i l n k : List ℕ) → (g ++ (codes " feasible " ++ (f ++ (codes " infeasible " ++ (i ++ (codes " large " ++ (l ++ (codes " negatives " ++ (n ++ (codes " cases " ++ k)))))))))) ++ 10 ∷ []
        ≡ g ++ ((codes " feasible " ++ f) ++ ((codes " infeasible " ++ i) ++ ((codes " large " ++ l) ++ ((codes " negatives " ++ n) ++ ((codes " cases " ++ k) ++ 10 ∷ [])))))
    end_flat g f i l n k =
        flat3 g (codes " feasible " ++ (f ++ (codes " infeasible " ++ (i ++ (codes " large " ++ (l ++ (codes " negatives " ++ (n ++ (codes " cases " ++ k))))))))) (10 ∷ [])
        ∙ ap (λ (x : List ℕ). g ++ (codes " feasible " ++ x)) (flat3 f (codes " infeasible " ++ (i ++ (codes " large " ++ (l ++ (codes " negatives " ++ (n ++ (codes " cases " ++ k))))))) (10 ∷ [])
        ∙ ap (λ (x : List ℕ). f ++ (codes " infeasible " ++ x)) (flat3 i (codes " large " ++ (l ++ (codes " negatives " ++ (n ++ (codes " cases " ++ k))))) (10 ∷ [])
        ∙ ap (λ (x : List ℕ). i ++ (codes " large " ++ x)) (flat3 l (codes " negatives " ++ (n ++ (codes " cases " ++ k))) (10 ∷ [])
        ∙ ap (λ (x : List ℕ). l ++ (codes " negatives " ++ x)) (flat3 n (codes " cases " ++ k) (10 ∷ [])))))
