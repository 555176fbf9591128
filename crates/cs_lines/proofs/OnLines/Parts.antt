-- Words of few, and what stands behind the first word of a goal, a verdict and an edit.
use Rattle.std.proofs.Common.{◌≡◌, ℕ, List, [], ◌∷◌, ◌++◌, refl, sym, ap, ◌∙◌}
use Rattle.std.specs.Prelude.{codes, All}
use Rattle.std.proofs.lemmas.List.Elements.{All-head, All-tail}
use Rattle.cs_choices.specs.declared.weigh.Weigh.{Weigh}
use Rattle.cs_choices.specs.declared.weigh.Weigh.TheVariants.{Nodes, Bytes}
use Rattle.cs_lines.specs.Words.Words.{numeral, IsWord}
use Rattle.cs_lines.specs.Words.Edits.{EditWords, Deletes, Inserts, Replaces, Swaps}
use Rattle.cs_lines.specs.Lines.Line.{SetKind, Productive, Reachable, Empty, RowKind, First, Last, Next, GoalWords, OfRule, OfContext, OfPair, VerdictWords, Feasible, Infeasible, Large}
use Rattle.cs_lines.specs.Lines.Texts.{weigh_word, set_word, row_word, goal_words, verdict_words, edit_words, goal_names, edit_names}
use Rattle.cs_lines.proofs.OnTexts.OneLine.{apart, lists_apart, same_edit}

-- ---- lists of words with one front

pub same_front : {w v : List ℕ} {x y all : List (List ℕ)} → all ≡ w ∷ x → all ≡ v ∷ y → w ≡ v
same_front {w} {v} {x} {y} p q = let both : w ∷ x ≡ v ∷ y = sym p ∙ q in cc

pub same_behind : {w v : List ℕ} {x y all : List (List ℕ)} → all ≡ w ∷ x → all ≡ v ∷ y → x ≡ y
same_behind {w} {v} {x} {y} p q = let both : w ∷ x ≡ v ∷ y = sym p ∙ q in cc

pub same_behind_two : {w v a b : List ℕ} {x y all : List (List ℕ)} → all ≡ w ∷ v ∷ x → all ≡ a ∷ b ∷ y → x ≡ y
same_behind_two {w} {v} {a} {b} {x} {y} p q = let both : w ∷ v ∷ x ≡ a ∷ b ∷ y = sym p ∙ q in cc

-- one word in front, and two
pub on : (w : List ℕ) {x y : List (List ℕ)} → x ≡ y → w ∷ x ≡ w ∷ y
on w e = ap (λ (ws : List (List ℕ)). w ∷ ws) e

pub step : {w : List ℕ} {all x y : List (List ℕ)} → all ≡ w ∷ x → x ≡ y → all ≡ w ∷ y
step {w} p e = p ∙ on w e

pub step_two : {w v : List ℕ} {all x y : List (List ℕ)} → all ≡ w ∷ v ∷ x → x ≡ y → all ≡ w ∷ v ∷ y
step_two {w} {v} p e = p ∙ on w (on v e)

-- the same word in front
pub front : {w v : List ℕ} {x all : List (List ℕ)} → all ≡ w ∷ x → w ≡ v → all ≡ v ∷ x
front {x = x} p e = p ∙ ap (λ (w : List ℕ). w ∷ x) e

-- ---- words of few

pub no_weigh : (word : List ℕ) → (word ≡ codes "nodes" → ⊥) → (word ≡ codes "bytes" → ⊥) → (weigh : Weigh) → word ≡ weigh_word weigh → ⊥
no_weigh word n b Nodes e = n e
no_weigh word n b Bytes e = b e

pub no_set : (word : List ℕ) → (word ≡ codes "productive" → ⊥) → (word ≡ codes "reachable" → ⊥) → (word ≡ codes "empty" → ⊥) → (kind : SetKind) → word ≡ set_word kind → ⊥
no_set word p r n Productive e = p e
no_set word p r n Reachable e = r e
no_set word p r n Empty e = n e

pub no_row : (word : List ℕ) → (word ≡ codes "first" → ⊥) → (word ≡ codes "last" → ⊥) → (word ≡ codes "next" → ⊥) → (kind : RowKind) → word ≡ row_word kind → ⊥
no_row word f l n First e = f e
no_row word f l n Last e = l e
no_row word f l n Next e = n e

pub set_not_row : (set : SetKind) (row : RowKind) → set_word set ≡ row_word row → ⊥
set_not_row Productive First e = apart (set_word Productive) (row_word First) refl e
set_not_row Productive Last e = apart (set_word Productive) (row_word Last) refl e
set_not_row Productive Next e = apart (set_word Productive) (row_word Next) refl e
set_not_row Reachable First e = apart (set_word Reachable) (row_word First) refl e
set_not_row Reachable Last e = apart (set_word Reachable) (row_word Last) refl e
set_not_row Reachable Next e = apart (set_word Reachable) (row_word Next) refl e
set_not_row Empty First e = apart (set_word Empty) (row_word First) refl e
set_not_row Empty Last e = apart (set_word Empty) (row_word Last) refl e
set_not_row Empty Next e = apart (set_word Empty) (row_word Next) refl e

-- ---- goals

pub some_goal : (goal : GoalWords) (others all : List (List ℕ)) → all ≡ [] → all ≡ goal_words goal others → ⊥
some_goal (OfRule r) others all p q = let both : [] ≡ goal_words (OfRule r) others = sym p ∙ q in absurd cc
some_goal (OfContext o i q) others all p e = let both : [] ≡ goal_words (OfContext o i q) others = sym p ∙ e in absurd cc
some_goal (OfPair a b) others all p q = let both : [] ≡ goal_words (OfPair a b) others = sym p ∙ q in absurd cc

pub record RuleGoal (behind others : List (List ℕ)) : Type 0 where
  pub rule : ℕ
  pub is : behind ≡ numeral rule ∷ others

pub rule_goal : (goal : GoalWords) (others behind all : List (List ℕ)) → all ≡ codes "rule" ∷ behind → all ≡ goal_words goal others → RuleGoal behind others
rule_goal (OfRule r) others behind all p q = record { rule = r; is = same_behind p q }
rule_goal goal others behind all p q = absurd (lists_apart (codes "rule" ∷ behind) (goal_words goal others) refl (sym p ∙ q))

pub record ContextGoal (behind others : List (List ℕ)) : Type 0 where
  pub outer : ℕ
  pub place : ℕ
  pub inner : ℕ
  pub is : behind ≡ numeral outer ∷ numeral place ∷ numeral inner ∷ others

pub context_goal : (goal : GoalWords) (others behind all : List (List ℕ)) → all ≡ codes "context" ∷ behind → all ≡ goal_words goal others → ContextGoal behind others
context_goal (OfContext o i r) others behind all p q = record { outer = o; place = i; inner = r; is = same_behind p q }
context_goal goal others behind all p q = absurd (lists_apart (codes "context" ∷ behind) (goal_words goal others) refl (sym p ∙ q))

pub record PairGoal (behind others : List (List ℕ)) : Type 0 where
  pub left : List ℕ
  pub right : List ℕ
  pub left_word : IsWord left
  pub right_word : IsWord right
  pub is : behind ≡ left ∷ right ∷ others

pub pair_goal : (goal : GoalWords) (others behind all : List (List ℕ)) → All IsWord (goal_names goal) → all ≡ codes "pair" ∷ behind → all ≡ goal_words goal others → PairGoal behind others
pair_goal (OfPair a b) others behind all h p q = record {
  left = a;
  right = b;
  left_word = All-head IsWord a (b ∷ []) h;
  right_word = All-head IsWord b [] (All-tail IsWord a (b ∷ []) h);
  is = same_behind p q;
}
pair_goal goal others behind all h p q = absurd (lists_apart (codes "pair" ∷ behind) (goal_words goal others) refl (sym p ∙ q))

pub no_goal : (word : List ℕ) (behind all : List (List ℕ)) → all ≡ word ∷ behind → (word ≡ codes "rule" → ⊥) → (word ≡ codes "context" → ⊥) → (word ≡ codes "pair" → ⊥) → (goal : GoalWords) (others : List (List ℕ)) → all ≡ goal_words goal others → ⊥
no_goal word behind all p r c n (OfRule rule) others q = r (same_front p q)
no_goal word behind all p r c n (OfContext o i k) others q = c (same_front p q)
no_goal word behind all p r c n (OfPair a b) others q = n (same_front p q)

-- ---- verdicts

pub some_verdict : (verdict : VerdictWords) (others all : List (List ℕ)) → all ≡ [] → all ≡ verdict_words verdict ++ others → ⊥
some_verdict (Feasible s c f) others all p q = let both : [] ≡ verdict_words (Feasible s c f) ++ others = sym p ∙ q in absurd cc
some_verdict Infeasible others all p q = let both : [] ≡ verdict_words Infeasible ++ others = sym p ∙ q in absurd cc
some_verdict Large others all p q = let both : [] ≡ verdict_words Large ++ others = sym p ∙ q in absurd cc

pub record FeasibleVerdict (behind others : List (List ℕ)) : Type 0 where
  pub size : ℕ
  pub case : ℕ
  pub first : ℕ
  pub is : behind ≡ numeral size ∷ codes "case" ∷ numeral case ∷ codes "first" ∷ numeral first ∷ others

pub feasible_verdict : (verdict : VerdictWords) (others behind all : List (List ℕ)) → all ≡ codes "size" ∷ behind → all ≡ verdict_words verdict ++ others → FeasibleVerdict behind others
feasible_verdict (Feasible s c f) others behind all p q = record { size = s; case = c; first = f; is = same_behind p q }
feasible_verdict Infeasible others behind all p q = absurd (lists_apart (codes "size" ∷ behind) (verdict_words Infeasible ++ others) refl (sym p ∙ q))
feasible_verdict Large others behind all p q = absurd (lists_apart (codes "size" ∷ behind) (verdict_words Large ++ others) refl (sym p ∙ q))

pub no_verdict : (word : List ℕ) (behind all : List (List ℕ)) → all ≡ word ∷ behind → (word ≡ codes "infeasible" → ⊥) → (word ≡ codes "large" → ⊥) → (word ≡ codes "size" → ⊥) → (verdict : VerdictWords) (others : List (List ℕ)) → all ≡ verdict_words verdict ++ others → ⊥
no_verdict word behind all p i l s (Feasible size case first) others q = s (same_front p q)
no_verdict word behind all p i l s Infeasible others q = i (same_front p q)
no_verdict word behind all p i l s Large others q = l (same_front p q)

-- a verdict is the same as another with more behind it, where nothing more is there
pub nothing_behind : (a b : VerdictWords) (others all : List (List ℕ)) → all ≡ verdict_words a → all ≡ verdict_words b ++ others → others ≡ []
nothing_behind (Feasible s c f) (Feasible t d g) others all p q =
    let both : verdict_words (Feasible s c f) ≡ verdict_words (Feasible t d g) ++ others = sym p ∙ q in
    let none : [] ≡ others = cc in
    sym none
nothing_behind Infeasible Infeasible others all p q = sym (same_behind p q)
nothing_behind Large Large others all p q = sym (same_behind p q)
nothing_behind Infeasible (Feasible t d g) others all p q = absurd (lists_apart (verdict_words Infeasible) (verdict_words (Feasible t d g) ++ others) refl (sym p ∙ q))
nothing_behind Large (Feasible t d g) others all p q = absurd (lists_apart (verdict_words Large) (verdict_words (Feasible t d g) ++ others) refl (sym p ∙ q))
nothing_behind (Feasible s c f) Infeasible others all p q = absurd (lists_apart (verdict_words (Feasible s c f)) (verdict_words Infeasible ++ others) refl (sym p ∙ q))
nothing_behind (Feasible s c f) Large others all p q = absurd (lists_apart (verdict_words (Feasible s c f)) (verdict_words Large ++ others) refl (sym p ∙ q))
nothing_behind Infeasible Large others all p q = absurd (lists_apart (verdict_words Infeasible) (verdict_words Large ++ others) refl (sym p ∙ q))
nothing_behind Large Infeasible others all p q = absurd (lists_apart (verdict_words Large) (verdict_words Infeasible ++ others) refl (sym p ∙ q))

pub nothing_more : (verdict : VerdictWords) → verdict_words verdict ++ [] ≡ verdict_words verdict
nothing_more (Feasible s c f) = refl
nothing_more Infeasible = refl
nothing_more Large = refl

-- ---- edits

pub some_edit : (edit : EditWords) (others all : List (List ℕ)) → all ≡ [] → all ≡ edit_words edit others → ⊥
some_edit (Deletes i) others all p q = let both : [] ≡ edit_words (Deletes i) others = sym p ∙ q in absurd cc
some_edit (Inserts i a) others all p q = let both : [] ≡ edit_words (Inserts i a) others = sym p ∙ q in absurd cc
some_edit (Replaces i a) others all p q = let both : [] ≡ edit_words (Replaces i a) others = sym p ∙ q in absurd cc
some_edit (Swaps i) others all p q = let both : [] ≡ edit_words (Swaps i) others = sym p ∙ q in absurd cc

-- an edit that puts no token, and one that does
pub record PlaceEdit (behind others : List (List ℕ)) : Type 0 where
  pub place : ℕ
  pub is : behind ≡ numeral place ∷ others

pub record NameEdit (behind others : List (List ℕ)) : Type 0 where
  pub place : ℕ
  pub name : List ℕ
  pub is_word : IsWord name
  pub is : behind ≡ numeral place ∷ name ∷ others

pub delete_edit : (edit : EditWords) (others behind all : List (List ℕ)) → all ≡ codes "delete" ∷ behind → all ≡ edit_words edit others → PlaceEdit behind others
delete_edit (Deletes i) others behind all p q = record { place = i; is = same_behind p q }
delete_edit edit others behind all p q = absurd (lists_apart (codes "delete" ∷ behind) (edit_words edit others) refl (sym p ∙ q))

pub swap_edit : (edit : EditWords) (others behind all : List (List ℕ)) → all ≡ codes "swap" ∷ behind → all ≡ edit_words edit others → PlaceEdit behind others
swap_edit (Swaps i) others behind all p q = record { place = i; is = same_behind p q }
swap_edit edit others behind all p q = absurd (lists_apart (codes "swap" ∷ behind) (edit_words edit others) refl (sym p ∙ q))

pub insert_edit : (edit : EditWords) (others behind all : List (List ℕ)) → All IsWord (edit_names edit) → all ≡ codes "insert" ∷ behind → all ≡ edit_words edit others → NameEdit behind others
insert_edit (Inserts i a) others behind all h p q = record { place = i; name = a; is_word = All-head IsWord a [] h; is = same_behind p q }
insert_edit edit others behind all h p q = absurd (lists_apart (codes "insert" ∷ behind) (edit_words edit others) refl (sym p ∙ q))

pub replace_edit : (edit : EditWords) (others behind all : List (List ℕ)) → All IsWord (edit_names edit) → all ≡ codes "replace" ∷ behind → all ≡ edit_words edit others → NameEdit behind others
replace_edit (Replaces i a) others behind all h p q = record { place = i; name = a; is_word = All-head IsWord a [] h; is = same_behind p q }
replace_edit edit others behind all h p q = absurd (lists_apart (codes "replace" ∷ behind) (edit_words edit others) refl (sym p ∙ q))

-- what stands behind the words of an edit
pub behind_edit : (a b : EditWords) {x y all : List (List ℕ)} → all ≡ edit_words a x → all ≡ edit_words b y → x ≡ y
behind_edit a b {x} {y} p q = (same_edit a b x y (sym p ∙ q)).1

pub no_edit : (word : List ℕ) (behind all : List (List ℕ)) → all ≡ word ∷ behind → (word ≡ codes "delete" → ⊥) → (word ≡ codes "insert" → ⊥) → (word ≡ codes "replace" → ⊥) → (word ≡ codes "swap" → ⊥) → (edit : EditWords) (others : List (List ℕ)) → all ≡ edit_words edit others → ⊥
no_edit word behind all p d i r s (Deletes k) others q = d (same_front p q)
no_edit word behind all p d i r s (Inserts k a) others q = i (same_front p q)
no_edit word behind all p d i r s (Replaces k a) others q = r (same_front p q)
no_edit word behind all p d i r s (Swaps k) others q = s (same_front p q)
