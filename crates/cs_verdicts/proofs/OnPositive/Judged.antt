-- The list of a grammar's positives.
use Rattle.std.proofs.Common.{◌≡◌, List, [], ◌∷◌, get_or, false, refl, sym, ap, ◌∙◌, subst}
use Rattle.std.proofs.lemmas.Bool.{true≢false}
use Rattle.std.proofs.lemmas.List.Elements.{Contains-get_or, All-head, All-tail}
use Rattle.cs_goals.specs.declared.goal.Goal.TheVariants.{Rule, Context, Pair}
use Rattle.std.specs.Prelude.{All}
use Rattle.cs_grammar.specs.Grammar.{PlainGrammar}
use Rattle.cs_grammar.specs.Weights.{Weighed}
use Rattle.cs_goals.specs.declared.goal.Goal.{Goal}
use Rattle.cs_choices.specs.declared.criteria.Criteria.{Criteria}
use Rattle.cs_goals.specs.Goal.{IsGoal, IsWanted}
use Rattle.cs_goals.specs.Goals.{goals}
use Rattle.cs_goals.proofs.Once.{all}
use Rattle.cs_verdicts.specs.declared.positive.positive.Positive.{Positive}
use Rattle.cs_verdicts.specs.declared.positive.verdict.Verdict.{Verdict}
use Rattle.cs_verdicts.specs.Positive.Verdict.{IsTreeGoal, IsVerdictIn}
use Rattle.cs_verdicts.specs.Positive.Positives.{AreOfGrammar, ArePositives}
use Rattle.cs_verdicts.proofs.OnPositive.Verdicts.{one_verdict_of}

-- the goals of the chosen criteria are the grammar's
pub of_grammar : (g : PlainGrammar) (c : Criteria) → AreOfGrammar g (goals g c)
of_grammar g c = λ k d within. let goal = get_or (goals g c) k d in ((all g c goal).0 (Contains-get_or (goals g c) k d within)).1

-- where pair goals aren't chosen, none of them is one
tree_of_wanted : (c : Criteria) (goal : Goal) → c.pair ≡ false → IsWanted c goal → IsTreeGoal goal
tree_of_wanted c (Rule r) none h = tt
tree_of_wanted c (Context p i q) none h = tt
tree_of_wanted c (Pair a b) none h = absurd (true≢false (sym h ∙ none))

pub tree_goals : (g : PlainGrammar) (c : Criteria) → c.pair ≡ false → All IsTreeGoal (goals g c)
tree_goals g c none = λ k d within.
    let goal = get_or (goals g c) k d in
    tree_of_wanted c goal none ((all g c goal).0 (Contains-get_or (goals g c) k d within)).0

-- the first of the grammar's goals is one of them, and those behind it are
pub first_goal : (g : PlainGrammar) (left : List Goal) (goal : Goal) (rest : List Goal) → left ≡ goal ∷ rest → AreOfGrammar g left → IsGoal g goal × AreOfGrammar g rest
first_goal g left goal rest e are =
    let each = subst (AreOfGrammar g) e are in
    (All-head (IsGoal g) goal rest each, All-tail (IsGoal g) goal rest each)

-- what is given next stands in front
pub next : (v : Weighed) (left : List Goal) (p : Positive) (rest : List Goal) → left ≡ p.goal ∷ rest → IsVerdictIn v p.goal p.verdict → (ps : List Positive) → ArePositives v rest ps → ArePositives v left (p ∷ ps)
next v left p rest e verdict ps are = subst (λ (l : List Goal). ArePositives v l (p ∷ ps)) (sym e) (p, ps, refl, refl, verdict, are)

-- goals have one list of positives
pub one_list : (v : Weighed) (left : List Goal) (a b : List Positive) → ArePositives v left a → ArePositives v left b → a ≡ b
one_list v [] a b h k = h ∙ sym k
one_list v (goal ∷ left) a b h k =
    let verdicts = one_verdict_of v.weights v.grammar goal h.0.verdict k.0.verdict h.4 k.4 in
    let same : h.0 ≡ k.0 =
    ap (λ (x : Goal). record { goal = x; verdict = h.0.verdict }) (h.3 ∙ sym k.3)
    ∙ ap (λ (x : Verdict). record { goal = k.0.goal; verdict = x }) verdicts in
    h.2 ∙ ap (λ (p : Positive). p ∷ h.1) same ∙ ap (λ (ps : List Positive). k.0 ∷ ps) (one_list v left h.1 k.1 h.5 k.5) ∙ sym k.2
