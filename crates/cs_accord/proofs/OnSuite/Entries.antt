-- What is known of each goal's entry and case in the second format.
use Rattle.std.proofs.Common.{◌≡◌, ℕ, zero, suc, ◌+◌, ◌-◌, ◌≤◌, Bool, true, false, List, [], ◌∷◌, ◌++◌, Some, length, refl, sym, ap, ◌∙◌, subst, arith}
use Rattle.std.specs.Prelude.{slice_get, if◌then◌else◌}
use Rattle.std.specs.List.{AllByRecursion, AllZip, Contains}
use Rattle.std.proofs.lemmas.Option.{slice_get_within, same_Some}
use Rattle.cs_grammar.specs.declared.symbol.Symbol.TheVariants.{Nonterminal}
use Rattle.cs_grammar.specs.Grammar.{PlainGrammar, IsNumberOf}
use Rattle.cs_grammar.specs.Leftmost.{IsYield}
use Rattle.cs_grammar.specs.Tree.{Tree, Leaf, Node, Forest, Bare, Grown, IsTree, AreTrees, code, codes_of, size}
use Rattle.cs_grammar.specs.Weights.{Measure}
use Rattle.cs_grammar.proofs.Measures.{IsNumberOf-rule}
use Rattle.cs_grammar.proofs.OneTree.{one_tree}
use Rattle.cs_goals.specs.declared.goal.Goal.{Goal}
use Rattle.cs_goals.specs.Meets.{IsMeeting}
use Rattle.cs_verdicts.specs.declared.positive.verdict.Verdict.TheVariants.{Feasible}
use Rattle.cs_verdicts.specs.declared.cases.cases.Named.{Named}
use Rattle.cs_verdicts.specs.Positive.Verdict.{IsVerdict}
use Rattle.cs_verdicts.specs.Cases.Cases.{PlainCases, IsNew, IsPlaced, IsLowest, with_case}
use Rattle.cs_verdicts.proofs.OnPositive.Verdicts.{chosen_met, chosen_least_of}
use Rattle.cs_verdicts.proofs.OnCases.Lowest.{Contains-get, one_lowest, lowest_last}
use Rattle.cs_check.specs.Passing.Entries.{HasSize, IsNumbered}
use Rattle.cs_accord.proofs.OnSuite.Setting.{Setting, measure}

-- the rule numbers of a tree are those of rules
module _ (g : PlainGrammar) where
  both : (xs ys : List ℕ) → AllByRecursion (IsNumberOf (length g.rules)) xs → AllByRecursion (IsNumberOf (length g.rules)) ys → AllByRecursion (IsNumberOf (length g.rules)) (xs ++ ys)
  both [] ys h k = k
  both (x ∷ xs) ys h k = (h.0, both xs ys h.1 k)

  mutual
    pub rules_of_tree : (t : Tree) (x : _) → IsTree g x t → AllByRecursion (IsNumberOf (length g.rules)) (code t)
    rules_of_tree (Leaf t) x h = tt
    rules_of_tree (Node r f) x h = (IsNumberOf-rule g r h.0 h.1, rules_of_trees f h.0.right h.3)

    pub rules_of_trees : (f : Forest) (xs : List _) → AreTrees g xs f → AllByRecursion (IsNumberOf (length g.rules)) (codes_of f)
    rules_of_trees Bare xs h = tt
    rules_of_trees (Grown t f) [] h = absurd h
    rules_of_trees (Grown t f) (x ∷ xs) h = both (code t) (codes_of f) (rules_of_tree t x h.0) (rules_of_trees f xs h.1)

-- what a feasible verdict says of its derivation
pub record IsShownBy (w : Measure) (g : PlainGrammar) (goal : Goal) (size_is : ℕ) (derivation : List ℕ) : Type 0 where
  pub tree : Tree
  pub is_tree : IsTree g (Nonterminal g.start) tree
  pub code_is : derivation ≡ code tree
  pub meets : IsMeeting g goal derivation
  pub sized : size_is ≡ size w tree
  pub few : size_is ≤ w.limit

pub shown_by : (w : Measure) (g : PlainGrammar) (goal : Goal) (n : ℕ) (derivation : List ℕ) → IsVerdict w g goal (Feasible n derivation) → IsShownBy w g goal n derivation
shown_by w g goal n derivation h =
    let u = h.2.0 in
    let met = chosen_met w g goal u h.2.1 in
    let least = h.1 in
    let reached = least.reached in
    record {
      tree = u;
      is_tree = met.0;
      code_is = h.2.2;
      meets = record { tree = u; is_tree = met.0; code = h.2.2; meets = met.1 };
      sized = omega (arith, reached.2, least.least u met, chosen_least_of w g goal reached.0 u reached.1 h.2.1);
      few = h.0;
    }

-- what is picked for a feasible goal: the size, the derivation with its tokens, and how its case is named
pub record Picked : Type 0 where
  pub size : ℕ
  pub derivation : List ℕ
  pub tokens : List ℕ
  pub name : Named

pub record IsPicked (s : Setting) (old new : PlainCases) (goal : Goal) (k : Picked) : Type 0 where
  pub verdict : IsVerdict (measure s) s.file.grammar goal (Feasible k.size k.derivation)
  pub placed : IsPlaced old goal k.derivation new k.name
  pub yields : IsYield s.file.grammar k.derivation k.tokens

-- a code has one tree, and so one size
pub one_size : (w : Measure) (g : PlainGrammar) (rules : List ℕ) (a b : ℕ) → HasSize g w rules a → HasSize g w rules b → a ≡ b
one_size w g rules a b h k =
    let codes = ap (λ (l : List ℕ). l ++ []) (sym h.code ∙ k.code) in
    let same = (one_tree g h.tree k.tree (Nonterminal g.start) (Nonterminal g.start) [] [] refl h.is_tree k.is_tree codes).0 in
    h.size ∙ ap (size w) same ∙ sym k.size

-- ---- cases

-- the cases are of the grammar
abbrev pub AreOf : PlainGrammar → PlainCases → Type 0
AreOf g cases = cases.grammar ≡ g

module _ {old new : PlainCases} {goal : Goal} {derivation : List ℕ} {named : Named} (placed : IsPlaced old goal derivation new named) where
  pub still_of : (g : PlainGrammar) → AreOf g old → AreOf g new
  still_of g is = at named.fresh placed.cases
    where
      at : (b : Bool) → new ≡ (if b then with_case old derivation else old) → new.grammar ≡ g
      at true e = ap (λ (c : PlainCases). c.grammar) e ∙ is
      at false e = ap (λ (c : PlainCases). c.grammar) e ∙ is

  -- a new case stands last, and has the next number
  pub fresh_codes : named.fresh ≡ true → new.codes ≡ old.codes ++ derivation ∷ []
  fresh_codes is = ap (λ (c : PlainCases). c.codes) (placed.cases ∙ ap (λ (b : Bool). if b then with_case old derivation else old) is)

  pub same_codes : named.fresh ≡ false → new.codes ≡ old.codes
  same_codes is = ap (λ (c : PlainCases). c.codes) (placed.cases ∙ ap (λ (b : Bool). if b then with_case old derivation else old) is)

  pub fresh_number : named.fresh ≡ true → named.case ≡ length old.codes + 1
  fresh_number is =
      let new_one : IsNew old derivation = placed.fresh.0 is in
      let own = subst (λ (l : List (List ℕ)). IsLowest (λ other. other ≡ derivation) l named.case) (fresh_codes is) placed.own in
      one_lowest (λ other. other ≡ derivation) (old.codes ++ derivation ∷ []) named.case (length old.codes + 1) own
      (lowest_last (λ other. other ≡ derivation) old.codes derivation (length old.codes + 1) refl refl
      (λ k other at same. new_one (subst (λ (c : List ℕ). Contains old.codes c) same (Contains-get old.codes k other at))))

  -- the goal's own case, and the first that meets it
  pub own_numbered : IsNumbered new.codes named.case derivation
  own_numbered = (placed.own.above_zero, subst (λ (c : List ℕ). slice_get new.codes (named.case - 1) ≡ Some c) placed.own.is_one placed.own.at)

  pub first_met : (g : PlainGrammar) → AreOf g new → (rules : List ℕ) × IsNumbered new.codes named.first rules × IsMeeting g goal rules
  first_met g is = (placed.first.code, (placed.first.above_zero, placed.first.at), subst (λ (h : PlainGrammar). IsMeeting h goal placed.first.code) is placed.first.is_one)

  pub case_within : named.case ≤ length new.codes
  case_within = let within = slice_get_within new.codes (named.case - 1) placed.own.code placed.own.at in let some = placed.own.above_zero in omega (arith, within, some)

  pub first_within : named.first ≤ length new.codes
  first_within = let within = slice_get_within new.codes (named.first - 1) placed.first.code placed.first.at in let some = placed.first.above_zero in omega (arith, within, some)

-- ---- sizes of cases

-- each case has the size that is told
abbrev pub AreSized : PlainGrammar → Measure → List ℕ → List (List ℕ) → Type 0
AreSized g w sizes codes = AllZip (λ size rules. HasSize g w rules size) sizes codes

module _ (g : PlainGrammar) (w : Measure) where
  pub sized_push : (sizes : List ℕ) (codes : List (List ℕ)) (size : ℕ) (rules : List ℕ) → AreSized g w sizes codes → HasSize g w rules size → AreSized g w (sizes ++ size ∷ []) (codes ++ rules ∷ [])
  sized_push [] [] size rules zip has = (has, tt)
  sized_push [] (c ∷ codes) size rules zip has = absurd zip
  sized_push (s ∷ sizes) [] size rules zip has = absurd zip
  sized_push (s ∷ sizes) (c ∷ codes) size rules zip has = (zip.0, sized_push sizes codes size rules zip.1 has)

  pub sized_many : (sizes : List ℕ) (codes : List (List ℕ)) → AreSized g w sizes codes → length sizes ≡ length codes
  sized_many [] [] zip = refl
  sized_many [] (c ∷ codes) zip = absurd zip
  sized_many (s ∷ sizes) [] zip = absurd zip
  sized_many (s ∷ sizes) (c ∷ codes) zip = ap suc (sized_many sizes codes zip.1)

  sized_get : (sizes : List ℕ) (codes : List (List ℕ)) (k : ℕ) (rules : List ℕ) → AreSized g w sizes codes → slice_get codes k ≡ Some rules → (size : ℕ) × (slice_get sizes k ≡ Some size) × HasSize g w rules size
  sized_get [] [] k rules zip at = absurd cc
  sized_get [] (c ∷ codes) k rules zip at = absurd zip
  sized_get (s ∷ sizes) [] k rules zip at = absurd zip
  sized_get (s ∷ sizes) (c ∷ codes) zero rules zip at = (s, refl, subst (λ (r : List ℕ). HasSize g w r s) (same_Some c rules at) zip.0)
  sized_get (s ∷ sizes) (c ∷ codes) (suc k) rules zip at = sized_get sizes codes k rules zip.1 at

  -- the size of a case is that of its tree
  pub sized_at : (sizes : List ℕ) (codes : List (List ℕ)) (n size : ℕ) (rules : List ℕ) → AreSized g w sizes codes → IsNumbered codes n rules → HasSize g w rules size → IsNumbered sizes n size
  sized_at sizes codes n size rules zip at has =
      let found = sized_get sizes codes (n - 1) rules zip at.1 in
      (at.0, found.1 ∙ ap Some (one_size w g rules found.0 size found.2 has))
