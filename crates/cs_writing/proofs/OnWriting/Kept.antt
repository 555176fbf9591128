-- The bases of entries, which come by offers; they can be edited, and they are no more than wanted.
use Rattle.std.proofs.Common.{◌≡◌, ◌↔◌, ℕ, ◌+◌, ◌≤◌, Bool, true, false, List, [], ◌∷◌, ◌++◌, length, length-append, length-take, sym, ap, ◌∙◌, subst, Option, None, Some, arith, append_assoc, append-nil}
use Rattle.std.specs.Borrow.{Bor}
use Rattle.std.specs.Prelude.{All, IfNone, IfSome, IsTrue, bytes_eq, if◌then◌else◌, not}
use Rattle.std.specs.List.{AllZip, enumerate_from, filter}
use Rattle.std.proofs.lemmas.List.{take_all}
use Rattle.std.proofs.lemmas.List.Elements.{All-nil, All-cons, All-head, All-tail, All-filter, All-map, All-take}
use Rattle.cs_writing.specs.Bases.Bases.{IsFree, PlainBases, bases_of, no_bases, with_base}
use Rattle.cs_writing.proofs.OnBases.Offers.{bases_after_offer, bases_without_offer}
use Rattle.cs_grammar.specs.Grammar.{IsNumberOf}
use Rattle.cs_grammar.specs.Weights.{IsMeasure, Weighed}
use Rattle.cs_goals.specs.declared.goal.Goal.{Goal}
use Rattle.cs_goals.specs.Goals.{goals}
use Rattle.cs_manifest.specs.Manifest.Lines.{is_feasible}
use Rattle.cs_manifest.specs.Manifest.Manifest.{GoalEntry, bases, distinct, yields}
use Rattle.cs_yacc.specs.Reading.File.{IsFile}
use Rattle.cs_writing.specs.declared.plan.plan.Plan.{Plan}
use Rattle.cs_writing.specs.Plan.Plans.{IsEntryIn}
use Rattle.cs_writing.proofs.OnPlan.Making.{few_of, named_tokens}
use Rattle.cs_writing.specs.Writing.Mutants.{AreItsTokens, IsEditable, Keeps}
use Rattle.cs_writing.specs.Writing.Written.{AreEntriesIn}

-- ---- offers

pub none_kept : (most : ℕ) (kept : PlainBases) → kept ≡ no_bases most → kept ≡ bases_of most []
none_kept most kept is = is ∙ ap (λ (l : List (ℕ × List ℕ)). record { most = most; list = l }) (sym (take_all most [] (omega arith)))

pub keeps_none : (many : ℕ) (kept : PlainBases) → Keeps many [] kept kept
keeps_none many kept entries is of = of ∙ ap (bases_of kept.most) (sym (append-nil entries))

-- the bases of entries, and of those behind them
pub kept_more : (most many : ℕ) (entries made : List GoalEntry) (old new : PlainBases) → length entries ≡ many → old ≡ bases_of most entries → Keeps many made old new
    → new ≡ bases_of most (entries ++ made)
kept_more most many entries made old new is of keeps =
    let same : old.most ≡ most = ap (λ (b : PlainBases). b.most) of in
    keeps entries is (of ∙ ap (λ (k : ℕ). bases_of k entries) (sym same)) ∙ ap (λ (k : ℕ). bases_of k (entries ++ made)) same

pub keeps_then : (many : ℕ) (first second : List GoalEntry) (old mid new : PlainBases) → Keeps many first old mid → Keeps (many + length first) second mid new → Keeps many (first ++ second) old new
keeps_then many first second old mid new keeps more entries is of =
    let long : length (entries ++ first) ≡ many + length first = omega (arith, is, length-append entries first) in
    kept_more old.most (many + length first) (entries ++ first) second mid new long (keeps entries is of) more
    ∙ ap (bases_of old.most) (append_assoc entries first second)

-- a feasible goal's tokens were offered
pub keeps_one : (many : ℕ) (entry : GoalEntry) (tokens : List ℕ) (taken : Bool) (old new : PlainBases) → is_feasible entry.verdict ≡ true → tokens ≡ entry.tokens
    → IsTrue taken ↔ IsFree old tokens → new ≡ (if taken then with_base old (many + 1) tokens else old) → Keeps many (entry ∷ []) old new
keeps_one many entry tokens taken old new feasible same free is entries long of =
    let before = bases_of old.most entries in
    let left = λ (b : PlainBases) (n : ℕ) (t : List ℕ). if taken then with_base b n t else b in
    let number : many + 1 ≡ length entries + 1 = omega (arith, long) in
    let free_before = subst (λ (b : PlainBases). IsTrue taken ↔ IsFree b entry.tokens) of (subst (λ (t : List ℕ). IsTrue taken ↔ IsFree old t) same free) in
    bases_after_offer old.most entries entry feasible taken new free_before
    (is ∙ ap (λ (b : PlainBases). left b (many + 1) tokens) of ∙ ap (λ (n : ℕ). left before n tokens) number ∙ ap (λ (t : List ℕ). left before (length entries + 1) t) same)

-- another goal's weren't
pub keeps_other : (many : ℕ) (entry : GoalEntry) (kept : PlainBases) → is_feasible entry.verdict ≡ false → Keeps many (entry ∷ []) kept kept
keeps_other many entry kept none entries long of = of ∙ bases_without_offer kept.most entries entry none

-- what was told of its tokens
pub its_tokens : (entry : GoalEntry) (found : Option (Bor (List ℕ))) → IfSome found (λ tokens. is_feasible entry.verdict ≡ true) → IfSome found (λ tokens. tokens.now ≡ entry.tokens)
    → IfNone found (is_feasible entry.verdict ≡ false) → AreItsTokens entry found
its_tokens entry None feasible tokens none = none
its_tokens entry (Some found) feasible tokens none = (feasible, tokens)

-- behind one more of a batch
pub keeps_step : (number before i : ℕ) (front whole : List GoalEntry) (entry : GoalEntry) (old mid new : PlainBases) → whole ≡ front ++ entry ∷ [] → length front ≡ i → before ≡ number + i
    → Keeps number front old mid → Keeps before (entry ∷ []) mid new → Keeps number whole old new
keeps_step number before i front whole entry old mid new is many at keeps more =
    let behind : before ≡ number + length front = omega (arith, at, many) in
    subst (λ (l : List GoalEntry). Keeps number l old new) (sym is)
    (keeps_then number front (entry ∷ []) old mid new keeps (subst (λ (k : ℕ). Keeps k (entry ∷ []) mid new) behind more))

-- ---- which bases there are

-- what holds of each entry holds of each base
module _ (P : ℕ × List ℕ → Type 0) where
  abbrev Fits : GoalEntry → Type 0
  Fits entry = (k : ℕ) → P (k, entry.tokens)

  all_enumerated : (n : ℕ) (entries : List GoalEntry) → All Fits entries → All (λ (e : ℕ × GoalEntry). P (e.0, e.1.tokens)) (enumerate_from n entries)
  all_enumerated n [] each = All-nil (λ (e : ℕ × GoalEntry). P (e.0, e.1.tokens))
  all_enumerated n (entry ∷ entries) each =
      All-cons (λ (e : ℕ × GoalEntry). P (e.0, e.1.tokens)) (n, entry) (enumerate_from (n + 1) entries) (All-head Fits entry entries each n)
      (all_enumerated (n + 1) entries (All-tail Fits entry entries each))

  all_distinct : (ys : List (ℕ × List ℕ)) → All P ys → All P (distinct ys)
  all_distinct [] each = each
  all_distinct (y ∷ ys) each =
      let others = all_distinct ys (All-tail P y ys each) in
      All-cons P y (filter (λ (x : ℕ × List ℕ). not (bytes_eq x.1 y.1)) (distinct ys)) (All-head P y ys each)
      (All-filter (λ (x : ℕ × List ℕ). not (bytes_eq x.1 y.1)) P (distinct ys) others)

  all_bases : (most : ℕ) (entries : List GoalEntry) → All Fits entries → All P (bases most entries)
  all_bases most entries each =
      let feasible = λ (e : ℕ × GoalEntry). is_feasible e.1.verdict in
      let numbered = enumerate_from 1 entries in
      let some = All-filter feasible (λ (e : ℕ × GoalEntry). P (e.0, e.1.tokens)) numbered (all_enumerated 1 entries each) in
      let yield = All-map P (λ (e : ℕ × GoalEntry). (e.0, e.1.tokens)) (filter feasible numbered) some in
      All-take P most (distinct (yields entries)) (all_distinct (yields entries) yield)

module _ (plan : Plan) (is : IsFile plan.yacc.now) (of : Weighed) (same : of.grammar ≡ plan.yacc.now.grammar) (measure : IsMeasure of.weights) where
  editable_entry : (goal : Goal) (entry : GoalEntry) → IsEntryIn plan of goal entry → Fits (IsEditable plan.yacc.now.grammar.tokens) entry
  editable_entry goal entry h k = record {
    short = few_of of.weights measure of.grammar goal entry.verdict entry.tokens h.verdict h.tokens;
    tokens_of = subst (λ (n : ℕ). All (IsNumberOf n) entry.tokens) is.tokens (named_tokens plan.yacc.now is of.grammar entry.verdict entry.tokens same h.tokens);
  }

  all_editable : (gs : List Goal) (entries : List GoalEntry) → AllZip (IsEntryIn plan of) gs entries → All (Fits (IsEditable plan.yacc.now.grammar.tokens)) entries
  all_editable [] [] each = All-nil (Fits (IsEditable plan.yacc.now.grammar.tokens))
  all_editable [] (e ∷ es) each = absurd each
  all_editable (goal ∷ gs) [] each = absurd each
  all_editable (goal ∷ gs) (e ∷ es) each =
      All-cons (Fits (IsEditable plan.yacc.now.grammar.tokens)) e es (editable_entry goal e each.0) (all_editable gs es each.1)

  -- each base can be edited
  pub editable_bases : (most : ℕ) (entries : List GoalEntry) (kept : PlainBases) → AreEntriesIn plan of entries → kept ≡ bases_of most entries
      → All (IsEditable plan.yacc.now.grammar.tokens) kept.list
  editable_bases most entries kept are kept_is =
      subst (λ (b : PlainBases). All (IsEditable plan.yacc.now.grammar.tokens) b.list) (sym kept_is)
      (all_bases (IsEditable plan.yacc.now.grammar.tokens) most entries (all_editable (goals of.grammar plan.criteria) entries are))

-- there are no more than are wanted
pub few_bases : (most : ℕ) (entries : List GoalEntry) (kept : PlainBases) → kept ≡ bases_of most entries → length kept.list ≤ most
few_bases most entries kept is =
    omega (arith, ap (λ (b : PlainBases). length b.list) is, length-take most (distinct (yields entries)))
