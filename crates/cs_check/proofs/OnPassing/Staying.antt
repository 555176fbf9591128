-- A line that stays is right.
use Rattle.std.proofs.Common.{◌≡◌, ℕ, ◌+◌, ◌≤◌, true, List, [], ◌∷◌, ◌++◌, length, refl, sym, ap, ◌∙◌, subst, ⊎_elim, inl, inr, ◌⊎◌, arith}
use Rattle.std.specs.Prelude.{slice_get, count_by}
use Rattle.std.specs.List.{Contains}
use Rattle.std.proofs.lemmas.Bool.{false≢true}
use Rattle.std.proofs.lemmas.List.{length_push}
use Rattle.cs_grammar.specs.Sentence.{framed}
use Rattle.cs_lines.specs.Words.Edits.{EditWords}
use Rattle.cs_lines.specs.Lines.Line.{GoalWords, VerdictWords, Infeasible, Feasible, Large, Counts, Line, CaseLine, DeriveLine, TokensLine, TextLine, NoLexemeLine, NoScanLine, GoalLine, BaseLine, NegativeLine, EndLine}
use Rattle.cs_check.specs.declared.passing.fault.ClaimFault.TheVariants.{Form, Head, Unclosed, Derive, Size, Yield, Scan, Goal, Infeasible as OfInfeasible, Base, Edit, Pair, Totals}
use Rattle.cs_check.specs.Passing.Above.{edit_in, case_sizes, verdicts, edits, is_feasible, is_infeasible, is_large}
use Rattle.cs_check.specs.Passing.Head.{Due, head_size, whole_head, Takes, IsOfFile}
use Rattle.cs_check.specs.Passing.Places.{Part, OfNegative, OfNegativeTokens, tokens_part, text_part, part_of, last_part, next_parts, IsNumbered, IsInHead, IsBehindHead, MayCome}
use Rattle.cs_check.specs.Passing.Entries.{IsLast, IsTold}
use Rattle.cs_check.specs.Passing.Faults.{Checked, HasHead, HasClosed, HasDerivation, HasCaseSize, HasTokens, HasScan, HasGoal, HasExcluded, HasBase, HasEdit, HasPair, HasTotals, counted}
use Rattle.cs_check.specs.Checking.Judging.{IsRight}
use Rattle.cs_check.proofs.OnChecking.Told.{kept, added, last_part_more}
use Rattle.cs_check.proofs.OnChecking.Kinds.{is_head}
use Rattle.cs_check.proofs.OnPassing.Behind.{IsPast, size_stays, past_more, body_line, head_line, past_behind}
use Rattle.cs_check.proofs.OnPassing.Splits.{is_last, last_is}
use Rattle.cs_check.proofs.OnPassing.Alike.{alike_more, head_alike, measured_alike, cases_alike, due_alike, finished_alike, case_alike, base_alike, made_alike, claimed_back, excluded_alike, apart_alike}
use Rattle.cs_check.proofs.OnPassing.Changed.{IsChanged, head_same, head_kept, same_part, tell_same}
use Rattle.cs_check.proofs.OnPassing.Kin.{IsWithin, AreKin, kin_next, kin_part}
use Rattle.cs_check.proofs.OnPassing.Left.{AreLeft, told_kin}

-- what is asked of its number
abbrev pub IsCounted : List Line → Line → Type 0
IsCounted other (NegativeLine n base edit left right at) = n ≡ length (edits other) + 1
IsCounted other (EndLine counts) = counts.negatives ≡ length (edits other)
IsCounted other l = Unit {0}

-- the counts of an end line
abbrev numbers : ℕ → ℕ → ℕ → ℕ → ℕ → ℕ → Counts
numbers goals feasible infeasible large negatives cases = record {
  goals = goals;
  feasible = feasible;
  infeasible = infeasible;
  large = large;
  negatives = negatives;
  cases = cases;
}

module _ (c : Checked) (above other : List Line) (left : AreLeft c.file.grammar above other) where
  numbered_kin : (l k : Line) → IsChanged c.scanning l k → IsCounted other k → IsNumbered above l → IsNumbered other k
  numbered_kin (CaseLine n size) k h so was = subst (IsNumbered other) (sym h) (was ∙ ap (λ (s : List ℕ). length s + 1) (sym left.alike.sizes))
  numbered_kin (GoalLine n words verdict) k h so was =
      subst (IsNumbered other) (sym h) (was ∙ ap (λ (s : List GoalWords). length s + 1) (sym left.alike.goals))
  numbered_kin (BaseLine n goal) k h so was = subst (IsNumbered other) (sym h) (was ∙ ap (λ (s : List ℕ). length s + 1) (sym left.alike.bases))
  numbered_kin (NegativeLine n base edit l r at) k h so was = subst (IsNumbered other) (sym h.1) (subst (IsCounted other) h.1 so)
  numbered_kin (TextLine text) k h so was = subst (IsNumbered other) (sym h.1) tt
  numbered_kin (EndLine counts) k h so was = subst (IsNumbered other) (sym h.1) tt
  numbered_kin l k h so was = subst (IsNumbered other) (sym h) tt

  derive_kin : (l k : Line) → IsChanged c.scanning l k → HasDerivation c.file.grammar l → HasDerivation c.file.grammar k
  derive_kin (NegativeLine n base edit l r at) k h was = subst (HasDerivation c.file.grammar) (sym h.1) tt
  derive_kin (TextLine text) k h was = subst (HasDerivation c.file.grammar) (sym h.1) tt
  derive_kin (EndLine counts) k h was = subst (HasDerivation c.file.grammar) (sym h.1) tt
  derive_kin l k h was = subst (HasDerivation c.file.grammar) (sym h) was

  size_kin : (l k : Line) → IsChanged c.scanning l k → HasCaseSize c.file.grammar above l → HasCaseSize c.file.grammar other k
  size_kin (DeriveLine rules) k h was =
      subst (HasCaseSize c.file.grammar other) (sym h) (
        was.0,
        was.1,
        measured_alike above other left.alike was.0 was.2,
        subst (λ (s : List ℕ). IsLast s was.1) (sym left.alike.sizes) was.3,
        was.4,
      )
  size_kin (NegativeLine n base edit l r at) k h was = subst (HasCaseSize c.file.grammar other) (sym h.1) tt
  size_kin (TextLine text) k h was = subst (HasCaseSize c.file.grammar other) (sym h.1) tt
  size_kin (EndLine counts) k h was = subst (HasCaseSize c.file.grammar other) (sym h.1) tt
  size_kin l k h was = subst (HasCaseSize c.file.grammar other) (sym h) tt

  are_told : (tokens : List ℕ) → IsTold c.file above (last_part above) tokens → IsTold c.file other (last_part other) tokens
  are_told tokens h = told_kin c.file above other left.alike tokens (last_part above) (last_part other) left.part left.told h

  tokens_kin : (l k : Line) → IsChanged c.scanning l k → HasTokens c.file above l → HasTokens c.file other k
  tokens_kin (TokensLine names) k h was = subst (HasTokens c.file other) (sym h) (was.0, are_told was.0 was.1, was.2)
  tokens_kin (NegativeLine n base edit l r at) k h was = subst (HasTokens c.file other) (sym h.1) tt
  tokens_kin (TextLine text) k h was = subst (HasTokens c.file other) (sym h.1) tt
  tokens_kin (EndLine counts) k h was = subst (HasTokens c.file other) (sym h.1) tt
  tokens_kin l k h was = subst (HasTokens c.file other) (sym h) tt

  scan_kin : (l k : Line) → IsChanged c.scanning l k → HasScan c above l → HasScan c other k
  scan_kin (TextLine text) k h was = subst (HasScan c other) (sym h.1) (was.0, are_told was.0 was.1, h.2 was.0 was.2)
  scan_kin (NegativeLine n base edit l r at) k h was = subst (HasScan c other) (sym h.1) tt
  scan_kin (EndLine counts) k h was = subst (HasScan c other) (sym h.1) tt
  scan_kin l k h was = subst (HasScan c other) (sym h) tt

  goal_kin : (l k : Line) → IsChanged c.scanning l k → HasGoal c.file above l → HasGoal c.file other k
  goal_kin (GoalLine n words verdict) k h was =
      subst (HasGoal c.file other) (sym h) (
        was.0,
        due_alike above other left.alike c.file words was.0 was.1,
        cases_alike above other left.alike c.file.grammar verdict was.0 was.2,
      )
  goal_kin (BaseLine n goal) k h was = subst (HasGoal c.file other) (sym h) (finished_alike above other left.alike c.file.grammar was)
  goal_kin (EndLine counts) k h was = subst (HasGoal c.file other) (sym h.1) (finished_alike above other left.alike c.file.grammar was)
  goal_kin (NegativeLine n base edit l r at) k h was = subst (HasGoal c.file other) (sym h.1) tt
  goal_kin (TextLine text) k h was = subst (HasGoal c.file other) (sym h.1) tt
  goal_kin l k h was = subst (HasGoal c.file other) (sym h) tt

  excluded_kin : (l k : Line) → IsChanged c.scanning l k → HasExcluded c.file above l → HasExcluded c.file other k
  excluded_kin (GoalLine n words Infeasible) k h was =
      subst (HasExcluded c.file other) (sym h) (
        was.0,
        due_alike above other left.alike c.file words was.0 was.1,
        excluded_alike above other left.alike c.file was.0 was.2,
      )
  excluded_kin (GoalLine n words (Feasible size case first)) k h was = subst (HasExcluded c.file other) (sym h) tt
  excluded_kin (GoalLine n words Large) k h was = subst (HasExcluded c.file other) (sym h) tt
  excluded_kin (EndLine counts) k h was = subst (HasExcluded c.file other) (sym h.1) tt
  excluded_kin (NegativeLine n base edit l r at) k h was = subst (HasExcluded c.file other) (sym h.1) tt
  excluded_kin (TextLine text) k h was = subst (HasExcluded c.file other) (sym h.1) tt
  excluded_kin l k h was = subst (HasExcluded c.file other) (sym h) tt

  base_kin : (l k : Line) → IsChanged c.scanning l k → HasBase above l → HasBase other k
  base_kin (BaseLine n goal) k h was = subst (HasBase other) (sym h) (was.0, case_alike above other left.alike goal was.0 was.1)
  base_kin (NegativeLine n base edit l r at) k h was =
      subst (HasBase other) (sym h.1) (was ∙ ap (λ (s : List ℕ). length s) (sym left.alike.bases))
  base_kin (EndLine counts) k h was = subst (HasBase other) (sym h.1) tt
  base_kin (TextLine text) k h was = subst (HasBase other) (sym h.1) tt
  base_kin l k h was = subst (HasBase other) (sym h) tt

  edit_kin : (l k : Line) → IsChanged c.scanning l k → HasEdit c.file above l → HasEdit c.file other k
  edit_kin (NegativeLine n base edit l r at) k h was =
      subst (HasEdit c.file other) (sym h.1) (was.0, base_alike above other left.alike c.file was.0 was.1, was.2)
  edit_kin (EndLine counts) k h was = subst (HasEdit c.file other) (sym h.1) tt
  edit_kin (TextLine text) k h was = subst (HasEdit c.file other) (sym h.1) tt
  edit_kin l k h was = subst (HasEdit c.file other) (sym h) tt

  pair_kin : (l k : Line) → IsChanged c.scanning l k → HasPair c.file above l → HasPair c.file other k
  pair_kin (NegativeLine n base edit l r at) k h was =
      subst (HasPair c.file other) (sym h.1) (
        was.0,
        made_alike above other left.alike c.file edit was.0 was.1,
        apart_alike above other left.alike c.file (framed was.0) at l r was.2,
      )
  pair_kin (EndLine counts) k h was = subst (HasPair c.file other) (sym h.1) tt
  pair_kin (TextLine text) k h was = subst (HasPair c.file other) (sym h.1) tt
  pair_kin l k h was = subst (HasPair c.file other) (sym h) tt

  totals_kin : (l k : Line) → IsChanged c.scanning l k → IsCounted other k → HasTotals above l → HasTotals other k
  totals_kin (EndLine counts) k h so was = subst (HasTotals other) (sym h.1) (recounted h.0 counts (subst (IsCounted other) h.1 so) was)
    where
      recounted : (negatives : ℕ) (counts : Counts) → negatives ≡ length (edits other) → counts ≡ counted above → record counts { negatives = negatives } ≡ counted other
      recounted negatives counts so was =
          ap (λ (x : Counts). record x { negatives = negatives }) was
          ∙ ap (λ (n : ℕ). record (counted above) { negatives = n }) so
          ∙ ap (λ (v : List VerdictWords). numbers (length v) (count_by is_feasible v) (count_by is_infeasible v) (count_by is_large v) (length (edits other)) (length (case_sizes above))) (sym left.alike.verdicts)
          ∙ ap (λ (s : List ℕ). numbers (length (verdicts other)) (count_by is_feasible (verdicts other)) (count_by is_infeasible (verdicts other)) (count_by is_large (verdicts other)) (length (edits other)) (length s)) (sym left.alike.sizes)
  totals_kin (NegativeLine n base edit l r at) k h so was = subst (HasTotals other) (sym h.1) tt
  totals_kin (TextLine text) k h so was = subst (HasTotals other) (sym h.1) tt
  totals_kin l k h so was = subst (HasTotals other) (sym h) tt

  tokens_within : (p : Part) → IsWithin (tokens_part p) → IsWithin p
  tokens_within OfNegative h = tt
  tokens_within p h = absurd h

  text_within : (p : Part) → IsWithin (text_part p) → ⊥
  text_within OfNegativeTokens h = h
  text_within p h = h

  edits_more : (l k : Line) → IsChanged c.scanning l k → IsWithin (part_of (last_part above) l) → (edit : EditWords) → IsLast (edits (above ++ l ∷ [])) edit → IsLast (edits (other ++ k ∷ [])) edit
  edits_more (NegativeLine n base e l r at) k h within edit last =
      let is : edit ≡ e = last_is (edits above) e edit (subst (λ (s : List EditWords). IsLast s edit) (added edit_in above (NegativeLine n base e l r at) e refl) last) in
      let there : edits (other ++ k ∷ []) ≡ edits other ++ e ∷ [] = ap (λ (x : Line). edits (other ++ x ∷ [])) h.1 ∙ added edit_in other (NegativeLine h.0 base e l r at) e refl in
      subst (λ (s : List EditWords). IsLast s edit) (sym there) (subst (λ (x : EditWords). IsLast (edits other ++ e ∷ []) x) (sym is) (is_last (edits other) e))
  edits_more (TokensLine names) k h within edit last =
      let there : edits (other ++ k ∷ []) ≡ edits other = ap (λ (x : Line). edits (other ++ x ∷ [])) h ∙ kept edit_in other (TokensLine names) refl in
      subst (λ (s : List EditWords). IsLast s edit) (sym there)
      (left.told (tokens_within (last_part above) within) edit (subst (λ (s : List EditWords). IsLast s edit) (kept edit_in above (TokensLine names) refl) last))
  edits_more (TextLine text) k h within edit last = absurd (text_within (last_part above) within)
  edits_more (NoLexemeLine name) k h within edit last = absurd (text_within (last_part above) within)
  edits_more (NoScanLine after) k h within edit last = absurd (text_within (last_part above) within)
  edits_more l k h within edit last = absurd within

  module _ (l k : Line) (changed : IsChanged c.scanning l k) (right : IsRight c above l) (so : IsCounted other k) where
    same_long : is_head l ≡ true → length other ≡ length above
    same_long head =
        ⊎_elim
        (λ (e : length other ≡ length above). e)
        (λ (past : IsPast c.file.grammar above × (head_size c.file.grammar above ≤ length other)).
        absurd (false≢true (sym (body_line c.file.grammar above l (past_behind c.file.grammar above l past.0 (right Form))) ∙ head)))
        left.long

    record WasInHead (h : IsInHead c.file.grammar other k) : Type 0 where
      same : k ≡ l
      long : length other ≡ length above
      was : IsInHead c.file.grammar above l
      due : was.due ≡ h.due

    was_in_head : (h : IsInHead c.file.grammar other k) → WasInHead h
    was_in_head h =
        let head = head_line c.file.grammar other k h in
        let e = head_same c.scanning l k changed head in
        let long = same_long (sym (ap is_head e) ∙ head) in
        let size = head_alike above other left.alike c.file.grammar in
        let within = h.within in
        record {
          same = e;
          long = long;
          was = record {
            within = omega (arith, within, size, long);
            due = h.due;
            is_due = ap (slice_get (whole_head c.file.grammar)) (sym long) ∙ h.is_due;
            takes = subst (λ (x : Line). Takes h.due x) e h.takes;
          };
          due = refl;
        }

    form_kin : MayCome c.file.grammar other k
    form_kin = ⊎_elim (λ (h : IsInHead c.file.grammar above l). inl (in_head h)) (λ (h : IsBehindHead c.file.grammar above l). inr (behind_head h)) (right Form)
      where
        size : head_size c.file.grammar other ≡ head_size c.file.grammar above
        size = head_alike above other left.alike c.file.grammar

        in_head : IsInHead c.file.grammar above l → IsInHead c.file.grammar other k
        in_head h =
            let head = head_line c.file.grammar above l h in
            let e = head_kept c.scanning l k changed head in
            let long = same_long head in
            let same_size = size in
            let within = h.within in
            record {
              within = omega (arith, within, same_size, long);
              due = h.due;
              is_due = ap (slice_get (whole_head c.file.grammar)) long ∙ h.is_due;
              takes = subst (λ (x : Line). Takes h.due x) (sym e) h.takes;
            }

        behind_head : IsBehindHead c.file.grammar above l → IsBehindHead c.file.grammar other k
        behind_head h =
            let same_size = size in
            let behind = h.behind in
            let p = last_part above in
            let q = last_part other in
            record {
              behind =
                  ⊎_elim
                  (λ (e : length other ≡ length above). let low : head_size c.file.grammar other ≤ length other = omega (arith, e, same_size, behind) in low)
                  (λ (past : IsPast c.file.grammar above × (head_size c.file.grammar above ≤ length other)).
                  let high = past.1 in
                  let low : head_size c.file.grammar other ≤ length other = omega (arith, high, same_size) in
                  low)
                  left.long;
              part =
                  subst (λ (n : List Part). Contains n (part_of q k)) (sym (kin_next p q left.part))
                  (subst (λ (x : Part). Contains (next_parts p) x) (sym (same_part c.scanning q l k changed ∙ kin_part p q left.part l)) h.part);
              numbered = numbered_kin l k changed so h.numbered;
            }

    head_kin : HasHead c.file other k
    head_kin h =
        let b = was_in_head h in
        subst (λ (x : Line). IsOfFile c.file h.due x) (sym b.same) (subst (λ (d : Due). IsOfFile c.file d l) b.due (right Head b.was))

    closed_kin : HasClosed c.file other k
    closed_kin h whole s claimed =
        let b = was_in_head h in
        right Unclosed b.was (ap (λ (n : ℕ). n + 1) (sym b.long) ∙ whole) s
        (claimed_back (above ++ l ∷ []) (other ++ k ∷ []) (alike_more above other l k left.alike (tell_same c.scanning l k changed)) c.file s claimed)

    pub right_kin : IsRight c other k
    right_kin Form = form_kin
    right_kin Head = head_kin
    right_kin Unclosed = closed_kin
    right_kin Derive = derive_kin l k changed (right Derive)
    right_kin Size = size_kin l k changed (right Size)
    right_kin Yield = tokens_kin l k changed (right Yield)
    right_kin Scan = scan_kin l k changed (right Scan)
    right_kin Goal = goal_kin l k changed (right Goal)
    right_kin OfInfeasible = excluded_kin l k changed (right OfInfeasible)
    right_kin Base = base_kin l k changed (right Base)
    right_kin Edit = edit_kin l k changed (right Edit)
    right_kin Pair = pair_kin l k changed (right Pair)
    right_kin Totals = totals_kin l k changed so (right Totals)

    -- ---- and so is what stands below it

    pub left_more : AreLeft c.file.grammar (above ++ l ∷ []) (other ++ k ∷ [])
    left_more = record {
      alike = alike_more above other l k left.alike (tell_same c.scanning l k changed);
      long = long;
      part = inl_part;
      told = told;
    }
      where
        more_above : length (above ++ l ∷ []) ≡ length above + 1
        more_above = length_push above l

        more_other : length (other ++ k ∷ []) ≡ length other + 1
        more_other = length_push other k

        long : (length (other ++ k ∷ []) ≡ length (above ++ l ∷ [])) ⊎ (IsPast c.file.grammar (above ++ l ∷ []) × (head_size c.file.grammar (above ++ l ∷ []) ≤ length (other ++ k ∷ [])))
        long =
            ⊎_elim
            (λ (e : length other ≡ length above).
            let a = more_above in
            let b = more_other in
            let same : length (other ++ k ∷ []) ≡ length (above ++ l ∷ []) = omega (arith, a, b, e) in
            inl same)
            (λ (past : IsPast c.file.grammar above × (head_size c.file.grammar above ≤ length other)).
            let body = body_line c.file.grammar above l (past_behind c.file.grammar above l past.0 (right Form)) in
            let before = past.0 in
            let high = past.1 in
            let low : head_size c.file.grammar above ≤ length above = omega (arith, before) in
            let size = size_stays c.file.grammar above l body in
            let b = more_other in
            let there : head_size c.file.grammar (above ++ l ∷ []) ≤ length (other ++ k ∷ []) = omega (arith, high, size, b) in
            inr (past_more c.file.grammar above l body low, there))
            left.long

        inl_part : AreKin (last_part (above ++ l ∷ [])) (last_part (other ++ k ∷ []))
        inl_part =
            inl (last_part_more other k ∙ same_part c.scanning (last_part other) l k changed ∙ kin_part (last_part above) (last_part other) left.part l ∙ sym (last_part_more above l))

        told : IsWithin (last_part (above ++ l ∷ [])) → (edit : EditWords) → IsLast (edits (above ++ l ∷ [])) edit → IsLast (edits (other ++ k ∷ [])) edit
        told within edit last = edits_more l k changed (subst IsWithin (last_part_more above l) within) edit last
