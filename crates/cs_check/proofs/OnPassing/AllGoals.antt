-- The goal lines of right lines: of each criterion all goals, in order.
use Rattle.std.proofs.Common.{◌≡◌, ◌≢◌, ℕ, ◌+◌, ◌<◌, ◌≤◌, Bool, true, false, cond, List, [], ◌∷◌, ◌++◌, Option, Some, take, map, length, refl, sym, ap, ◌∙◌, subst, ⊎_elim, inl, inr, ◌⊎◌, append_assoc, append-nil, take_all, eq-eqb, ne_eqb, arith}
use Rattle.std.specs.Prelude.{slice_get}
use Rattle.std.specs.List.{Contains, filter}
use Rattle.std.proofs.lemmas.Bool.{cases_lt}
use Rattle.std.proofs.lemmas.List.{take_more, map-append}
use Rattle.std.proofs.lemmas.List.Elements.{filter-append, Contains-push_cases}
use Rattle.std.proofs.lemmas.List.Sums.{sum_by_push}
use Rattle.std.proofs.lemmas.Option.{slice_get_within, get_or_from_slice_get}
use Rattle.cs_grammar.specs.Grammar.{PlainGrammar}
use Rattle.cs_goals.specs.declared.goal.Goal.{Goal}
use Rattle.cs_yacc.specs.Reading.File.{File}
use Rattle.cs_lines.specs.Lines.Line.{GoalWords}
use Rattle.cs_check.specs.Passing.Goals.{criterion, is_of, list_of, told, words_of, last_goal, IsDue, IsAtEnd, MayFollow, AreFinished, AreFinishedBehind}
use Rattle.cs_check.proofs.OnPassing.First.{Bare, Ended, back}
use Rattle.cs_check.proofs.OnDueGoals.{last_told, same_list, same_told, told_more}

-- ---- numbers

pub alike : (n m : ℕ) → (n ≡ m) ⊎ (n ≢ m)
alike n m =
    ⊎_elim (λ (less : n < m). inr (λ (e : n ≡ m). omega (arith, less, e)))
    (λ (high : m ≤ n).
    ⊎_elim (λ (less : m < n). inr (λ (e : n ≡ m). omega (arith, less, e))) (λ (low : n ≤ m). let e : n ≡ m = omega (arith, high, low) in inl e) (cases_lt m n))
    (cases_lt n m)

none_in : {A : Type 0} (x : A) → Contains [] x → ⊥
none_in x h = let low = h.1 in omega (arith, low)

-- ---- what is known of the goals so far

-- of each criterion so many goals of its list, in order; and the lists of all but the last goal's criterion are at their ends
record AreInOrder (file : File) (ws : List GoalWords) : Type 0 where
  lists : (v : GoalWords) → filter (is_of (criterion v)) ws ≡ map (words_of file) (take (told ws v) (list_of file.grammar v))
  ends : (v last : GoalWords) → Contains ws v → last_goal ws ≡ Some last → (criterion v ≡ criterion last) ⊎ IsAtEnd file.grammar ws v

in_order_none : (file : File) → AreInOrder file []
in_order_none file = record {
  lists = λ v. refl;
  ends = λ v last within e. absurd (none_in v within);
}

at_end_same : (g : PlainGrammar) (ws : List GoalWords) (v w : GoalWords) → criterion v ≡ criterion w → IsAtEnd g ws w → IsAtEnd g ws v
at_end_same g ws v w e h = same_told ws v w e ∙ h ∙ ap length (sym (same_list g v w e))

module _ (file : File) (ws : List GoalWords) (w : GoalWords) where
  others_stay : (v : GoalWords) → criterion v ≢ criterion w → told (ws ++ w ∷ []) v ≡ told ws v
  others_stay v apart =
      let other : is_of (criterion v) w ≡ false = ne_eqb (criterion w) (criterion v) (λ e. apart (sym e)) in
      let still : told ws v + 0 ≡ told ws v = omega arith in
      sum_by_push (λ (x : GoalWords). cond (is_of (criterion v) x) 1 0) ws w
      ∙ ap (λ (b : Bool). told ws v + cond b 1 0) other
      ∙ still

  module _ (goal : Goal) (before : AreInOrder file ws) (due : IsDue file ws w goal) where
    list_here : (v : GoalWords) → criterion v ≡ criterion w → filter (is_of (criterion v)) (ws ++ w ∷ []) ≡ map (words_of file) (take (told (ws ++ w ∷ []) v) (list_of file.grammar v))
    list_here v e =
        let k = told ws v in
        let goals = list_of file.grammar v in
        let at : slice_get goals k ≡ Some goal =
        ap (λ (l : List Goal). slice_get l k) (same_list file.grammar v w e) ∙ ap (slice_get (list_of file.grammar w)) (same_told ws v w e) ∙ due.next in
        let within = slice_get_within goals k goal at in
        let is = get_or_from_slice_get goals k goal goal at in
        let here : is_of (criterion v) w ≡ true = eq-eqb (criterion w) (criterion v) (sym e) in
        let more : take (k + 1) goals ≡ take k goals ++ goal ∷ [] = take_more goals k goal within ∙ ap (λ (x : Goal). take k goals ++ x ∷ []) is in
        filter-append (is_of (criterion v)) ws (w ∷ [])
        ∙ ap (λ (b : Bool). filter (is_of (criterion v)) ws ++ cond b (w ∷ []) []) here
        ∙ ap (λ (l : List GoalWords). l ++ w ∷ []) (before.lists v)
        ∙ ap (λ (x : GoalWords). map (words_of file) (take k goals) ++ x ∷ []) due.are_words
        ∙ sym (map-append (words_of file) (take k goals) (goal ∷ []))
        ∙ ap (map (words_of file)) (sym more)
        ∙ ap (λ (n : ℕ). map (words_of file) (take n goals)) (sym (told_more ws v w e))

    list_there : (v : GoalWords) → criterion v ≢ criterion w → filter (is_of (criterion v)) (ws ++ w ∷ []) ≡ map (words_of file) (take (told (ws ++ w ∷ []) v) (list_of file.grammar v))
    list_there v apart =
        let other : is_of (criterion v) w ≡ false = ne_eqb (criterion w) (criterion v) (λ e. apart (sym e)) in
        filter-append (is_of (criterion v)) ws (w ∷ [])
        ∙ ap (λ (b : Bool). filter (is_of (criterion v)) ws ++ cond b (w ∷ []) []) other
        ∙ append-nil (filter (is_of (criterion v)) ws)
        ∙ before.lists v
        ∙ ap (λ (n : ℕ). map (words_of file) (take n (list_of file.grammar v))) (sym (others_stay v apart))

    -- a goal of another criterion above is of one whose list is at its end
    ended_before : (v : GoalWords) → criterion v ≢ criterion w → Contains ws v → IsAtEnd file.grammar ws v
    ended_before v apart within =
        elim (back ws) [
          | Bare none ↦ absurd (none_in v (subst (λ (l : List GoalWords). Contains l v) none within))
          | Ended init u is ↦
              (let last : last_goal ws ≡ Some u = ap last_goal is ∙ last_told init u in
              let follows : MayFollow file.grammar ws (Some u) w = subst (λ (o : Option GoalWords). MayFollow file.grammar ws o w) last due.follows in
              ⊎_elim
              (λ (same : criterion v ≡ criterion u).
              ⊎_elim
              (λ (here : criterion w ≡ criterion u). absurd (apart (same ∙ sym here)))
              (λ (later : (criterion u < criterion w) × IsAtEnd file.grammar ws u). at_end_same file.grammar ws v u same later.1)
              follows)
              (λ (finished : IsAtEnd file.grammar ws v). finished)
              (before.ends v u within last))
        ]

    in_order_more : AreInOrder file (ws ++ w ∷ [])
    in_order_more = record {
      lists = λ v. ⊎_elim (λ (e : criterion v ≡ criterion w). list_here v e) (λ (apart : criterion v ≢ criterion w). list_there v apart) (alike (criterion v) (criterion w));
      ends = ends;
    }
      where
        ends : (v last : GoalWords) → Contains (ws ++ w ∷ []) v → last_goal (ws ++ w ∷ []) ≡ Some last → (criterion v ≡ criterion last) ⊎ IsAtEnd file.grammar (ws ++ w ∷ []) v
        ends v last within e =
            let told_last : Some w ≡ Some last = sym (last_told ws w) ∙ e in
            let is : w ≡ last = cc in
            ⊎_elim
            (λ (same : criterion v ≡ criterion w). inl (same ∙ ap criterion is))
            (λ (apart : criterion v ≢ criterion w).
            ⊎_elim
            (λ (among : Contains ws v). inr (others_stay v apart ∙ ended_before v apart among))
            (λ (here : w ≡ v). absurd (apart (ap criterion (sym here))))
            (Contains-push_cases ws w v within))
            (alike (criterion v) (criterion w))

-- ---- all goals

-- each goal of the list is due
abbrev pub AreDue : File → List GoalWords → Type 0
AreDue file ws = (above : List GoalWords) (w : GoalWords) (below : List GoalWords) → ws ≡ above ++ w ∷ below → (goal : Goal) × IsDue file above w goal

in_order : (file : File) (rest ws : List GoalWords) → AreDue file (ws ++ rest) → AreInOrder file ws → AreInOrder file (ws ++ rest)
in_order file [] ws due h = subst (AreInOrder file) (sym (append-nil ws)) h
in_order file (w ∷ rest) ws due h =
    let here = due ws w rest refl in
    let e = append_assoc ws (w ∷ []) rest in
    subst (AreInOrder file) e
    (in_order file rest (ws ++ w ∷ []) (subst (AreDue file) (sym e) due) (in_order_more file ws w here.0 h here.1))

pub all_goals : (file : File) (ws : List GoalWords) → AreDue file ws → AreFinished file.grammar ws → (v : GoalWords) → Contains ws v → filter (is_of (criterion v)) ws ≡ map (words_of file) (list_of file.grammar v)
all_goals file ws due finished v within =
    let h = in_order file ws [] due (in_order_none file) in
    let g = file.grammar in
    let whole : IsAtEnd g ws v =
    elim (back ws) [
      | Bare none ↦ absurd (none_in v (subst (λ (l : List GoalWords). Contains l v) none within))
      | Ended init u is ↦
          (let last : last_goal ws ≡ Some u = ap last_goal is ∙ last_told init u in
          let at_end : IsAtEnd g ws u = subst (λ (o : Option GoalWords). AreFinishedBehind g ws o) last finished in
          ⊎_elim
          (λ (same : criterion v ≡ criterion u). at_end_same g ws v u same at_end)
          (λ (there : IsAtEnd g ws v). there)
          (h.ends v u within last))
    ] in
    let low : length (list_of g v) ≤ told ws v = omega (arith, whole) in
    h.lists v ∙ ap (map (words_of file)) (take_all (told ws v) (list_of g v) low)
