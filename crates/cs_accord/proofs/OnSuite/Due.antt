-- The goals of the chosen criteria, in order, are due one behind the other, and at their end all are told.
use Rattle.std.proofs.Common.{◌≡◌, ℕ, ◌+◌, ◌<◌, ◌≤◌, inl, inr, Bool, true, false, List, [], ◌∷◌, ◌++◌, length, length-append, map, refl, sym, ap, ◌∙◌, subst, append_assoc, append-nil, Option, None, Some, arith}
use Rattle.std.specs.Prelude.{slice_get, if◌then◌else◌}
use Rattle.std.specs.List.{flat_map, range_with_len, enumerate_from}
use Rattle.cs_grammar.specs.Grammar.{Production}
use Rattle.cs_grammar.specs.declared.symbol.Symbol.{Symbol}
use Rattle.cs_grammar.specs.declared.symbol.Symbol.TheVariants as symbols
use Rattle.cs_choices.specs.declared.criteria.Criteria.{Criteria}
use Rattle.cs_goals.specs.declared.goal.Goal.{Goal}
use Rattle.cs_goals.specs.declared.goal.Goal.TheVariants.{Rule, Context, Pair}
use Rattle.cs_goals.specs.Goals.{rule_goals, context_goals, pair_goals, goals, goals_at, goals_in, goals_after, left_marks, numbered_rules, right_marks}
use Rattle.cs_yacc.specs.Reading.File.{File}
use Rattle.cs_lines.specs.Lines.Line.{GoalWords, OfRule, OfContext, OfPair}
use Rattle.cs_check.specs.Passing.Goals.{words_of, criterion, list_of, told, last_goal, IsDue, MayFollow, AreFinished, AreFinishedBehind, IsAtEnd}
use Rattle.cs_check.proofs.OnDueGoals.{last_told, same_list, same_told, told_more, told_still}
use Rattle.cs_accord.proofs.OnSuite.Lists.{seam}

module _ (file : File) where
  -- these goals are due one behind the other, below those
  abbrev pub AreDue : List GoalWords → List Goal → Type 0
  AreDue above [] = Unit {0}
  AreDue above (goal ∷ rest) = IsDue file above (words_of file goal) goal × AreDue (above ++ words_of file goal ∷ []) rest

  abbrev pub words_in : List Goal → List GoalWords
  words_in list = map (words_of file) list

  due_both : (above : List GoalWords) (xs ys : List Goal) → AreDue above xs → AreDue (above ++ words_in xs) ys → AreDue above (xs ++ ys)
  due_both above [] ys first second = subst (λ (a : List GoalWords). AreDue a ys) (append-nil above) second
  due_both above (x ∷ xs) ys first second = (
    first.0,
    due_both (above ++ words_of file x ∷ []) xs ys first.1
        (subst (λ (a : List GoalWords). AreDue a ys) (sym (append_assoc above (words_of file x ∷ []) (words_in xs))) second),
  )

  -- goals of one criterion
  abbrev AreOf : GoalWords → List Goal → Type 0
  AreOf w [] = Unit {0}
  AreOf w (goal ∷ rest) = (criterion (words_of file goal) ≡ criterion w) × AreOf w rest

  of_both : (w : GoalWords) (xs ys : List Goal) → AreOf w xs → AreOf w ys → AreOf w (xs ++ ys)
  of_both w [] ys h k = k
  of_both w (x ∷ xs) ys h k = (h.0, of_both w xs ys h.1 k)

  of_map : {A : Type 0} (w : GoalWords) (f : A → Goal) → ((x : A) → criterion (words_of file (f x)) ≡ criterion w) → (xs : List A) → AreOf w (map f xs)
  of_map w f each [] = tt
  of_map w f each (x ∷ xs) = (each x, of_map w f each xs)

  of_flat : {A : Type 0} (w : GoalWords) (f : A → List Goal) → ((x : A) → AreOf w (f x)) → (xs : List A) → AreOf w (flat_map f xs)
  of_flat w f each [] = tt
  of_flat w f each (x ∷ xs) = of_both w (f x) (flat_map f xs) (each x) (of_flat w f each xs)

  rules_of_kind : AreOf (OfRule 0) (rule_goals file.grammar)
  rules_of_kind = of_map (OfRule 0) Rule (λ r. refl) (range_with_len 1 (length file.grammar.rules))

  at_of_kind : (p : ℕ) (e : ℕ × Symbol) → AreOf (OfContext 0 0 0) (goals_at file.grammar p e)
  at_of_kind p (i, symbols.Token t) = tt
  at_of_kind p (i, symbols.Nonterminal n) = of_map (OfContext 0 0 0) (Context p i) (λ q. refl) _

  in_of_kind : (r : ℕ × Production) → AreOf (OfContext 0 0 0) (goals_in file.grammar r)
  in_of_kind (p, rule) = of_flat (OfContext 0 0 0) (goals_at file.grammar p) (at_of_kind p) (enumerate_from 1 rule.right)

  contexts_of_kind : AreOf (OfContext 0 0 0) (context_goals file.grammar)
  contexts_of_kind = of_flat (OfContext 0 0 0) (goals_in file.grammar) in_of_kind (numbered_rules file.grammar)

  pairs_of_kind : AreOf (OfPair [] []) (pair_goals file.grammar)
  pairs_of_kind =
      of_flat (OfPair [] []) (goals_after file.grammar.tokens) (λ a. of_map (OfPair [] []) (Pair a) (λ b. refl) (right_marks file.grammar.tokens)) (left_marks file.grammar.tokens)

  -- ---- one criterion's list

  -- the last goal is of the criterion
  record IsLastOf (w : GoalWords) (o : Option GoalWords) : Type 0 where
    words : GoalWords
    is : o ≡ Some words
    same : criterion words ≡ criterion w

  -- behind all goals of the criterion
  record IsThrough (w : GoalWords) (before above : List GoalWords) : Type 0 where
    all : told above w ≡ length (list_of file.grammar w)
    last : IsLastOf w (last_goal above)
    others : (v : GoalWords) → criterion w < criterion v → told above v ≡ told before v

  module _ (w : GoalWords) where
    due_here : (above : List GoalWords) (pre : List Goal) (goal : Goal) (rest : List Goal) → list_of file.grammar w ≡ pre ++ goal ∷ rest → criterion (words_of file goal) ≡ criterion w → told above w ≡ length pre
        → MayFollow file.grammar above (last_goal above) (words_of file goal) → IsDue file above (words_of file goal) goal
    due_here above pre goal rest place kind many follows = record {
      follows = follows;
      next =
          ap (λ (l : List Goal). slice_get l (told above (words_of file goal))) (same_list file.grammar (words_of file goal) w kind ∙ place)
          ∙ ap (slice_get (pre ++ goal ∷ rest)) (same_told above (words_of file goal) w kind ∙ many)
          ∙ seam pre goal rest;
      are_words = refl;
    }

    more_told : (above : List GoalWords) (goal : Goal) → criterion (words_of file goal) ≡ criterion w → told (above ++ words_of file goal ∷ []) w ≡ told above w + 1
    more_told above goal kind = told_more above w (words_of file goal) (sym kind)

    still_told : (above : List GoalWords) (goal : Goal) (v : GoalWords) → criterion (words_of file goal) ≡ criterion w → criterion w < criterion v → told (above ++ words_of file goal ∷ []) v ≡ told above v
    still_told above goal v kind less = told_still above v (words_of file goal) (omega (arith, kind, less))

    last_is : (above : List GoalWords) (goal : Goal) → criterion (words_of file goal) ≡ criterion w → IsLastOf w (last_goal (above ++ words_of file goal ∷ []))
    last_is above goal kind = record { words = words_of file goal; is = last_told above (words_of file goal); same = kind }

    may_follow : (above : List GoalWords) (goal : Goal) → criterion (words_of file goal) ≡ criterion w → IsLastOf w (last_goal above) → MayFollow file.grammar above (last_goal above) (words_of file goal)
    may_follow above goal kind last =
        subst (λ (o : Option GoalWords). MayFollow file.grammar above o (words_of file goal)) (sym last.is) (inl (kind ∙ sym last.same))

    run : (above : List GoalWords) (pre rest : List Goal) → list_of file.grammar w ≡ pre ++ rest → AreOf w rest → told above w ≡ length pre → IsLastOf w (last_goal above)
        → AreDue above rest × IsThrough w above (above ++ words_in rest)
    run above pre [] place kinds many last = (
      tt,
      subst (λ (a : List GoalWords). IsThrough w above a) (sym (append-nil above))
          (record {
            all = many ∙ ap (λ (l : List Goal). length l) (sym (place ∙ append-nil pre));
            last = last;
            others = λ v less. refl;
          }),
    )
    run above pre (goal ∷ rest) place kinds many last =
        let next = above ++ words_of file goal ∷ [] in
        let long = length-append pre (goal ∷ []) in
        let told_next = more_told above goal kinds.0 in
        let more = run next (pre ++ goal ∷ []) rest (place ∙ sym (append_assoc pre (goal ∷ []) rest)) kinds.1 (omega (arith, told_next, many, long)) (last_is above goal kinds.0) in (
          (due_here above pre goal rest place kinds.0 many (may_follow above goal kinds.0 last), more.0),
          subst (λ (a : List GoalWords). IsThrough w above a) (append_assoc above (words_of file goal ∷ []) (words_in rest))
              (record {
                all = more.1.all;
                last = more.1.last;
                others = λ v less. more.1.others v less ∙ still_told above goal v kinds.0 less;
              }),
        )

  -- ---- one criterion behind another

  -- the last goal, if there is one, is of an earlier criterion
  abbrev IsEarlier : ℕ → Option GoalWords → Type 0
  IsEarlier k None = Unit {0}
  IsEarlier k (Some last) = criterion last < k

  -- no goal of this criterion or a later one is told, and the list of the last goal is at its end
  record IsReady (k : ℕ) (above : List GoalWords) : Type 0 where
    finished : AreFinished file.grammar above
    earlier : IsEarlier k (last_goal above)
    none : (v : GoalWords) → k ≤ criterion v → told above v ≡ 0

  may_later : (above : List GoalWords) (o : Option GoalWords) (k : ℕ) (v : GoalWords) → criterion v ≡ k → IsEarlier k o → AreFinishedBehind file.grammar above o → MayFollow file.grammar above o v
  may_later above None k v is earlier finished = tt
  may_later above (Some last) k v is earlier finished = inr (omega (arith, is, earlier), finished)

  earlier_more : (k : ℕ) (o : Option GoalWords) → IsEarlier k o → IsEarlier (k + 1) o
  earlier_more k None h = tt
  earlier_more k (Some last) h = omega (arith, h)

  ready_still : (k : ℕ) (above : List GoalWords) → IsReady k above → IsReady (k + 1) above
  ready_still k above r = record {
    finished = r.finished;
    earlier = earlier_more k (last_goal above) r.earlier;
    none = λ v least. r.none v (omega (arith, least));
  }

  ready_then : (w : GoalWords) (k : ℕ) (before above : List GoalWords) → criterion w ≡ k → IsReady k before → IsThrough w before above → IsReady (k + 1) above
  ready_then w k before above is r t = record {
    finished = subst (λ (o : Option GoalWords). AreFinishedBehind file.grammar above o) (sym t.last.is) at_end;
    earlier = subst (λ (o : Option GoalWords). IsEarlier (k + 1) o) (sym t.last.is) (let same = t.last.same in omega (arith, same, is));
    none = λ v least. t.others v (omega (arith, least, is)) ∙ r.none v (omega (arith, least));
  }
    where
      at_end : IsAtEnd file.grammar above t.last.words
      at_end =
          same_told above t.last.words w t.last.same ∙ t.all
          ∙ ap (λ (l : List Goal). length l) (sym (same_list file.grammar t.last.words w t.last.same))

  segment : (w : GoalWords) (k : ℕ) (above : List GoalWords) (list : List Goal) → list ≡ list_of file.grammar w → AreOf w list → criterion w ≡ k → IsReady k above
      → AreDue above list × IsReady (k + 1) (above ++ words_in list)
  segment w k above [] whole kinds is r = (tt, subst (IsReady (k + 1)) (sym (append-nil above)) (ready_still k above r))
  segment w k above (goal ∷ rest) whole kinds is r =
      let next = above ++ words_of file goal ∷ [] in
      let none = r.none w (omega (arith, is)) in
      let more = more_told w above goal kinds.0 in
      let through = run w next (goal ∷ []) rest (sym whole) kinds.1 (omega (arith, more, none)) (last_is w above goal kinds.0) in
      let all : IsThrough w above (next ++ words_in rest) =
      record { all = through.1.all; last = through.1.last; others = λ v less. through.1.others v less ∙ still_told w above goal v kinds.0 less } in (
        (
          due_here w above [] goal rest (sym whole) kinds.0 none
              (may_later above (last_goal above) k (words_of file goal) (kinds.0 ∙ is) r.earlier r.finished),
          through.0,
        ),
        subst (IsReady (k + 1)) (append_assoc above (words_of file goal ∷ []) (words_in rest)) (ready_then w k above (next ++ words_in rest) is r all),
      )

  -- a criterion that is chosen, or isn't
  chosen : (b : Bool) (w : GoalWords) (k : ℕ) (above : List GoalWords) → AreOf w (list_of file.grammar w) → criterion w ≡ k → IsReady k above
      → AreDue above (if b then list_of file.grammar w else []) × IsReady (k + 1) (above ++ words_in (if b then list_of file.grammar w else []))
  chosen true w k above kinds is r = segment w k above (list_of file.grammar w) refl kinds is r
  chosen false w k above kinds is r = (tt, subst (IsReady (k + 1)) (sym (append-nil above)) (ready_still k above r))

  words_both : (xs ys : List Goal) → words_in (xs ++ ys) ≡ words_in xs ++ words_in ys
  words_both [] ys = refl
  words_both (x ∷ xs) ys = ap (λ (l : List GoalWords). words_of file x ∷ l) (words_both xs ys)

  module _ (c : Criteria) where
    start : IsReady 0 []
    start = record { finished = tt; earlier = tt; none = λ v least. refl }

    pub all_due : AreDue [] (goals file.grammar c) × AreFinished file.grammar (words_in (goals file.grammar c))
    all_due =
        let first = chosen c.rule (OfRule 0) 0 [] rules_of_kind refl start in
        let xs = if c.rule then rule_goals file.grammar else [] in
        let second = chosen c.cdrc (OfContext 0 0 0) 1 (words_in xs) contexts_of_kind refl first.1 in
        let ys = if c.cdrc then context_goals file.grammar else [] in
        let third = chosen c.pair (OfPair [] []) 2 (words_in xs ++ words_in ys) pairs_of_kind refl second.1 in
        let zs = if c.pair then pair_goals file.grammar else [] in
        let both = words_both xs ys in (
          due_both [] (xs ++ ys) zs (due_both [] xs ys first.0 second.0) (subst (λ (a : List GoalWords). AreDue a zs) (sym both) third.0),
          subst (λ (a : List GoalWords). AreFinished file.grammar a)
              (sym (words_both (xs ++ ys) zs ∙ ap (λ (a : List GoalWords). a ++ words_in zs) both)) third.1.finished,
        )
