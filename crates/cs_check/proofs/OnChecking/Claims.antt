-- Sets that the lines claim, with one more closed line.
use Rattle.std.proofs.Common.{◌≡◌, ◌≢◌, ℕ, zero, suc, ◌+◌, ◌≤◌, Bool, true, List, [], ◌∷◌, ◌++◌, length, get_or, drop, refl, sym, ap, ◌∙◌, subst, ⊎_elim, inl, inr, ◌⊎◌, ◌↔◌, arith, Option, Some, None}
use Rattle.std.specs.List.{cons_option}
use Rattle.std.specs.Bool.{OnTrue}
use Rattle.std.proofs.lemmas.Bool.{cases_eq, OnTrue_from}
use Rattle.std.proofs.lemmas.List.{append-nil, get_or-drop}
use Rattle.std.proofs.lemmas.List.Elements.{All-weaker, filter_map-append}
use Rattle.cs_grammar.specs.declared.symbol.Mark.{Mark}
use Rattle.cs_grammar.specs.declared.symbol.Mark.TheVariants as marks
use Rattle.cs_yacc.specs.Reading.File.{File}
use Rattle.cs_lines.specs.Words.Names.{IsTokenNamed, IsNonterminalNamed, IsBehindNamed}
use Rattle.cs_lines.specs.Lines.Line.{SetKind, Productive, Reachable, Empty, RowKind, First, Last, Next, Line, SetLine, RowLine}
use Rattle.cs_closed.specs.Closed.Sets.{PlainSets, IsIn, IsPair, IsProductive, IsReachable, IsEmpty, IsFirst, IsLast, IsNext, AreSetsOf}
use Rattle.cs_check.specs.Passing.Above.{set_in, sets, row_in, rows}
use Rattle.cs_check.specs.Passing.Head.{mark_at, entry, names_behind, Claims, ClaimsToken, ClaimsNext, AreClaimed}
use Rattle.cs_check.specs.Checking.Claims.{IsTable, AreWholeSets, IsWithNonterminals, IsWithTokens, IsWithBehind, AreSameButNext, ClaimsSet, ClaimsRow}
use Rattle.cs_check.proofs.OnChecking.Named.{Among}
use Rattle.cs_check.proofs.OnChecking.Claimed.{kept_row, new_row, other_row, at_last, past_last, at_others}

same_set : (new old : List Bool) (n : ℕ) → new ≡ old → IsIn new n ↔ IsIn old n
same_set new old n e = (λ h. subst (λ (s : List Bool). IsIn s n) e h, λ h. subst (λ (s : List Bool). IsIn s n) (sym e) h)

same_table : (new old : List (List Bool)) (n t : ℕ) → new ≡ old → IsPair new n t ↔ IsPair old n t
same_table new old n t e =
    (λ h. subst (λ (s : List (List Bool)). IsPair s n t) e h, λ h. subst (λ (s : List (List Bool)). IsPair s n t) (sym e) h)

same_next : (new old : PlainSets) → new ≡ old → (a b : Mark) → IsNext new a b ↔ IsNext old a b
same_next new old e a b =
    (λ h. subst (λ (s : PlainSets). IsNext s a b) e h, λ h. subst (λ (s : PlainSets). IsNext s a b) (sym e) h)

one_more_is : (k : ℕ) → 1 + k ≡ suc k
one_more_is k = omega arith

suc_is : (k : ℕ) → suc k ≡ k + 1
suc_is k = omega arith

pub whole_fits : (file : File) (s : PlainSets) → AreWholeSets file.grammar s → AreSetsOf file.grammar s
whole_fits file s whole = record {
  first = whole.first.rows;
  last = whole.last.rows;
  rows =
      All-weaker (λ (set : List Bool). length set ≡ file.grammar.nonterminals) (λ (set : List Bool). length set ≤ file.grammar.nonterminals)
      (λ set e. omega arith) s.last whole.last.each;
}

-- ---- the lines of sets and rows, with one line more

module _ (lines : List Line) (l : Line) where
  keep_sets : (kind : SetKind) → set_in kind l ≡ None → sets kind (lines ++ l ∷ []) ≡ sets kind lines
  keep_sets kind none =
      filter_map-append (set_in kind) lines (l ∷ [])
      ∙ ap (λ (o : Option (List (List ℕ))). sets kind lines ++ cons_option o []) none
      ∙ append-nil (sets kind lines)

  keep_rows : (kind : RowKind) → row_in kind l ≡ None → rows kind (lines ++ l ∷ []) ≡ rows kind lines
  keep_rows kind none =
      filter_map-append (row_in kind) lines (l ∷ [])
      ∙ ap (λ (o : Option (List (List ℕ))). rows kind lines ++ cons_option o []) none
      ∙ append-nil (rows kind lines)

-- the names behind a mark, by the rows alone
abbrev behind : List (List (List ℕ)) → Mark → List (List ℕ)
behind given marks.Begin = entry given 1
behind given (marks.Token t) = entry (drop 1 given) t
behind given marks.End = []

behind_is : (lines : List Line) (a : Mark) → names_behind lines a ≡ behind (rows Next lines) a
behind_is lines marks.Begin = refl
behind_is lines (marks.Token t) = refl
behind_is lines marks.End = refl

module _ (file : File) (lines : List Line) (s : PlainSets) (claimed : AreClaimed file lines s) (l : Line) (s' : PlainSets) where
  -- ---- what stays

  kept_productive : s'.productive ≡ s.productive → set_in Productive l ≡ None → (n : ℕ) → IsProductive s' n ↔ Claims file (lines ++ l ∷ []) Productive n
  kept_productive e none n =
      kept_row (IsNonterminalNamed file) n (entry (sets Productive lines) 1) (entry (sets Productive (lines ++ l ∷ [])) 1)
      (IsProductive s n) (IsProductive s' n) (claimed.productive n) (same_set s'.productive s.productive n e)
      (ap (λ (r : List (List (List ℕ))). entry r 1) (keep_sets lines l Productive none))

  kept_reachable : s'.reachable ≡ s.reachable → set_in Reachable l ≡ None → (n : ℕ) → IsReachable s' n ↔ Claims file (lines ++ l ∷ []) Reachable n
  kept_reachable e none n =
      kept_row (IsNonterminalNamed file) n (entry (sets Reachable lines) 1) (entry (sets Reachable (lines ++ l ∷ [])) 1)
      (IsReachable s n) (IsReachable s' n) (claimed.reachable n) (same_set s'.reachable s.reachable n e)
      (ap (λ (r : List (List (List ℕ))). entry r 1) (keep_sets lines l Reachable none))

  kept_empty : s'.empty ≡ s.empty → set_in Empty l ≡ None → (n : ℕ) → IsEmpty s' n ↔ Claims file (lines ++ l ∷ []) Empty n
  kept_empty e none n =
      kept_row (IsNonterminalNamed file) n (entry (sets Empty lines) 1) (entry (sets Empty (lines ++ l ∷ [])) 1)
      (IsEmpty s n) (IsEmpty s' n) (claimed.empty n) (same_set s'.empty s.empty n e)
      (ap (λ (r : List (List (List ℕ))). entry r 1) (keep_sets lines l Empty none))

  kept_first : s'.first ≡ s.first → row_in First l ≡ None → (n t : ℕ) → IsFirst s' n t ↔ ClaimsToken file (lines ++ l ∷ []) First n t
  kept_first e none n t =
      kept_row (IsTokenNamed file) t (entry (rows First lines) n) (entry (rows First (lines ++ l ∷ [])) n)
      (IsFirst s n t) (IsFirst s' n t) (claimed.first n t) (same_table s'.first s.first n t e)
      (ap (λ (r : List (List (List ℕ))). entry r n) (keep_rows lines l First none))

  kept_last : s'.last ≡ s.last → row_in Last l ≡ None → (n t : ℕ) → IsLast s' n t ↔ ClaimsToken file (lines ++ l ∷ []) Last n t
  kept_last e none n t =
      kept_row (IsTokenNamed file) t (entry (rows Last lines) n) (entry (rows Last (lines ++ l ∷ [])) n)
      (IsLast s n t) (IsLast s' n t) (claimed.last n t) (same_table s'.last s.last n t e)
      (ap (λ (r : List (List (List ℕ))). entry r n) (keep_rows lines l Last none))

  kept_next : ((a b : Mark) → IsNext s' a b ↔ IsNext s a b) → row_in Next l ≡ None → (a b : Mark) → IsNext s' a b ↔ ClaimsNext file (lines ++ l ∷ []) a b
  kept_next same none a b =
      kept_row (IsBehindNamed file) b (names_behind lines a) (names_behind (lines ++ l ∷ []) a)
      (IsNext s a b) (IsNext s' a b) (claimed.next a b) (same a b)
      (behind_is (lines ++ l ∷ []) a ∙ ap (λ (r : List (List (List ℕ))). behind r a) (keep_rows lines l Next none) ∙ sym (behind_is lines a))

-- ---- what one line adds

module _ (file : File) (lines : List Line) (s : PlainSets) (claimed : AreClaimed file lines s) (names : List (List ℕ)) (s' : PlainSets) (whole : AreWholeSets file.grammar s') where
  with_unit : (set set' : List Bool) → IsWithNonterminals file names set set' → (n : ℕ) → IsIn set' n ↔ (IsIn set n ⊎ (Unit {0} × Among (IsNonterminalNamed file) names n))
  with_unit set set' with n = (
    λ h. ⊎_elim (λ a. inl a) (λ b. inr (tt, b)) ((with n).0 h),
    λ h. (with n).1 (⊎_elim (λ a. inl a) (λ b. inr b.1) h),
  )

  -- the only line of a set
  module _ (kind : SetKind) (first : sets kind lines ≡ []) (l : Line) (is : l ≡ SetLine kind names) where
    only_set : set_in kind l ≡ Some names → entry (sets kind (lines ++ l ∷ [])) 1 ≡ names
    only_set tells =
        ap (λ (r : List (List (List ℕ))). entry r 1)
        (filter_map-append (set_in kind) lines (l ∷ [])
        ∙ ap (λ (o : Option (List (List ℕ))). sets kind lines ++ cons_option o []) tells
        ∙ ap (λ (r : List (List (List ℕ))). r ++ names ∷ []) first)

    new_set : set_in kind l ≡ Some names → (set set' : List Bool) → IsWithNonterminals file names set set' → ((n : ℕ) → IsIn set n ↔ Claims file lines kind n) → (n : ℕ) → IsIn set' n ↔ Claims file (lines ++ l ∷ []) kind n
    new_set tells set set' with old n =
        new_row (IsNonterminalNamed file) n (entry (sets kind lines) 1) (entry (sets kind (lines ++ l ∷ [])) 1)
        (IsIn set n) (IsIn set' n) (old n) names (Unit {0}) (with_unit set set' with n) tt (only_set tells)
        (ap (λ (r : List (List (List ℕ))). entry r 1) first)

  pub claims_productive : sets Productive lines ≡ [] → IsWithNonterminals file names s.productive s'.productive → s' ≡ record s { productive = s'.productive } → AreClaimed file (lines ++ SetLine Productive names ∷ []) s'
  claims_productive first with same =
      let l : Line = SetLine Productive names in record {
        fit = whole_fits file s' whole;
        productive = new_set Productive first l refl refl s.productive s'.productive with claimed.productive;
        reachable = kept_reachable file lines s claimed l s' (ap (λ (t : PlainSets). t.reachable) same) refl;
        empty = kept_empty file lines s claimed l s' (ap (λ (t : PlainSets). t.empty) same) refl;
        first = kept_first file lines s claimed l s' (ap (λ (t : PlainSets). t.first) same) refl;
        last = kept_last file lines s claimed l s' (ap (λ (t : PlainSets). t.last) same) refl;
        next = kept_next file lines s claimed l s' (same_next s' (record s { productive = s'.productive }) same) refl;
      }

  pub claims_reachable : sets Reachable lines ≡ [] → IsWithNonterminals file names s.reachable s'.reachable → s' ≡ record s { reachable = s'.reachable } → AreClaimed file (lines ++ SetLine Reachable names ∷ []) s'
  claims_reachable first with same =
      let l : Line = SetLine Reachable names in record {
        fit = whole_fits file s' whole;
        productive = kept_productive file lines s claimed l s' (ap (λ (t : PlainSets). t.productive) same) refl;
        reachable = new_set Reachable first l refl refl s.reachable s'.reachable with claimed.reachable;
        empty = kept_empty file lines s claimed l s' (ap (λ (t : PlainSets). t.empty) same) refl;
        first = kept_first file lines s claimed l s' (ap (λ (t : PlainSets). t.first) same) refl;
        last = kept_last file lines s claimed l s' (ap (λ (t : PlainSets). t.last) same) refl;
        next = kept_next file lines s claimed l s' (same_next s' (record s { reachable = s'.reachable }) same) refl;
      }

  pub claims_empty : sets Empty lines ≡ [] → IsWithNonterminals file names s.empty s'.empty → s' ≡ record s { empty = s'.empty } → AreClaimed file (lines ++ SetLine Empty names ∷ []) s'
  claims_empty first with same =
      let l : Line = SetLine Empty names in record {
        fit = whole_fits file s' whole;
        productive = kept_productive file lines s claimed l s' (ap (λ (t : PlainSets). t.productive) same) refl;
        reachable = kept_reachable file lines s claimed l s' (ap (λ (t : PlainSets). t.reachable) same) refl;
        empty = new_set Empty first l refl refl s.empty s'.empty with claimed.empty;
        first = kept_first file lines s claimed l s' (ap (λ (t : PlainSets). t.first) same) refl;
        last = kept_last file lines s claimed l s' (ap (λ (t : PlainSets). t.last) same) refl;
        next = kept_next file lines s claimed l s' (same_next s' (record s { empty = s'.empty }) same) refl;
      }

  -- the line of a nonterminal, whose number is due
  module _ (kind : RowKind) (number : ℕ) (due : number ≡ length (rows kind lines) + 1) (l : Line) (tells : row_in kind l ≡ Some names) where
    one_more : rows kind (lines ++ l ∷ []) ≡ rows kind lines ++ names ∷ []
    one_more =
        filter_map-append (row_in kind) lines (l ∷ [])
        ∙ ap (λ (o : Option (List (List ℕ))). rows kind lines ++ cons_option o []) tells

    new_table : (table table' : List (List Bool)) → IsWithTokens file names number table table' → ((n t : ℕ) → IsPair table n t ↔ ClaimsToken file lines kind n t) → (n t : ℕ) → IsPair table' n t ↔ ClaimsToken file (lines ++ l ∷ []) kind n t
    new_table table table' with old zero t =
        other_row (IsTokenNamed file) t [] [] (IsPair table zero t) (IsPair table' zero t) (old zero t) names (zero ≡ number) (with zero t)
        (λ e. omega arith) refl
    new_table table table' with old (suc k) t =
        ⊎_elim
        (λ (here : k ≡ length (rows kind lines)).
        new_row (IsTokenNamed file) t (entry (rows kind lines) (suc k)) (entry (rows kind (lines ++ l ∷ [])) (suc k))
        (IsPair table (suc k) t) (IsPair table' (suc k) t) (old (suc k) t) names (suc k ≡ number) (with (suc k) t)
        (omega arith)
        (ap (λ (r : List (List (List ℕ))). get_or r k []) one_more ∙ at_last (rows kind lines) names k here)
        (past_last (rows kind lines) names k here))
        (λ (there : k ≢ length (rows kind lines)).
        other_row (IsTokenNamed file) t (entry (rows kind lines) (suc k)) (entry (rows kind (lines ++ l ∷ [])) (suc k))
        (IsPair table (suc k) t) (IsPair table' (suc k) t) (old (suc k) t) names (suc k ≡ number) (with (suc k) t)
        (λ e. there (omega arith))
        (ap (λ (r : List (List (List ℕ))). get_or r k []) one_more ∙ at_others (rows kind lines) names k there))
        (cases_eq k (length (rows kind lines)))

  pub claims_first : (number : ℕ) (name : List ℕ) → number ≡ length (rows First lines) + 1 → IsWithTokens file names number s.first s'.first → s' ≡ record s { first = s'.first } → AreClaimed file (lines ++ RowLine First name names ∷ []) s'
  claims_first number name due with same =
      let l : Line = RowLine First name names in record {
        fit = whole_fits file s' whole;
        productive = kept_productive file lines s claimed l s' (ap (λ (t : PlainSets). t.productive) same) refl;
        reachable = kept_reachable file lines s claimed l s' (ap (λ (t : PlainSets). t.reachable) same) refl;
        empty = kept_empty file lines s claimed l s' (ap (λ (t : PlainSets). t.empty) same) refl;
        first = new_table First number due l refl s.first s'.first with claimed.first;
        last = kept_last file lines s claimed l s' (ap (λ (t : PlainSets). t.last) same) refl;
        next = kept_next file lines s claimed l s' (same_next s' (record s { first = s'.first }) same) refl;
      }

  pub claims_last : (number : ℕ) (name : List ℕ) → number ≡ length (rows Last lines) + 1 → IsWithTokens file names number s.last s'.last → s' ≡ record s { last = s'.last } → AreClaimed file (lines ++ RowLine Last name names ∷ []) s'
  claims_last number name due with same =
      let l : Line = RowLine Last name names in record {
        fit = whole_fits file s' whole;
        productive = kept_productive file lines s claimed l s' (ap (λ (t : PlainSets). t.productive) same) refl;
        reachable = kept_reachable file lines s claimed l s' (ap (λ (t : PlainSets). t.reachable) same) refl;
        empty = kept_empty file lines s claimed l s' (ap (λ (t : PlainSets). t.empty) same) refl;
        first = kept_first file lines s claimed l s' (ap (λ (t : PlainSets). t.first) same) refl;
        last = new_table Last number due l refl s.last s'.last with claimed.last;
        next = kept_next file lines s claimed l s' (same_next s' (record s { last = s'.last }) same) refl;
      }

  -- the line of a mark, of which so many came before
  module _ (number : ℕ) (due : number ≡ length (rows Next lines)) (l : Line) (tells : row_in Next l ≡ Some names) (with : IsWithBehind file names (mark_at number) s s') where
    more_next : rows Next (lines ++ l ∷ []) ≡ rows Next lines ++ names ∷ []
    more_next = one_more Next (number + 1) (ap (λ k. k + 1) due) l tells

    -- the names behind a mark at a place
    module _ (a b : Mark) (k : ℕ) (was : names_behind lines a ≡ get_or (rows Next lines) k []) (is : names_behind (lines ++ l ∷ []) a ≡ get_or (rows Next (lines ++ l ∷ [])) k []) where
      next_here : a ≡ mark_at number → k ≡ number → IsNext s' a b ↔ ClaimsNext file (lines ++ l ∷ []) a b
      next_here here e =
          new_row (IsBehindNamed file) b (names_behind lines a) (names_behind (lines ++ l ∷ []) a)
          (IsNext s a b) (IsNext s' a b) (claimed.next a b) names (a ≡ mark_at number) (with a b)
          here (is ∙ ap (λ (r : List (List (List ℕ))). get_or r k []) more_next ∙ at_last (rows Next lines) names k (e ∙ due))
          (was ∙ past_last (rows Next lines) names k (e ∙ due))

      next_there : (a ≡ mark_at number → ⊥) → k ≢ number → IsNext s' a b ↔ ClaimsNext file (lines ++ l ∷ []) a b
      next_there there other =
          other_row (IsBehindNamed file) b (names_behind lines a) (names_behind (lines ++ l ∷ []) a)
          (IsNext s a b) (IsNext s' a b) (claimed.next a b) names (a ≡ mark_at number) (with a b)
          there
          (is ∙ ap (λ (r : List (List (List ℕ))). get_or r k []) more_next
          ∙ at_others (rows Next lines) names k (λ e. other (e ∙ sym due)) ∙ sym was)

    -- of no mark
    next_none : (a b : Mark) → names_behind lines a ≡ [] → names_behind (lines ++ l ∷ []) a ≡ [] → (a ≡ mark_at number → ⊥) → IsNext s' a b ↔ ClaimsNext file (lines ++ l ∷ []) a b
    next_none a b was is there =
        other_row (IsBehindNamed file) b (names_behind lines a) (names_behind (lines ++ l ∷ []) a)
        (IsNext s a b) (IsNext s' a b) (claimed.next a b) names (a ≡ mark_at number) (with a b) there (is ∙ sym was)

    new_next : (p : ℕ) → p ≡ number → (a b : Mark) → IsNext s' a b ↔ ClaimsNext file (lines ++ l ∷ []) a b
    new_next zero e marks.Begin b =
        next_here marks.Begin b 0 refl refl (ap mark_at e) e
    new_next (suc j) e marks.Begin b =
        next_there marks.Begin b 0 refl refl (λ same. absurd (let is : marks.Begin ≡ mark_at (suc j) = same ∙ ap mark_at (sym e) in cc)) (λ none. absurd (let is : 0 ≡ suc j = none ∙ sym e in cc))
    new_next p e (marks.Token zero) b =
        next_none (marks.Token zero) b refl refl (λ same. not_zero p (same ∙ ap mark_at (sym e)))
      where
        not_zero : (k : ℕ) → marks.Token zero ≡ mark_at k → ⊥
        not_zero zero same = absurd cc
        not_zero (suc j) same = let is : zero ≡ j + 1 = cc in omega arith
    new_next p e (marks.Token (suc k)) b =
        ⊎_elim
        (λ (here : suc k ≡ p).
        next_here (marks.Token (suc k)) b (suc k) (at_drop (rows Next lines)) (at_drop (rows Next (lines ++ l ∷ [])))
        (ap marks.Token (suc_is k) ∙ ap mark_at here ∙ ap mark_at e) (here ∙ e))
        (λ (there : suc k ≢ p).
        next_there (marks.Token (suc k)) b (suc k) (at_drop (rows Next lines)) (at_drop (rows Next (lines ++ l ∷ [])))
        (λ same. other p (there) (same ∙ ap mark_at (sym e))) (λ is. there (is ∙ sym e)))
        (cases_eq (suc k) p)
      where
        at_drop : (given : List (List (List ℕ))) → get_or (drop 1 given) k [] ≡ get_or given (suc k) []
        at_drop given = get_or-drop 1 given k [] ∙ ap (λ (i : ℕ). get_or given i []) (one_more_is k)

        other : (m : ℕ) → suc k ≢ m → marks.Token (suc k) ≡ mark_at m → ⊥
        other zero there same = absurd cc
        other (suc j) there same = let is : suc k ≡ j + 1 = cc in there (omega arith)
    new_next p e marks.End b = next_none marks.End b refl refl (λ same. not_end p (same ∙ ap mark_at (sym e)))
      where
        not_end : (k : ℕ) → marks.End ≡ mark_at k → ⊥
        not_end zero same = absurd cc
        not_end (suc j) same = absurd cc

  pub claims_next : (number : ℕ) (name : List ℕ) → number ≡ length (rows Next lines) → IsWithBehind file names (mark_at number) s s' → AreSameButNext s s' → AreClaimed file (lines ++ RowLine Next name names ∷ []) s'
  claims_next number name due with same =
      let l : Line = RowLine Next name names in record {
        fit = whole_fits file s' whole;
        productive = kept_productive file lines s claimed l s' same.productive refl;
        reachable = kept_reachable file lines s claimed l s' same.reachable refl;
        empty = kept_empty file lines s claimed l s' same.empty refl;
        first = kept_first file lines s claimed l s' same.first refl;
        last = kept_last file lines s claimed l s' same.last refl;
        next = new_next number due l refl with number refl;
      }

-- ---- by the sets with one changed

module _ (file : File) (s : PlainSets) (whole : AreWholeSets file.grammar s) (names : List (List ℕ)) where
  pub productive_claimed : (set : List Bool) → length set ≡ length s.productive → IsWithNonterminals file names s.productive set → ClaimsSet file Productive names s (record s { productive = set })
  productive_claimed set long with = λ lines claimed first.
      claims_productive file lines s claimed names (record s { productive = set }) (record { productive = long ∙ whole.productive; reachable = whole.reachable; empty = whole.empty; first = whole.first; last = whole.last; begin = whole.begin; next = whole.next; end = whole.end }) first with refl

  pub reachable_claimed : (set : List Bool) → length set ≡ length s.reachable → IsWithNonterminals file names s.reachable set → ClaimsSet file Reachable names s (record s { reachable = set })
  reachable_claimed set long with = λ lines claimed first.
      claims_reachable file lines s claimed names (record s { reachable = set }) (record { productive = whole.productive; reachable = long ∙ whole.reachable; empty = whole.empty; first = whole.first; last = whole.last; begin = whole.begin; next = whole.next; end = whole.end }) first with refl

  pub empty_claimed : (set : List Bool) → length set ≡ length s.empty → IsWithNonterminals file names s.empty set → ClaimsSet file Empty names s (record s { empty = set })
  empty_claimed set long with = λ lines claimed first.
      claims_empty file lines s claimed names (record s { empty = set }) (record { productive = whole.productive; reachable = whole.reachable; empty = long ∙ whole.empty; first = whole.first; last = whole.last; begin = whole.begin; next = whole.next; end = whole.end }) first with refl

  pub first_claimed : (table : List (List Bool)) (number : ℕ) → IsTable file.grammar.tokens file.grammar.nonterminals table → IsWithTokens file names number s.first table → ClaimsRow file First number names s (record s { first = table })
  first_claimed table number fits with = λ lines name claimed due.
      claims_first file lines s claimed names (record s { first = table }) (record { productive = whole.productive; reachable = whole.reachable; empty = whole.empty; first = fits; last = whole.last; begin = whole.begin; next = whole.next; end = whole.end }) number name due with refl

  pub last_claimed : (table : List (List Bool)) (number : ℕ) → IsTable file.grammar.tokens file.grammar.nonterminals table → IsWithTokens file names number s.last table → ClaimsRow file Last number names s (record s { last = table })
  last_claimed table number fits with = λ lines name claimed due.
      claims_last file lines s claimed names (record s { last = table }) (record { productive = whole.productive; reachable = whole.reachable; empty = whole.empty; first = whole.first; last = fits; begin = whole.begin; next = whole.next; end = whole.end }) number name due with refl

  pub next_claimed : (s' : PlainSets) (number : ℕ) → AreWholeSets file.grammar s' → IsWithBehind file names (mark_at number) s s' → AreSameButNext s s' → ClaimsRow file Next number names s s'
  next_claimed s' number whole' with same = λ lines name claimed due.
      claims_next file lines s claimed names s' whole' number name due with same

-- ---- by the sets that were told, of which these are the parts

module _ (file : File) (s old new : PlainSets) (same : s ≡ old) (whole : AreWholeSets file.grammar old) (so : Bool) (names : List (List ℕ)) where
  whole_parts : AreWholeSets file.grammar s
  whole_parts = subst (λ (t : PlainSets). AreWholeSets file.grammar t) (sym same) whole

  pub set_claims : (kind told : SetKind) → told ≡ kind → (AreWholeSets file.grammar s → so ≡ true → ClaimsSet file kind names s new) → OnTrue so (ClaimsSet file told names old new)
  set_claims kind told is claims =
      OnTrue_from so (ClaimsSet file told names old new)
      (λ holds.
      subst (λ (t : PlainSets). ClaimsSet file told names t new) same
      (subst (λ (k : SetKind). ClaimsSet file k names s new) (sym is) (claims whole_parts holds)))

  pub row_claims : (kind told : RowKind) (number : ℕ) → told ≡ kind → (AreWholeSets file.grammar s → so ≡ true → ClaimsRow file kind number names s new) → OnTrue so (ClaimsRow file told number names old new)
  row_claims kind told number is claims =
      OnTrue_from so (ClaimsRow file told number names old new)
      (λ holds.
      subst (λ (t : PlainSets). ClaimsRow file told number names t new) same
      (subst (λ (k : RowKind). ClaimsRow file k number names s new) (sym is) (claims whole_parts holds)))
