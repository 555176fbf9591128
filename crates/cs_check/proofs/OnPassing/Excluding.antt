-- What the closed lines of right lines exclude no tree meets.
use Rattle.std.proofs.Common.{◌≡◌, ℕ, ◌+◌, ◌≤◌, Bool, true, false, List, [], ◌∷◌, ◌++◌, None, length, take, drop, refl, sym, ap, ◌∙◌, subst, ⊎_elim, ◌↔◌, append_assoc, take-append-drop, length-take-le, arith}
use Rattle.std.specs.Prelude.{IsTrue, if◌then◌else◌}
use Rattle.std.specs.List.{Contains, filter_map}
use Rattle.std.proofs.lemmas.Bool.{false≢true}
use Rattle.std.proofs.lemmas.List.{length_push}
use Rattle.cs_grammar.specs.declared.symbol.Mark.{Mark}
use Rattle.cs_grammar.specs.declared.symbol.Mark.TheVariants as marks
use Rattle.cs_goals.specs.declared.goal.Goal.{Goal}
use Rattle.cs_goals.specs.declared.goal.Goal.TheVariants.{Pair}
use Rattle.cs_grammar.specs.Sentence.{framed, IsFollowed}
use Rattle.cs_yacc.specs.Reading.File.{File}
use Rattle.cs_closed.specs.Closed.Sets.{PlainSets, IsProductive, IsReachable, IsEmpty, IsFirst, IsLast, IsNext}
use Rattle.cs_closed.specs.Closed.Closed.{AreClosed}
use Rattle.cs_closed.specs.Closed.Laws.{IsMetByNone, IsAdjacentInNone}
use Rattle.cs_closed.proofs.OnClosed.Held.{allowed}
use Rattle.cs_lines.specs.Words.Names.{IsTokenNamed, IsNonterminalNamed, IsBehindNamed}
use Rattle.cs_lines.specs.Lines.Line.{SetKind, Productive, Reachable, Empty, RowKind, First, Last, Next, Line, SetLine, RowLine}
use Rattle.cs_check.specs.declared.passing.fault.ClaimFault.TheVariants.{Form, Unclosed}
use Rattle.cs_check.specs.Passing.Above.{set_in, row_in, sets, rows, has_sets}
use Rattle.cs_check.specs.Passing.Head.{whole_head, tables, head_size, entry, Claims, ClaimsToken, names_behind, AreClaimed}
use Rattle.cs_check.specs.Passing.Places.{IsInHead, IsBehindHead}
use Rattle.cs_check.specs.Passing.Entries.{IsExcluded}
use Rattle.cs_check.specs.Passing.Faults.{Checked}
use Rattle.cs_check.specs.Passing.Manifest.{AreRight}
use Rattle.cs_check.proofs.OnDues.{whole_long}
use Rattle.cs_check.proofs.OnPassing.First.{Bare, Ended, back}
use Rattle.cs_check.proofs.OnChecking.Kinds.{is_head}
use Rattle.cs_check.proofs.OnPassing.Behind.{told_stays, sets_stay_all, IsPast, past_more, body_line, body_behind, behind_all, behind_whole}

-- ---- lines of the body tell of no sets

pub no_set : (kind : SetKind) (l : Line) → is_head l ≡ false → set_in kind l ≡ None
no_set Productive (SetLine k names) h = absurd (false≢true (sym h))
no_set Reachable (SetLine k names) h = absurd (false≢true (sym h))
no_set Empty (SetLine k names) h = absurd (false≢true (sym h))
no_set Productive l h = refl
no_set Reachable l h = refl
no_set Empty l h = refl

pub no_row : (kind : RowKind) (l : Line) → is_head l ≡ false → row_in kind l ≡ None
no_row First (RowLine k name names) h = absurd (false≢true (sym h))
no_row Last (RowLine k name names) h = absurd (false≢true (sym h))
no_row Next (RowLine k name names) h = absurd (false≢true (sym h))
no_row First l h = refl
no_row Last l h = refl
no_row Next l h = refl

-- ---- the same sets are claimed

module _ (file : File) (lines lines' : List Line) (same_sets : (kind : SetKind) → sets kind lines' ≡ sets kind lines) (same_rows : (kind : RowKind) → rows kind lines' ≡ rows kind lines) where
  same_behind : (a : Mark) → names_behind lines' a ≡ names_behind lines a
  same_behind marks.Begin = ap (λ (r : List (List (List ℕ))). entry r 1) (same_rows Next)
  same_behind (marks.Token t) = ap (λ (r : List (List (List ℕ))). entry (drop 1 r) t) (same_rows Next)
  same_behind marks.End = refl

  module _ (s : PlainSets) (h : AreClaimed file lines s) where
    set_same : (kind : SetKind) (n : ℕ) (P : Type 0) → P ↔ Claims file lines kind n → P ↔ Claims file lines' kind n
    set_same kind n P e =
        subst (λ (r : List (List (List ℕ))). P ↔ ((name : List ℕ) × Contains (entry r 1) name × IsNonterminalNamed file name n)) (sym (same_sets kind)) e

    row_same : (kind : RowKind) (n t : ℕ) (P : Type 0) → P ↔ ClaimsToken file lines kind n t → P ↔ ClaimsToken file lines' kind n t
    row_same kind n t P e =
        subst (λ (r : List (List (List ℕ))). P ↔ ((name : List ℕ) × Contains (entry r n) name × IsTokenNamed file name t)) (sym (same_rows kind)) e

    pub claimed_same : AreClaimed file lines' s
    claimed_same = record {
      fit = h.fit;
      productive = λ n. set_same Productive n (IsProductive s n) (h.productive n);
      reachable = λ n. set_same Reachable n (IsReachable s n) (h.reachable n);
      empty = λ n. set_same Empty n (IsEmpty s n) (h.empty n);
      first = λ n t. row_same First n t (IsFirst s n t) (h.first n t);
      last = λ n t. row_same Last n t (IsLast s n t) (h.last n t);
      next = λ a b.
          subst (λ (r : List (List ℕ)). IsNext s a b ↔ ((name : List ℕ) × Contains r name × IsBehindNamed file name b)) (sym (same_behind a)) (h.next a b);
    }

-- ---- the last closed line

module _ (c : Checked) (lines : List Line) (right : AreRight c lines) where
  module _ (above : List Line) (l : Line) (below : List Line) (place : lines ≡ above ++ l ∷ below) (body : is_head l ≡ false) (some : IsTrue (has_sets above)) where
    -- the head above it is whole
    whole_above : length (whole_head c.file.grammar) ≤ length above
    whole_above =
        let behind = (body_behind c.file.grammar above l body (right.each above l below place Form)).behind in
        subst (λ (b : Bool). (if b then length (whole_head c.file.grammar) else length (tables c.file.grammar)) ≤ length above) some behind

    -- the last line of the head stands in it
    at_last : (front : List Line) (last : Line) (rest : List Line) → above ≡ (front ++ last ∷ []) ++ rest → length front + 1 ≡ length (whole_head c.file.grammar) → IsInHead c.file.grammar front last
    at_last front last rest is long =
        let g = c.file.grammar in
        let here : lines ≡ front ++ last ∷ (rest ++ l ∷ below) =
        place ∙ ap (λ (s : List Line). s ++ l ∷ below) is ∙ append_assoc (front ++ last ∷ []) rest (l ∷ below) ∙ append_assoc front (last ∷ []) (rest ++ l ∷ below) in
        ⊎_elim
        (λ (h : IsInHead g front last). h)
        (λ (h : IsBehindHead g front last).
        let none : has_sets front ≡ false = no_sets_yet front long (has_sets front) refl h.behind in
        let plain = body_line g front last h in
        absurd (false≢true (sym (kept_none front last rest is none plain h.behind) ∙ some)))
        (right.each front last (rest ++ l ∷ below) here Form)
      where
        no_sets_yet : (front : List Line) → length front + 1 ≡ length (whole_head c.file.grammar) → (b : Bool) → has_sets front ≡ b → head_size c.file.grammar front ≤ length front → has_sets front ≡ false
        no_sets_yet front long false e low = e
        no_sets_yet front long true e low =
            let whole : length (whole_head c.file.grammar) ≤ length front =
            subst (λ (b : Bool). (if b then length (whole_head c.file.grammar) else length (tables c.file.grammar)) ≤ length front) e low in
            absurd (omega (arith, whole, long))

        kept_none : (front : List Line) (last : Line) (rest : List Line) → above ≡ (front ++ last ∷ []) ++ rest → has_sets front ≡ false → is_head last ≡ false → head_size c.file.grammar front ≤ length front → has_sets above ≡ false
        kept_none front last rest is none plain low =
            let g = c.file.grammar in
            let past : IsPast g (front ++ last ∷ []) = past_more g front last plain low in
            let there : lines ≡ (front ++ last ∷ []) ++ (rest ++ l ∷ below) =
            place ∙ ap (λ (s : List Line). s ++ l ∷ below) is ∙ append_assoc (front ++ last ∷ []) rest (l ∷ below) in
            let bodies = (behind_all c lines right rest (front ++ last ∷ []) (l ∷ below) past there).0 in
            ap has_sets (is ∙ append_assoc front (last ∷ []) rest) ∙ sets_stay_all (last ∷ rest) front (plain, bodies) ∙ none

    -- so sets that the lines above claim are closed
    closed_at : (front : List Line) (last : Line) (rest : List Line) → above ≡ (front ++ last ∷ []) ++ rest → length front + 1 ≡ length (whole_head c.file.grammar) → (s : PlainSets) → AreClaimed c.file above s → AreClosed c.file.grammar s
    closed_at front last rest is long s claimed =
        let g = c.file.grammar in
        let many = length_push front last in
        let low : length (whole_head g) ≤ length (front ++ last ∷ []) = omega (arith, many, long) in
        let there : lines ≡ (front ++ last ∷ []) ++ (rest ++ l ∷ below) =
        place ∙ ap (λ (s : List Line). s ++ l ∷ below) is ∙ append_assoc (front ++ last ∷ []) rest (l ∷ below) in
        let here : lines ≡ front ++ last ∷ (rest ++ l ∷ below) = there ∙ append_assoc front (last ∷ []) (rest ++ l ∷ below) in
        let bodies = behind_whole c lines right rest (front ++ last ∷ []) (l ∷ below) low there in
        let same = claimed_same c.file above (front ++ last ∷ [])
        (λ kind. sym (told_stays (set_in kind) (no_set kind) rest (front ++ last ∷ []) bodies) ∙ ap (filter_map (set_in kind)) (sym is))
        (λ kind. sym (told_stays (row_in kind) (no_row kind) rest (front ++ last ∷ []) bodies) ∙ ap (filter_map (row_in kind)) (sym is))
        s claimed in
        right.each front last (rest ++ l ∷ below) here Unclosed (at_last front last rest is long) long s same

    pub closed_above : (s : PlainSets) → AreClaimed c.file above s → AreClosed c.file.grammar s
    closed_above s claimed =
        let g = c.file.grammar in
        let n = length (whole_head g) in
        let long = length-take-le n above whole_above in
        let parts : above ≡ take n above ++ drop n above = sym (take-append-drop n above) in
        elim (back (take n above)) [
          | Bare none ↦ absurd (let nothing : length (take n above) ≡ 0 = ap length none in omega (arith, nothing, long, whole_long g))
          | Ended front last is ↦
              (let many = length_push front last in
              let size : length front + 1 ≡ n = sym many ∙ ap length (sym is) ∙ long in
              closed_at front last (drop n above) (parts ∙ ap (λ (x : List Line). x ++ drop n above) is) size s claimed)
        ]

  -- what is excluded is met by none
  pub excluded_none : (above : List Line) (l : Line) (below : List Line) → lines ≡ above ++ l ∷ below → is_head l ≡ false → (goal : Goal) → IsExcluded c.file above goal → IsMetByNone c.file.grammar goal
  excluded_none above l below place body goal excluded tree is_tree meets =
      let closed = closed_above above l below place body excluded.0 excluded.1 excluded.2 in
      excluded.3 (allowed excluded.1 c.file.grammar closed goal tree is_tree meets)

  pub excluded_apart : (above : List Line) (l : Line) (below : List Line) → lines ≡ above ++ l ∷ below → is_head l ≡ false → (a b : Mark) → IsExcluded c.file above (Pair a b) → IsAdjacentInNone c.file.grammar a b
  excluded_apart above l below place body a b excluded tokens sentence followed =
      excluded_none above l below place body (Pair a b) excluded sentence.0 sentence.1
      (subst (λ (t : List ℕ). IsFollowed a b (framed t)) sentence.2 followed)
