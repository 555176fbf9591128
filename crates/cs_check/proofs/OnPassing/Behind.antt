-- What stands behind the head of right lines: no line of the head.
use Rattle.std.proofs.Common.{◌≡◌, ℕ, ◌<◌, ◌≤◌, Bool, true, false, List, [], ◌∷◌, ◌++◌, Option, None, length, refl, sym, ap, ◌∙◌, subst, ⊎_elim, append_assoc, append-nil, arith}
use Rattle.std.specs.Prelude.{◌||◌, if◌then◌else◌}
use Rattle.std.specs.List.{Contains, filter_map}
use Rattle.std.proofs.lemmas.Bool.{false≢true}
use Rattle.std.proofs.lemmas.List.{length-append}
use Rattle.std.proofs.lemmas.List.Folds.{list_any-append}
use Rattle.std.proofs.lemmas.Option.{slice_get_within}
use Rattle.cs_grammar.specs.Grammar.{PlainGrammar}
use Rattle.cs_lines.specs.Lines.Line.{Line, Opening, Weighing, TokenLine, RuleLine, LexemeLine, SetLine, RowLine, CaseLine, DeriveLine, TokensLine, TextLine, NoLexemeLine, NoScanLine, GoalLine, BaseLine, NegativeLine, EndLine}
use Rattle.cs_check.specs.declared.passing.fault.ClaimFault.TheVariants.{Form}
use Rattle.cs_check.specs.Passing.Above.{is_set, has_sets}
use Rattle.cs_check.specs.Passing.Head.{tables, whole_head, head_size}
use Rattle.cs_check.specs.Passing.Places.{Part, OfEnd, part_of, last_part, next_parts, IsInHead, IsBehindHead, MayCome}
use Rattle.cs_check.specs.Passing.Faults.{Checked}
use Rattle.cs_check.specs.Passing.Manifest.{AreRight}
use Rattle.cs_check.proofs.OnChecking.Kinds.{is_head, taken_head}
use Rattle.cs_check.proofs.OnChecking.Told.{kept, never_inside}

-- ---- lines of the body

behind_no_head : (p : Part) (l : Line) → Contains (next_parts p) (part_of p l) → is_head l ≡ false
behind_no_head p Opening h = absurd (never_inside p h)
behind_no_head p (Weighing weigh) h = absurd (never_inside p h)
behind_no_head p (TokenLine n name) h = absurd (never_inside p h)
behind_no_head p (RuleLine n left right) h = absurd (never_inside p h)
behind_no_head p (LexemeLine name text) h = absurd (never_inside p h)
behind_no_head p (SetLine kind names) h = absurd (never_inside p h)
behind_no_head p (RowLine kind name names) h = absurd (never_inside p h)
behind_no_head p (CaseLine n size) h = refl
behind_no_head p (DeriveLine rules) h = refl
behind_no_head p (TokensLine names) h = refl
behind_no_head p (TextLine text) h = refl
behind_no_head p (NoLexemeLine name) h = refl
behind_no_head p (NoScanLine after) h = refl
behind_no_head p (GoalLine n words verdict) h = refl
behind_no_head p (BaseLine n goal) h = refl
behind_no_head p (NegativeLine n base edit left right at) h = refl
behind_no_head p (EndLine counts) h = refl

-- a line of the body isn't one of a set
no_set_line : (l : Line) → is_head l ≡ false → is_set l ≡ false
no_set_line (SetLine kind names) h = absurd (false≢true (sym h))
no_set_line Opening h = refl
no_set_line (Weighing weigh) h = refl
no_set_line (TokenLine n name) h = refl
no_set_line (RuleLine n left right) h = refl
no_set_line (LexemeLine name text) h = refl
no_set_line (RowLine kind name names) h = refl
no_set_line (CaseLine n size) h = refl
no_set_line (DeriveLine rules) h = refl
no_set_line (TokensLine names) h = refl
no_set_line (TextLine text) h = refl
no_set_line (NoLexemeLine name) h = refl
no_set_line (NoScanLine after) h = refl
no_set_line (GoalLine n words verdict) h = refl
no_set_line (BaseLine n goal) h = refl
no_set_line (NegativeLine n base edit left right at) h = refl
no_set_line (EndLine counts) h = refl

or_false : (b : Bool) → (b || (false || false)) ≡ b
or_false true = refl
or_false false = refl

pub sets_stay : (above : List Line) (l : Line) → is_head l ≡ false → has_sets (above ++ l ∷ []) ≡ has_sets above
sets_stay above l h =
    list_any-append is_set above (l ∷ [])
    ∙ ap (λ (b : Bool). has_sets above || (b || false)) (no_set_line l h)
    ∙ or_false (has_sets above)

-- lines of the body alone
abbrev pub AreBody : List Line → Type 0
AreBody [] = Unit {0}
AreBody (l ∷ ls) = (is_head l ≡ false) × AreBody ls

-- what they don't tell stays
module _ {X : Type 0} (in_line : Line → Option X) (silent : (l : Line) → is_head l ≡ false → in_line l ≡ None) where
  pub told_stays : (body above : List Line) → AreBody body → filter_map in_line (above ++ body) ≡ filter_map in_line above
  told_stays [] above h = ap (filter_map in_line) (append-nil above)
  told_stays (l ∷ body) above h =
      ap (filter_map in_line) (sym (append_assoc above (l ∷ []) body))
      ∙ told_stays body (above ++ l ∷ []) h.1
      ∙ kept in_line above l (silent l h.0)

pub sets_stay_all : (body above : List Line) → AreBody body → has_sets (above ++ body) ≡ has_sets above
sets_stay_all [] above h = ap has_sets (append-nil above)
sets_stay_all (l ∷ body) above h =
    ap has_sets (sym (append_assoc above (l ∷ []) body))
    ∙ sets_stay_all body (above ++ l ∷ []) h.1
    ∙ sets_stay above l h.0

-- ---- behind the head

-- more lines stand above than the head has
abbrev pub IsPast : PlainGrammar → List Line → Type 0
IsPast g above = head_size g above < length above

module _ (g : PlainGrammar) where
  abbrev size_by : Bool → ℕ
  size_by sets = if sets then length (whole_head g) else length (tables g)

  pub size_stays : (above : List Line) (l : Line) → is_head l ≡ false → head_size g (above ++ l ∷ []) ≡ head_size g above
  size_stays above l h = ap size_by (sets_stay above l h)

  pub past_more : (above : List Line) (l : Line) → is_head l ≡ false → head_size g above ≤ length above → IsPast g (above ++ l ∷ [])
  past_more above l h past =
      let long = length-append above (l ∷ []) in
      let same = size_stays above l h in
      omega (arith, long, same, past)

  pub body_line : (above : List Line) (l : Line) → IsBehindHead g above l → is_head l ≡ false
  body_line above l h = behind_no_head (last_part above) l h.part

  pub head_line : (above : List Line) (l : Line) → IsInHead g above l → is_head l ≡ true
  head_line above l h = taken_head h.due l h.takes

  -- a line of the body stands behind the head
  pub body_behind : (above : List Line) (l : Line) → is_head l ≡ false → MayCome g above l → IsBehindHead g above l
  body_behind above l body may =
      ⊎_elim (λ (h : IsInHead g above l). absurd (false≢true (sym body ∙ head_line above l h))) (λ (h : IsBehindHead g above l). h) may

  -- and so does each line below more lines than the head has
  pub past_behind : (above : List Line) (l : Line) → IsPast g above → MayCome g above l → IsBehindHead g above l
  past_behind above l past may =
      ⊎_elim (λ (h : IsInHead g above l). let within = h.within in absurd (omega (arith, past, within))) (λ (h : IsBehindHead g above l). h) may

  pub whole_behind : (above : List Line) (l : Line) → length (whole_head g) ≤ length above → MayCome g above l → IsBehindHead g above l
  whole_behind above l past may =
      ⊎_elim
      (λ (h : IsInHead g above l).
      let within = slice_get_within (whole_head g) (length above) h.due h.is_due in
      absurd (omega (arith, past, within)))
      (λ (h : IsBehindHead g above l). h)
      may

-- ---- in right lines

-- a line stands below, and it is one that may follow
pub record Follows (above below : List Line) : Type 0 where
  pub line : Line
  pub others : List Line
  pub place : below ≡ line ∷ others
  pub follows : Contains (next_parts (last_part above)) (part_of (last_part above) line)

module _ (c : Checked) (lines : List Line) (right : AreRight c lines) where
  pub behind_all : (body above below : List Line) → IsPast c.file.grammar above → lines ≡ above ++ (body ++ below) → AreBody body × IsPast c.file.grammar (above ++ body)
  behind_all [] above below past place = (tt, subst (IsPast c.file.grammar) (sym (append-nil above)) past)
  behind_all (l ∷ body) above below past place =
      let g = c.file.grammar in
      let is = body_line g above l (past_behind g above l past (right.each above l (body ++ below) place Form)) in
      let low : head_size g above ≤ length above = omega (arith, past) in
      let rest = behind_all body (above ++ l ∷ []) below (past_more g above l is low) (place ∙ sym (append_assoc above (l ∷ []) (body ++ below))) in
      ((is, rest.0), subst (IsPast g) (append_assoc above (l ∷ []) body) rest.1)

  pub behind_whole : (body above below : List Line) → length (whole_head c.file.grammar) ≤ length above → lines ≡ above ++ (body ++ below) → AreBody body
  behind_whole [] above below past place = tt
  behind_whole (l ∷ body) above below past place =
      let g = c.file.grammar in
      let is = body_line g above l (whole_behind g above l past (right.each above l (body ++ below) place Form)) in
      let long = length-append above (l ∷ []) in
      let low : length (whole_head g) ≤ length (above ++ l ∷ []) = omega (arith, past, long) in
      (is, behind_whole body (above ++ l ∷ []) below low (place ∙ sym (append_assoc above (l ∷ []) (body ++ below))))

  -- below lines of which the last isn't the end line one stands
  pub follower : (below above : List Line) → IsPast c.file.grammar above → (last_part above ≡ OfEnd → ⊥) → lines ≡ above ++ below → Follows above below
  follower [] above past open_end place = absurd (open_end (ap last_part (sym (place ∙ append-nil above)) ∙ right.ended))
  follower (l ∷ others) above past open_end place = record {
    line = l;
    others = others;
    place = refl;
    follows = (past_behind c.file.grammar above l past (right.each above l others place Form)).part;
  }
