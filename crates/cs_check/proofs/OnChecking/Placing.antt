-- Where a line stands, and what is known with it.
use Rattle.std.proofs.Common.{◌≡◌, ◌+◌, ◌<◌, ◌≤◌, Bool, true, List, [], ◌∷◌, ◌++◌, Option, Some, None, length, refl, sym, ap, ◌∙◌, subst, ⊎_elim, inl, arith}
use Rattle.std.specs.Prelude.{IsTrue, ◌↔◌}
use Rattle.std.specs.List.{Contains}
use Rattle.std.proofs.lemmas.Bool.{false≢true}
use Rattle.cs_yacc.specs.Reading.File.{File}
use Rattle.cs_check.specs.declared.passing.fault.ClaimFault.{ClaimFault}
use Rattle.cs_check.specs.declared.passing.fault.ClaimFault.TheVariants as faults
use Rattle.cs_check.specs.declared.checking.head.Head.{Head}
use Rattle.cs_check.specs.declared.checking.entries.Entries.{Entries}
use Rattle.cs_check.specs.declared.checking.above.Above.{Above}
use Rattle.cs_lines.specs.Lines.Line.{Line, Opening, Weighing, TokenLine, RuleLine, LexemeLine, SetLine, RowLine, CaseLine, DeriveLine, TokensLine, TextLine, NoLexemeLine, NoScanLine, GoalLine, BaseLine, NegativeLine, EndLine}
use Rattle.cs_check.specs.Passing.Head.{head_size}
use Rattle.cs_check.specs.Passing.Places.{Part, InHead, OfCase, OfDerivation, OfCaseTokens, OfCaseText, OfGoal, OfBase, OfNegative, OfNegativeTokens, OfNegativeText, OfEnd, part_of, last_part, next_parts, IsInHead, IsBehindHead, MayCome}
use Rattle.cs_check.specs.Passing.Faults.{Checked, Has, HasHead, HasClosed}
use Rattle.cs_check.specs.Passing.Passing.{number}
use Rattle.cs_check.specs.Checking.Judging.{IsRight, IsWrong}
use Rattle.cs_check.specs.Checking.Told.{AreEntries}
use Rattle.cs_check.specs.Checking.Head.{KnowsHead, HasEnded, IsHeadJudged}
use Rattle.cs_check.specs.Checking.Running.{IsPast, KnowsPlace, KnowsAbove, MayFollow, IsEntryJudged, IsLineJudged}
use Rattle.cs_check.proofs.OnChecking.Kinds.{all_faults, is_head, taken_head, right_head}
use Rattle.cs_check.proofs.OnChecking.Told.{last_part_more, never_inside}
use Rattle.cs_check.proofs.OnChecking.Quiet.{IsQuiet, quiet_taken}
use Rattle.cs_check.proofs.OnChecking.HeadEnd.{head_ended, ended_more, ended_past, not_in_head}

-- ---- lines of the head

head_part : (p : Part) (l : Line) → is_head l ≡ true → part_of p l ≡ InHead
head_part p Opening e = refl
head_part p (Weighing weigh) e = refl
head_part p (TokenLine n name) e = refl
head_part p (RuleLine n left right) e = refl
head_part p (LexemeLine name text) e = refl
head_part p (SetLine kind names) e = refl
head_part p (RowLine kind name names) e = refl
head_part p (CaseLine n size) e = absurd (false≢true e)
head_part p (DeriveLine rules) e = absurd (false≢true e)
head_part p (TokensLine names) e = absurd (false≢true e)
head_part p (TextLine text) e = absurd (false≢true e)
head_part p (NoLexemeLine name) e = absurd (false≢true e)
head_part p (NoScanLine after) e = absurd (false≢true e)
head_part p (GoalLine n goal verdict) e = absurd (false≢true e)
head_part p (BaseLine n goal) e = absurd (false≢true e)
head_part p (NegativeLine n base edit left right at) e = absurd (false≢true e)
head_part p (EndLine counts) e = absurd (false≢true e)

head_quiet : (l : Line) → is_head l ≡ true → IsQuiet l
head_quiet Opening e = record { size = refl; derivation = refl; goal = refl; verdict = refl; base = refl; edit = refl }
head_quiet (Weighing weigh) e = record { size = refl; derivation = refl; goal = refl; verdict = refl; base = refl; edit = refl }
head_quiet (TokenLine n name) e = record { size = refl; derivation = refl; goal = refl; verdict = refl; base = refl; edit = refl }
head_quiet (RuleLine n left right) e = record { size = refl; derivation = refl; goal = refl; verdict = refl; base = refl; edit = refl }
head_quiet (LexemeLine name text) e = record { size = refl; derivation = refl; goal = refl; verdict = refl; base = refl; edit = refl }
head_quiet (SetLine kind names) e = record { size = refl; derivation = refl; goal = refl; verdict = refl; base = refl; edit = refl }
head_quiet (RowLine kind name names) e = record { size = refl; derivation = refl; goal = refl; verdict = refl; base = refl; edit = refl }
head_quiet (CaseLine n size) e = absurd (false≢true e)
head_quiet (DeriveLine rules) e = absurd (false≢true e)
head_quiet (TokensLine names) e = absurd (false≢true e)
head_quiet (TextLine text) e = absurd (false≢true e)
head_quiet (NoLexemeLine name) e = absurd (false≢true e)
head_quiet (NoScanLine after) e = absurd (false≢true e)
head_quiet (GoalLine n goal verdict) e = absurd (false≢true e)
head_quiet (BaseLine n goal) e = absurd (false≢true e)
head_quiet (NegativeLine n base edit left right at) e = absurd (false≢true e)
head_quiet (EndLine counts) e = absurd (false≢true e)

module _ (c : Checked) (above : List Line) where
  module _ (l : Line) (inside : IsInHead c.file.grammar above l) where
    right_inside : HasHead c.file above l → HasClosed c.file above l → IsRight c above l
    right_inside head closed = right_head c above l (taken_head inside.due l inside.takes) (inl inside) head closed

    wrong_head : (HasHead c.file above l → ⊥) → IsWrong c above l faults.Head
    wrong_head never = record {
      wrong = never;
      lower =
          all_faults (λ (g : ClaimFault). number g < number faults.Head → Has c g above l) (λ less. inl inside)
          (λ less. absurd (omega arith)) (λ less. absurd (omega arith)) (λ less. absurd (omega arith)) (λ less. absurd (omega arith)) (λ less. absurd (omega arith)) (λ less. absurd (omega arith)) (λ less. absurd (omega arith)) (λ less. absurd (omega arith)) (λ less. absurd (omega arith)) (λ less. absurd (omega arith)) (λ less. absurd (omega arith)) (λ less. absurd (omega arith));
    }

    wrong_closed : HasHead c.file above l → (HasClosed c.file above l → ⊥) → IsWrong c above l faults.Unclosed
    wrong_closed head never = record {
      wrong = never;
      lower =
          all_faults (λ (g : ClaimFault). number g < number faults.Unclosed → Has c g above l) (λ less. inl inside) (λ less. head)
          (λ less. absurd (omega arith)) (λ less. absurd (omega arith)) (λ less. absurd (omega arith)) (λ less. absurd (omega arith)) (λ less. absurd (omega arith)) (λ less. absurd (omega arith)) (λ less. absurd (omega arith)) (λ less. absurd (omega arith)) (λ less. absurd (omega arith)) (λ less. absurd (omega arith)) (λ less. absurd (omega arith));
    }

  -- a line that may not come
  pub wrong_form : (l : Line) → (MayCome c.file.grammar above l → ⊥) → IsWrong c above l faults.Form
  wrong_form l never = record { wrong = never; lower = λ g less. absurd (omega arith) }

-- ---- where the next line may stand

not_inside : (p q : Part) → Contains (next_parts p) q → q ≡ InHead → ⊥
not_inside p q h is = never_inside p (subst (λ (r : Part). Contains (next_parts p) r) is h)

module _ (file : File) (above : List Line) (head : Head) where
  placed : (p : Part) → (p ≡ InHead → ⊥) → IsPast file above head → KnowsPlace file above head p
  placed InHead other h = absurd (other refl)
  placed OfCase other h = h
  placed OfDerivation other h = h
  placed OfCaseTokens other h = h
  placed OfCaseText other h = h
  placed OfGoal other h = h
  placed OfBase other h = h
  placed OfNegative other h = h
  placed OfNegativeTokens other h = h
  placed OfNegativeText other h = h
  placed OfEnd other h = h

  past_at : (p : Part) → (p ≡ InHead → ⊥) → KnowsPlace file above head p → IsPast file above head
  past_at InHead other k = absurd (other refl)
  past_at OfCase other k = k
  past_at OfDerivation other k = k
  past_at OfCaseTokens other k = k
  past_at OfCaseText other k = k
  past_at OfGoal other k = k
  past_at OfBase other k = k
  past_at OfNegative other k = k
  past_at OfNegativeTokens other k = k
  past_at OfNegativeText other k = k
  past_at OfEnd other k = k

  ended_at : (p : Part) → KnowsPlace file above head p → head_size file.grammar above ≤ length above → HasEnded file above head
  ended_at InHead k low = head_ended file above head k low
  ended_at OfCase k low = k.ended
  ended_at OfDerivation k low = k.ended
  ended_at OfCaseTokens k low = k.ended
  ended_at OfCaseText k low = k.ended
  ended_at OfGoal k low = k.ended
  ended_at OfBase k low = k.ended
  ended_at OfNegative k low = k.ended
  ended_at OfNegativeTokens k low = k.ended
  ended_at OfNegativeText k low = k.ended
  ended_at OfEnd k low = k.ended

  inside_at : (l : Line) (p : Part) → KnowsPlace file above head p → IsInHead file.grammar above l → p ≡ InHead
  inside_at l InHead k h = refl
  inside_at l OfCase k h = absurd (not_in_head file.grammar above l k.past h)
  inside_at l OfDerivation k h = absurd (not_in_head file.grammar above l k.past h)
  inside_at l OfCaseTokens k h = absurd (not_in_head file.grammar above l k.past h)
  inside_at l OfCaseText k h = absurd (not_in_head file.grammar above l k.past h)
  inside_at l OfGoal k h = absurd (not_in_head file.grammar above l k.past h)
  inside_at l OfBase k h = absurd (not_in_head file.grammar above l k.past h)
  inside_at l OfNegative k h = absurd (not_in_head file.grammar above l k.past h)
  inside_at l OfNegativeTokens k h = absurd (not_in_head file.grammar above l k.past h)
  inside_at l OfNegativeText k h = absurd (not_in_head file.grammar above l k.past h)
  inside_at l OfEnd k h = absurd (not_in_head file.grammar above l k.past h)

module _ (file : File) (above : List Line) (a : Above) (k : KnowsAbove file above a) where
  -- as long as all are in the head
  pub knows_head : a.part ≡ InHead → KnowsHead file above a.head
  knows_head is = subst (λ (p : Part). KnowsPlace file above a.head p) (sym k.part ∙ is) k.place

  pub is_past : (a.part ≡ InHead → ⊥) → IsPast file above a.head
  is_past other = past_at file above a.head (last_part above) (λ is. other (k.part ∙ is)) k.place

  pub has_ended : head_size file.grammar above ≤ length above → HasEnded file above a.head
  has_ended low = ended_at file above a.head (last_part above) k.place low

  pub never_in_head : (a.part ≡ InHead → ⊥) → (l : Line) → IsInHead file.grammar above l → ⊥
  never_in_head other l h = not_in_head file.grammar above l (is_past other).past h

  pub knows_inside : (l : Line) → IsInHead file.grammar above l → KnowsHead file above a.head
  knows_inside l h = knows_head (k.part ∙ inside_at file above a.head l (last_part above) k.place h)

  -- whether the line's part may come, by the part that is told
  pub follows_by : (l : Line) (part : Part) → part ≡ part_of a.part l → (so : Bool) → IsTrue so ↔ Contains (next_parts a.part) part → IsTrue so ↔ Contains (next_parts (last_part above)) (part_of (last_part above) l)
  follows_by l part is so told =
      subst (λ (p : Part). IsTrue so ↔ Contains (next_parts p) (part_of p l)) k.part
      (subst (λ (q : Part). IsTrue so ↔ Contains (next_parts a.part) q) is told)

  module _ (l : Line) where
    pub nowhere_before : (IsInHead file.grammar above l → ⊥) → (head_size file.grammar above ≤ length above → ⊥) → MayCome file.grammar above l → ⊥
    nowhere_before outside early come = ⊎_elim outside (λ (h : IsBehindHead file.grammar above l). early h.behind) come

    pub nowhere_behind : (IsInHead file.grammar above l → ⊥) → (MayFollow above l → ⊥) → MayCome file.grammar above l → ⊥
    nowhere_behind outside never come = ⊎_elim outside (λ (h : IsBehindHead file.grammar above l). never (h.part, h.numbered)) come

    -- ---- what is known with it

    behind_known : IsBehindHead file.grammar above l → (new : Entries) → AreEntries file (above ++ l ∷ []) new → KnowsAbove file (above ++ l ∷ []) (record a { part = part_of a.part l; entries = new })
    behind_known h new t =
        let ended = has_ended h.behind in
        let lines = above ++ l ∷ [] in
        let last = ap (λ (p : Part). part_of p l) k.part ∙ sym (last_part_more above l) in
        record {
          part = last;
          place =
              subst (λ (p : Part). KnowsPlace file lines a.head p) (sym (last_part_more above l))
              (placed file lines a.head (part_of (last_part above) l)
              (not_inside (last_part above) (part_of (last_part above) l) h.part)
              (record {
                ended = ended_more file above a.head (last_part above) l ended h.part;
                past = ended_past file.grammar above (last_part above) l h.behind h.part;
              }));
          entries = t;
        }

    inside_known : IsInHead file.grammar above l → length above + 1 < 4294967296 → (new : Head) → KnowsHead file (above ++ l ∷ []) new → KnowsAbove file (above ++ l ∷ []) (record a { head = new })
    inside_known h few new known =
        let lines = above ++ l ∷ [] in
        let is_last : last_part above ≡ InHead = inside_at file above a.head l (last_part above) k.place h in
        let is_head_line = taken_head h.due l h.takes in
        let stays : part_of (last_part above) l ≡ InHead = head_part (last_part above) l is_head_line in
        let last : last_part lines ≡ InHead = last_part_more above l ∙ stays in
        record {
          part = k.part ∙ is_last ∙ sym last;
          place = subst (λ (p : Part). KnowsPlace file lines new p) (sym last) known;
          entries =
              quiet_taken file above a.entries k.entries few l (head_quiet l is_head_line)
              (λ same. let e : InHead ≡ OfCase = sym is_last ∙ same in absurd cc) InHead stays (λ same. absurd cc) tt tt;
        }

-- ---- judgements

module _ (c : Checked) (above : List Line) (a : Above) (k : KnowsAbove c.file above a) (l : Line) where
  pub head_judged : IsInHead c.file.grammar above l → length above + 1 < 4294967296 → (new : Head) (o : Option ClaimFault) → IsHeadJudged c.file above l new o → IsLineJudged c above l (record a { head = new }) o
  head_judged h few new None j = (right_inside c above l h j.0 j.1, inside_known c.file above a k l h few new j.2)
  head_judged h few new (Some faults.Head) j = wrong_head c above l h j
  head_judged h few new (Some faults.Unclosed) j = wrong_closed c above l h j.0 j.1
  head_judged h few new (Some f) j = absurd j

  pub entry_judged : IsBehindHead c.file.grammar above l → (new : Entries) (o : Option ClaimFault) → IsEntryJudged c above l new o → IsLineJudged c above l (record a { part = part_of a.part l; entries = new }) o
  entry_judged h new None j = (j.0, behind_known c.file above a k l h new j.1)
  entry_judged h new (Some f) j = j
