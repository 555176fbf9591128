-- A negative that goes.
use Rattle.std.proofs.Common.{◌≡◌, ℕ, ◌≤◌, false, List, [], ◌∷◌, ◌++◌, Option, None, length, refl, sym, ap, ◌∙◌, subst, ⊎_elim, inr, arith}
use Rattle.std.specs.List.{Contains, filter_map}
use Rattle.std.proofs.lemmas.Bool.{false≢true}
use Rattle.cs_grammar.specs.Grammar.{PlainGrammar}
use Rattle.cs_lines.specs.Words.Edits.{EditWords}
use Rattle.cs_lines.specs.Lines.Line.{Line, TokensLine, TextLine, NoLexemeLine, NoScanLine, NegativeLine}
use Rattle.cs_check.specs.declared.passing.fault.ClaimFault.TheVariants.{Form}
use Rattle.cs_check.specs.Passing.Above.{has_sets, set_in, row_in, weigh_in, lexeme_in, size_in, derivation_in, goal_in, verdict_in, base_in}
use Rattle.cs_check.specs.Passing.Head.{head_size}
use Rattle.cs_check.specs.Passing.Places.{Part, OfNegative, OfNegativeTokens, OfNegativeText, part_of, last_part, next_parts}
use Rattle.cs_check.specs.Passing.Faults.{Checked}
use Rattle.cs_check.specs.Checking.Judging.{IsRight}
use Rattle.cs_check.proofs.OnChecking.Told.{kept, last_part_more, among_true, in_more, in_none}
use Rattle.cs_check.proofs.OnChecking.Kinds.{is_head}
use Rattle.cs_check.proofs.OnPassing.Behind.{IsPast, sets_stay, size_stays, past_more, body_behind, past_behind}
use Rattle.cs_check.proofs.OnPassing.Excluding.{no_set, no_row}
use Rattle.cs_check.proofs.OnPassing.Kin.{IsOpen, IsWithin, AreKin, opens}
use Rattle.cs_check.proofs.OnPassing.Left.{AreLeft}

-- a text line of a negative tells nothing
record IsSilent (l : Line) : Type 0 where
  body : is_head l ≡ false
  weigh : weigh_in l ≡ None
  lexeme : lexeme_in l ≡ None
  size : size_in l ≡ None
  derivation : derivation_in l ≡ None
  goal : goal_in l ≡ None
  verdict : verdict_in l ≡ None
  base : base_in l ≡ None

silent : (l : Line) → Contains (OfNegativeText ∷ []) (part_of OfNegativeTokens l) → IsSilent l
silent (TextLine text) h =
    record { body = refl; weigh = refl; lexeme = refl; size = refl; derivation = refl; goal = refl; verdict = refl; base = refl }
silent (NoLexemeLine name) h =
    record { body = refl; weigh = refl; lexeme = refl; size = refl; derivation = refl; goal = refl; verdict = refl; base = refl }
silent (NoScanLine after) h =
    record { body = refl; weigh = refl; lexeme = refl; size = refl; derivation = refl; goal = refl; verdict = refl; base = refl }
silent l h = absurd (false≢true (among_true (OfNegativeText ∷ []) (part_of OfNegativeTokens l) h))

module _ (above : List Line) (n t x : Line) where
  abbrev pub with_three : List Line
  with_three = ((above ++ n ∷ []) ++ t ∷ []) ++ x ∷ []

  three_kept : {X : Type 0} (in_line : Line → Option X) → in_line n ≡ None → in_line t ≡ None → in_line x ≡ None → filter_map in_line with_three ≡ filter_map in_line above
  three_kept in_line a b d =
      kept in_line ((above ++ n ∷ []) ++ t ∷ []) x d ∙ kept in_line (above ++ n ∷ []) t b ∙ kept in_line above n a

  three_sets : is_head n ≡ false → is_head t ≡ false → is_head x ≡ false → has_sets with_three ≡ has_sets above
  three_sets a b d =
      sets_stay ((above ++ n ∷ []) ++ t ∷ []) x d ∙ sets_stay (above ++ n ∷ []) t b ∙ sets_stay above n a

  three_size : (g : PlainGrammar) → is_head n ≡ false → is_head t ≡ false → is_head x ≡ false → head_size g with_three ≡ head_size g above
  three_size g a b d =
      size_stays g ((above ++ n ∷ []) ++ t ∷ []) x d ∙ size_stays g (above ++ n ∷ []) t b ∙ size_stays g above n a

open_kin : (p q : Part) → AreKin p q → IsOpen p → IsOpen q
open_kin p q h o = ⊎_elim (λ (e : q ≡ p). subst IsOpen (sym e) o) (λ (both : IsOpen p × IsOpen q). both.1) h

module _ (c : Checked) (above other : List Line) (left : AreLeft c.file.grammar above other) (number base : ℕ) (edit : EditWords) (l r : List ℕ) (at : ℕ) (names : List (List ℕ)) (x : Line) where
  abbrev the_negative : Line
  the_negative = NegativeLine number base edit l r at

  pub left_gone : IsRight c above the_negative → IsRight c (above ++ the_negative ∷ []) (TokensLine names) → IsRight c ((above ++ the_negative ∷ []) ++ TokensLine names ∷ []) x → AreLeft c.file.grammar (with_three above the_negative (TokensLine names) x) other
  left_gone right_n right_t right_x =
      let g = c.file.grammar in
      let n : Line = the_negative in
      let t : Line = TokensLine names in
      let one = above ++ n ∷ [] in
      let two = one ++ t ∷ [] in
      let here = body_behind g above n refl (right_n Form) in
      let past1 : IsPast g one = past_more g above n refl here.behind in
      let low1 : head_size g one ≤ length one = omega (arith, past1) in
      let past2 : IsPast g two = past_more g one t refl low1 in
      let low2 : head_size g two ≤ length two = omega (arith, past2) in
      let part1 : last_part one ≡ OfNegative = last_part_more above n in
      let part2 : last_part two ≡ OfNegativeTokens = last_part_more one t ∙ ap (λ (p : Part). part_of p t) part1 in
      let follows : Contains (OfNegativeText ∷ []) (part_of OfNegativeTokens x) =
      subst (λ (p : Part). Contains (next_parts p) (part_of p x)) part2 (past_behind g two x past2 (right_x Form)).part in
      let quiet = silent x follows in
      let is_text : OfNegativeText ≡ part_of OfNegativeTokens x =
      ⊎_elim (λ (e : OfNegativeText ≡ part_of OfNegativeTokens x). e) (λ (none : Contains [] (part_of OfNegativeTokens x)). absurd (in_none (part_of OfNegativeTokens x) none))
      (in_more OfNegativeText [] (part_of OfNegativeTokens x) follows) in
      let part3 : last_part (two ++ x ∷ []) ≡ OfNegativeText = last_part_more two x ∙ ap (λ (p : Part). part_of p x) part2 ∙ sym is_text in
      let opened = opens (last_part above) here.part in
      let behind = here.behind in
      let high : head_size g above ≤ length other =
      ⊎_elim (λ (e : length other ≡ length above). let low : head_size g above ≤ length other = omega (arith, e, behind) in low)
      (λ (past : IsPast g above × (head_size g above ≤ length other)). past.1) left.long in
      let same_size = three_size above n t x g refl refl quiet.body in
      let still : head_size g (two ++ x ∷ []) ≤ length other = omega (arith, same_size, high) in
      record {
        alike = record {
          some = left.alike.some ∙ sym (three_sets above n t x refl refl quiet.body);
          sets = λ kind. left.alike.sets kind ∙ sym (three_kept above n t x (set_in kind) (no_set kind n refl) (no_set kind t refl) (no_set kind x quiet.body));
          rows = λ kind. left.alike.rows kind ∙ sym (three_kept above n t x (row_in kind) (no_row kind n refl) (no_row kind t refl) (no_row kind x quiet.body));
          weighs = left.alike.weighs ∙ sym (three_kept above n t x weigh_in refl refl quiet.weigh);
          lexemes = left.alike.lexemes ∙ sym (three_kept above n t x lexeme_in refl refl quiet.lexeme);
          sizes = left.alike.sizes ∙ sym (three_kept above n t x size_in refl refl quiet.size);
          derivations = left.alike.derivations ∙ sym (three_kept above n t x derivation_in refl refl quiet.derivation);
          goals = left.alike.goals ∙ sym (three_kept above n t x goal_in refl refl quiet.goal);
          verdicts = left.alike.verdicts ∙ sym (three_kept above n t x verdict_in refl refl quiet.verdict);
          bases = left.alike.bases ∙ sym (three_kept above n t x base_in refl refl quiet.base);
        };
        long = inr (past_more g two x quiet.body low2, still);
        part = inr (subst IsOpen (sym part3) tt, open_kin (last_part above) (last_part other) left.part opened);
        told = λ within. absurd (subst IsWithin part3 within);
      }
