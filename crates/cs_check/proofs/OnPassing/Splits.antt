-- Where what lines tell of a kind stands among them, and how right lines end.
use Rattle.std.proofs.Common.{◌≡◌, ℕ, ◌-◌, ◌<◌, List, [], ◌∷◌, ◌++◌, Option, Some, None, refl, sym, ap, ◌∙◌, subst, length, arith}
use Rattle.std.specs.List.{filter_map, cons_option}
use Rattle.std.proofs.lemmas.List.{length_push, get_or_push}
use Rattle.std.proofs.lemmas.Option.{slice_get_read}
use Rattle.cs_lines.specs.Lines.Line.{GoalWords, VerdictWords, Counts, Line, TokensLine, TextLine, NoLexemeLine, NoScanLine, GoalLine, EndLine}
use Rattle.cs_check.specs.Passing.Above.{goal_in}
use Rattle.cs_check.specs.Passing.Places.{Part, OfNegative, OfNegativeTokens, OfEnd, tokens_part, text_part, part_of, last_part}
use Rattle.cs_check.specs.Passing.Entries.{IsLast}
use Rattle.cs_check.proofs.OnChecking.Told.{last_part_more}
use Rattle.cs_check.proofs.OnPassing.First.{Bare, Ended, back}

pub no_line : {A : Type 0} (above : List A) (line : A) (below : List A) → [] ≡ above ++ line ∷ below → ⊥
no_line [] line below e = absurd cc
no_line (x ∷ above) line below e = absurd cc

-- the line that tells this, with what those above it tell
pub record TellsAt {X : Type 0} (in_line : Line → Option X) (lines : List Line) (before : List X) (x : X) : Type 0 where
  pub above : List Line
  pub line : Line
  pub below : List Line
  pub place : lines ≡ above ++ line ∷ below
  pub tells : in_line line ≡ Some x
  pub told : filter_map in_line above ≡ before

module _ {X : Type 0} (in_line : Line → Option X) where
  deeper : (l : Line) (ls : List Line) (before : List X) (x : X) (o : Option X) → in_line l ≡ o → TellsAt in_line ls before x → TellsAt in_line (l ∷ ls) (cons_option o before) x
  deeper l ls before x o is at = record {
    above = l ∷ at.above;
    line = at.line;
    below = at.below;
    place = ap (λ (s : List Line). l ∷ s) at.place;
    tells = at.tells;
    told = ap (λ (p : Option X). cons_option p (filter_map in_line at.above)) is ∙ ap (cons_option o) at.told;
  }

  pub tells_at : (lines : List Line) (before : List X) (x : X) (behind : List X) → filter_map in_line lines ≡ before ++ x ∷ behind → TellsAt in_line lines before x
  tells_at [] before x behind e = absurd (no_line before x behind e)
  tells_at (l ∷ ls) before x behind e = by (in_line l) refl before e (λ b r. tells_at ls b x behind r)
    where
      by : (o : Option X) → in_line l ≡ o → (b : List X) → cons_option (in_line l) (filter_map in_line ls) ≡ b ++ x ∷ behind → ((d : List X) → filter_map in_line ls ≡ d ++ x ∷ behind → TellsAt in_line ls d x) → TellsAt in_line (l ∷ ls) b x
      by None is b e rest =
          let inner : filter_map in_line ls ≡ b ++ x ∷ behind = subst (λ (p : Option X). cons_option p (filter_map in_line ls) ≡ b ++ x ∷ behind) is e in
          deeper l ls b x None is (rest b inner)
      by (Some y) is [] e rest =
          let whole : y ∷ filter_map in_line ls ≡ x ∷ behind = subst (λ (p : Option X). cons_option p (filter_map in_line ls) ≡ x ∷ behind) is e in
          let same : y ≡ x = cc in
          record { above = []; line = l; below = ls; place = refl; tells = is ∙ ap Some same; told = refl }
      by (Some y) is (d ∷ ds) e rest =
          let whole : y ∷ filter_map in_line ls ≡ d ∷ (ds ++ x ∷ behind) = subst (λ (p : Option X). cons_option p (filter_map in_line ls) ≡ d ∷ (ds ++ x ∷ behind)) is e in
          let same : y ≡ d = cc in
          let inner : filter_map in_line ls ≡ ds ++ x ∷ behind = cc in
          subst (λ (z : X). TellsAt in_line (l ∷ ls) (z ∷ ds) x) same (deeper l ls ds x (Some y) is (rest ds inner))

pub goal_line : (l : Line) (words : GoalWords) → goal_in l ≡ Some words → (n : ℕ) × (verdict : VerdictWords) × (l ≡ GoalLine n words verdict)
goal_line (GoalLine n goal verdict) words e =
    let same : goal ≡ words = cc in
    (n, verdict, ap (λ (w : GoalWords). GoalLine n w verdict) same)
goal_line l words e = absurd cc

-- ---- the last of a list

pub is_last : {A : Type 0} (list : List A) (a : A) → IsLast (list ++ a ∷ []) a
is_last {A} list a =
    let long = length_push list a in
    let i = length (list ++ a ∷ []) - 1 in
    let at : length list ≡ i = omega (arith, long) in
    let low : 0 < length (list ++ a ∷ []) = omega (arith, long) in
    let within : i < length (list ++ a ∷ []) = omega (arith, long) in
    (low, slice_get_read (list ++ a ∷ []) (length (list ++ a ∷ [])) i a refl within (sym (get_or_push list a a i at)))

pub last_is : {A : Type 0} (list : List A) (a b : A) → IsLast (list ++ a ∷ []) b → b ≡ a
last_is {A} list a b h = let e : Some a ≡ Some b = sym (is_last list a).1 ∙ h.1 in cc

-- ---- the end line

tokens_no_end : (p : Part) → tokens_part p ≡ OfEnd → ⊥
tokens_no_end OfNegative e = absurd cc
tokens_no_end p e = absurd cc

text_no_end : (p : Part) → text_part p ≡ OfEnd → ⊥
text_no_end OfNegativeTokens e = absurd cc
text_no_end p e = absurd cc

end_line : (p : Part) (l : Line) → part_of p l ≡ OfEnd → (counts : Counts) × (l ≡ EndLine counts)
end_line p (EndLine counts) e = (counts, refl)
end_line p (TokensLine names) e = absurd (tokens_no_end p e)
end_line p (TextLine text) e = absurd (text_no_end p e)
end_line p (NoLexemeLine name) e = absurd (text_no_end p e)
end_line p (NoScanLine after) e = absurd (text_no_end p e)
end_line p l e = absurd cc

pub ends_so : (lines : List Line) → last_part lines ≡ OfEnd → (above : List Line) × (counts : Counts) × (lines ≡ above ++ EndLine counts ∷ [])
ends_so lines e =
    elim (back lines) [
      | Bare none ↦ absurd (let start : last_part [] ≡ OfEnd = ap last_part (sym none) ∙ e in cc)
      | Ended init last is ↦
          (let part : part_of (last_part init) last ≡ OfEnd = sym (last_part_more init last) ∙ ap last_part (sym is) ∙ e in
          let end = end_line (last_part init) last part in
          (init, end.0, is ∙ ap (λ (x : Line). init ++ x ∷ []) end.1))
    ]
