-- A line that stays, with another text or another number.
use Rattle.std.proofs.Common.{◌≡◌, ℕ, true, List, refl, sym, ap, ◌∙◌, subst}
use Rattle.std.proofs.lemmas.Bool.{false≢true}
use Rattle.cs_scanner.specs.Scan.Scan.{Scanning, Scans}
use Rattle.cs_lines.specs.Lines.Line.{Line, TextLine, NegativeLine, EndLine}
use Rattle.cs_check.specs.Passing.Places.{Part, part_of}
use Rattle.cs_check.specs.Passing.Changes.{IsExchanged, IsRenumbered}
use Rattle.cs_check.proofs.OnChecking.Kinds.{is_head}
use Rattle.cs_check.proofs.OnPassing.Excluding.{no_set, no_row}
use Rattle.cs_check.proofs.OnPassing.Alike.{TellSame, same_tells}

abbrev pub IsChanged : Scanning → Line → Line → Type 0
IsChanged s (TextLine text) k = (other : List ℕ) × (k ≡ TextLine other) × ((tokens : List ℕ) → Scans s text tokens → Scans s other tokens)
IsChanged s (NegativeLine n base edit left right at) k = (m : ℕ) × (k ≡ NegativeLine m base edit left right at)
IsChanged s (EndLine counts) k = (negatives : ℕ) × (k ≡ EndLine (record counts { negatives = negatives }))
IsChanged s l k = k ≡ l

pub exchanged : (s : Scanning) (l k : Line) → IsExchanged s l k → IsChanged s l k
exchanged s (TextLine text) k h = h
exchanged s (NegativeLine n base edit left right at) k h = (n, h)
exchanged s (EndLine counts) k h = (counts.negatives, h)
exchanged s l k h = h

pub renumbered : (s : Scanning) (l k : Line) → IsRenumbered l k → IsChanged s l k
renumbered s (TextLine text) k h = (text, h, λ tokens scans. scans)
renumbered s (NegativeLine n base edit left right at) k h = h
renumbered s (EndLine counts) k h = h
renumbered s l k h = h

module _ (s : Scanning) where
  pub head_same : (l k : Line) → IsChanged s l k → is_head k ≡ true → k ≡ l
  head_same (TextLine text) k h head = absurd (false≢true (sym (ap is_head h.1) ∙ head))
  head_same (NegativeLine n base edit left right at) k h head = absurd (false≢true (sym (ap is_head h.1) ∙ head))
  head_same (EndLine counts) k h head = absurd (false≢true (sym (ap is_head h.1) ∙ head))
  head_same l k h head = h

  pub head_kept : (l k : Line) → IsChanged s l k → is_head l ≡ true → k ≡ l
  head_kept (TextLine text) k h head = absurd (false≢true head)
  head_kept (NegativeLine n base edit left right at) k h head = absurd (false≢true head)
  head_kept (EndLine counts) k h head = absurd (false≢true head)
  head_kept l k h head = h

  pub same_part : (p : Part) (l k : Line) → IsChanged s l k → part_of p k ≡ part_of p l
  same_part p (TextLine text) k h = ap (part_of p) h.1
  same_part p (NegativeLine n base edit left right at) k h = ap (part_of p) h.1
  same_part p (EndLine counts) k h = ap (part_of p) h.1
  same_part p l k h = ap (part_of p) h

  pub tell_same : (l k : Line) → IsChanged s l k → TellSame l k
  tell_same (TextLine text) k h =
      subst (λ (x : Line). TellSame (TextLine text) x) (sym h.1) (record {
        some = refl;
        sets = λ kind. no_set kind (TextLine h.0) refl ∙ sym (no_set kind (TextLine text) refl);
        rows = λ kind. no_row kind (TextLine h.0) refl ∙ sym (no_row kind (TextLine text) refl);
        weigh = refl;
        lexeme = refl;
        size = refl;
        derivation = refl;
        goal = refl;
        verdict = refl;
        base = refl;
      })
  tell_same (NegativeLine n base edit left right at) k h =
      let l : Line = NegativeLine n base edit left right at in
      let m : Line = NegativeLine h.0 base edit left right at in
      subst (λ (x : Line). TellSame l x) (sym h.1) (record {
        some = refl;
        sets = λ kind. no_set kind m refl ∙ sym (no_set kind l refl);
        rows = λ kind. no_row kind m refl ∙ sym (no_row kind l refl);
        weigh = refl;
        lexeme = refl;
        size = refl;
        derivation = refl;
        goal = refl;
        verdict = refl;
        base = refl;
      })
  tell_same (EndLine counts) k h =
      let m : Line = EndLine (record counts { negatives = h.0 }) in
      subst (λ (x : Line). TellSame (EndLine counts) x) (sym h.1) (record {
        some = refl;
        sets = λ kind. no_set kind m refl ∙ sym (no_set kind (EndLine counts) refl);
        rows = λ kind. no_row kind m refl ∙ sym (no_row kind (EndLine counts) refl);
        weigh = refl;
        lexeme = refl;
        size = refl;
        derivation = refl;
        goal = refl;
        verdict = refl;
        base = refl;
      })
  tell_same l k h = same_tells l k h
