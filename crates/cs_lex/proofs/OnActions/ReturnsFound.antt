-- What stands behind `return`, as the code finds it.
use Rattle.std.proofs.Common.{◌≡◌, ℕ, ◌+◌, List, drop, refl, sym, ap, subst, ◌∙◌, arith}
use Rattle.std.proofs.lemmas.List.{drop-drop}
use Rattle.cs_bytes.specs.Classes.{is_space}
use Rattle.cs_lex.specs.Actions.Gaps.{IsGap, IsSign, AreSigns}
use Rattle.cs_lex.specs.Actions.Returns.{Named, IsNamed, Returns}
use Rattle.cs_lex.proofs.OnActions.GapEnds.{gap_same}
use Rattle.cs_lex.proofs.OnActions.SignRuns.{same_run, same_signs}
use Rattle.cs_lex.proofs.OnActions.NamesBehind.{named_same}

-- what stands behind `return`, by the places at which its parts begin
pub record Laid (text : List ℕ) (n : Named) : Type 0 where
  pub count : ℕ
  pub opened : ℕ
  pub gap : ℕ
  pub size : ℕ
  pub closed : ℕ
  pub last : ℕ
  pub opens : AreSigns 40 text count opened
  pub no_more : (k : ℕ) → ¬ IsSign is_space 40 (drop opened text) k
  pub is_gap : IsGap is_space (drop opened text) gap
  pub named : IsNamed (drop (opened + gap) text) n size
  pub closes : AreSigns 41 (drop (opened + gap + size) text) count closed
  pub ends : IsSign is_space 59 (drop (opened + gap + size + closed) text) last

-- a part behind another begins behind both sizes
two_behind : (text inner rest : List ℕ) (m n : ℕ) → inner ≡ drop m text → rest ≡ drop n inner → rest ≡ drop (m + n) text
two_behind text inner rest m n e f = f ∙ ap (drop n) e ∙ drop-drop n m text

pub laid_of : (text : List ℕ) (n : Named) → Returns text n → Laid text n
laid_of text n r =
    let name_at = two_behind text r.inner r.name r.opens.0 r.is_gap.0 r.opens.2 r.is_gap.2 in
    let behind_at = two_behind text r.name r.behind (r.opens.0 + r.is_gap.0) r.named.0 name_at r.named.2 in
    let end_at = two_behind text r.behind r.end (r.opens.0 + r.is_gap.0 + r.named.0) r.closes.0 behind_at r.closes.2 in
    record {
      count = r.count;
      opened = r.opens.0;
      gap = r.is_gap.0;
      size = r.named.0;
      closed = r.closes.0;
      last = r.ends.0;
      opens = r.opens.1;
      no_more = subst (λ (t : List ℕ). (k : ℕ) → ¬ IsSign is_space 40 t k) r.opens.2 r.no_more;
      is_gap = subst (λ (t : List ℕ). IsGap is_space t r.is_gap.0) r.opens.2 r.is_gap.1;
      named = subst (λ (t : List ℕ). IsNamed t n r.named.0) name_at r.named.1;
      closes = subst (λ (t : List ℕ). AreSigns 41 t r.count r.closes.0) behind_at r.closes.1;
      ends = subst (λ (t : List ℕ). IsSign is_space 59 t r.ends.0) end_at r.ends.1;
    }

pub of_laid : (text : List ℕ) (n : Named) → Laid text n → Returns text n
of_laid text n l = record {
  count = l.count;
  inner = drop l.opened text;
  name = drop (l.opened + l.gap) text;
  behind = drop (l.opened + l.gap + l.size) text;
  end = drop (l.opened + l.gap + l.size + l.closed) text;
  opens = (l.opened, l.opens, refl);
  no_more = l.no_more;
  is_gap = (l.gap, l.is_gap, sym (drop-drop l.gap l.opened text));
  named = (l.size, l.named, sym (drop-drop l.size (l.opened + l.gap) text));
  closes = (l.closed, l.closes, sym (drop-drop l.closed (l.opened + l.gap + l.size) text));
  ends = (l.last, l.ends);
}

module _ (text behind : List ℕ) (count opened gap : ℕ) (signs : AreSigns 40 text count opened) (no_more : (k : ℕ) → ¬ IsSign is_space 40 (drop opened text) k) (is_behind : behind ≡ drop opened text) (is_gap : IsGap is_space behind gap) (rest : List ℕ) (is_rest : rest ≡ drop (opened + gap) text) where
  here_gap : IsGap is_space (drop opened text) gap
  here_gap = subst (λ (t : List ℕ). IsGap is_space t gap) is_behind is_gap

  same_open : (n : Named) (r : Laid text n) → (r.count ≡ count) × (r.opened + r.gap ≡ opened + gap)
  same_open n r =
      let e = same_run 40 text r.count count r.opened opened r.opens signs r.no_more no_more in
      let g : r.gap ≡ gap = gap_same is_space refl (drop opened text) r.gap gap (subst (λ (k : ℕ). IsGap is_space (drop k text) r.gap) e.1 r.is_gap) here_gap in
      (e.0, omega (arith, e.1, g))

  named_there : (n : Named) (r : Laid text n) → IsNamed rest n r.size
  named_there n r = subst (λ (t : List ℕ). IsNamed t n r.size) (ap (λ (k : ℕ). drop k text) ((same_open n r).1) ∙ sym is_rest) r.named

  pub unnamed : ((n : Named) (size : ℕ) → ¬ IsNamed rest n size) → (n : Named) → ¬ Returns text n
  unnamed none n r = let l = laid_of text n r in none n l.size (named_there n l)

  module _ (m : Named) (size : ℕ) (named : IsNamed rest m size) (inner : List ℕ) (is_inner : inner ≡ drop (opened + gap + size) text) where
    same_name : (n : Named) (r : Laid text n) → (n ≡ m) × (r.opened + r.gap + r.size ≡ opened + gap + size)
    same_name n r = let s = named_same rest n m r.size size (named_there n r) named in (s.0, omega (arith, (same_open n r).1, s.1))

    closes_there : (n : Named) (r : Laid text n) → AreSigns 41 inner count r.closed
    closes_there n r =
        subst (λ (t : List ℕ). AreSigns 41 t count r.closed) (ap (λ (k : ℕ). drop k text) ((same_name n r).1) ∙ sym is_inner) (subst (λ (c : ℕ). AreSigns 41 (drop (r.opened + r.gap + r.size) text) c r.closed) ((same_open n r).0) r.closes)

    pub unclosed : ((k : ℕ) → ¬ AreSigns 41 inner count k) → (n : Named) → ¬ Returns text n
    unclosed none n r = let l = laid_of text n r in none l.closed (closes_there n l)

    module _ (closed : ℕ) (closes : AreSigns 41 inner count closed) (last : List ℕ) (is_last : last ≡ drop (opened + gap + size + closed) text) where
      unended_so : ((k : ℕ) → ¬ IsSign is_space 59 last k) → (n : Named) → ¬ Laid text n
      unended_so none n r =
          let c : r.closed ≡ closed = same_signs 41 inner count r.closed closed (closes_there n r) closes in
          let at : r.opened + r.gap + r.size + r.closed ≡ opened + gap + size + closed = omega (arith, (same_name n r).1, c) in
          none r.last (subst (λ (t : List ℕ). IsSign is_space 59 t r.last) (ap (λ (k : ℕ). drop k text) at ∙ sym is_last) r.ends)

      pub unended : ((k : ℕ) → ¬ IsSign is_space 59 last k) → (n : Named) → ¬ Returns text n
      unended none n r = unended_so none n (laid_of text n r)

      pub returned_is : (end : ℕ) → IsSign is_space 59 last end → Returns text m
      returned_is end s = of_laid text m (record {
        count = count;
        opened = opened;
        gap = gap;
        size = size;
        closed = closed;
        last = end;
        opens = signs;
        no_more = no_more;
        is_gap = here_gap;
        named = subst (λ (t : List ℕ). IsNamed t m size) is_rest named;
        closes = subst (λ (t : List ℕ). AreSigns 41 t count closed) is_inner closes;
        ends = subst (λ (t : List ℕ). IsSign is_space 59 t end) is_last s;
      })

-- behind `return` one name is given back
same_laid : (text : List ℕ) (n m : Named) → Laid text n → Laid text m → n ≡ m
same_laid text n m r s =
    (same_name text (drop s.opened text) s.count s.opened s.gap s.opens s.no_more refl s.is_gap (drop (s.opened + s.gap) text) refl m s.size s.named (drop (s.opened + s.gap + s.size) text) refl n r).0

pub same_returned : (text : List ℕ) (n m : Named) → Returns text n → Returns text m → n ≡ m
same_returned text n m r s = same_laid text n m (laid_of text n r) (laid_of text m s)
