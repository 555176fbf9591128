-- The scan of a text, match by match, and what settles it.
use Rattle.std.proofs.Common.{◌≡◌, ℕ, ◌+◌, ◌-◌, ◌≤◌, List, [], ◌∷◌, ◌++◌, Some, None, sym, ap, ◌∙◌, subst, arith, length, length-append, length-drop, take, drop, inl, inr, ◌⊎◌}
use Rattle.std.specs.Prelude.{Option, IfSome}
use Rattle.std.proofs.lemmas.List.{append-nil, drop-drop, drop-take, take-append-drop, length-take-le}
use Rattle.cs_scanner.specs.Scan.Scan.{Scanning, Gives}
use Rattle.cs_scanner.specs.Scan.Going.{IsBegunBy}
use Rattle.cs_scanner.proofs.OnScan.Together.{begun_more, tail_is}
use Rattle.cs_texts.specs.declared.splice.marks.TextMark.{TextMark}
use Rattle.cs_texts.specs.declared.splice.step.Step.{Step}
use Rattle.cs_texts.specs.Splice.Settled.{IsFurther, IsPassed, IsSettledBy, IsStep, tokens_of}
use Rattle.cs_texts.specs.Splice.Marks.{AreMarks, IsFront, IsMark}
use Rattle.cs_texts.proofs.OnSplice.Settling.{begins_same}
use Rattle.cs_texts.proofs.OnSplice.Lists.{pushed}

-- what is settled is so of each text with these bytes
pub settled_at : (P : List ℕ → Type 0) (text t : List ℕ) (n : ℕ) → IsSettledBy text P n → take n t ≡ take n text → P t
settled_at P text t n settled same = subst P (ap (λ f. f ++ drop n t) (sym same) ∙ take-append-drop n t) (settled.1 (drop n t))

module _ (s : Scanning) (text : List ℕ) where
  passed_more : (t first : List ℕ) (at size : ℕ) (now : List ℕ) → IsPassed s first at t → Gives s (drop at t) size now → IsPassed s (first ++ now) (at + size) t
  passed_more t first at size now passed gives = subst (λ r. IsBegunBy s t (first ++ now) r) (drop-drop size at t) (begun_more s t first (drop at t) size now passed gives)

  same_later : (t : List ℕ) (at k n : ℕ) → at + k ≤ n → ((j : ℕ) → j ≤ n → take j t ≡ take j text) → take k (drop at t) ≡ take k (drop at text)
  same_later t at k n le same = sym (drop-take at k t) ∙ ap (drop at) (same (at + k) le) ∙ drop-take at k text

  settled_more : (first now : List ℕ) (at size m k n : ℕ) → IsSettledBy text (IsPassed s first at) m → IsSettledBy (drop at text) (λ t. Gives s t size now) k → at ≤ length text → m ≤ n → at + k ≤ n → (n ≡ m) ⊎ (n ≡ at + k) → IsSettledBy text (IsPassed s (first ++ now) (at + size)) n
  settled_more first now at size m k n front step at_within some more either =
      let all : n ≤ length text = elim either [ inl is ↦ omega (arith, is, front.0) | inr is ↦ omega (arith, is, step.0, length-drop at text, at_within) ] in (
        all,
        λ rest.
            let t = take n text ++ rest in
            let same : (j : ℕ) → j ≤ n → take j t ≡ take j text = begins_same text rest n all in
            passed_more t first at size now (settled_at (IsPassed s first at) text t m front (same m some))
            (settled_at (λ u. Gives s u size now) (drop at text) (drop at t) k step (same_later t at k n more same)),
      )

  front_more : (first : List ℕ) (at : ℕ) (read more : Option ℕ) (step : Step) → IsFront s text first at read → IsStep s (drop at text) step → IsFurther read at step.read more → IsFront s text (first ++ tokens_of step.given) (at + step.size) more
  front_more first at read more step front taken further =
      record {
        within = omega (arith, taken.gives.is_match.within, length-drop at text, front.within);
        passed = passed_more text first at step.size (tokens_of step.given) front.passed taken.gives;
        settled = go more further;
      }
    where
      go : (most : Option ℕ) → IsFurther read at step.read most → IfSome most (λ n. (at + step.size ≤ n) × IsSettledBy text (IsPassed s (first ++ tokens_of step.given) (at + step.size)) n)
      go None f = tt
      go (Some n) f =
          let m = f.0 in
          let k = f.1 in
          let before : IfSome (Some m) (λ i. (at ≤ i) × IsSettledBy text (IsPassed s first at) i) = subst (λ o. IfSome o (λ i. (at ≤ i) × IsSettledBy text (IsPassed s first at) i)) f.2 front.settled in
          let here : IfSome (Some k) (IsSettledBy (drop at text) (λ t. Gives s t step.size (tokens_of step.given))) = subst (λ o. IfSome o (IsSettledBy (drop at text) (λ t. Gives s t step.size (tokens_of step.given)))) f.3 taken.settled in
          let fits = (here.1 []).is_match.within in
          let long : length (take k (drop at text) ++ []) ≡ length (take k (drop at text)) + 0 = length-append (take k (drop at text)) [] in
          (omega (arith, f.5, fits, long, length-take-le k (drop at text) here.0), settled_more first (tokens_of step.given) at step.size m k n before.1 here front.within f.4 f.5 f.6)

  -- behind a match of what is left of the text
  pub front_next : (first : List ℕ) (at : ℕ) (read more : Option ℕ) (step : Step) → IsFront s text first at read → IsStep s (take (length text - at) (drop at text) ++ []) step → IsFurther read at step.read more
      → IsFront s text (first ++ tokens_of step.given) (at + step.size) more
  front_next first at read more step front taken further =
      let left = take (length text - at) (drop at text) in
      front_more first at read more step front (subst (λ (t : List ℕ). IsStep s t step) (append-nil left ∙ tail_is at text) taken) further

  -- one that gives nothing
  pub front_still : (first : List ℕ) (at : ℕ) (read more : Option ℕ) (step : Step) → IsFront s text first at read → IsStep s (take (length text - at) (drop at text) ++ []) step → IsFurther read at step.read more
      → tokens_of step.given ≡ [] → IsFront s text first (at + step.size) more
  front_still first at read more step front taken further none =
      subst (λ (ts : List ℕ). IsFront s text ts (at + step.size) more) (ap (λ (ts : List ℕ). first ++ ts) none ∙ append-nil first) (front_next first at read more step front taken further)

  pub marks_more : (tokens : List ℕ) (marks : List TextMark) (mark : TextMark) → AreMarks s text tokens marks → IsMark s text tokens (length marks) mark → AreMarks s text tokens (marks ++ mark ∷ [])
  marks_more tokens marks mark all here k other e =
      elim (pushed marks mark other k e) [ inl there ↦ all k other there | inr last ↦ subst (λ m. IsMark s text tokens k m) last.1 (subst (λ i. IsMark s text tokens i mark) (sym last.0) here) ]
