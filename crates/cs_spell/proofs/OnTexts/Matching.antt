-- Matches of a scan, one behind the other.
use Rattle.std.proofs.Common.{◌≡◌, ◌≢◌, ℕ, ◌+◌, ◌<◌, ◌≤◌, Bool, true, false, List, [], refl, sym, ap, ◌∙◌, subst, arith, length, length-drop, take, drop}
use Rattle.std.proofs.lemmas.List.{drop-drop, drop_all}
use Rattle.cs_scanner.specs.Scan.Scan.{Gives, HasNoMatch, IsMatch, Runs, Scanning, Scans, ends, stops, goes_on}
use Rattle.cs_scanner.proofs.OnScan.OneMatch.{match_one, no_match}
use Rattle.cs_spell.specs.Texts.Searching.{IsLeft, IsLeftOf}
use Rattle.cs_spell.specs.Texts.Texts.{HasMatch, here, behind}

module _ (s : Scanning) where
  -- a text with a byte that scans to tokens begins with a match that gives some
  pub record Begins (text : List ℕ) : Type 0 where
    pub size : ℕ
    pub now : List ℕ
    pub later : List ℕ
    pub gives : Gives s text size now
    pub scans : Runs s (drop size text) later true

  pub begins : (text given : List ℕ) → text ≢ [] → Runs s text given true → Begins text
  begins text given some r = by given true refl r
    where
      by : (given : List ℕ) (whole : Bool) → whole ≡ true → Runs s text given whole → Begins text
      by given whole is (ends _ _ _ e g w) = absurd (some e)
      by given whole is (stops _ _ _ ne none g w) = absurd (let both : false ≡ true = sym w ∙ is in cc)
      by given whole is (goes_on _ _ _ size now later g r i) = record { size = size; now = now; later = later; gives = g; scans = subst (λ b. Runs s (drop size text) later b) is r }

  module _ (rule : ℕ) (piece : List ℕ) where
    -- a match that isn't the piece, or is by another rule: one of the others is
    pub found_behind : (text : List ℕ) (found size : ℕ) → IsMatch s.patterns text found size → ((found ≡ rule) × (take size text ≡ piece) → ⊥) → HasMatch s rule piece text → HasMatch s rule piece (drop size text)
    found_behind text found size is lacks (here _ n other e) =
        let one = match_one s.patterns text found size rule n is other in
        absurd (lacks (one.0, ap (λ k. take k text) one.1 ∙ e))
    found_behind text found size is lacks (behind _ n tokens g h) =
        let one = match_one s.patterns text found size g.rule n is g.is_match in
        subst (λ k. HasMatch s rule piece (drop k text)) (sym one.1) h

    pub none_found : (text : List ℕ) → text ≡ [] → HasMatch s rule piece text → ⊥
    none_found text e (here _ n is f) = omega (arith, is.some, is.within, ap length e)
    none_found text e (behind _ n tokens g h) = no_match s text n tokens e g

    pub found_here : (text : List ℕ) (found size : ℕ) → IsMatch s.patterns text found size → found ≡ rule → take size text ≡ piece → HasMatch s rule piece text
    found_here text found size is same e = here text size (subst (λ r. IsMatch s.patterns text r size) same is) e

  module _ (rule : ℕ) (piece text : List ℕ) where
    pub search_starts : IsLeft s rule piece text 0
    search_starts tokens scans = record { given = tokens; runs = scans; forth = λ h. h; back = λ h. h }

    rest_some : (at : ℕ) → at < length text → drop at text ≢ []
    rest_some at less none = omega (arith, less, ap length none, length-drop at text)

    pub search_next : (at found size : ℕ) → at < length text → IsLeft s rule piece text at → IsMatch s.patterns (drop at text) found size → ((found ≡ rule) × (take size (drop at text) ≡ piece) → ⊥) → IsLeft s rule piece text (at + size)
    search_next at found size less left is lacks tokens scans =
        let l = left tokens scans in
        let rest = drop at text in
        let b = begins rest l.given (rest_some at less) l.runs in
        let one = match_one s.patterns rest found size b.gives.rule b.size is b.gives.is_match in
        let here_too = subst (λ n. Gives s rest n b.now) (sym one.1) b.gives in
        let runs = subst (λ n. Runs s (drop n rest) b.later true) (sym one.1) b.scans in
        let e : drop size rest ≡ drop (at + size) text = drop-drop size at text in
        subst (λ t. IsLeftOf s rule piece text t) e (record {
          given = b.later;
          runs = runs;
          forth = λ h. found_behind rule piece rest found size is lacks (l.forth h);
          back = λ h. l.back (behind rest size b.now here_too h);
        })

    pub search_found : (at found size : ℕ) → IsLeft s rule piece text at → IsMatch s.patterns (drop at text) found size → found ≡ rule → take size (drop at text) ≡ piece → (tokens : List ℕ) → Scans s text tokens → HasMatch s rule piece text
    search_found at found size left is same e tokens scans = (left tokens scans).back (found_here rule piece (drop at text) found size is same e)

    pub search_none : (at : ℕ) → at < length text → IsLeft s rule piece text at → HasNoMatch s.patterns (drop at text) → (tokens : List ℕ) → Scans s text tokens → ⊥
    search_none at less left none tokens scans =
        let l = left tokens scans in
        let b = begins (drop at text) l.given (rest_some at less) l.runs in
        let m = b.gives.is_match in
        none b.gives.rule b.size m.some m.within m.matches

    pub search_ends : (at : ℕ) → length text ≤ at → IsLeft s rule piece text at → (tokens : List ℕ) → Scans s text tokens → HasMatch s rule piece text → ⊥
    search_ends at most left tokens scans h =
        none_found rule piece (drop at text) (drop_all at text most) ((left tokens scans).forth h)
