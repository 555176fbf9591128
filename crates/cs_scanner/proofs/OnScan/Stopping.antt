-- Where a scan stops.
use Rattle.std.proofs.Common.{◌≡◌, ◌≢◌, ℕ, ◌+◌, ◌-◌, Bool, true, false, List, [], ◌++◌, refl, sym, ◌∙◌, subst, arith, length, length-drop, drop}
use Rattle.std.proofs.lemmas.List.{append-nil}
use Rattle.cs_scanner.specs.Scan.Scan.{Scanning, Gives, GivesNone, Runs, Scans, StopsAt, IsStopOrWhole, ends, stops, goes_on, at_front, behind}
use Rattle.cs_scanner.specs.Scan.Going.{IsPassed}
use Rattle.cs_scanner.proofs.OnScan.OneMatch.{gives_one, runs_one}
use Rattle.cs_scanner.proofs.OnScan.Together.{begun_none, begun_more}

pub stops_one : (s : Scanning) {text : List ℕ} {at : ℕ} → StopsAt s text at → (other : ℕ) → StopsAt s text other → at ≡ other
stops_one s (at_front text at ne none e) other (at_front _ _ ne' none' e') = e ∙ sym e'
stops_one s (at_front text at ne none e) other (behind _ _ size later tokens g r i) = absurd (none size tokens g)
stops_one s (behind text at size later tokens g r i) other (at_front _ _ ne none e) = absurd (none size tokens g)
stops_one s (behind text at size later tokens g r i) other (behind _ _ n rest more g' r' i') =
    let one = gives_one s text size n tokens more g g' in
    let again = stops_one s r rest (subst (λ k. StopsAt s (drop k text) rest) (sym one.0) r') in
    omega (arith, i, i', again, one.0)

run_stops : (s : Scanning) {text given : List ℕ} {whole : Bool} → Runs s text given whole → whole ≡ false → (at : ℕ) × StopsAt s text at
run_stops s (ends text given whole e g w) part = let both : true ≡ false = sym w ∙ part in absurd cc
run_stops s (stops text given whole ne none g w) part = (0, at_front text 0 ne none refl)
run_stops s (goes_on text given whole size now later h r i) part =
    let rest = run_stops s r part in
    (size + rest.0, behind text (size + rest.0) size rest.0 now h rest.1 refl)

stop_runs : (s : Scanning) {text : List ℕ} {at : ℕ} → StopsAt s text at → (given : List ℕ) × Runs s text given false
stop_runs s (at_front text at ne none e) = ([], stops text [] false ne none refl refl)
stop_runs s (behind text at size later tokens g r i) =
    let rest = stop_runs s r in
    (tokens ++ rest.0, goes_on text (tokens ++ rest.0) false size tokens rest.0 g rest.1 refl)

pub stopped : (s : Scanning) (text : List ℕ) → IsStopOrWhole s text
stopped s text = record {
  stops = λ given r. run_stops s r refl;
  covers = λ tokens r at h. let other = stop_runs s h in let both : true ≡ false = (runs_one s r other.0 false other.1).1 in cc;
}

module _ (s : Scanning) where
  pub passed_none : (text : List ℕ) → IsPassed s text [] text
  passed_none text = record {
    within = omega arith;
    begun = begun_none s text;
    stops = λ at h. let e : at ≡ length text - length text + at = omega arith in subst (StopsAt s text) e h;
  }

  pub passed_more : (text given rest : List ℕ) (size : ℕ) (now : List ℕ) → IsPassed s text given rest → Gives s rest size now → IsPassed s text (given ++ now) (drop size rest)
  passed_more text given rest size now p g =
      let within = p.within in
      let left = length-drop size rest in
      let fits = g.is_match.within in
      record {
        within = omega arith;
        begun = begun_more s text given rest size now p.begun g;
        stops = λ at h.
            let e : length text - length rest + (size + at) ≡ length text - length (drop size rest) + at = omega arith in
            subst (StopsAt s text) e (p.stops (size + at) (behind rest (size + at) size at now g h refl));
      }

  -- it stops at the rest
  pub stops_now : (text given rest : List ℕ) → IsPassed s text given rest → rest ≢ [] → GivesNone s rest → StopsAt s text (length text - length rest)
  stops_now text given rest p ne none =
      let e : length text - length rest + 0 ≡ length text - length rest = omega arith in
      subst (StopsAt s text) e (p.stops 0 (at_front rest 0 ne none refl))

  -- it covers the text
  pub scans_now : (text given rest : List ℕ) → IsPassed s text given rest → rest ≡ [] → Scans s text given
  scans_now text given rest p e = subst (λ t. Runs s text t true) (append-nil given) (p.begun.back [] true (ends rest [] true e refl refl))
