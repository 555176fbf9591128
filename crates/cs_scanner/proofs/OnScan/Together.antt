-- How far a list of tokens and the scan of a text go together.
use Rattle.std.proofs.Common.{◌≡◌, ◌≢◌, ℕ, zero, suc, ◌+◌, ◌≤◌, Bool, true, false, List, [], ◌∷◌, ◌++◌, Some, refl, sym, ap, ◌∙◌, subst, arith, length, length-append, length-drop, ◌-◌, take, drop, slice_get, append_assoc, ◌==◌}
use Rattle.std.proofs.lemmas.List.{append-nil, take_all, drop_all, length-take-le, take_more}
use Rattle.std.proofs.lemmas.Option.{get_or_from_slice_get, slice_get_within}
use Rattle.std.proofs.lemmas.Bool.Decides.{nat_tests}
use Rattle.cs_scanner.specs.Scan.Scan.{Scanning, Gives, GivesNone, Runs, Scans, ends, stops, goes_on, in_common}
use Rattle.cs_scanner.specs.Scan.Compared.{IsInCommon}
use Rattle.cs_scanner.specs.Scan.Going.{IsBegunBy}
use Rattle.cs_scanner.proofs.OnScan.OneMatch.{gives_one, no_match, runs_one}

in_common_nil : (xs : List ℕ) → in_common xs [] ≡ 0
in_common_nil [] = refl
in_common_nil (x ∷ xs) = refl

in_common_self : (xs : List ℕ) → in_common xs xs ≡ length xs
in_common_self [] = refl
in_common_self (x ∷ xs) = grind (arith, nat_tests, in_common_self xs)

in_common_front : (n : ℕ) (xs later : List ℕ) → n ≤ length xs → in_common xs (take n xs ++ later) ≡ n + in_common (drop n xs) later
in_common_front zero xs later le = omega arith
in_common_front (suc n) [] later le = absurd (omega (arith, le))
in_common_front (suc n) (x ∷ xs) later le = grind (arith, nat_tests, in_common_front n xs later (omega (arith, le)))

other_first : (x token : ℕ) (xs later : List ℕ) → x ≢ token → in_common (x ∷ xs) (token ∷ later) ≡ 0
other_first x token xs later ne = grind (arith, nat_tests)

-- a token that isn't the list's next
in_common_other : (n token : ℕ) (xs later : List ℕ) → slice_get xs n ≢ Some token → in_common (drop n xs) (token ∷ later) ≡ 0
in_common_other n token [] later ne = ap (λ t. in_common t (token ∷ later)) (drop_all n [] (omega arith))
in_common_other zero token (x ∷ xs) later ne = other_first x token xs later (λ e. ne (ap Some e))
in_common_other (suc n) token (x ∷ xs) later ne = in_common_other n token xs later ne

pub not_empty : (xs : List ℕ) → false ≡ (length xs == 0) → xs ≢ []
not_empty [] h e = cc
not_empty (x ∷ xs) h e = cc

pub is_empty : (xs : List ℕ) → true ≡ (length xs == 0) → xs ≡ []
is_empty [] h = refl
is_empty (x ∷ xs) h = absurd (grind (arith, nat_tests))

-- a slice from a place on
pub tail_is : (n : ℕ) (xs : List ℕ) → take (length xs - n) (drop n xs) ≡ drop n xs
tail_is n xs = take_all (length xs - n) (drop n xs) (omega (arith, length-drop n xs))

-- one token more
pub take_next : (n token : ℕ) (xs : List ℕ) → slice_get xs n ≡ Some token → take (n + 1) xs ≡ take n xs ++ token ∷ []
take_next n token xs e = take_more xs n 0 (slice_get_within xs n token e) ∙ ap (λ t. take n xs ++ t ∷ []) (get_or_from_slice_get xs n token 0 e)

module _ (s : Scanning) where
  run_goes : (text given : List ℕ) (whole : Bool) (size : ℕ) (now : List ℕ) → Gives s text size now → Runs s text given whole → (later : List ℕ) × (given ≡ now ++ later) × Runs s (drop size text) later whole
  run_goes text given whole size now g (ends _ _ _ e _ _) = absurd (no_match s text size now e g)
  run_goes text given whole size now g (stops _ _ _ ne none _ _) = absurd (none size now g)
  run_goes text given whole size now g (goes_on _ _ _ n new rest h r i) =
      let one = gives_one s text size n now new g h in
      (rest, i ∙ ap (λ t. t ++ rest) (sym one.1), subst (λ k. Runs s (drop k text) rest whole) (sym one.0) r)

  pub begun_none : (text : List ℕ) → IsBegunBy s text [] text
  begun_none text = record { forth = λ given whole r. (given, refl, r); back = λ later whole r. r }

  pub begun_more : (text first rest : List ℕ) (size : ℕ) (now : List ℕ) → IsBegunBy s text first rest → Gives s rest size now → IsBegunBy s text (first ++ now) (drop size rest)
  begun_more text first rest size now b g =
      record {
        forth = λ given whole r.
            let a = b.forth given whole r in
            let n = run_goes rest a.0 whole size now g a.2 in
            (n.0, a.1 ∙ ap (λ t. first ++ t) n.1 ∙ sym (append_assoc first now n.0), n.2);
        back = λ later whole r. subst (λ t. Runs s text t whole) (sym (append_assoc first now later)) (b.back (now ++ later) whole (goes_on rest (now ++ later) whole size now later g r refl));
      }

  -- the scan is over
  pub over_whole : (text tokens rest : List ℕ) (n : ℕ) → IsBegunBy s text (take n tokens) rest → rest ≡ [] → n ≡ length tokens → Scans s text tokens
  over_whole text tokens rest n b e all =
      let run : Runs s rest [] true = ends rest [] true e refl refl in
      let same : take n tokens ++ [] ≡ tokens = append-nil (take n tokens) ∙ take_all n tokens (omega (arith, all)) in
      subst (λ t. Runs s text t true) same (b.back [] true run)

  over_common : (text tokens rest : List ℕ) (n : ℕ) → IsBegunBy s text (take n tokens) rest → (covers : Bool) → Runs s rest [] covers → n ≤ length tokens → IsInCommon s text tokens n
  over_common text tokens rest n b covers run le given whole r =
      let a = b.forth given whole r in
      let none : [] ≡ a.0 = (runs_one s run a.0 whole a.2).0 in
      let front : in_common tokens (take n tokens ++ a.0) ≡ n + in_common (drop n tokens) a.0 = in_common_front n tokens a.0 le in
      let zero_is : in_common (drop n tokens) a.0 ≡ 0 = subst (λ t. in_common (drop n tokens) t ≡ 0) none (in_common_nil (drop n tokens)) in
      let given_is : in_common tokens given ≡ in_common tokens (take n tokens ++ a.0) = ap (in_common tokens) a.1 in
      omega (arith, front, zero_is, given_is)

  pub end_common : (text tokens rest : List ℕ) (n : ℕ) → IsBegunBy s text (take n tokens) rest → rest ≡ [] → n ≤ length tokens → IsInCommon s text tokens n
  end_common text tokens rest n b e le = over_common text tokens rest n b true (ends rest [] true e refl refl) le

  pub stop_common : (text tokens rest : List ℕ) (n : ℕ) → IsBegunBy s text (take n tokens) rest → rest ≢ [] → GivesNone s rest → n ≤ length tokens → IsInCommon s text tokens n
  stop_common text tokens rest n b ne none le = over_common text tokens rest n b false (stops rest [] false ne none refl refl) le

  pub token_common : (text tokens rest : List ℕ) (n size token : ℕ) → IsBegunBy s text (take n tokens) rest → Gives s rest size (token ∷ []) → slice_get tokens n ≢ Some token → n ≤ length tokens → IsInCommon s text tokens n
  token_common text tokens rest n size token b g ne le given whole r =
      let a = b.forth given whole r in
      let go = run_goes rest a.0 whole size (token ∷ []) g a.2 in
      let front : in_common tokens (take n tokens ++ a.0) ≡ n + in_common (drop n tokens) a.0 = in_common_front n tokens a.0 le in
      let zero_is : in_common (drop n tokens) a.0 ≡ 0 = ap (in_common (drop n tokens)) go.1 ∙ in_common_other n token tokens go.0 ne in
      let given_is : in_common tokens given ≡ in_common tokens (take n tokens ++ a.0) = ap (in_common tokens) a.1 in
      omega (arith, front, zero_is, given_is)

  pub stop_not_whole : (text tokens rest first : List ℕ) → IsBegunBy s text first rest → rest ≢ [] → GivesNone s rest → Scans s text tokens → ⊥
  stop_not_whole text tokens rest first b ne none r =
      let a = b.forth tokens true r in
      let one : false ≡ true = (runs_one s (stops rest [] false ne none refl refl) a.0 true a.2).1 in
      cc

  pub token_not_whole : (text tokens rest : List ℕ) (n size token : ℕ) → IsBegunBy s text (take n tokens) rest → Gives s rest size (token ∷ []) → slice_get tokens n ≢ Some token → n ≤ length tokens → Scans s text tokens → ⊥
  token_not_whole text tokens rest n size token b g ne le r =
      let common = token_common text tokens rest n size token b g ne le tokens true r in
      let a = b.forth tokens true r in
      let go = run_goes rest a.0 true size (token ∷ []) g a.2 in
      let longer : length tokens ≡ length (take n tokens ++ (token ∷ go.0)) = ap length (a.1 ∙ ap (λ t. take n tokens ++ t) go.1) in
      omega (arith, common, in_common_self tokens, length-take-le n tokens le, longer, length-append (take n tokens) (token ∷ go.0))
