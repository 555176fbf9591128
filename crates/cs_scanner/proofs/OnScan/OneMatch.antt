-- A text has at most one match at its front, and one scan.
use Rattle.std.proofs.Common.{◌≡◌, ℕ, Bool, List, [], ◌++◌, sym, ap, ◌∙◌, subst, arith, length, take, drop}
use Rattle.cs_pattern_parts.specs.Tree.Pattern.{Regex}
use Rattle.cs_scanner.specs.Automaton.Machine.{MatchesRule}
use Rattle.cs_scanner.specs.Scan.Scan.{AreOneMatch, Scanning, Gives, Runs, ends, stops, goes_on}

pub match_one : (patterns : List Regex) (text : List ℕ) → AreOneMatch patterns text
match_one patterns text rule size other n f g =
    let size_is : size ≡ n = omega (arith, f.longest other n g.within g.matches, g.longest rule size f.within f.matches) in
    let low = f.lowest other (subst (λ k. MatchesRule patterns other (take k text)) (sym size_is) g.matches) in
    let back = g.lowest rule (subst (λ k. MatchesRule patterns rule (take k text)) size_is f.matches) in
    (omega (arith, low, back), size_is)

pub gives_one : (s : Scanning) (text : List ℕ) (size n : ℕ) (tokens others : List ℕ) → Gives s text size tokens → Gives s text n others → (size ≡ n) × (tokens ≡ others)
gives_one s text size n tokens others f g =
    let one = match_one s.patterns text f.rule size g.rule n f.is_match g.is_match in
    let rule = one.0 in
    let at = f.at in
    let there = g.at in
    let kind : f.kind ≡ g.kind = cc in
    let given = f.gives in
    let other = g.gives in
    (one.1, cc)

pub no_match : (s : Scanning) (text : List ℕ) (size : ℕ) (tokens : List ℕ) → text ≡ [] → Gives s text size tokens → ⊥
no_match s text size tokens e g = omega (arith, g.is_match.some, g.is_match.within, ap length e)

-- two scans of a text give the same, and both cover it or both stop
pub runs_one : (s : Scanning) {text given : List ℕ} {whole : Bool} → Runs s text given whole → (other : List ℕ) (covers : Bool) → Runs s text other covers → (given ≡ other) × (whole ≡ covers)
runs_one s (ends text given whole e g w) other covers (ends _ _ _ e' g' w') = (g ∙ sym g', w ∙ sym w')
runs_one s (ends text given whole e g w) other covers (stops _ _ _ ne none g' w') = absurd (ne e)
runs_one s (ends text given whole e g w) other covers (goes_on _ _ _ size now later h r i) = absurd (no_match s text size now e h)
runs_one s (stops text given whole ne none g w) other covers (ends _ _ _ e' g' w') = absurd (ne e')
runs_one s (stops text given whole ne none g w) other covers (stops _ _ _ ne' none' g' w') = (g ∙ sym g', w ∙ sym w')
runs_one s (stops text given whole ne none g w) other covers (goes_on _ _ _ size now later h r i) = absurd (none size now h)
runs_one s (goes_on text given whole size now later h r i) other covers (ends _ _ _ e' g' w') = absurd (no_match s text size now e' h)
runs_one s (goes_on text given whole size now later h r i) other covers (stops _ _ _ ne' none' g' w') = absurd (none' size now h)
runs_one s (goes_on text given whole size now later h r i) other covers (goes_on _ _ _ n new rest h' r' i') =
    let one = gives_one s text size n now new h h' in
    let again = runs_one s r rest covers (subst (λ k. Runs s (drop k text) rest covers) (sym one.0) r') in
    (i ∙ ap (λ t. t ++ later) one.1 ∙ ap (λ t. new ++ t) again.0 ∙ sym i', again.1)
