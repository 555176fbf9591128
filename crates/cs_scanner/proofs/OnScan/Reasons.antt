-- The three reasons for which a scan stops.
use Rattle.std.proofs.Common.{◌≡◌, ℕ, zero, suc, ◌+◌, ◌-◌, ◌<◌, ◌≤◌, List, [], ◌∷◌, length, take, get_or, refl, inl, inr, arith}
use Rattle.std.specs.Prelude.{Option, None, Some, slice_get, slice_index}
use Rattle.std.proofs.lemmas.Bool.{cases_lt}
use Rattle.std.proofs.lemmas.Option.{slice_get_within, slice_get-get_or}
use Rattle.cs_pattern_parts.specs.Tree.Pattern.{Regex}
use Rattle.cs_pattern_parts.specs.declared.kind.Kind.{Kind}
use Rattle.cs_pattern_parts.specs.declared.kind.Kind.TheVariants.{Token, OwnByte, Skip, Foreign}
use Rattle.cs_scanner.specs.Automaton.Machine.{MatchesRule}
use Rattle.cs_scanner.specs.Scan.Scan.{Scanning, Gives, GivesNone, IsMatch, IsStop, StopsThere, StopsThereAlone, nothing_matches, is_foreign, has_no_literal, given, literal_token}
use Rattle.cs_scanner.proofs.OnScan.OneMatch.{match_one}

-- a match of the front with this kind, which gives nothing
none_by : (s : Scanning) (text : List ℕ) (rule size n : ℕ) (tokens : List ℕ) (kind : Kind) → IsMatch s.patterns text rule size → slice_get s.kinds (rule - 1) ≡ Some kind → given s.literals kind text ≡ None → Gives s text n tokens → ⊥
none_by s text rule size n tokens kind is at none g =
    let one : rule ≡ g.rule = (match_one s.patterns text rule size g.rule n is g.is_match).0 in
    let there = g.at in
    let same : kind ≡ g.kind = cc in
    let gives = g.gives in
    cc

pub stops_there : (s : Scanning) (text : List ℕ) → StopsThere s text
stops_there s text (nothing_matches none) = λ size tokens g. none g.rule size g.is_match.some g.is_match.within g.is_match.matches
stops_there s text (is_foreign rule size is at) = λ n tokens g. none_by s text rule size n tokens Foreign is at refl g
stops_there s text (has_no_literal rule size is at none) = λ n tokens g. none_by s text rule size n tokens OwnByte is at none g

-- ---- where something matches, that there is no match cannot be

module _ (patterns : List Regex) (text : List ℕ) (none : (rule size : ℕ) → IsMatch patterns text rule size → ⊥) where
  abbrev IsLongestSize : ℕ → Type 0
  IsLongestSize n = (other k : ℕ) → k ≤ length text → MatchesRule patterns other (take k text) → k ≤ n

  no_lowest : (fuel rule n : ℕ) → rule ≤ fuel → 0 < n → n ≤ length text → IsLongestSize n → MatchesRule patterns rule (take n text) → ⊥
  no_lowest zero rule n le some fits longest m =
      none rule n (record { some = some; within = fits; matches = m; longest = longest; lowest = λ other h. omega (arith, le) })
  no_lowest (suc fuel) rule n le some fits longest m =
      none rule n (record {
        some = some;
        within = fits;
        matches = m;
        longest = longest;
        lowest = λ other h. elim (cases_lt other rule) [ inl lt ↦ absurd (no_lowest fuel other n (omega (arith, le, lt)) some fits longest h) | inr ge ↦ ge ];
      })

  no_longest : (fuel rule n : ℕ) → length text ≤ n + fuel → 0 < n → n ≤ length text → MatchesRule patterns rule (take n text) → ⊥
  no_longest zero rule n le some fits m = no_lowest rule rule n (omega arith) some fits (λ other k within h. omega (arith, le, within)) m
  no_longest (suc fuel) rule n le some fits m =
      no_lowest rule rule n (omega arith) some fits
      (λ other k within h. elim (cases_lt n k) [ inl lt ↦ absurd (no_longest fuel other k (omega (arith, le, lt)) (omega (arith, some, lt)) within h) | inr ge ↦ ge ])
      m

module _ (s : Scanning) (text : List ℕ) (full : length s.kinds ≡ length s.patterns) (none : GivesNone s text) (no_stop : IsStop s text → ⊥) where
  by_literal : (rule size : ℕ) (o : Option (List ℕ)) → IsMatch s.patterns text rule size → slice_get s.kinds (rule - 1) ≡ Some OwnByte → literal_token s.literals (slice_index text 0) ≡ o → ⊥
  by_literal rule size None is at e = no_stop (has_no_literal rule size is at e)
  by_literal rule size (Some tokens) is at e = none size tokens (record { rule = rule; kind = OwnByte; is_match = is; at = at; gives = e })

  by_kind : (rule size : ℕ) (kind : Kind) → IsMatch s.patterns text rule size → slice_get s.kinds (rule - 1) ≡ Some kind → ⊥
  by_kind rule size Skip is at = none size [] (record { rule = rule; kind = Skip; is_match = is; at = at; gives = refl })
  by_kind rule size (Token token) is at = none size (token ∷ []) (record { rule = rule; kind = Token token; is_match = is; at = at; gives = refl })
  by_kind rule size Foreign is at = no_stop (is_foreign rule size is at)
  by_kind rule size OwnByte is at = by_literal rule size (literal_token s.literals (slice_index text 0)) is at refl

  by_match : (rule size : ℕ) → IsMatch s.patterns text rule size → ⊥
  by_match rule size is =
      let m = is.matches in
      let within : rule - 1 < length s.kinds = omega (arith, full, m.number, slice_get_within s.patterns m.index m.pattern m.at) in
      by_kind rule size (get_or s.kinds (rule - 1) Skip) is (slice_get-get_or s.kinds (rule - 1) Skip within)

  stops_so : ⊥
  stops_so = no_stop (nothing_matches (λ rule n some fits m. no_longest s.patterns text by_match (length text) rule n (omega arith) some fits m))

pub stops_there_alone : (s : Scanning) (text : List ℕ) → StopsThereAlone s text
stops_there_alone s text = λ full none no_stop. stops_so s text full none no_stop
