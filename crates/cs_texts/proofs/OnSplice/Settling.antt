-- What the bytes that an automaton read settle, whatever comes behind them.
use Rattle.std.proofs.Common.{◌≡◌, ℕ, zero, suc, ◌+◌, ◌-◌, ◌<◌, ◌≤◌, List, [], ◌∷◌, ◌++◌, Some, None, refl, sym, ap, ◌∙◌, subst, arith, length, length-append, take, get_or}
use Rattle.std.specs.Prelude.{Option, IfSome, slice_get}
use Rattle.std.proofs.lemmas.List.{length-take-le, take-take, take-append-le}
use Rattle.cs_pattern_parts.specs.Tree.Pattern.{Regex}
use Rattle.cs_pattern_parts.specs.declared.kind.Kind.{Kind}
use Rattle.cs_scanner.specs.Automaton.Machine.{MatchesRule, IsBegun}
use Rattle.cs_scanner.specs.Scan.Scan.{Scanning, IsLongest, IsMatch, Gives, given}
use Rattle.cs_scanner.specs.Scan.Best.{IsBest}
use Rattle.cs_scanner.proofs.OnScan.Matching.{best_stops}
use Rattle.cs_texts.specs.declared.splice.step.GivenToken.{GivenToken}
use Rattle.cs_texts.specs.declared.splice.step.Look.{Look}
use Rattle.cs_texts.specs.Splice.Settled.{IsLook, IsSettledBy, IsStep, tokens_of}

-- the best match so far is the same in two texts that are the same so far
module _ (rs : List Regex) (text other : List ℕ) (i : ℕ) (same : take i text ≡ take i other) where
  front_same : (n : ℕ) → n ≤ i → take n text ≡ take n other
  front_same n le = sym (take-take n i text le) ∙ ap (take n) same ∙ take-take n i other le

  pub best_same : (best : Option (ℕ × ℕ)) → IsBest rs text i best → IsBest rs other i best
  best_same None b = λ rule n some le m. b rule n some le (subst (λ t. MatchesRule rs rule t) (sym (front_same n le)) m)
  best_same (Some s) b =
      record {
        some = b.some;
        within = b.within;
        matches = subst (λ t. MatchesRule rs s.0 t) (front_same s.1 b.within) b.matches;
        longest = λ rule n le m. b.longest rule n le (subst (λ t. MatchesRule rs rule t) (sym (front_same n le)) m);
        lowest = λ rule m. b.lowest rule (subst (λ t. MatchesRule rs rule t) (sym (front_same s.1 b.within)) m);
      }

-- a text that begins with the first bytes of another
module _ (text rest : List ℕ) (n : ℕ) (within : n ≤ length text) where
  pub begins_same : (k : ℕ) → k ≤ n → take k (take n text ++ rest) ≡ take k text
  begins_same k le = take-append-le k (take n text) rest (omega (arith, length-take-le n text within)) ∙ take-take k n text le

pub first_same : (n : ℕ) (text rest : List ℕ) → 0 < n → n ≤ length text → get_or (take n text ++ rest) 0 0 ≡ get_or text 0 0
first_same zero text rest some within = absurd (omega (arith, some))
first_same (suc n) [] rest some within = absurd (omega (arith, within))
first_same (suc n) (x ∷ xs) rest some within = refl

-- where the automaton dies, no byte behind matters
pub dies_settled : (rs : List Regex) (text : List ℕ) (i : ℕ) (best : Option (ℕ × ℕ)) → i < length text → IsBest rs text i best → (IsBegun rs (take (i + 1) text) → ⊥) → IsSettledBy text (λ t. IsLongest rs t best) (i + 1)
dies_settled rs text i best within b stop =
    let all : i + 1 ≤ length text = omega (arith, within) in (
      all,
      λ rest.
          let other = take (i + 1) text ++ rest in
          let same : take i text ≡ take i other = sym (begins_same text rest (i + 1) all i (omega arith)) in
          let whole : take (i + 1) other ≡ take (i + 1) text = begins_same text rest (i + 1) all (i + 1) (omega arith) in
          best_stops rs other i best (omega (arith, length-append (take (i + 1) text) rest, length-take-le (i + 1) text all)) (best_same rs text other i same best b)
          (λ begun. stop (subst (λ t. IsBegun rs t) whole begun)),
    )

-- a match that so many bytes settle is within them
pub match_within : (rs : List Regex) (text : List ℕ) (rule size n : ℕ) → IsSettledBy text (λ t. IsMatch rs t rule size) n → (0 < n) × (size ≤ n)
match_within rs text rule size n settled =
    let m = settled.1 [] in
    let long : length (take n text ++ []) ≡ length (take n text) + 0 = length-append (take n text) [] in
    let fits : size ≤ n = omega (arith, m.within, long, length-take-le n text settled.0) in
    (omega (arith, m.some, fits), fits)

-- what a match gives, by its kind, is settled as the match is
pub gives_settled : (s : Scanning) (text : List ℕ) (rule size n : ℕ) (kind : Kind) (tokens : List ℕ) → slice_get s.kinds (rule - 1) ≡ Some kind → ((t : List ℕ) → get_or t 0 0 ≡ get_or text 0 0 → given s.literals kind t ≡ Some tokens) → IsSettledBy text (λ t. IsMatch s.patterns t rule size) n → IsSettledBy text (λ t. Gives s t size tokens) n
gives_settled s text rule size n kind tokens at gives settled = (
  settled.0,
  λ rest. record {
    rule = rule;
    kind = kind;
    is_match = settled.1 rest;
    at = at;
    gives = gives (take n text ++ rest) (first_same n text rest (match_within s.patterns text rule size n settled).0 settled.0);
  },
)

-- the match that an automaton found, and what its kind gives
pub step_made : (s : Scanning) (text : List ℕ) (look : Look) (rule size : ℕ) (kind : Kind) (g : GivenToken) → look.found ≡ Some (rule, size) → IsLook s.patterns text look → slice_get s.kinds (rule - 1) ≡ Some kind → ((t : List ℕ) → get_or t 0 0 ≡ get_or text 0 0 → given s.literals kind t ≡ Some (tokens_of g)) → IsStep s text (record { size = size; given = g; read = look.read })
step_made s text look rule size kind g found made at gives =
    record {
      gives = record { rule = rule; kind = kind; is_match = subst (λ o. IsLongest s.patterns text o) found made.longest; at = at; gives = gives text refl };
      settled = go look.read made.settled;
    }
  where
    go : (read : Option ℕ) → IfSome read (IsSettledBy text (λ t. IsLongest s.patterns t look.found)) → IfSome read (IsSettledBy text (λ t. Gives s t size (tokens_of g)))
    go None settled = tt
    go (Some n) settled = gives_settled s text rule size n kind (tokens_of g) at gives (subst (λ o. IsSettledBy text (λ t. IsLongest s.patterns t o) n) found settled)
