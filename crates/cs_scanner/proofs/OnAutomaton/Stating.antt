-- Rules that are walked one after another, and states that are made one after another.
use Rattle.std.proofs.Common.{◌≡◌, ◌≢◌, ℕ, zero, suc, ◌+◌, ◌*◌, ◌<◌, ◌≤◌, ◌^◌, Bool, true, false, List, [], ◌∷◌, ◌++◌, ◌⊎◌, inl, inr, Some, refl, sym, ap, ◌∙◌, subst, arith, length, get_or, take, map, replicate, append_assoc, append-nil, length-append, Vec, Global}
use Rattle.std.specs.Prelude.{slice_get, Option, ◌==◌}
use Rattle.std.proofs.lemmas.Bool.{false≢true, cases_lt, eqb-true}
use Rattle.std.proofs.lemmas.List.{take_all, get_or_push, get_or_append_left, get_or-replicate, get_or_past, length-replicate}
use Rattle.std.proofs.lemmas.Option.{slice_get_read, slice_get-map, slice_get_within, slice_get-get_or}
use Rattle.cs_pattern_parts.specs.Tree.Pattern.{Regex}
use Rattle.cs_scanner.specs.Automaton.Bits.{bit, Puts}
use Rattle.cs_scanner.specs.Automaton.Exits.{exit, nexts}
use Rattle.cs_scanner.specs.Automaton.Meaning.{re, res}
use Rattle.cs_scanner.specs.Automaton.Places.{letters, with_places, any_of, whole, all_letters}
use Rattle.cs_scanner.specs.Automaton.Programs.{IsRule, AreRules}
use Rattle.cs_scanner.specs.Automaton.Re.{Re}
use Rattle.cs_scanner.specs.Automaton.Rules.{AreSpelled}
use Rattle.cs_scanner.specs.Automaton.Runs.{IsWalked}
use Rattle.cs_scanner.specs.Automaton.Sets.{lists, AddsOnce}
use Rattle.cs_scanner.specs.Automaton.States.{AreNext, IsReached, StandsFor, AreWords, HasStates, Grows, IsReady, EndsAt, EndsBelow, AreEnding, IsAfter, IsWalkedAll, AreRulesOf, noted}
use Rattle.cs_scanner.specs.declared.automaton.program.Rule.{Rule}
use Rattle.cs_scanner.proofs.OnAutomaton.BitLemmas.{puts_on}
use Rattle.cs_scanner.proofs.OnAutomaton.Columning.{zeros, take_length}
use Rattle.cs_scanner.proofs.OnAutomaton.Growing.{stood}
use Rattle.cs_scanner.proofs.OnAutomaton.Listing.{lists_push, lists_same}
use Rattle.cs_scanner.proofs.OnAutomaton.Steps.{start_next, state_next, ending_spelled, start_spelled}

pub list_at : (sets : List (Vec ℕ Global)) (k : ℕ) (v : Vec ℕ Global) → k < length sets → v ≡ get_or sets k v → slice_get (lists sets) k ≡ Some v.items
list_at sets k v lt is =
    let at = slice_get_read sets (length sets) k v refl lt is in
    let mapped = slice_get-map (λ (w : Vec ℕ Global). w.items) sets k in
    let there : slice_get (lists sets) k ≡ Some v.items = cc in there

pub take_get : {X : Type 0} (xs : List X) (i : ℕ) (x : X) → slice_get xs i ≡ Some x → take (suc i) xs ≡ take i xs ++ x ∷ []
take_get [] i x e = absurd cc
take_get (y ∷ xs) zero x e = let same : y ≡ x = cc in ap (λ t. t ∷ []) same
take_get (y ∷ xs) (suc i) x e = ap (λ t. y ∷ t) (take_get xs i x e)

-- ---- rules

pub record RuleAt (rule : Rule) (from : ℕ) (rs : List Regex) (i : ℕ) : Type 0 where
  pub pattern : Regex
  pub at : slice_get (res rs) i ≡ Some (re pattern)
  pub base : ℕ
  pub base_is : base ≡ from + all_letters (take i (res rs))
  pub is : IsRule rule base pattern

pub rule_at : (rules : List Rule) (from : ℕ) (rs : List Regex) (i : ℕ) (rule : Rule) → AreRules rules from rs → slice_get rules i ≡ Some rule → RuleAt rule from rs i
rule_at [] from rs i rule h e = absurd cc
rule_at (q ∷ rules) from [] i rule h e = absurd h
rule_at (q ∷ rules) from (r ∷ rs) zero rule h e =
    let same : q ≡ rule = cc in
    record { pattern = r; at = refl; base = from; base_is = omega arith; is = subst (λ t. IsRule t from r) same h.0 }
rule_at (q ∷ rules) from (r ∷ rs) (suc i) rule h e =
    let g = rule_at rules (from + letters (re r)) rs i rule h.1 e in
    record { pattern = g.pattern; at = g.at; base = g.base; base_is = omega (arith, g.base_is); is = g.is }

pub rules_length : (rules : List Rule) (from : ℕ) (rs : List Regex) → AreRules rules from rs → length rules ≡ length (res rs)
rules_length [] from [] h = refl
rules_length [] from (r ∷ rs) h = absurd h
rules_length (q ∷ rules) from [] h = absurd h
rules_length (q ∷ rules) from (r ∷ rs) h = ap suc (rules_length rules (from + letters (re r)) rs h.1)

any_push : (S : ℕ → Bool) (e : Bool) (rule from : ℕ) (ps : List (Re (List ℕ))) (r : Re (List ℕ)) (number base : ℕ) → number ≡ rule + length ps → base ≡ from + all_letters ps → nexts S (any_of rule from (ps ++ r ∷ [])) e ≡ nexts S (any_of rule from ps) e ++ nexts S (with_places number base r) e
any_push S e rule from [] r number base n b =
    let m : rule ≡ number = omega (arith, n) in
    let c : from ≡ base = omega (arith, b) in
    append-nil (nexts S (with_places rule from r) e) ∙ ap (λ t. nexts S (with_places t from r) e) m ∙ ap (λ t. nexts S (with_places number t r) e) c
any_push S e rule from (p ∷ ps) r number base n b =
    ap (λ t. nexts S (with_places rule from p) e ++ t) (any_push S e (suc rule) (from + letters p) ps r number base (omega (arith, n)) (omega (arith, b)))
    ∙ sym (append_assoc (nexts S (with_places rule from p) e) (nexts S (any_of (suc rule) (from + letters p) ps) e) (nexts S (with_places number base r) e))

pub whole_more : (S : ℕ → Bool) (e : Bool) (ps : List (Re (List ℕ))) (i : ℕ) (r : Re (List ℕ)) (base : ℕ) → slice_get ps i ≡ Some r → base ≡ all_letters (take i ps) → nexts S (whole (take (i + 1) ps)) e ≡ nexts S (whole (take i ps)) e ++ nexts S (with_places (suc i) base r) e
whole_more S e ps i r base at is =
    let next : i + 1 ≡ suc i = omega arith in
    let within = slice_get_within ps i r at in
    ap (λ n. nexts S (whole (take n ps)) e) next
    ∙ ap (λ t. nexts S (whole t) e) (take_get ps i r at)
    ∙ any_push S e 1 0 (take i ps) r (suc i) base (omega (arith, take_length i ps (omega (arith, within)))) (omega (arith, is))

module _ (rs : List (Re (List ℕ))) (S : ℕ → Bool) (e : Bool) (i : ℕ) where
  ends_still : (rule : ℕ) → EndsBelow rs S e i rule → EndsBelow rs S e (i + 1) rule
  ends_still rule h = (h.0, h.1, omega (arith, h.2), h.3)

  ends_before : (rule : ℕ) → EndsBelow rs S e (i + 1) rule → EndsBelow rs S e i rule ⊎ ((rule ≡ i + 1) × EndsAt rs S e i)
  ends_before rule h =
      elim (cases_lt h.0 i) [
        | inl below ↦ inl (h.0, h.1, below, h.3)
        | inr above ↦ let same : h.0 ≡ i = omega (arith, above, h.2) in inr (omega (arith, h.1, same), subst (λ t. EndsAt rs S e t) same h.3)
      ]

  pub ending_more : (rules : List ℕ) (ends : Bool) → AreEnding rs S e i rules → (ends ≡ true → EndsAt rs S e i) → (EndsAt rs S e i → ends ≡ true) → AreEnding rs S e (i + 1) (noted rules ends i)
  ending_more rules true are here there =
      lists_push (EndsBelow rs S e i) (EndsBelow rs S e (i + 1)) rules (i + 1) (λ rule h. omega (arith, h.1, h.2)) ends_still (i, omega arith, omega arith, here refl)
      (λ rule h. elim (ends_before rule h) [ inl old ↦ inl old | inr new ↦ inr new.0 ]) are
  ending_more rules false are here there =
      lists_same (EndsBelow rs S e i) (EndsBelow rs S e (i + 1)) rules ends_still
      (λ rule h. elim (ends_before rule h) [ inl old ↦ old | inr new ↦ absurd (false≢true (there new.1)) ]) are

-- one rule more
pub walked_more : (rules : List Rule) (rs : List Regex) (i : ℕ) (rule : Rule) (entered ends : Bool) (set old mid new ending : List ℕ) → AreRules rules 0 rs → slice_get rules i ≡ Some rule → IsWalked rule entered set mid new ends → Puts old mid (nexts (bit set) (whole (take i (res rs))) entered) → AreEnding (res rs) (bit set) entered i ending → Puts old new (nexts (bit set) (whole (take (i + 1) (res rs))) entered) × AreEnding (res rs) (bit set) entered (i + 1) (noted ending ends i)
walked_more rules rs i rule entered ends set old mid new ending h at w puts are =
    let S = bit set in
    let g = rule_at rules 0 rs i rule h at in
    let base : g.base ≡ all_letters (take i (res rs)) = omega (arith, g.base_is) in
    let more = whole_more S entered (res rs) i (re g.pattern) g.base g.at base in
    let live = w.ends_there (suc i) g.base g.pattern g.is in (
      subst (λ t. Puts old new t) (sym more) (puts_on old mid new (nexts S (whole (take i (res rs))) entered) (nexts S (with_places (suc i) g.base (re g.pattern)) entered) puts (w.puts (suc i) g.base g.pattern g.is)),
      ending_more (res rs) S entered i ending ends are
          (λ holds. record { pattern = re g.pattern; at = g.at; ends = λ number from n b. let same : g.base ≡ from = base ∙ sym b in ap (λ t. exit S (with_places t from (re g.pattern)) entered) n ∙ ap (λ t. exit S (with_places (suc i) t (re g.pattern)) entered) (sym same) ∙ sym live ∙ holds })
          (λ e. let there = e.at in let here = g.at in let same : e.pattern ≡ re g.pattern = cc in live ∙ ap (λ t. exit S (with_places (suc i) g.base t) entered) (sym same) ∙ e.ends (suc i) g.base refl base),
    )

pub walked_all : (rs : List (Re (List ℕ))) (n i : ℕ) (entered : Bool) (set old new ending : List ℕ) → n ≡ length rs → i ≡ n → Puts old new (nexts (bit set) (whole (take i rs)) entered) → AreEnding rs (bit set) entered i ending → IsWalkedAll rs entered set old new ending
walked_all rs n i entered set old new ending m e puts are =
    record {
      puts = subst (λ t. Puts old new (nexts (bit set) (whole t) entered)) (take_all i rs (omega (arith, m, e))) puts;
      ending = subst (λ t. AreEnding rs (bit set) entered t ending) (e ∙ m) are;
    }

pub after_walk : (rs : List (Re (List ℕ))) (entered : Bool) (set new rules : List ℕ) → IsWalkedAll rs entered set (replicate (length set) 0) new rules → IsAfter rs entered set new rules
after_walk rs entered set new rules w =
    record {
      long = w.puts.long ∙ length-replicate {A = ℕ} (length set) 0;
      nexts_only = λ n h. elim (w.puts.others n h) [ inl o ↦ absurd (false≢true (sym (zeros (length set) n) ∙ o)) | inr c ↦ c ];
      nexts_all = λ n lt c. w.puts.added n c (omega (arith, lt, w.puts.long, length-replicate {A = ℕ} (length set) 0));
      ending = w.ending;
    }

-- ---- states

module _ (rs : List (Re (List ℕ))) (width : ℕ) (wide : all_letters rs ≤ 64 * width) where
  pub record Ready (sets : List (List ℕ)) (state : ℕ) (next rules : List ℕ) : Type 0 where
    pub ready : IsReady rs width sets state next
    pub spelled : (x : List ℕ) → StandsFor rs sets state x → AreSpelled rs x rules

  pub ready_state : (sets : List (List ℕ)) (state : ℕ) (set next rules : List ℕ) (entered : Bool) → HasStates rs width sets → slice_get sets state ≡ Some set → entered ≡ (state == 0) → IsAfter rs entered set next rules → Ready sets state next rules
  ready_state sets zero set next rules true h at e a =
      let first = h.start.1 in
      let same : h.start.0 ≡ set = cc in
      let none : (n : ℕ) → bit set n ≡ false = λ n. ap (λ t. bit t n) (sym same) ∙ h.start.2 n in
      let long = (h.wide 0 set at).0 in
      record {
        ready = record {
          states = h;
          words = set;
          there = at;
          behind = λ x s. subst (λ t. AreNext rs t (bit next)) (sym s) (start_next rs (bit set) (bit next) none a.nexts_only (λ n lt c. a.nexts_all n (omega (arith, lt, wide, long)) c));
        };
        spelled = λ x s. subst (λ t. AreSpelled rs t rules) (sym s) (start_spelled rs (bit set) rules none a.ending);
      }
  ready_state sets zero set next rules false h at e a = absurd (false≢true e)
  ready_state sets (suc k) set next rules true h at e a = absurd (not_zero (eqb-true (suc k) 0 (sym e)))
    where
      not_zero : suc k ≡ 0 → ⊥
      not_zero e = omega (arith, e)
  ready_state sets (suc k) set next rules false h at e a =
      let long = (h.wide (suc k) set at).0 in
      let reached : (x : List ℕ) → StandsFor rs sets (suc k) x → (x ≢ []) × IsReached rs x (bit set) = λ x s. let there = s.1 in let same : s.0 ≡ set = cc in (s.2, subst (λ t. IsReached rs x (bit t)) same s.3) in
      record {
        ready = record {
          states = h;
          words = set;
          there = at;
          behind = λ x s. let r = reached x s in state_next rs x (bit set) (bit next) r.0 r.1 a.nexts_only (λ n lt c. a.nexts_all n (omega (arith, lt, wide, long)) c);
        };
        spelled = λ x s. let r = reached x s in ending_spelled rs x (bit set) rules r.0 r.1 a.ending;
      }

-- the start alone
pub only_start : (rs : List (Re (List ℕ))) (width k : ℕ) (old new : List (List ℕ)) (set : List ℕ) → old ≡ [] → set ≡ replicate width 0 → AddsOnce old new set → slice_get new k ≡ Some set → HasStates rs width new
only_start rs width k old new set none is (inl e) at =
    let empty : new ≡ [] = e ∙ none in
    let there : slice_get [] k ≡ Some set = subst (λ t. slice_get t k ≡ Some set) empty at in
    absurd cc
only_start rs width k old new set none is (inr more) at =
    let one : new ≡ set ∷ [] = more.0 ∙ ap (λ t. t ++ set ∷ []) none in
    subst (λ t. HasStates rs width t) (sym one) (record { start = (set, refl, λ n. ap (λ t. bit t n) is ∙ zeros width n); wide = all; each = λ j ps e. absurd cc; apart = apart })
  where
    long : length set ≡ width
    long = ap length is ∙ length-replicate {A = ℕ} width 0

    small : AreWords set
    small j =
        elim (cases_lt j width) [
          | inl lt ↦ subst (λ t. t < 2 ^ 64) (sym (ap (λ t. get_or t j 0) is ∙ get_or-replicate width j 0 0 lt)) (omega arith)
          | inr le ↦ subst (λ t. t < 2 ^ 64) (sym (get_or_past set j 0 (omega (arith, le, long)))) (omega arith)
        ]

    all : (j : ℕ) (ps : List ℕ) → slice_get (set ∷ []) j ≡ Some ps → (length ps ≡ width) × AreWords ps
    all zero ps e = let same : set ≡ ps = cc in subst (λ t. (length t ≡ width) × AreWords t) same (long, small)
    all (suc j) ps e = absurd cc

    apart : (j m : ℕ) (ps : List ℕ) → slice_get (set ∷ []) j ≡ Some ps → slice_get (set ∷ []) m ≡ Some ps → j ≡ m
    apart zero zero ps d e = refl
    apart zero (suc m) ps d e = absurd cc
    apart (suc j) m ps d e = absurd cc

-- the rules of one state more
pub rules_more : (rs : List (Re (List ℕ))) (old new : List (List ℕ)) (rules now : List (List ℕ)) (row : List ℕ) (state : ℕ) (words : List ℕ) → now ≡ rules ++ row ∷ [] → length rules ≡ state → length rules ≤ length old → slice_get old state ≡ Some words → Grows old new → AreRulesOf rs old rules → ((x : List ℕ) → StandsFor rs old state x → AreSpelled rs x row) → AreRulesOf rs new now
rules_more rs old new rules now row state words is many few there g h spelled k x lt s =
    elim (cases_lt k state) [
      | inl below ↦
          let at = slice_get-get_or old k [] (omega (arith, below, many, few)) in
          let same : get_or rules k [] ≡ get_or now k [] = sym (ap (λ t. get_or t k []) is ∙ get_or_append_left rules (row ∷ []) [] k (omega (arith, below, many))) in
          subst (λ t. AreSpelled rs x t) same (h k x (omega (arith, below, many)) (stood rs old new k x (get_or old k []) g at s))
      | inr above ↦
          let e : k ≡ state = omega (arith, above, lt, many, ap length is, length-append rules (row ∷ [])) in
          let same : row ≡ get_or now k [] = sym (ap (λ t. get_or t k []) is ∙ get_or_push rules row [] k (many ∙ sym e)) in
          subst (λ t. AreSpelled rs x t) same (spelled x (stood rs old new state x words g there (subst (λ n. StandsFor rs new n x) e s)))
    ]

pub option_lists_push : (vs : List (Vec (Option ℕ) Global)) (v : Vec (Option ℕ) Global) → map (λ (w : Vec (Option ℕ) Global). w.items) (vs ++ v ∷ []) ≡ map (λ (w : Vec (Option ℕ) Global). w.items) vs ++ v.items ∷ []
option_lists_push [] v = refl
option_lists_push (w ∷ vs) v = let rest = option_lists_push vs v in ap (λ t. w.items ∷ t) rest

pub lists_pushed : (vs : List (Vec ℕ Global)) (v : Vec ℕ Global) → lists (vs ++ v ∷ []) ≡ lists vs ++ v.items ∷ []
lists_pushed [] v = refl
lists_pushed (w ∷ vs) v = let rest = lists_pushed vs v in ap (λ t. w.items ∷ t) rest

pub no_keys : {X : Type 0} (xs : List X) → length xs ≡ 0 → xs ≡ []
no_keys [] e = refl
no_keys (x ∷ xs) e = absurd (omega (arith, e))
