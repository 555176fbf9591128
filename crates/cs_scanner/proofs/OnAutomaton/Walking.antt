-- What a walk over a rule finds.
use Rattle.std.proofs.Common.{◌≡◌, ℕ, ◌+◌, ◌<◌, ◌≤◌, Bool, true, false, List, [], ◌∷◌, ◌++◌, refl, sym, ap, ◌∙◌, subst, arith, length, take, get_or, append-nil, Ok, Err}
use Rattle.std.specs.Prelude.{◌&&◌, ◌||◌, Result, IfOk, OnOk}
use Rattle.std.proofs.lemmas.List.{take_more}
use Rattle.std.proofs.lemmas.Bool.{false≢true}
use Rattle.cs_pattern_parts.specs.Tree.Pattern.{Regex}
use Rattle.cs_scanner.specs.declared.automaton.op.Op.{Op}
use Rattle.cs_scanner.specs.declared.automaton.op.Op.TheVariants as ops
use Rattle.cs_scanner.specs.declared.automaton.program.Rule.{Rule}
use Rattle.cs_scanner.specs.Automaton.Re.{Re, empty, letter, nothing, cat, alt, many}
use Rattle.cs_scanner.specs.Automaton.Bits.{bit, Puts}
use Rattle.cs_scanner.specs.Automaton.Linear.{nullable}
use Rattle.cs_scanner.specs.Automaton.Meaning.{re}
use Rattle.cs_scanner.specs.Automaton.Places.{letters, with_places}
use Rattle.cs_scanner.specs.Automaton.Exits.{final, exit, nexts, finals}
use Rattle.cs_scanner.specs.Automaton.Flat.{flat, is_loop, has_loop}
use Rattle.cs_scanner.specs.Automaton.Programs.{IsRule}
use Rattle.cs_scanner.specs.Automaton.Runs.{start_back, start_on, FindsEnds, IsWalked}
use Rattle.cs_scanner.specs.Automaton.Walks.{Going, Backing, go, go_all, put, put_all, back, back_all}
use Rattle.cs_scanner.proofs.OnAutomaton.BitLemmas.{puts_none}
use Rattle.cs_scanner.proofs.OnAutomaton.Walks.{go_all-append, put_all-append, go_flat, put_flat, back_flat}

-- ---- one step more

pub go_more : (S : ℕ → Bool) (ops : List Op) (i : ℕ) (d : Op) (g : Going) → i < length ops → go_all S (take (i + 1) ops) g ≡ go S (get_or ops i d) (go_all S (take i ops) g)
go_more S ops i d g lt = ap (λ t. go_all S t g) (take_more ops i d lt) ∙ go_all-append S (take i ops) (get_or ops i d ∷ []) g

pub put_more : (S : ℕ → Bool) (ops : List Op) (i : ℕ) (d : Op) (g : Going) → i < length ops → put_all S (take (i + 1) ops) g ≡ put_all S (take i ops) g ++ put S (get_or ops i d) (go_all S (take i ops) g).live
put_more S ops i d g lt =
    ap (λ t. put_all S t g) (take_more ops i d lt)
    ∙ put_all-append S (take i ops) (get_or ops i d ∷ []) g
    ∙ ap (λ t. put_all S (take i ops) g ++ t) (append-nil (put S (get_or ops i d) (go_all S (take i ops) g).live))

-- ---- a rule with no many

or_false : (a b : Bool) → a || b ≡ false → (a ≡ false) × (b ≡ false)
or_false true b e = absurd (false≢true (sym e))
or_false false b e = (refl, e)

no_finals : (S : ℕ → Bool) (op : Op) (g : Backing) → is_loop op ≡ false → (back S op g).finals ≡ g.finals
no_finals S (ops.Place n) g e = refl
no_finals S ops.Open g e = refl
no_finals S ops.Or g e = refl
no_finals S ops.Close g e = refl
no_finals S ops.Loop g e = absurd (false≢true (sym e))
no_finals S ops.Again g e = refl

no_loop : (S : ℕ → Bool) (os : List Op) (g : Backing) → has_loop os ≡ false → (back_all S os g).finals ≡ g.finals
no_loop S [] g e = refl
no_loop S (op ∷ os) g e =
    let two = or_false (is_loop op) (has_loop os) e in
    no_finals S op (back_all S os g) two.0 ∙ no_loop S os g two.1

-- ---- a rule none of whose places is in the set

module _ (S : ℕ → Bool) (rule : ℕ) where
  pub no_final : (from : ℕ) (r : Re (List ℕ)) → ((n : ℕ) → from ≤ n → n < from + letters r → S n ≡ false) → final S (with_places rule from r) ≡ false
  no_final from empty h = refl
  no_final from (letter c) h = h from (omega arith) (omega arith)
  no_final from nothing h = refl
  no_final from (cat r s) h =
      let p = no_final from r (λ n le lt. h n le (omega (arith, lt))) in
      let q = no_final (from + letters r) s (λ n le lt. h n (omega (arith, le)) (omega (arith, lt))) in
      ap (λ t. (t && nullable (with_places rule (from + letters r) s)) || final S (with_places rule (from + letters r) s)) p ∙ q
  no_final from (alt r s) h =
      let p = no_final from r (λ n le lt. h n le (omega (arith, lt))) in
      let q = no_final (from + letters r) s (λ n le lt. h n (omega (arith, le)) (omega (arith, lt))) in
      ap (λ t. t || final S (with_places rule (from + letters r) s)) p ∙ q
  no_final from (many r) h = no_final from r h

  no_next : (from : ℕ) (r : Re (List ℕ)) (e : Bool) → e ≡ false → ((n : ℕ) → from ≤ n → n < from + letters r → S n ≡ false) → nexts S (with_places rule from r) e ≡ []
  no_next from empty e is h = refl
  no_next from (letter c) true is h = absurd (false≢true (sym is))
  no_next from (letter c) false is h = refl
  no_next from nothing e is h = refl
  no_next from (cat r s) e is h =
      let p = no_next from r e is (λ n le lt. h n le (omega (arith, lt))) in
      let f = no_final from r (λ n le lt. h n le (omega (arith, lt))) in
      let x : exit S (with_places rule from r) e ≡ false = ap (λ t. (t && nullable (with_places rule from r)) || final S (with_places rule from r)) is ∙ f in
      let q = no_next (from + letters r) s (exit S (with_places rule from r) e) x (λ n le lt. h n (omega (arith, le)) (omega (arith, lt))) in
      ap (λ t. t ++ nexts S (with_places rule (from + letters r) s) (exit S (with_places rule from r) e)) p ∙ q
  no_next from (alt r s) e is h =
      let p = no_next from r e is (λ n le lt. h n le (omega (arith, lt))) in
      let q = no_next (from + letters r) s e is (λ n le lt. h n (omega (arith, le)) (omega (arith, lt))) in
      ap (λ t. t ++ nexts S (with_places rule (from + letters r) s) e) p ∙ q
  no_next from (many r) e is h =
      let f = no_final from r h in
      no_next from r (e || final S (with_places rule from r)) (ap (λ t. t || final S (with_places rule from r)) is ∙ f) h

pub idle_walked : (rule : Rule) (set next : List ℕ) (entered : Bool) → entered ≡ false → ((n : ℕ) → rule.from ≤ n → n < rule.to → bit set n ≡ false) → IsWalked rule entered set next next false
idle_walked rule set next entered e h =
    record {
      ends_there = λ number from r is.
          let f = no_final (bit set) number from (re r) (λ n le lt. h n (omega (arith, le, is.low)) (omega (arith, lt, is.high))) in
          sym (ap (λ t. (t && nullable (with_places number from (re r))) || final (bit set) (with_places number from (re r))) e ∙ f);
      puts = λ number from r is.
          let f = no_next (bit set) number from (re r) entered e (λ n le lt. h n (omega (arith, le, is.low)) (omega (arith, lt, is.high))) in
          subst (λ t. Puts next next t) (sym f) (puts_none next);
    }

-- ---- any other rule

-- the ends that were found are those of the rule
finals_found : (rule : Rule) (set : List ℕ) (number from : ℕ) (r : Regex) (bs : List Bool) → IsRule rule from r → bs ≡ (back_all (bit set) rule.ops.items start_back).finals → bs ≡ finals (bit set) (with_places number from (re r))
finals_found rule set number from r bs is e =
    e
    ∙ ap (λ t. (back_all (bit set) t start_back).finals) is.steps
    ∙ ap (λ t. t.finals) (back_flat (bit set) number from r true false [] [])

pub walked : (rule : Rule) (set old new : List ℕ) (entered ends : Bool) (bs : List Bool) → FindsEnds rule set bs → ends ≡ (go_all (bit set) rule.ops.items (start_on entered bs)).live → Puts old new (put_all (bit set) rule.ops.items (start_on entered bs)) → IsWalked rule entered set old new ends
walked rule set old new entered ends bs found live puts =
    record {
      ends_there = λ number from r is.
          live
          ∙ ap (λ t. (go_all (bit set) t (start_on entered bs)).live) is.steps
          ∙ ap (λ t. (go_all (bit set) (flat from r) (start_on entered t)).live) (finals_found rule set number from r bs is (found from r is))
          ∙ ap (λ t. t.live) (go_flat (bit set) number from r entered [] []);
      puts = λ number from r is.
          let e : put_all (bit set) rule.ops.items (start_on entered bs) ≡ nexts (bit set) (with_places number from (re r)) entered =
          ap (λ t. put_all (bit set) t (start_on entered bs)) is.steps
          ∙ ap (λ t. put_all (bit set) (flat from r) (start_on entered t)) (finals_found rule set number from r bs is (found from r is))
          ∙ put_flat (bit set) number from r entered [] []
          in
          subst (λ t. Puts old new t) e puts;
    }

pub no_ends : (rule : Rule) (set : List ℕ) → rule.has_loop ≡ false → FindsEnds rule set []
no_ends rule set e = λ from r is.
    sym (ap (λ t. (back_all (bit set) t start_back).finals) is.steps ∙ no_loop (bit set) (flat from r) start_back (sym is.loops ∙ e))

pub ok_walked : {E : Type 0} (rule : Rule) (set old new : List ℕ) (entered : Bool) (bs : List Bool) (steps : List Op) (answer : Result Bool E) → steps ≡ rule.ops.items → FindsEnds rule set bs → IfOk answer (λ ends. ends ≡ (go_all (bit set) steps (start_on entered bs)).live) → OnOk answer (Puts old new (put_all (bit set) steps (start_on entered bs))) → IfOk answer (λ ends. IsWalked rule entered set old new ends)
ok_walked rule set old new entered bs steps (Ok ends) e found live puts =
    walked rule set old new entered ends bs found (live ∙ ap (λ t. (go_all (bit set) t (start_on entered bs)).live) e) (subst (λ t. Puts old new (put_all (bit set) t (start_on entered bs))) e puts)
ok_walked rule set old new entered bs steps (Err e) is found live puts = tt
