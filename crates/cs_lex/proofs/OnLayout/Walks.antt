-- Steps that follow one another, and units that stand one behind the other.
use Rattle.std.proofs.Common.{◌≡◌, ℕ, ◌+◌, ◌-◌, ◌<◌, List, drop, refl, sym, subst, ◌∙◌, arith}
use Rattle.cs_lex.specs.Layout.Steps.{Walk, here, step, Spans, Covers, HasSize}

-- one step more
pub walk_push : {S : Type 0} {Step : S → S → Type 0} {s t : S} → Walk Step s t → (u : S) → Step t u → Walk Step s u
walk_push here u x = step x here
walk_push (step y rest) u x = step y (walk_push rest u x)

-- no step goes on from there
abbrev pub Halts : {S : Type 0} → (S → S → Type 0) → S → Type 0
Halts {S} Step s = (t : S) → Step s t → ⊥

-- where each place has one next place, steps halt at one place
pub one_halt : {S : Type 0} {Step : S → S → Type 0} → ((s t u : S) → Step s t → Step s u → t ≡ u) → {s t : S} → Walk Step s t → (u : S) → Walk Step s u → Halts Step t → Halts Step u → t ≡ u
one_halt one here u here p q = refl
one_halt one here u (step {t = v} x rest) p q = absurd (p v x)
one_halt one (step {t = v} x rest) u here p q = absurd (q v x)
one_halt {Step = Step} one (step {s = s} {t = v} x rest) u (step {t = w} y more) p q = one_halt one rest u (subst (λ a. Walk Step a u) (one s w v y x) more) p q

-- ---- units

-- the text has one unit in front
abbrev pub AreUnique : (List ℕ → ℕ → Type 0) → Type 0
AreUnique Unit = (text : List ℕ) (n m : ℕ) → Unit text n → Unit text m → n ≡ m

-- no unit stands in front of such a rest
abbrev pub StopsBefore : (List ℕ → ℕ → Type 0) → (List ℕ → Type 0) → Type 0
StopsBefore Unit Rest = (text : List ℕ) (n : ℕ) → Rest text → Unit text n → ⊥

spans_same : (Unit : List ℕ → ℕ → Type 0) → AreUnique Unit → (text : List ℕ) (a b c : ℕ) → Spans Unit text a b → Spans Unit text a c → b ≡ c
spans_same Unit unique text a b c x y = omega (arith, x.ends, y.ends, unique (drop a text) x.size y.size x.unit y.unit)

-- where no unit goes on, units end at one place
pub units_same : (Unit : List ℕ → ℕ → Type 0) → AreUnique Unit → (text : List ℕ) (n m : ℕ) → Walk (Spans Unit text) 0 n → Walk (Spans Unit text) 0 m
    → ((k : ℕ) → Unit (drop n text) k → ⊥) → ((k : ℕ) → Unit (drop m text) k → ⊥) → n ≡ m
units_same Unit unique text n m x y p q = one_halt (spans_same Unit unique text) x m y (λ t s. p s.size s.unit) (λ t s. q s.size s.unit)

pub covers_same : (Unit : List ℕ → ℕ → Type 0) (Rest Other : List ℕ → Type 0) → AreUnique Unit → StopsBefore Unit Rest → StopsBefore Unit Other → (text : List ℕ) (n m : ℕ) → Covers Unit Rest text n → Covers Unit Other text m → n ≡ m
covers_same Unit Rest Other unique ends stops text n m x y = units_same Unit unique text n m x.units y.units (λ k. ends (drop n text) k x.rest) (λ k. stops (drop m text) k y.rest)

-- what one kind of rest ends, another one that no text is too doesn't
pub covers_apart : (Unit : List ℕ → ℕ → Type 0) (Rest Other : List ℕ → Type 0) → AreUnique Unit → StopsBefore Unit Rest → StopsBefore Unit Other → ((t : List ℕ) → Rest t → Other t → ⊥) → (text : List ℕ) (n m : ℕ) → Covers Unit Rest text n → Covers Unit Other text m → ⊥
covers_apart Unit Rest Other unique ends stops apart text n m x y =
    apart (drop n text) x.rest (subst (λ (k : ℕ). Other (drop k text)) (sym (covers_same Unit Rest Other unique ends stops text n m x y)) y.rest)

pub units_push : (Unit : List ℕ → ℕ → Type 0) (text rest : List ℕ) (at size : ℕ) → Walk (Spans Unit text) 0 at → rest ≡ drop at text → Unit rest size → Walk (Spans Unit text) 0 (at + size)
units_push Unit text rest at size h e u = walk_push h (at + size) (record { size = size; unit = subst (λ (t : List ℕ). Unit t size) e u; ends = refl })

-- a unit more, up to an offset
pub units_to : (Unit : List ℕ → ℕ → Type 0) (text : List ℕ) (at to : ℕ) → Walk (Spans Unit text) 0 at → at < to → Unit (drop at text) (to - at) → Walk (Spans Unit text) 0 to
units_to Unit text at to h lt u =
    let e : at + (to - at) ≡ to = omega arith in
    subst (λ (k : ℕ). Walk (Spans Unit text) 0 k) e (units_push Unit text (drop at text) at (to - at) h refl u)

-- ---- units that a function sizes

module _ (f : List ℕ → ℕ) where
  pub sized_unique : AreUnique (HasSize f)
  sized_unique text n m x y = x.is ∙ sym y.is

  pub sized_none : (text : List ℕ) → f text ≡ 0 → (k : ℕ) → HasSize f text k → ⊥
  sized_none text e k s = omega (arith, s.is, s.some)

  pub sized_push : (text : List ℕ) (at size : ℕ) → Walk (Spans (HasSize f) text) 0 at → size ≡ f (drop at text) → 0 < size → Walk (Spans (HasSize f) text) 0 (at + size)
  sized_push text at size h e some = units_push (HasSize f) text (drop at text) at size h refl (record { is = e; some = some })

  pub sized_same : (text : List ℕ) (n m : ℕ) → Walk (Spans (HasSize f) text) 0 n → f (drop n text) ≡ 0 → Walk (Spans (HasSize f) text) 0 m → f (drop m text) ≡ 0 → n ≡ m
  sized_same text n m x p y q = units_same (HasSize f) sized_unique text n m x y (sized_none (drop n text) p) (sized_none (drop m text) q)
