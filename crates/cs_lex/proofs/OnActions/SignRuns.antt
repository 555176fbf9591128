-- Several signs, one behind the other.
use Rattle.std.proofs.Common.{◌≡◌, ℕ, ◌+◌, ◌<◌, ◌≤◌, List, drop, refl, sym, ap, subst, ◌∙◌, arith}
use Rattle.cs_bytes.specs.Classes.{is_space}
use Rattle.cs_lex.specs.Layout.Steps.{Walk, here, step}
use Rattle.cs_lex.proofs.OnLayout.Walks.{walk_push, one_halt, Halts}
use Rattle.cs_lex.specs.Actions.Gaps.{IsSign, SignCount, OneSign, AreSigns}
use Rattle.cs_lex.proofs.OnActions.GapEnds.{sign_same}

pub sign_steps_one : (sign : ℕ) (text : List ℕ) (s t u : SignCount) → OneSign sign text s t → OneSign sign text s u → t ≡ u
sign_steps_one sign text s t u x y = x.is ∙ (ap (λ (n : ℕ). record { count = s.count + 1; at = s.at + n }) (sign_same is_space refl sign (drop s.at text) x.size y.size x.signed y.signed) ∙ sym y.is)

pub signs_push : (sign : ℕ) (text rest : List ℕ) (count at size : ℕ) → AreSigns sign text count at → rest ≡ drop at text → IsSign is_space sign rest size → AreSigns sign text (count + 1) (at + size)
signs_push sign text rest count at size h e s = walk_push h (record { count = count + 1; at = at + size }) (record { size = size; signed = subst (λ (t : List ℕ). IsSign is_space sign t size) e s; is = refl })

pub signs_none : (sign : ℕ) (text : List ℕ) → AreSigns sign text 0 0
signs_none sign text = here

grows : (sign : ℕ) (text : List ℕ) {s t : SignCount} → Walk (OneSign sign text) s t → s.count ≤ t.count
grows sign text here = omega arith
grows sign text (step {s = s} {t = t} {u = u} x rest) = let e : t.count ≡ s.count + 1 = ap (λ (p : SignCount). p.count) x.is in omega (arith, e, grows sign text rest)

-- where the one walk halts, no walk counts more
few_steps : (sign : ℕ) (text : List ℕ) {s t : SignCount} → Walk (OneSign sign text) s t → Halts (OneSign sign text) t → (u : SignCount) → Walk (OneSign sign text) s u → u.count ≤ t.count
few_steps sign text here p u here = omega arith
few_steps sign text here p u (step {t = v} x rest) = absurd (p v x)
few_steps sign text (step {s = s} {t = t} {u = u} x rest) p v here = grows sign text (step x rest)
few_steps sign text (step {s = s} {t = t} x rest) p v (step {t = w} y more) = few_steps sign text rest p v (subst (λ (a : SignCount). Walk (OneSign sign text) a v) (sign_steps_one sign text s w t y x) more)

pub no_signs : (sign : ℕ) (text rest : List ℕ) (i at count : ℕ) → AreSigns sign text i at → i < count → rest ≡ drop at text → ((k : ℕ) → ¬ IsSign is_space sign rest k) → (n : ℕ) → ¬ AreSigns sign text count n
no_signs sign text rest i at count h lt e none n w =
    let most : count ≤ i = few_steps sign text h (λ t s. none s.size (subst (λ (x : List ℕ). IsSign is_space sign x s.size) (sym e) s.signed)) (record { count = count; at = n }) w in
    omega arith

-- walks of one count end at one place
same_steps : (sign : ℕ) (text : List ℕ) {s t : SignCount} → Walk (OneSign sign text) s t → (u : SignCount) → Walk (OneSign sign text) s u → t.count ≡ u.count → t ≡ u
same_steps sign text here u here e = refl
same_steps sign text here u (step {s = s} {t = v} x rest) e = let f : v.count ≡ s.count + 1 = ap (λ (p : SignCount). p.count) x.is in absurd (omega (arith, f, grows sign text rest))
same_steps sign text (step {s = s} {t = v} x rest) u here e = let f : v.count ≡ s.count + 1 = ap (λ (p : SignCount). p.count) x.is in absurd (omega (arith, f, grows sign text rest))
same_steps sign text (step {s = s} {t = v} x rest) u (step {t = w} y more) e = same_steps sign text rest u (subst (λ (a : SignCount). Walk (OneSign sign text) a u) (sign_steps_one sign text s w v y x) more) e

pub same_signs : (sign : ℕ) (text : List ℕ) (count n m : ℕ) → AreSigns sign text count n → AreSigns sign text count m → n ≡ m
same_signs sign text count n m x y = ap (λ (p : SignCount). p.at) (same_steps sign text x (record { count = count; at = m }) y refl)

pub same_run : (sign : ℕ) (text : List ℕ) (c d n m : ℕ) → AreSigns sign text c n → AreSigns sign text d m → ((k : ℕ) → ¬ IsSign is_space sign (drop n text) k) → ((k : ℕ) → ¬ IsSign is_space sign (drop m text) k) → (c ≡ d) × (n ≡ m)
same_run sign text c d n m x y p q =
    let s : SignCount = record { count = c; at = n } in
    let t : SignCount = record { count = d; at = m } in
    let e : s ≡ t = one_halt (sign_steps_one sign text) x t y (λ u z. p z.size z.signed) (λ u z. q z.size z.signed) in
    (ap (λ (z : SignCount). z.count) e, ap (λ (z : SignCount). z.at) e)

pub no_sign_there : (sign : ℕ) (text rest : List ℕ) (at : ℕ) → rest ≡ drop at text → ((k : ℕ) → ¬ IsSign is_space sign rest k) → (k : ℕ) → ¬ IsSign is_space sign (drop at text) k
no_sign_there sign text rest at e none = subst (λ (t : List ℕ). (k : ℕ) → ¬ IsSign is_space sign t k) e none
