-- Open nonterminals of right sides, and what right sides cost while some are open.
use Rattle.std.proofs.Common.{◌≡◌, ℕ, ◌+◌, ◌-◌, ◌<◌, ◌≤◌, Bool, true, false, List, [], ◌∷◌, length, refl, sym, ap, ◌∙◌, subst, ⊎_elim, arith}
use Rattle.std.specs.Prelude.{All, nat_eq}
use Rattle.std.proofs.Math.ListN.{set}
use Rattle.std.proofs.lemmas.Bool.{cases_eq}
use Rattle.std.proofs.lemmas.Bool.Decides.{nat_tests}
use Rattle.cs_grammar.specs.declared.symbol.Symbol.{Symbol}
use Rattle.cs_grammar.specs.declared.symbol.Symbol.TheVariants.{Token, Nonterminal}
use Rattle.cs_grammar.specs.Grammar.{IsNumberOf, IsSymbol}
use Rattle.cs_grammar.specs.Weights.{Measure}
use Rattle.cs_grammar.specs.Tree.{Leaf, size}
use Rattle.cs_least.specs.declared.cost.cost.Cost.{Cost}
use Rattle.cs_least.specs.declared.cost.cost.Cost.TheVariants.{Never, Large, Least}
use Rattle.cs_least.specs.Cost.Rank.{rank, IsCapped, plus, sum_from, entry}
use Rattle.cs_least.specs.Cost.Trees.{cost_in}
use Rattle.cs_least.specs.Cost.Users.{one_if, same, stands}
use Rattle.cs_least.specs.Cost.Worklist.{is_open, open_in}
use Rattle.cs_least.proofs.OnCost.Ranks.{rank-cost_of, IsCapped-cost_of, IsCapped-plus}
use Rattle.cs_grammar.proofs.Tables.{entry_or-set_same, entry_or-set_other}
use Rattle.cs_least.proofs.OnCost.Tables.{IsCapped-entry}

same_written : (a b : ℕ) (t : Bool) → nat_eq a b ≡ t → a ≡ b → one_if t ≡ 1
same_written a b true e h = refl
same_written a b false e h = grind (arith, nat_tests)

other_written : (a b : ℕ) (t : Bool) → nat_eq a b ≡ t → (a ≡ b → ⊥) → one_if t ≡ 0
other_written a b true e ne = let is : a ≡ b = grind (arith, nat_tests) in absurd (ne is)
other_written a b false e ne = refl

pub same_yes : (a b : ℕ) → a ≡ b → same a b ≡ 1
same_yes a b e = same_written a b (nat_eq a b) refl e

pub same_no : (a b : ℕ) → (a ≡ b → ⊥) → same a b ≡ 0
same_no a b ne = other_written a b (nat_eq a b) refl ne

pub is_open-none : (c : Cost) → (c ≡ Never → ⊥) → is_open c ≡ 0
is_open-none Never ne = absurd (ne refl)
is_open-none Large ne = refl
is_open-none (Least n) ne = refl

module _ (limit : ℕ) where
  -- a part costs no more than the sum
  pub plus_left : (a b : Cost) → IsCapped limit a → IsCapped limit b → rank limit a ≤ rank limit (plus limit a b)
  plus_left Never b ca cb = omega arith
  plus_left Large Never ca cb = omega arith
  plus_left Large Large ca cb = omega arith
  plus_left Large (Least k) ca cb = omega arith
  plus_left (Least j) Never ca cb = omega arith
  plus_left (Least j) Large ca cb = omega arith
  plus_left (Least j) (Least k) ca cb = omega (arith, rank-cost_of limit (j + k))

  pub plus_right : (a b : Cost) → IsCapped limit a → IsCapped limit b → rank limit b ≤ rank limit (plus limit a b)
  plus_right Never Never ca cb = omega arith
  plus_right Never Large ca cb = omega arith
  plus_right Never (Least k) ca cb = omega arith
  plus_right Large Never ca cb = omega arith
  plus_right Large Large ca cb = omega arith
  plus_right Large (Least k) ca cb = omega arith
  plus_right (Least j) Never ca cb = omega arith
  plus_right (Least j) Large ca cb = omega arith
  plus_right (Least j) (Least k) ca cb = omega (arith, rank-cost_of limit (j + k))

  -- parts that have a cost have one together
  pub plus_known : (a b : Cost) → rank limit a ≤ limit + 1 → rank limit b ≤ limit + 1 → rank limit (plus limit a b) ≤ limit + 1
  plus_known Never b ha hb = absurd (omega arith)
  plus_known Large Never ha hb = absurd (omega arith)
  plus_known Large Large ha hb = omega arith
  plus_known Large (Least k) ha hb = omega arith
  plus_known (Least j) Never ha hb = absurd (omega arith)
  plus_known (Least j) Large ha hb = omega arith
  plus_known (Least j) (Least k) ha hb = omega (arith, rank-cost_of limit (j + k))

  pub known : (c : Cost) → IsCapped limit c → is_open c ≡ 0 → rank limit c ≤ limit + 1
  known Never is h = absurd (omega arith)
  known Large is h = omega arith
  known (Least n) is h = omega arith

  pub unknown : (c : Cost) → 0 < is_open c → c ≡ Never
  unknown Never h = refl
  unknown Large h = absurd (omega arith)
  unknown (Least n) h = absurd (omega arith)

  pub known_not : (c : Cost) → (c ≡ Never → ⊥) → IsCapped limit c → rank limit c ≤ limit + 1
  known_not c ne is = known c is (is_open-none c ne)

module _ (w : Measure) (table : List Cost) (each : All (IsCapped w.limit) table) where
  told_capped : (x : Symbol) → IsCapped w.limit (cost_in w table x)
  told_capped (Token t) = IsCapped-cost_of w.limit (size w (Leaf t))
  told_capped (Nonterminal n) = IsCapped-entry w.limit table n each

  -- a sum costs no less than what it began with
  pub sum_from_grows : (xs : List Symbol) (sum : Cost) → IsCapped w.limit sum → rank w.limit sum ≤ rank w.limit (sum_from w.limit (cost_in w table) sum xs)
  sum_from_grows [] sum is = omega arith
  sum_from_grows (x ∷ xs) sum is =
      omega (
        arith,
        plus_left w.limit sum (cost_in w table x) is (told_capped x),
        sum_from_grows xs (plus w.limit sum (cost_in w table x)) (IsCapped-plus w.limit sum (cost_in w table x) is (told_capped x)),
      )

  -- and no less than a nonterminal that stands in it
  pub stands_below : (n : ℕ) (xs : List Symbol) (sum : Cost) → IsCapped w.limit sum → 0 < stands n xs → rank w.limit (entry table n) ≤ rank w.limit (sum_from w.limit (cost_in w table) sum xs)
  stands_below n [] sum is h = absurd (omega arith)
  stands_below n (Token t ∷ xs) sum is h =
      stands_below n xs (plus w.limit sum (cost_in w table (Token t))) (IsCapped-plus w.limit sum (cost_in w table (Token t)) is (told_capped (Token t))) h
  stands_below n (Nonterminal m ∷ xs) sum is h =
      let next = plus w.limit sum (entry table m) in
      let next_is = IsCapped-plus w.limit sum (entry table m) is (told_capped (Nonterminal m)) in
      ⊎_elim
      (λ here. omega (
        arith,
        ap (λ k. rank w.limit (entry table k)) here,
        plus_right w.limit sum (entry table m) is (told_capped (Nonterminal m)),
        sum_from_grows xs next next_is,
      ))
      (λ other. stands_below n xs next next_is (omega (arith, h, same_no n m other)))
      (cases_eq n m)

  -- where a nonterminal is open the sum has no cost
  pub open_never : (xs : List Symbol) (sum : Cost) → IsCapped w.limit sum → 0 < open_in table xs → w.limit + 2 ≤ rank w.limit (sum_from w.limit (cost_in w table) sum xs)
  open_never [] sum is h = absurd (omega arith)
  open_never (Token t ∷ xs) sum is h =
      open_never xs (plus w.limit sum (cost_in w table (Token t))) (IsCapped-plus w.limit sum (cost_in w table (Token t)) is (told_capped (Token t))) h
  open_never (Nonterminal m ∷ xs) sum is h =
      let next = plus w.limit sum (entry table m) in
      let next_is = IsCapped-plus w.limit sum (entry table m) is (told_capped (Nonterminal m)) in
      ⊎_elim
      (λ settled. open_never xs next next_is (omega (arith, h, settled)))
      (λ other.
      let e = unknown w.limit (entry table m) (omega (arith, above other)) in
      omega (
        arith,
        ap (rank w.limit) e,
        plus_right w.limit sum (entry table m) is (told_capped (Nonterminal m)),
        sum_from_grows xs next next_is,
      ))
      (cases_eq (is_open (entry table m)) 0)
    where
      above : (is_open (entry table m) ≡ 0 → ⊥) → 0 < is_open (entry table m)
      above ne = omega (arith, ne)

  -- where none is open it has one
  pub closed_known : (xs : List Symbol) (sum : Cost) → rank w.limit sum ≤ w.limit + 1 → open_in table xs ≡ 0 → rank w.limit (sum_from w.limit (cost_in w table) sum xs) ≤ w.limit + 1
  closed_known [] sum h none = h
  closed_known (Token t ∷ xs) sum h none =
      closed_known xs (plus w.limit sum (cost_in w table (Token t))) (plus_known w.limit sum (cost_in w table (Token t)) h (omega (arith, rank-cost_of w.limit (size w (Leaf t))))) none
  closed_known (Nonterminal m ∷ xs) sum h none =
      closed_known xs (plus w.limit sum (entry table m)) (plus_known w.limit sum (entry table m) h (known w.limit (entry table m) (told_capped (Nonterminal m)) (omega (arith, none)))) (omega (arith, none))

-- a nonterminal is settled
module _ (table : List Cost) (n : ℕ) (c : Cost) (number : IsNumberOf (length table) n) where
  -- right sides in which it doesn't stand cost what they did
  pub sum_from_other : (w : Measure) (xs : List Symbol) (sum : Cost) → stands n xs ≡ 0 → sum_from w.limit (cost_in w (set table (n - 1) c)) sum xs ≡ sum_from w.limit (cost_in w table) sum xs
  sum_from_other w [] sum none = refl
  sum_from_other w (Token t ∷ xs) sum none = sum_from_other w xs (plus w.limit sum (cost_in w table (Token t))) none
  sum_from_other w (Nonterminal m ∷ xs) sum none =
      let other : m ≡ n → ⊥ = λ e. omega (arith, none, same_yes n m (sym e)) in
      let e : entry (set table (n - 1) c) m ≡ entry table m = entry_or-set_other Never table n m c number.0 other in
      ap (λ d. sum_from w.limit (cost_in w (set table (n - 1) c)) (plus w.limit sum d) xs) e
      ∙ sum_from_other w xs (plus w.limit sum (entry table m)) (omega (arith, none))

  -- and the open ones are fewer by as often as it stands
  pub open_settled : (xs : List Symbol) → entry table n ≡ Never → (c ≡ Never → ⊥) → open_in table xs ≡ open_in (set table (n - 1) c) xs + stands n xs
  open_settled [] never ne = refl
  open_settled (Token t ∷ xs) never ne = open_settled xs never ne
  open_settled (Nonterminal m ∷ xs) never ne =
      let rest = open_settled xs never ne in
      ⊎_elim
      (λ here.
      let before : is_open (entry table m) ≡ 1 = ap (λ k. is_open (entry table k)) here ∙ ap is_open never in
      let after : is_open (entry (set table (n - 1) c) m) ≡ 0 = ap (λ k. is_open (entry (set table (n - 1) c) k)) here ∙ ap is_open (entry_or-set_same Never table n c number) ∙ is_open-none c ne in
      omega (arith, rest, before, after, same_yes n m (sym here)))
      (λ other.
      let kept : is_open (entry (set table (n - 1) c) m) ≡ is_open (entry table m) = ap is_open (entry_or-set_other Never table n m c number.0 other) in
      omega (arith, rest, kept, same_no n m (λ e. other (sym e))))
      (cases_eq m n)

-- symbols fit where their counts are written otherwise
pub symbols_fit : {m n tokens nonterminals : ℕ} (xs : List Symbol) → tokens ≡ m → nonterminals ≡ n → All (IsSymbol tokens nonterminals) xs → All (IsSymbol m n) xs
symbols_fit {m = m} {n = n} {tokens = tokens} {nonterminals = nonterminals} xs same_tokens same_nonterminals each =
    subst (λ k. All (IsSymbol m k) xs) same_nonterminals (subst (λ k. All (IsSymbol k nonterminals) xs) same_tokens each)
