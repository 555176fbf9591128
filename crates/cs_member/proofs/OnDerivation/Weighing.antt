-- What the pending tasks weigh: less with each that is taken on.
use Rattle.std.proofs.Common.{◌≡◌, ℕ, zero, suc, ◌+◌, ◌*◌, ◌<◌, ◌≤◌, inl, inr, List, [], ◌∷◌, ◌++◌, Option, length, ap, ◌∙◌, subst, arith}
use Rattle.std.specs.Prelude.{All}
use Rattle.std.specs.List.{sum_by}
use Rattle.std.proofs.Math.Nat.{mul-le-mul_left}
use Rattle.std.proofs.lemmas.Bool.{cases_eq}
use Rattle.std.proofs.lemmas.List.Sums.{sum_by-append, sum_by-cons}
use Rattle.std.proofs.lemmas.List.Elements.{All-head, All-tail}
use Rattle.cs_grammar.specs.Grammar.{PlainGrammar}
use Rattle.cs_member.specs.declared.chart.chart.Position.{Position}
use Rattle.cs_member.specs.declared.tables.tables.Tables.{Tables}
use Rattle.cs_member.specs.declared.derivation.writing.Task.{Task}
use Rattle.cs_member.specs.Derivation.Writing.{IsTaken, rank_of}

-- a rank weighs more than 130 lower ones
abbrev pub weight : ℕ → ℕ
weight zero = 1
weight (suc n) = 200 * weight n

abbrev pub weigh : List ℕ → Task → ℕ
weigh rounds task = weight (rank_of rounds task)

weight_some : (n : ℕ) → 0 < weight n
weight_some zero = omega arith
weight_some (suc n) = let h = weight_some n in omega arith

weight_up : (m n : ℕ) → m ≤ n → weight m ≤ weight n
weight_up m zero le = (let same : m ≡ 0 = omega arith in let e = ap weight same in omega arith)
weight_up m (suc n) le = elim (cases_eq m (suc n)) [
  | inl same ↦ (let e = ap weight same in omega arith)
  | inr other ↦ (let h = weight_up m n (omega arith) in omega arith)
]

sums_low : (rounds : List ℕ) (m : ℕ) (tasks : List Task) → All (λ t. rank_of rounds t < m + 1) tasks → sum_by (weigh rounds) tasks ≤ weight m * length tasks
sums_low rounds m [] all = omega arith
sums_low rounds m (t ∷ ts) all =
    let first = All-head (λ u. rank_of rounds u < m + 1) t ts all in
    let low = weight_up (rank_of rounds t) m (omega arith) in
    let rest = sums_low rounds m ts (All-tail (λ u. rank_of rounds u < m + 1) t ts all) in
    let sum : sum_by (weigh rounds) (t ∷ ts) ≡ weight (rank_of rounds t) + sum_by (weigh rounds) ts = sum_by-cons (weigh rounds) t ts in
    omega arith

pub few_less : (rounds : List ℕ) (limit : ℕ) (tasks : List Task) → length tasks ≤ 130 → All (λ t. rank_of rounds t < limit) tasks → sum_by (weigh rounds) tasks < weight limit
few_less rounds zero [] few all = omega arith
few_less rounds zero (t ∷ ts) few all = absurd (let first = All-head (λ u. rank_of rounds u < 0) t ts all in omega arith)
few_less rounds (suc m) tasks few all =
    let next : suc m ≡ m + 1 = omega arith in
    let low = sums_low rounds m tasks (subst (λ n. All (λ t. rank_of rounds t < n) tasks) next all) in
    let most : weight m * length tasks ≤ weight m * 130 = mul-le-mul_left (weight m) few in
    let some = weight_some m in
    omega arith

pub taken_less : (g : PlainGrammar) (tokens : List ℕ) (tables : Tables) (chart : List Position) (task : Task) (written : Option ℕ) (pending rest new : List Task) → pending ≡ rest ++ task ∷ [] → IsTaken g tokens tables chart task written rest new
    → sum_by (weigh tables.rounds.items) new < sum_by (weigh tables.rounds.items) pending
taken_less g tokens tables chart task written pending rest new is taken =
    let w = weigh tables.rounds.items in
    let less = few_less tables.rounds.items (rank_of tables.rounds.items task) taken.more taken.few taken.lower in
    let after : sum_by w new ≡ sum_by w rest + sum_by w taken.more = ap (λ (l : List Task). sum_by w l) taken.grown ∙ sum_by-append w rest taken.more in
    let before : sum_by w pending ≡ sum_by w rest + sum_by w (task ∷ []) = ap (λ (l : List Task). sum_by w l) is ∙ sum_by-append w rest (task ∷ []) in
    let one : sum_by w (task ∷ []) ≡ weight (rank_of tables.rounds.items task) + sum_by w [] = sum_by-cons w task [] in
    omega arith
