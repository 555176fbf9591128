-- Ranks of bytes.
use Rattle.std.proofs.Common.{◌≡◌, ℕ, ◌+◌, ◌*◌, ◌<◌, ◌≤◌, arith, Bool, true, false, sym, subst, ⊎_elim}
use Rattle.std.proofs.lemmas.Bool.{cases_lt}
use Rattle.std.proofs.lemmas.List.Elements.{All-push, Contains-push, Contains-append_left}
use Rattle.std.specs.Prelude.{Contains, List, [], ◌∷◌, ◌++◌, if◌then◌else◌, ◌==◌}
use Rattle.cs_scanner.specs.Lexeme.Bytes.{AreByRank}
use Rattle.cs_scanner.proofs.OnLexeme.Lists.{all_at, rises_pushed}
use Rattle.cs_bytes.specs.Names.{tab, newline, space}
use Rattle.cs_bytes.specs.Classes.{is_between, is_digit}
use Rattle.cs_scanner.specs.Lexeme.Rank.{class_of, rank}

-- one of two numbers below a limit is
in_if : (b : Bool) (m n limit : ℕ) → m ≤ limit → n ≤ limit → (if b then m else n) ≤ limit
in_if true m n limit here there = here
in_if false m n limit here there = there

pub few_classes : (b : ℕ) → class_of b ≤ 7
few_classes b =
    in_if (is_between 97 122 b) _ _ 7 (omega arith) (in_if (is_digit b) _ _ 7 (omega arith) (in_if (is_between 65 90 b) _ _ 7 (omega arith) (in_if (is_between 33 126 b) _ _ 7 (omega arith) (in_if (b == space) _ _ 7 (omega arith) (in_if (b == newline) _ _ 7 (omega arith) (in_if (b == tab) _ _ 7 (omega arith) (omega arith)))))))

-- the rank of a byte is below 2,048
pub rank_within : (b : ℕ) → b < 256 → rank b < 2048
unfolding rank
rank_within b fits = omega (arith, few_classes b)

-- bytes of one rank are one
pub one_rank : (b c : ℕ) → b < 256 → c < 256 → rank b ≡ rank c → b ≡ c
unfolding rank
one_rank b c fits also e = omega arith

pub none_by_rank : AreByRank 0 []
none_by_rank = record { are = λ k d less. absurd (omega arith); below = λ k d less. absurd (omega arith); all = λ b fits low. absurd (omega arith); rises = λ i j x y less at other. absurd (cc) }

-- the byte with a rank is one alone
the_byte : (class value b : ℕ) → value < 256 → b < 256 → rank b ≡ 256 * class + value → (class_of b ≡ class) × (b ≡ value)
unfolding rank
the_byte class value b fits also e = (omega (arith, few_classes b), omega (arith, few_classes b))

-- the rank that a byte of the class has
its_rank : (class value : ℕ) → class_of value ≡ class → rank value ≡ 256 * class + value
unfolding rank
its_rank class value e = omega arith

pub by_rank_same : (class value : ℕ) (bytes : List ℕ) → value < 256 → (class_of value ≡ class → ⊥) → AreByRank (256 * class + value) bytes → AreByRank (256 * class + (value + 1)) bytes
by_rank_same class value bytes fits other r = record {
  are = r.are;
  below = λ k d less. omega (arith, r.below k d less);
  all = λ b also low. ⊎_elim
      (λ (under : rank b < 256 * class + value). r.all b also under)
      (λ (over : 256 * class + value ≤ rank b).
      let it = the_byte class value b fits also (omega arith) in
      absurd (other (cc)))
      (cases_lt (rank b) (256 * class + value));
  rises = r.rises;
}

pub by_rank_more : (class value : ℕ) (bytes : List ℕ) → value < 256 → class_of value ≡ class → AreByRank (256 * class + value) bytes → AreByRank (256 * class + (value + 1)) (bytes ++ value ∷ [])
by_rank_more class value bytes fits e r =
    let mine = its_rank class value e in
    record {
      are = All-push (λ b. b < 256) bytes value r.are fits;
      below = All-push (λ b. rank b < 256 * class + (value + 1)) bytes value (λ k d less. omega (arith, r.below k d less)) (omega arith);
      all = λ b also low. ⊎_elim
          (λ (under : rank b < 256 * class + value). Contains-append_left bytes (value ∷ []) b (r.all b also under))
          (λ (over : 256 * class + value ≤ rank b).
          let it = the_byte class value b fits also (omega arith) in
          let P : ℕ → Type 0 = λ c. Contains (bytes ++ value ∷ []) c in
          subst P (sym it.1) (Contains-push bytes value))
          (cases_lt (rank b) (256 * class + value));
      rises = rises_pushed rank bytes value r.rises (λ i x at.
          let below = all_at (λ b. rank b < 256 * class + value) bytes i x r.below at in omega arith);
    }
