-- What a code gives a hasher: one number, in one write.
use Rattle.std.specs.Prelude.{◌≡◌, ℕ, ◌+◌, ◌*◌, ◌%◌, ◌^◌, List, [], ◌∷◌, IsTrue}
use Rattle.std.proofs.Common.{ap}
use Rattle.std.proofs.lemmas.Slice.Eq.{bytes_eq-Decides}
use Rattle.std.specs.Hash as fed
use Rattle.cs_verdicts.specs.declared.cases.code.Code.{Code}
use Rattle.cs_verdicts.specs.contracts.cases.code.CodePartialEq.TheImpl as derived

-- the numbers are the digits of one, behind those that came before; 64 bits of it are kept
abbrev pub hash_from : ℕ → List ℕ → ℕ
hash_from hash [] = hash
hash_from hash (r ∷ rules) = hash_from ((hash * 6364136223846793005 % 2 ^ 64 + r) % 2 ^ 64) rules

abbrev pub hash_code : List ℕ → ℕ
hash_code rules = hash_from 0 rules

abbrev pub writes_of : Code → List (List ℕ)
writes_of code = fed.u64 (hash_code code.rules.items)

-- codes that compare as equal make the same write
pub equal_writes : (v w : Code) → IsTrue (derived.eq-value.it v w) → writes_of v ≡ writes_of w
equal_writes v w equal = ap (λ rules. fed.u64 (hash_code rules)) ((bytes_eq-Decides v.rules.items w.rules.items).0 equal)
