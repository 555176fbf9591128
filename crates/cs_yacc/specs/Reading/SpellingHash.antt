-- What a spelling gives a hasher: its bytes, in one write.
use Rattle.std.specs.Prelude.{◌≡◌, ℕ, List, [], ◌∷◌, IsTrue}
use Rattle.std.proofs.Common.{ap}
use Rattle.std.proofs.lemmas.Bool.{false≢true, eqb-true}
use Rattle.std.proofs.lemmas.Slice.Eq.{bytes_eq-Decides}
use Rattle.cs_yacc.specs.declared.reading.spelling.Spelling as code
use Rattle.cs_yacc.specs.declared.reading.spelling.Spelling.TheVariants as variants
use Rattle.cs_yacc.specs.contracts.reading.spelling.SpellingPartialEq.TheImpl as derived

abbrev pub writes_of : code.Spelling → List (List ℕ)
writes_of (variants.Named n) = n.now ∷ []
writes_of (variants.Quoted b) = (b ∷ []) ∷ []

-- equal spellings make the same writes
pub equal_writes : (v w : code.Spelling) → IsTrue (derived.eq-value.it v w) → writes_of v ≡ writes_of w
equal_writes (variants.Named m) (variants.Named n) e = ap (λ (x : List ℕ). x ∷ []) ((bytes_eq-Decides m.now n.now).0 e)
equal_writes (variants.Named m) (variants.Quoted b) e = absurd (false≢true e)
equal_writes (variants.Quoted a) (variants.Named n) e = absurd (false≢true e)
equal_writes (variants.Quoted a) (variants.Quoted b) e = ap (λ (x : ℕ). (x ∷ []) ∷ []) (eqb-true a b e)
