-- What a goal gives a hasher: one number, in one write. No two goals whose parts have 16 bits have one number.
use Rattle.std.specs.Prelude.{◌≡◌, ℕ, ◌+◌, ◌*◌, ◌&&◌, Bool, true, false, List, IsTrue}
use Rattle.std.proofs.Common.{ap, refl, ◌∙◌, arith}
use Rattle.std.proofs.lemmas.Bool.{false≢true, eqb-true}
use Rattle.std.proofs.lemmas.Bool.Decides.{nat_tests}
use Rattle.std.specs.Hash as fed
use Rattle.cs_verdicts.specs.declared.cases.firsts.Key.{Key}
use Rattle.cs_verdicts.specs.declared.cases.firsts.Key.TheVariants.{Rule, Context, Pair}
use Rattle.cs_verdicts.specs.declared.cases.firsts.MarkKey.{MarkKey}
use Rattle.cs_verdicts.specs.declared.cases.firsts.MarkKey.TheVariants.{Begin, Token, End}
use Rattle.cs_verdicts.specs.contracts.cases.firsts.KeyPartialEq.TheImpl as keys
use Rattle.cs_verdicts.specs.contracts.cases.firsts.MarkKeyPartialEq.TheImpl as marks

abbrev pub mark_number : MarkKey → ℕ
mark_number Begin = 65536
mark_number (Token t) = t
mark_number End = 65537

abbrev pub hash_number : Key → ℕ
hash_number (Rule r) = 65536 + r
hash_number (Context p i q) = ((65536 + p) * 65536 + i) * 65536 + q
hash_number (Pair a b) = (131072 + mark_number a) * 131072 + mark_number b

abbrev pub writes_of : Key → List (List ℕ)
writes_of key = fed.u64 (hash_number key)

-- keys that compare as equal are one
pub same_mark : (a b : MarkKey) → marks.eq-value.it a b ≡ true → a ≡ b
same_mark Begin Begin e = refl
same_mark Begin (Token t) e = absurd (false≢true e)
same_mark Begin End e = absurd (false≢true e)
same_mark (Token s) Begin e = absurd (false≢true e)
same_mark (Token s) (Token t) e = ap Token (eqb-true s t e)
same_mark (Token s) End e = absurd (false≢true e)
same_mark End Begin e = absurd (false≢true e)
same_mark End (Token t) e = absurd (false≢true e)
same_mark End End e = refl

pub same_key : (a b : Key) → keys.eq-value.it a b ≡ true → a ≡ b
same_key (Rule r) (Rule s) e = ap Rule (eqb-true r s e)
same_key (Rule r) (Context p i q) e = absurd (false≢true e)
same_key (Rule r) (Pair a b) e = absurd (false≢true e)
same_key (Context p i q) (Rule s) e = absurd (false≢true e)
same_key (Context p i q) (Context o j s) e = grind (arith, nat_tests)
same_key (Context p i q) (Pair a b) e = absurd (false≢true e)
same_key (Pair a b) (Rule s) e = absurd (false≢true e)
same_key (Pair a b) (Context o j s) e = absurd (false≢true e)
same_key (Pair a b) (Pair c d) e = by (marks.eq-value.it a c) (marks.eq-value.it b d) refl refl e
  where
    by : (x y : Bool) → marks.eq-value.it a c ≡ x → marks.eq-value.it b d ≡ y → (x && y) ≡ true → Pair a b ≡ Pair c d
    by true true f g h = ap (λ (m : MarkKey). Pair m b) (same_mark a c f) ∙ ap (λ (m : MarkKey). Pair c m) (same_mark b d g)
    by true false f g h = absurd (false≢true h)
    by false y f g h = absurd (false≢true h)

-- and make the same write
pub equal_writes : (v w : Key) → IsTrue (keys.eq-value.it v w) → writes_of v ≡ writes_of w
equal_writes v w equal = ap writes_of (same_key v w equal)
