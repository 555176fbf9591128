-- A list of one token is its first token alone, so all its pairs are around that one.
use Rattle.std.proofs.Common.{◌≡◌, ℕ, ◌<◌, ◌≤◌, List, [], ◌∷◌, length, refl, subst, arith}
use Rattle.std.specs.Prelude.{slice_index_or}
use Rattle.cs_mutate.specs.Poison.{TellsPair, between}
use Rattle.cs_mutate.proofs.poisoning.poison_put.Goals as goal

-- a list of one token is that of its first
alone : (w : List ℕ) (d : ℕ) → 1 ≤ length w → length w < 2 → slice_index_or w 0 d ∷ [] ≡ w
alone [] d some few = absurd (omega (arith, some))
alone (x ∷ []) d some few = refl
alone (x ∷ y ∷ w) d some few = absurd (omega (arith, few))

pub returns-in-len1 : goal.returns-in-len1
returns-in-len1 c =
    subst (λ (w : List ℕ). TellsPair c.args.pairs.now.grammar (between c.args.left w c.args.right) c.poison_around.result)
    (alone c.args.put.now _ c.in-len1.len_at_least c.in-len1.len_below) c.poison_around.ensures
