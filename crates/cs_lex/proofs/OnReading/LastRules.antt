-- The rules, before their patterns are read.
use Rattle.std.proofs.Common.{◌≡◌, ℕ, false, eqb, ◌+◌, ◌-◌, ◌<◌, List, [], ◌∷◌, ◌++◌, length, take, get_or, sym, ap, subst, ◌∙◌, arith}
use Rattle.std.proofs.lemmas.Bool.{false≢true}
use Rattle.std.proofs.lemmas.List.{take_more, take_all}
use Rattle.cs_lex.specs.declared.layout.parts.Rule.{Rule}
use Rattle.cs_lex.specs.Actions.Kinds.{ActionKind, bar, IsKind}
use Rattle.cs_lex.proofs.OnActions.OneKind.{one_kind}
use Rattle.cs_lex.specs.Reading.Kinds.{IsBarRule}
use Rattle.cs_lex.specs.Reading.Reading.{IsLast, EndsWithKind}

-- a list ends with one element
pub last_same : {X : Type 0} (before other : List X) (r q : X) → before ++ r ∷ [] ≡ other ++ q ∷ [] → r ≡ q
last_same [] [] r q e = cc
last_same [] (y ∷ []) r q e = absurd cc
last_same [] (y ∷ z ∷ other) r q e = absurd cc
last_same (x ∷ []) [] r q e = absurd cc
last_same (x ∷ w ∷ before) [] r q e = absurd cc
last_same {X = X} (x ∷ before) (y ∷ other) r q e = last_same before other r q (ap tail e)
  where
    tail : List X → List X
    tail [] = []
    tail (z ∷ zs) = zs

pub no_last : {X : Type 0} (before : List X) (r : X) → [] ≡ before ++ r ∷ [] → ⊥
no_last [] r e = absurd cc
no_last (x ∷ before) r e = absurd cc

-- where there are no rules, none is the last
pub none_ends : (bytes : List ℕ) (rs : List Rule) → rs ≡ [] → EndsWithKind bytes rs → ⊥
none_ends bytes rs e h = no_last h.1.0 h.0 (sym e ∙ h.1.1)

-- an action is `|` or not
pub bar_ends : (bytes : List ℕ) (rs : List Rule) (r : Rule) → IsLast rs r → IsBarRule bytes r → EndsWithKind bytes rs → ⊥
bar_ends bytes rs r l b h = h.2 (subst (λ (q : Rule). IsBarRule bytes q) (last_same l.0 h.1.0 r h.0 (sym l.1 ∙ h.1.1)) b)

-- an action of another kind is no `|`
pub no_bar : (text : List ℕ) (k : ActionKind) → IsKind text k → (bar ≡ k → ⊥) → ¬ IsKind text bar
no_bar text k h other b = other (one_kind text bar k b h)

-- the last rule stands last
pub last_is : (rs : List Rule) (d : Rule) → 0 < length rs → IsLast rs (get_or rs (length rs - 1) d)
last_is rs d lt =
    let at : ℕ = length rs - 1 in
    let more : take (at + 1) rs ≡ take at rs ++ get_or rs at d ∷ [] = take_more rs at d (omega arith) in
    let all : take (at + 1) rs ≡ rs = take_all (at + 1) rs (omega arith) in
    (take at rs, sym all ∙ more)

pub ends_there : (bytes : List ℕ) (rs : List Rule) (d : Rule) → 0 < length rs → ¬ IsBarRule bytes (get_or rs (length rs - 1) d) → EndsWithKind bytes rs
ends_there bytes rs d lt other = (get_or rs (length rs - 1) d, last_is rs d lt, other)

pub some_there : (rs : List Rule) → eqb (length rs) 0 ≡ false → 0 < length rs
some_there [] e = absurd (false≢true (sym e))
some_there (r ∷ rs) e = omega arith
