-- Pairs with equal parts are equal.
use Rattle.std.proofs.Common.{◌≡◌, ap, ◌∙◌}

pub pair_is : {A B : Type 0} (x y : A × B) → x.0 ≡ y.0 → x.1 ≡ y.1 → x ≡ y
pair_is {A} {B} x y e f = ap (λ a. let p : A × B = (a, x.1) in p) e ∙ ap (λ b. let p : A × B = (y.0, b) in p) f
