-- Two lists side by side, with a state that each pair of members leads on.
use Rattle.std.specs.Prelude.{◌≡◌, List, [], ◌∷◌}

-- each member of the first list has its partner in the second, from the state before it to the one behind it
abbrev pub AllSteps : {C A B : Type 0} → (C → A → C → B → Type 0) → C → List A → C → List B → Type 0
AllSteps R old [] new ys = (ys ≡ []) × (new ≡ old)
AllSteps {C} {A} {B} R old (x ∷ xs) new ys =
    (mid : C) × (y : B) × (others : List B) × (ys ≡ y ∷ others) × R old x mid y × AllSteps R mid xs new others
