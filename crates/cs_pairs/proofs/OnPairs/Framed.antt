-- What stands side by side in the framed list of some tokens.
use Rattle.std.proofs.Common.{◌≡◌, ℕ, List, [], ◌∷◌, ◌++◌, map, refl, ap, ◌∙◌}
use Rattle.cs_grammar.specs.declared.symbol.Mark.{Mark}
use Rattle.cs_grammar.specs.declared.symbol.Mark.TheVariants.{Begin, Token, End}
use Rattle.cs_grammar.specs.Sentence.{framed, IsFollowed}
use Rattle.cs_pairs.specs.declared.kinds.kind.TreeKind.TheVariants.{Begins, Ends}
use Rattle.cs_pairs.specs.Kinds.Kinds.{IsOfKind}

-- the tokens and the end mark
abbrev ended : List ℕ → List Mark
ended w = map Token w ++ End ∷ []

ended-append : (u v : List ℕ) → ended (u ++ v) ≡ map Token u ++ ended v
ended-append [] v = refl
ended-append (x ∷ u) v = ap (λ (l : List Mark). Token x ∷ l) (ended-append u v)

-- the begin mark isn't among them
no_begin : (w : List ℕ) (xs ys : List Mark) → ended w ≡ xs ++ Begin ∷ ys → ⊥
no_begin [] [] ys e = absurd cc
no_begin [] (x ∷ []) ys e = absurd cc
no_begin [] (x ∷ y ∷ xs) ys e = absurd cc
no_begin (t ∷ w) [] ys e = absurd cc
no_begin (t ∷ w) (x ∷ xs) ys e = let others : ended w ≡ xs ++ Begin ∷ ys = cc in no_begin w xs ys others

-- the begin mark is followed by the first token, or by the end mark where there is none
pub first_token : (b : ℕ) (w : List ℕ) → IsFollowed Begin (Token b) (framed w) → IsOfKind (Begins b) w
first_token b [] ([], ys, e) = absurd cc
first_token b (t ∷ w) ([], ys, e) = let same : t ≡ b = cc in (w, ap (λ n. n ∷ w) same)
first_token b w (x ∷ xs, ys, e) = let others : ended w ≡ xs ++ Begin ∷ (Token b ∷ ys) = cc in absurd (no_begin w xs (Token b ∷ ys) others)

pub token_first : (b : ℕ) (w : List ℕ) → IsOfKind (Begins b) w → IsFollowed Begin (Token b) (framed w)
token_first b w h = ([], ended h.0, ap framed h.1)

pub no_token : (w : List ℕ) → IsFollowed Begin End (framed w) → w ≡ []
no_token [] h = refl
no_token (t ∷ w) ([], ys, e) = absurd cc
no_token (t ∷ w) (x ∷ xs, ys, e) = let others : ended (t ∷ w) ≡ xs ++ Begin ∷ (End ∷ ys) = cc in absurd (no_begin (t ∷ w) xs (End ∷ ys) others)

pub none_framed : (w : List ℕ) → w ≡ [] → IsFollowed Begin End (framed w)
none_framed w h = ([], [], ap framed h)

-- the end mark follows the last token
ended_last : (a : ℕ) (w : List ℕ) (xs ys : List Mark) → ended w ≡ xs ++ Token a ∷ (End ∷ ys) → IsOfKind (Ends a) w
ended_last a [] [] ys e = absurd cc
ended_last a [] (x ∷ []) ys e = absurd cc
ended_last a [] (x ∷ y ∷ xs) ys e = absurd cc
ended_last a (t ∷ []) [] ys e = let same : t ≡ a = cc in ([], ap (λ n. n ∷ []) same)
ended_last a (t ∷ u ∷ w) [] ys e = absurd cc
ended_last a (t ∷ w) (x ∷ xs) ys e =
    let others : ended w ≡ xs ++ Token a ∷ (End ∷ ys) = cc in
    let h = ended_last a w xs ys others in
    (t ∷ h.0, ap (λ (l : List ℕ). t ∷ l) h.1)

pub last_token : (a : ℕ) (w : List ℕ) → IsFollowed (Token a) End (framed w) → IsOfKind (Ends a) w
last_token a w ([], ys, e) = absurd cc
last_token a w (x ∷ xs, ys, e) = let others : ended w ≡ xs ++ Token a ∷ (End ∷ ys) = cc in ended_last a w xs ys others

pub token_last : (a : ℕ) (w : List ℕ) → IsOfKind (Ends a) w → IsFollowed (Token a) End (framed w)
token_last a w h = (Begin ∷ map Token h.0, [], ap framed h.1 ∙ ap (λ (l : List Mark). Begin ∷ l) (ended-append h.0 (a ∷ [])))

-- two tokens are side by side in the framed list where they are so in the list
ended_tokens : (a b : ℕ) (w : List ℕ) (xs ys : List Mark) → ended w ≡ xs ++ Token a ∷ (Token b ∷ ys) → IsFollowed a b w
ended_tokens a b [] [] ys e = absurd cc
ended_tokens a b [] (x ∷ []) ys e = absurd cc
ended_tokens a b [] (x ∷ y ∷ xs) ys e = absurd cc
ended_tokens a b (t ∷ []) [] ys e = absurd cc
ended_tokens a b (t ∷ u ∷ w) [] ys e =
    let one : t ≡ a = cc in
    let other : u ≡ b = cc in
    ([], w, ap (λ n. n ∷ u ∷ w) one ∙ ap (λ n. a ∷ n ∷ w) other)
ended_tokens a b (t ∷ w) (x ∷ xs) ys e =
    let others : ended w ≡ xs ++ Token a ∷ (Token b ∷ ys) = cc in
    let h = ended_tokens a b w xs ys others in
    (t ∷ h.0, h.1, ap (λ (l : List ℕ). t ∷ l) h.2)

pub tokens_in : (a b : ℕ) (w : List ℕ) → IsFollowed (Token a) (Token b) (framed w) → IsFollowed a b w
tokens_in a b w ([], ys, e) = absurd cc
tokens_in a b w (x ∷ xs, ys, e) = let others : ended w ≡ xs ++ Token a ∷ (Token b ∷ ys) = cc in ended_tokens a b w xs ys others

pub tokens_framed : (a b : ℕ) (w : List ℕ) → IsFollowed a b w → IsFollowed (Token a) (Token b) (framed w)
tokens_framed a b w h = (Begin ∷ map Token h.0, ended h.1, ap framed h.2 ∙ ap (λ (l : List Mark). Begin ∷ l) (ended-append h.0 (a ∷ b ∷ h.1)))
