-- The words of a text, and the text that has them.
use Rattle.std.proofs.Common.{◌≡◌, ℕ, ◌+◌, ◌-◌, Bool, true, false, not, cond, List, [], ◌∷◌, ◌++◌, length, take, drop, refl, sym, ap, ◌∙◌, subst, one-add}
use Rattle.std.specs.Prelude.{◌==◌}
use Rattle.std.specs.List.{prefix_len}
use Rattle.std.proofs.lemmas.List.{take_rest}
use Rattle.std.proofs.lemmas.Bool.{cond_both, eqb-true, and_from, not_from_false}
use Rattle.cs_lines.specs.Lines.Pieces.{onto}
use Rattle.cs_lines.specs.Lines.Splits.{in_word, split, words_behind}
use Rattle.cs_lines.specs.Lines.Texts.{joined}
use Rattle.cs_lines.proofs.OnTexts.Words.{free, AreFree, first_word, not_alone}

-- ---- a text has a word at least

pub record HasWord (ws : List (List ℕ)) : Type 0 where
  pub word : List ℕ
  pub others : List (List ℕ)
  pub is : ws ≡ word ∷ others

onto_some : (b : ℕ) (ws : List (List ℕ)) → HasWord (onto b ws)
onto_some b [] = record { word = b ∷ []; others = []; is = refl }
onto_some b (w ∷ ws) = record { word = b ∷ w; others = ws; is = refl }

pub split_some : (text : List ℕ) → HasWord (split text)
split_some [] = record { word = []; others = []; is = refl }
split_some (b ∷ text) =
    cond_both (b == 32) ([] ∷ split text) (onto b (split text)) HasWord
    (λ space. record { word = []; others = split text; is = refl })
    (λ other. onto_some b (split text))

pub split_not_none : (text : List ℕ) → split text ≡ [] → ⊥
split_not_none text e = let some = split_some text in let both : [] ≡ some.word ∷ some.others = sym e ∙ some.is in absurd cc

-- ---- the words of a text are joined to it

joined_next : (ws : List (List ℕ)) → HasWord ws → joined ([] ∷ ws) ≡ 32 ∷ joined ws
joined_next [] some = absurd (let both : [] ≡ some.word ∷ some.others = some.is in absurd cc)
joined_next (w ∷ ws) some = refl

joined_onto : (b : ℕ) (ws : List (List ℕ)) → HasWord ws → joined (onto b ws) ≡ b ∷ joined ws
joined_onto b [] some = absurd (let both : [] ≡ some.word ∷ some.others = some.is in absurd cc)
joined_onto b (w ∷ []) some = refl
joined_onto b (w ∷ v ∷ ws) some = refl

pub joined_split : (text : List ℕ) → joined (split text) ≡ text
joined_split [] = refl
joined_split (b ∷ text) =
    cond_both (b == 32) ([] ∷ split text) (onto b (split text)) (λ (ws : List (List ℕ)). joined ws ≡ b ∷ text)
    (λ is. joined_next (split text) (split_some text) ∙ ap (λ (t : List ℕ). 32 ∷ t) (joined_split text) ∙ ap (λ x. x ∷ text) (sym (eqb-true b 32 is)))
    (λ is. joined_onto b (split text) (split_some text) ∙ ap (λ (t : List ℕ). b ∷ t) (joined_split text))

-- ---- its words have no spaces

onto_free : (b : ℕ) (ws : List (List ℕ)) → (b == 32) ≡ false → AreFree ws → AreFree (onto b ws)
onto_free b [] is f = (and_from (not (b == 32)) true (not_from_false (b == 32) is) refl, tt)
onto_free b (w ∷ ws) is f = (and_from (not (b == 32)) (free w) (not_from_false (b == 32) is) f.0, f.1)

pub split_free : (text : List ℕ) → AreFree (split text)
split_free [] = (refl, tt)
split_free (b ∷ text) =
    cond_both (b == 32) ([] ∷ split text) (onto b (split text)) AreFree
    (λ is. (refl, split_free text))
    (λ is. onto_free b (split text) is (split_free text))

pub behind_free : (text : List ℕ) → AreFree (words_behind text)
behind_free [] = tt
behind_free (b ∷ text) = cond_both (b == 32) (split text) [] AreFree (λ is. split_free text) (λ is. tt)

-- ---- the first word, and what stands behind it

-- the first n bytes are the first word
abbrev IsFirst : List ℕ → ℕ → Type 0
IsFirst text n = split text ≡ take n text ∷ words_behind (drop n text)

first_more : (b n : ℕ) (text : List ℕ) → (b == 32) ≡ false → IsFirst text n → onto b (split text) ≡ take (1 + n) (b ∷ text) ∷ words_behind (drop (1 + n) (b ∷ text))
first_more b n text is first = rw one-add (ap (onto b) first)

space_first : (b : ℕ) (text : List ℕ) → (b == 32) ≡ true → [] ∷ split text ≡ [] ∷ words_behind (b ∷ text)
space_first b text is = rw is refl

first_at : (b : ℕ) (text : List ℕ) (t : Bool) → (b == 32) ≡ t → IsFirst text (prefix_len in_word text) → cond t ([] ∷ split text) (onto b (split text)) ≡ take (cond (not t) (1 + prefix_len in_word text) 0) (b ∷ text) ∷ words_behind (drop (cond (not t) (1 + prefix_len in_word text) 0) (b ∷ text))
first_at b text true is first = space_first b text is
first_at b text false is first = first_more b (prefix_len in_word text) text is first

pub split_first : (text : List ℕ) → split text ≡ take (prefix_len in_word text) text ∷ words_behind (drop (prefix_len in_word text) text)
split_first [] = refl
split_first (b ∷ text) = first_at b text (b == 32) refl (split_first text)

pub split_at : (text : List ℕ) (size : ℕ) → size ≡ prefix_len in_word text → split text ≡ take size text ∷ words_behind (take (length text - size) (drop size text))
split_at text size is =
    subst (λ n. split text ≡ take n text ∷ words_behind (drop n text)) (sym is) (split_first text)
    ∙ ap (λ (rest : List ℕ). take size text ∷ words_behind rest) (sym (take_rest text size))

-- ---- words that begin as others do

-- a first word, and others behind it
pub record Behind (word : List ℕ) (rest : List ℕ) (v : List ℕ) (ws : List (List ℕ)) : Type 0 where
  pub same : v ≡ word
  pub some : ws ≡ [] → ⊥
  pub behind : joined ws ≡ rest

pub next_word : (word rest v : List ℕ) (ws : List (List ℕ)) → AreFree (v ∷ ws) → free word ≡ true → joined (v ∷ ws) ≡ word ++ 32 ∷ rest → Behind word rest v ws
next_word word rest v [] f g e = absurd (not_alone v word rest f.0 e)
next_word word rest v (w ∷ ws) f g e =
    let parts = first_word v word (joined (w ∷ ws)) rest f.0 g e in
    record { same = parts.0; some = λ none. absurd cc; behind = parts.1 }

-- the first bytes of what is joined
abbrev pub tail : List (List ℕ) → List ℕ
tail [] = []
tail (w ∷ ws) = 32 ∷ joined (w ∷ ws)

append_none : (w : List ℕ) → w ≡ w ++ []
append_none [] = refl
append_none (b ∷ w) = ap (λ (l : List ℕ). b ∷ l) (append_none w)

pub joined_tail : (w : List ℕ) (ws : List (List ℕ)) → joined (w ∷ ws) ≡ w ++ tail ws
joined_tail w [] = append_none w
joined_tail w (v ∷ ws) = refl
