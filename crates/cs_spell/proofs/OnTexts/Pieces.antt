-- Texts from pieces, one piece after another.
use Rattle.std.proofs.Common.{◌≡◌, ℕ, zero, suc, ◌+◌, ◌<◌, ◌≤◌, List, [], ◌∷◌, ◌++◌, Option, Some, Bor, refl, sym, ap, ◌∙◌, subst, arith, length, take, get_or, append_assoc}
use Rattle.std.specs.Prelude.{All, slice_index, slice_set}
use Rattle.std.specs.List.{AllZip, flat_map}
use Rattle.std.proofs.lemmas.Grind.{flat_map-append}
use Rattle.std.proofs.lemmas.List.Elements.{All-cons, All-nil}
use Rattle.std.proofs.lemmas.List.{append-nil, length-map, map-append, map-set, set_past, take_more}
use Rattle.cs_scanner.specs.Lexeme.Lexeme.{lexeme_in}
use Rattle.cs_spell.specs.Texts.Pieces.{AreLexemesOf, followed, values}
use Rattle.cs_texts.specs.Rendering.Joined.{joined}
use Rattle.cs_texts.specs.Rendering.Rendering.{HasLexeme}

-- ---- what references point to

pub values_pushed : (ps : List (Bor (List ℕ))) (p : Bor (List ℕ)) → values (ps ++ p ∷ []) ≡ values ps ++ p.now ∷ []
values_pushed ps p = map-append (λ (b : Bor (List ℕ)). b.now) ps (p ∷ [])

pub value_at : (ps : List (Bor (List ℕ))) (i : ℕ) (d : Bor (List ℕ)) → i < length ps → get_or (values ps) i [] ≡ (get_or ps i d).now
value_at [] i d less = absurd (omega (arith, less))
value_at (p ∷ ps) zero d less = refl
value_at (p ∷ ps) (suc i) d less = value_at ps i d (omega (arith, less))

pub values_set : (ps : List (Bor (List ℕ))) (place : ℕ) (p : Bor (List ℕ)) → values (slice_set ps place p) ≡ slice_set (values ps) place p.now
values_set ps place p = map-set (λ (b : Bor (List ℕ)). b.now) ps place p

pub values_past : (ps : List (Bor (List ℕ))) (place : ℕ) (x : List ℕ) → length ps ≤ place → values ps ≡ slice_set (values ps) place x
values_past ps place x most = sym (set_past (values ps) place x (omega (arith, most, length-map ps (λ (b : Bor (List ℕ)). b.now))))

-- ---- joined

joined_pushed : (sep x : List ℕ) (xs : List (List ℕ)) (t : List ℕ) → joined sep ((x ∷ xs) ++ t ∷ []) ≡ (joined sep (x ∷ xs) ++ sep) ++ t
joined_pushed sep x [] t = refl
joined_pushed sep x (y ∷ ys) t = ap (λ r. (x ++ sep) ++ r) (joined_pushed sep y ys t) ∙ simp append_assoc

pub join_first : (sep : List ℕ) (xs : List (List ℕ)) (i : ℕ) → i ≤ 0 → i < length xs → joined sep (take (i + 1) xs) ≡ joined sep (take i xs) ++ get_or xs i []
join_first sep [] i none less = absurd (omega (arith, less))
join_first sep (x ∷ xs) zero none less = refl
join_first sep (x ∷ xs) (suc i) none less = absurd (omega (arith, none))

pub join_next : (sep : List ℕ) (xs : List (List ℕ)) (i : ℕ) → 0 < i → i < length xs → joined sep (take (i + 1) xs) ≡ (joined sep (take i xs) ++ sep) ++ get_or xs i []
join_next sep [] i some less = absurd (omega (arith, less))
join_next sep (x ∷ xs) zero some less = absurd (omega (arith, some))
join_next sep (x ∷ xs) (suc i) some less =
    ap (joined sep) (take_more (x ∷ xs) (suc i) [] less) ∙ joined_pushed sep x (take i xs) (get_or xs i [])

-- ---- each with the spelling behind it

pub follow_more : (spelling : List ℕ) (xs : List (List ℕ)) (i : ℕ) → i < length xs → followed spelling (take (i + 1) xs) ≡ (followed spelling (take i xs) ++ get_or xs i []) ++ spelling
follow_more spelling xs i less =
    let f : List ℕ → List ℕ = λ text. text ++ spelling in
    ap (flat_map f) (take_more xs i [] less)
    ∙ flat_map-append f (take i xs) (get_or xs i [] ∷ [])
    ∙ ap (λ (t : List ℕ). flat_map f (take i xs) ++ t) (append-nil (get_or xs i [] ++ spelling))
    ∙ sym (append_assoc (flat_map f (take i xs)) (get_or xs i []) spelling)

pub follow_step : (spelling : List ℕ) (xs : List (List ℕ)) (i : ℕ) (text piece : List ℕ) → i < length xs → text ≡ spelling ++ followed spelling (take i xs) → get_or xs i [] ≡ piece → (text ++ piece) ++ spelling ≡ spelling ++ followed spelling (take (i + 1) xs)
follow_step spelling xs i text piece less before is =
    let f = followed spelling (take i xs) in
    let g = get_or xs i [] in
    let parts : ((spelling ++ f) ++ g) ++ spelling ≡ spelling ++ ((f ++ g) ++ spelling) = simp append_assoc in
    ap (λ (t : List ℕ). (t ++ piece) ++ spelling) before ∙ ap (λ (t : List ℕ). ((spelling ++ f) ++ t) ++ spelling) (sym is) ∙ parts
    ∙ ap (λ (t : List ℕ). spelling ++ t) (sym (follow_more spelling xs i less))

-- ---- lexemes

zip_pushed : (R : ℕ → List ℕ → Type 0) (xs : List ℕ) (ys : List (List ℕ)) (x : ℕ) (y : List ℕ) → AllZip R xs ys → R x y → AllZip R (xs ++ x ∷ []) (ys ++ y ∷ [])
zip_pushed R [] [] x y all r = (r, tt)
zip_pushed R [] (b ∷ ys) x y all r = absurd all
zip_pushed R (a ∷ xs) [] x y all r = absurd all
zip_pushed R (a ∷ xs) (b ∷ ys) x y all r = (all.0, zip_pushed R xs ys x y all.1 r)

pub have_front : (lexemes : List (Option (List ℕ))) (tokens : List ℕ) (texts : List (List ℕ)) → AreLexemesOf lexemes tokens texts → All (HasLexeme lexemes) tokens
have_front lexemes [] [] all = All-nil (HasLexeme lexemes)
have_front lexemes [] (y ∷ texts) all = absurd all
have_front lexemes (t ∷ tokens) [] all = absurd all
have_front lexemes (t ∷ tokens) (y ∷ texts) all = All-cons (HasLexeme lexemes) t tokens (y, all.0) (have_front lexemes tokens texts all.1)

pub lexemes_more : (lexemes : List (Option (List ℕ))) (tokens : List ℕ) (ps : List (Bor (List ℕ))) (p : Bor (List ℕ)) (i : ℕ) → i < length tokens → lexeme_in lexemes (slice_index tokens i) ≡ Some p.now → AreLexemesOf lexemes (take i tokens) (values ps) → AreLexemesOf lexemes (take (i + 1) tokens) (values (ps ++ p ∷ []))
lexemes_more lexemes tokens ps p i less has all =
    let R : ℕ → List ℕ → Type 0 = λ token lexeme. lexeme_in lexemes token ≡ Some lexeme in
    let more = zip_pushed R (take i tokens) (values ps) (slice_index tokens i) p.now all has in
    subst (λ (t : List (List ℕ)). AllZip R (take (i + 1) tokens) t) (sym (values_pushed ps p)) (subst (λ (t : List ℕ). AllZip R t (values ps ++ p.now ∷ [])) (sym (take_more tokens i 0 less)) more)
