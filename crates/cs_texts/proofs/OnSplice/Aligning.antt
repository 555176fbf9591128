-- The rule's text, cut before and behind the lexeme of a token.
use Rattle.std.proofs.Common.{◌≡◌, ℕ, ◌+◌, ◌<◌, ◌≤◌, List, [], ◌∷◌, ◌++◌, Option, Some, refl, sym, ap, ◌∙◌, subst, arith, length, length-append, length-drop, take, drop, append_assoc, inl, inr}
use Rattle.std.specs.Prelude.{slice_index, slice_get}
use Rattle.std.specs.List.{AllZip}
use Rattle.std.proofs.lemmas.Bool.{cases_lt}
use Rattle.std.proofs.lemmas.List.{append-nil, drop-drop, drop_at, drop_more, drop_all, take_all, take-append-drop, take_at, length-take-le}
use Rattle.cs_scanner.specs.Lexeme.Lexeme.{lexeme_in}
use Rattle.cs_texts.specs.Rendering.Joined.{joined}
use Rattle.cs_texts.specs.Rendering.Rendering.{IsRuleText}
use Rattle.cs_texts.specs.declared.splice.marks.TextMark.{TextMark}
use Rattle.cs_texts.specs.Splice.Marks.{AreAlignedUpTo, IsAligned, IsDue}
use Rattle.cs_texts.proofs.OnRendering.Pieces.{at_first, at_next}

joined_append : (sep x : List ℕ) (xs : List (List ℕ)) (y : List ℕ) (ys : List (List ℕ)) → joined sep ((x ∷ xs) ++ y ∷ ys) ≡ (joined sep (x ∷ xs) ++ sep) ++ joined sep (y ∷ ys)
joined_append sep x [] y ys = refl
joined_append sep x (z ∷ xs) y ys = ap (λ r. (x ++ sep) ++ r) (joined_append sep z xs y ys) ∙ simp append_assoc

zip_append : (R : ℕ → List ℕ → Type 0) (xs vs : List ℕ) (ys ws : List (List ℕ)) → AllZip R xs ys → AllZip R vs ws → AllZip R (xs ++ vs) (ys ++ ws)
zip_append R [] vs [] ws all more = more
zip_append R [] vs (b ∷ ys) ws all more = absurd all
zip_append R (a ∷ xs) vs [] ws all more = absurd all
zip_append R (a ∷ xs) vs (b ∷ ys) ws all more = (all.0, zip_append R xs vs ys ws all.1 more)

module _ (lexemes : List (Option (List ℕ))) (sep : List ℕ) where
  abbrev Has : ℕ → List ℕ → Type 0
  Has token lexeme = lexeme_in lexemes token ≡ Some lexeme

  abbrev Rule : List ℕ → List ℕ → Type 0
  Rule tokens text = IsRuleText lexemes sep tokens text

  pub nil_text : (text : List ℕ) → Rule [] text → text ≡ []
  nil_text text rule = go rule.texts rule.each rule.is
    where
      go : (texts : List (List ℕ)) → AllZip Has [] texts → text ≡ joined sep texts → text ≡ []
      go [] all is = is
      go (x ∷ texts) all is = absurd all

  pub nil_rule : Rule [] []
  nil_rule = record { texts = []; each = tt; is = refl }

  -- two texts with a separator between them
  pub rule_join : (xs ys t u : List ℕ) → 0 < length xs → 0 < length ys → Rule xs t → Rule ys u → Rule (xs ++ ys) ((t ++ sep) ++ u)
  rule_join [] ys t u some more p q = absurd (omega (arith, some))
  rule_join (x ∷ xs) [] t u some more p q = absurd (omega (arith, more))
  rule_join (x ∷ xs) (y ∷ ys) t u some more p q = go p.texts p.each p.is q.texts q.each q.is
    where
      go : (ts : List (List ℕ)) → AllZip Has (x ∷ xs) ts → t ≡ joined sep ts → (us : List (List ℕ)) → AllZip Has (y ∷ ys) us → u ≡ joined sep us → Rule ((x ∷ xs) ++ y ∷ ys) ((t ++ sep) ++ u)
      go [] all is us also it = absurd all
      go (a ∷ ts) all is [] also it = absurd also
      go (a ∷ ts) all is (b ∷ us) also it =
          record {
            texts = (a ∷ ts) ++ b ∷ us;
            each = zip_append Has (x ∷ xs) (y ∷ ys) (a ∷ ts) (b ∷ us) all also;
            is = ap (λ r. (r ++ sep) ++ u) is ∙ ap (λ r. (joined sep (a ∷ ts) ++ sep) ++ r) it ∙ sym (joined_append sep a ts b us);
          }

  -- the text of one token is its lexeme
  pub one_text : (token : ℕ) (text lexeme : List ℕ) → Has token lexeme → Rule (token ∷ []) text → text ≡ lexeme
  one_text token text lexeme has rule = go rule.texts rule.each rule.is
    where
      go : (texts : List (List ℕ)) → AllZip Has (token ∷ []) texts → text ≡ joined sep texts → text ≡ lexeme
      go [] all is = absurd all
      go (x ∷ []) all is =
          let e = all.0 in
          let same : x ≡ lexeme = cc in
          is ∙ same
      go (x ∷ y ∷ more) all is = absurd all.1

  -- the text begins with the first token's lexeme
  pub begins : (token : ℕ) (tokens text lexeme : List ℕ) → Has token lexeme → Rule (token ∷ tokens) text → (later : List ℕ) × (text ≡ lexeme ++ later)
  begins token tokens text lexeme has rule = go rule.texts rule.each rule.is
    where
      go : (texts : List (List ℕ)) → AllZip Has (token ∷ tokens) texts → text ≡ joined sep texts → (later : List ℕ) × (text ≡ lexeme ++ later)
      go [] all is = absurd all
      go (x ∷ []) all is =
          let e = all.0 in
          let same : x ≡ lexeme = cc in
          ([], is ∙ same ∙ sym (append-nil lexeme))
      go (x ∷ y ∷ more) all is =
          let e = all.0 in
          let same : x ≡ lexeme = cc in
          (sep ++ joined sep (y ∷ more), is ∙ append_assoc x sep (joined sep (y ∷ more)) ∙ ap (λ f. f ++ (sep ++ joined sep (y ∷ more))) same)

  -- and goes on with the separator, where more tokens are behind it
  pub goes_on : (token : ℕ) (tokens text lexeme : List ℕ) → 0 < length tokens → Has token lexeme → Rule (token ∷ tokens) text → (later : List ℕ) × (text ≡ (lexeme ++ sep) ++ later) × Rule tokens later
  goes_on token [] text lexeme some has rule = absurd (omega (arith, some))
  goes_on token (u ∷ tokens) text lexeme some has rule = go rule.texts rule.each rule.is
    where
      go : (texts : List (List ℕ)) → AllZip Has (token ∷ u ∷ tokens) texts → text ≡ joined sep texts → (later : List ℕ) × (text ≡ (lexeme ++ sep) ++ later) × Rule (u ∷ tokens) later
      go [] all is = absurd all
      go (x ∷ []) all is = absurd all.1
      go (x ∷ y ∷ more) all is =
          let e = all.0 in
          let same : x ≡ lexeme = cc in
          (joined sep (y ∷ more), is ∙ ap (λ f. (f ++ sep) ++ joined sep (y ∷ more)) same, record { texts = y ∷ more; each = all.1; is = refl })

  pub due_start : (tokens text : List ℕ) → Rule tokens text → 0 < length tokens → IsDue lexemes sep tokens text 0 0
  due_start tokens text rule some =
      record {
        within = omega arith;
        takes_lexeme = λ lexeme has. at_first lexemes sep tokens [] 0 lexeme (omega arith) some has nil_rule;
        back = rule;
      }

  -- a text that goes on with some bytes
  taken : (text front later : List ℕ) (at : ℕ) → at ≤ length text → drop at text ≡ front ++ later → (take (at + length front) text ≡ take at text ++ front) × (drop (at + length front) text ≡ later)
  taken text front later at within is =
      let whole : text ≡ (take at text ++ front) ++ later = sym (take-append-drop at text) ∙ ap (λ r. take at text ++ r) is ∙ sym (append_assoc (take at text) front later) in
      let long : length (take at text ++ front) ≡ at + length front = omega (arith, length-append (take at text) front, length-take-le at text within) in (
        ap (take (at + length front)) whole ∙ take_at (take at text ++ front) later (at + length front) long,
        sym (drop-drop (length front) at text) ∙ ap (drop (length front)) is ∙ drop_at front later (length front) refl,
      )

  split : (tokens text : List ℕ) (i at : ℕ) → i < length tokens → Rule (drop i tokens) (drop at text) → Rule (slice_index tokens i ∷ drop (i + 1) tokens) (drop at text)
  split tokens text i at within rule = subst (λ t. Rule t (drop at text)) (drop_more tokens i 0 within) rule

  pub aligned_here : (tokens text lexeme : List ℕ) (i at : ℕ) (mark : TextMark) → i < length tokens → IsDue lexemes sep tokens text i at → Has (slice_index tokens i) lexeme → mark.start ≡ at → mark.end ≡ at + length lexeme → IsAligned lexemes sep tokens text i mark
  aligned_here tokens text lexeme i at mark within due has start end =
      let later = begins (slice_index tokens i) (drop (i + 1) tokens) (drop at text) lexeme has (split tokens text i at within due.back) in
      let cut = taken text lexeme later.0 at due.within later.1 in
      record {
        front = subst (λ n. Rule (take (i + 1) tokens) (take n text)) (sym end) (subst (λ t. Rule (take (i + 1) tokens) t) (sym cut.0) (due.takes_lexeme lexeme has));
        back = subst (λ n. Rule (drop i tokens) (drop n text)) (sym start) due.back;
      }

  pub due_next : (tokens text lexeme : List ℕ) (i at : ℕ) → i + 1 < length tokens → IsDue lexemes sep tokens text i at → Has (slice_index tokens i) lexeme → IsDue lexemes sep tokens text (i + 1) ((at + length lexeme) + length sep)
  due_next tokens text lexeme i at within due has =
      let some : 0 < length (drop (i + 1) tokens) = omega (arith, within, length-drop (i + 1) tokens) in
      let later = goes_on (slice_index tokens i) (drop (i + 1) tokens) (drop at text) lexeme some has (split tokens text i at (omega (arith, within)) due.back) in
      let cut = taken text (lexeme ++ sep) later.0 at due.within later.1 in
      let place : at + length (lexeme ++ sep) ≡ (at + length lexeme) + length sep = omega (arith, length-append lexeme sep) in
      let longer : length (drop at text) ≡ length (lexeme ++ sep) + length later.0 = ap length later.1 ∙ length-append (lexeme ++ sep) later.0 in
      subst (λ n. IsDue lexemes sep tokens text (i + 1) n) place (record {
        within = omega (arith, longer, length-drop at text, due.within);
        takes_lexeme = λ next also. subst (λ t. Rule (take (i + 1 + 1) tokens) (t ++ next)) (append_assoc (take at text) lexeme sep ∙ sym cut.0) (at_next lexemes sep tokens (take at text ++ lexeme) (i + 1) next (omega arith) within also (due.takes_lexeme lexeme has));
        back = subst (λ t. Rule (drop (i + 1) tokens) t) (sym cut.1) later.2;
      })

  pub aligned_more : (tokens text : List ℕ) (marks : List TextMark) (i : ℕ) (mark : TextMark) → AreAlignedUpTo lexemes sep tokens text marks i → slice_get marks i ≡ Some mark → IsAligned lexemes sep tokens text i mark → AreAlignedUpTo lexemes sep tokens text marks (i + 1)
  aligned_more tokens text marks i mark all at here k other lt there =
      elim (cases_lt k i) [
        | inl below ↦ all k other below there
        | inr above ↦
            let same : k ≡ i = omega arith in
            let found : slice_get marks i ≡ Some other = subst (λ n. slice_get marks n ≡ Some other) same there in
            let one : mark ≡ other = cc in
            subst (λ n. IsAligned lexemes sep tokens text n other) (sym same) (subst (λ m. IsAligned lexemes sep tokens text i m) one here)
      ]

  -- between a text of the tokens in front and one of those behind, a separator
  pub between : (tokens t u : List ℕ) (to : ℕ) → 0 < to → to < length tokens → Rule (take to tokens) t → Rule (drop to tokens) u → Rule tokens ((t ++ sep) ++ u)
  between tokens t u to some within p q =
      let front : length (take to tokens) ≡ to = length-take-le to tokens (omega (arith, within)) in
      subst (λ ts. Rule ts ((t ++ sep) ++ u)) (take-append-drop to tokens)
      (rule_join (take to tokens) (drop to tokens) t u (omega (arith, front, some)) (omega (arith, within, length-drop to tokens)) p q)

  -- nothing behind
  pub at_end : (tokens t u : List ℕ) (to : ℕ) → length tokens ≤ to → Rule (take to tokens) t → Rule (drop to tokens) u → Rule tokens (t ++ u)
  at_end tokens t u to all p q =
      let none : u ≡ [] = nil_text u (subst (λ ts. Rule ts u) (drop_all to tokens all) q) in
      let whole : t ++ u ≡ t = ap (λ r. t ++ r) none ∙ append-nil t in
      subst (λ r. Rule tokens r) (sym whole) (subst (λ ts. Rule ts t) (take_all to tokens all) p)

  -- nothing in front
  pub at_start : (tokens t u : List ℕ) (to : ℕ) → to ≡ 0 → Rule (take to tokens) t → Rule (drop to tokens) u → Rule tokens (t ++ u)
  at_start tokens t u to zero_is p q =
      let none : t ≡ [] = nil_text t (subst (λ n. Rule (take n tokens) t) zero_is p) in
      subst (λ r. Rule tokens (r ++ u)) (sym none) (subst (λ n. Rule (drop n tokens) u) zero_is q)
