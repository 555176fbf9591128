-- Leftmost derivations, one behind another and one beside another.
use Rattle.std.proofs.Common.{◌≡◌, ℕ, ◌+◌, ◌<◌, List, [], ◌∷◌, ◌++◌, map, reverse, take, length, get_or, sym, ap, ◌∙◌, subst, append_assoc}
use Rattle.std.proofs.lemmas.List.{map-append, take_more}
use Rattle.cs_grammar.specs.declared.symbol.Symbol.{Symbol}
use Rattle.cs_grammar.specs.declared.symbol.Symbol.TheVariants.{Token, Nonterminal}
use Rattle.cs_grammar.specs.Grammar.{Production, PlainGrammar, IsRule}
use Rattle.cs_grammar.specs.Leftmost.{Derives, form, from_start, IsYield}
use Rattle.cs_grammar.proofs.Leading.{IsYield-derives}
use Rattle.cs_chain_text.specs.Rows.Around.{AreTokensAround, AreTokensIn}

module _ (g : PlainGrammar) where
  pub derives_then : (rules more : List ℕ) (xs ys zs : List Symbol) → Derives g xs rules ys → Derives g ys more zs → Derives g xs (rules ++ more) zs
  derives_then [] more xs ys zs h k = subst (λ (l : List Symbol). Derives g l more zs) (sym h) k
  derives_then (r ∷ rules) more xs ys zs h k =
      (h.0, h.1, h.2, h.3, h.4, derives_then rules more (map Token h.1 ++ (h.0.right ++ h.2)) ys zs h.5 k)

  -- with more symbols behind
  derives_beside : (rules : List ℕ) (xs ys zs : List Symbol) → Derives g xs rules ys → Derives g (xs ++ zs) rules (ys ++ zs)
  derives_beside [] xs ys zs h = ap (λ (l : List Symbol). l ++ zs) h
  derives_beside (r ∷ rules) xs ys zs h =
      let p = h.0 in
      let done = h.1 in
      let rest = h.2 in
      let here : xs ++ zs ≡ form done p.left (rest ++ zs) = ap (λ (l : List Symbol). l ++ zs) h.4 ∙ append_assoc (map Token done) (Nonterminal p.left ∷ rest) zs in
      let same : (map Token done ++ (p.right ++ rest)) ++ zs ≡ map Token done ++ (p.right ++ (rest ++ zs)) = simp append_assoc in
      (p, done, rest ++ zs, h.3, here, subst (λ (l : List Symbol). Derives g l rules (ys ++ zs)) same (derives_beside rules (map Token done ++ (p.right ++ rest)) ys zs h.5))

  -- with tokens in front
  derives_behind : (rules ts : List ℕ) (xs ys : List Symbol) → Derives g xs rules ys → Derives g (map Token ts ++ xs) rules (map Token ts ++ ys)
  derives_behind [] ts xs ys h = ap (λ (l : List Symbol). map Token ts ++ l) h
  derives_behind (r ∷ rules) ts xs ys h =
      let p = h.0 in
      let done = h.1 in
      let rest = h.2 in
      let front : map Token (ts ++ done) ≡ map Token ts ++ map Token done = map-append Token ts done in
      let here : map Token ts ++ xs ≡ form (ts ++ done) p.left rest =
      ap (λ (l : List Symbol). map Token ts ++ l) h.4 ∙ sym (append_assoc (map Token ts) (map Token done) (Nonterminal p.left ∷ rest))
      ∙ ap (λ (l : List Symbol). l ++ Nonterminal p.left ∷ rest) (sym front) in
      let same : map Token ts ++ (map Token done ++ (p.right ++ rest)) ≡ map Token (ts ++ done) ++ (p.right ++ rest) =
      sym (append_assoc (map Token ts) (map Token done) (p.right ++ rest)) ∙ ap (λ (l : List Symbol). l ++ (p.right ++ rest)) (sym front) in
      (p, ts ++ done, rest, h.3, here, subst (λ (l : List Symbol). Derives g l rules (map Token ts ++ ys)) same (derives_behind rules ts (map Token done ++ (p.right ++ rest)) ys h.5))

  -- the three parts together are the yield
  pub yield_around : (before code behind : List ℕ) (left : ℕ) (first tokens last : List ℕ) → AreTokensAround g before behind left first last → AreTokensIn g left code tokens → IsYield g (before ++ code ++ behind) (first ++ tokens ++ last)
  yield_around before code behind left first tokens last around inside =
      let rest = around.rest in
      let middle : Derives g (form first left rest) code (map Token first ++ (map Token tokens ++ rest)) =
      derives_behind code first (Nonterminal left ∷ rest) (map Token tokens ++ rest) (derives_beside code (Nonterminal left ∷ []) (map Token tokens) rest inside) in
      let end : Derives g (map Token first ++ (map Token tokens ++ rest)) behind (map Token first ++ (map Token tokens ++ map Token last)) =
      derives_behind behind first (map Token tokens ++ rest) (map Token tokens ++ map Token last) (derives_behind behind tokens rest (map Token last) around.ends) in
      let front : Derives g (from_start g) (before ++ code) (map Token first ++ (map Token tokens ++ rest)) =
      derives_then before code (from_start g) (form first left rest) (map Token first ++ (map Token tokens ++ rest)) around.leads middle in
      let all = derives_then (before ++ code) behind (from_start g) (map Token first ++ (map Token tokens ++ rest)) (map Token first ++ (map Token tokens ++ map Token last)) front end in
      let same : map Token first ++ (map Token tokens ++ map Token last) ≡ map Token (first ++ tokens ++ last) =
      sym (append_assoc (map Token first) (map Token tokens) (map Token last))
      ∙ ap (λ (l : List Symbol). l ++ map Token last) (sym (map-append Token first tokens)) ∙ sym (map-append Token (first ++ tokens) last) in
      IsYield-derives g (before ++ code ++ behind) (first ++ tokens ++ last) (subst (Derives g (from_start g) (before ++ code ++ behind)) same all)

  -- one step
  pub put_one : (number : ℕ) (p : Production) (xs : List Symbol) (done : List ℕ) (left : ℕ) (rest new : List Symbol) → IsRule g number p → p.left ≡ left → xs ≡ form done left rest → new ≡ p.right ++ rest → Derives g xs (number ∷ []) (map Token done ++ new)
  put_one number p xs done left rest new rule is_left e behind =
      (p, done, rest, rule, e ∙ ap (λ n. form done n rest) (sym is_left), ap (λ (l : List Symbol). map Token done ++ l) (sym behind))

  -- one step more
  pub put_more : (rules : List ℕ) (i d : ℕ) (xs ys zs : List Symbol) → i < length rules → Derives g xs (take i rules) ys → Derives g ys (get_or rules i d ∷ []) zs → Derives g xs (take (i + 1) rules) zs
  put_more rules i d xs ys zs within so_far more =
      subst (λ (l : List ℕ). Derives g xs l zs) (sym (take_more rules i d within)) (derives_then (take i rules) (get_or rules i d ∷ []) xs ys zs so_far more)

  -- what the rule numbers before the node and behind it led to
  pub around_is : (before behind : List ℕ) (left : ℕ) (first last : List ℕ) (start mid rest again end : List Symbol) → start ≡ from_start g → Derives g start before mid → mid ≡ form first left rest
      → again ≡ rest → Derives g again behind end → end ≡ map Token last → AreTokensAround g before behind left first last
  around_is before behind left first last start mid rest again end is leads settled same ends all = record {
    rest = rest;
    leads = subst (λ (l : List Symbol). Derives g l before (form first left rest)) is (subst (Derives g start before) settled leads);
    ends = subst (λ (l : List Symbol). Derives g l behind (map Token last)) same (subst (Derives g again behind) all ends);
  }

  -- what the code of a node led to
  pub inside_is : (left : ℕ) (code tokens : List ℕ) (start end : List Symbol) → start ≡ Nonterminal left ∷ [] → Derives g start code end → end ≡ map Token tokens → AreTokensIn g left code tokens
  inside_is left code tokens start end is leads all =
      subst (λ (l : List Symbol). Derives g l code (map Token tokens)) is (subst (Derives g start code) all leads)

-- nothing done, and one nonterminal open
pub opened : (n : ℕ) (first : List ℕ) (old new : List Symbol) → first ≡ [] → old ≡ [] → new ≡ old ++ Nonterminal n ∷ [] → map Token first ++ reverse new ≡ Nonterminal n ∷ []
opened n first old new none empty pushed =
    ap (λ (ts : List ℕ). map Token ts ++ reverse new) none ∙ ap (λ (l : List Symbol). reverse l) (pushed ∙ ap (λ (l : List Symbol). l ++ Nonterminal n ∷ []) empty)
