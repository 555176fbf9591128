-- Units of a pattern's text.
use Rattle.std.proofs.Common.{◌≡◌, ℕ, ◌+◌, ◌≤◌, Bool, true, false, eqb, List, [], ◌∷◌, length, drop, refl, sym, ap, subst, ◌∙◌, arith, IsTrue}
use Rattle.std.proofs.lemmas.Bool.{false≢true, eqb-true}
use Rattle.std.proofs.lemmas.List.{length-drop}
use Rattle.std.proofs.lemmas.List.Sums.{prefix_len-le-length}
use Rattle.cs_bytes.specs.Classes.{is_inner}
use Rattle.cs_bytes.specs.Places.{begins_with}
use Rattle.cs_bytes.proofs.Fronts.{and_true}
use Rattle.cs_lex.specs.Layout.Steps.{Walk, Spans, Covers, HasSize}
use Rattle.cs_bytes.specs.Places.{front}
use Rattle.cs_lex.specs.Layout.Patterns.{quoted_unit_size, member_size, opens_part, part_len, IsQuotedText, IsBracket, opening_size}
use Rattle.cs_lex.proofs.OnLayout.Walks.{sized_same}

pub front_within : (p : ℕ → Bool) (text : List ℕ) → front p text ≡ true → 1 ≤ length text
front_within p [] e = absurd (false≢true e)
front_within p (b ∷ text) e = omega arith

pub opens_part_within : (text : List ℕ) → opens_part text ≡ true → 2 ≤ length text
opens_part_within [] e = absurd (false≢true e)
opens_part_within (b ∷ []) e = absurd (false≢true ((and_true (eqb b 91) false e).1))
opens_part_within (b ∷ c ∷ text) e = omega arith

-- the end of what may stand in a named part lies behind the part's mark
pub part_within : (text : List ℕ) → opens_part text ≡ true → part_len text + 2 ≤ length text
part_within text e = omega (arith, opens_part_within text e, prefix_len-le-length is_inner (drop 2 text), length-drop 2 text)

-- the byte in front ends a quoted text
pub quote_none : (text : List ℕ) → begins_with 34 text ≡ true → quoted_unit_size text ≡ 0
quote_none [] e = absurd (false≢true e)
quote_none (b ∷ text) e = let is : b ≡ 34 = eqb-true b 34 e in rw is refl

-- the byte in front ends a bracket
pub bracket_none : (text : List ℕ) → begins_with 93 text ≡ true → member_size text ≡ 0
bracket_none [] e = absurd (false≢true e)
bracket_none (b ∷ text) e = let is : b ≡ 93 = eqb-true b 93 e in rw is refl

module _ (text rest : List ℕ) (inside : ℕ) (opened : IsTrue (begins_with 34 text)) (is : rest ≡ drop 1 text) (units : Walk (Spans (HasSize quoted_unit_size) rest) 0 inside) where
  pub quoted_is : begins_with 34 (drop inside rest) ≡ true → IsQuotedText text (inside + 2)
  quoted_is e = record {
    inside = inside;
    opened = opened;
    closed = subst (λ (t : List ℕ). Covers (HasSize quoted_unit_size) (λ r. IsTrue (begins_with 34 r)) t inside) is (record { units = units; rest = e });
    ends = refl;
  }

  pub no_quoted : quoted_unit_size (drop inside rest) ≡ 0 → begins_with 34 (drop inside rest) ≡ false → (n : ℕ) → ¬ IsQuotedText text n
  no_quoted none e n q =
      let c : Covers (HasSize quoted_unit_size) (λ r. IsTrue (begins_with 34 r)) rest q.inside = subst (λ (t : List ℕ). Covers (HasSize quoted_unit_size) (λ r. IsTrue (begins_with 34 r)) t q.inside) (sym is) q.closed in
      let same : q.inside ≡ inside = sized_same quoted_unit_size rest q.inside inside c.units (quote_none (drop q.inside rest) c.rest) units none in
      let there : begins_with 34 (drop q.inside rest) ≡ true = c.rest in
      false≢true (sym e ∙ subst (λ (k : ℕ). begins_with 34 (drop k rest) ≡ true) same there)

module _ (text rest : List ℕ) (opening inside : ℕ) (opened : IsTrue (begins_with 91 text)) (size : opening ≡ opening_size text) (is : rest ≡ drop opening text) (units : Walk (Spans (HasSize member_size) rest) 0 inside) where
  rest_is : rest ≡ drop (opening_size text) text
  rest_is = is ∙ ap (λ (k : ℕ). drop k text) size

  pub bracket_is : begins_with 93 (drop inside rest) ≡ true → IsBracket text (opening + inside + 1)
  bracket_is e = record {
    inside = inside;
    opened = opened;
    closed = subst (λ (t : List ℕ). Covers (HasSize member_size) (λ r. IsTrue (begins_with 93 r)) t inside) rest_is (record { units = units; rest = e });
    ends = ap (λ (k : ℕ). k + inside + 1) size;
  }

  pub no_bracket : member_size (drop inside rest) ≡ 0 → begins_with 93 (drop inside rest) ≡ false → (n : ℕ) → ¬ IsBracket text n
  no_bracket none e n q =
      let c : Covers (HasSize member_size) (λ r. IsTrue (begins_with 93 r)) rest q.inside = subst (λ (t : List ℕ). Covers (HasSize member_size) (λ r. IsTrue (begins_with 93 r)) t q.inside) (sym rest_is) q.closed in
      let same : q.inside ≡ inside = sized_same member_size rest q.inside inside c.units (bracket_none (drop q.inside rest) c.rest) units none in
      let there : begins_with 93 (drop q.inside rest) ≡ true = c.rest in
      false≢true (sym e ∙ subst (λ (k : ℕ). begins_with 93 (drop k rest) ≡ true) same there)

pub quoted_same : (text : List ℕ) (n m : ℕ) → IsQuotedText text n → IsQuotedText text m → n ≡ m
quoted_same text n m x y =
    omega (arith, x.ends, y.ends, sized_same quoted_unit_size (drop 1 text) x.inside y.inside x.closed.units (quote_none (drop x.inside (drop 1 text)) x.closed.rest) y.closed.units (quote_none (drop y.inside (drop 1 text)) y.closed.rest))

pub bracket_same : (text : List ℕ) (n m : ℕ) → IsBracket text n → IsBracket text m → n ≡ m
bracket_same text n m x y =
    omega (arith, x.ends, y.ends, sized_same member_size (drop (opening_size text) text) x.inside y.inside x.closed.units (bracket_none (drop x.inside (drop (opening_size text) text)) x.closed.rest) y.closed.units (bracket_none (drop y.inside (drop (opening_size text) text)) y.closed.rest))
