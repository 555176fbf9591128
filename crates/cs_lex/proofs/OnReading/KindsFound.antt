-- The kinds of rules, as the code finds them.
use Rattle.std.proofs.Common.{◌≡◌, ℕ, suc, ◌+◌, ◌<◌, ◌≤◌, Option, Some, None, List, [], ◌∷◌, ◌++◌, length, take, drop, get_or, ◌⊎◌, inl, inr, refl, sym, ap, subst, ◌∙◌, arith}
use Rattle.std.specs.Prelude.{IfSome, IfNone, reverse}
use Rattle.std.proofs.lemmas.List.{reverse-append, take-append-drop, drop_all, length-drop}
use Rattle.std.proofs.lemmas.Bool.{cases_lt}
use Rattle.std.proofs.Math.Seq.{drop-cons, drop-length}
use Rattle.cs_lex.specs.Reading.Reading.{EndsWithKind}
use Rattle.cs_lex.proofs.OnReading.LastRules.{last_same}
use Rattle.cs_pattern_parts.specs.declared.kind.Kind.{Kind}
use Rattle.cs_yacc.specs.declared.reading.name.TokenName.{TokenName}
use Rattle.cs_yacc.specs.Reading.File as tokens
use Rattle.cs_yacc.specs.Reading.File.{IsNamed, NoneNamed}
use Rattle.cs_lex.specs.Actions.Kinds.{IsKind}
use Rattle.cs_lex.specs.declared.layout.parts.Rule.{Rule}
use Rattle.cs_lex.specs.Reading.Found.{GivesNamed, GivesOver}
use Rattle.cs_lex.specs.Reading.Kinds.{action_of, IsBarRule, HaveKinds}
use Rattle.cs_lex.specs.Reading.Tokens.{GivesName, in_use, not_in_use}

pub given_name : (file : tokens.File) (name : TokenName) (token : Option ℕ) (kind : Kind) → IfSome token (λ t. IsNamed file.token_names t name)
    → IfNone token (NoneNamed file.token_names name) → GivesNamed token kind → GivesName file name kind
given_name file name (Some t) kind found none is = in_use t found is
given_name file name None kind found none is = not_in_use none is

-- the rule behind which no rule stands
first_kinds : (file : tokens.File) (bytes : List ℕ) (r : Rule) (next kind : Kind) → GivesOver file bytes r next kind → ¬ IsBarRule bytes r → HaveKinds file bytes (r ∷ []) (kind ∷ [])
first_kinds file bytes r next kind h no_bar =
    (record { action = h.action; is_kind = h.is_kind; gives = h.alone (λ e. no_bar (subst (IsKind (action_of bytes r)) e h.is_kind)) }, refl)

more_kinds : (file : tokens.File) (bytes : List ℕ) (r : Rule) (rs : List Rule) (next kind : Kind) (ks : List Kind) → GivesOver file bytes r next kind → HaveKinds file bytes rs (next ∷ ks) → HaveKinds file bytes (r ∷ rs) (kind ∷ next ∷ ks)
more_kinds file bytes r rs next kind ks h rest = (record { action = h.action; is_kind = h.is_kind; gives = h.over ks }, rest)

-- The rules from the place on have kinds, which were found from the last to the first, and the next kind is the first of these.
pub record KindsFrom (file : tokens.File) (bytes : List ℕ) (rs : List Rule) (at : ℕ) (next : Kind) (found : List Kind) : Type 0 where
  pub have : HaveKinds file bytes (drop at rs) (reverse found)
  pub first : at < length rs → (ks : List Kind) × (reverse found ≡ next ∷ ks)

pub kinds_start : (file : tokens.File) (bytes : List ℕ) (rs : List Rule) (next : Kind) (found : List Kind) → found ≡ [] → KindsFrom file bytes rs (length rs) next found
kinds_start file bytes rs next found e = record {
  have = rw (e, drop-length rs) refl;
  first = λ lt. absurd (omega arith);
}

last_there : (bytes : List ℕ) (rs : List Rule) (at : ℕ) (r : Rule) → EndsWithKind bytes rs → suc at ≡ length rs → drop at rs ≡ r ∷ [] → ¬ IsBarRule bytes r
last_there bytes rs at r h len e b = h.2 (subst (λ (q : Rule). IsBarRule bytes q) (last_same (take at rs) h.1.0 r h.0 (all ∙ h.1.1)) b)
  where
    all : take at rs ++ r ∷ [] ≡ rs
    all = ap (λ (xs : List Rule). take at rs ++ xs) (sym e) ∙ take-append-drop at rs

no_kinds : (file : tokens.File) (bytes : List ℕ) (rs : List Rule) (ks : List Kind) → rs ≡ [] → HaveKinds file bytes rs ks → ks ≡ []
no_kinds file bytes [] ks e h = h
no_kinds file bytes (r ∷ rs) ks e h = absurd cc

pub kinds_more : (file : tokens.File) (bytes : List ℕ) (rs : List Rule) (at : ℕ) (r : Rule) (next kind : Kind) (found more : List Kind) → EndsWithKind bytes rs → at < length rs → r ≡ get_or rs at r
    → KindsFrom file bytes rs (at + 1) next found → GivesOver file bytes r next kind → more ≡ found ++ kind ∷ [] → KindsFrom file bytes rs at kind more
kinds_more file bytes rs at r next kind found more ends lt is h g e = record {
  have = subst (λ (ks : List Kind). HaveKinds file bytes (drop at rs) ks) (sym turned) (subst (λ (xs : List Rule). HaveKinds file bytes xs (kind ∷ reverse found)) (sym here) (by_order (cases_lt (at + 1) (length rs))));
  first = λ l. (reverse found, turned);
}
  where
    turned : reverse more ≡ kind ∷ reverse found
    turned = ap reverse e ∙ reverse-append found (kind ∷ [])

    here : drop at rs ≡ r ∷ drop (at + 1) rs
    here =
        let one : suc at ≡ at + 1 = omega arith in
        drop-cons rs at r lt ∙ (ap (λ (x : Rule). x ∷ drop (suc at) rs) (sym is) ∙ ap (λ (k : ℕ). r ∷ drop k rs) one)

    behind : (ks : List Kind) → reverse found ≡ next ∷ ks → HaveKinds file bytes (r ∷ drop (at + 1) rs) (kind ∷ reverse found)
    behind ks f =
        subst (λ (xs : List Kind). HaveKinds file bytes (r ∷ drop (at + 1) rs) (kind ∷ xs)) (sym f)
        (more_kinds file bytes r (drop (at + 1) rs) next kind ks g (subst (λ (xs : List Kind). HaveKinds file bytes (drop (at + 1) rs) xs) f h.have))

    none : drop (at + 1) rs ≡ [] → HaveKinds file bytes (r ∷ drop (at + 1) rs) (kind ∷ reverse found)
    none f =
        let empty : reverse found ≡ [] = no_kinds file bytes (drop (at + 1) rs) (reverse found) f h.have in
        subst (λ (xs : List Rule). HaveKinds file bytes (r ∷ xs) (kind ∷ reverse found)) (sym f)
        (subst (λ (ks : List Kind). HaveKinds file bytes (r ∷ []) (kind ∷ ks)) (sym empty)
        (first_kinds file bytes r next kind g (last_there bytes rs at r ends (omega (arith, ends_at f)) (here ∙ ap (λ (xs : List Rule). r ∷ xs) f))))
      where
        ends_at : drop (at + 1) rs ≡ [] → length rs ≤ at + 1
        ends_at e = omega (arith, ap length e, length-drop (at + 1) rs)

    by_order : (at + 1 < length rs) ⊎ (length rs ≤ at + 1) → HaveKinds file bytes (r ∷ drop (at + 1) rs) (kind ∷ reverse found)
    by_order (inl more_rules) = let f = h.first more_rules in behind f.0 f.1
    by_order (inr last) = none (drop_all (at + 1) rs last)

pub kinds_end : (file : tokens.File) (bytes : List ℕ) (rs : List Rule) (next : Kind) (found kinds : List Kind) → KindsFrom file bytes rs 0 next found → kinds ≡ reverse found → HaveKinds file bytes rs kinds
kinds_end file bytes rs next found kinds h e = subst (λ (ks : List Kind). HaveKinds file bytes rs ks) (sym e) h.have
