-- Tokens by their names.
use Rattle.std.proofs.Common.{◌≡◌, ℕ, ◌-◌, ◌<◌, ◌≤◌, List, [], ◌∷◌, length, get_or, map, sym, ap, subst, ◌∙◌, ◌⊎◌, inl, inr, arith, length-append}
use Rattle.std.specs.Prelude.{All}
use Rattle.std.proofs.lemmas.Bool.{cases_lt}
use Rattle.std.proofs.lemmas.List.{get_or_append_left, same_lists, get_or_default}
use Rattle.std.proofs.lemmas.List.Elements.{All-cons, All-from_get_or}
use Rattle.std.proofs.lemmas.Option.{slice_get_within, get_or_from_slice_get}
use Rattle.cs_pattern_parts.specs.declared.kind.Kind.{Kind}
use Rattle.cs_pattern_parts.specs.declared.kind.Kind.TheVariants.{Token}
use Rattle.cs_yacc.specs.declared.reading.name.TokenName.{TokenName}
use Rattle.cs_yacc.specs.declared.reading.name.TokenName.TheVariants.{Word, Byte}
use Rattle.cs_yacc.specs.Reading.File as tokens
use Rattle.cs_yacc.specs.Reading.File.{IsNamed}
use Rattle.cs_lex.specs.Actions.Kinds.{ActionKind, bar, skip, word, literal, own_byte, foreign}
use Rattle.cs_lex.specs.declared.layout.parts.Rule.{Rule}
use Rattle.cs_lex.specs.Reading.File.{File, NamesTokenOf, HasTokensOf}
use Rattle.cs_lex.specs.Reading.Kinds.{Gives, HaveKinds}
use Rattle.cs_lex.specs.Reading.Tokens.{GivesName, in_use, not_in_use, IsEntry, AreLiterals}
use Rattle.cs_lex.specs.Reading.Tokens as spec

module _ (file : tokens.File) (is_file : tokens.IsFile file) where
  name_there : (name d : TokenName) (t : ℕ) → IsNamed file.token_names t name → get_or (tokens.all_names file) (t - 1) d ≡ name
  name_there name d t h =
      let lt : t - 1 < length file.token_names = slice_get_within file.token_names (t - 1) name h.1 in
      get_or_append_left file.token_names (map Word file.nonterminal_names) d (t - 1) lt ∙ get_or_from_slice_get file.token_names (t - 1) name d h.1

  place_within : (name : TokenName) (t : ℕ) → IsNamed file.token_names t name → t - 1 < length (tokens.all_names file)
  place_within name t h = omega (arith, slice_get_within file.token_names (t - 1) name h.1, length-append file.token_names (map Word file.nonterminal_names))

  differ_below : (name : TokenName) (t u : ℕ) → t < u → IsNamed file.token_names t name → IsNamed file.token_names u name → ⊥
  differ_below name t u lt h k =
      is_file.differ (t - 1) (u - 1) name (omega (arith, h.0)) (place_within name u k) (name_there name name t h ∙ sym (name_there name name u k))

  -- a name is that of one token
  pub one_token : (name : TokenName) (t u : ℕ) → IsNamed file.token_names t name → IsNamed file.token_names u name → t ≡ u
  one_token name t u h k = by_order (cases_lt t u) (cases_lt u t)
    where
      by_order : (t < u) ⊎ (u ≤ t) → (u < t) ⊎ (t ≤ u) → t ≡ u
      by_order (inl lt) r = absurd (differ_below name t u lt h k)
      by_order (inr le) (inl gt) = absurd (differ_below name u t gt k h)
      by_order (inr le) (inr ge) = omega arith

  pub one_given_name : (name : TokenName) (j k : Kind) → GivesName file name j → GivesName file name k → j ≡ k
  one_given_name name j k (in_use t h p) (in_use u i q) = p ∙ (ap Token (one_token name t u h i) ∙ sym q)
  one_given_name name j k (in_use t h p) (not_in_use n q) = absurd (n (t - 1) h.1)
  one_given_name name j k (not_in_use n p) (in_use u i q) = absurd (n (u - 1) i.1)
  one_given_name name j k (not_in_use n p) (not_in_use m q) = p ∙ sym q

  one_entry : (b x y : ℕ) → IsEntry file b x → IsEntry file b y → x ≡ y
  one_entry b x y (spec.IsEntry.in_use h) (spec.IsEntry.in_use i) = one_token (Byte b) x y h i
  one_entry b x y (spec.IsEntry.in_use h) (spec.IsEntry.not_in_use n q) = absurd (n (x - 1) h.1)
  one_entry b x y (spec.IsEntry.not_in_use n p) (spec.IsEntry.in_use i) = absurd (n (y - 1) i.1)
  one_entry b x y (spec.IsEntry.not_in_use n p) (spec.IsEntry.not_in_use m q) = p ∙ sym q

  pub one_list_of_literals : (xs ys : List ℕ) → AreLiterals file xs → AreLiterals file ys → xs ≡ ys
  one_list_of_literals xs ys x y = same_lists xs ys (x.count ∙ sym y.count) each
    where
      each : (k d : ℕ) → k < length xs → get_or xs k d ≡ get_or ys k d
      each k d lt =
          let few : k < 256 = omega (arith, x.count) in
          get_or_default xs k d 0 lt ∙ (one_entry k (get_or xs k 0) (get_or ys k 0) (x.each k few) (y.each k few) ∙ sym (get_or_default ys k d 0 (omega (arith, y.count))))

-- ---- tokens of the file

module _ (file : tokens.File) where
  token_within : (name : TokenName) (t : ℕ) → IsNamed file.token_names t name → t ≤ length file.token_names
  token_within name t h = omega (arith, h.0, slice_get_within file.token_names (t - 1) name h.1)

  names_token : (name : TokenName) (k : Kind) → GivesName file name k → NamesTokenOf (length file.token_names) k
  names_token name k (in_use t h p) = subst (NamesTokenOf (length file.token_names)) (sym p) (h.0, token_within name t h)
  names_token name k (not_in_use n p) = subst (NamesTokenOf (length file.token_names)) (sym p) tt

  kind_names : (a : ActionKind) (behind : List Kind) (k : Kind) → Gives file a behind k → All (NamesTokenOf (length file.token_names)) behind → NamesTokenOf (length file.token_names) k
  kind_names bar behind k h all = All-first behind h.0 h.1 all
    where
      All-first : (ks rest : List Kind) → ks ≡ k ∷ rest → All (NamesTokenOf (length file.token_names)) ks → NamesTokenOf (length file.token_names) k
      All-first [] rest e f = absurd cc
      All-first (j ∷ ks) rest e f = let same : j ≡ k = cc in subst (NamesTokenOf (length file.token_names)) same (f 0 j (omega arith))
  kind_names skip behind k h all = subst (NamesTokenOf (length file.token_names)) (sym h) tt
  kind_names (word w) behind k h all = names_token (Word w) k h
  kind_names (literal b) behind k h all = names_token (Byte b) k h
  kind_names own_byte behind k h all = subst (NamesTokenOf (length file.token_names)) (sym h) tt
  kind_names foreign behind k h all = subst (NamesTokenOf (length file.token_names)) (sym h) tt

  kinds_name : (bytes : List ℕ) (rs : List Rule) (ks : List Kind) → HaveKinds file bytes rs ks → All (NamesTokenOf (length file.token_names)) ks
  kinds_name bytes [] ks h = subst (All (NamesTokenOf (length file.token_names))) (sym h) (λ k d lt. absurd (omega arith))
  kinds_name bytes (r ∷ rs) [] h = absurd h
  kinds_name bytes (r ∷ rs) (k ∷ ks) h =
      let rest : All (NamesTokenOf (length file.token_names)) ks = kinds_name bytes rs ks h.1 in
      All-cons (NamesTokenOf (length file.token_names)) k ks (kind_names h.0.action ks k h.0.gives rest) rest

  entry_within : (b x : ℕ) → IsEntry file b x → x ≤ (length file.token_names)
  entry_within b x (spec.IsEntry.in_use h) = token_within (Byte b) x h
  entry_within b x (spec.IsEntry.not_in_use n p) = omega arith

  pub has_tokens : (bytes : List ℕ) (rs : List Rule) (f : File) → HaveKinds file bytes rs f.kinds → AreLiterals file f.literals → HasTokensOf (length file.token_names) f
  has_tokens bytes rs f h l = record {
    kinds = kinds_name bytes rs f.kinds h;
    literals = All-from_get_or (λ t. t ≤ (length file.token_names)) f.literals 0 (λ i lt. entry_within i (get_or f.literals i 0) (l.each i (omega (arith, l.count))));
  }
