-- Rules have one list of patterns, and one list of kinds.
use Rattle.std.proofs.Common.{◌≡◌, ℕ, List, [], ◌∷◌, sym, subst, ◌∙◌}
use Rattle.cs_pattern_parts.specs.declared.kind.Kind.{Kind}
use Rattle.cs_pattern.specs.Operations.Definitions as definitions
use Rattle.cs_pattern_parts.specs.Tree.Pattern.{Regex}
use Rattle.cs_pattern.proofs.OnText.OneAnswer.{one_pattern_of}
use Rattle.cs_yacc.specs.Reading.File as tokens
use Rattle.cs_yacc.specs.declared.reading.name.TokenName.TheVariants.{Word, Byte}
use Rattle.cs_lex.specs.Actions.Kinds.{ActionKind, bar, skip, word, literal, own_byte, foreign}
use Rattle.cs_lex.proofs.OnActions.OneKind.{one_kind}
use Rattle.cs_lex.specs.declared.layout.parts.Rule.{Rule}
use Rattle.cs_lex.specs.Reading.Kinds.{action_of, Gives, HasKind, HaveKinds}
use Rattle.cs_lex.specs.Reading.Patterns.{pattern_of, HavePatterns}
use Rattle.cs_lex.proofs.OnReading.TokensNamed.{one_given_name}

both : {X : Type 0} {x y : X} {xs ys : List X} → x ≡ y → xs ≡ ys → x ∷ xs ≡ y ∷ ys
both e f = cc

pub one_list_of_patterns : (ds : List definitions.Definition) (bytes : List ℕ) (rs : List Rule) (ps qs : List Regex) → HavePatterns ds bytes rs ps → HavePatterns ds bytes rs qs → ps ≡ qs
one_list_of_patterns ds bytes [] ps qs x y = x ∙ sym y
one_list_of_patterns ds bytes (r ∷ rs) [] qs x y = absurd x
one_list_of_patterns ds bytes (r ∷ rs) (p ∷ ps) [] x y = absurd y
one_list_of_patterns ds bytes (r ∷ rs) (p ∷ ps) (q ∷ qs) x y = both (one_pattern_of (pattern_of bytes r) ds p q x.0 y.0) (one_list_of_patterns ds bytes rs ps qs x.1 y.1)

module _ (file : tokens.File) (is_file : tokens.IsFile file) (bytes : List ℕ) where
  one_given : (a : ActionKind) (behind : List Kind) (j k : Kind) → Gives file a behind j → Gives file a behind k → j ≡ k
  one_given bar behind j k x y = let e : j ∷ x.0 ≡ k ∷ y.0 = sym x.1 ∙ y.1 in cc
  one_given skip behind j k x y = x ∙ sym y
  one_given (word w) behind j k x y = one_given_name file is_file (Word w) j k x y
  one_given (literal b) behind j k x y = one_given_name file is_file (Byte b) j k x y
  one_given own_byte behind j k x y = x ∙ sym y
  one_given foreign behind j k x y = x ∙ sym y

  one_kind_of_rule : (r : Rule) (behind : List Kind) (j k : Kind) → HasKind file bytes r behind j → HasKind file bytes r behind k → j ≡ k
  one_kind_of_rule r behind j k x y =
      one_given x.action behind j k x.gives (subst (λ (a : ActionKind). Gives file a behind k) (one_kind (action_of bytes r) y.action x.action y.is_kind x.is_kind) y.gives)

  pub one_list_of_kinds : (rs : List Rule) (js ks : List Kind) → HaveKinds file bytes rs js → HaveKinds file bytes rs ks → js ≡ ks
  one_list_of_kinds [] js ks x y = x ∙ sym y
  one_list_of_kinds (r ∷ rs) [] ks x y = absurd x
  one_list_of_kinds (r ∷ rs) (j ∷ js) [] x y = absurd y
  one_list_of_kinds (r ∷ rs) (j ∷ js) (k ∷ ks) x y =
      let rest : js ≡ ks = one_list_of_kinds rs js ks x.1 y.1 in
      both (one_kind_of_rule r js j k x.0 (subst (λ (ls : List Kind). HasKind file bytes r ls k) (sym rest) y.0)) rest
