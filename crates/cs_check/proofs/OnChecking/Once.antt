-- What lines tell of tokens they tell once.
use Rattle.std.proofs.Common.{◌≡◌, ℕ, ◌-◌, ◌<◌, List, [], ◌∷◌, ◌++◌, Some, length, refl, sym, ap, ◌∙◌, subst, append-nil, arith}
use Rattle.std.specs.Prelude.{slice_get}
use Rattle.std.proofs.lemmas.Option.{slice_get-get_or}
use Rattle.std.proofs.lemmas.List.{length_push, get_or_push}
use Rattle.cs_grammar.specs.declared.symbol.Symbol.{Symbol}
use Rattle.cs_grammar.specs.declared.symbol.Symbol.TheVariants.{Nonterminal}
use Rattle.cs_grammar.specs.Grammar.{PlainGrammar}
use Rattle.cs_grammar.specs.Tree.{Tree, IsTree, code, yield, IsPrefixFree}
use Rattle.cs_grammar.specs.Leftmost.{IsYield}
use Rattle.cs_yacc.specs.Reading.File.{File}
use Rattle.cs_lines.specs.Words.Names.{token_of}
use Rattle.cs_lines.specs.Words.Edits.{EditWords, Deletes, Inserts, Replaces, Swaps, patched, IsEdited}
use Rattle.cs_lines.specs.Lines.Line.{Feasible, Line}
use Rattle.cs_check.specs.Passing.Above.{derivations, verdicts, base_goals, edits}
use Rattle.cs_check.specs.Passing.Places.{Part, InHead, OfCase, OfDerivation, OfCaseTokens, OfCaseText, OfGoal, OfBase, OfNegative, OfNegativeTokens, OfNegativeText, OfEnd, last_part}
use Rattle.cs_check.specs.Passing.Entries.{IsNumbered, IsLast, IsCase, HasCase, IsBase, IsMade, IsNegative, IsTold, AreTold}
use Rattle.cs_check.proofs.OnChecking.Named.{one_named}

pub one_numbered : {A : Type 0} (list : List A) (number : ℕ) (a b : A) → IsNumbered list number a → IsNumbered list number b → a ≡ b
one_numbered list number a b h k = let same : Some a ≡ Some b = sym h.1 ∙ k.1 in cc

pub last_push : {A : Type 0} (xs : List A) (x : A) → IsLast (xs ++ x ∷ []) x
last_push xs x =
    let long = length_push xs x in
    let low : length xs < length (xs ++ x ∷ []) = omega arith in
    let back : length (xs ++ x ∷ []) - 1 ≡ length xs = omega arith in
    (omega arith, ap (slice_get (xs ++ x ∷ [])) back ∙ slice_get-get_or (xs ++ x ∷ []) (length xs) x low ∙ ap Some (get_or_push xs x x (length xs) refl))

-- an edit makes one list
pub one_edit : (file : File) (w : List ℕ) (edit : EditWords) (a b : List ℕ) → IsEdited file w edit a → IsEdited file w edit b → a ≡ b
one_edit file w (Deletes i) a b h k = h.1 ∙ sym k.1
one_edit file w (Inserts i name) a b h k =
    h.3 ∙ ap (λ (t : ℕ). patched w i (t ∷ []) 0) (one_named file.grammar.tokens (token_of file) name h.1 k.1 h.2 k.2) ∙ sym k.3
one_edit file w (Replaces i name) a b h k =
    h.3 ∙ ap (λ (t : ℕ). patched w i (t ∷ []) 1) (one_named file.grammar.tokens (token_of file) name h.1 k.1 h.2 k.2) ∙ sym k.3
one_edit file w (Swaps i) a b h k = h.1 ∙ sym k.1

one_case_of : (s c f s' c' f' : ℕ) → Feasible s c f ≡ Feasible s' c' f' → c ≡ c'
one_case_of s c f s' c' f' e = cc

-- a code has one tree
module _ (g : PlainGrammar) (one : (x : Symbol) (t : Tree) → IsTree g x t → IsPrefixFree g x t) where
  pub one_yield : (rules a b : List ℕ) → IsYield g rules a → IsYield g rules b → a ≡ b
  one_yield rules a b h k =
      let codes : code k.tree ≡ code h.tree ++ [] = sym k.code ∙ h.code ∙ sym (append-nil (code h.tree)) in
      let same = (one (Nonterminal g.start) h.tree h.is_tree k.tree [] k.is_tree codes).0 in
      h.yield ∙ ap yield same ∙ sym k.yield

  pub one_case : (lines : List Line) (a b : List ℕ) → IsCase g lines a → IsCase g lines b → a ≡ b
  one_case lines a b h k =
      let same = one_numbered (derivations lines) (length (derivations lines)) h.0 k.0 h.1 k.1 in
      one_yield k.0 a b (subst (λ (r : List ℕ). IsYield g r a) same h.2) k.2

  pub one_base : (lines : List Line) (a b : List ℕ) → IsBase g lines a → IsBase g lines b → a ≡ b
  one_base lines a b h k =
      let goals = one_numbered (base_goals lines) (length (base_goals lines)) h.goal k.goal h.is_goal k.is_goal in
      let there = subst (λ (n : ℕ). HasCase lines n h.case) goals h.has_case in
      let verdict = one_numbered (verdicts lines) k.goal (Feasible there.0 h.case there.1) (Feasible k.has_case.0 k.case k.has_case.1) there.2 k.has_case.2 in
      let cases = one_case_of there.0 h.case there.1 k.has_case.0 k.case k.has_case.1 verdict in
      let rules = one_numbered (derivations lines) k.case h.rules k.rules (subst (λ (n : ℕ). IsNumbered (derivations lines) n h.rules) cases h.derived) k.derived in
      one_yield k.rules a b (subst (λ (r : List ℕ). IsYield g r a) rules h.yields) k.yields

module _ (file : File) (one : (x : Symbol) (t : Tree) → IsTree file.grammar x t → IsPrefixFree file.grammar x t) (lines : List Line) where
  pub one_made : (edit : EditWords) (a b : List ℕ) → IsMade file lines edit a → IsMade file lines edit b → a ≡ b
  one_made edit a b h k =
      let bases = one_base file.grammar one lines h.0 k.0 h.1 k.1 in
      one_edit file k.0 edit a b (subst (λ (w : List ℕ). IsEdited file w edit a) bases h.2) k.2

  one_negative : (a b : List ℕ) → IsNegative file lines a → IsNegative file lines b → a ≡ b
  one_negative a b h k =
      let same = one_numbered (edits lines) (length (edits lines)) h.0 k.0 h.1 k.1 in
      one_made k.0 a b (subst (λ (e : EditWords). IsMade file lines e a) same h.2) k.2

  one_told_of : (part : Part) (a b : List ℕ) → IsTold file lines part a → IsTold file lines part b → a ≡ b
  one_told_of OfNegative a b h k = one_negative a b h k
  one_told_of OfNegativeTokens a b h k = one_negative a b h k
  one_told_of InHead a b h k = one_case file.grammar one lines a b h k
  one_told_of OfCase a b h k = one_case file.grammar one lines a b h k
  one_told_of OfDerivation a b h k = one_case file.grammar one lines a b h k
  one_told_of OfCaseTokens a b h k = one_case file.grammar one lines a b h k
  one_told_of OfCaseText a b h k = one_case file.grammar one lines a b h k
  one_told_of OfGoal a b h k = one_case file.grammar one lines a b h k
  one_told_of OfBase a b h k = one_case file.grammar one lines a b h k
  one_told_of OfNegativeText a b h k = one_case file.grammar one lines a b h k
  one_told_of OfEnd a b h k = one_case file.grammar one lines a b h k

  pub one_told : (a b : List ℕ) → AreTold file lines a → AreTold file lines b → a ≡ b
  one_told a b h k = one_told_of (last_part lines) a b h k
