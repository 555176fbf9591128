-- The closed sets of a file's grammar have numbers of the file.
use Rattle.std.proofs.Common.{◌≡◌, ℕ, zero, suc, ◌+◌, ◌<◌, ◌≤◌, List, [], ◌∷◌, All, length, map, ◌∙◌, sym, subst, ⊎_elim, arith}
use Rattle.std.specs.List.{AllZip, range_with_len}
use Rattle.std.proofs.lemmas.List.Elements.{All-append, All-cons, All-head, All-map, All-nil, All-same, All-tail}
use Rattle.std.proofs.lemmas.List.FromFn.{length-range_with_len}
use Rattle.std.proofs.lemmas.Slice.Zip.{AllZip-long}
use Rattle.cs_grammar.specs.declared.symbol.Mark.TheVariants.{Begin, Token, End}
use Rattle.cs_grammar.specs.Grammar.{IsNumberOf}
use Rattle.cs_goals.specs.Goals.{right_marks}
use Rattle.cs_yacc.specs.Reading.File.{File, IsFile}
use Rattle.cs_verdicts.specs.Closed.Closed.{AreClosedSets, AreEdges, AreThose, ClosedSets, HasContext, HasTree, IsAdjacent, IsFirstOf, IsLastOf, YieldsNothing, numbers}
use Rattle.cs_manifest.specs.Output.Names.{AreNamedMarks, AreNamedNonterminals, AreNamedTokens, IsNamedMark, IsNamedToken}
use Rattle.cs_manifest.specs.Manifest.Named.{AreNamedSets}

-- what holds of each of a list holds of those that are so
module _ {A : Type 0} (IsSo P : A → Type 0) where
  all_those : (xs those : List A) → AreThose IsSo xs those → All P xs → All P those
  all_those [] those are all = All-same P those [] are all
  all_those (x ∷ xs) those are all =
      ⊎_elim
      (λ kept. All-same P those (x ∷ kept.1.0) kept.1.1 (All-cons P x kept.1.0 (All-head P x xs all) (all_those xs kept.1.0 kept.1.2 (All-tail P x xs all))))
      (λ left. all_those xs those left.1 (All-tail P x xs all))
      are

numbers_from : (last a n : ℕ) → 0 < a → a + n ≤ last + 1 → All (IsNumberOf last) (range_with_len a n)
numbers_from last a zero above within = All-nil (IsNumberOf last)
numbers_from last a (suc n) above within =
    All-cons (IsNumberOf last) a (range_with_len (a + 1) n) (above, omega (arith, within)) (numbers_from last (a + 1) n (omega arith) (omega (arith, within)))

numbers_are : (last : ℕ) → All (IsNumberOf last) (numbers last)
numbers_are last = numbers_from last 1 last (omega arith) (omega arith)

-- what is so of each partner
all_partners : {A B : Type 0} {R : A → B → Type 0} (P : B → Type 0) (xs : List A) (ys : List B) → AllZip R xs ys → ((x : A) (y : B) → R x y → P y) → All P ys
all_partners P [] [] zip each = All-nil P
all_partners P [] (y ∷ ys) zip each = absurd zip
all_partners P (x ∷ xs) [] zip each = absurd zip
all_partners P (x ∷ xs) (y ∷ ys) zip each = All-cons P y ys (each x y zip.0) (all_partners P xs ys zip.1 each)

module _ (file : File) (is : IsFile file) (c : ClosedSets) (are : AreClosedSets file.grammar c) where
  nonterminals : AreNamedNonterminals file (numbers file.grammar.nonterminals)
  nonterminals = subst (λ (n : ℕ). All (IsNumberOf n) (numbers file.grammar.nonterminals)) (sym is.nonterminals) (numbers_are file.grammar.nonterminals)

  tokens : AreNamedTokens file (numbers file.grammar.tokens)
  tokens = subst (λ (n : ℕ). All (IsNumberOf n) (numbers file.grammar.tokens)) (sym is.tokens) (numbers_are file.grammar.tokens)

  marks : AreNamedMarks file (right_marks file.grammar.tokens)
  marks =
      All-append (IsNamedMark file) (map Token (numbers file.grammar.tokens)) (End ∷ []) (All-map (IsNamedMark file) Token (numbers file.grammar.tokens) tokens)
      (All-cons (IsNamedMark file) End [] tt (All-nil (IsNamedMark file)))

  pub sets_named : AreNamedSets file c
  sets_named = (
    all_those (HasTree file.grammar) (IsNumberOf (length file.nonterminal_names)) (numbers file.grammar.nonterminals) c.productive are.productive nonterminals,
    all_those (HasContext file.grammar) (IsNumberOf (length file.nonterminal_names)) (numbers file.grammar.nonterminals) c.reachable are.reachable nonterminals,
    all_those (YieldsNothing file.grammar) (IsNumberOf (length file.nonterminal_names)) (numbers file.grammar.nonterminals) c.empty are.empty nonterminals,
  )

  edges_named : (IsEdge : ℕ → ℕ → Type 0) (sets : List (List ℕ)) → AreEdges file.grammar IsEdge sets → All (AreNamedTokens file) sets
  edges_named IsEdge sets edges =
      all_partners (AreNamedTokens file) (numbers file.grammar.nonterminals) sets edges (λ n set those. all_those (IsEdge n) (IsNamedToken file) (numbers file.grammar.tokens) set those tokens)

  edges_many : (IsEdge : ℕ → ℕ → Type 0) (sets : List (List ℕ)) → AreEdges file.grammar IsEdge sets → length sets ≡ length file.nonterminal_names
  edges_many IsEdge sets edges =
      AllZip-long _ (numbers file.grammar.nonterminals) sets edges ∙ length-range_with_len 1 file.grammar.nonterminals ∙ sym is.nonterminals

  few_nonterminals : (sets : List (List ℕ)) → length sets ≡ length file.nonterminal_names → length sets < 65536
  few_nonterminals sets many = let most = is.grammar.nonterminals in omega (arith, many, most, is.nonterminals)

  pub first_named : All (AreNamedTokens file) c.first
  first_named = edges_named (IsFirstOf file.grammar) c.first are.first

  pub last_named : All (AreNamedTokens file) c.last
  last_named = edges_named (IsLastOf file.grammar) c.last are.last

  pub first_many : length c.first ≡ length file.nonterminal_names
  first_many = edges_many (IsFirstOf file.grammar) c.first are.first

  pub last_many : length c.last ≡ length file.nonterminal_names
  last_many = edges_many (IsLastOf file.grammar) c.last are.last

  pub first_few : length c.first < 65536
  first_few = few_nonterminals c.first first_many

  pub last_few : length c.last < 65536
  last_few = few_nonterminals c.last last_many

  pub begin_named : AreNamedMarks file c.begin
  begin_named = all_those (IsAdjacent file.grammar Begin) (IsNamedMark file) (right_marks file.grammar.tokens) c.begin are.begin marks

  pub next_named : All (AreNamedMarks file) c.next
  next_named = all_partners (AreNamedMarks file) (numbers file.grammar.tokens) c.next are.next (λ t set those. all_those (IsAdjacent file.grammar (Token t)) (IsNamedMark file) (right_marks file.grammar.tokens) set those marks)

  pub next_many : length c.next ≡ length file.token_names
  next_many = AllZip-long _ (numbers file.grammar.tokens) c.next are.next ∙ length-range_with_len 1 file.grammar.tokens ∙ sym is.tokens

  pub next_few : length c.next < 65536
  next_few = let most = is.grammar.tokens in omega (arith, next_many, most, is.tokens)
