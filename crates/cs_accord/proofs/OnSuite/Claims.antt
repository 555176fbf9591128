-- The closed lines of a suite claim the exact sets of the grammar: sets that they claim are exact, and there are such.
use Rattle.std.proofs.Common.{◌≡◌, ◌↔◌, ℕ, zero, suc, ◌+◌, ◌<◌, ◌≤◌, true, List, [], ◌∷◌, ◌++◌, drop, map, length, get_or, refl, sym, ap, ◌∙◌, subst, inl, inr, ⊎_elim, arith}
use Rattle.std.specs.Prelude.{All}
use Rattle.std.specs.List.{AllZip, Contains, range_with_len}
use Rattle.std.proofs.lemmas.Bool.{cases_lt}
use Rattle.std.proofs.lemmas.List.{get_or_past}
use Rattle.std.proofs.lemmas.List.Elements.{All-head, All-tail, All-contains}
use Rattle.cs_grammar.specs.declared.symbol.Mark.{Mark}
use Rattle.cs_grammar.specs.declared.symbol.Mark.TheVariants as marks
use Rattle.cs_grammar.specs.declared.symbol.Symbol.{Symbol}
use Rattle.cs_grammar.specs.declared.symbol.Symbol.TheVariants as symbols
use Rattle.cs_grammar.specs.Entries.{entry_or}
use Rattle.cs_grammar.specs.Grammar.{PlainGrammar, IsNumberOf, IsSymbol, IsGrammar}
use Rattle.cs_grammar.specs.Context.{Context, Hole, Under, IsContext}
use Rattle.cs_grammar.specs.Sentence.{IsSentence, framed, IsFollowed}
use Rattle.cs_grammar.specs.Tree.{Tree, Leaf, Node, IsTree, yield}
use Rattle.cs_grammar.proofs.Measures.{IsRuleOf-rule, IsNumberOf-yield}
use Rattle.cs_goals.specs.Goals.{right_marks}
use Rattle.cs_goals.proofs.Members.{Among, Among-map, Among-mapped, Among-left, Among-right, Among-in_range, Among-range, Contains-from_Among, Among-from_Contains}
use Rattle.cs_pairs.specs.Pairs.Closed.{IsFirstOf, IsLastOf, YieldsNothing}
use Rattle.cs_pairs.specs.Pairs.Pairs.{IsAdjacent}
use Rattle.cs_verdicts.specs.Closed.Closed.{AreClosedSets, AreThose, ClosedSets, HasContext, HasTree, numbers}
use Rattle.cs_yacc.specs.Reading.File.{File}
use Rattle.cs_lines.specs.Words.Names.{token_of, nonterminal_of, mark_text, IsTokenNamed, IsNonterminalNamed, IsBehindNamed}
use Rattle.cs_lines.specs.Lines.Line.{Productive, Reachable, Empty, First, Last, Next, Line}
use Rattle.cs_closed.specs.Closed.Sets.{PlainSets, IsIn, IsPair, IsNext}
use Rattle.cs_closed.specs.Closed.Exact.{AreExact}
use Rattle.cs_check.specs.Passing.Above.{sets, rows}
use Rattle.cs_check.specs.Passing.Head.{AreClaimed, Claims, ClaimsToken, ClaimsNext, names_behind, entry}
use Rattle.cs_check.proofs.OnChecking.Named.{one_named}
use Rattle.cs_manifest.proofs.OnManifest.Naming.{first_many, last_many, next_many}
use Rattle.cs_accord.specs.Named.{IsNamedFile}
use Rattle.cs_accord.proofs.OnSuite.Lists.{entry_named, zip_at}
use Rattle.cs_accord.proofs.OnSuite.Naming.{token_named, nonterminal_named, token_no_end}
use Rattle.cs_accord.proofs.OnSuite.Sets.{those_in, those_has, has_number, number_among, among_number, has_mark, mark_among, among_mark, set_by, in_set, set_has, table_by, in_table, table_has, table_long, table_rows}

-- what the closed lines name
pub record AreTold (file : File) (closed : ClosedSets) (lines : List Line) : Type 0 where
  pub productive : sets Productive lines ≡ map (nonterminal_of file) closed.productive ∷ []
  pub reachable : sets Reachable lines ≡ map (nonterminal_of file) closed.reachable ∷ []
  pub empty : sets Empty lines ≡ map (nonterminal_of file) closed.empty ∷ []
  pub first : rows First lines ≡ map (map (token_of file)) closed.first
  pub last : rows Last lines ≡ map (map (token_of file)) closed.last
  pub next : rows Next lines ≡ map (mark_text file) closed.begin ∷ map (map (mark_text file)) closed.next

-- ---- whose numbers are of the grammar

module _ (g : PlainGrammar) (well : IsGrammar g) where
  tree_number : (x : Symbol) (t : Tree) (n : ℕ) → x ≡ symbols.Nonterminal n → IsTree g x t → IsNumberOf g.nonterminals n
  tree_number x (Leaf t) n is h = absurd (apart (sym is ∙ h))
    where
      apart : symbols.Nonterminal n ≡ symbols.Token t → ⊥
      apart e = absurd cc
  tree_number x (Node r f) n is h = subst (IsSymbol g.tokens g.nonterminals) (sym h.2 ∙ is) (IsRuleOf-rule g r h.0 well h.1).left

  context_number : (c : Context) (n : ℕ) → IsContext g (symbols.Nonterminal n) c → IsNumberOf g.nonterminals n
  context_number Hole n h = subst (IsSymbol g.tokens g.nonterminals) (sym h) well.start
  context_number (Under outer r left right) n h =
      let whole = (IsRuleOf-rule g r h.0 well h.3).right in
      All-contains (IsSymbol g.tokens g.nonterminals) h.0.right (symbols.Nonterminal n) whole
      (subst (λ (l : List Symbol). Contains l (symbols.Nonterminal n)) (sym h.4)
      (Contains-from_Among (symbols.Nonterminal n) (h.1 ++ symbols.Nonterminal n ∷ h.2) (Among-right (symbols.Nonterminal n) h.1 (symbols.Nonterminal n ∷ h.2) (inl refl))))

  yield_numbers : (n : ℕ) (t : Tree) (tokens : List ℕ) → IsTree g (symbols.Nonterminal n) t → tokens ≡ yield t → All (IsNumberOf g.tokens) tokens
  yield_numbers n t tokens h e =
      subst (All (IsNumberOf g.tokens)) (sym e) (IsNumberOf-yield g well t (symbols.Nonterminal n) h (tree_number (symbols.Nonterminal n) t n refl h))

  first_number : (n b : ℕ) → IsFirstOf g n b → IsNumberOf g.nonterminals n × IsNumberOf g.tokens b
  first_number n b h =
      let y = h.1 in
      (tree_number (symbols.Nonterminal n) y.0 n refl y.1, All-head (IsNumberOf g.tokens) b h.0 (yield_numbers n y.0 (b ∷ h.0) y.1 y.2))

  last_number : (n a : ℕ) → IsLastOf g n a → IsNumberOf g.nonterminals n × IsNumberOf g.tokens a
  last_number n a h =
      let y = h.1 in (
        tree_number (symbols.Nonterminal n) y.0 n refl y.1,
        All-contains (IsNumberOf g.tokens) (h.0 ++ a ∷ []) a (yield_numbers n y.0 (h.0 ++ a ∷ []) y.1 y.2)
            (Contains-from_Among a (h.0 ++ a ∷ []) (Among-right a h.0 (a ∷ []) (inl refl))),
      )

  -- a mark on the left of a pair, and one on its right
  abbrev IsLeftMark : Mark → Type 0
  IsLeftMark marks.Begin = Unit {0}
  IsLeftMark (marks.Token a) = IsNumberOf g.tokens a
  IsLeftMark marks.End = ⊥

  tokens_or_end : (tokens : List ℕ) → All (IsNumberOf g.tokens) tokens → (m : Mark) → Among m (map marks.Token tokens ++ marks.End ∷ []) → Among m (right_marks g.tokens)
  tokens_or_end [] all m (inl here) = Among-right m (map marks.Token (range_with_len 1 g.tokens)) (marks.End ∷ []) (inl here)
  tokens_or_end [] all m (inr later) = absurd later
  tokens_or_end (t ∷ tokens) all m (inl here) =
      let is = All-head (IsNumberOf g.tokens) t tokens all in
      subst (λ (x : Mark). Among x (right_marks g.tokens)) (sym here)
      (Among-left (marks.Token t) (map marks.Token (range_with_len 1 g.tokens)) (marks.End ∷ [])
      (Among-mapped marks.Token t (range_with_len 1 g.tokens) (Among-in_range t 1 g.tokens (is.0) (omega (arith, is.1)))))
  tokens_or_end (t ∷ tokens) all m (inr later) = tokens_or_end tokens (All-tail (IsNumberOf g.tokens) t tokens all) m later

  -- what is followed in the framed list
  followed_right : (tokens : List ℕ) → All (IsNumberOf g.tokens) tokens → (a b : Mark) → IsFollowed a b (framed tokens) → Among b (right_marks g.tokens)
  followed_right tokens all a b ([], ys, e) = tokens_or_end tokens all b (subst (λ (l : List Mark). Among b l) (sym (tail e)) (inl refl))
    where
      tail : marks.Begin ∷ map marks.Token tokens ++ marks.End ∷ [] ≡ a ∷ b ∷ ys → map marks.Token tokens ++ marks.End ∷ [] ≡ b ∷ ys
      tail e = cc
  followed_right tokens all a b (x ∷ xs, ys, e) =
      tokens_or_end tokens all b (subst (λ (l : List Mark). Among b l) (sym (tail e)) (Among-right b xs (a ∷ b ∷ ys) (inr (inl refl))))
    where
      tail : marks.Begin ∷ map marks.Token tokens ++ marks.End ∷ [] ≡ x ∷ xs ++ a ∷ b ∷ ys → map marks.Token tokens ++ marks.End ∷ [] ≡ xs ++ a ∷ b ∷ ys
      tail e = cc

  left_of : (tokens : List ℕ) → All (IsNumberOf g.tokens) tokens → (xs : List Mark) (a b : Mark) (ys : List Mark) → map marks.Token tokens ++ marks.End ∷ [] ≡ xs ++ a ∷ b ∷ ys → IsLeftMark a
  left_of [] all [] a b ys e = absurd (let none : [] ≡ b ∷ ys = cc in absurd cc)
  left_of [] all (x ∷ []) a b ys e = absurd (let none : [] ≡ a ∷ b ∷ ys = cc in absurd cc)
  left_of [] all (x ∷ y ∷ xs) a b ys e = absurd (let none : [] ≡ y ∷ xs ++ a ∷ b ∷ ys = cc in absurd cc)
  left_of (t ∷ tokens) all [] a b ys e =
      let same : marks.Token t ≡ a = cc in subst IsLeftMark same (All-head (IsNumberOf g.tokens) t tokens all)
  left_of (t ∷ tokens) all (x ∷ xs) a b ys e =
      let rest : map marks.Token tokens ++ marks.End ∷ [] ≡ xs ++ a ∷ b ∷ ys = cc in
      left_of tokens (All-tail (IsNumberOf g.tokens) t tokens all) xs a b ys rest

  followed_left : (tokens : List ℕ) → All (IsNumberOf g.tokens) tokens → (a b : Mark) → IsFollowed a b (framed tokens) → IsLeftMark a
  followed_left tokens all a b ([], ys, e) = let same : marks.Begin ≡ a = cc in subst IsLeftMark same tt
  followed_left tokens all a b (x ∷ xs, ys, e) =
      let rest : map marks.Token tokens ++ marks.End ∷ [] ≡ xs ++ a ∷ b ∷ ys = cc in left_of tokens all xs a b ys rest

  sentence_numbers : (tokens : List ℕ) → IsSentence g tokens → All (IsNumberOf g.tokens) tokens
  sentence_numbers tokens s = yield_numbers g.start s.0 tokens s.1 s.2

  adjacent_right : (a b : Mark) → IsAdjacent g a b → Among b (right_marks g.tokens)
  adjacent_right a b h = followed_right h.0 (sentence_numbers h.0 h.1) a b h.2

  adjacent_left : (a b : Mark) → IsAdjacent g a b → IsLeftMark a
  adjacent_left a b h = followed_left h.0 (sentence_numbers h.0 h.1) a b h.2

-- ---- the lists of the closed sets

module _ (file : File) (named : IsNamedFile file) (closed : ClosedSets) (are : AreClosedSets file.grammar closed) where
  well : IsGrammar file.grammar
  well = named.is.grammar

  -- those of a number's list
  row_is : (IsEdge : ℕ → ℕ → Type 0) (lists : List (List ℕ)) → AllZip (λ n. AreThose (IsEdge n) (numbers file.grammar.tokens)) (numbers file.grammar.nonterminals) lists
      → (n : ℕ) → IsNumberOf file.grammar.nonterminals n → AreThose (IsEdge n) (numbers file.grammar.tokens) (entry_or lists n [])
  row_is IsEdge lists zip zero is = let low = is.0 in absurd (omega (arith, low))
  row_is IsEdge lists zip (suc k) is =
      let high = is.1 in
      let here : 1 + k ≡ suc k = omega arith in
      subst (λ n. AreThose (IsEdge n) (numbers file.grammar.tokens) (get_or lists k [])) here
      (zip_at (λ n. AreThose (IsEdge n) (numbers file.grammar.tokens)) 1 file.grammar.nonterminals lists zip k [] (omega (arith, high)))

  next_is : (t : ℕ) → IsNumberOf file.grammar.tokens t → AreThose (IsAdjacent file.grammar (marks.Token t)) (right_marks file.grammar.tokens) (entry_or closed.next t [])
  next_is zero is = let low = is.0 in absurd (omega (arith, low))
  next_is (suc k) is =
      let high = is.1 in
      let here : 1 + k ≡ suc k = omega arith in
      subst (λ t. AreThose (IsAdjacent file.grammar (marks.Token t)) (right_marks file.grammar.tokens) (get_or closed.next k [])) here
      (zip_at (λ t. AreThose (IsAdjacent file.grammar (marks.Token t)) (right_marks file.grammar.tokens)) 1 file.grammar.tokens closed.next are.next k [] (omega (arith, high)))

  among_numbers : (last n : ℕ) → IsNumberOf last n → Among n (numbers last)
  among_numbers last n is = Among-in_range n 1 last (is.0) (omega (arith, is.1))

  -- the marks behind a mark
  abbrev behind : Mark → List Mark
  behind marks.Begin = closed.begin
  behind (marks.Token t) = entry_or closed.next t []
  behind marks.End = []

  behind_is : (a : Mark) → IsLeftMark file.grammar well a → AreThose (IsAdjacent file.grammar a) (right_marks file.grammar.tokens) (behind a)
  behind_is marks.Begin is = are.begin
  behind_is (marks.Token t) is = next_is t is
  behind_is marks.End is = absurd is

  -- ---- what is named is meant

  nonterminal_meant : (set : List ℕ) (IsSo : ℕ → Type 0) → AreThose IsSo (numbers file.grammar.nonterminals) set → ((n : ℕ) → IsSo n → IsNumberOf file.grammar.nonterminals n)
      → (n : ℕ) → ((name : List ℕ) × Contains (map (nonterminal_of file) set) name × IsNonterminalNamed file name n) ↔ IsSo n
  nonterminal_meant set IsSo those within n = (
    λ h.
        let m = Among-map (nonterminal_of file) h.0 set (Among-from_Contains h.0 (map (nonterminal_of file) set) h.1) in
        let so = those_in IsSo (numbers file.grammar.nonterminals) set m.0 those m.1 in
        let same = one_named file.grammar.nonterminals (nonterminal_of file) h.0 n m.0 h.2
        (subst (λ (name : List ℕ). IsNonterminalNamed file name m.0) (sym m.2) (nonterminal_named file named m.0 (within m.0 so.0))) in
        subst IsSo (sym same) so.0,
    λ so.
        let is = within n so in (
          nonterminal_of file n,
          Contains-from_Among (nonterminal_of file n) (map (nonterminal_of file) set)
              (Among-mapped (nonterminal_of file) n set (those_has IsSo (numbers file.grammar.nonterminals) set n those (among_numbers file.grammar.nonterminals n is) so)),
          nonterminal_named file named n is,
        ),
  )

  token_meant : (set : List ℕ) (IsSo : ℕ → Type 0) → AreThose IsSo (numbers file.grammar.tokens) set → ((t : ℕ) → IsSo t → IsNumberOf file.grammar.tokens t)
      → (t : ℕ) → ((name : List ℕ) × Contains (map (token_of file) set) name × IsTokenNamed file name t) ↔ IsSo t
  token_meant set IsSo those within t = (
    λ h.
        let m = Among-map (token_of file) h.0 set (Among-from_Contains h.0 (map (token_of file) set) h.1) in
        let so = those_in IsSo (numbers file.grammar.tokens) set m.0 those m.1 in
        let same = one_named file.grammar.tokens (token_of file) h.0 t m.0 h.2
        (subst (λ (name : List ℕ). IsTokenNamed file name m.0) (sym m.2) (token_named file named m.0 (within m.0 so.0))) in
        subst IsSo (sym same) so.0,
    λ so.
        let is = within t so in (
          token_of file t,
          Contains-from_Among (token_of file t) (map (token_of file) set)
              (Among-mapped (token_of file) t set (those_has IsSo (numbers file.grammar.tokens) set t those (among_numbers file.grammar.tokens t is) so)),
          token_named file named t is,
        ),
  )

  token_is_number : (t : ℕ) → Among (marks.Token t) (right_marks file.grammar.tokens) → IsNumberOf file.grammar.tokens t
  token_is_number t h = in_marks (range_with_len 1 file.grammar.tokens) (λ m among. let r = Among-range m 1 file.grammar.tokens among in (r.0, omega (arith, r.1))) h
    where
      in_marks : (ns : List ℕ) → ((m : ℕ) → Among m ns → IsNumberOf file.grammar.tokens m) → Among (marks.Token t) (map marks.Token ns ++ marks.End ∷ []) → IsNumberOf file.grammar.tokens t
      in_marks [] each (inl here) = absurd cc
      in_marks [] each (inr later) = absurd later
      in_marks (n ∷ ns) each (inl here) = let same : t ≡ n = cc in subst (IsNumberOf file.grammar.tokens) (sym same) (each n (inl refl))
      in_marks (n ∷ ns) each (inr later) = in_marks ns (λ m among. each m (inr among)) later

  begin_never : Among marks.Begin (right_marks file.grammar.tokens) → ⊥
  begin_never h = in_marks (range_with_len 1 file.grammar.tokens) h
    where
      in_marks : (ns : List ℕ) → Among marks.Begin (map marks.Token ns ++ marks.End ∷ []) → ⊥
      in_marks [] (inl here) = absurd cc
      in_marks [] (inr later) = absurd later
      in_marks (n ∷ ns) (inl here) = absurd cc
      in_marks (n ∷ ns) (inr later) = in_marks ns later

  -- the mark of a name
  mark_is : (a b : Mark) (name : List ℕ) → Among a (right_marks file.grammar.tokens) → name ≡ mark_text file a → IsBehindNamed file name b → a ≡ b
  mark_is marks.Begin b name h e is = absurd (begin_never h)
  mark_is (marks.Token t) marks.Begin name h e is = absurd is
  mark_is (marks.Token t) (marks.Token u) name h e is =
      ap marks.Token (one_named file.grammar.tokens (token_of file) name t u (subst (λ (n : List ℕ). IsTokenNamed file n t) (sym e) (token_named file named t (token_is_number t h))) is)
  mark_is (marks.Token t) marks.End name h e is = absurd (token_no_end file named t (token_is_number t h) (sym e ∙ is))
  mark_is marks.End marks.Begin name h e is = absurd is
  mark_is marks.End (marks.Token u) name h e is = absurd (token_no_end file named u is.is_number (is.named ∙ e))
  mark_is marks.End marks.End name h e is = refl

  pub mark_named : (b : Mark) → Among b (right_marks file.grammar.tokens) → IsBehindNamed file (mark_text file b) b
  mark_named marks.Begin h = absurd (begin_never h)
  mark_named (marks.Token t) h = token_named file named t (token_is_number t h)
  mark_named marks.End h = refl

  mark_meant : (a : Mark) → IsLeftMark file.grammar well a → (b : Mark) → ((name : List ℕ) × Contains (map (mark_text file) (behind a)) name × IsBehindNamed file name b) ↔ IsAdjacent file.grammar a b
  mark_meant a is b =
      let those = behind_is a is in (
        λ h.
            let m = Among-map (mark_text file) h.0 (behind a) (Among-from_Contains h.0 (map (mark_text file) (behind a)) h.1) in
            let so = those_in (IsAdjacent file.grammar a) (right_marks file.grammar.tokens) (behind a) m.0 those m.1 in
            subst (IsAdjacent file.grammar a) (mark_is m.0 b h.0 so.1 m.2 h.2) so.0,
        λ so.
            let among = adjacent_right file.grammar well a b so in (
              mark_text file b,
              Contains-from_Among (mark_text file b) (map (mark_text file) (behind a))
                  (Among-mapped (mark_text file) b (behind a) (those_has (IsAdjacent file.grammar a) (right_marks file.grammar.tokens) (behind a) b those among so)),
              mark_named b among,
            ),
      )

  -- ---- what lines with these names claim

  module _ (lines : List Line) (told : AreTold file closed lines) where
    pub claims_productive : (n : ℕ) → Claims file lines Productive n ↔ HasTree file.grammar n
    claims_productive n =
        let meant = nonterminal_meant closed.productive (HasTree file.grammar) are.productive (λ k so. tree_number file.grammar well (symbols.Nonterminal k) so.0 k refl so.1) n in
        subst (λ (l : List (List (List ℕ))). ((name : List ℕ) × Contains (entry l 1) name × IsNonterminalNamed file name n) ↔ HasTree file.grammar n) (sym told.productive) meant

    pub claims_reachable : (n : ℕ) → Claims file lines Reachable n ↔ HasContext file.grammar n
    claims_reachable n =
        let meant = nonterminal_meant closed.reachable (HasContext file.grammar) are.reachable (λ k so. context_number file.grammar well so.0 k so.1) n in
        subst (λ (l : List (List (List ℕ))). ((name : List ℕ) × Contains (entry l 1) name × IsNonterminalNamed file name n) ↔ HasContext file.grammar n) (sym told.reachable) meant

    pub claims_empty : (n : ℕ) → Claims file lines Empty n ↔ YieldsNothing file.grammar n
    claims_empty n =
        let meant = nonterminal_meant closed.empty (YieldsNothing file.grammar) are.empty (λ k so. tree_number file.grammar well (symbols.Nonterminal k) so.0 k refl so.1) n in
        subst (λ (l : List (List (List ℕ))). ((name : List ℕ) × Contains (entry l 1) name × IsNonterminalNamed file name n) ↔ YieldsNothing file.grammar n) (sym told.empty) meant

    -- a row of tokens
    row_claims : (IsEdge : ℕ → ℕ → Type 0) (lists : List (List ℕ)) (named_lists : List (List (List ℕ))) → named_lists ≡ map (map (token_of file)) lists
        → AllZip (λ n. AreThose (IsEdge n) (numbers file.grammar.tokens)) (numbers file.grammar.nonterminals) lists
        → ((n t : ℕ) → IsEdge n t → IsNumberOf file.grammar.nonterminals n × IsNumberOf file.grammar.tokens t)
        → length lists ≡ file.grammar.nonterminals
        → (n t : ℕ) → ((name : List ℕ) × Contains (entry named_lists n) name × IsTokenNamed file name t) ↔ IsEdge n t
    row_claims IsEdge lists named_lists are_named zip within many n t =
        let same : entry named_lists n ≡ map (token_of file) (entry_or lists n []) = ap (λ (l : List (List (List ℕ))). entry l n) are_named ∙ entry_named (map (token_of file)) lists n [] in (
          λ h. at_number h.0 (Among-from_Contains h.0 (map (token_of file) (entry_or lists n [])) (subst (λ (l : List (List ℕ)). Contains l h.0) same h.1)) h,
          λ so.
              let is = within n t so in
              let found = (meant n is.0 t).1 so in
              (found.0, subst (λ (l : List (List ℕ)). Contains l found.0) (sym same) found.1, found.2),
        )
      where
        meant : (k : ℕ) → IsNumberOf file.grammar.nonterminals k → (u : ℕ) → ((name : List ℕ) × Contains (map (token_of file) (entry_or lists k [])) name × IsTokenNamed file name u) ↔ IsEdge k u
        meant k is u = token_meant (entry_or lists k []) (IsEdge k) (row_is IsEdge lists zip k is) (λ v so. (within k v so).1) u

        number_of : (k : ℕ) (name : List ℕ) → Among name (map (token_of file) (entry_or lists k [])) → IsNumberOf file.grammar.nonterminals k
        number_of zero name among = absurd among
        number_of (suc k) name among =
            ⊎_elim (λ (low : k < length lists). (omega arith, omega (arith, low, many)))
            (λ (past : length lists ≤ k).
            absurd (subst (λ (l : List ℕ). Among name (map (token_of file) l)) (get_or_past lists k [] past) among))
            (cases_lt k (length lists))

        at_number : (other : List ℕ) → Among other (map (token_of file) (entry_or lists n [])) → (name : List ℕ) × Contains (entry named_lists n) name × IsTokenNamed file name t → IsEdge n t
        at_number other among h =
            let same : entry named_lists n ≡ map (token_of file) (entry_or lists n []) = ap (λ (l : List (List (List ℕ))). entry l n) are_named ∙ entry_named (map (token_of file)) lists n [] in
            (meant n (number_of n other among) t).0 (h.0, subst (λ (l : List (List ℕ)). Contains l h.0) same h.1, h.2)

    first_claims : (n t : ℕ) → ClaimsToken file lines First n t ↔ IsFirstOf file.grammar n t
    first_claims =
        row_claims (IsFirstOf file.grammar) closed.first (rows First lines) told.first are.first (first_number file.grammar well) (first_many file named.is closed are ∙ named.is.nonterminals)

    last_claims : (n t : ℕ) → ClaimsToken file lines Last n t ↔ IsLastOf file.grammar n t
    last_claims =
        row_claims (IsLastOf file.grammar) closed.last (rows Last lines) told.last are.last (last_number file.grammar well) (last_many file named.is closed are ∙ named.is.nonterminals)

    behind_token : (t : ℕ) → names_behind lines (marks.Token t) ≡ map (mark_text file) (entry_or closed.next t [])
    behind_token t = ap (λ (l : List (List (List ℕ))). entry (drop 1 l) t) told.next ∙ entry_named (map (mark_text file)) closed.next t []

    behind_number : (t : ℕ) (name : List ℕ) → Contains (map (mark_text file) (entry_or closed.next t [])) name → IsNumberOf file.grammar.tokens t
    behind_number zero name h = let low = h.1 in absurd (omega (arith, low))
    behind_number (suc k) name h =
        let many = next_many file named.is closed are ∙ named.is.tokens in
        ⊎_elim (λ (low : k < length closed.next). (omega arith, omega (arith, low, many)))
        (λ (past : length closed.next ≤ k).
        let none = subst (λ (l : List Mark). Contains (map (mark_text file) l) name) (get_or_past closed.next k [] past) h in
        let low = none.1 in absurd (omega (arith, low)))
        (cases_lt k (length closed.next))

    next_claims : (a b : Mark) → ClaimsNext file lines a b ↔ IsAdjacent file.grammar a b
    next_claims marks.Begin b =
        subst (λ (l : List (List (List ℕ))). ((name : List ℕ) × Contains (entry l 1) name × IsBehindNamed file name b) ↔ IsAdjacent file.grammar marks.Begin b) (sym told.next) (mark_meant marks.Begin tt b)
    next_claims (marks.Token t) b = (
      λ h.
          let here = subst (λ (l : List (List ℕ)). Contains l h.0) (behind_token t) h.1 in
          (mark_meant (marks.Token t) (behind_number t h.0 here) b).0 (h.0, here, h.2),
      λ so.
          let found = (mark_meant (marks.Token t) (adjacent_left file.grammar well (marks.Token t) b so) b).1 so in
          (found.0, subst (λ (l : List (List ℕ)). Contains l found.0) (sym (behind_token t)) found.1, found.2),
    )
    next_claims marks.End b = (λ h. let low = h.1.1 in absurd (omega (arith, low)), λ so. absurd (adjacent_left file.grammar well marks.End b so))

    -- sets that are claimed are exact
    pub claimed_exact : (s : PlainSets) → AreClaimed file lines s → AreExact file.grammar s
    claimed_exact s claimed = record {
      productive = λ n. (λ h. (claims_productive n).0 ((claimed.productive n).0 h), λ h. (claimed.productive n).1 ((claims_productive n).1 h));
      reachable = λ n. (λ h. (claims_reachable n).0 ((claimed.reachable n).0 h), λ h. (claimed.reachable n).1 ((claims_reachable n).1 h));
      empty = λ n. (λ h. (claims_empty n).0 ((claimed.empty n).0 h), λ h. (claimed.empty n).1 ((claims_empty n).1 h));
      first = λ n b. (λ h. (first_claims n b).0 ((claimed.first n b).0 h), λ h. (claimed.first n b).1 ((first_claims n b).1 h));
      last = λ n a. (λ h. (last_claims n a).0 ((claimed.last n a).0 h), λ h. (claimed.last n a).1 ((last_claims n a).1 h));
      next = λ a b. (λ h. (next_claims a b).0 ((claimed.next a b).0 h), λ h. (claimed.next a b).1 ((next_claims a b).1 h));
    }

  -- ---- sets that are claimed

  -- the sets that the lists of names stand for
  abbrev pub made : PlainSets
  made = record {
    productive = set_by (has_number closed.productive) file.grammar.nonterminals;
    reachable = set_by (has_number closed.reachable) file.grammar.nonterminals;
    empty = set_by (has_number closed.empty) file.grammar.nonterminals;
    first = table_by (λ n t. has_number (entry_or closed.first n []) t) file.grammar.nonterminals file.grammar.tokens;
    last = table_by (λ n t. has_number (entry_or closed.last n []) t) file.grammar.nonterminals file.grammar.tokens;
    begin = set_by (λ t. has_mark closed.begin (marks.Token t)) file.grammar.tokens;
    next = table_by (λ a b. has_mark (entry_or closed.next a []) (marks.Token b)) file.grammar.tokens file.grammar.tokens;
    end = set_by (λ a. has_mark (entry_or closed.next a []) marks.End) file.grammar.tokens;
    bare = has_mark closed.begin marks.End;
  }

  set_exact : (set : List ℕ) (IsSo : ℕ → Type 0) → AreThose IsSo (numbers file.grammar.nonterminals) set → ((n : ℕ) → IsSo n → IsNumberOf file.grammar.nonterminals n)
      → (n : ℕ) → IsIn (set_by (has_number set) file.grammar.nonterminals) n ↔ IsSo n
  set_exact set IsSo those within n = (
    λ h. (those_in IsSo (numbers file.grammar.nonterminals) set n those (number_among n set (in_set (has_number set) file.grammar.nonterminals n h).1)).0,
    λ so.
        let is = within n so in
        set_has (has_number set) file.grammar.nonterminals n is
        (among_number n set (those_has IsSo (numbers file.grammar.nonterminals) set n those (among_numbers file.grammar.nonterminals n is) so)),
  )

  table_exact : (IsEdge : ℕ → ℕ → Type 0) (lists : List (List ℕ)) → AllZip (λ n. AreThose (IsEdge n) (numbers file.grammar.tokens)) (numbers file.grammar.nonterminals) lists
      → ((n t : ℕ) → IsEdge n t → IsNumberOf file.grammar.nonterminals n × IsNumberOf file.grammar.tokens t)
      → (n t : ℕ) → IsPair (table_by (λ k u. has_number (entry_or lists k []) u) file.grammar.nonterminals file.grammar.tokens) n t ↔ IsEdge n t
  table_exact IsEdge lists zip within n t = (
    λ h.
        let is = in_table (λ k u. has_number (entry_or lists k []) u) file.grammar.nonterminals file.grammar.tokens n t h in
        (those_in (IsEdge n) (numbers file.grammar.tokens) (entry_or lists n []) t (row_is IsEdge lists zip n is.0) (number_among t (entry_or lists n []) is.2)).0,
    λ so.
        let is = within n t so in
        table_has (λ k u. has_number (entry_or lists k []) u) file.grammar.nonterminals file.grammar.tokens n t is.0 is.1
        (among_number t (entry_or lists n [])
        (those_has (IsEdge n) (numbers file.grammar.tokens) (entry_or lists n []) t (row_is IsEdge lists zip n is.0) (among_numbers file.grammar.tokens t is.1) so)),
  )

  -- a mark that is told behind another
  behind_so : (a : Mark) → IsLeftMark file.grammar well a → (b : Mark) → has_mark (behind a) b ≡ true → IsAdjacent file.grammar a b
  behind_so a is b h = (those_in (IsAdjacent file.grammar a) (right_marks file.grammar.tokens) (behind a) b (behind_is a is) (mark_among b (behind a) h)).0

  so_behind : (a b : Mark) → IsAdjacent file.grammar a b → has_mark (behind a) b ≡ true
  so_behind a b so =
      among_mark b (behind a)
      (those_has (IsAdjacent file.grammar a) (right_marks file.grammar.tokens) (behind a) b (behind_is a (adjacent_left file.grammar well a b so)) (adjacent_right file.grammar well a b so) so)

  token_right : (a : Mark) (t : ℕ) → IsAdjacent file.grammar a (marks.Token t) → IsNumberOf file.grammar.tokens t
  token_right a t so = token_is_number t (adjacent_right file.grammar well a (marks.Token t) so)

  next_exact : (a b : Mark) → IsNext made a b ↔ IsAdjacent file.grammar a b
  next_exact marks.Begin marks.Begin = (λ h. absurd h, λ so. absurd (begin_never (adjacent_right file.grammar well marks.Begin marks.Begin so)))
  next_exact marks.Begin (marks.Token t) = (
    λ h. behind_so marks.Begin tt (marks.Token t) (in_set (λ u. has_mark closed.begin (marks.Token u)) file.grammar.tokens t h).1,
    λ so. set_has (λ u. has_mark closed.begin (marks.Token u)) file.grammar.tokens t (token_right marks.Begin t so) (so_behind marks.Begin (marks.Token t) so),
  )
  next_exact marks.Begin marks.End = (λ h. behind_so marks.Begin tt marks.End h, λ so. so_behind marks.Begin marks.End so)
  next_exact (marks.Token a) marks.Begin = (λ h. absurd h, λ so. absurd (begin_never (adjacent_right file.grammar well (marks.Token a) marks.Begin so)))
  next_exact (marks.Token a) (marks.Token b) = (
    λ h.
        let is = in_table (λ k u. has_mark (entry_or closed.next k []) (marks.Token u)) file.grammar.tokens file.grammar.tokens a b h in
        behind_so (marks.Token a) is.0 (marks.Token b) is.2,
    λ so. table_has (λ k u. has_mark (entry_or closed.next k []) (marks.Token u)) file.grammar.tokens file.grammar.tokens a b
        (adjacent_left file.grammar well (marks.Token a) (marks.Token b) so) (token_right (marks.Token a) b so) (so_behind (marks.Token a) (marks.Token b) so),
  )
  next_exact (marks.Token a) marks.End = (
    λ h.
        let is = in_set (λ k. has_mark (entry_or closed.next k []) marks.End) file.grammar.tokens a h in
        behind_so (marks.Token a) is.0 marks.End is.1,
    λ so. set_has (λ k. has_mark (entry_or closed.next k []) marks.End) file.grammar.tokens a
        (adjacent_left file.grammar well (marks.Token a) marks.End so) (so_behind (marks.Token a) marks.End so),
  )
  next_exact marks.End marks.Begin = (λ h. absurd h, λ so. absurd (adjacent_left file.grammar well marks.End marks.Begin so))
  next_exact marks.End (marks.Token b) = (λ h. absurd h, λ so. absurd (adjacent_left file.grammar well marks.End (marks.Token b) so))
  next_exact marks.End marks.End = (λ h. absurd h, λ so. absurd (adjacent_left file.grammar well marks.End marks.End so))

  pub made_exact : AreExact file.grammar made
  made_exact = record {
    productive = set_exact closed.productive (HasTree file.grammar) are.productive (λ k so. tree_number file.grammar well (symbols.Nonterminal k) so.0 k refl so.1);
    reachable = set_exact closed.reachable (HasContext file.grammar) are.reachable (λ k so. context_number file.grammar well so.0 k so.1);
    empty = set_exact closed.empty (YieldsNothing file.grammar) are.empty (λ k so. tree_number file.grammar well (symbols.Nonterminal k) so.0 k refl so.1);
    first = table_exact (IsFirstOf file.grammar) closed.first are.first (first_number file.grammar well);
    last = table_exact (IsLastOf file.grammar) closed.last are.last (last_number file.grammar well);
    next = next_exact;
  }

  pub made_claimed : (lines : List Line) → AreTold file closed lines → AreClaimed file lines made
  made_claimed lines told = record {
    fit = record {
      first = table_long (λ n t. has_number (entry_or closed.first n []) t) file.grammar.nonterminals file.grammar.tokens;
      last = table_long (λ n t. has_number (entry_or closed.last n []) t) file.grammar.nonterminals file.grammar.tokens;
      rows = table_rows (λ n t. has_number (entry_or closed.last n []) t) file.grammar.nonterminals file.grammar.tokens;
    };
    productive = λ n. (λ h. (claims_productive lines told n).1 ((made_exact.productive n).0 h), λ h. (made_exact.productive n).1 ((claims_productive lines told n).0 h));
    reachable = λ n. (λ h. (claims_reachable lines told n).1 ((made_exact.reachable n).0 h), λ h. (made_exact.reachable n).1 ((claims_reachable lines told n).0 h));
    empty = λ n. (λ h. (claims_empty lines told n).1 ((made_exact.empty n).0 h), λ h. (made_exact.empty n).1 ((claims_empty lines told n).0 h));
    first = λ n t. (λ h. (first_claims lines told n t).1 ((made_exact.first n t).0 h), λ h. (made_exact.first n t).1 ((first_claims lines told n t).0 h));
    last = λ n t. (λ h. (last_claims lines told n t).1 ((made_exact.last n t).0 h), λ h. (made_exact.last n t).1 ((last_claims lines told n t).0 h));
    next = λ a b. (λ h. (next_claims lines told a b).1 ((made_exact.next a b).0 h), λ h. (made_exact.next a b).1 ((next_claims lines told a b).0 h));
  }
