-- What is found has trees.
use Rattle.std.proofs.Common.{◌≡◌, ℕ, zero, suc, ◌+◌, ◌-◌, ◌<◌, inl, inr, List, [], ◌∷◌, ◌++◌, Some, length, take, drop, refl, sym, ap, ◌∙◌, subst, arith, append-nil}
use Rattle.std.specs.Prelude.{All, Contains, slice_get}
use Rattle.std.specs.List.{slice_range}
use Rattle.std.specs.Global.{Vec}
use Rattle.std.proofs.lemmas.Bool.{cases_eq}
use Rattle.std.proofs.lemmas.List.{drop_all, take_all}
use Rattle.std.proofs.lemmas.Option.{slice_get_within}
use Rattle.cs_grammar.specs.declared.symbol.Symbol.{Symbol}
use Rattle.cs_grammar.specs.declared.symbol.Symbol.TheVariants.{Token, Nonterminal}
use Rattle.cs_grammar.specs.Grammar.{Production, PlainGrammar, IsGrammar}
use Rattle.cs_grammar.specs.Sentence.{IsSentence}
use Rattle.cs_grammar.specs.Tree.{Tree, Leaf, Node, Forest, Grown, IsTree, AreTrees, yield}
use Rattle.cs_grammar.specs.Context.{join}
use Rattle.cs_grammar.proofs.OneTree.{one_rule}
use Rattle.cs_member.specs.Chart.Buckets.{rows_in}
use Rattle.cs_member.specs.declared.tables.item.Item.{Item}
use Rattle.cs_member.specs.declared.chart.chart.Position.{Position}
use Rattle.cs_member.specs.declared.chart.chart.Row.{Row}
use Rattle.cs_member.specs.declared.tables.fronts.Front.{Front}
use Rattle.cs_member.specs.declared.chart.now.Span.{Span}
use Rattle.cs_member.specs.declared.tables.tables.Tables.{Tables}
use Rattle.cs_member.specs.Tables.Item.{Awaits, IsDone, IsFront, over}
use Rattle.cs_member.specs.Tables.Sets.{InWords}
use Rattle.cs_member.specs.Tables.Fronts.{IsEntry}
use Rattle.cs_member.specs.Chart.Now.{IsPast, SpansIn}
use Rattle.cs_member.specs.Tables.Tables.{AreTrue, HasEmpty}
use Rattle.cs_member.specs.Chart.Chart.{OfScan, OfSpan, OfBucket, StandsAt}
use Rattle.cs_member.specs.Chart.Made.{IsChart}
use Rattle.cs_member.specs.Tables.Whole.{IsTables}
use Rattle.cs_member.specs.Derivation.Writing.{Between, AreTreesTo, IsTreeTo}
use Rattle.cs_member.proofs.OnTables.Places.{drop_step, at_from_take}
use Rattle.cs_member.proofs.OnTables.Emptying.{empty_forest}
use Rattle.cs_member.proofs.OnTables.Entering.{empty_kept}
use Rattle.cs_member.proofs.OnDerivation.Leading.{past_all}
use Rattle.cs_member.proofs.OnDerivation.Backing.{front_long, rows_token, rows_nonterminal, span_above, span_at, stood_in}
use Rattle.cs_member.proofs.OnDerivation.Spelling.{front_empties, no_tokens, trees_joined}

module _ (g : PlainGrammar) (tables : Tables) (tokens : List ℕ) (chart : List Position) (grammar : IsGrammar g) (is_tables : IsTables g tables) (is : IsChart g tables tokens (length tokens + 1) chart) where
  abbrev HasTrees : Item → ℕ → ℕ → Type 0
  HasTrees x from at = (f : Forest) × AreTreesTo g tokens x from at f

  abbrev HasTree : ℕ → ℕ → ℕ → Type 0
  HasTree a from at = (t : Tree) × IsTreeTo g tokens a from at t

  are_true : AreTrue g tables.empties.items
  are_true = (let e = is_tables.question.empties in record { size = e.size; some = e.some; rules = e.rules })

  -- trees go on over a symbol, and over those that have empty trees
  lead_trees : (x y : Item) (s : Symbol) (from k at : ℕ) (t : Tree) → HasTrees x from k → Awaits g x s → IsTree g s t → Between tokens k at (yield t) → IsPast g (over x) y → HasTrees y from at
  lead_trees x y s from k at t trees w tree between past =
      let p = w.rule in
      let range = slice_range p.right (x.place + 1) y.place in
      let all : All (HasEmpty tables.empties.items) range = past_all g tables.empties.items grammar is_tables.question.empties (over x) y p w.number past in
      let e = empty_forest g tables.empties.items are_true range all in
      (join trees.0 (Grown t e.0), trees_joined g tokens chart x y p s from k at trees.0 t e.0 w.number past.same w.at past.low trees.1 tree between e.1 e.2)

  -- at its end they are a tree
  end_tree : (x : Item) (a from at : ℕ) → IsDone g x a → HasTrees x from at → HasTree a from at
  end_tree x a from at done trees =
      let h = trees.1 in
      let one : h.rule ≡ done.rule = one_rule g x.rule x.rule h.rule done.rule refl h.number done.number in
      let whole : take x.place done.rule.right ≡ done.rule.right = take_all x.place done.rule.right (let end = done.whole in omega arith) in
      let front : AreTrees g (take x.place done.rule.right) trees.0 = subst (λ (q : Production). AreTrees g (take x.place q.right) trees.0) one h.are in
      let are : AreTrees g done.rule.right trees.0 = subst (λ (l : List Symbol). AreTrees g l trees.0) whole front in
      (Node x.rule trees.0, ((done.rule, done.number, ap Nonterminal (sym done.left), are), h.between))

  -- a front has trees without tokens
  front_trees : (x : Item) (a from at : ℕ) → from ≡ at → IsFront g a x → HasTrees x from at
  front_trees x a from at same front =
      let p = front.rule in
      let e = empty_forest g tables.empties.items are_true (take x.place p.right) (front_empties g tables.empties.items a x p grammar front.number is_tables.question.empties front) in
      (e.0, record { rule = p; number = front.number; are = e.1; between = ap (λ n. drop n tokens) same ∙ ap (λ (l : List ℕ). l ++ drop at tokens) (sym e.2) })

  -- what is found at a position has trees
  pub record IsSound (i : ℕ) : Type 0 where
    pub spans : (n : ℕ) (p : Position) (s : Span) → slice_get chart i ≡ Some p → slice_get p.spans.items n ≡ Some s → HasTree s.nonterminal s.from i
    pub stands : (x : Item) (j : ℕ) (p : Position) → slice_get chart i ≡ Some p → StandsAt p x j → HasTrees x j i

  module _ (i : ℕ) (before : (k : ℕ) → k < i → IsSound k) where
    -- behind an item of a position's bucket
    row_trees : (p : Position) (bucket : ℕ) (s : Symbol) (t : Tree) (k j : ℕ) (first y : Item) → k < i → slice_get chart k ≡ Some p
        → ((list : Vec Row) (row : Row) → slice_get (rows_in p.rows) bucket ≡ Some list → Contains list.items row → InWords row.words.items j → Awaits g row.item s)
        → IsTree g s t → Between tokens k i (yield t) → OfBucket p bucket first j → IsPast g first y → HasTrees y j i
    row_trees p bucket s t k j first y lt at rows tree between of past =
        let row = of.2.0 in
        let trees = (before k lt).stands row.item j p at (bucket, of.0, row, of.1, of.2.1, refl, of.2.3) in
        lead_trees row.item y s j k i t trees (rows of.0 row of.1 of.2.1 of.2.3) tree between (subst (λ (z : Item). IsPast g z y) of.2.2 past)

    -- behind a front
    begun_trees : (s : Symbol) (t : Tree) (k j : ℕ) (f : Front) (first y : Item) → IsEntry g s f → first ≡ f.item → j ≡ k → IsTree g s t → Between tokens k i (yield t) → IsPast g first y → HasTrees y j i
    begun_trees s t k j f first y entry same here tree between past =
        lead_trees entry.0 y s j k i t (front_trees entry.0 f.left j k here entry.1) entry.2 tree between (subst (λ (z : Item). IsPast g z y) (same ∙ entry.3) past)

    scan_trees : (p : Position) (first y : Item) (j : ℕ) → slice_get chart i ≡ Some p → OfScan (take i chart) tables.tokens.items tokens first j → IsPast g first y → HasTrees y j i
    scan_trees p first y j at scan past =
        let q = scan.0 in
        let t = scan.1 in
        let k : ℕ = length (take i chart) - 1 in
        let long : length (take i chart) ≡ i = front_long g tables tokens chart grammar is_tables is i p at in
        let inside = slice_get_within (take i chart) k q scan.2 in
        let next : k + 1 ≡ i = omega arith in
        let at_q : slice_get chart k ≡ Some q = at_from_take chart i k q scan.2 in
        let between : Between tokens k i (t ∷ []) = drop_step tokens k t scan.3 ∙ ap (λ n. t ∷ drop n tokens) next in
        elim scan.4 [
          | inl rows ↦ row_trees q 0 (Token t) (Leaf t) k j first y (omega arith) at_q (λ list row at_list has in_it. rows_token g tables tokens chart grammar is_tables is k t j q list row at_q scan.3 at_list has in_it) refl between rows past
          | inr begun ↦ begun_trees (Token t) (Leaf t) k j begun.2.0 first y (is_tables.question.tokens.entries t begun.2.0 (begun.0, begun.1, begun.2.1)) begun.2.3 begun.2.4 refl between past
        ]

    span_trees : (n : ℕ) (p : Position) (s : Span) (first y : Item) (j : ℕ) → slice_get chart i ≡ Some p → slice_get p.spans.items n ≡ Some s → HasTree s.nonterminal s.from i → OfSpan (take i chart) tables.nonterminals.items s first j → IsPast g first y → HasTrees y j i
    span_trees n p s first y j at at_s tree span past =
        let q = span.0 in
        let k = s.from in
        let low = (span_at g tables tokens chart grammar is_tables is i n p s at at_s).from in
        let above = span_above g tables tokens chart grammar is_tables is i n p s at at_s in
        let at_q : slice_get chart k ≡ Some q = at_from_take chart i k q span.1 in
        elim span.2 [
          | inl rows ↦ row_trees q s.nonterminal (Nonterminal s.nonterminal) tree.0 k j first y low at_q (λ list row at_list has in_it. rows_nonterminal g tables tokens chart grammar is_tables is k s.nonterminal q list row at_q above at_list has) tree.1.0 tree.1.1 rows past
          | inr begun ↦ begun_trees (Nonterminal s.nonterminal) tree.0 k j begun.2.0 first y (is_tables.question.nonterminals.entries s.nonterminal begun.2.0 (begun.0, begun.1, begun.2.1)) begun.2.3 begun.2.4 tree.1.0 tree.1.1 past
        ]

    -- each span has a tree, as those have that were found before it
    spans_sound : (m n : ℕ) (p : Position) (s : Span) → n < m → slice_get chart i ≡ Some p → slice_get p.spans.items n ≡ Some s → HasTree s.nonterminal s.from i
    spans_sound zero n p s lt at at_s = absurd (omega arith)
    spans_sound (suc m) n p s lt at at_s =
        let made = is.each i p at in
        let here : slice_get made.now.spans.items n ≡ Some s = ap (λ (l : List Span). slice_get l n) (sym made.spans) ∙ at_s in
        elim (made.from.spans n s here) [
          | inl token ↦ end_tree token.1 s.nonterminal s.from i token.5 (scan_trees p token.0 token.1 s.from at token.3 token.4)
          | inr span ↦
              let at_t : slice_get p.spans.items span.0 ≡ Some span.1 = ap (λ (l : List Span). slice_get l span.0) made.spans ∙ span.6 in
              let less = span.5 in
              let tree = spans_sound m span.0 p span.1 (omega arith) at at_t in
              end_tree span.3 s.nonterminal s.from i span.9 (span_trees span.0 p span.1 span.2 span.3 s.from at at_t tree span.7 span.8)
        ]

    sound_here : IsSound i
    sound_here = record {
      spans = λ n p s at at_s. spans_sound (n + 1) n p s (omega arith) at at_s;
      stands = λ x j p at stands.
          let made = is.each i p at in
          elim (made.from.stands x j (stood_in g tables tokens chart is_tables is x j i p at stands)) [
            | inl token ↦ scan_trees p token.0 x j at token.1 token.2
            | inr span ↦
                let at_t : slice_get p.spans.items span.0 ≡ Some span.1 = ap (λ (l : List Span). slice_get l span.0) made.spans ∙ span.3 in
                span_trees span.0 p span.1 span.2 x j at at_t (spans_sound (span.0 + 1) span.0 p span.1 (omega arith) at at_t) span.4 span.5
          ];
    }

  all_sound : (m k : ℕ) → k < m → IsSound k
  all_sound zero k lt = absurd (omega arith)
  all_sound (suc m) k lt = elim (cases_eq k m) [
    | inl same ↦ subst (λ n. IsSound n) (sym same) (sound_here m (all_sound m))
    | inr other ↦ all_sound m k (omega arith)
  ]

  -- a span of the whole list shows that it is a sentence
  pub spans_sentence : (at : ℕ) (p : Position) → at ≡ length tokens → slice_get chart at ≡ Some p → SpansIn p.spans.items g.start 0 → IsSentence g tokens
  spans_sentence at p last at_p h =
      let s = h.1 in
      let t = (all_sound (at + 1) at (omega arith)).spans h.0 p s at_p h.2 in (
        t.0,
        subst (λ a. IsTree g (Nonterminal a) t.0) h.3 t.1.0,
        ap (λ k. drop k tokens) (sym h.4) ∙ (t.1.1 ∙ (ap (λ (l : List ℕ). yield t.0 ++ l) (drop_all at tokens (omega arith)) ∙ append-nil (yield t.0))),
      )

  -- so does an empty tree of the start symbol, where the list is empty
  pub empty_sentence : length tokens ≡ 0 → HasEmpty tables.empties.items (Nonterminal g.start) → IsSentence g tokens
  empty_sentence none h =
      let t = empty_kept g tables.empties.items g.start is_tables.question.empties h in
      (t.0, t.1, no_tokens tokens none ∙ sym t.2)
