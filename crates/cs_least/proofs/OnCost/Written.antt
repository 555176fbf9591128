-- The chosen trees' codes are written.
use Rattle.std.proofs.Common.{◌≡◌, ℕ, ◌+◌, ◌-◌, ◌<◌, ◌≤◌, List, [], ◌∷◌, ◌++◌, get_or, reverse, true, refl, sym, ap, ◌∙◌, subst, ⊎_elim, arith, append_assoc, append-nil}
use Rattle.std.specs.Prelude.{All}
use Rattle.std.specs.List.{list_all, sum_by}
use Rattle.std.proofs.lemmas.Bool.{cases_lt, false≢true}
use Rattle.std.proofs.lemmas.List.{reverse-append}
use Rattle.std.proofs.lemmas.List.Sums.{sum_by-cons, sum_by-append}
use Rattle.std.proofs.lemmas.List.Elements.{All-nil, All-cons, All-head, All-tail, All-append}
use Rattle.std.proofs.lemmas.Option.{get_or_from_slice_get}
use Rattle.cs_grammar.specs.declared.symbol.Symbol.{Symbol}
use Rattle.cs_grammar.specs.declared.symbol.Symbol.TheVariants.{Token, Nonterminal}
use Rattle.cs_grammar.specs.Grammar.{Production, PlainGrammar, IsRule, IsNumberOf, IsSymbol}
use Rattle.cs_grammar.specs.Weights.{Measure, IsMeasure}
use Rattle.cs_grammar.specs.Tree.{Tree, Leaf, Node, Forest, Bare, Grown, IsTree, AreTrees, size, sizes, code, codes_of}
use Rattle.cs_grammar.proofs.OneTree.{one_rule}
use Rattle.cs_grammar.proofs.Measures.{number_above}
use Rattle.cs_least.specs.declared.cost.cost.Cost.{Cost}
use Rattle.cs_least.specs.Cost.Rank.{rank, cost_of, plus, sum_from, entry}
use Rattle.cs_least.specs.Cost.Chosen.{IsChosen, AreChosen}
use Rattle.cs_least.specs.Cost.Trees.{IsTreeOf, cost_in, node_cost, IsCostTable, IsFirstRule}
use Rattle.cs_least.specs.Cost.Parts.{is_token, IsText, IsWithin, IsGrown, IsRoot, Opens}
use Rattle.cs_least.proofs.OnCost.Ranks.{rank-cost_of, plus_written, cost_least}
use Rattle.cs_least.proofs.OnCost.TreeCosts.{forest_at_most, node_reached}
use Rattle.cs_least.proofs.OnCost.ChosenTrees.{IsTree-chosen, AreTrees-chosen}
use Rattle.cs_least.proofs.OnCost.Rules.{well_formed_at}
use Rattle.cs_least.proofs.OnCost.FirstRules.{symbol_low, symbols_reached}

-- what these symbols cost together
abbrev pub costs_of : ℕ → (Symbol → Cost) → List Symbol → ℕ
costs_of limit told [] = 0
costs_of limit told (x ∷ xs) = rank limit (told x) + costs_of limit told xs

module _ (limit : ℕ) (told : Symbol → Cost) where
  -- a sum within the limit is the sum of the parts
  pub sum_from_written : (xs : List Symbol) (sum : Cost) → rank limit (sum_from limit told sum xs) ≤ limit → rank limit (sum_from limit told sum xs) ≡ rank limit sum + costs_of limit told xs
  sum_from_written [] sum h = omega arith
  sum_from_written (x ∷ xs) sum h =
      let rest = sum_from_written xs (plus limit sum (told x)) h in
      let small : rank limit (plus limit sum (told x)) ≤ limit = omega (arith, rest, h) in
      omega (arith, rest, plus_written limit sum (told x) small)

-- how much there is to write, at most
abbrev pub part_work : Measure → List Cost → Symbol → ℕ
part_work w table (Token t) = 1
part_work w table (Nonterminal n) = rank w.limit (entry table n)

-- which is no more than what symbols cost
pub part_least : (w : Measure) (table : List Cost) (x : Symbol) → IsMeasure w → part_work w table x ≤ rank w.limit (cost_in w table x)
part_least w table (Token t) is = omega (arith, rank-cost_of w.limit (size w (Leaf t)), number_above w t is)
part_least w table (Nonterminal n) is = omega arith

pub sum_by-map : (w : Measure) (table : List Cost) (xs : List Symbol) → IsMeasure w → sum_by (part_work w table) (xs) ≤ costs_of w.limit (cost_in w table) xs
sum_by-map w table [] is = omega arith
sum_by-map w table (x ∷ xs) is =
    omega (arith, sum_by-cons (part_work w table) x (xs), part_least w table x is, sum_by-map w table xs is)

-- parts one after another
pub IsText-whole : (w : Measure) (g : PlainGrammar) (f : Forest) (xs : List Symbol) (parts : List Symbol) (rest : List ℕ) → AreChosen w g xs f → IsText w g parts rest → IsText w g (xs ++ parts) (codes_of f ++ rest)
IsText-whole w g Bare [] parts rest cf h = h
IsText-whole w g Bare (x ∷ xs) parts rest cf h = absurd cf
IsText-whole w g (Grown t f) [] parts rest cf h = absurd cf
IsText-whole w g (Grown t f) (x ∷ xs) parts rest cf h =
    (t, codes_of f ++ rest, cf.0, IsText-whole w g f xs parts rest cf.1 h, append_assoc (code t) (codes_of f) rest)

-- the chosen trees of tokens have no code
leaf_text : (w : Measure) (g : PlainGrammar) (t : ℕ) (u : Tree) → IsChosen w g (Token t) u → code u ≡ []
leaf_text w g t (Leaf s) c = refl
leaf_text w g t (Node q f) c = let d = c.2 in absurd cc

pub tokens_text : (w : Measure) (g : PlainGrammar) (xs : List Symbol) (text : List ℕ) → list_all is_token xs ≡ true → IsText w g xs text → text ≡ []
tokens_text w g [] text e is = is
tokens_text w g (Token t ∷ xs) text e is =
    is.4 ∙ ap (λ (l : List ℕ). l ++ is.1) (leaf_text w g t is.0 is.2) ∙ tokens_text w g xs is.1 e is.3
tokens_text w g (Nonterminal n ∷ xs) text e is = absurd (false≢true e)

-- trees within the limit together are so each
pub forest_within : (w : Measure) (g : PlainGrammar) (f : Forest) (xs : List Symbol) → AreTrees g xs f → sizes w f ≤ w.limit → All (IsSymbol g.tokens g.nonterminals) xs → All (IsWithin w g) (xs)
forest_within w g Bare [] h le each = All-nil (IsWithin w g)
forest_within w g Bare (x ∷ xs) h le each = absurd h
forest_within w g (Grown t f) [] h le each = absurd h
forest_within w g (Grown t f) (x ∷ xs) h le each =
    All-cons (IsWithin w g) x (xs)
    (All-head (IsSymbol g.tokens g.nonterminals) x xs each, (t, h.0, omega (arith, le)))
    (forest_within w g f xs h.1 (omega (arith, le)) (All-tail (IsSymbol g.tokens g.nonterminals) x xs each))

module _ (w : Measure) (g : PlainGrammar) (table : List Cost) (exact : IsCostTable w g table) (left r : ℕ) (first : IsFirstRule w g table left r) (small : rank w.limit (entry table left) ≤ w.limit) where
  -- the rule costs what the table says
  pub node_is : rank w.limit (node_cost w table first.rule.right) ≡ rank w.limit (entry table left)
  node_is =
      let f = node_reached w g (cost_in w table) (symbols_reached w g table exact) r first.rule first.number (omega (arith, first.cost, small)) in
      let below = symbol_low w g table exact (Nonterminal left) (Node r f.0) (first.rule, first.number, ap Nonterminal (sym first.of_left), f.1) in
      omega (arith, first.cost, f.2, below)

  pub node_sum : rank w.limit (entry table left) ≡ 1 + costs_of w.limit (cost_in w table) first.rule.right
  node_sum = omega (arith, node_is, small, rank-cost_of w.limit 1, sum_from_written w.limit (cost_in w table) first.rule.right (cost_of w.limit 1) (omega (arith, node_is, small)))

  -- it stands at the root of the chosen tree
  pub root_is : (q : ℕ) (f : Forest) → IsChosen w g (Nonterminal left) (Node q f) → q ≡ r
  root_is q f h =
      let least = cost_least w.limit (IsTreeOf g left) (size w) (entry table left) (exact.exact left) small in
      let is_tree = IsTree-chosen w g (Node q f) (Nonterminal left) h in
      let measured : size w (Node q f) ≡ rank w.limit (entry table left) =
      omega (arith, least.2, h.3.least least.0 least.1, symbol_low w g table exact (Nonterminal left) (Node q f) is_tree, small) in
      let n = node_reached w g (cost_in w table) (symbols_reached w g table exact) r first.rule first.number (omega (arith, first.cost, small)) in
      let here : IsTree g (Nonterminal left) (Node r n.0) = (first.rule, first.number, ap Nonterminal (sym first.of_left), n.1) in
      let even : size w (Node r n.0) ≡ size w (Node q f) =
      omega (arith, n.2, first.cost, small, measured, symbol_low w g table exact (Nonterminal left) (Node r n.0) here) in
      let lower = h.3.lowest r n.0 here even in
      ⊎_elim
      (λ before.
      let of_left : h.0.left ≡ left = (let e = h.2 in cc) in
      let dear = first.earlier q h.0 before h.1 of_left in
      let cheap = forest_at_most w g (cost_in w table) (symbol_low w g table exact) f h.0.right (cost_of w.limit 1) 1 (omega (arith, rank-cost_of w.limit 1)) (AreTrees-chosen w g f h.0.right h.4) in
      absurd (omega (arith, dear, cheap, measured)))
      (λ not_before. omega (arith, lower, not_before))
      (cases_lt q r)

  -- its children are within the limit
  pub children_within : All (IsWithin w g) (first.rule.right)
  children_within =
      let f = node_reached w g (cost_in w table) (symbols_reached w g table exact) r first.rule first.number (omega (arith, first.cost, small)) in
      forest_within w g f.0 first.rule.right f.1 (omega (arith, f.2, first.cost, small)) (well_formed_at g (r - 1) first.rule exact.weighs.grammar first.number.at).right

-- where a writer stands: what is pending, in its order, and what is written, of what was pending at its start
pub record Writes (w : Measure) (g : PlainGrammar) (table : List Cost) (start_parts : List Symbol) (start : List ℕ) (parts : List Symbol) (out : List ℕ) : Type 0 where
  pub within : All (IsWithin w g) parts
  pub rest : (text : List ℕ) → IsText w g start_parts text → (more : List ℕ) × IsText w g parts more × (out ++ more ≡ start ++ text)

module _ (w : Measure) (g : PlainGrammar) (table : List Cost) (start_parts : List Symbol) (start : List ℕ) where
  leaf_written : (t : ℕ) (parts : List Symbol) (out goal more rest : List ℕ) (u : Tree) → IsChosen w g (Token t) u → IsText w g parts rest → more ≡ code u ++ rest → out ++ more ≡ goal → (rest : List ℕ) × IsText w g parts rest × (out ++ rest ≡ goal)
  leaf_written t parts out goal more rest (Leaf s) c is e whole = (rest, is, ap (λ (m : List ℕ). out ++ m) (sym e) ∙ whole)
  leaf_written t parts out goal more rest (Node q f) c is e whole = let d = c.2 in absurd cc

  pub writes_leaf : (t : ℕ) (parts : List Symbol) (out : List ℕ) → Writes w g table start_parts start ((Token t) ∷ parts) out → Writes w g table start_parts start parts out
  writes_leaf t parts out so_far = record {
    within = All-tail (IsWithin w g) (Token t) parts so_far.within;
    rest = λ text is. let m = so_far.rest text is in leaf_written t parts out (start ++ text) m.0 m.1.1 m.1.0 m.1.2 m.1.3 m.1.4 m.2;
  }

  module _ (exact : IsCostTable w g table) (left r : ℕ) (first : IsFirstRule w g table left r) where
    node_written : (parts : List Symbol) (out goal more rest : List ℕ) (u : Tree) → rank w.limit (entry table left) ≤ w.limit → IsChosen w g (Nonterminal left) u → IsText w g parts rest → more ≡ code u ++ rest → out ++ more ≡ goal → (after : List ℕ) × IsText w g (first.rule.right ++ parts) after × (out ++ r ∷ [] ++ after ≡ goal)
    node_written parts out goal more rest (Leaf s) small c is e whole = absurd cc
    node_written parts out goal more rest (Node q f) small c is e whole =
        let number = root_is w g table exact left r first small q f c in
        let same = one_rule g q r c.0 first.rule number c.1 first.number in
        let children = subst (λ (p : Production). AreChosen w g p.right f) same c.4 in
        let there : out ++ r ∷ [] ++ (codes_of f ++ rest) ≡ out ++ more =
        append_assoc out (r ∷ []) (codes_of f ++ rest) ∙ ap (λ (n : ℕ). out ++ (n ∷ (codes_of f ++ rest))) (sym number) ∙ ap (λ (m : List ℕ). out ++ m) (sym e) in
        (codes_of f ++ rest, IsText-whole w g f first.rule.right parts rest children is, there ∙ whole)

    pub writes_node : (parts : List Symbol) (out : List ℕ) → Writes w g table start_parts start ((Nonterminal left) ∷ parts) out → Writes w g table start_parts start (first.rule.right ++ parts) (out ++ r ∷ [])
    writes_node parts out so_far =
        let here = All-head (IsWithin w g) (Nonterminal left) parts so_far.within in
        let small : rank w.limit (entry table left) ≤ w.limit = omega (arith, symbol_low w g table exact (Nonterminal left) here.1.0 here.1.1, here.1.2) in
        record {
          within = All-append (IsWithin w g) (first.rule.right) parts
              (children_within w g table exact left r first small)
              (All-tail (IsWithin w g) (Nonterminal left) parts so_far.within);
          rest = λ text is. let m = so_far.rest text is in node_written parts out (start ++ text) m.0 m.1.1 m.1.0 small m.1.2 m.1.3 m.1.4 m.2;
        }

  -- one more tree is written
  pub writes_tree : (left : ℕ) (parts : List Symbol) (out new : List ℕ) → ((text : List ℕ) → IsText w g (Nonterminal left ∷ []) text → new ≡ out ++ text) → Writes w g table start_parts start (Nonterminal left ∷ parts) out → Writes w g table start_parts start parts new
  writes_tree left parts out new tree so_far = record {
    within = All-tail (IsWithin w g) (Nonterminal left) parts so_far.within;
    rest = λ text is.
        let m = so_far.rest text is in
        let u = m.1.0 in
        let written = tree (code u) (u, [], m.1.2, refl, sym (append-nil (code u))) in
        (m.1.1, m.1.3, ap (λ (l : List ℕ). l ++ m.1.1) written ∙ append_assoc out (code u) m.1.1 ∙ ap (λ (l : List ℕ). out ++ l) (sym m.1.4) ∙ m.2);
  }

  -- all are
  pub writes_whole : (out : List ℕ) → Writes w g table start_parts start [] out → (text : List ℕ) → IsText w g start_parts text → out ≡ start ++ text
  writes_whole out so_far text is = let m = so_far.rest text is in sym (append-nil out) ∙ ap (λ (l : List ℕ). out ++ l) (sym m.1) ∙ m.2

-- none is yet
pub writes_begin : (w : Measure) (g : PlainGrammar) (table : List Cost) (parts : List Symbol) (start : List ℕ) → All (IsWithin w g) parts → Writes w g table parts start parts start
writes_begin w g table parts start within = record { within = within; rest = λ text is. (text, is, refl) }

module _ (w : Measure) (g : PlainGrammar) (table : List Cost) (exact : IsCostTable w g table) (left : ℕ) (within : IsWithin w g (Nonterminal left)) where
  pub left_small : IsNumberOf g.nonterminals left × (rank w.limit (entry table left) ≤ w.limit)
  left_small = (within.0, omega (arith, symbol_low w g table exact (Nonterminal left) within.1.0 within.1.1, within.1.2))

  module _ (right : List Symbol) (old out : List ℕ) (root : IsRoot w g table left right old out) where
    -- behind a root that is written comes the text of its right side
    begun : Writes w g table (Nonterminal left ∷ []) old right out
    begun =
        let alone = All-cons (IsWithin w g) (Nonterminal left) [] within (All-nil (IsWithin w g)) in
        let next = writes_node w g table (Nonterminal left ∷ []) old exact left root.number root.first [] old (writes_begin w g table (Nonterminal left ∷ []) old alone) in
        subst (λ (l : List ℕ). Writes w g table (Nonterminal left ∷ []) old right l) (sym root.text)
        (subst (λ (l : List Symbol). Writes w g table (Nonterminal left ∷ []) old l (old ++ root.number ∷ [])) (append-nil root.first.rule.right ∙ sym root.of_rule) next)

    pub right_within : All (IsWithin w g) right
    right_within = begun.within

    pub tree_above_tokens : list_all is_token right ≡ true → (text : List ℕ) → IsText w g (Nonterminal left ∷ []) text → out ≡ old ++ text
    tree_above_tokens tokens text is =
        let m = begun.rest text is in
        sym (append-nil out) ∙ ap (λ (l : List ℕ). out ++ l) (sym (tokens_text w g right m.0 tokens m.1)) ∙ m.2

    pub tree_written : (new : List ℕ) → ((text : List ℕ) → IsText w g right text → new ≡ out ++ text) → (text : List ℕ) → IsText w g (Nonterminal left ∷ []) text → new ≡ old ++ text
    tree_written new writes text is = let m = begun.rest text is in writes m.0 m.1 ∙ m.2

-- the front of what stood in reverse
pub pending_front : (items rest : List Symbol) (part : Symbol) → items ≡ rest ++ part ∷ [] → reverse items ≡ part ∷ reverse rest
pending_front items rest part e = ap reverse e ∙ reverse-append rest (part ∷ [])

module _ (w : Measure) (g : PlainGrammar) (table : List Cost) (start_parts : List Symbol) (start out : List ℕ) where
  -- the loop's steps, by what was taken from the end of what is pending
  pub loop_leaf : (t : ℕ) (items rest : List Symbol) → items ≡ rest ++ (Token t) ∷ [] → Writes w g table start_parts start (reverse items) out → Writes w g table start_parts start (reverse rest) out
  loop_leaf t items rest e so_far =
      writes_leaf w g table start_parts start t (reverse rest) out
      (subst (λ (ps : List Symbol). Writes w g table start_parts start ps out) (pending_front items rest (Token t) e) so_far)

  pub front_within : (n : ℕ) (items rest : List Symbol) → IsCostTable w g table → items ≡ rest ++ (Nonterminal n) ∷ [] → Writes w g table start_parts start (reverse items) out → IsNumberOf g.nonterminals n × (rank w.limit (entry table n) ≤ w.limit)
  front_within n items rest exact e so_far =
      let here = All-head (IsWithin w g) (Nonterminal n) (reverse rest)
      (subst (λ (ps : List Symbol). All (IsWithin w g) ps) (pending_front items rest (Nonterminal n) e) so_far.within) in
      (here.0, omega (arith, symbol_low w g table exact (Nonterminal n) here.1.0 here.1.1, here.1.2))

  pub loop_node : (n : ℕ) (items rest after : List Symbol) (written : List ℕ) → IsCostTable w g table → items ≡ rest ++ (Nonterminal n) ∷ [] → Opens w g table n rest after out written → Writes w g table start_parts start (reverse items) out → Writes w g table start_parts start (reverse after) written
  loop_node n items rest after written exact e opens so_far =
      let front = subst (λ (ps : List Symbol). Writes w g table start_parts start ps out) (pending_front items rest (Nonterminal n) e) so_far in
      let next = writes_node w g table start_parts start exact n opens.number opens.first (reverse rest) out front in
      subst (λ (ps : List Symbol). Writes w g table start_parts start ps written) (sym opens.pending)
      (subst (λ (o : List ℕ). Writes w g table start_parts start (opens.first.rule.right ++ reverse rest) o) (sym opens.text) next)

module _ (w : Measure) (table : List Cost) where
  work_front : (items rest : List Symbol) (part : Symbol) → items ≡ rest ++ part ∷ [] → sum_by (part_work w table) (reverse items) ≡ part_work w table part + sum_by (part_work w table) (reverse rest)
  work_front items rest part e =
      ap (λ (ps : List Symbol). sum_by (part_work w table) ps) (pending_front items rest part e)
      ∙ sum_by-cons (part_work w table) part (reverse rest)

  -- a node that is written leaves less to write
  pub node_falls : (g : PlainGrammar) (n : ℕ) (items rest after : List Symbol) (old new : List ℕ) → IsCostTable w g table → rank w.limit (entry table n) ≤ w.limit → items ≡ rest ++ (Nonterminal n) ∷ [] → Opens w g table n rest after old new → sum_by (part_work w table) (reverse after) < sum_by (part_work w table) (reverse items)
  node_falls g n items rest after old new exact small e opens =
      let there = ap (λ (ps : List Symbol). sum_by (part_work w table) ps) opens.pending
      ∙ sum_by-append (part_work w table) (opens.first.rule.right) (reverse rest) in
      omega (arith, work_front items rest (Nonterminal n) e, there, sum_by-map w table opens.first.rule.right exact.weighs.weights, node_sum w g table exact n opens.number opens.first small)

-- the rule that was read is the rule of that number
pub rule_read : (g : PlainGrammar) (r : ℕ) (p q : Production) (rules : List Production) → IsRule g r p → rules ≡ g.rules → q ≡ get_or rules (r - 1) q → q ≡ p
rule_read g r p q rules rule e read =
    read ∙ ap (λ (ps : List Production). get_or ps (r - 1) q) e ∙ get_or_from_slice_get g.rules (r - 1) p q rule.at

-- what stands behind more stands behind all
pub grown_more : (old mid new : List ℕ) → IsGrown old mid → IsGrown mid new → IsGrown old new
grown_more old mid new f s = (f.0 ++ s.0, s.1 ∙ ap (λ (l : List ℕ). l ++ s.0) f.1 ∙ append_assoc old f.0 s.0)
