-- A walk over a code that lists the contexts of its nodes.
use Rattle.std.proofs.Common.{◌≡◌, ℕ, ◌+◌, ◌<◌, ◌⊎◌, inl, inr, ⊎_elim, List, [], ◌∷◌, ◌++◌, map, drop, length, get_or, refl, sym, ap, ◌∙◌, subst, append_assoc, append-nil}
use Rattle.std.proofs.lemmas.List.{drop_more, map-append}
use Rattle.cs_grammar.specs.declared.symbol.Symbol.{Symbol}
use Rattle.cs_grammar.specs.declared.symbol.Symbol.TheVariants.{Token, Nonterminal}
use Rattle.cs_grammar.specs.Grammar.{Production, PlainGrammar, IsRule}
use Rattle.cs_grammar.specs.Tree.{Tree, Leaf, Node, Forest, Bare, Grown, IsTree, AreTrees, code, codes_of, IsDerivation}
use Rattle.cs_goals.specs.declared.goal.Goal.{Goal}
use Rattle.cs_goals.specs.declared.goal.Goal.TheVariants.{Context}
use Rattle.cs_goals.proofs.Entries.{reads}
use Rattle.cs_verdicts.specs.declared.cases.met.Spot.{Spot}
use Rattle.cs_verdicts.specs.Cases.Met.{contexts_from, contexts_of, spots_from, AreContexts, TakesFirst}

-- an open node: where it stands, its rule and its children
pub record Open : Type 0 where
  pub spot : Spot
  pub rule : ℕ
  pub children : Forest

abbrev pub spot_at : ℕ → ℕ → Spot
spot_at outer place = record { outer = outer; place = place }

-- the nodes among trees that stand at places of a rule from this one on
abbrev pub nodes_at : ℕ → ℕ → Forest → List Open
nodes_at outer place Bare = []
nodes_at outer place (Grown (Leaf t) f) = nodes_at outer (place + 1) f
nodes_at outer place (Grown (Node r h) f) = record { spot = spot_at outer place; rule = r; children = h } ∷ nodes_at outer (place + 1) f

abbrev pub spots : List Open → List Spot
spots ws = map (λ (w : Open). w.spot) ws

abbrev pub codes_open : List Open → List ℕ
codes_open [] = []
codes_open (w ∷ ws) = w.rule ∷ (codes_of w.children ++ codes_open ws)

abbrev pub contexts_open : List Open → List Goal
contexts_open [] = []
contexts_open (w ∷ ws) = Context w.spot.outer w.spot.place w.rule ∷ (contexts_from w.rule 1 w.children ++ contexts_open ws)

-- each is a node of its rule
abbrev pub AreOpen : PlainGrammar → List Open → Type 0
AreOpen g [] = Unit {0}
AreOpen g (w ∷ ws) = ((p : Production) × IsRule g w.rule p × AreTrees g p.right w.children) × AreOpen g ws

module _ (g : PlainGrammar) (o : ℕ) where
  spots-nodes_at : (k : ℕ) (f : Forest) (xs : List Symbol) → AreTrees g xs f → spots_from o k xs ≡ spots (nodes_at o k f)
  spots-nodes_at k Bare [] h = refl
  spots-nodes_at k Bare (x ∷ xs) h = absurd h
  spots-nodes_at k (Grown t f) [] h = absurd h
  spots-nodes_at k (Grown (Leaf s) f) (Token t ∷ xs) h = spots-nodes_at (k + 1) f xs h.1
  spots-nodes_at k (Grown (Leaf s) f) (Nonterminal n ∷ xs) h = let e = h.0 in absurd cc
  spots-nodes_at k (Grown (Node r c) f) (Token t ∷ xs) h = let e = h.0.2 in absurd cc
  spots-nodes_at k (Grown (Node r c) f) (Nonterminal n ∷ xs) h = ap (λ (l : List Spot). spot_at o k ∷ l) (spots-nodes_at (k + 1) f xs h.1)

  AreOpen-nodes_at : (k : ℕ) (f : Forest) (xs : List Symbol) → AreTrees g xs f → AreOpen g (nodes_at o k f)
  AreOpen-nodes_at k Bare xs h = tt
  AreOpen-nodes_at k (Grown t f) [] h = absurd h
  AreOpen-nodes_at k (Grown (Leaf s) f) (x ∷ xs) h = AreOpen-nodes_at (k + 1) f xs h.1
  AreOpen-nodes_at k (Grown (Node r c) f) (x ∷ xs) h = ((h.0.0, h.0.1, h.0.3), AreOpen-nodes_at (k + 1) f xs h.1)

AreOpen-append : (g : PlainGrammar) (vs ws : List Open) → AreOpen g vs → AreOpen g ws → AreOpen g (vs ++ ws)
AreOpen-append g [] ws hv hw = hw
AreOpen-append g (v ∷ vs) ws hv hw = (hv.0, AreOpen-append g vs ws hv.1 hw)

codes_open-nodes_at : (o k : ℕ) (f : Forest) → codes_open (nodes_at o k f) ≡ codes_of f
codes_open-nodes_at o k Bare = refl
codes_open-nodes_at o k (Grown (Leaf t) f) = codes_open-nodes_at o (k + 1) f
codes_open-nodes_at o k (Grown (Node r h) f) = ap (λ (l : List ℕ). r ∷ (codes_of h ++ l)) (codes_open-nodes_at o (k + 1) f)

codes_open-append : (vs ws : List Open) → codes_open (vs ++ ws) ≡ codes_open vs ++ codes_open ws
codes_open-append [] ws = refl
codes_open-append (v ∷ vs) ws =
    ap (λ (l : List ℕ). v.rule ∷ (codes_of v.children ++ l)) (codes_open-append vs ws)
    ∙ ap (λ (l : List ℕ). v.rule ∷ l) (sym (append_assoc (codes_of v.children) (codes_open vs) (codes_open ws)))

contexts_open-nodes_at : (o k : ℕ) (f : Forest) → contexts_open (nodes_at o k f) ≡ contexts_from o k f
contexts_open-nodes_at o k Bare = refl
contexts_open-nodes_at o k (Grown (Leaf t) f) = contexts_open-nodes_at o (k + 1) f
contexts_open-nodes_at o k (Grown (Node r h) f) = ap (λ (l : List Goal). Context o k r ∷ (contexts_from r 1 h ++ l)) (contexts_open-nodes_at o (k + 1) f)

contexts_open-append : (vs ws : List Open) → contexts_open (vs ++ ws) ≡ contexts_open vs ++ contexts_open ws
contexts_open-append [] ws = refl
contexts_open-append (v ∷ vs) ws =
    let first = Context v.spot.outer v.spot.place v.rule in
    let own = contexts_from v.rule 1 v.children in
    ap (λ (l : List Goal). first ∷ (own ++ l)) (contexts_open-append vs ws) ∙ ap (λ (l : List Goal). first ∷ l) (sym (append_assoc own (contexts_open vs) (contexts_open ws)))

-- within a tree: the open nodes have the rest of its code, and their contexts are those that are still to come
pub record IsWithin (g : PlainGrammar) (tree : Tree) (rest : List ℕ) (pending : List Spot) (old given : List Goal) : Type 0 where
  pub nodes : List Open
  pub are : AreOpen g nodes
  pub placed : pending ≡ spots nodes
  pub codes : rest ≡ codes_open nodes
  pub contexts : given ++ contexts_open nodes ≡ old ++ contexts_of tree

-- before the root
abbrev pub IsBefore : List ℕ → List ℕ → List Spot → List Goal → List Goal → Type 0
IsBefore rules rest pending old given = (rest ≡ rules) × (pending ≡ []) × (given ≡ old)

-- before an entry of a tree's code, of which this is the rest
pub record Walks (g : PlainGrammar) (rules rest : List ℕ) (pending : List Spot) (old given : List Goal) : Type 0 where
  pub tree : Tree
  pub is_tree : IsTree g (Nonterminal g.start) tree
  pub of_code : rules ≡ code tree
  pub state : IsBefore rules rest pending old given ⊎ IsWithin g tree rest pending old given

-- an entry: its rule, and where the walk is behind it
pub record Turn (g : PlainGrammar) (rules : List ℕ) (at : ℕ) (pending : List Spot) (old given : List Goal) : Type 0 where
  pub rule : Production
  pub number : IsRule g (get_or rules at 0) rule
  pub next : (others : List Spot) (shown : List Goal) → TakesFirst pending others (get_or rules at 0) given shown
      → Walks g rules (drop (at + 1) rules) (spots_from (get_or rules at 0) 1 rule.right ++ others) old shown

module _ (g : PlainGrammar) (rules : List ℕ) (old : List Goal) where
  pub walks_none : IsDerivation g (Nonterminal g.start) rules → Walks g rules rules [] old old
  walks_none d = record { tree = d.0; is_tree = d.1; of_code = d.2; state = inl (refl, refl, refl) }

  -- at the end
  within_end : (tree : Tree) (is_tree : IsTree g (Nonterminal g.start) tree) (of_code : rules ≡ code tree) (rest : List ℕ) (pending : List Spot) (given : List Goal) → rest ≡ [] → (nodes : List Open) → rest ≡ codes_open nodes → given ++ contexts_open nodes ≡ old ++ contexts_of tree → AreContexts g rules old given
  within_end tree is_tree of_code rest pending given none [] codes contexts = record {
    tree = tree;
    is_tree = is_tree;
    of_code = of_code;
    behind = sym (append-nil given) ∙ contexts;
  }
  within_end tree is_tree of_code rest pending given none (v ∷ vs) codes contexts = absurd cc

  before_end : (tree : Tree) → IsTree g (Nonterminal g.start) tree → rules ≡ code tree → rules ≡ [] → ⊥
  before_end (Leaf s) h e none = cc
  before_end (Node r f) h e none = cc

  pub walks_all : (rest : List ℕ) (pending : List Spot) (given : List Goal) → rest ≡ [] → Walks g rules rest pending old given → AreContexts g rules old given
  walks_all rest pending given none w =
      ⊎_elim (λ before. absurd (before_end w.tree w.is_tree w.of_code (sym before.0 ∙ none)))
      (λ within. within_end w.tree w.is_tree w.of_code rest pending given none within.nodes within.codes within.contexts)
      w.state

  module _ (at : ℕ) (within : at < length rules) (pending : List Spot) (given : List Goal) where
    turn_root : (tree : Tree) → IsTree g (Nonterminal g.start) tree → rules ≡ code tree → IsBefore rules (drop at rules) pending old given → Turn g rules at pending old given
    turn_root (Leaf s) h e before = absurd cc
    turn_root (Node r f) h e before =
        let read = reads rules at r (codes_of f) (before.0 ∙ e) in
        let entry = read.entry in
        record {
          rule = h.0;
          number = subst (λ n. IsRule g n h.0) (sym entry) h.1;
          next = λ others shown taken.
              let first = subst (λ (l : List Spot). TakesFirst l others (get_or rules at 0) given shown) before.1 taken in
              record {
                tree = Node r f;
                is_tree = h;
                of_code = e;
                state = inr (record {
                  nodes = nodes_at r 1 f;
                  are = AreOpen-nodes_at g r 1 f h.0.right h.3;
                  placed =
                      ap (λ (l : List Spot). spots_from (get_or rules at 0) 1 h.0.right ++ l) first.0
                      ∙ append-nil (spots_from (get_or rules at 0) 1 h.0.right)
                      ∙ ap (λ n. spots_from n 1 h.0.right) entry
                      ∙ spots-nodes_at g r 1 f h.0.right h.3;
                  codes = read.after ∙ sym (codes_open-nodes_at r 1 f);
                  contexts = ap (λ (l : List Goal). l ++ contexts_open (nodes_at r 1 f)) (first.1 ∙ before.2) ∙ ap (λ (l : List Goal). old ++ l) (contexts_open-nodes_at r 1 f);
                });
              };
        }

    turn_within : (tree : Tree) → IsTree g (Nonterminal g.start) tree → rules ≡ code tree → (nodes : List Open) → AreOpen g nodes → pending ≡ spots nodes → drop at rules ≡ codes_open nodes → given ++ contexts_open nodes ≡ old ++ contexts_of tree → Turn g rules at pending old given
    turn_within tree h e [] are placed codes contexts = let some = drop_more rules at 0 within in absurd cc
    turn_within tree h e (v ∷ vs) are placed codes contexts =
        let read = reads rules at v.rule (codes_of v.children ++ codes_open vs) codes in
        let entry = read.entry in
        let rule = are.0.0 in
        let inner = nodes_at v.rule 1 v.children in
        record {
          rule = rule;
          number = subst (λ n. IsRule g n rule) (sym entry) are.0.1;
          next = λ others shown taken.
              let first = subst (λ (l : List Spot). TakesFirst l others (get_or rules at 0) given shown) placed taken in
              let own = Context v.spot.outer v.spot.place v.rule in
              let shown_is : shown ≡ given ++ own ∷ [] = first.1 ∙ ap (λ n. given ++ Context v.spot.outer v.spot.place n ∷ []) entry in
              record {
                tree = tree;
                is_tree = h;
                of_code = e;
                state = inr (record {
                  nodes = inner ++ vs;
                  are = AreOpen-append g inner vs (AreOpen-nodes_at g v.rule 1 v.children rule.right are.0.2) are.1;
                  placed =
                      ap (λ (l : List Spot). spots_from (get_or rules at 0) 1 rule.right ++ l) first.0
                      ∙ ap (λ n. spots_from n 1 rule.right ++ spots vs) entry
                      ∙ ap (λ (l : List Spot). l ++ spots vs) (spots-nodes_at g v.rule 1 v.children rule.right are.0.2)
                      ∙ sym (map-append (λ (w : Open). w.spot) inner vs);
                  codes = read.after ∙ ap (λ (l : List ℕ). l ++ codes_open vs) (sym (codes_open-nodes_at v.rule 1 v.children)) ∙ sym (codes_open-append inner vs);
                  contexts =
                      ap (λ (l : List Goal). l ++ contexts_open (inner ++ vs)) shown_is
                      ∙ append_assoc given (own ∷ []) (contexts_open (inner ++ vs))
                      ∙ ap (λ (l : List Goal). given ++ own ∷ l) (contexts_open-append inner vs ∙ ap (λ (l : List Goal). l ++ contexts_open vs) (contexts_open-nodes_at v.rule 1 v.children))
                      ∙ contexts;
                });
              };
        }

    pub turn : Walks g rules (drop at rules) pending old given → Turn g rules at pending old given
    turn w =
        ⊎_elim (λ before. turn_root w.tree w.is_tree w.of_code before)
        (λ inside. turn_within w.tree w.is_tree w.of_code inside.nodes inside.are inside.placed inside.codes inside.contexts)
        w.state
