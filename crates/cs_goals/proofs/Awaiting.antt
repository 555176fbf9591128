-- A walk over a code that knows which open nodes are awaited.
use Rattle.std.proofs.Common.{◌≡◌, ◌≢◌, ℕ, zero, suc, ◌+◌, ◌-◌, ◌<◌, Bool, true, false, eqb, List, [], ◌∷◌, ◌++◌, map, drop, length, get_or, reverse, Option, Some, None, refl, sym, ap, ◌∙◌, subst, ⊎_elim, inl, inr, ◌⊎◌, arith, append_assoc, append-nil}
use Rattle.std.specs.Prelude.{slice_get, unwrap_or, MatchOption}
use Rattle.std.specs.Option.{option_to_list}
use Rattle.std.proofs.lemmas.Bool.{cases_eq}
use Rattle.std.proofs.lemmas.Bool.Decides.{nat_tests}
use Rattle.std.proofs.lemmas.List.{drop_more, map-append, reverse-append, nil_from_length}
use Rattle.cs_grammar.specs.declared.symbol.Symbol.{Symbol}
use Rattle.cs_grammar.specs.declared.symbol.Symbol.TheVariants.{Token, Nonterminal}
use Rattle.cs_grammar.specs.Grammar.{Production, PlainGrammar, IsRule}
use Rattle.cs_grammar.specs.Tree.{Tree, Leaf, Node, Forest, Bare, Grown, IsTree, AreTrees, code, codes_of, IsDerivation}
use Rattle.cs_grammar.proofs.OneTree.{one_tree}
use Rattle.cs_goals.specs.declared.goal.Goal.TheVariants.{Context}
use Rattle.cs_goals.specs.Awaits.{awaits}
use Rattle.cs_goals.specs.Meets.{trees, IsChild, UsesRuleIn, SomeUsesRuleIn, IsMeeting}
use Rattle.cs_goals.proofs.Entries.{reads}

-- an open node: whether it is awaited, its rule and its children
pub record Open : Type 0 where
  pub awaited : Bool
  pub rule : ℕ
  pub children : Forest

-- the nodes among these trees; the tree at the place, counted from 1, is awaited
abbrev pub nodes_of : ℕ → Forest → List Open
nodes_of place Bare = []
nodes_of place (Grown (Leaf t) f) = nodes_of (place - 1) f
nodes_of place (Grown (Node r h) f) = record { awaited = eqb place 1; rule = r; children = h } ∷ nodes_of (place - 1) f

abbrev pub flags : List Open → List Bool
flags ws = map (λ (w : Open). w.awaited) ws

abbrev pub codes_open : List Open → List ℕ
codes_open [] = []
codes_open (w ∷ ws) = w.rule ∷ (codes_of w.children ++ codes_open ws)

-- each is a node of its rule
abbrev pub AreOpen : PlainGrammar → List Open → Type 0
AreOpen g [] = Unit {0}
AreOpen g (w ∷ ws) = ((p : Production) × IsRule g w.rule p × AreTrees g p.right w.children) × AreOpen g ws

-- an awaited one has rule q, or the goal is met inside one
abbrev pub SomeOpen : ℕ → ℕ → ℕ → List Open → Type 0
SomeOpen p i q [] = ⊥
SomeOpen p i q (w ∷ ws) = ((w.awaited ≡ true) × (w.rule ≡ q)) ⊎ (UsesRuleIn p i q (Node w.rule w.children) ⊎ SomeOpen p i q ws)

-- children by their places
slice_get_later : {A : Type 0} (x : A) (l : List A) (n : ℕ) → 0 < n → slice_get (x ∷ l) n ≡ slice_get l (n - 1)
slice_get_later x l zero h = absurd (omega arith)
slice_get_later x l (suc n) h = let e : suc n - 1 ≡ n = omega arith in ap (λ k. slice_get l k) (sym e)

child_first : (place q : ℕ) (h f : Forest) → place ≡ 1 → IsChild place q (Grown (Node q h) f)
child_first place q h f first =
    let e : place - 1 ≡ 0 = omega arith in
    record {
      grandchildren = h;
      above_zero = omega arith;
      at = ap (λ k. slice_get (Node q h ∷ trees f) k) e;
    }

child_more : (place q : ℕ) (t : Tree) (f : Forest) → IsChild (place - 1) q f → IsChild place q (Grown t f)
child_more place q t f h =
    let above = h.above_zero in
    record {
      grandchildren = h.grandchildren;
      above_zero = omega arith;
      at = slice_get_later t (trees f) (place - 1) above ∙ h.at;
    }

child_later : (place q : ℕ) (t : Tree) (f : Forest) → place ≢ 1 → IsChild place q (Grown t f) → IsChild (place - 1) q f
child_later place q t f other h =
    let above = h.above_zero in
    let later : 0 < place - 1 = omega arith in
    record {
      grandchildren = h.grandchildren;
      above_zero = later;
      at = sym (slice_get_later t (trees f) (place - 1) later) ∙ h.at;
    }

child_is : (place q : ℕ) (t : Tree) (f : Forest) → place ≡ 1 → (h : IsChild place q (Grown t f)) → t ≡ Node q h.grandchildren
child_is place q t f first h =
    let e : place - 1 ≡ 0 = omega arith in
    let at : slice_get (t ∷ trees f) 0 ≡ Some (Node q h.grandchildren) = ap (λ k. slice_get (t ∷ trees f) k) (sym e) ∙ h.at in
    cc

module _ (g : PlainGrammar) where
  flags-nodes_of : (place : ℕ) (f : Forest) (xs : List Symbol) → AreTrees g xs f → awaits place xs ≡ flags (nodes_of place f)
  flags-nodes_of place Bare [] h = refl
  flags-nodes_of place Bare (x ∷ xs) h = absurd h
  flags-nodes_of place (Grown t f) [] h = absurd h
  flags-nodes_of place (Grown (Leaf s) f) (Token t ∷ xs) h = flags-nodes_of (place - 1) f xs h.1
  flags-nodes_of place (Grown (Leaf s) f) (Nonterminal n ∷ xs) h = let e = h.0 in absurd cc
  flags-nodes_of place (Grown (Node r k) f) (Token t ∷ xs) h = let e = h.0.2 in absurd cc
  flags-nodes_of place (Grown (Node r k) f) (Nonterminal n ∷ xs) h = ap (λ (l : List Bool). eqb place 1 ∷ l) (flags-nodes_of (place - 1) f xs h.1)

  AreOpen-nodes_of : (place : ℕ) (f : Forest) (xs : List Symbol) → AreTrees g xs f → AreOpen g (nodes_of place f)
  AreOpen-nodes_of place Bare xs h = tt
  AreOpen-nodes_of place (Grown t f) [] h = absurd h
  AreOpen-nodes_of place (Grown (Leaf s) f) (x ∷ xs) h = AreOpen-nodes_of (place - 1) f xs h.1
  AreOpen-nodes_of place (Grown (Node r k) f) (x ∷ xs) h = ((h.0.0, h.0.1, h.0.3), AreOpen-nodes_of (place - 1) f xs h.1)

  AreOpen-append : (vs ws : List Open) → AreOpen g vs → AreOpen g ws → AreOpen g (vs ++ ws)
  AreOpen-append [] ws hv hw = hw
  AreOpen-append (v ∷ vs) ws hv hw = (hv.0, AreOpen-append vs ws hv.1 hw)

codes_open-nodes_of : (place : ℕ) (f : Forest) → codes_open (nodes_of place f) ≡ codes_of f
codes_open-nodes_of place Bare = refl
codes_open-nodes_of place (Grown (Leaf t) f) = codes_open-nodes_of (place - 1) f
codes_open-nodes_of place (Grown (Node r h) f) = ap (λ (l : List ℕ). r ∷ (codes_of h ++ l)) (codes_open-nodes_of (place - 1) f)

codes_open-append : (vs ws : List Open) → codes_open (vs ++ ws) ≡ codes_open vs ++ codes_open ws
codes_open-append [] ws = refl
codes_open-append (v ∷ vs) ws =
    ap (λ (l : List ℕ). v.rule ∷ (codes_of v.children ++ l)) (codes_open-append vs ws)
    ∙ ap (λ (l : List ℕ). v.rule ∷ l) (sym (append_assoc (codes_of v.children) (codes_open vs) (codes_open ws)))

module _ (p i q : ℕ) where
  SomeOpen-left : (vs ws : List Open) → SomeOpen p i q vs → SomeOpen p i q (vs ++ ws)
  SomeOpen-left [] ws h = absurd h
  SomeOpen-left (v ∷ vs) ws h = ⊎_elim (λ here. inl here) (λ later. inr (⊎_elim (λ inside. inl inside) (λ others. inr (SomeOpen-left vs ws others)) later)) h

  SomeOpen-right : (vs ws : List Open) → SomeOpen p i q ws → SomeOpen p i q (vs ++ ws)
  SomeOpen-right [] ws h = h
  SomeOpen-right (v ∷ vs) ws h = inr (inr (SomeOpen-right vs ws h))

  SomeOpen-cases : (vs ws : List Open) → SomeOpen p i q (vs ++ ws) → SomeOpen p i q vs ⊎ SomeOpen p i q ws
  SomeOpen-cases [] ws h = inr h
  SomeOpen-cases (v ∷ vs) ws h =
      ⊎_elim (λ here. inl (inl here))
      (λ later. ⊎_elim (λ inside. inl (inr (inl inside))) (λ others. ⊎_elim (λ a. inl (inr (inr a))) (λ b. inr b) (SomeOpen-cases vs ws others)) later)
      h

  -- among children: an awaited child, or inside one
  SomeOpen-nodes_of : (place : ℕ) (f : Forest) → SomeOpen p i q (nodes_of place f) → IsChild place q f ⊎ SomeUsesRuleIn p i q f
  SomeOpen-nodes_of place Bare h = absurd h
  SomeOpen-nodes_of place (Grown (Leaf t) f) h =
      ⊎_elim (λ child. inl (child_more place q (Leaf t) f child)) (λ inside. inr (inr inside)) (SomeOpen-nodes_of (place - 1) f h)
  SomeOpen-nodes_of place (Grown (Node r k) f) h =
      ⊎_elim
      (λ here.
      let first : place ≡ 1 = (let test : eqb place 1 ≡ true = here.0 in grind (arith, nat_tests)) in
      inl (subst (λ n. IsChild place q (Grown (Node n k) f)) (sym here.1) (child_first place q k f first)))
      (λ later.
      ⊎_elim (λ inside. inr (inl inside))
      (λ others. ⊎_elim (λ child. inl (child_more place q (Node r k) f child)) (λ inside. inr (inr inside)) (SomeOpen-nodes_of (place - 1) f others))
      later)
      h

  SomeOpen-inside : (place : ℕ) (f : Forest) → SomeUsesRuleIn p i q f → SomeOpen p i q (nodes_of place f)
  SomeOpen-inside place Bare h = absurd h
  SomeOpen-inside place (Grown (Leaf t) f) h = ⊎_elim (λ none. absurd none) (λ others. SomeOpen-inside (place - 1) f others) h
  SomeOpen-inside place (Grown (Node r k) f) h = ⊎_elim (λ here. inr (inl here)) (λ others. inr (inr (SomeOpen-inside (place - 1) f others))) h

  SomeOpen-child : (place : ℕ) (f : Forest) → IsChild place q f → SomeOpen p i q (nodes_of place f)
  SomeOpen-child place Bare h = let at = h.at in absurd cc
  SomeOpen-child place (Grown t f) h =
      ⊎_elim
      (λ first.
      let is = child_is place q t f first h in
      let test : eqb place 1 ≡ true = grind (arith, nat_tests) in
      subst (λ u. SomeOpen p i q (nodes_of place (Grown u f))) (sym is) (inl (test, refl)))
      (λ other. later_child t (SomeOpen-child (place - 1) f (child_later place q t f other h)))
      (cases_eq place 1)
    where
      later_child : (t : Tree) → SomeOpen p i q (nodes_of (place - 1) f) → SomeOpen p i q (nodes_of place (Grown t f))
      later_child (Leaf s) k = k
      later_child (Node r c) k = inr (inr k)

-- Before an entry of the code: the open nodes have the rest of the code, and the tree meets the goal where they do.
pub record Waits (g : PlainGrammar) (rules rest : List ℕ) (pending : List Bool) (p i q : ℕ) : Type 0 where
  pub tree : Tree
  pub is_tree : IsTree g (Nonterminal g.start) tree
  pub code : rules ≡ code tree
  pub nodes : List Open
  pub flagged : pending ≡ flags nodes
  pub are : AreOpen g nodes
  pub codes : rest ≡ codes_open nodes
  pub to : UsesRuleIn p i q tree → SomeOpen p i q nodes
  pub back : SomeOpen p i q nodes → UsesRuleIn p i q tree

-- What an entry says: whether its node is awaited, its rule, and what comes after it.
pub record Turn (g : PlainGrammar) (rules : List ℕ) (at : ℕ) (pending : List Bool) (p i q : ℕ) : Type 0 where
  pub awaited : Bool
  pub others : List Bool
  pub pending_is : pending ≡ awaited ∷ others
  pub rule : Production
  pub number : IsRule g (get_or rules at 0) rule
  pub met : awaited ≡ true → get_or rules at 0 ≡ q → IsMeeting g (Context p i q) rules
  pub next : (awaited ≡ true → get_or rules at 0 ≡ q → ⊥) → (place : ℕ) → (get_or rules at 0 ≡ p → place ≡ i) → (get_or rules at 0 ≢ p → place ≡ 0) → Waits g rules (drop (at + 1) rules) (awaits place rule.right ++ others) p i q

module _ (g : PlainGrammar) (rules : List ℕ) (p i q : ℕ) where
  waits_from : (t : Tree) → IsTree g (Nonterminal g.start) t → rules ≡ code t → Waits g rules rules (false ∷ []) p i q
  waits_from (Leaf s) h e = absurd cc
  waits_from (Node r f) h e = record {
    tree = Node r f;
    is_tree = h;
    code = e;
    nodes = record { awaited = false; rule = r; children = f } ∷ [];
    flagged = refl;
    are = ((h.0, h.1, h.3), tt);
    codes = e ∙ ap (λ (l : List ℕ). r ∷ l) (sym (append-nil (codes_of f)));
    to = λ meets. inr (inl meets);
    back = λ some. ⊎_elim (λ here. (let no = here.0 in absurd cc)) (λ later. ⊎_elim (λ inside. inside) (λ none. absurd none) later) some;
  }

  pub waits_none : IsDerivation g (Nonterminal g.start) rules → Waits g rules rules (false ∷ []) p i q
  waits_none d = waits_from d.0 d.1 d.2

  pub waits_all : (pending : List Bool) (rest : List ℕ) → rest ≡ [] → Waits g rules rest pending p i q → IsMeeting g (Context p i q) rules → ⊥
  waits_all pending rest none w m =
      let same = (one_tree g m.tree w.tree (Nonterminal g.start) (Nonterminal g.start) [] [] refl m.is_tree w.is_tree (append-nil (code m.tree) ∙ sym m.code ∙ w.code ∙ sym (append-nil (code w.tree)))).0 in
      let some = w.to (subst (UsesRuleIn p i q) same m.meets) in
      elim w.nodes as (λ ws. rest ≡ codes_open ws → SomeOpen p i q ws → ⊥) [ [] ↦ (λ e h. h) | v ∷ ws ↦ (λ e h. cc) ] w.codes some

  module _ (at : ℕ) (pending : List Bool) (within : at < length rules) (w : Waits g rules (drop at rules) pending p i q) where
    turn_at : (ws : List Open) → pending ≡ flags ws → AreOpen g ws → drop at rules ≡ codes_open ws → (UsesRuleIn p i q w.tree → SomeOpen p i q ws) → (SomeOpen p i q ws → UsesRuleIn p i q w.tree) → Turn g rules at pending p i q
    turn_at [] flagged are codes to back = let some = drop_more rules at 0 within in absurd cc
    turn_at (v ∷ vs) flagged are codes to back =
        let read = reads rules at v.rule (codes_of v.children ++ codes_open vs) codes in
        let entry : get_or rules at 0 ≡ v.rule = read.entry in
        let rule = are.0.0 in
        record {
          awaited = v.awaited;
          others = flags vs;
          pending_is = flagged;
          rule = rule;
          number = subst (λ n. IsRule g n rule) (sym entry) are.0.1;
          met = λ yes is. record { tree = w.tree; is_tree = w.is_tree; code = w.code; meets = back (inl (yes, sym entry ∙ is)) };
          next = λ not_met place is_outer not_outer. record {
            tree = w.tree;
            is_tree = w.is_tree;
            code = w.code;
            nodes = nodes_of place v.children ++ vs;
            flagged =
                ap (λ (l : List Bool). l ++ flags vs) (flags-nodes_of g place v.children rule.right are.0.2)
                ∙ sym (map-append (λ (o : Open). o.awaited) (nodes_of place v.children) vs);
            are = AreOpen-append g (nodes_of place v.children) vs (AreOpen-nodes_of g place v.children rule.right are.0.2) are.1;
            codes =
                read.after
                ∙ ap (λ (l : List ℕ). l ++ codes_open vs) (sym (codes_open-nodes_of place v.children))
                ∙ sym (codes_open-append (nodes_of place v.children) vs);
            to = λ meets.
                ⊎_elim
                (λ here. absurd (not_met here.0 (entry ∙ here.1)))
                (λ later.
                ⊎_elim
                (λ inside.
                SomeOpen-left p i q (nodes_of place v.children) vs
                (⊎_elim
                (λ child. SomeOpen-child p i q place v.children (subst (λ n. IsChild n q v.children) (sym (is_outer (entry ∙ child.0))) child.1))
                (λ deeper. SomeOpen-inside p i q place v.children deeper)
                inside))
                (λ others. SomeOpen-right p i q (nodes_of place v.children) vs others)
                later)
                (to meets);
            back = λ some.
                back (⊎_elim
                (λ inside.
                ⊎_elim
                (λ child.
                ⊎_elim
                (λ same. inr (inl (inl (sym entry ∙ same, subst (λ n. IsChild n q v.children) (is_outer same) child))))
                (λ other. (let none = not_outer other in let above = child.above_zero in absurd (omega arith)))
                (cases_eq (get_or rules at 0) p))
                (λ deeper. inr (inl (inr deeper)))
                (SomeOpen-nodes_of p i q place v.children inside))
                (λ others. inr (inr others))
                (SomeOpen-cases p i q (nodes_of place v.children) vs some));
          };
        }

    pub turn : Turn g rules at pending p i q
    turn = turn_at w.nodes w.flagged w.are w.codes w.to w.back

-- the stack, whose end is the first open node, without its end
pub popped : (stack rest : List Bool) (r : Option Bool) (n m : ℕ) (b : Bool) (others : List Bool) → stack ≡ rest ++ option_to_list r → MatchOption r ((n ≡ 0) × (m ≡ 0)) (λ _. m + 1 ≡ n) → n ≡ length stack → reverse stack ≡ b ∷ others → (unwrap_or r false ≡ b) × (reverse rest ≡ others)
popped stack rest None n m b others taken cases long is =
    let none : stack ≡ [] = nil_from_length stack (omega (arith, cases.0)) in
    let empty : reverse stack ≡ [] = ap reverse none in
    absurd cc
popped stack rest (Some x) n m b others taken cases long is =
    let parts : x ∷ reverse rest ≡ b ∷ others = sym (reverse-append rest (x ∷ [])) ∙ ap reverse (sym taken) ∙ is in
    (cc, cc)
