-- The codes of chosen trees of kinds are written.
use Rattle.std.proofs.Common.{◌≡◌, ℕ, ◌+◌, ◌<◌, ◌≤◌, ◌⊎◌, List, [], ◌∷◌, ◌++◌, Result, reverse, refl, sym, ap, ◌∙◌, subst, ⊎_elim, arith, append_assoc, append-nil}
use Rattle.std.specs.Prelude.{All, Ok, Err, OnOk, OnErr}
use Rattle.std.proofs.lemmas.List.{reverse-append}
use Rattle.std.proofs.lemmas.List.Elements.{All-head, All-tail, All-append}
use Rattle.cs_grammar.specs.declared.symbol.Symbol.{Symbol}
use Rattle.cs_grammar.specs.declared.symbol.Symbol.TheVariants.{Token, Nonterminal}
use Rattle.cs_grammar.specs.Grammar.{Production, PlainGrammar, IsSymbol}
use Rattle.cs_grammar.specs.Weights.{Measure, IsMeasure}
use Rattle.cs_grammar.specs.Tree.{Tree, Leaf, Node, Forest, Bare, Grown, IsTree, size, sizes, code, codes_of}
use Rattle.cs_grammar.specs.Context.{join}
use Rattle.cs_grammar.proofs.Measures.{size_above}
use Rattle.cs_grammar.proofs.OneTree.{one_rule}
use Rattle.cs_grammar.proofs.Forests.{sizes-join, codes_of-join}
use Rattle.cs_least.specs.Cost.Chosen.{AppendsChosen}
use Rattle.cs_least.specs.Cost.Parts.{IsGrown}
use Rattle.cs_least.specs.Cost.Trees.{HasLeast}
use Rattle.cs_least.proofs.OnCost.ChosenTrees.{IsTree-chosen, one_chosen, chosen_exists}
use Rattle.cs_pairs.specs.declared.kinds.kind.TreeKind.{TreeKind}
use Rattle.cs_pairs.specs.declared.kinds.kind.TreeKind.TheVariants.{Any}
use Rattle.cs_pairs.specs.declared.kinds.writing.Part.{Part}
use Rattle.cs_pairs.specs.Kinds.Kinds.{IsKind}
use Rattle.cs_pairs.specs.Kinds.ChosenKind.{IsChosenOfKind, AreChosenOfKind}
use Rattle.cs_pairs.specs.Kinds.Parts.{parts_from, inner, AreChosenParts, IsPartOf, HasSmallOfKind, IsRootOf, TakesOn}
use Rattle.cs_pairs.proofs.OnKinds.ChosenKinds.{IsTree-of_kind, any_chosen}
use Rattle.cs_pairs.proofs.OnKinds.Placing.{parts_fit, inner_fit, inner_trees, AreChosenParts-join}

module _ (w : Measure) (g : PlainGrammar) where
  -- a token's part is its leaf, of which nothing is written
  pub takes_leaf : IsMeasure w → (part : Part) (t : ℕ) (pending : List Part) (text : List ℕ) → part.symbol ≡ Token t → TakesOn w g part pending pending text text
  takes_leaf measure part t pending text is = record {
    fits = λ h. h;
    rest = λ u f c small h. leaf u f (subst (λ x. IsChosenOfKind w g part.kind x u) is c) h;
  }
    where
      leaf : (u : Tree) (f : Forest) → IsChosenOfKind w g part.kind (Token t) u → AreChosenParts w g (reverse pending) f → (h : Forest) × AreChosenParts w g (reverse pending) h × (sizes w h < size w u + sizes w f) × (text ++ codes_of h ≡ text ++ (code u ++ codes_of f))
      leaf (Leaf s) f c h = (f, h, omega (arith, size_above w (Leaf s) measure), refl)
      leaf (Node r l) f c h = let e = c.2 in absurd cc

  -- a part of any yield is written whole
  pub takes_whole : IsMeasure w → (part : Part) (pending : List Part) (old new : List ℕ) → part.kind ≡ Any → AppendsChosen w g part.symbol old new → TakesOn w g part pending pending old new
  takes_whole measure part pending old new is appends = record {
    fits = λ h. h;
    rest = λ u f c small h.
        let same = one_chosen w g u appends.tree part.symbol (any_chosen w g u part.symbol (subst (λ k. IsChosenOfKind w g k part.symbol u) is c)) appends.chosen in
        let text : new ++ codes_of f ≡ old ++ (code u ++ codes_of f) =
        ap (λ (l : List ℕ). l ++ codes_of f) (appends.text ∙ ap (λ (t : Tree). old ++ code t) (sym same)) ∙ append_assoc old (code u) (codes_of f) in
        (f, h, omega (arith, size_above w u measure), text);
  }

  -- of another part the rule at the root is written
  module _ (k : TreeKind) (left r place : ℕ) (right : List Symbol) (root : IsRootOf w g k left r) (is_right : right ≡ root.rule.right) (placed : (f : Forest) → AreChosenOfKind w g k right f → sizes w f ≤ w.limit → AreChosenParts w g (parts_from k place 0 right) f) where
    pub takes_root : (old_pending new_pending : List Part) (old new : List ℕ) → IsKind g.tokens k → All (IsSymbol g.tokens g.nonterminals) right → new ≡ old ++ r ∷ [] → reverse new_pending ≡ inner (parts_from k place 0 right) ++ reverse old_pending → TakesOn w g (record { kind = k; symbol = Nonterminal left }) old_pending new_pending old new
    takes_root old_pending new_pending old new fits each text pending = record {
      fits = λ h. subst (All (IsPartOf g)) (sym pending) (All-append (IsPartOf g) (inner (parts_from k place 0 right)) (reverse old_pending) (inner_fit w g (parts_from k place 0 right) (parts_fit w g k place 0 right fits each)) h);
      rest = λ u f c small h. node u f c small h;
    }
      where
        node : (u : Tree) (f : Forest) → IsChosenOfKind w g k (Nonterminal left) u → size w u ≤ w.limit → AreChosenParts w g (reverse old_pending) f → (h : Forest) × AreChosenParts w g (reverse new_pending) h × (sizes w h < size w u + sizes w f) × (new ++ codes_of h ≡ old ++ (code u ++ codes_of f))
        node (Leaf s) f c small h = let e = c.0 in absurd cc
        node (Node q l) f c small h =
            let number = root.root q l c in
            let same = one_rule g q r c.0 root.rule number c.1 root.number in
            let children = subst (λ (xs : List Symbol). AreChosenOfKind w g k xs l) (ap (λ (p : Production). p.right) same ∙ sym is_right) c.4 in
            let parts = inner_trees w g l (parts_from k place 0 right) (placed l children (omega (arith, small))) in
            let m = parts.trees in
            let is : AreChosenParts w g (reverse new_pending) (join m f) = subst (λ (ps : List Part). AreChosenParts w g ps (join m f)) (sym pending) (AreChosenParts-join w g m f (inner (parts_from k place 0 right)) (reverse old_pending) parts.chosen h) in
            let codes : new ++ codes_of (join m f) ≡ old ++ (code (Node q l) ++ codes_of f) =
            ap (λ (s : List ℕ). s ++ codes_of (join m f)) text ∙ append_assoc old (r ∷ []) (codes_of (join m f)) ∙ ap (λ (s : List ℕ). old ++ r ∷ s) (codes_of-join m f ∙ ap (λ (s : List ℕ). s ++ codes_of f) parts.text) ∙ ap (λ n. old ++ n ∷ (codes_of l ++ codes_of f)) (sym number) in
            (join m f, is, omega (arith, sizes-join w m f, parts.small), codes)

  -- where a writer stands after so many steps: what is pending, and what is written, of what was pending at its start
  pub record Writes (start_parts : List Part) (start : List ℕ) (parts : List Part) (out : List ℕ) (i : ℕ) : Type 0 where
    pub fits : All (IsPartOf g) parts
    pub rest : (f : Forest) → AreChosenParts w g start_parts f → sizes w f ≤ w.limit → (h : Forest) × AreChosenParts w g parts h × (i + sizes w h ≤ w.limit) × (out ++ codes_of h ≡ start ++ codes_of f)

  pub writes_none : (parts : List Part) (out : List ℕ) → All (IsPartOf g) parts → Writes parts out parts out 0
  writes_none parts out fits = record { fits = fits; rest = λ f h small. (f, h, omega (arith, small), refl) }

  front : (items rest : List Part) (part : Part) → items ≡ rest ++ part ∷ [] → reverse items ≡ part ∷ reverse rest
  front items rest part e = ap reverse e ∙ reverse-append rest (part ∷ [])

  module _ (start_parts : List Part) (start out : List ℕ) (i : ℕ) (items rest : List Part) (part : Part) (e : items ≡ rest ++ part ∷ []) (so_far : Writes start_parts start (reverse items) out i) where
    now : Writes start_parts start (part ∷ reverse rest) out i
    now = subst (λ (ps : List Part). Writes start_parts start ps out i) (front items rest part e) so_far

    -- the part that is taken
    pub taken_fits : IsPartOf g part
    taken_fits = All-head (IsPartOf g) part (reverse rest) now.fits

    pub taken_small : (f : Forest) → AreChosenParts w g start_parts f → sizes w f ≤ w.limit → HasSmallOfKind w g part.kind part.symbol
    taken_small f h small = let o = now.rest f h small in first o.0 o.1 (omega (arith, o.2))
      where
        first : (l : Forest) → AreChosenParts w g (part ∷ reverse rest) l → sizes w l ≤ w.limit → HasSmallOfKind w g part.kind part.symbol
        first Bare is le = absurd is
        first (Grown t l) is le = (t, IsTree-of_kind w g t part.kind part.symbol is.0, omega (arith, le))

    pub writes_more : (after : List Part) (new : List ℕ) → TakesOn w g part rest after out new → Writes start_parts start (reverse after) new (i + 1)
    writes_more after new takes = record {
      fits = takes.fits (All-tail (IsPartOf g) part (reverse rest) now.fits);
      rest = λ f h small. let o = now.rest f h small in next o.0 o.1 o.2 (start ++ codes_of f) o.3;
    }
      where
        next : (l : Forest) → AreChosenParts w g (part ∷ reverse rest) l → i + sizes w l ≤ w.limit → (goal : List ℕ) → out ++ codes_of l ≡ goal → (m : Forest) × AreChosenParts w g (reverse after) m × (i + 1 + sizes w m ≤ w.limit) × (new ++ codes_of m ≡ goal)
        next Bare is le goal text = absurd is
        next (Grown t l) is le goal text =
            let o = takes.rest t l is.0 (omega (arith, le)) is.1 in
            (o.0, o.1, omega (arith, o.2, le), o.3 ∙ text)

  -- nothing is pending, or no step is left
  pub writes_all : IsMeasure w → (start_parts : List Part) (start out : List ℕ) (parts : List Part) (i : ℕ) → Writes start_parts start parts out i → (parts ≡ []) ⊎ (w.limit ≤ i) → (f : Forest) → AreChosenParts w g start_parts f → sizes w f ≤ w.limit → out ≡ start ++ codes_of f
  writes_all measure start_parts start out parts i so_far done f h small =
      let o = so_far.rest f h small in
      let none : codes_of o.0 ≡ [] = ⊎_elim (λ e. ended o.0 (subst (λ (ps : List Part). AreChosenParts w g ps o.0) e o.1)) (λ all. bare o.0 (omega (arith, all, o.2))) done in
      sym (append-nil out) ∙ ap (λ (l : List ℕ). out ++ l) (sym none) ∙ o.3
    where
      ended : (l : Forest) → AreChosenParts w g [] l → codes_of l ≡ []
      ended Bare is = refl
      ended (Grown t l) is = absurd is

      bare : (l : Forest) → sizes w l ≤ 0 → codes_of l ≡ []
      bare Bare le = refl
      bare (Grown t l) le = absurd (omega (arith, size_above w t measure, le))

-- a symbol with a tree within the limit has a least one within it
pub small_least : (w : Measure) (g : PlainGrammar) (x : Symbol) (t : Tree) → IsTree g x t → size w t ≤ w.limit → HasLeast w g x
small_least w g x t h small =
    let u = chosen_exists w g x t h in
    (size w u.tree, (omega (arith, u.least t h, small), record { reached = (u.tree, IsTree-chosen w g u.tree x u.chosen, refl); least = λ v is. u.least v is }))

-- the code of a chosen tree is appended, or nothing
pub grown_whole : {A E : Type 0} (r : Result A E) (w : Measure) (g : PlainGrammar) (x : Symbol) (old new : List ℕ) → OnOk r (AppendsChosen w g x old new) → OnErr r (new ≡ old) → IsGrown old new
grown_whole (Ok a) w g x old new appends same = (code appends.tree, appends.text)
grown_whole (Err e) w g x old new appends same = ([], same ∙ sym (append-nil old))
