-- Exact sets are closed, and exclude what no tree meets.
use Rattle.std.proofs.Common.{◌≡◌, ℕ, ◌+◌, ◌-◌, ◌<◌, List, [], ◌∷◌, ◌++◌, Some, map, length, refl, sym, ap, ◌∙◌, subst, append_assoc, arith, inl}
use Rattle.std.specs.Prelude.{All, slice_get, slice_index_or}
use Rattle.std.proofs.lemmas.Option.{slice_get-get_or}
use Rattle.std.proofs.lemmas.List.{map-append}
use Rattle.std.proofs.lemmas.List.Elements.{All-nil, All-cons, All-head, All-tail}
use Rattle.cs_grammar.specs.declared.symbol.Symbol.{Symbol}
use Rattle.cs_grammar.specs.declared.symbol.Symbol.TheVariants as symbol
use Rattle.cs_grammar.specs.declared.symbol.Symbol.TheVariants.{Nonterminal}
use Rattle.cs_grammar.specs.declared.symbol.Mark.{Mark}
use Rattle.cs_grammar.specs.declared.symbol.Mark.TheVariants.{Begin, Token, End}
use Rattle.cs_grammar.specs.Grammar.{Production, PlainGrammar, IsRule}
use Rattle.cs_grammar.specs.Tree.{Node, Forest, Bare, Grown, IsTree, AreTrees, yield}
use Rattle.cs_grammar.specs.Context.{Context, Hole, Under, IsContext, join, plug}
use Rattle.cs_grammar.specs.Sentence.{framed, IsFollowed}
use Rattle.cs_grammar.proofs.Forests.{AreTrees-join}
use Rattle.cs_grammar.proofs.Holes.{IsTree-plug, UsesRule-plug}
use Rattle.cs_goals.specs.declared.goal.Goal.{Goal}
use Rattle.cs_goals.specs.declared.goal.Goal.TheVariants.{Rule, Context as ContextGoal, Pair}
use Rattle.cs_goals.specs.Goal.{IsGoal}
use Rattle.cs_closed.specs.Closed.Sets.{PlainSets, IsProductiveSymbol, IsReachableSymbol}
use Rattle.cs_closed.specs.Closed.Closed.{AreClosedUnder, AreClosed, Allows}
use Rattle.cs_closed.specs.Closed.Exact.{AreExact}
use Rattle.cs_closed.specs.Closed.Laws.{IsMetByNone}
use Rattle.cs_closed.proofs.OnClosed.Grown.{any_forest, bare_forest, first_forest, last_forest, meeting_forest, child_at, any_tree, followed-plug, UsesRuleIn-plug}

-- tokens that follow one another do so in the frame
followed_framed : (a b : ℕ) (tokens : List ℕ) → IsFollowed a b tokens → IsFollowed (Token a) (Token b) (framed tokens)
followed_framed a b tokens h = (
  Begin ∷ map Token h.0,
  map Token h.1 ++ End ∷ [],
  ap framed h.2
      ∙ ap (λ (l : List Mark). Begin ∷ l ++ End ∷ []) (map-append Token h.0 (a ∷ b ∷ h.1))
      ∙ append_assoc (Begin ∷ map Token h.0) (Token a ∷ Token b ∷ map Token h.1) (End ∷ []),
)

first_framed : (b : ℕ) (more tokens : List ℕ) → tokens ≡ b ∷ more → IsFollowed Begin (Token b) (framed tokens)
first_framed b more tokens e = ([], map Token more ++ End ∷ [], ap framed e)

last_framed : (a : ℕ) (init tokens : List ℕ) → tokens ≡ init ++ a ∷ [] → IsFollowed (Token a) End (framed tokens)
last_framed a init tokens e = (
  Begin ∷ map Token init,
  [],
  ap framed e
      ∙ ap (λ (l : List Mark). Begin ∷ l ++ End ∷ []) (map-append Token init (a ∷ []))
      ∙ append_assoc (Begin ∷ map Token init) (Token a ∷ []) (End ∷ []),
)

none_framed : (tokens : List ℕ) → tokens ≡ [] → IsFollowed Begin End (framed tokens)
none_framed tokens e = ([], [], ap framed e)

module _ (g : PlainGrammar) (s : PlainSets) (exact : AreExact g s) where
  reached : (r : ℕ) (p : Production) → IsRule g r p → (c : Context) → IsContext g (Nonterminal p.left) c → (before : List Symbol) (left : Forest) (xs : List Symbol) → p.right ≡ before ++ xs → AreTrees g before left → All (IsProductiveSymbol s) xs → All (IsReachableSymbol s) xs
  reached r p rule c hc before left [] place hl live = All-nil (IsReachableSymbol s)
  reached r p rule c hc before left (x ∷ xs) place hl live =
      let behind = any_forest g s exact xs (All-tail (IsProductiveSymbol s) x xs live) in
      let here = any_tree g s exact x (All-head (IsProductiveSymbol s) x xs live) in
      All-cons (IsReachableSymbol s) x xs
      (reach x (Under c r left behind.forest) (p, before, xs, rule, place, hl, behind.are, hc))
      (reached r p rule c hc (before ++ x ∷ []) (join left (Grown here.tree Bare)) xs (place ∙ sym (append_assoc before (x ∷ []) xs))
      (AreTrees-join g left (Grown here.tree Bare) before (x ∷ []) hl (here.is, tt)) (All-tail (IsProductiveSymbol s) x xs live))
    where
      reach : (x : Symbol) (c : Context) → IsContext g x c → IsReachableSymbol s x
      reach (symbol.Token t) c h = tt
      reach (Nonterminal n) c h = (exact.reachable n).1 (c, h)

  -- a node of a rule, in a context of its left side
  whole : (r : ℕ) (p : Production) → IsRule g r p → (f : Forest) → AreTrees g p.right f → (c : Context) → IsContext g (Nonterminal p.left) c → IsTree g (Nonterminal g.start) (plug c (Node r f))
  whole r p rule f hf c hc = IsTree-plug g c (Nonterminal p.left) (Node r f) hc (p, rule, refl, hf)

  under : (r : ℕ) (p : Production) → IsRule g r p → AreClosedUnder s p
  under r p rule = record {
    productive = λ live. let f = any_forest g s exact p.right live in (exact.productive p.left).1 (Node r f.forest, (p, rule, refl, f.are));
    empty = λ none. let f = bare_forest g s exact p.right none in (exact.empty p.left).1 (Node r f.forest, (p, rule, refl, f.are), sym f.shows);
    first = λ live b h. let f = first_forest g s exact p.right b live h in (exact.first p.left b).1 (f.shows.0, (Node r f.forest, (p, rule, refl, f.are), sym f.shows.1));
    last = λ live a h. let f = last_forest g s exact p.right a live h in (exact.last p.left a).1 (f.shows.0, (Node r f.forest, (p, rule, refl, f.are), sym f.shows.1));
    reachable = λ used. let c = (exact.reachable p.left).0 used.1 in reached r p rule c.0 c.1 [] Bare p.right refl tt used.0;
    next = λ used a b h.
        let f = meeting_forest g s exact p.right a b used.0 h in
        let c = (exact.reachable p.left).0 used.1 in
        let t = plug c.0 (Node r f.forest) in
        (exact.next (Token a) (Token b)).1 (
          yield t,
          (t, whole r p rule f.forest f.are c.0 c.1, refl),
          followed_framed a b (yield t) (followed-plug a b c.0 (Node r f.forest) f.shows),
        );
  }

  rule_at : (k : ℕ) (d : Production) → k < length g.rules → IsRule g (k + 1) (slice_index_or g.rules k d)
  rule_at k d low =
      let back : k ≡ k + 1 - 1 = omega arith in
      record {
        above_zero = omega arith;
        at = subst (λ (n : ℕ). slice_get g.rules n ≡ Some (slice_index_or g.rules k d)) back (slice_get-get_or g.rules k d low);
      }

  pub exact_closed : AreClosed g s
  exact_closed = record {
    rules = λ k d low. under (k + 1) (slice_index_or g.rules k d) (rule_at k d low);
    start = (exact.reachable g.start).1 (Hole, refl);
    begin = λ b h. let t = (exact.first g.start b).0 h in (exact.next Begin (Token b)).1 (b ∷ t.0, t.1, first_framed b t.0 (b ∷ t.0) refl);
    end = λ a h. let t = (exact.last g.start a).0 h in (exact.next (Token a) End).1 (t.0 ++ a ∷ [], t.1, last_framed a t.0 (t.0 ++ a ∷ []) refl);
    nothing = λ h. let t = (exact.empty g.start).0 h in (exact.next Begin End).1 ([], t, none_framed [] refl);
  }

  one_rule : (r : ℕ) (p q : Production) → IsRule g r p → IsRule g r q → p ≡ q
  one_rule r p q h k = let e = h.at in let f = k.at in same (sym e ∙ f)
    where
      same : Some p ≡ Some q → p ≡ q
      same e = cc

  pub exact_exclude : (goal : Goal) → IsGoal g goal → IsMetByNone g goal → Allows g s goal → ⊥
  exact_exclude (Rule r) is none h =
      let p = h.0 in
      let f = any_forest g s exact p.right h.2.0 in
      let c = (exact.reachable p.left).0 h.2.1 in
      none (plug c.0 (Node r f.forest)) (whole r p h.1 f.forest f.are c.0 c.1)
      (UsesRule-plug (record { numbers = []; limit = 1 }) g r c.0 (Node r f.forest) (inl refl))
  exact_exclude (ContextGoal p i q) is none h =
      let outer = h.0.0 in
      let inner = h.1.0 in
      let fq = any_forest g s exact inner.right h.1.2 in
      let at : slice_get outer.right (i - 1) ≡ Some (Nonterminal inner.left) =
      ap (λ (o : Production). slice_get o.right (i - 1)) (one_rule p outer is.outer h.0.1 is.is_outer) ∙ is.at
      ∙ ap (λ (o : Production). Some (Nonterminal o.left)) (one_rule q is.inner inner is.is_inner h.1.1) in
      let f = child_at g s exact outer.right (i - 1) (Nonterminal inner.left) (Node q fq.forest) h.0.2.0 at (inner, h.1.1, refl, fq.are) in
      let c = (exact.reachable outer.left).0 h.0.2.1 in
      none (plug c.0 (Node p f.forest)) (whole p outer h.0.1 f.forest f.are c.0 c.1)
      (UsesRuleIn-plug p i q c.0 (Node p f.forest)
      (inl (refl, record { grandchildren = fq.forest; above_zero = is.above_zero; at = f.at })))
  exact_exclude (Pair a b) is none h =
      let found = (exact.next a b).0 h in
      none found.1.0 found.1.1 (subst (λ (l : List ℕ). IsFollowed a b (framed l)) found.1.2 found.2)
