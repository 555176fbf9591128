-- In a closed chart each tree of the start symbol that yields the list is found.
use Rattle.std.proofs.Common.{◌≡◌, ℕ, ◌+◌, ◌≤◌, ◌⊎◌, inl, inr, List, [], ◌∷◌, ◌++◌, Some, length, drop, refl, sym, ap, ◌∙◌, subst, ⊎_elim, arith, append_assoc, append-nil}
use Rattle.std.specs.Prelude.{slice_get}
use Rattle.std.proofs.lemmas.Bool.{cases_lt}
use Rattle.std.proofs.lemmas.Option.{slice_get_within}
use Rattle.cs_grammar.specs.declared.symbol.Symbol.{Symbol}
use Rattle.cs_grammar.specs.declared.symbol.Symbol.TheVariants.{Token, Nonterminal}
use Rattle.cs_grammar.specs.Grammar.{Production, PlainGrammar, IsRule}
use Rattle.cs_grammar.specs.Tree.{Tree, Leaf, Node, Forest, Bare, Grown, IsTree, AreTrees, yield, yields}
use Rattle.cs_grammar.specs.Sentence.{IsSentence}
use Rattle.cs_grammar.proofs.OneTree.{one_rule}
use Rattle.cs_member.specs.declared.tables.item.Item.{Item}
use Rattle.cs_member.specs.Tables.Item.{Awaits, IsFront, IsEmpty, MayCome, over}
use Rattle.cs_member.specs.Chart.Closed.{Sets, IsMet, IsClosed}
use Rattle.cs_member.proofs.OnTables.Places.{begins, past_end}

-- the front with a nonterminal taken that has an empty tree
pub front_over : (g : PlainGrammar) (a b : ℕ) (x : Item) → (front : IsFront g a x) → slice_get front.rule.right x.place ≡ Some (Nonterminal b) → IsEmpty g b → IsFront g a (over x)
front_over g a b x front at empty = record {
  rule = front.rule;
  number = front.number;
  left = front.left;
  within = (let lt = slice_get_within front.rule.right x.place (Nonterminal b) at in omega arith);
  bare = λ k lt.
      ⊎_elim
      (λ below. front.bare k below)
      (λ above. let same : x.place ≡ k = omega arith in (b, subst (λ n. slice_get front.rule.right n ≡ Some (Nonterminal b)) same at, empty))
      (cases_lt k x.place);
}

module _ (g : PlainGrammar) (tokens : List ℕ) (c : Sets) (closed : IsClosed g tokens c) where
  -- a tree of the nonterminal from here to where this rest of the list begins
  record Ended (a i : ℕ) (rest : List ℕ) : Type 0 where
    to : ℕ
    spans : c.Spans to a i
    after : drop to tokens ≡ rest

  -- the same, if it isn't empty
  abbrev Found : ℕ → ℕ → List ℕ → List ℕ → Type 0
  Found a i given rest = (given ≡ []) ⊎ Ended a i rest

  -- the list goes on with the yield of a tree, so it is empty, or a token comes
  begun : (y l rest : List ℕ) (i : ℕ) → drop i tokens ≡ (y ++ l) ++ rest → (y ≡ []) ⊎ ((t : ℕ) × (slice_get tokens i ≡ Some t))
  begun [] l rest i e = inl refl
  begun (n ∷ y) l rest i e = inr (n, (begins tokens i n ((y ++ l) ++ rest) e).at)

  comes : (b : ℕ) (t : Tree) (l rest : List ℕ) (i : ℕ) → IsTree g (Nonterminal b) t → drop i tokens ≡ (yield t ++ l) ++ rest → MayCome g (slice_get tokens i) b
  comes b t l rest i tree e = ⊎_elim (λ empty. inl (t, tree, empty)) (λ some. inr some) (begun (yield t) l rest i e)

  mutual
    over_tree : (t : Tree) (a i : ℕ) (rest : List ℕ) → IsTree g (Nonterminal a) t → c.Expected i a → drop i tokens ≡ yield t ++ rest → Found a i (yield t) rest
    over_tree (Leaf t) a i rest tree expected e = absurd cc
    over_tree (Node r f) a i rest tree expected e =
        let p = tree.0 in
        let left : p.left ≡ a = (let h = tree.2 in cc) in
        over_front f p.right (record { rule = r; place = 0 }) p a i rest tree.1 refl tree.3
        (record { rule = p; number = tree.1; left = left; within = omega arith; bare = λ k lt. absurd (omega arith) })
        expected e

    over_front : (f : Forest) (xs : List Symbol) (x : Item) (p : Production) (a i : ℕ) (rest : List ℕ) → IsRule g x.rule p → drop x.place p.right ≡ xs → AreTrees g xs f → IsFront g a x → c.Expected i a → drop i tokens ≡ yields f ++ rest → Found a i (yields f) rest
    over_front Bare xs x p a i rest number is trees front expected e = inl refl
    over_front (Grown t f) [] x p a i rest number is trees front expected e = absurd trees
    over_front (Grown (Leaf n) f) (Nonterminal b ∷ xs) x p a i rest number is trees front expected e = (let h = trees.0 in absurd cc)
    over_front (Grown (Node r h) f) (Token n ∷ xs) x p a i rest number is trees front expected e = (let h = trees.0.2 in absurd cc)
    over_front (Grown (Leaf n) f) (Token m ∷ xs) x p a i rest number is trees front expected e =
        let b = begins p.right x.place (Token m) xs is in
        let token : m ≡ n = (let h = trees.0 in cc) in
        let w : Awaits g x (Token n) = record { rule = p; number = number; at = subst (λ k. slice_get p.right x.place ≡ Some (Token k)) token b.at } in
        let s = begins tokens i n (yields f ++ rest) e in
        let rule = one_rule g x.rule x.rule front.rule p refl front.number number in
        inr (over_rest f xs (over x) p a (i + 1) i rest number (ap (λ (q : Production). q.left) (sym rule) ∙ front.left) b.rest trees.1
        (closed.scanned_first i a n x expected front w s.at) s.rest (let lt = slice_get_within p.right x.place (Token m) b.at in omega arith))
    over_front (Grown (Node r h) f) (Nonterminal b ∷ xs) x p a i rest number is trees front expected e =
        let at = begins p.right x.place (Nonterminal b) xs is in
        let w : Awaits g x (Nonterminal b) = record { rule = p; number = number; at = at.at } in
        let rule : p ≡ front.rule = one_rule g x.rule x.rule p front.rule refl number front.number in
        let left : p.left ≡ a = ap (λ (q : Production). q.left) rule ∙ front.left in
        let lt = slice_get_within p.right x.place (Nonterminal b) at.at in
        ⊎_elim
        (λ empty.
        let none : yields (Grown (Node r h) f) ≡ yields f = ap (λ (l : List ℕ). l ++ yields f) empty in
        let found = over_front f xs (over x) p a i rest number at.rest trees.1
        (front_over g a b x front (subst (λ (q : Production). slice_get q.right x.place ≡ Some (Nonterminal b)) rule at.at) (Node r h, trees.0, empty))
        expected (e ∙ ap (λ (l : List ℕ). l ++ rest) none) in
        ⊎_elim (λ bare. inl (none ∙ bare)) (λ ended. inr ended) found)
        (λ ended. inr (over_rest f xs (over x) p a ended.to i rest number left at.rest trees.1 (closed.completed_first ended.to i a b x expected front w ended.spans) ended.after (omega arith)))
        (over_tree (Node r h) b i (yields f ++ rest) trees.0 (closed.descended i a b x expected front w) (e ∙ append_assoc (yield (Node r h)) (yields f) rest))

    over_rest : (f : Forest) (xs : List Symbol) (x : Item) (p : Production) (a i j : ℕ) (rest : List ℕ) → IsRule g x.rule p → p.left ≡ a → drop x.place p.right ≡ xs → AreTrees g xs f → IsMet g tokens c i x j → drop i tokens ≡ yields f ++ rest → x.place ≤ length p.right → Ended a j rest
    over_rest Bare [] x p a i j rest number left is trees met e le =
        let past = past_end p.right x.place is in
        record { to = i; spans = met.done a (record { rule = p; number = number; left = left; whole = omega arith }); after = e }
    over_rest Bare (s ∷ xs) x p a i j rest number left is trees met e le = absurd trees
    over_rest (Grown t f) [] x p a i j rest number left is trees met e le = absurd trees
    over_rest (Grown (Leaf n) f) (Nonterminal b ∷ xs) x p a i j rest number left is trees met e le = (let h = trees.0 in absurd cc)
    over_rest (Grown (Node r h) f) (Token n ∷ xs) x p a i j rest number left is trees met e le = (let h = trees.0.2 in absurd cc)
    over_rest (Grown (Leaf n) f) (Token m ∷ xs) x p a i j rest number left is trees met e le =
        let b = begins p.right x.place (Token m) xs is in
        let token : m ≡ n = (let h = trees.0 in cc) in
        let w : Awaits g x (Token n) = record { rule = p; number = number; at = subst (λ k. slice_get p.right x.place ≡ Some (Token k)) token b.at } in
        let s = begins tokens i n (yields f ++ rest) e in
        over_rest f xs (over x) p a (i + 1) j rest number left b.rest trees.1 (closed.scanned i j n x (met.token n w s.at) w s.at) s.rest (let lt = slice_get_within p.right x.place (Token m) b.at in omega arith)
    over_rest (Grown (Node r h) f) (Nonterminal b ∷ xs) x p a i j rest number left is trees met e le =
        let at = begins p.right x.place (Nonterminal b) xs is in
        let w : Awaits g x (Nonterminal b) = record { rule = p; number = number; at = at.at } in
        let stands = met.nonterminal b w (comes b (Node r h) (yields f) rest i trees.0 e) in
        let lt = slice_get_within p.right x.place (Nonterminal b) at.at in
        ⊎_elim
        (λ empty.
        over_rest f xs (over x) p a i j rest number left at.rest trees.1 (closed.passed i j b x stands w (Node r h, trees.0, empty))
        (e ∙ ap (λ (l : List ℕ). (l ++ yields f) ++ rest) empty) (omega arith))
        (λ ended. over_rest f xs (over x) p a ended.to j rest number left at.rest trees.1 (closed.completed ended.to i j b x stands w ended.spans) ended.after (omega arith))
        (over_tree (Node r h) b i (yields f ++ rest) trees.0 (closed.expected i j b x stands w) (e ∙ append_assoc (yield (Node r h)) (yields f) rest))

  -- a sentence is found: it is empty, and so is a tree of the start symbol, or a span of it begins at 0 and ends where the list ends
  pub found : ((i a j : ℕ) → c.Spans i a j → i ≤ length tokens) → IsSentence g tokens → ((tokens ≡ []) × IsEmpty g g.start) ⊎ c.Spans (length tokens) g.start 0
  found within (t, tree, e) =
      let whole : drop 0 tokens ≡ yield t ++ [] = e ∙ sym (append-nil (yield t)) in
      ⊎_elim
      (λ empty. inl (e ∙ empty, (t, tree, empty)))
      (λ ended.
      let past = past_end tokens ended.to ended.after in
      let low = within ended.to g.start 0 ended.spans in
      let same : ended.to ≡ length tokens = omega arith in
      inr (subst (λ n. c.Spans n g.start 0) same ended.spans))
      (over_tree t g.start 0 [] tree closed.started whole)
