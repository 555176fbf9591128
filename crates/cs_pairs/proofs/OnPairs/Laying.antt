-- The code of the chosen tree of two tokens, part by part.
use Rattle.std.proofs.Common.{◌≡◌, ℕ, ◌+◌, ◌-◌, ◌<◌, ◌≤◌, List, [], ◌∷◌, ◌++◌, Some, length, get_or, take, drop, refl, sym, ap, ◌∙◌, subst, ⊎_elim, arith, append_assoc, append-nil}
use Rattle.std.specs.Prelude.{slice_get}
use Rattle.std.proofs.lemmas.Bool.{cases_lt}
use Rattle.std.proofs.lemmas.List.{length-take-le}
use Rattle.std.proofs.lemmas.Option.{slice_get_within, slice_get-get_or}
use Rattle.cs_grammar.specs.declared.symbol.Symbol.{Symbol}
use Rattle.cs_grammar.specs.declared.symbol.Symbol.TheVariants.{Nonterminal}
use Rattle.cs_grammar.specs.declared.symbol.Mark.TheVariants as mark
use Rattle.cs_grammar.specs.Grammar.{Production, PlainGrammar, IsRule}
use Rattle.cs_grammar.specs.Weights.{Measure}
use Rattle.cs_grammar.specs.Tree.{Tree, Forest, Bare, Grown, size, sizes, code, codes_of}
use Rattle.cs_grammar.specs.Context.{Context, Under, context_size, code_before, code_after}
use Rattle.cs_grammar.proofs.OneTree.{one_rule}
use Rattle.cs_grammar.proofs.Holes.{code-plug, size-plug}
use Rattle.cs_least.specs.Cost.Chosen.{AreChosen, AppendsAllChosen}
use Rattle.cs_least.specs.Cost.Trees.{HaveSmall}
use Rattle.cs_least.proofs.OnCost.ChosenTrees.{AreTrees-chosen, all_chosen}
use Rattle.cs_least.proofs.OnCost.Written.{rule_read}
use Rattle.cs_least.specs.Embed.Around.{HasLeastContext, IsAround}
use Rattle.cs_least.specs.Embed.ChosenContext.{count, IsChosenContext}
use Rattle.cs_least.proofs.OnEmbed.ChosenContexts.{count_is, IsContext-chosen, chosen_context_least, one_chosen_context}
use Rattle.cs_least.proofs.OnEmbed.Steps.{at_seam, split_at, one_split}
use Rattle.cs_pairs.specs.declared.kinds.kind.TreeKind.{TreeKind}
use Rattle.cs_pairs.specs.declared.kinds.kind.TreeKind.TheVariants.{Begins, Ends}
use Rattle.cs_pairs.specs.Kinds.Parts.{HaveSmallOfKind, HasSmallOfKind}
use Rattle.cs_pairs.specs.Kinds.ChosenKind.{IsChosenOfKind, AreChosenOfKind, AppendsOfKind}
use Rattle.cs_pairs.proofs.OnKinds.ChosenKinds.{AreTrees-of_kind, IsTree-of_kind, of_kind_least, all_of_kind, list_of_one}
use Rattle.cs_pairs.proofs.OnKinds.KindsSettled.{of_kind_exists}
use Rattle.cs_pairs.specs.Pairs.SeamPlace.{SeamAt, size_at, IsMeetingAt}
use Rattle.cs_pairs.specs.Pairs.ChosenPair.{IsChosenSeam, IsChosenMeeting, IsCodeOfKind, IsCodeOfPair}
use Rattle.cs_pairs.proofs.OnPairs.ChosenSeams.{seam_of, seam_measure}

-- the code of a chosen tree that is written as a list of one
pub code_of_one : (w : Measure) (g : PlainGrammar) (k : TreeKind) (x : Symbol) (old new : List ℕ) → HasSmallOfKind w g k x → old ≡ [] → AppendsOfKind w g k (x ∷ []) old new → IsCodeOfKind w g k x new
code_of_one w g k x old new small none appends =
    let t = of_kind_exists w g k x small.0 small.1 in
    let same = all_of_kind w g appends.trees (Grown t.0 Bare) k (x ∷ []) appends.chosen (list_of_one w g t.0 k x t.1) in
    (t.0, t.1, appends.text ∙ ap (λ (l : List ℕ). l ++ codes_of appends.trees) none ∙ ap codes_of same ∙ append-nil (code t.0))

-- one tree within the limit is a list within it
pub small_one : (w : Measure) (g : PlainGrammar) (k : TreeKind) (x : Symbol) → HasSmallOfKind w g k x → HaveSmallOfKind w g k (x ∷ [])
small_one w g k x small =
    let t = of_kind_exists w g k x small.0 small.1 in
    let list = list_of_one w g t.0 k x t.1 in
    (Grown t.0 Bare, AreTrees-of_kind w g (Grown t.0 Bare) k (x ∷ []) list, omega (arith, of_kind_least w g k x t.0 small.0 small.1 t.1, small.2))

-- a chosen tree of two tokens by the symbols of the rule at which they meet
pub record Laid (w : Measure) (g : PlainGrammar) (a b r k : ℕ) (p : Production) (x : Symbol) : Type 0 where
  pub tree : Tree
  pub chosen : IsChosenSeam w g a b tree
  pub within : k < length p.right
  pub symbol : get_or p.right k x ≡ x
  pub outer : Context
  pub left : Forest
  pub last : Tree
  pub right : Forest
  pub around : IsChosenContext w g (Nonterminal p.left) outer
  pub lefts : AreChosen w g (take k p.right) left
  pub lasts : IsChosenOfKind w g (Ends a) x last
  pub rights : AreChosenOfKind w g (Begins b) (drop (k + 1) p.right) right
  pub text : code tree ≡ code_before outer ++ (r ∷ (codes_of left ++ (code last ++ (codes_of right ++ code_after outer))))
  pub small : context_size w outer + (1 + (sizes w left + sizes w right)) + size w last ≤ w.limit

pub laid : (w : Measure) (g : PlainGrammar) (a b r k : ℕ) (p : Production) (d : Symbol) → IsRule g r p → (m : IsChosenMeeting w g a b r k) → Laid w g a b r k p (get_or p.right k d)
laid w g a b r k p d rule m =
    let c = m.chosen in
    let same = one_rule g c.number r c.rule p m.at_rule c.is_rule rule in
    let side : p.right ≡ c.before ++ c.symbol ∷ c.behind = ap (λ (o : Production). o.right) (sym same) ∙ c.right_side in
    let counted : length c.before ≡ k = sym (count_is g c.left c.before (AreTrees-chosen w g c.left c.before c.left_chosen)) ∙ m.at_place in
    let at : slice_get p.right k ≡ Some c.symbol = ap (λ n. slice_get p.right n) (sym counted) ∙ ap (λ (l : List Symbol). slice_get l (length c.before)) side ∙ at_seam c.before c.behind c.symbol in
    let within = slice_get_within p.right k c.symbol at in
    let x = get_or p.right k d in
    let there = slice_get-get_or p.right k d within in
    let even : length c.before ≡ length (take k p.right) = counted ∙ sym (length-take-le k p.right (omega (arith, within))) in
    let split = one_split c.before (take k p.right) c.symbol x c.behind (drop (k + 1) p.right) (sym side ∙ split_at p.right k x there) even in
    let context = Under c.outer c.number c.left c.right in
    record {
      tree = m.tree;
      chosen = c;
      within = within;
      symbol = (let again = slice_get-get_or p.right k x within in let e : Some (get_or p.right k x) ≡ Some x = sym again ∙ there in cc);
      outer = c.outer;
      left = c.left;
      last = c.last;
      right = c.right;
      around = subst (λ (o : Production). IsChosenContext w g (Nonterminal o.left) c.outer) same c.around;
      lefts = subst (λ (l : List Symbol). AreChosen w g l c.left) split.before c.left_chosen;
      lasts = subst (λ y. IsChosenOfKind w g (Ends a) y c.last) split.here c.last_chosen;
      rights = subst (λ (l : List Symbol). AreChosenOfKind w g (Begins b) l c.right) split.behind c.right_chosen;
      text = ap code c.whole ∙ code-plug context c.last ∙ text c.outer c.number r c.left c.last c.right m.at_rule;
      small = (let e = ap (size w) c.whole ∙ size-plug w context c.last in omega (arith, e, m.small));
    }
  where
    text : (o : Context) (q r : ℕ) (f : Forest) (u : Tree) (h : Forest) → q ≡ r → code_before (Under o q f h) ++ code u ++ code_after (Under o q f h) ≡ code_before o ++ (r ∷ (codes_of f ++ (code u ++ (codes_of h ++ code_after o))))
    text o q r f u h same = ap (λ n. code_before (Under o n f h) ++ code u ++ code_after (Under o n f h)) same ∙ simp append_assoc

-- what the layers below want of the parts
module _ (w : Measure) (g : PlainGrammar) (a b r k : ℕ) (p : Production) (x : Symbol) (l : Laid w g a b r k p x) where
  pub laid_context : HasLeastContext w g p.left
  laid_context = (
    context_size w l.outer,
    (
      omega (arith, l.small),
      record {
        reached = (l.outer, IsContext-chosen w g l.outer (Nonterminal p.left) l.around, refl);
        least = λ c is. chosen_context_least w g (Nonterminal p.left) c l.outer is l.around;
      },
    ),
  )

  pub laid_lefts : HaveSmall w g (take k p.right)
  laid_lefts = (l.left, AreTrees-chosen w g l.left (take k p.right) l.lefts, omega (arith, l.small))

  pub laid_last : HaveSmallOfKind w g (Ends a) (x ∷ [])
  laid_last = small_one w g (Ends a) x (l.last, IsTree-of_kind w g l.last (Ends a) x l.lasts, omega (arith, l.small))

  pub laid_rights : HaveSmallOfKind w g (Begins b) (drop (k + 1) p.right)
  laid_rights = (l.right, AreTrees-of_kind w g l.right (Begins b) (drop (k + 1) p.right) l.rights, omega (arith, l.small))

  -- the code that is put together of the parts
  pub laid_code : (before after d0 d1 d2 d3 d4 d5 d6 : List ℕ) → IsAround w g p.left before after → d0 ≡ [] → d1 ≡ d0 ++ before → d2 ≡ d1 ++ r ∷ [] → AppendsAllChosen w g (take k p.right) d2 d3 → AppendsOfKind w g (Ends a) (x ∷ []) d3 d4 → AppendsOfKind w g (Begins b) (drop (k + 1) p.right) d4 d5 → d6 ≡ d5 ++ after → IsCodeOfPair w g (mark.Token a) (mark.Token b) d6
  laid_code before after d0 d1 d2 d3 d4 d5 d6 around is0 is1 is2 lefts last rights is6 =
      let outer = one_chosen_context w g around.context l.outer (Nonterminal p.left) around.chosen l.around in
      let left = all_chosen w g lefts.trees l.left (take k p.right) lefts.chosen l.lefts in
      let tree = all_of_kind w g last.trees (Grown l.last Bare) (Ends a) (x ∷ []) last.chosen (list_of_one w g l.last (Ends a) x l.lasts) in
      let right = all_of_kind w g rights.trees l.right (Begins b) (drop (k + 1) p.right) rights.chosen l.rights in
      let first : d1 ≡ code_before l.outer = is1 ∙ ap (λ (s : List ℕ). s ++ before) is0 ∙ around.before_hole ∙ ap code_before outer in
      let second : d2 ≡ code_before l.outer ++ r ∷ [] = is2 ∙ ap (λ (s : List ℕ). s ++ r ∷ []) first in
      let third : d3 ≡ (code_before l.outer ++ r ∷ []) ++ codes_of l.left = lefts.text ∙ ap (λ (s : List ℕ). s ++ codes_of lefts.trees) second ∙ ap (λ (f : Forest). (code_before l.outer ++ r ∷ []) ++ codes_of f) left in
      let fourth : d4 ≡ ((code_before l.outer ++ r ∷ []) ++ codes_of l.left) ++ (code l.last ++ []) = last.text ∙ ap (λ (s : List ℕ). s ++ codes_of last.trees) third ∙ ap (λ (f : Forest). ((code_before l.outer ++ r ∷ []) ++ codes_of l.left) ++ codes_of f) tree in
      let fifth : d5 ≡ (((code_before l.outer ++ r ∷ []) ++ codes_of l.left) ++ (code l.last ++ [])) ++ codes_of l.right = rights.text ∙ ap (λ (s : List ℕ). s ++ codes_of rights.trees) fourth ∙ ap (λ (f : Forest). (((code_before l.outer ++ r ∷ []) ++ codes_of l.left) ++ (code l.last ++ [])) ++ codes_of f) right in
      let sixth : d6 ≡ ((((code_before l.outer ++ r ∷ []) ++ codes_of l.left) ++ (code l.last ++ [])) ++ codes_of l.right) ++ code_after l.outer = is6 ∙ ap (λ (s : List ℕ). s ++ after) fifth ∙ ap (λ (s : List ℕ). ((((code_before l.outer ++ r ∷ []) ++ codes_of l.left) ++ (code l.last ++ [])) ++ codes_of l.right) ++ s) (around.behind_hole ∙ ap code_after outer) in
      (l.tree, l.chosen, sixth ∙ flat (code_before l.outer) (r ∷ []) (codes_of l.left) (code l.last) (codes_of l.right) (code_after l.outer) ∙ sym l.text)
    where
      flat : (u v it y z q : List ℕ) → ((((u ++ v) ++ it) ++ (y ++ [])) ++ z) ++ q ≡ u ++ (v ++ (it ++ (y ++ (z ++ q))))
      flat u v it y z q =
          ap (λ (s : List ℕ). ((((u ++ v) ++ it) ++ s) ++ z) ++ q) (append-nil y)
          ∙ append_assoc (((u ++ v) ++ it) ++ y) z q
          ∙ append_assoc ((u ++ v) ++ it) y (z ++ q)
          ∙ append_assoc (u ++ v) it (y ++ (z ++ q))
          ∙ append_assoc u v (it ++ (y ++ (z ++ q)))

-- the lowest rule and place at which the tokens meet are those of the chosen tree
pub chosen_meeting : (w : Measure) (g : PlainGrammar) (a b n r k : ℕ) → IsMeetingAt w g a b n r k → (t : Tree) → IsChosenSeam w g a b t → size w t ≡ n → n ≤ w.limit → IsChosenMeeting w g a b r k
chosen_meeting w g a b n r k m t c measured small =
    let s = m.seam in
    let seam = seam_of w g a b t c in
    let size_is = seam_measure w g a b t c in
    let least = c.first.least s.symbol (Under s.outer r s.left s.right, s.last) s.is_seam in
    let own : SeamAt g a b c.number (count c.left) = record { symbol = c.symbol; outer = c.outer; left = c.left; right = c.right; last = c.last; is_seam = seam; placed = refl } in
    let lower = c.first.lowest s.symbol s.outer r s.left s.right s.last s.is_seam (omega (arith, least, m.small, measured)) in
    let same_rule : c.number ≡ r = ⊎_elim
    (λ before. absurd (omega (arith, m.earlier c.number (count c.left + 1) before (count c.left) (omega arith) (omega arith) own, size_is, measured)))
    (λ same. same.0)
    lower in
    record {
      tree = t;
      chosen = c;
      at_rule = same_rule;
      at_place = ⊎_elim
          (λ before. absurd (omega (arith, before, same_rule)))
          (λ same. ⊎_elim
          (λ lower_place. absurd (omega (arith, at_rule c.number same_rule (count c.left) (omega (arith, lower_place, s.placed)) own, size_is, measured)))
          (λ not_lower. omega (arith, same.1, not_lower, s.placed))
          (cases_lt (count c.left) (count s.left)))
          lower;
      small = omega (arith, measured, small);
    }
  where
    at_rule : (q : ℕ) → q ≡ r → (j : ℕ) → j < k → (u : SeamAt g a b q j) → n < size_at w g a b q j u
    at_rule q same j lt = subst (λ i. (u : SeamAt g a b i j) → n < size_at w g a b i j u) (sym same) (λ u. m.before j (omega arith) lt u)

-- the rule that was read is that of the meeting
pub rule_met : (w : Measure) (g : PlainGrammar) (a b r k : ℕ) (q : Production) (rules : List Production) → IsChosenMeeting w g a b r k → rules ≡ g.rules → q ≡ get_or rules (r - 1) q → IsRule g r q
rule_met w g a b r k q rules m same read =
    let known = subst (λ n. IsRule g n m.chosen.rule) m.at_rule m.chosen.is_rule in
    subst (IsRule g r) (sym (rule_read g r m.chosen.rule q rules known same read)) known
