-- An item is put, and so it is behind symbols that have empty trees.
use Rattle.std.proofs.Common.{◌≡◌, ◌⊎◌, ℕ, ◌+◌, ◌<◌, ◌≤◌, inl, inr, List, [], ◌++◌, Option, Some, length, refl, sym, ap, ◌∙◌, subst, arith, append_assoc, append-nil, eqb, eq-eqb, true, false, None}
use Rattle.std.specs.Prelude.{All, slice_get}
use Rattle.std.specs.Option.{option_eq}
use Rattle.std.proofs.lemmas.Bool.{cases_eq, false≢true, eqb-true}
use Rattle.cs_grammar.proofs.Measures.{All-at}
use Rattle.std.proofs.lemmas.Option.{slice_get_within}
use Rattle.std.proofs.lemmas.List.Elements.{All-append, All-nil}
use Rattle.cs_grammar.specs.declared.symbol.Symbol.{Symbol}
use Rattle.cs_grammar.specs.declared.symbol.Symbol.TheVariants.{Token, Nonterminal}
use Rattle.cs_grammar.specs.Grammar.{Production, PlainGrammar, IsRule, IsRuleOf, IsNumberOf, IsSymbol}
use Rattle.cs_grammar.proofs.OneTree.{one_rule}
use Rattle.cs_member.specs.declared.tables.item.Item.{Item}
use Rattle.cs_member.specs.declared.chart.now.Now.{Now}
use Rattle.cs_member.specs.declared.chart.now.Span.{Span}
use Rattle.cs_member.specs.Tables.Item.{Awaits, IsDone, IsEmpty, NeverComes, over}
use Rattle.cs_member.specs.Chart.Now.{StandsIn, SpansIn, Ends, Stood, IsKept, IsPast, IsPut, IsStep, IsPutTo}
use Rattle.cs_member.proofs.OnChart.Rows.{spans_left, all_more}
use Rattle.cs_member.proofs.OnTables.Entering.{one_awaited}

pub not_both : (g : PlainGrammar) (x : Item) (s : Symbol) (a : ℕ) → Awaits g x s → IsDone g x a → ⊥
not_both g x s a w d =
    let rule = one_rule g x.rule x.rule w.rule d.rule refl w.number d.number in
    let lt = slice_get_within w.rule.right x.place s w.at in
    let whole : x.place ≡ length w.rule.right = d.whole ∙ ap (λ (p : Production). length p.right) (sym rule) in
    omega arith

pub one_done : (g : PlainGrammar) (x : Item) (a b : ℕ) → IsDone g x a → IsDone g x b → a ≡ b
one_done g x a b d e = sym d.left ∙ ap (λ (p : Production). p.left) (one_rule g x.rule x.rule d.rule e.rule refl d.number e.number) ∙ e.left

-- what is kept stays so
pub kept_more : (g : PlainGrammar) (ahead : Option ℕ) (old new : Now) (more : List Span) (x : Item) (j : ℕ) → ((y : Item) (i : ℕ) → StandsIn old.origins.items y i → StandsIn new.origins.items y i) → new.spans.items ≡ old.spans.items ++ more → IsKept g ahead old x j → IsKept g ahead new x j
kept_more g ahead old new more x j stood grown kept = record {
  token = λ t w is. stood x j (kept.token t w is);
  nonterminal = λ a w comes. stood x j (kept.nonterminal a w comes);
  done = λ a d. spans_left old.spans.items more new.spans.items a j grown (kept.done a d);
}

-- the steps

pub step_end : (g : PlainGrammar) (ahead cause : Option ℕ) (x : Item) (From : ℕ → Type 0) (old new : Now) (left : ℕ) → IsDone g x left → new.origins.items ≡ old.origins.items → Ends left cause From old.spans.items new.spans.items → IsStep g ahead cause x From old new
step_end g ahead cause x From old new left done same ends = record {
  kept = λ j from. record {
    token = λ t w is. absurd (not_both g x (Token t) left w done);
    nonterminal = λ a w comes. absurd (not_both g x (Nonterminal a) left w done);
    done = λ a d. subst (λ n. SpansIn new.spans.items n j) (one_done g x left a done d) (ends.found j from);
  };
  next = λ was y j t h w. was y j t (subst (λ l. StandsIn l y j) same h) w;
  stood = λ y j h. subst (λ l. StandsIn l y j) (sym same) h;
  stand = λ y j h. inl (subst (λ l. StandsIn l y j) same h);
  more = ends.more;
  grown = ends.grown;
  are = all_more (λ s. (s.nonterminal ≡ left) × (s.cause ≡ cause) × From s.from) (λ s. (s.cause ≡ cause) × From s.from × IsDone g x s.nonterminal) ends.more
      (λ s h. (h.1, h.2, subst (λ n. IsDone g x n) (sym h.0) done)) ends.are;
}

-- an item that awaits a symbol stands
pub step_stand : (g : PlainGrammar) (ahead cause : Option ℕ) (x : Item) (From : ℕ → Type 0) (old new : Now) (s : Symbol) → Awaits g x s → ((t : ℕ) → s ≡ Token t → ahead ≡ Some t) → new.spans.items ≡ old.spans.items → Stood x From old.origins.items new.origins.items → IsStep g ahead cause x From old new
step_stand g ahead cause x From old new s awaits comes same stood = record {
  kept = λ j from.
      let here = (stood x j).1 (inr (refl, from)) in
      record {
        token = λ t w is. here;
        nonterminal = λ a w comes. here;
        done = λ a d. absurd (not_both g x s a awaits d);
      };
  next = λ was y j t h w. elim ((stood y j).0 h) [
    | inl before ↦ was y j t before w
    | inr now ↦ comes t (one_awaited g x s (Token t) awaits (subst (λ (z : Item). Awaits g z (Token t)) (sym now.0) w))
  ];
  stood = λ y j h. (stood y j).1 (inl h);
  stand = λ y j h. (stood y j).0 h;
  more = [];
  grown = same ∙ sym (append-nil old.spans.items);
  are = All-nil (λ s. (s.cause ≡ cause) × From s.from × IsDone g x s.nonterminal);
}

-- an item that awaits another token than comes isn't kept
pub step_none : (g : PlainGrammar) (ahead cause : Option ℕ) (x : Item) (From : ℕ → Type 0) (now : Now) (t : ℕ) → Awaits g x (Token t) → (ahead ≡ Some t → ⊥) → IsStep g ahead cause x From now now
step_none g ahead cause x From now t awaits other = record {
  kept = λ j from. record {
    token = λ u w is. absurd (let same = one_awaited g x (Token t) (Token u) awaits w in other (let one : t ≡ u = cc in is ∙ ap Some (sym one)));
    nonterminal = λ a w comes. absurd (let same = one_awaited g x (Token t) (Nonterminal a) awaits w in cc);
    done = λ a d. absurd (not_both g x (Token t) a awaits d);
  };
  next = λ was. was;
  stood = λ y j h. h;
  stand = λ y j h. inl h;
  more = [];
  grown = sym (append-nil now.spans.items);
  are = All-nil (λ s. (s.cause ≡ cause) × From s.from × IsDone g x s.nonterminal);
}

-- an item that awaits a nonterminal that never comes isn't kept
pub step_last : (g : PlainGrammar) (ahead cause : Option ℕ) (x : Item) (From : ℕ → Type 0) (now : Now) (b : ℕ) → Awaits g x (Nonterminal b) → NeverComes g ahead b → IsStep g ahead cause x From now now
step_last g ahead cause x From now b awaits never = record {
  kept = λ j from. record {
    token = λ t w is. absurd (let same = one_awaited g x (Nonterminal b) (Token t) awaits w in cc);
    nonterminal = λ a w comes. absurd (
        let same = one_awaited g x (Nonterminal b) (Nonterminal a) awaits w in
        let one : b ≡ a = cc in
        elim comes [
          | inl empty ↦ never.1 (subst (λ n. IsEmpty g n) (sym one) empty)
          | inr some ↦ (let none = never.0 in let is = some.1 in cc)
        ]);
    done = λ a d. absurd (not_both g x (Nonterminal b) a awaits d);
  };
  next = λ was. was;
  stood = λ y j h. h;
  stand = λ y j h. inl h;
  more = [];
  grown = sym (append-nil now.spans.items);
  are = All-nil (λ s. (s.cause ≡ cause) × From s.from × IsDone g x s.nonterminal);
}

-- an awaited nonterminal is one of the grammar's
pub awaited_within : (g : PlainGrammar) (x : Item) (a : ℕ) (p : Production) → IsRule g x.rule p → IsRuleOf g.tokens g.nonterminals p → Awaits g x (Nonterminal a) → IsNumberOf g.nonterminals a
awaited_within g x a p number fits awaits =
    let same : awaits.rule ≡ p = one_rule g x.rule x.rule awaits.rule p refl awaits.number number in
    All-at (IsSymbol g.tokens g.nonterminals) p.right x.place (Nonterminal a) fits.right (subst (λ (q : Production). slice_get q.right x.place ≡ Some (Nonterminal a)) same awaits.at)

pub other_token : (o : Option ℕ) (t : ℕ) → false ≡ option_eq eqb o (Some t) → o ≡ Some t → ⊥
other_token o t unequal is =
    let h : false ≡ eqb t t = subst (λ (q : Option ℕ). false ≡ option_eq eqb q (Some t)) is unequal in
    false≢true (h ∙ eq-eqb t t refl)

pub same_token : (o : Option ℕ) (t : ℕ) → true ≡ option_eq eqb o (Some t) → o ≡ Some t
same_token None t equal = absurd cc
same_token (Some u) t equal = ap Some (eqb-true u t (sym equal))

-- nothing is past the whole rule
pub past_whole : (g : PlainGrammar) (first : Item) (k : ℕ) (p : Production) → IsRule g first.rule p → first.place ≤ length p.right → length p.right < k → IsPast g first (record { rule = first.rule; place = k }) → ⊥
past_whole g first k p number within lt past =
    let b = past.bare (length p.right) within lt in
    let w = b.1 in
    let same : w.rule ≡ p = one_rule g first.rule first.rule w.rule p refl w.number number in
    let end = slice_get_within w.rule.right (length p.right) (Nonterminal b.0) w.at in
    let long = ap (λ (q : Production). length q.right) same in
    omega arith

module _ (g : PlainGrammar) (ahead cause : Option ℕ) (first : Item) (From : ℕ → Type 0) where
  abbrev at : ℕ → Item
  at k = record { rule = first.rule; place = k }

  abbrev AreOf : Span → Type 0
  AreOf s = (s.cause ≡ cause) × From s.from × (x : Item) × IsPast g first x × IsDone g x s.nonterminal

  pub put_none : (now : Now) → IsPutTo g ahead cause first From first.place now now
  put_none now = record {
    past = record { same = refl; low = omega arith; bare = λ k ge lt. absurd (omega arith) };
    kept = λ j lt from. absurd (omega arith);
    behind = λ passed x j a stands w empty. inl (passed.behind x j a stands w empty);
    next = λ was. was;
    stood = λ x j h. h;
    stand = λ x j h. inl h;
    more = [];
    grown = sym (append-nil now.spans.items);
    are = All-nil AreOf;
  }

  module _ (k : ℕ) (old mid new : Now) (before : IsPutTo g ahead cause first From k old mid) (step : IsStep g ahead cause (at k) From mid new) where
    stand_then : (x : Item) (j : ℕ) → StandsIn new.origins.items x j → StandsIn old.origins.items x j ⊎ (IsPast g first x × From j)
    stand_then x j h = elim (step.stand x j h) [
      | inl was ↦ before.stand x j was
      | inr now ↦ inr (subst (λ (y : Item). IsPast g first y) now.0 before.past, now.1)
    ]

    are_then : All AreOf (before.more ++ step.more)
    are_then =
        All-append AreOf before.more step.more before.are
        (all_more (λ s. (s.cause ≡ cause) × From s.from × IsDone g (at k) s.nonterminal) AreOf step.more (λ s h. (h.0, h.1, at k, before.past, h.2)) step.are)

  -- one place further
  pub put_step : (k : ℕ) (old mid new : Now) → IsPutTo g ahead cause first From k old mid → IsStep g ahead cause (at k) From mid new → ((n : ℕ) → n ≡ k + 1 → IsPast g first (at n)) → IsPutTo g ahead cause first From (k + 1) old new
  put_step k old mid new before step past = record {
    past = past (k + 1) refl;
    kept = λ j lt from. elim (cases_eq first.place k) [
      | inl same ↦ subst (λ n. IsKept g ahead new (at n) j) (sym same) (step.kept j from)
      | inr other ↦ kept_more g ahead mid new step.more first j step.stood step.grown (before.kept j (let low = before.past.low in omega arith) from)
    ];
    behind = λ passed x j a stands w empty. elim (step.stand x j stands) [
      | inl was ↦ elim (before.behind passed x j a was w empty) [
        | inl kept ↦ inl (kept_more g ahead mid new step.more (over x) j step.stood step.grown kept)
        | inr here ↦ inl (subst (λ (y : Item). IsKept g ahead new y j) (sym here.0) (step.kept j here.1))
      ]
      | inr now ↦ inr (ap over (sym now.0), now.1)
    ];
    next = λ was. step.next (before.next was);
    stood = λ x j h. step.stood x j (before.stood x j h);
    stand = stand_then k old mid new before step;
    more = before.more ++ step.more;
    grown = step.grown ∙ (ap (λ (l : List Span). l ++ step.more) before.grown ∙ append_assoc old.spans.items before.more step.more);
    are = are_then k old mid new before step;
  }

  -- the last place
  pub put_last : (k : ℕ) (old mid new : Now) → IsPutTo g ahead cause first From k old mid → IsStep g ahead cause (at k) From mid new → ((a : ℕ) → Awaits g (at k) (Nonterminal a) → IsEmpty g a → ⊥) → IsPut g ahead cause first From old new
  put_last k old mid new before step last = record {
    kept = λ j from. elim (cases_eq first.place k) [
      | inl same ↦ subst (λ n. IsKept g ahead new (at n) j) (sym same) (step.kept j from)
      | inr other ↦ kept_more g ahead mid new step.more first j step.stood step.grown (before.kept j (let low = before.past.low in omega arith) from)
    ];
    passed = λ passed. record {
      behind = λ x j a stands w empty. elim (step.stand x j stands) [
        | inl was ↦ elim (before.behind passed x j a was w empty) [
          | inl kept ↦ kept_more g ahead mid new step.more (over x) j step.stood step.grown kept
          | inr here ↦ subst (λ (y : Item). IsKept g ahead new y j) (sym here.0) (step.kept j here.1)
        ]
        | inr now ↦ absurd (last a (subst (λ (y : Item). Awaits g y (Nonterminal a)) (sym now.0) w) empty)
      ];
      next = step.next (before.next passed.next);
    };
    stood = λ x j h. step.stood x j (before.stood x j h);
    stand = stand_then k old mid new before step;
    more = before.more ++ step.more;
    grown = step.grown ∙ (ap (λ (l : List Span). l ++ step.more) before.grown ∙ append_assoc old.spans.items before.more step.more);
    are = are_then k old mid new before step;
  }

  pub past_more : (k b : ℕ) → IsPast g first (at k) → Awaits g (at k) (Nonterminal b) → IsEmpty g b → (n : ℕ) → n ≡ k + 1 → IsPast g first (at n)
  past_more k b past awaits empty n is = record {
    same = refl;
    low = (let low = past.low in omega arith);
    bare = λ i ge lt. elim (cases_eq i k) [
      | inl same ↦ (b, subst (λ m. Awaits g (at m) (Nonterminal b)) (sym same) awaits, empty)
      | inr other ↦ past.bare i ge (omega arith)
    ];
  }
