-- A chart that is made of whole tables is closed.
use Rattle.std.proofs.Common.{◌≡◌, ℕ, ◌+◌, ◌-◌, ◌≤◌, ◌⊎◌, inl, inr, List, Some, length, take, refl, sym, ap, ◌∙◌, subst, arith}
use Rattle.std.specs.Prelude.{slice_get}
use Rattle.std.proofs.lemmas.List.{length-take-le}
use Rattle.std.proofs.lemmas.Option.{slice_get_within}
use Rattle.cs_grammar.specs.declared.symbol.Symbol.TheVariants.{Token, Nonterminal}
use Rattle.cs_grammar.specs.Grammar.{PlainGrammar, IsGrammar, IsSymbol}
use Rattle.cs_grammar.proofs.Measures.{IsRuleOf-rule, All-at}
use Rattle.cs_member.specs.Chart.Buckets.{rows_in}
use Rattle.cs_member.specs.declared.tables.item.Item.{Item}
use Rattle.cs_member.specs.declared.chart.now.Span.{Span}
use Rattle.cs_member.specs.declared.chart.chart.Position.{Position}
use Rattle.cs_member.specs.declared.tables.tables.Tables.{Tables}
use Rattle.cs_member.specs.Tables.Item.{Awaits, IsFront, MayCome, over}
use Rattle.cs_member.specs.Chart.Closed.{IsMet, IsClosed}
use Rattle.cs_member.specs.Chart.Now.{StandsIn, SpansIn, IsKept}
use Rattle.cs_member.specs.Tables.Tables.{IsQuestion}
use Rattle.cs_member.specs.Tables.Expecting.{AreCorners}
use Rattle.cs_member.specs.Tables.Sets.{Has}
use Rattle.cs_member.specs.Chart.Chart.{StandsAt, OfBucket, OfBegun, OfScan, IsSpan}
use Rattle.cs_member.specs.Chart.Made.{IsChart, sets_of}
use Rattle.cs_member.specs.Tables.Whole.{AreWhole}
use Rattle.cs_member.proofs.OnTables.Places.{there_at, at_take}
use Rattle.cs_member.proofs.OnChart.Putting.{awaited_within}
use Rattle.cs_member.proofs.OnTables.Entering.{one_awaited}

module _ (g : PlainGrammar) (tables : Tables) (tokens : List ℕ) (chart : List Position) (grammar : IsGrammar g) (question : IsQuestion g tables)
    (corners : AreCorners (g.nonterminals + 1) tables.corners.items) (whole : AreWhole g tables) (is : IsChart g tables tokens (length tokens + 1) chart) where
  front : (i : ℕ) (p : Position) → slice_get chart i ≡ Some p → length (take i chart) ≡ i
  front i p at = let lt = slice_get_within chart i p at in length-take-le i chart (omega arith)

  -- what is kept is met
  met : (i : ℕ) (p : Position) (x : Item) (j : ℕ) → (at : slice_get chart i ≡ Some p) → IsKept g (slice_get tokens (length (take i chart))) (is.each i p at).now x j → IsMet g tokens (sets_of chart) i x j
  met i p x j at kept =
      let made = is.each i p at in
      let long = front i p at in
      let stands : StandsIn made.now.origins.items x j → (q : Position) × (slice_get chart i ≡ Some q) × StandsAt q x j = λ h. (p, at, made.rows.stand x j h) in
      record {
        token = λ t w next. stands (kept.token t w (ap (λ n. slice_get tokens n) long ∙ next));
        nonterminal = λ a w comes. stands (kept.nonterminal a w (subst (λ n. MayCome g (slice_get tokens n) a) (sym long) comes));
        done = λ a d. (p, at, subst (λ (l : List Span). SpansIn l a j) (sym made.spans) (kept.done a d));
      }

  -- what stands at a position stood there when it was made
  stood : (i : ℕ) (p : Position) (x : Item) (j : ℕ) → (at : slice_get chart i ≡ Some p) → StandsAt p x j → StandsIn (is.each i p at).now.origins.items x j
  stood i p x j at h = subst (λ (y : Item). StandsIn (is.each i p at).now.origins.items y j) h.5 (((is.each i p at).rows.held h.0 h.1 h.2 h.3 h.4).back j h.6)

  -- in the bucket of the awaited nonterminal, or of the tokens
  bucket_nonterminal : (i : ℕ) (p : Position) (x : Item) (j a : ℕ) → slice_get chart i ≡ Some p → StandsAt p x j → Awaits g x (Nonterminal a) → OfBucket p a (over x) j
  bucket_nonterminal i p x j a at h w =
      let held = (is.each i p at).rows.held h.0 h.1 h.2 h.3 h.4 in
      let here : Awaits g h.2.item (Nonterminal a) = subst (λ (y : Item). Awaits g y (Nonterminal a)) (sym h.5) w in
      elim held.bucket [
        | inl some ↦
            let same = one_awaited g h.2.item (Nonterminal h.0) (Nonterminal a) some.1 here in
            let one : h.0 ≡ a = cc in
            (h.1, ap (λ n. slice_get (rows_in p.rows) n) (sym one) ∙ h.3, (h.2, h.4, ap over (sym h.5), h.6))
        | inr none ↦ absurd (let same = one_awaited g h.2.item (Token none.1) (Nonterminal a) none.2 here in cc)
      ]

  bucket_token : (i : ℕ) (p : Position) (x : Item) (j t : ℕ) → slice_get chart i ≡ Some p → StandsAt p x j → Awaits g x (Token t) → OfBucket p 0 (over x) j
  bucket_token i p x j t at h w =
      let held = (is.each i p at).rows.held h.0 h.1 h.2 h.3 h.4 in
      let here : Awaits g h.2.item (Token t) = subst (λ (y : Item). Awaits g y (Token t)) (sym h.5) w in
      elim held.bucket [
        | inl some ↦ absurd (let same = one_awaited g h.2.item (Nonterminal h.0) (Token t) some.1 here in cc)
        | inr none ↦ (h.1, ap (λ n. slice_get (rows_in p.rows) n) (sym none.0) ∙ h.3, (h.2, h.4, ap over (sym h.5), h.6))
      ]

  -- one position further, behind a token
  scan_step : (k t : ℕ) (p : Position) (x : Item) (j : ℕ) → slice_get chart k ≡ Some p → slice_get tokens k ≡ Some t → OfBucket p 0 x j ⊎ OfBegun p tables.tokens.items t k x j → IsMet g tokens (sets_of chart) (k + 1) x j
  scan_step k t p x j at token of =
      let lt = slice_get_within tokens k t token in
      let long = is.long in
      let next = there_at chart (k + 1) (omega arith) in
      let q = next.0 in
      let made = is.each (k + 1) q next.1 in
      let before = take (k + 1) chart in
      let size : length before ≡ k + 1 = front (k + 1) q next.1 in
      let last : length before - 1 ≡ k = omega arith in
      let at_before : slice_get before (length before - 1) ≡ Some p = ap (λ n. slice_get before n) last ∙ at_take chart (k + 1) k p (omega arith) at in
      let token_before : slice_get tokens (length before - 1) ≡ Some t = ap (λ n. slice_get tokens n) last ∙ token in
      let scan : OfScan before tables.tokens.items tokens x j = (p, t, at_before, token_before, subst (λ n. OfBucket p 0 x j ⊎ OfBegun p tables.tokens.items t n x j) (sym last) of) in
      met (k + 1) q x j next.1 (made.scanned (omega arith) x j scan)

  -- behind a span
  span_step : (i a k : ℕ) (p : Position) (x : Item) (j : ℕ) → slice_get chart k ≡ Some p → (q : Position) → slice_get chart i ≡ Some q → SpansIn q.spans.items a k → OfBucket p a x j ⊎ OfBegun p tables.nonterminals.items a k x j → IsMet g tokens (sets_of chart) i x j
  span_step i a k p x j at q at_q spans of =
      let made = is.each i q at_q in
      let before = take i chart in
      let size : length before ≡ i = front i q at_q in
      let n = spans.0 in
      let s = spans.1 in
      let at_s : slice_get made.now.spans.items n ≡ Some s = ap (λ (l : List Span). slice_get l n) (sym made.spans) ∙ spans.2 in
      let low = (All-at (IsSpan g (length before)) made.now.spans.items n s made.before_here.spans at_s).from in
      let from = spans.4 in
      let at_before : slice_get before s.from ≡ Some p = ap (λ m. slice_get before m) from ∙ at_take chart i k p (omega arith) at in
      let one : OfBucket p s.nonterminal x j ⊎ OfBegun p tables.nonterminals.items s.nonterminal k x j = subst (λ m. OfBucket p m x j ⊎ OfBegun p tables.nonterminals.items m k x j) (sym spans.3) of in
      let two : OfBucket p s.nonterminal x j ⊎ OfBegun p tables.nonterminals.items s.nonterminal s.from x j = subst (λ m. OfBucket p s.nonterminal x j ⊎ OfBegun p tables.nonterminals.items s.nonterminal m x j) (sym from) one in
      let lt = slice_get_within made.now.spans.items n s at_s in
      met i q x j at_q (made.followed n lt s x j at_s (p, at_before, two))

  token_within : (x : Item) (t : ℕ) → Awaits g x (Token t) → t ≤ g.tokens
  token_within x t w = (All-at (IsSymbol g.tokens g.nonterminals) w.rule.right x.place (Token t) (IsRuleOf-rule g x.rule w.rule grammar w.number).right w.at).1

  nonterminal_within : (x : Item) (b : ℕ) → Awaits g x (Nonterminal b) → b ≤ g.nonterminals
  nonterminal_within x b w = (awaited_within g x b w.rule w.number (IsRuleOf-rule g x.rule w.rule grammar w.number) w).1

  left_within : (a : ℕ) (x : Item) → IsFront g a x → a ≤ g.nonterminals
  left_within a x f = (let low = (IsRuleOf-rule g x.rule f.rule grammar f.number).left.1 in let same = f.left in omega arith)

  pub closed_chart : IsClosed g tokens (sets_of chart)
  closed_chart = record {
    scanned = λ i j t x h w next. scan_step i t h.0 (over x) j h.1 next (inl (bucket_token i h.0 x j t h.1 h.2 w));
    passed = λ i j a x h w empty. met i h.0 (over x) j h.1 ((is.each i h.0 h.1).passed.behind x j a (stood i h.0 x j h.1 h.2) w empty);
    completed = λ i k j a x h w s. span_step i a k h.0 (over x) j h.1 s.0 s.1 s.2 (inl (bucket_nonterminal k h.0 x j a h.1 h.2 w));
    scanned_first = λ k a t x e f w next.
        let size = question.tokens.size in
        let low = token_within x t w in
        let list = there_at tables.tokens.items t (omega arith) in
        let here = whole.tokens a t x list.0 f w list.1 in
        scan_step k t e.0 (over x) k e.1 next (inr (list.0, list.1, (here.0, here.1, subst (λ n. Has e.0.expected.items n) (sym here.2) e.2, sym here.3, refl)));
    completed_first = λ i k a b x e f w s.
        let size = question.nonterminals.size in
        let low = nonterminal_within x b w in
        let list = there_at tables.nonterminals.items b (omega arith) in
        let here = whole.nonterminals a b x list.0 f w list.1 in
        span_step i b k e.0 (over x) k e.1 s.0 s.1 s.2 (inr (list.0, list.1, (here.0, here.1, subst (λ n. Has e.0.expected.items n) (sym here.2) e.2, sym here.3, refl)));
    started = (let long = is.long in let p = there_at chart 0 (omega arith) in (p.0, p.1, (is.each 0 p.0 p.1).first (front 0 p.0 p.1)));
    expected = λ i j a x h w.
        let made = is.each i h.0 h.1 in
        let s = stood i h.0 x j h.1 h.2 in
        (h.0, h.1, made.awaited s.0 a s.1 s.2 (subst (λ (y : Item). Awaits g y (Nonterminal a)) (sym s.3) w));
    descended = λ i a b x e f w.
        let made = is.each i e.0 e.1 in
        let size = corners.size in
        let low = left_within a x f in
        let list = there_at tables.corners.items a (omega arith) in
        (e.0, e.1, made.closed a b list.0 e.2 list.1 (whole.corners a b x list.0 f w list.1));
  }

  -- spans end within the list
  pub spans_within : (i a j : ℕ) → (sets_of chart).Spans i a j → i ≤ length tokens
  spans_within i a j h = (let lt = slice_get_within chart i h.0 h.1 in let long = is.long in omega arith)
