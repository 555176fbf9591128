-- What follows from a span.
use Rattle.std.proofs.Common.{◌≡◌, ℕ, ◌+◌, ◌-◌, ◌<◌, ◌≤◌, inl, inr, List, [], ◌++◌, Option, Some, length, sym, ap, ◌∙◌, subst, arith, append_assoc, append-nil}
use Rattle.std.specs.Prelude.{All, Contains, slice_get}
use Rattle.std.specs.Global.{Vec}
use Rattle.std.proofs.lemmas.Bool.{cases_eq, cases_lt}
use Rattle.std.proofs.lemmas.Option.{same_Some, slice_get_within}
use Rattle.std.proofs.lemmas.List.{length-append}
use Rattle.std.proofs.lemmas.List.Elements.{All-append}
use Rattle.cs_grammar.specs.Grammar.{PlainGrammar, IsGrammar}
use Rattle.cs_grammar.proofs.Measures.{IsRuleOf-rule}
use Rattle.cs_member.specs.Chart.Buckets.{rows_in}
use Rattle.cs_member.specs.declared.tables.item.Item.{Item}
use Rattle.cs_member.specs.declared.chart.now.Now.{Now}
use Rattle.cs_member.specs.declared.chart.now.Span.{Span}
use Rattle.cs_member.specs.declared.chart.chart.Row.{Row}
use Rattle.cs_member.specs.declared.chart.chart.Position.{Position}
use Rattle.cs_member.specs.declared.tables.fronts.Front.{Front}
use Rattle.cs_member.specs.Chart.Now.{IsKept, ArePut}
use Rattle.cs_member.specs.Chart.Chart.{OfRows, OfFronts, OfBucket, OfBegun, OfScan, OfSpan, IsSpan, AreBefore, AreCaused, ArePositions, Grows, IsFollowed}
use Rattle.cs_member.proofs.OnTables.Places.{at_within, at_left, behind, all_contains}
use Rattle.cs_member.proofs.OnChart.Rows.{all_more}
use Rattle.cs_member.proofs.OnChart.Putting.{kept_more}
use Rattle.cs_member.proofs.OnChart.Puts.{Of, puts_then}

module _ (g : PlainGrammar) (ahead cause : Option ℕ) (chart : List Position) (fronts : List (Vec Front)) (s : Span) (position : Position) (bucket : Vec Row) (list : Vec Front)
    (at : slice_get chart s.from ≡ Some position) (at_bucket : slice_get (rows_in position.rows) s.nonterminal ≡ Some bucket) (at_list : slice_get fronts s.nonterminal ≡ Some list) where
  pub follow_puts : (old mid new : Now) → ArePut g ahead cause (OfRows bucket.items) old mid → ArePut g ahead cause (OfFronts position.expected.items list.items s.from) mid new → ArePut g ahead cause (OfSpan chart fronts s) old new
  follow_puts old mid new first second =
      puts_then g ahead cause (OfRows bucket.items) (OfFronts position.expected.items list.items s.from) (OfSpan chart fronts s) old mid new first second
      (λ x j h. (position, at, inl (bucket, at_bucket, h)))
      (λ x j h. (position, at, inr (list, at_list, h)))
      (λ x j h.
      let one : h.0 ≡ position = same_Some h.0 position (sym h.1 ∙ at) in
      elim h.2 [
        | inl rows ↦
            let here : OfBucket position s.nonterminal x j = subst (λ (p : Position). OfBucket p s.nonterminal x j) one rows in
            let same : here.0 ≡ bucket = same_Some here.0 bucket (sym here.1 ∙ at_bucket) in
            inl (subst (λ (b : Vec Row). OfRows b.items x j) same here.2)
        | inr begun ↦
            let here : OfBegun position fronts s.nonterminal s.from x j = subst (λ (p : Position). OfBegun p fronts s.nonterminal s.from x j) one begun in
            let same : here.0 ≡ list = same_Some here.0 list (sym here.1 ∙ at_list) in
            inr (subst (λ (l : Vec Front). OfFronts position.expected.items l.items s.from x j) same here.2)
      ])

-- an item that follows from a span has an origin before it, or there
pub span_before : (g : PlainGrammar) (chart : List Position) (fronts : List (Vec Front)) (s : Span) (x : Item) (j : ℕ) → ArePositions g chart → OfSpan chart fronts s x j → j < length chart
span_before g chart fronts s x j positions h =
    let lt = slice_get_within chart s.from h.0 h.1 in
    elim h.2 [
      | inl rows ↦ (let early = (positions s.from h.0 h.1).early s.nonterminal j rows.0 rows.2.0 rows.1 rows.2.1 rows.2.3 in omega arith)
      | inr begun ↦ (let same = begun.2.4 in omega arith)
    ]

-- spans that follow are spans
pub spans_follow : (g : PlainGrammar) (ahead cause : Option ℕ) (many : ℕ) (Put : Item → ℕ → Type 0) (old new : Now) → IsGrammar g → ((x : Item) (j : ℕ) → Put x j → j < many) → ArePut g ahead cause Put old new → All (IsSpan g many) old.spans.items → All (IsSpan g many) new.spans.items
spans_follow g ahead cause many Put old new grammar early put before =
    subst (λ (l : List Span). All (IsSpan g many) l) (sym put.grown)
    (All-append (IsSpan g many) old.spans.items put.more before
    (all_more (Of g ahead cause Put) (IsSpan g many) put.more
    (λ s h. record {
      nonterminal = (let done = h.5 in let left = (IsRuleOf-rule g h.2.rule done.rule grammar done.number).left.1 in let same = done.left in omega arith);
      from = early h.1 s.from h.3;
    }) put.are))

pub grows_put : (g : PlainGrammar) (ahead cause : Option ℕ) (Put : Item → ℕ → Type 0) (old new : Now) → ArePut g ahead cause Put old new → Grows g ahead old new
grows_put g ahead cause Put old new put = record { passed = put.passed; stood = put.stood; more = put.more; grown = put.grown }

pub grows_none : (g : PlainGrammar) (ahead : Option ℕ) (now : Now) → Grows g ahead now now
grows_none g ahead now = record { passed = λ h. h; stood = λ x j h. h; more = []; grown = sym (append-nil now.spans.items) }

pub grows_then : (g : PlainGrammar) (ahead : Option ℕ) (old mid new : Now) → Grows g ahead old mid → Grows g ahead mid new → Grows g ahead old new
grows_then g ahead old mid new first second = record {
  passed = λ h. second.passed (first.passed h);
  stood = λ x j h. second.stood x j (first.stood x j h);
  more = first.more ++ second.more;
  grown = second.grown ∙ (ap (λ (l : List Span). l ++ second.more) first.grown ∙ append_assoc old.spans.items first.more second.more);
}

pub kept_grown : (g : PlainGrammar) (ahead : Option ℕ) (old new : Now) (x : Item) (j : ℕ) → Grows g ahead old new → IsKept g ahead old x j → IsKept g ahead new x j
kept_grown g ahead old new x j grows kept = kept_more g ahead old new grows.more x j grows.stood grows.grown kept

-- what was followed stays so
pub followed_grown : (g : PlainGrammar) (ahead : Option ℕ) (chart : List Position) (fronts : List (Vec Front)) (old new : Now) (n : ℕ) → n < length old.spans.items → Grows g ahead old new → IsFollowed g ahead chart fronts old n → IsFollowed g ahead chart fronts new n
followed_grown g ahead chart fronts old new n lt grows followed s x j at of =
    kept_grown g ahead old new x j grows (followed s x j (at_within old.spans.items grows.more n s lt (ap (λ (l : List Span). slice_get l n) (sym grows.grown) ∙ at)) of)

-- one span more is followed
pub followed_now : (g : PlainGrammar) (ahead cause : Option ℕ) (chart : List Position) (fronts : List (Vec Front)) (old new : Now) (i : ℕ) (s : Span) → slice_get old.spans.items i ≡ Some s → ArePut g ahead cause (OfSpan chart fronts s) old new
    → ((n : ℕ) → n < i → (n < length old.spans.items) × IsFollowed g ahead chart fronts old n) → (n : ℕ) → n < i + 1 → (n < length new.spans.items) × IsFollowed g ahead chart fronts new n
followed_now g ahead cause chart fronts old new i s at put before n below =
    let grows = grows_put g ahead cause (OfSpan chart fronts s) old new put in
    let lt = slice_get_within old.spans.items i s at in
    let longer : length old.spans.items ≤ length new.spans.items = (let e = ap (λ (l : List Span). length l) grows.grown ∙ length-append old.spans.items grows.more in omega arith) in
    elim (cases_eq n i) [
      | inl here ↦ (
        omega arith,
        λ t x j there of.
            let at_i : slice_get new.spans.items i ≡ Some s = ap (λ (l : List Span). slice_get l i) grows.grown ∙ at_left old.spans.items grows.more i s at in
            let one : t ≡ s = same_Some t s (sym there ∙ (ap (λ k. slice_get new.spans.items k) here ∙ at_i)) in
            put.kept x j (subst (λ (u : Span). OfSpan chart fronts u x j) one of),
      )
      | inr other ↦
          let b = before n (omega arith) in
          let inside = b.0 in
          (omega arith, followed_grown g ahead chart fronts old new n inside grows b.1)
    ]

module _ (g : PlainGrammar) (ahead cause : Option ℕ) (chart : List Position) (fronts : List (Vec Front)) (tokens : List ℕ) (t : ℕ) (position : Position) (bucket : Vec Row) (list : Vec Front)
    (at : slice_get chart (length chart - 1) ≡ Some position) (at_token : slice_get tokens (length chart - 1) ≡ Some t) (at_bucket : slice_get (rows_in position.rows) 0 ≡ Some bucket) (at_list : slice_get fronts t ≡ Some list) where
  pub scan_puts : (old mid new : Now) → ArePut g ahead cause (OfRows bucket.items) old mid → ArePut g ahead cause (OfFronts position.expected.items list.items (length chart - 1)) mid new → ArePut g ahead cause (OfScan chart fronts tokens) old new
  scan_puts old mid new first second =
      puts_then g ahead cause (OfRows bucket.items) (OfFronts position.expected.items list.items (length chart - 1)) (OfScan chart fronts tokens) old mid new first second
      (λ x j h. (position, t, at, at_token, inl (bucket, at_bucket, h)))
      (λ x j h. (position, t, at, at_token, inr (list, at_list, h)))
      (λ x j h.
      let one : h.0 ≡ position = same_Some h.0 position (sym h.2 ∙ at) in
      let token : h.1 ≡ t = same_Some h.1 t (sym h.3 ∙ at_token) in
      elim h.4 [
        | inl rows ↦
            let here : OfBucket position 0 x j = subst (λ (p : Position). OfBucket p 0 x j) one rows in
            let same : here.0 ≡ bucket = same_Some here.0 bucket (sym here.1 ∙ at_bucket) in
            inl (subst (λ (b : Vec Row). OfRows b.items x j) same here.2)
        | inr begun ↦
            let there : OfBegun position fronts h.1 (length chart - 1) x j = subst (λ (p : Position). OfBegun p fronts h.1 (length chart - 1) x j) one begun in
            let here : OfBegun position fronts t (length chart - 1) x j = subst (λ n. OfBegun position fronts n (length chart - 1) x j) token there in
            let same : here.0 ≡ list = same_Some here.0 list (sym here.1 ∙ at_list) in
            inr (subst (λ (l : Vec Front). OfFronts position.expected.items l.items (length chart - 1) x j) same here.2)
      ])

-- an item that follows from a token has an origin before it
pub scan_before : (g : PlainGrammar) (chart : List Position) (fronts : List (Vec Front)) (tokens : List ℕ) (x : Item) (j : ℕ) → ArePositions g chart → OfScan chart fronts tokens x j → j < length chart
scan_before g chart fronts tokens x j positions h =
    let lt = slice_get_within chart (length chart - 1) h.0 h.2 in
    elim h.4 [
      | inl rows ↦ (let early = (positions (length chart - 1) h.0 h.2).early 0 j rows.0 rows.2.0 rows.1 rows.2.1 rows.2.3 in omega arith)
      | inr begun ↦ (let same = begun.2.4 in omega arith)
    ]

pub before_follow : (g : PlainGrammar) (ahead cause : Option ℕ) (many : ℕ) (Put : Item → ℕ → Type 0) (old new : Now) → IsGrammar g → ((x : Item) (j : ℕ) → Put x j → j < many) → ArePut g ahead cause Put old new → AreBefore g many old → AreBefore g many new
before_follow g ahead cause many Put old new grammar early put before = record {
  spans = spans_follow g ahead cause many Put old new grammar early put before.spans;
  stands = λ x j h. elim (put.stand x j h) [
    | inl was ↦ before.stands x j was
    | inr found ↦ early found.0 j found.1
  ];
}

pub caused_none : (g : PlainGrammar) (chart : List Position) (fronts : List (Vec Front)) (now : Now) → AreCaused g chart fronts now now
caused_none g chart fronts now = record {
  stands = λ x j h. inl h;
  spans = λ n t at. inl (slice_get_within now.spans.items n t at);
}

pub caused_now : (g : PlainGrammar) (ahead : Option ℕ) (chart : List Position) (fronts : List (Vec Front)) (old mid new : Now) (i : ℕ) (s : Span) → slice_get mid.spans.items i ≡ Some s → ArePut g ahead (Some i) (OfSpan chart fronts s) mid new → AreCaused g chart fronts old mid → AreCaused g chart fronts old new
caused_now g ahead chart fronts old mid new i s at put before =
    let stays : (m : ℕ) (t : Span) → slice_get mid.spans.items m ≡ Some t → slice_get new.spans.items m ≡ Some t = λ m t there. ap (λ (l : List Span). slice_get l m) put.grown ∙ at_left mid.spans.items put.more m t there in
    record {
      stands = λ x j h. elim (put.stand x j h) [
        | inl was ↦ elim (before.stands x j was) [
          | inl old ↦ inl old
          | inr found ↦ inr (found.0, found.1, found.2, stays found.0 found.1 found.3, found.4, found.5)
        ]
        | inr found ↦ inr (i, s, found.0, stays i s at, found.1, found.2)
      ];
      spans = λ n t there. elim (cases_lt n (length mid.spans.items)) [
        | inl lt ↦ elim (before.spans n t (at_within mid.spans.items put.more n t lt (ap (λ (l : List Span). slice_get l n) (sym put.grown) ∙ there))) [
          | inl old ↦ inl old
          | inr found ↦ inr (found.0, found.1, found.2, found.3, found.4, found.5, stays found.0 found.1 found.6, found.7, found.8, found.9)
        ]
        | inr ge ↦
            let low = slice_get_within mid.spans.items i s at in
            let in_more : Contains put.more t = behind mid.spans.items put.more n t ge (ap (λ (l : List Span). slice_get l n) (sym put.grown) ∙ there) in
            let of : Of g ahead (Some i) (OfSpan chart fronts s) t = all_contains (Of g ahead (Some i) (OfSpan chart fronts s)) put.more t put.are in_more in
            inr (i, s, of.1, of.2, of.0, omega arith, stays i s at, of.3, of.4, of.5)
      ];
    }
