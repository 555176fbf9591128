-- The way back from an item: what stands before a child, and awaits it.
use Rattle.std.proofs.Common.{◌≡◌, ℕ, ◌+◌, ◌-◌, ◌<◌, inl, inr, List, [], ◌∷◌, ◌++◌, Option, None, Some, length, take, get_or, refl, sym, ap, ◌∙◌, subst, arith}
use Rattle.std.specs.Prelude.{All, Contains, MatchOption, slice_get}
use Rattle.std.specs.Global.{Vec}
use Rattle.std.proofs.lemmas.List.{length-take-le, take_more}
use Rattle.std.proofs.lemmas.List.Elements.{Contains-push_cases, Contains-get_or}
use Rattle.std.proofs.lemmas.Option.{slice_get_read, slice_get_within, same_Some}
use Rattle.cs_grammar.specs.declared.symbol.Symbol.{Symbol}
use Rattle.cs_grammar.specs.declared.symbol.Symbol.TheVariants.{Token, Nonterminal}
use Rattle.cs_grammar.specs.Grammar.{PlainGrammar, IsGrammar}
use Rattle.cs_grammar.proofs.Measures.{All-at, IsRuleOf-rule}
use Rattle.cs_member.specs.Chart.Buckets.{rows_in}
use Rattle.cs_member.specs.declared.tables.item.Item.{Item}
use Rattle.cs_member.specs.declared.derivation.back.Back.{Back}
use Rattle.cs_member.specs.declared.derivation.back.Sought.{Sought}
use Rattle.cs_member.specs.declared.derivation.back.Sought.TheVariants.{Exactly, End}
use Rattle.cs_member.specs.declared.chart.now.Origins.{Origins}
use Rattle.cs_member.specs.Chart.Now.{StandsIn, IsHere}
use Rattle.cs_member.proofs.OnChart.Bucketing.{here_item}
use Rattle.cs_member.specs.declared.chart.chart.Position.{Position}
use Rattle.cs_member.specs.declared.chart.chart.Row.{Row}
use Rattle.cs_member.specs.declared.tables.fronts.Front.{Front}
use Rattle.cs_member.specs.declared.chart.now.Span.{Span}
use Rattle.cs_member.specs.declared.tables.tables.Tables.{Tables}
use Rattle.cs_member.specs.Tables.Item.{Awaits, IsDone, IsFront, IsItem, over}
use Rattle.cs_member.specs.Tables.Sets.{InWords}
use Rattle.cs_member.specs.Tables.Fronts.{IsEntry}
use Rattle.cs_member.specs.Tables.Tables.{AreFronts}
use Rattle.cs_member.specs.Chart.Chart.{OfRows, OfScan, OfSpan, OfBucket, IsSpan, IsPosition, StandsAt}
use Rattle.cs_member.specs.Chart.Made.{IsChart}
use Rattle.cs_member.specs.Tables.Whole.{IsTables}
use Rattle.cs_member.specs.Derivation.Back.{LeadsTo, NoneLeads, IsBehind, IsOfFronts, OfSymbol, IsBefore, StandsBefore, IsAt, HasChild, IsFound, OfChild, IsChild}
use Rattle.cs_member.proofs.OnTables.Places.{at_from_take}
use Rattle.cs_member.proofs.OnTables.Entering.{same_item}
use Rattle.cs_member.proofs.OnChart.Making.{made_position}

pub match_both : {X : Type 0} (o : Option X) (P Q : Type 0) (R S : X → Type 0) → (P → Q) → ((x : X) → R x → S x) → MatchOption o P R → MatchOption o Q S
match_both None P Q R S p r h = p h
match_both (Some x) P Q R S p r h = r x h

-- one row, or one front, more
pub rows_lead_more : (g : PlainGrammar) (sought : Sought) (rows : List Row) (k from : ℕ) (row : Row) → k < length rows → row ≡ get_or rows k row → (InWords row.words.items from → (x : Item) → LeadsTo g sought (over row.item) x → ⊥)
    → NoneLeads g sought (λ x. OfRows (take k rows) x from) → NoneLeads g sought (λ x. OfRows (take (k + 1) rows) x from)
rows_lead_more g sought rows k from row lt is never before first x of leads =
    let more : take (k + 1) rows ≡ take k rows ++ row ∷ [] = take_more rows k row lt ∙ ap (λ (r : Row). take k rows ++ r ∷ []) (sym is) in
    elim (Contains-push_cases (take k rows) row of.0 (subst (λ (l : List Row). Contains l of.0) more of.1)) [
      | inl was ↦ before first x (of.0, was, of.2, of.3) leads
      | inr now ↦
          let item : first ≡ over row.item = of.2 ∙ ap (λ (r : Row). over r.item) (sym now) in
          never (subst (λ (r : Row). InWords r.words.items from) (sym now) of.3) x (subst (λ (y : Item). LeadsTo g sought y x) item leads)
    ]

pub fronts_lead_more : (g : PlainGrammar) (sought : Sought) (fronts : List Front) (k : ℕ) (d : Front) → k < length fronts → NoneLeads g sought (λ x. x ≡ (get_or fronts k d).item)
    → NoneLeads g sought (IsOfFronts (take k fronts)) → NoneLeads g sought (IsOfFronts (take (k + 1) fronts))
fronts_lead_more g sought fronts k d lt never before first x of leads =
    elim (Contains-push_cases (take k fronts) (get_or fronts k d) of.0 (subst (λ (l : List Front). Contains l of.0) (take_more fronts k d lt) of.1)) [
      | inl was ↦ before first x (of.0, was, of.2) leads
      | inr now ↦ never first x (of.2 ∙ ap (λ (f : Front). f.item) (sym now)) leads
    ]

same_over : (x y : Item) → over x ≡ over y → x ≡ y
same_over x y e =
    let rule : x.rule ≡ y.rule = ap (λ (z : Item). z.rule) e in
    let place : x.place + 1 ≡ y.place + 1 = ap (λ (z : Item). z.place) e in
    same_item x y.rule y.place rule (omega arith)

-- the fronts of a symbol's list
pub fronts_fit : (g : PlainGrammar) (symbol_of : ℕ → Symbol) (last : ℕ) (lists : List (Vec Front)) (n : ℕ) (list : Vec Front) → AreFronts g symbol_of last lists → slice_get lists n ≡ Some list → All (λ f. IsItem g f.item × (0 < f.item.place)) list.items
fronts_fit g symbol_of last lists n list are at k d lt =
    let f = get_or list.items k d in
    let entry = are.entries n f (list, at, Contains-get_or list.items k d lt) in
    let place : f.item.place ≡ entry.0.place + 1 = ap (λ (z : Item). z.place) entry.3 in
    ((are.items n list at k d lt).0, omega arith)

-- a position, and a span of it, as they are read of a chart
pub span_read : (chart : List Position) (i n : ℕ) (p : Position) (s : Span) → IsChild chart i (Some n) → p ≡ get_or chart i p → s ≡ get_or (get_or chart i p).spans.items n s → (slice_get chart i ≡ Some p) × (slice_get p.spans.items n ≡ Some s)
span_read chart i n p s child p_is s_is =
    let at : slice_get chart i ≡ Some p = slice_get_read chart _ i p refl (slice_get_within chart i child.0 child.1) p_is in
    let size = ap (λ (q : Position). length q.spans.items) (same_Some child.0 p (sym child.1 ∙ at)) in
    let below = child.2 in
    (at, slice_get_read p.spans.items _ n s refl (omega arith) (s_is ∙ ap (λ (q : Position). get_or q.spans.items n s) (sym p_is)))

module _ (g : PlainGrammar) (tables : Tables) (tokens : List ℕ) (chart : List Position) (grammar : IsGrammar g) (is_tables : IsTables g tables) (is : IsChart g tables tokens (length tokens + 1) chart) where
  pub front_long : (i : ℕ) (p : Position) → slice_get chart i ≡ Some p → length (take i chart) ≡ i
  front_long i p at = let lt = slice_get_within chart i p at in length-take-le i chart (omega arith)

  pub position_at : (i : ℕ) (p : Position) → slice_get chart i ≡ Some p → IsPosition g i p
  position_at i p at = subst (λ n. IsPosition g n p) (front_long i p at) (made_position g tables tokens (take i chart) p (is.each i p at))

  -- the spans of a position
  pub span_at : (i n : ℕ) (p : Position) (s : Span) → slice_get chart i ≡ Some p → slice_get p.spans.items n ≡ Some s → IsSpan g i s
  span_at i n p s at at_s =
      let made = is.each i p at in
      let here : slice_get made.now.spans.items n ≡ Some s = ap (λ (l : List Span). slice_get l n) (sym made.spans) ∙ at_s in
      subst (λ m. IsSpan g m s) (front_long i p at) (All-at (IsSpan g (length (take i chart))) made.now.spans.items n s made.before_here.spans here)

  done_above : (x : Item) (a : ℕ) → IsDone g x a → 0 < a
  done_above x a d = let low = (IsRuleOf-rule g x.rule d.rule grammar d.number).left.0 in let left = d.left in omega arith

  pub span_above : (i n : ℕ) (p : Position) (s : Span) → slice_get chart i ≡ Some p → slice_get p.spans.items n ≡ Some s → 0 < s.nonterminal
  span_above i n p s at at_s =
      let made = is.each i p at in
      let here : slice_get made.now.spans.items n ≡ Some s = ap (λ (l : List Span). slice_get l n) (sym made.spans) ∙ at_s in
      elim (made.from.spans n s here) [
        | inl token ↦ done_above token.1 s.nonterminal token.5
        | inr span ↦ done_above span.3 s.nonterminal span.9
      ]

  -- the cause of a span is a child, over which the end of a rule is found
  pub span_child : (i n : ℕ) (p : Position) (s : Span) → slice_get chart i ≡ Some p → slice_get p.spans.items n ≡ Some s → IsChild chart i s.cause
  span_child i n p s at at_s =
      let made = is.each i p at in
      let here : slice_get made.now.spans.items n ≡ Some s = ap (λ (l : List Span). slice_get l n) (sym made.spans) ∙ at_s in
      elim (made.from.spans n s here) [
        | inl token ↦ subst (λ (o : Option ℕ). IsChild chart i o) (sym token.2) tt
        | inr span ↦
            let at_t : slice_get p.spans.items span.0 ≡ Some span.1 = ap (λ (l : List Span). slice_get l span.0) made.spans ∙ span.6 in
            subst (λ (o : Option ℕ). IsChild chart i o) (sym span.4) (p, at, slice_get_within p.spans.items span.0 span.1 at_t)
      ]

  pub cause_earlier : (i n m : ℕ) (p : Position) (s : Span) → slice_get chart i ≡ Some p → slice_get p.spans.items n ≡ Some s → s.cause ≡ Some m → m < n
  cause_earlier i n m p s at at_s cause =
      let made = is.each i p at in
      let here : slice_get made.now.spans.items n ≡ Some s = ap (λ (l : List Span). slice_get l n) (sym made.spans) ∙ at_s in
      elim (made.from.spans n s here) [
        | inl token ↦ (let none = token.2 in absurd cc)
        | inr span ↦ (let same = same_Some span.0 m (sym span.4 ∙ cause) in let less = span.5 in omega arith)
      ]

  pub span_way : (i n : ℕ) (p : Position) (s : Span) → slice_get chart i ≡ Some p → slice_get p.spans.items n ≡ Some s → NoneLeads g (End s.nonterminal) (OfChild tables tokens (take i chart) p.spans.items s.cause s.from) → ⊥
  span_way i n p s at at_s none =
      let made = is.each i p at in
      let here : slice_get made.now.spans.items n ≡ Some s = ap (λ (l : List Span). slice_get l n) (sym made.spans) ∙ at_s in
      elim (made.from.spans n s here) [
        | inl token ↦
            let child : OfChild tables tokens (take i chart) p.spans.items s.cause s.from token.0 = subst (λ (o : Option ℕ). OfChild tables tokens (take i chart) p.spans.items o s.from token.0) (sym token.2) token.3 in
            none token.0 token.1 child (record { past = token.4; meets = token.5 })
        | inr span ↦
            let at_t : slice_get p.spans.items span.0 ≡ Some span.1 = ap (λ (l : List Span). slice_get l span.0) made.spans ∙ span.6 in
            let child : OfChild tables tokens (take i chart) p.spans.items s.cause s.from span.2 = subst (λ (o : Option ℕ). OfChild tables tokens (take i chart) p.spans.items o s.from span.2) (sym span.4) (span.1, at_t, span.7) in
            none span.2 span.3 child (record { past = span.8; meets = span.9 })
      ]

  -- what the rows of a position's buckets await
  pub rows_nonterminal : (i b : ℕ) (p : Position) (list : Vec Row) (row : Row) → slice_get chart i ≡ Some p → 0 < b → slice_get (rows_in p.rows) b ≡ Some list → Contains list.items row → Awaits g row.item (Nonterminal b)
  rows_nonterminal i b p list row at above at_list has = (position_at i p at).awaits b list row at_list has above

  pub rows_token : (i t j : ℕ) (p : Position) (list : Vec Row) (row : Row) → slice_get chart i ≡ Some p → slice_get tokens i ≡ Some t → slice_get (rows_in p.rows) 0 ≡ Some list → Contains list.items row → InWords row.words.items j → Awaits g row.item (Token t)
  rows_token i t j p list row at token at_list has in_it =
      let made = is.each i p at in
      let held = made.rows.held 0 list row at_list has in
      elim held.bucket [
        | inl some ↦ absurd (let above = some.0 in omega arith)
        | inr waits ↦
            let next : slice_get tokens (length (take i chart)) ≡ Some waits.1 = made.passed.next row.item j waits.1 (held.back j in_it) waits.2 in
            let same : waits.1 ≡ t = same_Some waits.1 t (sym next ∙ (ap (λ n. slice_get tokens n) (front_long i p at) ∙ token)) in
            subst (λ n. Awaits g row.item (Token n)) same waits.2
      ]

  -- what comes before a symbol stands there, and awaits it
  before_symbol : (i from bucket : ℕ) (p : Position) (s : Symbol) (fronts : Vec Front) (x : Item) → slice_get chart i ≡ Some p → ((f : Front) → Contains fronts.items f → IsEntry g s f)
      → ((list : Vec Row) (row : Row) → slice_get (rows_in p.rows) bucket ≡ Some list → Contains list.items row → InWords row.words.items from → Awaits g row.item s)
      → IsBefore p bucket fronts.items i from x → IsAt g chart x from i × Awaits g x s
  before_symbol i from bucket p s fronts x at entries rows before = elim before [
    | inl begins ↦
        let f = begins.1.0 in
        let entry = entries f begins.1.1 in
        let same : x ≡ entry.0 = same_over x entry.0 (begins.1.2 ∙ entry.3) in
        (inl (begins.0, f.left, subst (λ (y : Item). IsFront g f.left y) (sym same) entry.1), subst (λ (y : Item). Awaits g y s) (sym same) entry.2)
    | inr stands ↦
        let row = stands.3.0 in
        (inr (stands.0, p, at, (bucket, stands.1, row, stands.2, stands.3.1, stands.3.2, stands.3.3)), subst (λ (y : Item). Awaits g y s) stands.3.2 (rows stands.1 row stands.2 stands.3.1 stands.3.3))
  ]

  behind_found : (sought : Sought) (i at from : ℕ) (child : Option ℕ) (back : Back) → IsAt g chart back.before from i × HasChild g tokens chart back.before i at child → back.begin ≡ i → i < at → IsBehind g sought back → IsFound g tokens chart sought at from child back
  behind_found sought i at from child back h begin earlier behind = (
    record {
      there = subst (λ n. IsAt g chart back.before from n) (sym begin) h.0;
      earlier = subst (λ n. n < at) (sym begin) earlier;
      awaits = subst (λ n. HasChild g tokens chart back.before n at child) (sym begin) h.1;
      past = behind.past;
    },
    behind.meets,
  )

  module _ (sought : Sought) (at from : ℕ) (p : Position) (list : Vec Front) where
    -- over the token before a position
    pub token_back : (i t : ℕ) → i + 1 ≡ at → slice_get chart i ≡ Some p → slice_get tokens i ≡ Some t → slice_get tables.tokens.items t ≡ Some list → (back : Back)
        → IsBefore p 0 list.items i from back.before × (back.begin ≡ i) × IsBehind g sought back → IsFound g tokens chart sought at from None back
    token_back i t next at_p at_t at_list back h =
        let b = before_symbol i from 0 p (Token t) list back.before at_p (λ f has. is_tables.question.tokens.entries t f (list, at_list, has))
        (λ l row at_l has in_it. rows_token i t from p l row at_p at_t at_l has in_it) h.0 in
        behind_found sought i at from None back (b.0, (t, at_t, next, b.1)) h.1 (omega arith) h.2

    pub token_none : (i t : ℕ) → i + 1 ≡ at → slice_get chart i ≡ Some p → slice_get tokens i ≡ Some t → slice_get tables.tokens.items t ≡ Some list
        → NoneLeads g sought (OfSymbol p 0 list.items i from) → NoneLeads g sought (λ x. OfScan (take at chart) tables.tokens.items tokens x from)
    token_none i t next at_p at_t at_list none first x scan leads =
        let inside = slice_get_within (take at chart) (length (take at chart) - 1) scan.0 scan.2 in
        let lt = slice_get_within chart i p at_p in
        let long : length (take at chart) ≡ at = length-take-le at chart (omega arith) in
        let last : length (take at chart) - 1 ≡ i = omega arith in
        let here : slice_get chart i ≡ Some scan.0 = ap (λ n. slice_get chart n) (sym last) ∙ at_from_take chart at (length (take at chart) - 1) scan.0 scan.2 in
        let same : scan.0 ≡ p = same_Some scan.0 p (sym here ∙ at_p) in
        let token : scan.1 ≡ t = same_Some scan.1 t (sym scan.3 ∙ (ap (λ n. slice_get tokens n) last ∙ at_t)) in
        none first x
        (elim scan.4 [
          | inl bucket ↦ inl (subst (λ (q : Position). OfBucket q 0 first from) same bucket)
          | inr begun ↦
              let list_same : begun.0 ≡ list = same_Some begun.0 list (sym begun.1 ∙ (ap (λ n. slice_get tables.tokens.items n) token ∙ at_list)) in
              inr ((begun.2.0, subst (λ (v : Vec Front). Contains v.items begun.2.0) list_same begun.2.1, begun.2.3), begun.2.4 ∙ last)
        ]) leads

    -- over a span
    pub span_back : (q : Position) (n : ℕ) (s : Span) → slice_get chart at ≡ Some q → slice_get q.spans.items n ≡ Some s → slice_get chart s.from ≡ Some p → slice_get tables.nonterminals.items s.nonterminal ≡ Some list → (back : Back)
        → IsBefore p s.nonterminal list.items s.from from back.before × (back.begin ≡ s.from) × IsBehind g sought back → IsFound g tokens chart sought at from (Some n) back
    span_back q n s at_q at_s at_p at_list back h =
        let above = span_above at n q s at_q at_s in
        let b = before_symbol s.from from s.nonterminal p (Nonterminal s.nonterminal) list back.before at_p (λ f has. is_tables.question.nonterminals.entries s.nonterminal f (list, at_list, has))
        (λ l row at_l has in_it. rows_nonterminal s.from s.nonterminal p l row at_p above at_l has) h.0 in
        behind_found sought s.from at from (Some n) back (b.0, (q, s, at_q, at_s, refl, b.1)) h.1 (span_at at n q s at_q at_s).from h.2

    pub span_none : (q : Position) (n : ℕ) (s : Span) → slice_get chart at ≡ Some q → slice_get q.spans.items n ≡ Some s → slice_get chart s.from ≡ Some p → slice_get tables.nonterminals.items s.nonterminal ≡ Some list
        → NoneLeads g sought (OfSymbol p s.nonterminal list.items s.from from) → NoneLeads g sought (λ x. OfSpan (take at chart) tables.nonterminals.items s x from)
    span_none q n s at_q at_s at_p at_list none first x span leads =
        let here : slice_get chart s.from ≡ Some span.0 = at_from_take chart at s.from span.0 span.1 in
        let same : span.0 ≡ p = same_Some span.0 p (sym here ∙ at_p) in
        none first x
        (elim span.2 [
          | inl bucket ↦ inl (subst (λ (r : Position). OfBucket r s.nonterminal first from) same bucket)
          | inr begun ↦
              let list_same : begun.0 ≡ list = same_Some begun.0 list (sym begun.1 ∙ at_list) in
              inr ((begun.2.0, subst (λ (v : Vec Front). Contains v.items begun.2.0) list_same begun.2.1, begun.2.3), begun.2.4)
        ]) leads

module _ (g : PlainGrammar) (tables : Tables) (tokens : List ℕ) (chart : List Position) (is_tables : IsTables g tables) (is : IsChart g tables tokens (length tokens + 1) chart) (x : Item) (from at : ℕ) where
  -- what stands at a position stood there when it was made
  pub stood_in : (p : Position) → (at_p : slice_get chart at ≡ Some p) → StandsAt p x from → StandsIn (is.each at p at_p).now.origins.items x from
  stood_in p at_p h = subst (λ (y : Item). StandsIn (is.each at p at_p).now.origins.items y from) h.5 (((is.each at p at_p).rows.held h.0 h.1 h.2 h.3 h.4).back from h.6)

  pub stands_item : StandsBefore chart x from at → IsItem g x
  stands_item h =
      let s = stood_in h.1 h.2 h.3 in
      let here : IsHere g s.1.item = All-at (λ (o : Origins). IsHere g o.item) (is.each at h.1 h.2).now.origins.items s.0 s.1 (is.each at h.1 h.2).is_now.here s.2 in
      here_item g x (subst (λ (y : Item). IsHere g y) s.3 here)

  -- and was found over a token or a span
  pub stands_way : (p : Position) → slice_get chart at ≡ Some p → StandsBefore chart x from at → NoneLeads g (Exactly x) (λ y. OfScan (take at chart) tables.tokens.items tokens y from)
      → ((m : ℕ) → m < length p.spans.items → NoneLeads g (Exactly x) (OfChild tables tokens (take at chart) p.spans.items (Some m) from)) → ⊥
  stands_way p at_p h no_token no_span =
      let one : h.1 ≡ p = same_Some h.1 p (sym h.2 ∙ at_p) in
      let made = is.each at p at_p in
      let s = stood_in p at_p (subst (λ (q : Position). StandsAt q x from) one h.3) in
      elim (made.from.stands x from s) [
        | inl token ↦ no_token token.0 x token.1 (record { past = token.2; meets = refl })
        | inr span ↦
            let at_s : slice_get p.spans.items span.0 ≡ Some span.1 = ap (λ (l : List Span). slice_get l span.0) made.spans ∙ span.3 in
            no_span span.0 (slice_get_within p.spans.items span.0 span.1 at_s) span.2 x (span.1, at_s, span.4) (record { past = span.5; meets = refl })
      ]
