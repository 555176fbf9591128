-- Positions that are made one after another.
use Rattle.std.proofs.Common.{◌≡◌, ℕ, ◌+◌, inl, inr, List, [], ◌∷◌, ◌++◌, Option, None, Some, length, take, get_or, refl, sym, ap, ◌∙◌, subst, arith}
use Rattle.std.specs.Prelude.{All, Contains, slice_get}
use Rattle.std.proofs.lemmas.List.{take-append-le, take_all, length-append, length-take-le, get_or_default}
use Rattle.std.proofs.lemmas.List.Elements.{All-nil}
use Rattle.std.proofs.lemmas.Option.{slice_get_within}
use Rattle.cs_grammar.specs.Grammar.{PlainGrammar}
use Rattle.cs_member.specs.declared.tables.item.Item.{Item}
use Rattle.cs_member.specs.declared.chart.now.Now.{Now}
use Rattle.cs_member.specs.declared.chart.now.Origins.{Origins}
use Rattle.cs_member.specs.declared.chart.chart.Position.{Position}
use Rattle.cs_member.specs.declared.tables.tables.Tables.{Tables}
use Rattle.cs_member.specs.Chart.Now.{StandsIn, ArePassed, ArePut}
use Rattle.cs_member.specs.Chart.Chart.{IsSpan, AreBefore, AreCaused, OfScan, IsPosition, ArePositions, Grows}
use Rattle.cs_member.specs.Chart.Made.{IsFrom, IsMade, IsChart}
use Rattle.cs_member.specs.declared.chart.now.Span.{Span}
use Rattle.cs_member.proofs.OnChart.Puts.{Of}
use Rattle.cs_member.proofs.OnTables.Places.{at_left, at_within, at_push_cases, behind, all_contains}

-- nothing stands at a position that is new
pub none_stands : (origins : List Origins) → origins ≡ [] → (x : Item) (j : ℕ) → StandsIn origins x j → ⊥
none_stands origins none x j h = let lt = slice_get_within [] h.0 h.1 (subst (λ (l : List Origins). slice_get l h.0 ≡ Some h.1) none h.2) in omega arith

pub none_passed : (g : PlainGrammar) (ahead : Option ℕ) (now : Now) → now.origins.items ≡ [] → ArePassed g ahead now
none_passed g ahead now none = record {
  behind = λ x j a stands w empty. absurd (none_stands now.origins.items none x j stands);
  next = λ x j t stands w. absurd (none_stands now.origins.items none x j stands);
}

pub none_before : (g : PlainGrammar) (many : ℕ) (now : Now) → now.origins.items ≡ [] → now.spans.items ≡ [] → AreBefore g many now
none_before g many now none spans = record {
  spans = subst (λ l. All (IsSpan g many) l) (sym spans) (All-nil (IsSpan g many));
  stands = λ x j h. absurd (none_stands now.origins.items none x j h);
}

-- a position that is made is one
pub made_position : (g : PlainGrammar) (tables : Tables) (tokens : List ℕ) (before : List Position) (position : Position) → IsMade g tables tokens before position → IsPosition g (length before) position
made_position g tables tokens before position made = record {
  buckets = made.buckets;
  size = made.rows.size;
  rows = λ b bucket at k d lt. (made.rows.held b bucket (get_or bucket.items k d) at (k, lt, get_or_default bucket.items k (get_or bucket.items k d) d lt)).fits;
  early = λ b j bucket row at has in_it. made.before_here.stands row.item j ((made.rows.held b bucket row at has).back j in_it);
  awaits = λ b bucket row at has above. elim (made.rows.held b bucket row at has).bucket [
    | inl some ↦ some.1
    | inr none ↦ absurd (let zero = none.0 in omega arith)
  ];
}

-- one position more
pub chart_push : (g : PlainGrammar) (tables : Tables) (tokens : List ℕ) (many : ℕ) (chart : List Position) (position : Position) → IsChart g tables tokens many chart → IsMade g tables tokens chart position → IsChart g tables tokens (many + 1) (chart ++ position ∷ [])
chart_push g tables tokens many chart position before made = record {
  long = (let long = length-append chart (position ∷ []) in let was = before.long in omega arith);
  each = λ i p at. elim (at_push_cases chart position i p at) [
    | inl was ↦ (let lt = slice_get_within chart i p was in
        subst (λ (l : List Position). IsMade g tables tokens l p) (sym (take-append-le i chart (position ∷ []) (omega arith))) (before.each i p was))
    | inr last ↦
        let front : take i (chart ++ position ∷ []) ≡ chart = take-append-le i chart (position ∷ []) (let same = last.0 in omega arith) ∙ take_all i chart (let same = last.0 in omega arith) in
        subst (λ (l : List Position). IsMade g tables tokens l p) (sym front) (subst (λ (q : Position). IsMade g tables tokens chart q) last.1 made)
  ];
}

pub chart_none : (g : PlainGrammar) (tables : Tables) (tokens : List ℕ) → IsChart g tables tokens 0 []
chart_none g tables tokens = record { long = refl; each = λ i p at. absurd (let lt = slice_get_within [] i p at in omega arith) }

-- the positions of a chart
pub chart_positions : (g : PlainGrammar) (tables : Tables) (tokens : List ℕ) (many : ℕ) (chart : List Position) → IsChart g tables tokens many chart → ArePositions g chart
chart_positions g tables tokens many chart is = λ i p at.
    let lt = slice_get_within chart i p at in
    let long : length (take i chart) ≡ i = length-take-le i chart (omega arith) in
    subst (λ n. IsPosition g n p) long (made_position g tables tokens (take i chart) p (is.each i p at))

pub from_none : (g : PlainGrammar) (tables : Tables) (tokens : List ℕ) (chart : List Position) (now : Now) → now.origins.items ≡ [] → now.spans.items ≡ [] → IsFrom g tables tokens chart now
from_none g tables tokens chart now none spans = record {
  stands = λ x j h. absurd (none_stands now.origins.items none x j h);
  spans = λ n t at. absurd (let lt = slice_get_within now.spans.items n t at in let e = ap (λ (l : List Span). length l) spans in omega arith);
}

pub from_scan : (g : PlainGrammar) (ahead : Option ℕ) (tables : Tables) (tokens : List ℕ) (chart : List Position) (old new : Now) → old.origins.items ≡ [] → old.spans.items ≡ [] → ArePut g ahead None (OfScan chart tables.tokens.items tokens) old new → IsFrom g tables tokens chart new
from_scan g ahead tables tokens chart old new none spans put = record {
  stands = λ x j h. elim (put.stand x j h) [
    | inl was ↦ absurd (none_stands old.origins.items none x j was)
    | inr found ↦ inl (found.0, found.1, found.2)
  ];
  spans = λ n t at.
      let e = ap (λ (l : List Span). length l) spans in
      let in_more : Contains put.more t = behind old.spans.items put.more n t (omega arith) (ap (λ (l : List Span). slice_get l n) (sym put.grown) ∙ at) in
      let of : Of g ahead None (OfScan chart tables.tokens.items tokens) t = all_contains (Of g ahead None (OfScan chart tables.tokens.items tokens)) put.more t put.are in_more in
      inl (of.1, of.2, of.0, of.3, of.4, of.5);
}

pub from_caused : (g : PlainGrammar) (ahead : Option ℕ) (tables : Tables) (tokens : List ℕ) (chart : List Position) (old new : Now) → Grows g ahead old new → AreCaused g chart tables.nonterminals.items old new → IsFrom g tables tokens chart old → IsFrom g tables tokens chart new
from_caused g ahead tables tokens chart old new grows caused from =
    let stays : (m : ℕ) (t : Span) → slice_get old.spans.items m ≡ Some t → slice_get new.spans.items m ≡ Some t = λ m t there. ap (λ (l : List Span). slice_get l m) grows.grown ∙ at_left old.spans.items grows.more m t there in
    record {
      stands = λ x j h. elim (caused.stands x j h) [
        | inl was ↦ elim (from.stands x j was) [
          | inl scan ↦ inl scan
          | inr span ↦ inr (span.0, span.1, span.2, stays span.0 span.1 span.3, span.4, span.5)
        ]
        | inr span ↦ inr span
      ];
      spans = λ n t at. elim (caused.spans n t at) [
        | inl lt ↦ elim (from.spans n t (at_within old.spans.items grows.more n t lt (ap (λ (l : List Span). slice_get l n) (sym grows.grown) ∙ at))) [
          | inl scan ↦ inl scan
          | inr span ↦ inr (span.0, span.1, span.2, span.3, span.4, span.5, stays span.0 span.1 span.6, span.7, span.8, span.9)
        ]
        | inr span ↦ inr span
      ];
    }
