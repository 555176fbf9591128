-- Where nothing is found there is no tree.
use Rattle.std.proofs.Common.{◌≡◌, ℕ, ◌+◌, ◌⊎◌, inl, inr, List, [], Some, length, take, sym, ap, ◌∙◌, subst, arith}
use Rattle.std.specs.Prelude.{slice_get}
use Rattle.cs_grammar.specs.Grammar.{PlainGrammar, IsGrammar}
use Rattle.cs_grammar.specs.Sentence.{IsSentence}
use Rattle.cs_grammar.proofs.Measures.{All-at}
use Rattle.std.proofs.lemmas.Option.{same_Some}
use Rattle.cs_member.specs.declared.chart.chart.Position.{Position}
use Rattle.cs_member.specs.declared.tables.tables.Tables.{Tables}
use Rattle.cs_member.specs.declared.chart.now.Span.{Span}
use Rattle.cs_member.specs.Tables.Item.{IsEmpty}
use Rattle.cs_member.specs.Chart.Now.{SpansIn}
use Rattle.cs_member.specs.Chart.Chart.{IsSpan}
use Rattle.cs_member.specs.Chart.Made.{IsChart, sets_of}
use Rattle.cs_member.specs.Tables.Whole.{IsTables}
use Rattle.cs_member.proofs.OnChart.Completeness.{found}
use Rattle.cs_member.proofs.OnChart.Closing.{closed_chart, spans_within}

module _ (g : PlainGrammar) (tables : Tables) (tokens : List ℕ) (chart : List Position) (grammar : IsGrammar g) (is_tables : IsTables g tables) (is : IsChart g tables tokens (length tokens + 1) chart) where
  looked : IsSentence g tokens → ((tokens ≡ []) × IsEmpty g g.start) ⊎ (sets_of chart).Spans (length tokens) g.start 0
  looked sentence =
      found g tokens (sets_of chart) (closed_chart g tables tokens chart grammar is_tables.question is_tables.corners is_tables.whole is)
      (spans_within g tables tokens chart grammar is_tables.question is_tables.corners is_tables.whole is) sentence

  -- the empty list
  pub empty_outside : length tokens ≡ 0 → (IsEmpty g g.start → ⊥) → IsSentence g tokens → ⊥
  empty_outside none never sentence = elim (looked sentence) [
    | inl empty ↦ never empty.1
    | inr spans ↦
        let made = is.each (length tokens) spans.0 spans.1 in
        let s = spans.2.1 in
        let at = ap (λ (l : List Span). slice_get l spans.2.0) (sym made.spans) ∙ spans.2.2 in
        let from = (All-at (IsSpan g (length (take (length tokens) chart))) made.now.spans.items spans.2.0 s made.before_here.spans at).from in
        let front : length (take (length tokens) chart) ≡ 0 = ap (λ n. length (take n chart)) none in
        absurd (omega arith)
  ]

  -- another list
  pub list_outside : (p : Position) → (length tokens ≡ 0 → ⊥) → slice_get chart (length tokens) ≡ Some p → (SpansIn p.spans.items g.start 0 → ⊥) → IsSentence g tokens → ⊥
  list_outside p some at never sentence = elim (looked sentence) [
    | inl empty ↦ some (ap (λ (l : List ℕ). length l) empty.0)
    | inr spans ↦
        let same : spans.0 ≡ p = same_Some spans.0 p (sym spans.1 ∙ at) in
        never (subst (λ (q : Position). SpansIn q.spans.items g.start 0) same spans.2)
  ]
