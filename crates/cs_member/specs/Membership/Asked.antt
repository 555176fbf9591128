-- What contracts say of the answer to a question.
use Rattle.std.specs.Prelude.{◌≡◌, ℕ, List, Option, Some, MatchOption, slice_get}
use Rattle.cs_grammar.specs.Sentence.{IsSentence}
use Rattle.cs_member.specs.declared.chart.now.Question.{Question}
use Rattle.cs_member.specs.declared.chart.now.Span.{Span}
use Rattle.cs_member.specs.declared.chart.chart.Position.{Position}
use Rattle.cs_member.specs.declared.derivation.writing.Task.{Task}
use Rattle.cs_member.specs.Chart.Now.{SpansIn}
use Rattle.cs_member.specs.Derivation.Writing.{IsWhole}

abbrev pub AsksSentence : Question → Type 0
AsksSentence q = IsSentence q.grammar.now q.tokens.now

abbrev pub FindsSpan : List Span → ℕ → Option ℕ → Type 0
FindsSpan spans nonterminal result =
    MatchOption result (SpansIn spans nonterminal 0 → ⊥) (λ n. (s : Span) × (slice_get spans n ≡ Some s) × (s.nonterminal ≡ nonterminal) × (s.from ≡ 0))

abbrev pub IsWholeOf : Question → List Position → Task → Type 0
IsWholeOf q chart task = IsWhole q.grammar.now q.tokens.now q.tables.now chart task
