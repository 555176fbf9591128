-- What contracts say of the way back through the chart of a question, and of tasks.
use Rattle.std.specs.Prelude.{◌≡◌, ◌<◌, ℕ, List, Option, None, Some, All, MatchOption, slice_get, take}
use Rattle.std.specs.Global.{Vec}
use Rattle.cs_grammar.specs.Grammar.{PlainGrammar}
use Rattle.cs_member.specs.declared.tables.item.Item.{Item}
use Rattle.cs_member.specs.declared.tables.fronts.Front.{Front}
use Rattle.cs_member.specs.declared.chart.now.Question.{Question}
use Rattle.cs_member.specs.declared.chart.now.Span.{Span}
use Rattle.cs_member.specs.declared.chart.chart.Position.{Position}
use Rattle.cs_member.specs.declared.chart.chart.Row.{Row}
use Rattle.cs_member.specs.declared.derivation.back.Back.{Back}
use Rattle.cs_member.specs.declared.derivation.back.Sought.{Sought}
use Rattle.cs_member.specs.declared.derivation.back.Sought.TheVariants.{Exactly}
use Rattle.cs_member.specs.declared.derivation.back.WayBack.{WayBack}
use Rattle.cs_member.specs.declared.derivation.writing.Task.{Task}
use Rattle.cs_member.specs.declared.derivation.writing.Task.TheVariants.{Trees}
use Rattle.cs_member.specs.Tables.Item.{IsItem, over}
use Rattle.cs_member.specs.Chart.Chart.{OfRows, OfScan, OfSpan}
use Rattle.cs_member.specs.Derivation.Back.{Meets, IsPlaceSought, LeadsTo, NoneLeads, IsBehind, IsInRows, IsOfFronts, OfSymbol, IsBefore, OfChild, IsBack, IsFound}
use Rattle.cs_member.specs.Derivation.Writing.{Writes, IsTaken, IsTakenBelow, IsAbove}

abbrev pub FindsPlace : PlainGrammar → Sought → ℕ → Option ℕ → Type 0
FindsPlace g sought r result = MatchOption result ((x : Item) → x.rule ≡ r → Meets g sought x → ⊥) (IsPlaceSought g sought r)

abbrev pub FindsLead : Question → Sought → Item → Option Item → Type 0
FindsLead q sought first result = MatchOption result (NoneLeads q.grammar.now sought (λ x. x ≡ first)) (LeadsTo q.grammar.now sought first)

abbrev pub FindsRow : Question → Sought → List Row → ℕ → ℕ → Option Back → Type 0
FindsRow q sought rows begin from result =
    MatchOption result (NoneLeads q.grammar.now sought (λ x. OfRows rows x from))
    (λ back. IsInRows rows from back.before × (back.begin ≡ begin) × IsBehind q.grammar.now sought back)

-- items behind a symbol
abbrev pub AreOver : Question → List Front → Type 0
AreOver q fronts = All (λ f. IsItem q.grammar.now f.item × (0 < f.item.place)) fronts

abbrev pub FindsFront : Question → Sought → List Front → ℕ → Option Back → Type 0
FindsFront q sought fronts begin result =
    MatchOption result (NoneLeads q.grammar.now sought (IsOfFronts fronts))
    (λ back. IsOfFronts fronts (over back.before) × (back.begin ≡ begin) × IsBehind q.grammar.now sought back)

abbrev pub FindsAt : Question → Sought → Position → ℕ → List Front → ℕ → ℕ → Option Back → Type 0
FindsAt q sought position bucket fronts begin from result =
    MatchOption result (NoneLeads q.grammar.now sought (OfSymbol position bucket fronts begin from))
    (λ back. IsBefore position bucket fronts begin from back.before × (back.begin ≡ begin) × IsBehind q.grammar.now sought back)

abbrev pub FindsByToken : Question → List Position → Sought → ℕ → ℕ → Option Back → Type 0
FindsByToken q chart sought at from result =
    MatchOption result (NoneLeads q.grammar.now sought (λ x. OfScan (take at chart) q.tables.now.tokens.items q.tokens.now x from))
    (IsFound q.grammar.now q.tokens.now chart sought at from None)

abbrev pub FindsBySpan : Question → List Position → Sought → ℕ → ℕ → ℕ → Option Back → Type 0
FindsBySpan q chart sought at number from result =
    (p : Position) (s : Span) → slice_get chart at ≡ Some p → slice_get p.spans.items number ≡ Some s
    → MatchOption result (NoneLeads q.grammar.now sought (λ x. OfSpan (take at chart) q.tables.now.nonterminals.items s x from))
    (IsFound q.grammar.now q.tokens.now chart sought at from (Some number))

abbrev pub FindsBy : Question → List Position → Sought → ℕ → Option ℕ → ℕ → Option Back → Type 0
FindsBy q chart sought at child from result =
    (p : Position) → slice_get chart at ≡ Some p
    → MatchOption result (NoneLeads q.grammar.now sought (OfChild q.tables.now q.tokens.now (take at chart) p.spans.items child from))
    (IsFound q.grammar.now q.tokens.now chart sought at from child)

abbrev pub FindsWay : Question → List Position → Item → ℕ → ℕ → WayBack → Type 0
FindsWay q chart item at from result = IsFound q.grammar.now q.tokens.now chart (Exactly item) at from result.child result.back

abbrev pub IsBackOf : Question → List Position → ℕ → ℕ → Option ℕ → Back → Type 0
IsBackOf q chart at from child back = IsBack q.grammar.now q.tokens.now chart at from child back

abbrev pub WritesOf : Question → List Position → Task → List ℕ → Type 0
WritesOf q chart task rules = Writes q.grammar.now q.tokens.now chart task rules

abbrev pub Takes : Question → List Position → Task → Option ℕ → Vec Task → Vec Task → Type 0
Takes q chart task written old new = IsTaken q.grammar.now q.tokens.now q.tables.now chart task written old.items new.items

abbrev pub TakesBack : Question → List Position → ℕ → ℕ → Option ℕ → Back → Vec Task → Vec Task → Type 0
TakesBack q chart from at child back old new =
    (limit : ℕ) → IsAbove at child limit
    → IsTakenBelow q.grammar.now q.tokens.now q.tables.now chart limit (Trees back.found from at) None old.items new.items
