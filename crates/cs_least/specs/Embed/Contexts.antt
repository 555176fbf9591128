-- Chosen contexts that are kept.
use Rattle.std.specs.Prelude.{Option, IfSome, All}
use Rattle.cs_grammar.specs.Weights.{Weighed}
use Rattle.cs_least.specs.declared.embed.contexts.Around.{Around}
use Rattle.cs_least.specs.declared.embed.contexts.Contexts.{Contexts}
use Rattle.cs_least.specs.Embed.Around.{IsChosenAround}

-- it is the chosen one of its nonterminal
abbrev pub IsAroundIn : Weighed → Around → Type 0
IsAroundIn v around = IsChosenAround v around.nonterminal around.context

abbrev pub IsSlotIn : Weighed → Option Around → Type 0
IsSlotIn v slot = IfSome slot (IsAroundIn v)

-- so is each that is kept
abbrev pub AreContextsOf : Weighed → Contexts → Type 0
AreContextsOf v contexts = All (IsSlotIn v) contexts.slots.items

-- what is taken out is a chosen one, and those that stay are
abbrev pub KeepsOthers : Contexts → Option Around → Contexts → Type 0
KeepsOthers old taken new = (v : Weighed) → AreContextsOf v old → IsSlotIn v taken × AreContextsOf v new

-- one more is kept
abbrev pub KeepsContexts : Around → Contexts → Contexts → Type 0
KeepsContexts around old new = (v : Weighed) → IsAroundIn v around → AreContextsOf v old → AreContextsOf v new
