-- The rows of all kinds, as the code has them.
use Rattle.std.specs.Prelude.{ℕ, List, Option}
use Rattle.std.specs.Global.{Vec}
use Rattle.cs_grammar.specs.Grammar.{PlainGrammar}
use Rattle.cs_grammar.specs.Weights.{Measure, Weighed}
use Rattle.cs_pairs.specs.declared.kinds.kinds.Rows.{Rows}
use Rattle.cs_pairs.specs.declared.kinds.known.KnownRoot.{KnownRoot}
use Rattle.cs_pairs.specs.Kinds.Known.{AreKnownIn}
use Rattle.cs_pairs.specs.Kinds.Lefts.{AreLefts}
use Rattle.cs_pairs.specs.Kinds.Tables.{Tables, AreKindTables}

abbrev pub tables_of : Rows → Tables
tables_of rows = record { any = rows.any; empty = rows.empty; begins = rows.begins.items; ends = rows.ends.items }

abbrev pub AreTablesOf : Measure → PlainGrammar → Rows → Type 0
AreTablesOf w g rows = AreKindTables w g (tables_of rows)

-- the rows of all kinds, the rules of each left side, and roots that are known
abbrev pub AreKindsOf : Weighed → Rows → List (Vec ℕ) → List (Option KnownRoot) → Type 0
AreKindsOf v rows lefts known = AreTablesOf v.weights v.grammar rows × AreLefts v.grammar lefts × AreKnownIn v known
