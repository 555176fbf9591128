-- Where the parts of a layout lie, line by line.
use Rattle.std.proofs.Common.{◌≡◌, ℕ, ◌+◌, ◌<◌, ◌≤◌, List, [], ◌∷◌, ◌++◌, length, drop, subst, sym, arith, length-append}
use Rattle.std.specs.Prelude.{All}
use Rattle.std.proofs.lemmas.List.Elements.{All-nil, All-push}
use Rattle.std.proofs.lemmas.List.Sums.{sum_by-append}
use Rattle.cs_lex.specs.declared.layout.parts.Definition.{Definition}
use Rattle.cs_lex.specs.declared.layout.parts.Rule.{Rule}
use Rattle.cs_bytes.specs.Places.{line_size}
use Rattle.cs_lex.specs.Layout.Lies.{DefinitionLies, RuleLies, bytes_in, DefinitionsLie, RulesLie, HasRoom}

all_of_none : {X : Type 0} (P : X → Type 0) (xs : List X) → xs ≡ [] → All P xs
all_of_none P xs e = rw e (All-nil P)

pub no_rules_lie : (size at : ℕ) (rs : List Rule) → rs ≡ [] → RulesLie size at rs
no_rules_lie size at rs e = record { each = all_of_none (RuleLies size) rs e; few = rw e (omega arith) }

-- the same, with more room
pub rules_lie_on : (size at to : ℕ) (rs : List Rule) → RulesLie size at rs → at ≤ to → RulesLie size to rs
rules_lie_on size at to rs h le = record { each = h.each; few = omega (arith, h.few) }

pub rules_lie_more : (size at to : ℕ) (rs all : List Rule) (r : Rule) → RulesLie size at rs → at < to → RuleLies size r → all ≡ rs ++ r ∷ [] → RulesLie size to all
rules_lie_more size at to rs all r h lt lies e =
    let more : RulesLie size to (rs ++ r ∷ []) = record {
      each = All-push (RuleLies size) rs r h.each lies;
      few = omega (arith, h.few, length-append rs (r ∷ []));
    } in
    subst (RulesLie size to) (sym e) more

pub no_definitions_lie : (size : ℕ) (ds : List Definition) → ds ≡ [] → DefinitionsLie size 0 ds
no_definitions_lie size ds e = record { each = all_of_none (DefinitionLies size) ds e; together = rw e (omega arith) }

-- the same, with more room
pub definitions_lie_on : (size at to : ℕ) (ds : List Definition) → DefinitionsLie size at ds → at ≤ to → DefinitionsLie size to ds
definitions_lie_on size at to ds h le = record { each = h.each; together = omega (arith, h.together) }

lies : (bytes : List ℕ) (at : ℕ) (d : Definition) → HasRoom bytes at d → DefinitionLies (length bytes) d
lies bytes at d h = record {
  name = record { ordered = h.name; within = omega (arith, h.between, h.substitute, h.within) };
  substitute = record { ordered = h.substitute; within = h.within };
}

pub definitions_lie_more : (bytes : List ℕ) (at to : ℕ) (ds all : List Definition) (d : Definition) → DefinitionsLie (length bytes) at ds → HasRoom bytes at d → to ≡ at + line_size (drop at bytes)
    → all ≡ ds ++ d ∷ [] → DefinitionsLie (length bytes) to all
definitions_lie_more bytes at to ds all d h room e is =
    let more : DefinitionsLie (length bytes) to (ds ++ d ∷ []) = record {
      each = All-push (DefinitionLies (length bytes)) ds d h.each (lies bytes at d room);
      together = omega (arith, sum_by-append bytes_in ds (d ∷ []), h.together, room.begins, room.name, room.between, room.substitute, room.on_line, e);
    } in
    subst (DefinitionsLie (length bytes) to) (sym is) more
