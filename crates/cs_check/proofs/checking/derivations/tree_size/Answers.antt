-- The one tree has a node for each rule number, and each of its tokens counts as its number says.
use Rattle.std.proofs.Common.{ℕ, ◌+◌, ◌-◌, List, length, min, sym, ap, ◌∙◌}
use Rattle.std.specs.Prelude.{slice_index_or}
use Rattle.std.specs.List.{sum_by}
use Rattle.cs_grammar.specs.Weights.{Measure}
use Rattle.cs_lines.specs.Lines.Numbers.{greatest}
use Rattle.cs_check.proofs.OnChecking.Sizes.{has_size, size_low}
use Rattle.cs_check.proofs.checking.derivations.tree_size.Goals as goal

pub returns-clause-size : goal.returns-clause-size
returns-clause-size c = λ w is small n.
    let rules = c.args.derivation.now in
    let tokens = c.args.tokens.now in
    has_size c.args.grammar.now c.rules-well_formed.ensures.well_formed (c.one_tree.ensures c.args.grammar.now) w small rules tokens c.requires.yields c.requires.few n c.size_of.result
    (c.size_of.ensures
    ∙ ap (λ (l : List ℕ). min (length l + sum_by (λ (t : ℕ). slice_index_or c.args.numbers.now (t - 1) 1) tokens) greatest) c.rules.ensures
    ∙ ap (λ (l : List ℕ). min (length rules + sum_by (λ (t : ℕ). slice_index_or l (t - 1) 1) tokens) greatest) (sym is))

pub returns-clause-below : goal.returns-clause-below
returns-clause-below c = λ small.
    let tokens = c.args.tokens.now in
    let w : Measure = record { numbers = c.args.numbers.now; limit = 0 } in
    size_low c.args.grammar.now c.rules-well_formed.ensures.well_formed (c.one_tree.ensures c.args.grammar.now) w small c.args.derivation.now tokens c.requires.yields c.requires.few c.size_of.result
    (c.size_of.ensures
    ∙ ap (λ (l : List ℕ). min (length l + sum_by (λ (t : ℕ). slice_index_or c.args.numbers.now (t - 1) 1) tokens) greatest) c.rules.ensures)
