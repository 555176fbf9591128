-- The fronts of all rules are entered, and the descents are those of their corners.
use Rattle.std.proofs.Common.{◌+◌, ℕ, List, refl, sym, subst}
use Rattle.std.specs.Global.{Vec}
use Rattle.cs_member.specs.Tables.Expecting.{AreCorners, AreDescents}
use Rattle.cs_member.specs.declared.tables.fronts.Fronts.{Fronts}
use Rattle.cs_member.proofs.OnTables.Entering.{tokens_are, nonterminals_are, corners_are, whole}
use Rattle.cs_member.proofs.tables.tables.Tables.new.Goals as goal

pub returns : goal.returns
returns c =
    let g = c.args.grammar.now in
    let grammar = c.rules-well_formed.ensures.well_formed in
    let fronts : Fronts = c.in_ok-fronts.fronts in
    let is = c.in_ok-fronts.ensures in
    record {
      question = record {
        places = c.in_ok-bases.ensures;
        empties = c.in_ok-empties.ensures.empties;
        rounds = c.in_ok-empties.ensures.rounds;
        tokens = tokens_are g grammar fronts is;
        nonterminals = nonterminals_are g grammar fronts is;
      };
      corners = corners_are g grammar fronts is;
      descents = subst (λ (l : List (Vec ℕ)). AreDescents (g.nonterminals + 1) l c.in_ok-descents.descents.items) c.deref-2.ensures.value (subst (λ n. AreDescents (n + 1) c.deref-2.result.now c.in_ok-descents.descents.items) c.nonterminals.ensures c.in_ok-descents.ensures);
      whole = whole g grammar fronts is _ refl refl refl;
    }

pub descents_of-requires : goal.descents_of-requires
descents_of-requires c =
    let g = c.args.grammar.now in
    let grammar = c.rules-well_formed.ensures.well_formed in
    let fronts : Fronts = c.in_ok-fronts.fronts in
    subst (λ n. AreCorners (n + 1) c.deref-2.result.now) (sym c.nonterminals.ensures)
    (subst (λ (l : List (Vec ℕ)). AreCorners (g.nonterminals + 1) l) (sym c.deref-2.ensures.value) (corners_are g grammar fronts c.in_ok-fronts.ensures))
