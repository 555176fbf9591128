use Rattle.std.proofs.Common.{◌≡◌, ◌≤◌, ◌*◌, take}
use Rattle.std.specs.Prelude.{count_by, is_none, is_some, map, sum_by}
use Rattle.cs_scanner.specs.Lexeme.Texts.{texts_of}
use Rattle.cs_lexical.specs.Least.{lists, named}
use Rattle.cs_lexical.proofs.lexical.count_pairs.Given as goal

abbrev pub invariant-loop-row : goal.invariant-loop-row
invariant-loop-row l = record {
  overlaps : l.overlaps ≡ sum_by (count_by is_some) (map (named (texts_of l.texts)) (lists (take l.row-index l.rows)));
  disjoint : l.disjoint ≡ sum_by (count_by is_none) (map (named (texts_of l.texts)) (lists (take l.row-index l.rows)));
  few : l.overlaps ≤ l.row-index * 2048;
  few_apart : l.disjoint ≤ l.row-index * 2048;
}
