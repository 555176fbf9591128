use Rattle.std.proofs.Common.{◌≤◌, take}
use Rattle.cs_words.specs.Steps.{AreNames}
use Rattle.cs_words.specs.Words.{texts}
use Rattle.cs_words.proofs.request.count_names.Given as goal

abbrev pub invariant-loop-place : goal.invariant-loop-place
invariant-loop-place l = record {
  few : l.place ≤ l.most;
  names : AreNames (take l.place (texts l.words));
}
