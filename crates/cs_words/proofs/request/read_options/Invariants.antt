use Rattle.std.proofs.Common.{take, []}
use Rattle.cs_words.specs.Options.{AreNew}
use Rattle.cs_words.specs.Words.{texts}
use Rattle.cs_words.proofs.GivenLemmas.{AreGiven}
use Rattle.cs_words.proofs.request.read_options.Given as goal

abbrev pub invariant-loop-place : goal.invariant-loop-place
invariant-loop-place l = record {
  stand : AreNew l.command [] (take l.place (texts l.words));
  given : AreGiven (take l.place (texts l.words)) l.given;
}
