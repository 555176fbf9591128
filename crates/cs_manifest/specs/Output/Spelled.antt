-- Pieces that are spelled in memory.
use Rattle.std.specs.Prelude.{◌≡◌, ℕ, List, [], ◌++◌, false}
use Rattle.cs_manifest.specs.declared.output.output.Output.{Output}
use Rattle.cs_manifest.specs.declared.output.speller.SpelledBytes.{SpelledBytes}
use Rattle.cs_manifest.specs.Output.Putting.{waiting}

-- nothing was put to the output yet
pub record IsBlank (output : Output SpelledBytes) : Type 0 where
  pub fine : output.failed ≡ false
  pub bytes : output.sink.now.bytes.items ≡ []
  pub waiting_none : waiting output ≡ []

-- no write failed, and the piece is what was put to the output
pub record IsSpelled (output : Output SpelledBytes) (piece : List ℕ) : Type 0 where
  pub fine : output.failed ≡ false
  pub bytes : output.sink.now.bytes.items ++ waiting output ≡ piece
