use Rattle.std.proofs.Common.{◌≡◌, ℕ, ◌<◌, false, drop}
use Rattle.cs_lex.specs.Layout.Forms.{closes_block}
use Rattle.cs_lex.proofs.layout.forms.block_size.Given as goal

abbrev pub invariant-loop-index : goal.invariant-loop-index
invariant-loop-index l = (k : ℕ) → k < l.index → closes_block (drop k l.text) ≡ false
