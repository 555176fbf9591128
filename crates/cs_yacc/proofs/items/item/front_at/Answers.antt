-- An opening brace begins a block that is closed at its end, or is open.
use Rattle.std.proofs.Common.{◌≡◌, List, ℕ, Bool, drop, sym, ◌∙◌, subst, arith, true}
use Rattle.std.proofs.lemmas.List.{length-drop}
use Rattle.cs_bytes.specs.Places.{begins_with, has_at}
use Rattle.cs_bytes.proofs.Fronts.{got_at}
use Rattle.cs_yacc.proofs.OnItems.Begin.{block_is, block_open}
use Rattle.cs_yacc.proofs.items.item.front_at.Goals as goal

-- a brace that is found in the bytes stands in the text
brace : (bytes text : List ℕ) (at : ℕ) (found : Bool) → bytes ≡ text → found ≡ has_at bytes at 123 → found ≡ true → begins_with 123 (drop at text) ≡ true
brace bytes text at found same is e = subst (λ t. begins_with 123 (drop at t) ≡ true) same (sym is ∙ e)

pub skip_block-requires : goal.skip_block-requires
skip_block-requires c =
    got_at c.args.text.now c.args.at 123 (brace c.bytes-bytes.result.now c.args.text.now c.args.at c.has_at.result c.bytes-bytes.ensures c.has_at.ensures c.if-not-has_at.false)

pub returns-in-Some-clause-front : goal.returns-in-Some-clause-front
returns-in-Some-clause-front c =
    block_is _ _ (brace c.bytes-bytes.result.now c.args.text.now c.args.at c.has_at.result c.bytes-bytes.ensures c.has_at.ensures c.if-not-has_at.false)
    c.in-Some.ensures.closed (omega (arith, length-drop c.args.at c.args.text.now, c.in-Some.ensures.within.1))

pub returns-in-None-clause-front : goal.returns-in-None-clause-front
returns-in-None-clause-front c =
    block_open _ (brace c.bytes-bytes.result.now c.args.text.now c.args.at c.has_at.result c.bytes-bytes.ensures c.has_at.ensures c.if-not-has_at.false)
    c.in-None.ensures.unclosed
