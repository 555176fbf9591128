-- Each word lies within the text; a `return` is one more, another adds none, and in the end all were given.
use Rattle.std.proofs.Common.{refl, sym, ◌∙◌}
use Rattle.cs_lex.proofs.OnActions.WordsFound.{this_within, gives_return, gives_other, whole, gave_all}
use Rattle.cs_lex.proofs.actions.words.words_of.Goals as goal

pub bytes_of-bytes-requires-clause-ordered : goal.bytes_of-bytes-requires-clause-ordered
bytes_of-bytes-requires-clause-ordered c = (this_within c.args.text.now c.words-rest.result c.next.new.self c.loop-word.rest c.in-Some.word c.loop-word.found c.loop-word.invariant c.in-Some.ensures.given (whole c.args.text.now c.words-rest.result c.words-rest.ensures)).0

pub bytes_of-bytes-requires-clause-within : goal.bytes_of-bytes-requires-clause-within
bytes_of-bytes-requires-clause-within c = (this_within c.args.text.now c.words-rest.result c.next.new.self c.loop-word.rest c.in-Some.word c.loop-word.found c.loop-word.invariant c.in-Some.ensures.given (whole c.args.text.now c.words-rest.result c.words-rest.ensures)).1

pub loop-word-preserved-then-same_bytes : goal.loop-word-preserved-then-same_bytes
loop-word-preserved-then-same_bytes c =
    gives_return c.args.text.now c.words-rest.result c.next.new.self c.loop-word.rest c.in-Some.word c.loop-word.found c.loop-word.invariant c.in-Some.ensures.given (whole c.args.text.now c.words-rest.result c.words-rest.ensures) c.bytes_of-bytes.result.now c.bytes_of-bytes.ensures (sym c.is_foreign.ensures ∙ c.if-is_foreign.false) c.one_more-found.result c.one_more-found.ensures (sym c.same_bytes.ensures ∙ c.if-same_bytes.true)

pub loop-word-preserved : goal.loop-word-preserved
loop-word-preserved c =
    gives_other c.args.text.now c.words-rest.result c.next.new.self c.loop-word.rest c.in-Some.word c.loop-word.found c.loop-word.invariant c.in-Some.ensures.given (whole c.args.text.now c.words-rest.result c.words-rest.ensures) c.bytes_of-bytes.result.now c.bytes_of-bytes.ensures (sym c.is_foreign.ensures ∙ c.if-is_foreign.false) (sym c.same_bytes.ensures ∙ c.if-same_bytes.false)

pub returns : goal.returns
returns c = gave_all c.args.text.now c.words-rest.result c.loop-word.rest c.loop-word.found c.loop-word.invariant (c.in_default.ensures.finished.0 refl) (whole c.args.text.now c.words-rest.result c.words-rest.ensures)
