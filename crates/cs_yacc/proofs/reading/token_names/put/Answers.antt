-- The number stands at the name that was put, and all others stand as before.
use Rattle.std.proofs.Common.{◌≡◌, ◌∙◌}
use Rattle.cs_yacc.proofs.OnReading.TokenTables.{at_word_put, at_byte_put}
use Rattle.cs_yacc.proofs.reading.token_names.put.Goals as goal

pub returns-in_ok-insert-in-Word-clause-words : goal.returns-in_ok-insert-in-Word-clause-words
returns-in_ok-insert-in-Word-clause-words c = λ w.
    let key : c.in_ok-from_slice-in-Word.field-0.items ≡ c.in-Word.word = c.in_ok-from_slice-in-Word.ensures.items ∙ c.bytes.ensures in
    rw (c.in-Word.is, c.in_ok-insert-in-Word.ensures.entries, ← key) (at_word_put c.args.words.now.entries c.in_ok-from_slice-in-Word.field-0 c.args.number w)

pub returns-in_ok-insert-in-Byte-clause-bytes : goal.returns-in_ok-insert-in-Byte-clause-bytes
returns-in_ok-insert-in-Byte-clause-bytes c = λ b. rw (c.in-Byte.is, c.in_ok-insert-in-Byte.ensures.entries) (at_byte_put c.args.literals.now.entries c.in-Byte.byte c.args.number b)
