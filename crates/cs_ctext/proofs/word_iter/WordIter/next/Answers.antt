-- A piece that begins a word is the next word, any other gives none, and at the end no word is left.
use Rattle.std.proofs.Common.{◌≡◌, ◌+◌, ℕ, List, ◌∷◌, length, drop, refl, sym, ap, ◌∙◌, arith}
use Rattle.cs_ctext.specs.Words.{word_at}
use Rattle.cs_ctext.specs.Scans.{piece_size, words_of}
use Rattle.cs_ctext.proofs.WordLists.{words_at-word, words_at-other, words_at-end, not_nil}
use Rattle.cs_ctext.proofs.word_iter.WordIter.next.Goals as goal

pub loop-self-init : goal.loop-self-init
loop-self-init c = (rw c.bytes-bytes.ensures c.self.invariant, refl, sym c.bytes-bytes.ensures)

pub invariant_of-self : goal.invariant_of-self
invariant_of-self c = rw c.loop-self.invariant.2 c.loop-self.invariant.0

pub returns-then-has-clause-given : goal.returns-then-has-clause-given
returns-then-has-clause-given c =
    let size : c.piece_size.result ≡ piece_size (drop c.loop-self.self-inside.at c.bytes-bytes.result.now) = c.piece_size.ensures.size ∙ ap (λ (t : List ℕ). piece_size (drop c.loop-self.self-inside.at t)) c.loop-self.invariant.2 in
    sym c.self.view_is ∙ (ap (λ (t : List ℕ). words_of c.self.inside.at (drop c.self.inside.at t)) (sym c.bytes-bytes.ensures) ∙ (c.loop-self.invariant.1
    ∙ (words_at-word c.bytes-bytes.result.now c.loop-self.self-inside.at _ c.piece_size.result c.loop-self-test.true refl size c.piece_size.ensures.within.0 (sym c.has.ensures ∙ c.if-has.true)
    ∙ ap (λ (t : List ℕ). word_at c.loop-self.self-inside.at c.piece_size.result ∷ words_of (c.loop-self.self-inside.at + c.piece_size.result) (drop (c.loop-self.self-inside.at + c.piece_size.result) t)) (sym (c.piece_size.ensures.text ∙ c.loop-self.invariant.2)))))

pub returns-then-has-clause-finished : goal.returns-then-has-clause-finished
returns-then-has-clause-finished c =
    (λ e. absurd cc, λ e. absurd (not_nil (sym (returns-then-has-clause-given c) ∙ e)))

pub loop-self-preserved : goal.loop-self-preserved
loop-self-preserved c =
    let size : c.piece_size.result ≡ piece_size (drop c.loop-self.self-inside.at c.bytes-bytes.result.now) = c.piece_size.ensures.size ∙ ap (λ (t : List ℕ). piece_size (drop c.loop-self.self-inside.at t)) c.loop-self.invariant.2 in (
      omega (arith, c.piece_size.ensures.within.1, ap length c.loop-self.invariant.2),
      c.loop-self.invariant.1
          ∙ words_at-other c.bytes-bytes.result.now c.loop-self.self-inside.at _ c.piece_size.result c.loop-self-test.true refl size c.piece_size.ensures.within.0 (sym c.has.ensures ∙ c.if-has.false),
      c.piece_size.ensures.text ∙ c.loop-self.invariant.2,
    )

pub returns-clause-given : goal.returns-clause-given
returns-clause-given c =
    sym c.self.view_is ∙ (ap (λ (t : List ℕ). words_of c.self.inside.at (drop c.self.inside.at t)) (sym c.bytes-bytes.ensures) ∙ (c.loop-self.invariant.1
    ∙ ap (λ (t : List ℕ). words_of c.loop-self.self-inside.at (drop c.loop-self.self-inside.at t)) (sym c.loop-self.invariant.2)))

pub returns-clause-finished : goal.returns-clause-finished
returns-clause-finished c = (
  λ e. sym c.self.view_is ∙ (ap (λ (t : List ℕ). words_of c.self.inside.at (drop c.self.inside.at t)) (sym c.bytes-bytes.ensures) ∙ (c.loop-self.invariant.1 ∙ words_at-end _ _ c.loop-self-test.false)),
  λ e. refl,
)
