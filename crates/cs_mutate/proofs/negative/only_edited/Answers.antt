-- The pair is the first poisoned one, so it is the only one where all behind it are adjacent.
use Rattle.std.proofs.Common.{◌↔◌, ◌+◌, List, ℕ, length, sym, ap, ◌∙◌, subst, arith}
use Rattle.std.specs.List.{All}
use Rattle.std.specs.Prelude.{IsTrue}
use Rattle.std.proofs.lemmas.Option.{slice_get_within}
use Rattle.cs_grammar.specs.Grammar.{IsNumberOf}
use Rattle.cs_grammar.specs.Sentence.{framed}
use Rattle.cs_grammar.specs.declared.symbol.Mark.TheVariants.{Begin, End}
use Rattle.cs_mutate.specs.Edit.{edited}
use Rattle.cs_mutate.specs.Keeping.{IsSoundBehind}
use Rattle.cs_mutate.proofs.Behind.{only_first}
use Rattle.cs_mutate.proofs.Marks.{many}
use Rattle.cs_mutate.proofs.Searching.{edited_tokens}
use Rattle.cs_mutate.proofs.negative.only_edited.Goals as goal

pub sound_behind-requires-clause-tokens : goal.sound_behind-requires-clause-tokens
sound_behind-requires-clause-tokens c =
    let g = c.args.pairs.now.grammar in
    subst (λ (l : List ℕ). All (IsNumberOf g.tokens) l) (sym (c.deref.ensures.value ∙ c.in_ok-list.ensures))
    (edited_tokens g.tokens c.args.base.now c.requires.tokens c.args.negative.now.edit c.requires.fits)

pub sound_behind-requires-clause-inside : goal.sound_behind-requires-clause-inside
sound_behind-requires-clause-inside c =
    let n = c.args.negative.now in
    let v = edited c.args.base.now n.edit in
    let within = slice_get_within (framed v) (n.at + 1) n.right c.requires.negative.pair.right in
    omega (arith, within, many End v, ap (λ (l : List ℕ). length l) (c.deref.ensures.value ∙ c.in_ok-list.ensures))

pub returns : goal.returns
returns c =
    let g = c.args.pairs.now.grammar in
    let n = c.args.negative.now in
    let v = edited c.args.base.now n.edit in
    let read = subst (λ (l : List ℕ). IsTrue c.sound_behind.result ↔ IsSoundBehind g (framed l) n.at) (c.deref.ensures.value ∙ c.in_ok-list.ensures) (c.sound_behind.ensures Begin) in
    let only = only_first g (framed v) n.at (n.left, n.right, c.requires.negative) in
    (λ is. only.0 (read.0 is), λ alone. read.1 (only.1 alone))
