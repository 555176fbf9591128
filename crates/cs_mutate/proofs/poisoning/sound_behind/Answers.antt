-- The pairs behind the place are those of its token, the tokens behind it and the right mark.
use Rattle.std.proofs.Common.{◌≡◌, ◌+◌, ◌-◌, ◌<◌, ℕ, List, length, length-drop, take, drop, get_or, refl, subst, arith}
use Rattle.std.proofs.lemmas.List.{take_all}
use Rattle.cs_grammar.specs.declared.symbol.Mark.TheVariants.{Token}
use Rattle.cs_mutate.specs.Poison.{TellsPair, between}
use Rattle.cs_mutate.proofs.Behind.{none_where_sound, sound_rest}
use Rattle.cs_mutate.proofs.poisoning.sound_behind.Goals as goal

pub returns : goal.returns
returns c = λ left.
    let g = c.args.pairs.now.grammar in
    let w = c.args.list.now in
    let at = c.args.at in
    let right = c.args.right in
    let t = get_or w at 0 in
    let within : at < length w = omega (arith, c.requires.inside, c.if-at-list.false) in
    let all : take (length w - (at + 1)) (drop (at + 1) w) ≡ drop (at + 1) w = take_all (length w - (at + 1)) (drop (at + 1) w) (omega (arith, length-drop (at + 1) w)) in
    let told = subst (λ (l : List ℕ). TellsPair g (between (Token t) l right) c.poison_between.result) all c.poison_between.ensures in
    let none = none_where_sound g (between (Token t) (drop (at + 1) w) right) c.poison_between.result c.is_none.result told c.is_none.ensures in
    let rest = sound_rest g left right w at t within refl in
    (λ is. rest.0 (none.0 is), λ sound. none.1 (rest.1 sound))
