-- The first bytes reach the last ones, so the line has the whole piece, though some of it was put twice.
use Rattle.std.proofs.Common.{length, ◌≡◌, ◌+◌, ◌-◌, ◌++◌, ◌∙◌, List, ap, arith, drop, subst, take, ℕ}
use Rattle.std.proofs.lemmas.List.{length-drop, take_all}
use Rattle.cs_manifest.proofs.OnOutput.Pieces.{put_by_ends}
use Rattle.cs_manifest.proofs.output.output.put_ends.Goals as goal

pub returns : goal.returns
returns g c =
    let line = c.args.line.now in
    let at = c.args.at in
    let piece = c.args.piece.now in
    let count = g.row.N in
    let back = length piece - count in
    let mid = c.put_front.new.line in
    let new = c.put_front-2.new.line in
    let long : length line ≡ 1024 = c.put_front.ensures.length in
    let slice : take (length piece - back) (drop back piece) ≡ drop back piece = take_all (length piece - back) (drop back piece) (omega (arith, length-drop back piece)) in
    let rest : take count (drop back piece) ≡ drop back piece = take_all count (drop back piece) (omega (arith, length-drop back piece)) in
    let second : take (at + back + count) new ≡ take (at + back) mid ++ drop back piece =
    c.put_front-2.ensures.front ∙ ap (λ (t : List ℕ). take (at + back) mid ++ t) (ap (λ (t : List ℕ). take count t) slice ∙ rest) in
    let whole : at + back + count ≡ at + length piece = omega (arith, c.requires.some) in
    put_by_ends line mid new piece at count back (omega (arith, long, c.requires.room)) (omega (arith, c.requires.all)) c.requires.some c.put_front.ensures.front
    (subst (λ (n : ℕ). take n new ≡ take (at + back) mid ++ drop back piece) whole second)
