-- Behind the begin mark stand the tokens, then the end mark, and past it nothing.
use Rattle.std.proofs.Common.{◌<◌, ◌≤◌, length, ⊎_elim, arith}
use Rattle.std.proofs.lemmas.Bool.{cases_lt}
use Rattle.cs_check.proofs.OnChecking.Framed.{framed_token, framed_end, framed_past}
use Rattle.cs_check.proofs.checking.framed.framed_at.Goals as goal

pub offset_bounds-tokens-at : goal.offset_bounds-tokens-at
offset_bounds-tokens-at c = let low = c.in-Some.ensures c.args.place (omega arith) in omega arith

pub bounds-tokens-at : goal.bounds-tokens-at
bounds-tokens-at c = let low = c.in-Some.ensures c.args.place (omega arith) in omega arith

pub returns-in-Some : goal.returns-in-Some
returns-in-Some c = λ n read.
    let is = c.in-Some.ensures n read in
    framed_token c.args.tokens.now n c.in-Some.at is.0 is.1

pub returns-in-None : goal.returns-in-None
returns-in-None c = λ n read. framed_end c.args.tokens.now n (omega arith)

pub returns-in-None-2 : goal.returns-in-None-2
returns-in-None-2 c = λ n read.
    let tokens = c.args.tokens.now in
    let other = c.if-place-tokens.false in
    let past : length tokens < n =
    ⊎_elim (λ (low : length tokens < n). low)
    (λ (within : n ≤ length tokens). absurd (c.in-None.ensures n read (omega arith, within)))
    (cases_lt (length tokens) n) in
    framed_past tokens n (omega arith)
