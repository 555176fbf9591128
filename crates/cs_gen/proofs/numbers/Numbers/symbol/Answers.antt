-- Where 0 is drawn the symbol is a token, else a nonterminal; the numbers go on behind the second draw.
use Rattle.cs_gen.proofs.Drawing.{token-drawn, nonterminal-drawn}
use Rattle.cs_gen.proofs.numbers.Numbers.symbol.Goals as goal

pub returns-then-draw-eq0-clause-what : goal.returns-then-draw-eq0-clause-what
returns-then-draw-eq0-clause-what c = (token-drawn _ _ _ _ _ c.draw.ensures.what c.if-draw-eq0.true c.draw.ensures.behind c.one_of.ensures.what c.one_of.ensures.behind).0

pub returns-then-draw-eq0-clause-behind : goal.returns-then-draw-eq0-clause-behind
returns-then-draw-eq0-clause-behind c = (token-drawn _ _ _ _ _ c.draw.ensures.what c.if-draw-eq0.true c.draw.ensures.behind c.one_of.ensures.what c.one_of.ensures.behind).1

pub returns-else-draw-eq0-clause-what : goal.returns-else-draw-eq0-clause-what
returns-else-draw-eq0-clause-what c =
    (nonterminal-drawn _ _ _ _ _ c.draw.ensures.what c.if-draw-eq0.false c.draw.ensures.behind c.one_of-else-draw-eq0.ensures.what c.one_of-else-draw-eq0.ensures.behind).0

pub returns-else-draw-eq0-clause-behind : goal.returns-else-draw-eq0-clause-behind
returns-else-draw-eq0-clause-behind c =
    (nonterminal-drawn _ _ _ _ _ c.draw.ensures.what c.if-draw-eq0.false c.draw.ensures.behind c.one_of-else-draw-eq0.ensures.what c.one_of-else-draw-eq0.ensures.behind).1
