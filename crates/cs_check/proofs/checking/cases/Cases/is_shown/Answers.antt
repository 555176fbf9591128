-- One case has the number, and where its size is another the goal isn't shown.
use Rattle.std.proofs.Common.{◌≡◌, ◌<◌, length, get_or, ap, ◌∙◌, subst, arith}
use Rattle.cs_check.specs.Checking.Cases.{PlainCase, PlainCases}
use Rattle.cs_check.proofs.OnChecking.Cases.{other_size}
use Rattle.cs_check.proofs.checking.cases.Cases.is_shown.Goals as goal

pub index-requires : goal.index-requires
index-requires c = let low = c.in-Some.ensures c.args.case (omega arith) in omega arith

pub returns-then-index-size : goal.returns-then-index-size
returns-then-index-size c = λ s n f read_size read_case read_first small.
    let list = c.args.self.now.list in
    let place = c.in-Some.place in
    let d = c.index.result.now in
    let long = ap (λ (t : PlainCases). length t.list) c.self.view_is in
    let is = c.in-Some.ensures n read_case in
    let low : place < length list = omega (arith, c.self.inside.list.ok.0) in
    let here : d ≡ get_or list place d = subst (λ (t : PlainCases). d ≡ get_or t.list place d) c.self.view_is c.index.ensures in
    let sized = ap (λ (x : PlainCase). x.size) (c.behind-self.view_is ∙ here) in
    let low_size = small place d low in (
      λ e. absurd cc,
      λ shows. absurd (other_size c.args.self.now.grammar list c.args.goal.now s n place is.0 low d f (λ same. c.if-index-size.true (omega arith)) shows),
    )
