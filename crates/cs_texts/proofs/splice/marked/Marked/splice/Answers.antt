-- The three parts.
use Rattle.std.proofs.Common.{◌-◌, ◌++◌, List, ℕ, refl, subst, take, drop, length}
use Rattle.cs_scanner.specs.Scan.Compared.{scanning}
use Rattle.cs_scanner.specs.Scan.Going.{IsBegunBy}
use Rattle.cs_texts.specs.Splice.Marked.{IsFrontFor}
use Rattle.cs_texts.proofs.OnSplice.Telling.{told}
use Rattle.cs_texts.proofs.splice.marked.Marked.splice.Goals as goal

pub returns-then-arrives : goal.returns-then-arrives
returns-then-arrives c =
    let p = c.args.self.now in
    let tokens = c.args.tokens.now in
    let from = c.kept-from.result in
    let behind = c.same_back-behind.result in
    let to = length tokens - behind in
    let middle : List ℕ = c.put_middle.new.out.items in
    let back = c.back-back.result.now in
    let front = c.in-Some.front.now in
    let F : List ℕ → Type 0 = λ t. IsFrontFor p from t front in
    let A : List ℕ → Type 0 = λ t. IsBegunBy (scanning p.work.now.scanner.now) (t ++ back) (take (to - from) (drop from tokens)) back in
    told p tokens front middle back c.same_front-stays.result behind from to c.same_front-stays.ensures c.same_back-behind.ensures c.kept-from.ensures refl
    (c.in_ok-put_middle.ensures c.if-not-branch.false) (subst F c.deref.ensures.value c.in-Some.ensures) c.back-back.ensures (subst A c.deref-2.ensures.value (c.if-arrives.ensures refl))
