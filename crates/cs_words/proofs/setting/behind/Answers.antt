-- The word is the mark and a value, or doesn't begin with the mark.
use Rattle.std.proofs.Common.{◌≡◌, ℕ, List, Option, Some, None, ◌++◌, sym, ap, ◌∙◌}
use Rattle.std.specs.Prelude.{MatchOption, IfSome, IfNone}
use Rattle.std.specs.Str.Pattern.{FindsTextPrefix, StripsPrefix}
use denote.Ref.{Bor}
use Rattle.cs_words.specs.Options.{IsMarked}
use Rattle.cs_words.proofs.setting.behind.Goals as goal

some_of : (s p : List ℕ) (r : Option (Bor (List ℕ))) → MatchOption r (FindsTextPrefix p s None) (λ x. StripsPrefix (FindsTextPrefix p) s x.now) → IfSome r (λ value. s ≡ p ++ value.now)
some_of s p None m = tt
some_of s p (Some x) m = m.1.1 ∙ ap (λ y. p ++ y) (sym m.2)

none_of : (s p : List ℕ) (r : Option (Bor (List ℕ))) → MatchOption r (FindsTextPrefix p s None) (λ x. StripsPrefix (FindsTextPrefix p) s x.now) → IfNone r (IsMarked p s → ⊥)
none_of s p None m = λ marked. m marked.0 marked.1
none_of s p (Some x) m = tt

pub returns-clause-some : goal.returns-clause-some
returns-clause-some c = some_of _ _ _ c.strip_prefix.ensures.cases

pub returns-clause-none : goal.returns-clause-none
returns-clause-none c = none_of _ _ _ c.strip_prefix.ensures.cases
