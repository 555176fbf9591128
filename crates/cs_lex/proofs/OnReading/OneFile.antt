-- Accepted bytes mean one file.
use Rattle.std.proofs.Common.{◌≡◌, ℕ, List, sym, ap, subst, ◌∙◌}
use Rattle.cs_pattern_parts.specs.declared.kind.Kind.{Kind}
use Rattle.cs_pattern_parts.specs.Tree.Pattern.{Regex}
use Rattle.cs_yacc.specs.Reading.File as tokens
use Rattle.cs_lex.specs.declared.layout.parts.Definition.{Definition}
use Rattle.cs_lex.specs.declared.layout.parts.Rule.{Rule}
use Rattle.cs_lex.proofs.OnLayout.Uniqueness.{one_layout}
use Rattle.cs_lex.specs.Reading.File.{File}
use Rattle.cs_lex.specs.Reading.Kinds.{HaveKinds}
use Rattle.cs_lex.specs.Reading.Laws.{MeanOneFile}
use Rattle.cs_lex.specs.Reading.Patterns.{all_spelled, HavePatterns}
use Rattle.cs_lex.proofs.OnReading.OneMeaning.{one_list_of_patterns, one_list_of_kinds}
use Rattle.cs_lex.proofs.OnReading.TokensNamed.{one_list_of_literals}

same_file : (f g : File) → f.patterns ≡ g.patterns → f.kinds ≡ g.kinds → f.literals ≡ g.literals → f ≡ g
same_file f g p k l =
    ap (λ (x : List Regex). let h : File = record { patterns = x; kinds = f.kinds; literals = f.literals } in h) p
    ∙ (ap (λ (x : List Kind). let h : File = record { patterns = g.patterns; kinds = x; literals = f.literals } in h) k
    ∙ ap (λ (x : List ℕ). let h : File = record { patterns = g.patterns; kinds = g.kinds; literals = x } in h) l)

pub one_file : (bytes : List ℕ) (yacc : tokens.File) → MeanOneFile bytes yacc
one_file bytes yacc f g is_file x y =
    let same = one_layout bytes x.definitions y.definitions x.rules y.rules x.layout y.layout in
    let rs : x.rules ≡ y.rules = same.1 in
    let ds : x.definitions ≡ y.definitions = same.0 in
    let there : HavePatterns (all_spelled bytes x.definitions) bytes x.rules g.patterns =
    subst (λ (es : List Definition). HavePatterns (all_spelled bytes es) bytes x.rules g.patterns) (sym ds) (subst (λ (qs : List Rule). HavePatterns (all_spelled bytes y.definitions) bytes qs g.patterns) (sym rs) y.patterns) in
    let p : f.patterns ≡ g.patterns = one_list_of_patterns (all_spelled bytes x.definitions) bytes x.rules f.patterns g.patterns x.patterns there in
    let k : f.kinds ≡ g.kinds = one_list_of_kinds yacc is_file bytes x.rules f.kinds g.kinds x.kinds (subst (λ (qs : List Rule). HaveKinds yacc bytes qs g.kinds) (sym rs) y.kinds) in
    let l : f.literals ≡ g.literals = one_list_of_literals yacc is_file f.literals g.literals x.literals y.literals in
    same_file f g p k l
