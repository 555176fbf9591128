-- The generated lex file is accepted beside each yacc file, and has few sets of positions.
use Rattle.std.proofs.Common.{◌≡◌, List, sym, ap, subst, ◌∙◌}
use Rattle.cs_scanner.specs.Automaton.Counted.{IsAbove}
use Rattle.cs_scanner.specs.Automaton.Meaning.{res}
use Rattle.cs_scanner.specs.Automaton.Places.{InSet}
use Rattle.cs_pattern_parts.specs.Tree.Pattern.{Regex}
use Rattle.cs_lex.specs.Reading.File.{File}
use Rattle.cs_lex.proofs.OnReading.OneFile.{one_file}
use Rattle.cs_gen.specs.Boundary.{IsAcceptedBesideAll, HasFewSets}
use Rattle.cs_gen.specs.Texts.{up_to, lex_text}
use Rattle.cs_gen.proofs.LexAccepted.{patterns_of, numbers_few, lex_accepted}
use Rattle.cs_gen.proofs.FewSets.{few_sets}

pub accepted_beside : IsAcceptedBesideAll lex_text
accepted_beside yacc = let there = lex_accepted yacc in (there.0, there.1)

pub few_beside : HasFewSets lex_text
few_beside yacc file is_file is above =
    let there = lex_accepted yacc in
    let same : there.0 ≡ file = one_file lex_text yacc there.0 file is_file there.1 is in
    let patterns : file.patterns ≡ patterns_of (up_to 24) = ap (λ (f : File). f.patterns) (sym same) ∙ there.2 in
    few_sets (up_to 24) numbers_few (subst (λ (rs : List Regex). IsAbove (InSet (res rs)) 16384) patterns above)
