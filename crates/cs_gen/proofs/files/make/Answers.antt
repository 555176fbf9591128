-- For each seed both texts are short and accepted, and the lex file's patterns have few sets.
use Rattle.std.proofs.Common.{◌≤◌, ℕ, List, length, sym, subst}
use Rattle.cs_yacc.specs.Reading.Reading.{IsAccepted}
use Rattle.cs_gen.proofs.Accepted.{yacc_accepted, yacc_short, lex_short}
use Rattle.cs_gen.proofs.Beside.{accepted_beside, few_beside}
use Rattle.cs_gen.specs.Boundary.{IsAcceptedBesideAll, HasFewSets}
use Rattle.cs_gen.proofs.files.make.Goals as goal

pub returns-clause-short_yacc : goal.returns-clause-short_yacc
returns-clause-short_yacc c = subst (λ (t : List ℕ). length t ≤ 1048576) (sym c.in_ok-yacc.ensures) (yacc_short c.args.seed)

pub returns-clause-short_lex : goal.returns-clause-short_lex
returns-clause-short_lex c = subst (λ (t : List ℕ). length t ≤ 1048576) (sym c.in_ok-lex.ensures) lex_short

pub returns-clause-yacc_accepted : goal.returns-clause-yacc_accepted
returns-clause-yacc_accepted c = subst IsAccepted (sym c.in_ok-yacc.ensures) (yacc_accepted c.args.seed)

pub returns-clause-lex_accepted : goal.returns-clause-lex_accepted
returns-clause-lex_accepted c = subst IsAcceptedBesideAll (sym c.in_ok-lex.ensures) accepted_beside

pub returns-clause-few_sets : goal.returns-clause-few_sets
returns-clause-few_sets c = subst HasFewSets (sym c.in_ok-lex.ensures) few_beside
