-- The pair of files that a number stands for has a summary.
use Rattle.std.proofs.Common.{◌≡◌, ℕ, ◌≤◌, List, length, ap, ◌∙◌, subst, inl, inr, arith}
use Rattle.cs_gen.specs.Boundary.{HasFewSets, IsAcceptedBesideAll}
use Rattle.cs_gen.specs.declared.files.Generated.{Generated}
use Rattle.cs_gen.specs.Texts.{lex_text, yacc_text}
use Rattle.cs_yacc.specs.Reading.File as yacc
use Rattle.cs_yacc.proofs.OnReading.OneFile as yacc_files
use Rattle.cs_run.specs.declared.input.judging.Pair.{Pair}
use Rattle.cs_run.specs.Input.Files.{IsPairOf}
use Rattle.cs_run.specs.Input.Refusal.{HasManyStates, Refuses, pair_contents}
use Rattle.cs_run.specs.declared.input.refusal.Refusal.{Refusal}
use Rattle.cs_run.specs.declared.input.refusal.Refusal.TheVariants.{ManyChains, OfLex, OfYacc, States, TextStops, TextTokens, TooLong}
use Rattle.cs_lex.proofs.OnReading.OneRefusal as lex_refusal
use Rattle.cs_yacc.specs.Reading.Reading.{IsAccepted}
use Rattle.cs_manifest.specs.declared.manifest.counts.Counts.{Counts}
use Rattle.cs_run.specs.Ending.Files.{IsSuiteText}
use Rattle.cs_run.specs.Ending.Summary.{HasCounts, IsManifestOf, IsSummary, Lengths, lengths_of, summary_line, summary_options}
use Rattle.cs_writing.specs.Writing.Writing.{CountsOfAll, HasNoCases}
use Rattle.cs_run.specs.Writer.Suite.{IsSuite}
use Rattle.cs_run.specs.Writer.Summary.{AreShort, HasSuite, lengths}

-- accepted files aren't refused
pub no_refusal : (bytes more : List ℕ) (refusal : Refusal) → length bytes ≤ 1048576 → length more ≤ 1048576 → IsAccepted bytes → IsAcceptedBesideAll more → Refuses refusal (pair_contents bytes more) → ⊥
no_refusal bytes more (TooLong role) short short_lex accepted lex_accepted (inl r) = omega (arith, short, r.1)
no_refusal bytes more (TooLong role) short short_lex accepted lex_accepted (inr (fits, inl r)) = omega (arith, short_lex, r.1)
no_refusal bytes more (TooLong role) short short_lex accepted lex_accepted (inr (fits, inr r)) = r.1
no_refusal bytes more (OfYacc error) short short_lex accepted lex_accepted r = yacc_files.refused_is_not_accepted bytes accepted.0 error r.1 accepted.1
no_refusal bytes more (OfLex error) short short_lex accepted lex_accepted r =
    let other = lex_accepted accepted.0 in lex_refusal.refused_is_not_accepted more accepted.0 other.0 error r.1.1 other.1
no_refusal bytes more States short short_lex accepted lex_accepted r = r.1
no_refusal bytes more (ManyChains found) short short_lex accepted lex_accepted r = r.1
no_refusal bytes more (TextStops at) short short_lex accepted lex_accepted r = r.1
no_refusal bytes more (TextTokens found) short short_lex accepted lex_accepted r = r.1

-- the automaton of a generated pair hasn't too many states
pub few_states : (pair : Pair) (bytes more : List ℕ) → IsPairOf pair.yacc pair.lex bytes more → yacc.IsFile pair.yacc → HasFewSets more → ¬ HasManyStates pair.lex
few_states pair bytes more of named few many = few pair.yacc pair.lex named of.3 many

module _ (seed : ℕ) (pair : Pair) (of : IsPairOf pair.yacc pair.lex (yacc_text seed) lex_text) (named : yacc.IsFile pair.yacc)
    (few : ¬ HasManyStates pair.lex) (counts : Counts) (all : CountsOfAll (IsSuite pair summary_options) counts) (first : HasNoCases counts) (short : AreShort counts) where
  -- a manifest of the pair is one of the number
  of_number : (text : List ℕ) → IsSuite pair summary_options text → IsManifestOf seed text
  unfolding IsSuiteText
  of_number text is = (pair.yacc, pair.lex, of, few, is)

  counted : (text : List ℕ) → IsSuite pair summary_options text → HasCounts counts text
  counted text is = let ends = all text is in record {
    before = ends.before;
    ends = ends.line;
    bytes = ends.bytes;
    goals = short.goals;
    feasible = short.feasible;
    infeasible = short.infeasible;
    large = short.large;
    negatives = short.negatives;
    cases = first;
  }

  pub a_summary : (text : List ℕ) → text ≡ summary_line seed (lengths_of seed) counts → HasSuite pair → IsSummary seed text
  a_summary text said some = record { manifest = some.0; is_of = of_number some.0 some.1; counts = counts; has = counted some.0 some.1; said = said }

-- the lengths of two texts
abbrev sizes : List ℕ → List ℕ → Lengths
sizes one other = record { yacc = length one; lex = length other }

-- the same of the two files that were made
pub files_summary : (seed : ℕ) (files : Generated) (pair : Pair) → files.yacc.items ≡ yacc_text seed → files.lex.items ≡ lex_text
    → IsPairOf pair.yacc pair.lex files.yacc.items files.lex.items → yacc.IsFile pair.yacc → HasFewSets files.lex.items
    → (counts : Counts) → CountsOfAll (IsSuite pair summary_options) counts → HasNoCases counts → AreShort counts → HasSuite pair
    → (text : List ℕ) → text ≡ summary_line seed (lengths files) counts → IsSummary seed text
files_summary seed files pair is_yacc is_lex of named few counts all first short some text said =
    let moved : IsPairOf pair.yacc pair.lex (yacc_text seed) files.lex.items = subst (λ (b : List ℕ). IsPairOf pair.yacc pair.lex b files.lex.items) is_yacc of in
    let both : IsPairOf pair.yacc pair.lex (yacc_text seed) lex_text = subst (λ (b : List ℕ). IsPairOf pair.yacc pair.lex (yacc_text seed) b) is_lex moved in
    let same : lengths files ≡ lengths_of seed = ap (λ (b : List ℕ). sizes b files.lex.items) is_yacc ∙ ap (λ (b : List ℕ). sizes (yacc_text seed) b) is_lex in
    a_summary seed pair both named (few_states pair files.yacc.items files.lex.items of named few) counts all first short text
    (said ∙ ap (λ (l : Lengths). summary_line seed l counts) same) some
