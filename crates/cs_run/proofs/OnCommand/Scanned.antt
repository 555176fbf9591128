-- How a run ends that writes by a scanner, from what its calls did.
use Rattle.std.proofs.Common.{◌≡◌, ◌<◌, ◌≤◌, ◌-◌, ℕ, zero, suc, List, [], ◌∷◌, ◌++◌, Bool, true, false, None, Some, Result, Ok, Err, refl, sym, ap, ◌∙◌, subst, inl, inr, arith}
use Rattle.std.specs.Prelude.{All, OnErr, OnOk, if◌then◌else◌, nat_lt, slice_get, slice_index}
use Rattle.std.proofs.lemmas.List.Elements.{All-append, All-cons, All-head, All-nil, All-same, All-tail}
use Rattle.cs_grammar.specs.Grammar.{IsNumberOf, PlainGrammar}
use Rattle.cs_io.specs.Asked.{GrewByOne, HasRoomForAll, Stopped}
use Rattle.cs_io.specs.Uses.{HasFailed, IsUnused, SinkUse}
use Rattle.cs_io.specs.declared.halt.Halt.{Halt}
use Rattle.cs_io.specs.declared.halt.Halt.TheVariants.{Failed, Memory}
use Rattle.cs_lex.specs.Reading.File as lex
use Rattle.cs_pattern_parts.specs.Tree.Pattern.{Regex}
use Rattle.cs_pattern_parts.specs.declared.kind.Kind.{Kind}
use Rattle.cs_pattern_parts.specs.declared.kind.Kind.TheVariants.{Foreign, OwnByte, Skip, Token}
use Rattle.cs_run.specs.declared.ending.ending.Ending.{Ending}
use Rattle.cs_run.specs.declared.ending.ending.Ending.TheVariants.{Halted, Written}
use Rattle.cs_run.specs.declared.input.refusal.Refusal.{Refusal}
use Rattle.cs_run.specs.declared.input.refusal.Refusal.TheVariants.{States}
use Rattle.cs_words.specs.declared.command.Command.{Command}
use Rattle.cs_run.specs.Command.Carrying.{GrewByEach, HasTooManyChains, Writes, WritesOfGrammar, WritesSure}
use Rattle.cs_words.specs.Commands.{lists_chains}
use Rattle.cs_run.specs.Command.Words.{ending_after, ending_by}
use Rattle.cs_run.specs.Ending.Files.{HasFewChains, scanning_of}
use Rattle.cs_run.specs.Ending.Texts.{NoneDenies}
use Rattle.cs_scanner.specs.Scan.Scan.{Gives, Runs, Scanning, ends, given, goes_on, stops}
use Rattle.cs_scanner.specs.declared.automaton.error.AutomatonError.{AutomatonError}
use Rattle.cs_scanner.specs.declared.automaton.error.AutomatonError.TheVariants as automaton

-- ---- what is scanned by

abbrev scanning_with : List Regex → List Kind → List ℕ → Scanning
scanning_with patterns kinds literals = record { patterns = patterns; kinds = kinds; literals = literals }

pub same_scanning : (p : List Regex) (k : List Kind) (l : List ℕ) (file : lex.File) → p ≡ file.patterns → k ≡ file.kinds → l ≡ file.literals → scanning_with p k l ≡ scanning_of file
same_scanning p k l file patterns kinds literals =
    ap (λ (x : List Regex). scanning_with x k l) patterns ∙ ap (λ (x : List Kind). scanning_with file.patterns x l) kinds
    ∙ ap (λ (x : List ℕ). scanning_with file.patterns file.kinds x) literals

-- ---- endings

module _ (accepted : Type 0) (refused : Refusal → Type 0) (Is : List ℕ → Type 0) (Part : SinkUse → Type 0) (out : SinkUse) (within : accepted) (room : HasRoomForAll Is out.room → out.faults.after ≡ out.faults.before) where
  -- the text was written
  pub written_so : GrewByOne Is out.written.before out.written.after → out.faults.after ≡ out.faults.before → Writes accepted refused Is Part NoneDenies Written out
  written_so whole calm = record { ends = (within, (whole.0, (whole.1, λ none. none), whole.2), calm); room = room }

  -- its writing stopped
  pub halted_so : (halt : Halt) → Part out → (halt ≡ Failed → HasFailed out.faults) → Writes accepted refused Is Part NoneDenies (Halted halt) out
  halted_so Failed part failed = record { ends = (within, part, failed refl); room = room }
  halted_so Memory part failed = record { ends = inr (within, part); room = room }

-- the text was written, or its writing stopped
pub ended_so : (accepted : Type 0) (refused : Refusal → Type 0) (Is : List ℕ → Type 0) (Part : SinkUse → Type 0) (outcome : Result Unit Halt) (ending : Ending) (out : SinkUse)
    → accepted → ending ≡ ending_after outcome → OnOk outcome (GrewByOne Is out.written.before out.written.after) → OnErr outcome (Part out)
    → OnOk outcome (out.faults.after ≡ out.faults.before) → (Stopped Failed outcome → HasFailed out.faults) → (HasRoomForAll Is out.room → out.faults.after ≡ out.faults.before)
    → Writes accepted refused Is Part NoneDenies ending out
ended_so accepted refused Is Part (Ok done) ending out within same whole part calm failed room =
    subst (λ (e : Ending). Writes accepted refused Is Part NoneDenies e out) (sym same) (written_so accepted refused Is Part out within room whole calm)
ended_so accepted refused Is Part (Err halt) ending out within same whole part calm failed room =
    subst (λ (e : Ending). Writes accepted refused Is Part NoneDenies e out) (sym same) (halted_so accepted refused Is Part out within room halt part (λ is. failed (ap Err is)))

-- the text that there is in any case was written, or its writing stopped
pub ended_sure : (Is : List ℕ → Type 0) (outcome : Result Unit Halt) (ending : Ending) (out : SinkUse)
    → ending ≡ ending_after outcome → OnOk outcome (GrewByOne Is out.written.before out.written.after) → OnErr outcome (GrewByEach Is out)
    → OnOk outcome (out.faults.after ≡ out.faults.before) → (Stopped Failed outcome → HasFailed out.faults) → (HasRoomForAll Is out.room → out.faults.after ≡ out.faults.before)
    → WritesSure Is ending out
ended_sure Is outcome ending out same whole part calm failed room = ended_so (Unit {0}) (λ refusal. ⊥) Is (GrewByEach Is) outcome ending out tt same whole part calm failed room

-- the text of a command that lists no chains was written, or its writing stopped
pub ended_of : (c : Command) (g : PlainGrammar) (none : lists_chains c ≡ false) (Is : List ℕ → Type 0) (outcome : Result Unit Halt) (ending : Ending) (out : SinkUse)
    → ending ≡ ending_after outcome → OnOk outcome (GrewByOne Is out.written.before out.written.after) → OnErr outcome (GrewByEach Is out)
    → OnOk outcome (out.faults.after ≡ out.faults.before) → (Stopped Failed outcome → HasFailed out.faults) → (HasRoomForAll Is out.room → out.faults.after ≡ out.faults.before)
    → WritesOfGrammar c g Is ending out
ended_of c g none Is outcome ending out same whole part calm failed room =
    ended_so (HasFewChains c g) (HasTooManyChains c g) Is (GrewByEach Is) outcome ending out (λ lists. absurd (let both : true ≡ false = sym lists ∙ none in cc)) same whole part calm failed room

-- there is no automaton
pub unmade_so : (accepted : Type 0) (refused : Refusal → Type 0) (Is : List ℕ → Type 0) (Part : SinkUse → Type 0) (No : List ℕ → Type 0) (error : AutomatonError) (ending : Ending) (out : SinkUse)
    → ending ≡ ending_by error → IsUnused out → ((most : ℕ) → error ≡ automaton.TooManyStates most → refused States) → Writes accepted refused Is Part No ending out
unmade_so accepted refused Is Part No (automaton.TooManyStates most) ending out same unused many =
    subst (λ (e : Ending). Writes accepted refused Is Part No e out) (sym same) (record { ends = (many most refl, unused); room = λ fits. unused.1 })
unmade_so accepted refused Is Part No automaton.Memory ending out same unused many =
    subst (λ (e : Ending). Writes accepted refused Is Part No e out) (sym same) (record { ends = inl unused; room = λ fits. unused.1 })

-- ---- tokens that a scan gives

positive : (v : ℕ) → nat_lt 0 v ≡ true → 0 < v
positive zero is = absurd cc
positive (suc v) is = omega arith

one_flagged : (v : ℕ) (flag : Bool) (tokens : List ℕ) → (flag ≡ true → 0 < v) → (if flag then Some (v ∷ []) else None) ≡ Some tokens → (0 < v) × (tokens ≡ v ∷ [])
one_flagged v true tokens above gives = (above refl, (let e : v ∷ [] ≡ tokens = cc in sym e))
one_flagged v false tokens above gives = absurd cc

flagged : (v : ℕ) (tokens : List ℕ) → (if nat_lt 0 v then Some (v ∷ []) else None) ≡ Some tokens → (0 < v) × (tokens ≡ v ∷ [])
flagged v tokens gives = one_flagged v (nat_lt 0 v) tokens (positive v) gives

-- each member of a list is at most n, and so is what stands at a place
at_most : (n : ℕ) (xs : List ℕ) (i : ℕ) → All (λ t. t ≤ n) xs → slice_index xs i ≤ n
at_most n [] i all = omega arith
at_most n (x ∷ xs) zero all = All-head (λ t. t ≤ n) x xs all
at_most n (x ∷ xs) (suc i) all = at_most n xs i (All-tail (λ t. t ≤ n) x xs all)

kind_at : (n : ℕ) (kinds : List Kind) (i : ℕ) (kind : Kind) → All (lex.NamesTokenOf n) kinds → slice_get kinds i ≡ Some kind → lex.NamesTokenOf n kind
kind_at n [] i kind all at = absurd cc
kind_at n (k ∷ kinds) zero kind all at = (let same : k ≡ kind = cc in subst (lex.NamesTokenOf n) same (All-head (lex.NamesTokenOf n) k kinds all))
kind_at n (k ∷ kinds) (suc i) kind all at = kind_at n kinds i kind (All-tail (lex.NamesTokenOf n) k kinds all) at

module _ (n : ℕ) (file : lex.File) (has : lex.HasTokensOf n file) where
  abbrev AreOf : List ℕ → Type 0
  AreOf tokens = All (IsNumberOf n) tokens

  one_of : (t : ℕ) (tokens : List ℕ) → 0 < t → t ≤ n → tokens ≡ t ∷ [] → AreOf tokens
  one_of t tokens some within is = All-same (IsNumberOf n) tokens (t ∷ []) is (All-cons (IsNumberOf n) t [] (some, within) (All-nil (IsNumberOf n)))

  given_of : (kind : Kind) (text tokens : List ℕ) → lex.NamesTokenOf n kind → given file.literals kind text ≡ Some tokens → AreOf tokens
  given_of Skip text tokens names gives = (let same : [] ≡ tokens = cc in All-same (IsNumberOf n) tokens [] (sym same) (All-nil (IsNumberOf n)))
  given_of (Token t) text tokens names gives = (let same : t ∷ [] ≡ tokens = cc in one_of t tokens names.0 names.1 (sym same))
  given_of Foreign text tokens names gives = absurd cc
  given_of OwnByte text tokens names gives =
      let own = flagged (slice_index file.literals (slice_index text 0)) tokens gives in
      one_of _ tokens own.0 (at_most n file.literals (slice_index text 0) has.literals) own.1

  gives_of : {text : List ℕ} {size : ℕ} {tokens : List ℕ} → Gives (scanning_of file) text size tokens → AreOf tokens
  gives_of {text} {size} {tokens} g = given_of g.kind text tokens (kind_at n file.kinds (g.rule - 1) g.kind has.kinds g.at) g.gives

  pub tokens_of : {text tokens : List ℕ} {whole : Bool} → Runs (scanning_of file) text tokens whole → AreOf tokens
  tokens_of (ends text tokens whole none empty is) = All-same (IsNumberOf n) tokens [] empty (All-nil (IsNumberOf n))
  tokens_of (stops text tokens whole some gives_none empty is) = All-same (IsNumberOf n) tokens [] empty (All-nil (IsNumberOf n))
  tokens_of (goes_on text tokens whole size now later g rest is) = All-same (IsNumberOf n) tokens (now ++ later) is (All-append (IsNumberOf n) now later (gives_of g) (tokens_of rest))
