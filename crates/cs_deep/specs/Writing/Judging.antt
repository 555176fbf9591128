-- Edits of a base that are judged. Working words of proofs.
use Rattle.std.specs.Prelude.{◌≡◌, ℕ, ◌+◌, ◌≤◌, [], All, None, Some, length}
use Rattle.cs_deep.specs.Edits.Candidates.{IsCandidate}
use Rattle.cs_deep.specs.Writing.Deep.{EditEntry, IsEditOf}
use Rattle.cs_deep.specs.declared.edits.candidates.Candidate.{Candidate}
use Rattle.cs_deep.specs.declared.edits.class.EditClass.{EditClass}
use Rattle.cs_deep.specs.declared.writing.judging.DeepWork.{DeepWork}
use Rattle.cs_grammar.specs.Grammar.{IsNumberOf}
use Rattle.cs_mutate.specs.declared.edit.Edit.{Edit}
use Rattle.cs_mutate.specs.declared.edit.Edit.TheVariants.{Delete, Insert, Replace, Swap}
use Rattle.cs_manifest.specs.Manifest.ByWork.{texts_of}

-- the candidate can be judged: the base is a list of the grammar's tokens, all of which have their place among the lexemes
pub record CanJudge (work : DeepWork) (c : Candidate) : Type 0 where
  pub candidate : IsCandidate work.recognizer.now work.base.now c
  pub short : length work.base.now ≤ 1000000
  pub tokens : All (IsNumberOf work.recognizer.now.tokens) work.base.now
  pub lexemes : length work.render.now.lexemes.now ≡ work.recognizer.now.tokens

-- the entry of an edit of the base
abbrev pub Judges : DeepWork → Edit → EditEntry → Type 0
Judges work edit entry = IsEditOf work.recognizer.now (Some (texts_of work.render.now)) (Some work.render.now.lexemes.now) work.base.now edit entry

-- the entry of an edit of another class than outside
abbrev pub IsPlain : Edit → EditClass → EditEntry → Type 0
IsPlain edit class entry = entry ≡ record { edit = edit; class = class; tokens = []; rendered = None }

-- so many tokens has the edited list
abbrev pub HasLength : ℕ → Edit → ℕ → Type 0
HasLength many (Delete i) n = n + 1 ≡ many
HasLength many (Insert i t) n = n ≡ many + 1
HasLength many (Replace i t) n = n ≡ many
HasLength many (Swap i) n = n ≡ many
