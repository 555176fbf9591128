-- From how the words were done to what a run promises.
use Rattle.std.proofs.Common.{◌≡◌, ◌⊎◌, ◌<◌, ◌≤◌, ℕ, Ok, Err, IsErr, IsOkAnd, Result, ap, sym, ◌∙◌, subst, inl, inr, refl, arith, rules}
use Rattle.cs_io.specs.Faults.{greatest}
use Rattle.cs_io.specs.Uses.{DeskUse, SinkUse, HasFailed, IsUnused}
use Rattle.cs_io.specs.declared.halt.Halt.TheVariants.{Failed, Memory}
use Rattle.cs_words.specs.declared.command.Role.{Role}
use Rattle.cs_words.specs.Requests.{PlainRequest}
use Rattle.cs_run.specs.declared.ending.ending.Ending.{Ending}
use Rattle.cs_run.specs.declared.ending.ending.Ending.TheVariants.{Written, Denied, Refused, BadWord, NoFile, Halted}
use Rattle.cs_run.specs.Ending.Ending.{Ends, IsReported, Performs, Says, WroteDenial, WroteText, WrotePart, line_of, status_of}
use Rattle.cs_run.specs.Ending.Files.{AreAccepted, AreRefused, HasNoFileFor}
use Rattle.cs_run.specs.Ending.Headline.{IsStatusBy, KeepsPromises}
use Rattle.cs_run.specs.Ending.Texts.{AreTold}
use Rattle.cs_run.proofs.OnEnding.Apart.{asked_accepted, asked_apart, asked_more, asked_no_file, asked_refused_there, asked_there, none_denied}

good_words : (asked : Result PlainRequest ℕ) (P : PlainRequest → Type 0) → IsOkAnd asked P → IsErr asked → ⊥
good_words (Ok request) P is bad = absurd cc
good_words (Err at) P is bad = is

bad_word_err : (asked : Result PlainRequest ℕ) (at : ℕ) → asked ≡ Err at → IsErr asked
bad_word_err asked at is = rw is (search rules)

not_failed : (before after : ℕ) → after ≡ before → before < greatest → ¬ HasFailed (record { before = before; after = after })
not_failed before after same below failed = omega (arith, same, below, failed)

-- on 4 and 5 writes may have failed
may_fail : (n : ℕ) → 4 ≤ n → n < 6 → (n < 4) ⊎ (n ≡ 6) → ⊥
may_fail n some few (inl below) = omega (arith, some, below)
may_fail n some few (inr is) = omega (arith, few, is)

-- 0 and 6 are none of those between
not_among : (n k : ℕ) → (n ≡ 0) ⊎ (n ≡ 6) → 0 < k → k < 6 → n ≡ k → ⊥
not_among n k (inl is) some few same = omega (arith, is, some, same)
not_among n k (inr is) some few same = omega (arith, is, few, same)

-- ---- each ending's status

module _ (asked : Result PlainRequest ℕ) (desk : DeskUse) (out err : SinkUse) where
  part_accepted : (words : Result PlainRequest ℕ) → WrotePart words desk out → IsOkAnd words (AreAccepted desk.files)
  part_accepted words part = asked_more words part (λ request p. (p.0, p.1, p.2.0))

  -- what is left to say of an ending, once its cause is known
  record Rest (ending : Ending) : Type 0 where
    whole : status_of ending ≡ 0 → WroteText asked desk out
    denied : status_of ending ≡ 6 → WroteDenial asked desk out
    files_refused : status_of ending ≡ 1 → IsOkAnd asked (AreRefused desk.files)
    bad_words : status_of ending ≡ 2 → IsErr asked
    read_fault : status_of ending ≡ 3 → IsOkAnd asked (λ request. (role : Role) × HasNoFileFor desk.files request desk.faults role)
    write_fault : status_of ending ≡ 4 → HasFailed out.faults
    no_write_fault : (status_of ending < 4) ⊎ (status_of ending ≡ 6) → out.faults.after ≡ out.faults.before
    write_fault_of_accepted : status_of ending ≡ 4 → IsOkAnd asked (AreAccepted desk.files)
    unused : (0 < status_of ending) × (status_of ending < 4) → IsUnused out
    bad_words_end_so : IsErr asked → (status_of ending ≡ 2) ⊎ (status_of ending ≡ 5)
    refused_ends_so : AreTold desk.files asked → IsOkAnd asked (AreRefused desk.files) → ¬ HasFailed desk.faults → (status_of ending ≡ 1) ⊎ (status_of ending ≡ 5)
    complete : AreTold desk.files asked → IsOkAnd asked (AreAccepted desk.files) → ¬ HasFailed desk.faults → ¬ HasFailed out.faults → IsStatusBy asked desk.files (status_of ending) ⊎ (status_of ending ≡ 5)
    silent : status_of ending ≡ 0 → ending ≡ Written
    denied_silently : status_of ending ≡ 6 → ending ≡ Denied

  -- the same of an ending on 0 or 6, which come with a whole output
  rest_whole : (ending : Ending) → (status_of ending ≡ 0) ⊎ (status_of ending ≡ 6) → IsOkAnd asked (AreAccepted desk.files) → out.faults.after ≡ out.faults.before → (status_of ending ≡ 0 → WroteText asked desk out) → (status_of ending ≡ 6 → WroteDenial asked desk out)
      → (AreTold desk.files asked → IsStatusBy asked desk.files (status_of ending)) → (status_of ending ≡ 0 → ending ≡ Written) → (status_of ending ≡ 6 → ending ≡ Denied) → Rest ending
  rest_whole ending is_whole accepted same whole denied status silent denied_silently =
      let n = status_of ending in
      record {
        whole = whole;
        denied = denied;
        files_refused = λ is. absurd (not_among n 1 is_whole (omega arith) (omega arith) is);
        bad_words = λ is. absurd (not_among n 2 is_whole (omega arith) (omega arith) is);
        read_fault = λ is. absurd (not_among n 3 is_whole (omega arith) (omega arith) is);
        write_fault = λ is. absurd (not_among n 4 is_whole (omega arith) (omega arith) is);
        no_write_fault = λ below. same;
        write_fault_of_accepted = λ is. absurd (not_among n 4 is_whole (omega arith) (omega arith) is);
        unused = λ is. absurd (not_among n n is_whole is.0 (let few = is.1 in omega arith) refl);
        bad_words_end_so = λ bad. absurd (good_words asked _ accepted bad);
        refused_ends_so = λ some refused fine. absurd (asked_apart asked desk.files some accepted refused);
        complete = λ some are fine good. inl (status some);
        silent = silent;
        denied_silently = denied_silently;
      }

  rest : (ending : Ending) → Ends ending asked desk out → Rest ending
  rest Written ends =
      rest_whole Written (inl refl) (asked_accepted asked desk.files ends.0.0 ends.0.1) ends.1 (λ is. ends.0) (λ is. absurd (omega (arith, is)))
      (λ some. inl (refl, none_denied asked desk.files ends.0.0 some ends.0.1 ends.0.2)) (λ is. refl) (λ is. absurd (omega (arith, is)))
  rest Denied ends =
      rest_whole Denied (inr refl) (asked_accepted asked desk.files ends.0.0 ends.0.1) ends.1 (λ is. absurd (omega (arith, is))) (λ is. ends.0)
      (λ some. inr (refl, (ends.0.0, ends.0.1, ends.0.2))) (λ is. absurd (omega (arith, is))) (λ is. refl)
  rest (Refused refusal) ends = record {
    whole = λ is. absurd (omega (arith, is));
    denied = λ is. absurd (omega (arith, is));
    files_refused = λ is. asked_more asked ends.0 (λ request r. (refusal, r));
    bad_words = λ is. absurd (omega (arith, is));
    read_fault = λ is. absurd (omega (arith, is));
    write_fault = λ is. absurd (omega (arith, is));
    no_write_fault = λ below. ends.1.1;
    write_fault_of_accepted = λ is. absurd (omega (arith, is));
    unused = λ is. ends.1;
    bad_words_end_so = λ bad. absurd (good_words asked _ ends.0 bad);
    refused_ends_so = λ some refused fine. inl refl;
    complete = λ some accepted fine good. absurd (asked_apart asked desk.files some accepted (asked_more asked ends.0 (λ request r. (refusal, r))));
    silent = λ is. absurd (omega (arith, is));
    denied_silently = λ is. absurd (omega (arith, is));
  }
  rest (BadWord at) ends = record {
    whole = λ is. absurd (omega (arith, is));
    denied = λ is. absurd (omega (arith, is));
    files_refused = λ is. absurd (omega (arith, is));
    bad_words = λ is. bad_word_err asked at ends.0;
    read_fault = λ is. absurd (omega (arith, is));
    write_fault = λ is. absurd (omega (arith, is));
    no_write_fault = λ below. ends.1.1;
    write_fault_of_accepted = λ is. absurd (omega (arith, is));
    unused = λ is. ends.1;
    bad_words_end_so = λ bad. inl refl;
    refused_ends_so = λ some refused fine. absurd (good_words asked _ refused (bad_word_err asked at ends.0));
    complete = λ some accepted fine good. absurd (good_words asked _ accepted (bad_word_err asked at ends.0));
    silent = λ is. absurd (omega (arith, is));
    denied_silently = λ is. absurd (omega (arith, is));
  }
  rest (NoFile role) ends = record {
    whole = λ is. absurd (omega (arith, is));
    denied = λ is. absurd (omega (arith, is));
    files_refused = λ is. absurd (omega (arith, is));
    bad_words = λ is. absurd (omega (arith, is));
    read_fault = λ is. asked_more asked ends.0 (λ request n. (role, n));
    write_fault = λ is. absurd (omega (arith, is));
    no_write_fault = λ below. ends.1.1;
    write_fault_of_accepted = λ is. absurd (omega (arith, is));
    unused = λ is. ends.1;
    bad_words_end_so = λ bad. absurd (good_words asked _ ends.0 bad);
    refused_ends_so = λ some refused fine. absurd (fine (asked_no_file asked desk.files desk.faults role some (asked_refused_there asked desk.files refused) ends.0));
    complete = λ some accepted fine good. absurd (fine (asked_no_file asked desk.files desk.faults role some (asked_there asked desk.files accepted) ends.0));
    silent = λ is. absurd (omega (arith, is));
    denied_silently = λ is. absurd (omega (arith, is));
  }
  rest (Halted Failed) ends = record {
    whole = λ is. absurd (omega (arith, is));
    denied = λ is. absurd (omega (arith, is));
    files_refused = λ is. absurd (omega (arith, is));
    bad_words = λ is. absurd (omega (arith, is));
    read_fault = λ is. absurd (omega (arith, is));
    write_fault = λ is. ends.1;
    no_write_fault = λ below. absurd (may_fail 4 (omega arith) (omega arith) below);
    write_fault_of_accepted = λ is. part_accepted asked ends.0;
    unused = λ is. absurd (omega (arith, is.0, is.1));
    bad_words_end_so = λ bad. absurd (good_words asked _ ends.0 bad);
    refused_ends_so = λ some refused fine. absurd (asked_apart asked desk.files some (part_accepted asked ends.0) refused);
    complete = λ some accepted fine good. absurd (good ends.1);
    silent = λ is. absurd (omega (arith, is));
    denied_silently = λ is. absurd (omega (arith, is));
  }
  rest (Halted Memory) ends = record {
    whole = λ is. absurd (omega (arith, is));
    denied = λ is. absurd (omega (arith, is));
    files_refused = λ is. absurd (omega (arith, is));
    bad_words = λ is. absurd (omega (arith, is));
    read_fault = λ is. absurd (omega (arith, is));
    write_fault = λ is. absurd (omega (arith, is));
    no_write_fault = λ below. absurd (may_fail 5 (omega arith) (omega arith) below);
    write_fault_of_accepted = λ is. absurd (omega (arith, is));
    unused = λ is. absurd (omega (arith, is.0, is.1));
    bad_words_end_so = λ bad. inr refl;
    refused_ends_so = λ some refused fine. inr refl;
    complete = λ some accepted fine good. inr refl;
    silent = λ is. absurd (omega (arith, is));
    denied_silently = λ is. absurd (omega (arith, is));
  }

  -- want of memory for the line may take the place of an ending whose output wasn't written
  memory_ends : (ending : Ending) → (¬ (ending ≡ Written)) × ¬ (ending ≡ Denied) → Ends ending asked desk out → Ends (Halted Memory) asked desk out
  memory_ends Written not ends = absurd (not.0 refl)
  memory_ends Denied not ends = absurd (not.1 refl)
  memory_ends (Refused refusal) not ends = inl ends.1
  memory_ends (BadWord at) not ends = inl ends.1
  memory_ends (NoFile role) not ends = inl ends.1
  memory_ends (Halted Failed) not ends = inr ends.0
  memory_ends (Halted Memory) not ends = ends

  reported_ends : (ending reported : Ending) → Ends ending asked desk out → IsReported ending reported → Ends reported asked desk out
  reported_ends ending reported ends (inl same) = subst (λ (e : Ending). Ends e asked desk out) (sym same) ends
  reported_ends ending reported ends (inr none) = subst (λ (e : Ending). Ends e asked desk out) (sym none.0) (memory_ends ending (none.1, none.2) ends)

  prefix : (ending : Ending) → Ends ending asked desk out → (3 < status_of ending) × (status_of ending < 6) → IsUnused out ⊎ WrotePart asked desk out
  prefix Written ends above = absurd (omega (arith, above.0))
  prefix Denied ends above = absurd (omega (arith, above.1))
  prefix (Refused refusal) ends above = absurd (omega (arith, above.0))
  prefix (BadWord at) ends above = absurd (omega (arith, above.0))
  prefix (NoFile role) ends above = absurd (omega (arith, above.0))
  prefix (Halted Failed) ends above = inr ends.0
  prefix (Halted Memory) (inl unused) above = inl unused
  prefix (Halted Memory) (inr part) above = inr part

  within : (e : Ending) → status_of e ≤ 6
  within Written = omega arith
  within Denied = omega arith
  within (Refused refusal) = omega arith
  within (BadWord at) = omega arith
  within (NoFile role) = omega arith
  within (Halted Failed) = omega arith
  within (Halted Memory) = omega arith

  failed_status : (ending reported : Ending) → (role : Role) × (ending ≡ NoFile role) → IsReported ending reported → (status_of reported ≡ 3) ⊎ (status_of reported ≡ 5)
  failed_status ending reported failed (inl same) = inl (ap status_of (same ∙ failed.1))
  failed_status ending reported failed (inr none) = inr (ap status_of none.0)

  -- An ending is reported, and the status is that of what was reported.
  pub keeps : (ending reported : Ending) (status : ℕ) → Performs ending asked desk out → IsReported ending reported
      → Says (line_of reported) err → (reported ≡ Written → IsUnused err) → (reported ≡ Denied → IsUnused err) → status ≡ status_of reported → KeepsPromises asked desk out err status
  keeps ending reported status performs is said silent denied_silently status_is =
      subst (λ (n : ℕ). KeepsPromises asked desk out err n) (sym status_is) (kept (reported_ends ending reported performs.ends is))
    where
      kept : Ends reported asked desk out → KeepsPromises asked desk out err (status_of reported)
      kept ends =
          let all = rest reported ends in record {
            whole = all.whole;
            denied = all.denied;
            silent = λ whole. elim whole [ inl is ↦ silent (all.silent is) | inr is ↦ denied_silently (all.denied_silently is) ];
            ends = (reported, refl, ends, said);
            range = within reported;
            files_refused = all.files_refused;
            bad_words = all.bad_words;
            read_fault = all.read_fault;
            write_fault = all.write_fault;
            no_write_fault = all.no_write_fault;
            write_fault_of_accepted = all.write_fault_of_accepted;
            unused = all.unused;
            prefix = prefix reported ends;
            bad_words_end_so = all.bad_words_end_so;
            refused_ends_so = all.refused_ends_so;
            failed_ends_so = λ changed. failed_status ending reported (performs.failed changed) is;
            complete = all.complete;
            steady = performs.steady;
            room = performs.room;
            sure = λ steady some accepted fits low out_low. all.complete some accepted (not_failed desk.faults.before desk.faults.after (performs.steady steady) low) (not_failed out.faults.before out.faults.after (performs.room fits) out_low);
          }
