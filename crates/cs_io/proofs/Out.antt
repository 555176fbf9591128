-- From the sink over an output to the output.
use Rattle.std.proofs.Common.{◌≡◌, ℕ, ◌<◌, ◌≤◌, ◌⊎◌, List, [], length, inl, inr, ap, sym, ◌∙◌, subst, Option, Result, Ok, Err, OnErr, arith}
use Rattle.std.specs.Prelude.{OnOk}
use Rattle.std.proofs.lemmas.Bool.{cases_lt}
use Rattle.std.proofs.Math.Seq.{take-length}
use Rattle.std.specs.Io.KnownBytes.{append_known}
use Rattle.cs_io.specs.BufferedSink.{buffered_written, lent_sink, lent_taken, waiting_bytes}
use Rattle.cs_io.specs.Faults.{Rose, next_count}
use Rattle.cs_io.specs.Sink.{GrewByPrefix}
use Rattle.cs_io.specs.declared.buffered_sink.BufferedSink.{BufferedSink}
use Rattle.cs_io.proofs.Known.{known_none, lent_prefix}
use Rattle.cs_io.specs.Asked.{GrewByOne, GrewByPart, IsNotWithout}

-- nothing is a part of each text
pub no_part : (Is : List ℕ → Type 0) (known : Option (List ℕ)) → GrewByPart Is known known
no_part Is known = λ text is. record { count = 0; grew = sym (known_none known) }

-- what holds holds on an error
pub on_err : {A E : Type 0} (P : Type 0) (result : Result A E) → P → OnErr result P
on_err P (Ok value) holds = tt
on_err P (Err error) holds = holds

-- what is said of the sink's output is said of the output
pub grown : {T E : Type 0} (result : Result T E) (Is : List ℕ → Type 0) (a b now new : Option (List ℕ)) → a ≡ b → new ≡ now → OnOk result (GrewByOne Is a now) → OnOk result (GrewByOne Is b new)
grown result Is a b now new first second grew =
    subst (λ (k : Option (List ℕ)). OnOk result (GrewByOne Is k new)) first (subst (λ (k : Option (List ℕ)). OnOk result (GrewByOne Is a k)) (sym second) grew)

pub part_grown : {T E : Type 0} (result : Result T E) (Is : List ℕ → Type 0) (a b now new : Option (List ℕ)) → a ≡ b → new ≡ now → OnErr result (GrewByPart Is a now) → OnErr result (GrewByPart Is b new)
part_grown result Is a b now new first second grew =
    subst (λ (k : Option (List ℕ)). OnErr result (GrewByPart Is k new)) first (subst (λ (k : Option (List ℕ)). OnErr result (GrewByPart Is a k)) (sym second) grew)

module _ {S : Type 0} (written : S → Option (List ℕ)) (old new : BufferedSink S) (text : List ℕ) (empty : waiting_bytes old ≡ []) where
  same : buffered_written written old ≡ written (lent_sink old)
  same = ap (λ (l : List ℕ). append_known (written (lent_sink old)) l) empty ∙ known_none (written (lent_sink old))

  -- what the sink took a part of, its output took a part of
  pub part_lent : GrewByPrefix (buffered_written written old) (buffered_written written new) text → lent_taken written old ≤ lent_taken written new
      → GrewByPrefix (written (lent_sink old)) (written (lent_sink new)) text
  part_lent part longer =
      lent_prefix (written (lent_sink old)) (written (lent_sink new)) (waiting_bytes new) text
      (subst (λ (known : Option (List ℕ)). GrewByPrefix known (buffered_written written new) text) same part) longer

  -- the sink took all of it, and not all came to the output
  pub whole_lent : buffered_written written new ≡ append_known (buffered_written written old) text → lent_taken written old ≤ lent_taken written new
      → GrewByPrefix (written (lent_sink old)) (written (lent_sink new)) text
  whole_lent whole longer =
      part_lent (record { count = length text; grew = whole ∙ ap (λ (l : List ℕ). append_known (buffered_written written old) l) (sym (take-length text)) }) longer

module _ (Is : List ℕ → Type 0) (some : IsNotWithout Is) where
  -- what holds by each text holds, since there isn't none
  pub same_by_each : (a b : ℕ) → ((text : List ℕ) → Is text → a ≡ b) → a ≡ b
  same_by_each a b each = at (cases_lt a b) (cases_lt b a)
    where
      at : (a < b) ⊎ (b ≤ a) → (b < a) ⊎ (a ≤ b) → a ≡ b
      at (inl less) other = absurd (some (λ text is. omega (arith, less, each text is)))
      at (inr more) (inl less) = absurd (some (λ text is. omega (arith, less, each text is)))
      at (inr more) (inr least) = omega (arith, more, least)

  pub rose_by_each : (a b : ℕ) → ((text : List ℕ) → Is text → Rose a b) → Rose a b
  rose_by_each a b each = at (cases_lt b (next_count a))
    where
      at : (b < next_count a) ⊎ (next_count a ≤ b) → Rose a b
      at (inl less) = absurd (some (λ text is. omega (arith, less, each text is)))
      at (inr most) = most
