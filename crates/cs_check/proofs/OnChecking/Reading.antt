-- A text that is read line by line, whatever the faults are.
use Rattle.std.proofs.Common.{◌≡◌, ℕ, ◌+◌, ◌<◌, ◌≤◌, List, [], ◌∷◌, ◌++◌, Option, Some, None, map, take, drop, length, refl, sym, ap, ◌∙◌, subst, append_assoc, append-nil, arith}
use Rattle.std.proofs.lemmas.List.{drop-drop, drop_all, length-append, length-drop, length-map, map_push, map-append}
use Rattle.cs_lines.specs.Lines.Pieces.{lines_of, ended}
use Rattle.cs_check.specs.Passing.First.{IsFaultless, IsClean, IsLowest, IsFirstFault}
use Rattle.cs_check.proofs.OnPassing.First.{clean_none, clean_push, first_here}

-- a text that is read up to an offset: so many clean lines stand before it
pub record Read {F : Type 0} (HasFault : List (Option (List ℕ)) → Option (List ℕ) → F → Type 0) (text : List ℕ) (from above : ℕ) : Type 0 where
  pub lines : List (List ℕ)
  pub place : lines_of text ≡ lines ++ lines_of (drop from text)
  pub many : length lines ≡ above
  pub few : above ≤ from
  pub within : from ≤ length text
  pub clean : IsClean HasFault (map Some lines)

-- the line in front
pub record IsLine (text : List ℕ) (size : ℕ) : Type 0 where
  pub line : lines_of text ≡ take size text ∷ lines_of (drop size text)
  pub above_zero : 0 < size
  pub within : size ≤ length text

module _ {F : Type 0} (HasFault : List (Option (List ℕ)) → Option (List ℕ) → F → Type 0) (text : List ℕ) where
  abbrev pub read_none : Read HasFault text 0 0
  read_none = record { lines = []; place = refl; many = refl; few = omega arith; within = omega arith; clean = clean_none HasFault }

  module _ (from above : ℕ) (read : Read HasFault text from above) where
    pub many_above : length (map Some read.lines) ≡ above
    many_above = length-map read.lines Some ∙ read.many

    module _ (size : ℕ) (is : IsLine (drop from text) size) where
      abbrev pub read_more : IsFaultless HasFault (map Some read.lines) (Some (take size (drop from text))) → Read HasFault text (from + size) (above + 1)
      read_more faultless =
          let line = take size (drop from text) in
          record {
            lines = read.lines ++ line ∷ [];
            place =
                read.place
                ∙ ap (λ (l : List (List ℕ)). read.lines ++ l) (is.line ∙ ap (λ (l : List ℕ). line ∷ lines_of l) (drop-drop size from text))
                ∙ sym (append_assoc read.lines (line ∷ []) (lines_of (drop (from + size) text)));
            many = length-append read.lines (line ∷ []) ∙ ap (λ n. n + 1) read.many;
            few = (let few = read.few in let low = is.above_zero in omega arith);
            within = (let within = read.within in let low = is.within in omega (arith, length-drop from text));
            clean = subst (IsClean HasFault) (sym (map_push Some read.lines line)) (clean_push HasFault (map Some read.lines) (Some line) read.clean faultless);
          }

      pub fault_here : (number : F → ℕ) (f : F) → IsLowest HasFault number (map Some read.lines) (Some (take size (drop from text))) f → IsFirstFault HasFault number (ended text) (above + 1) f
      fault_here number f lowest =
          let line = take size (drop from text) in
          let behind = lines_of (drop size (drop from text)) in
          first_here HasFault number (ended text) (map Some read.lines) (Some line) (map Some behind ++ None ∷ []) (above + 1) f
          (ap (λ (l : List (List ℕ)). map Some l ++ None ∷ []) (read.place ∙ ap (λ (l : List (List ℕ)). read.lines ++ l) is.line)
          ∙ ap (λ (l : List (Option (List ℕ))). l ++ None ∷ []) (map-append Some read.lines (line ∷ behind))
          ∙ append_assoc (map Some read.lines) (Some line ∷ map Some behind) (None ∷ []))
          (ap (λ n. n + 1) (sym many_above)) read.clean lowest

    module _ (past : length text ≤ from) where
      pub all_lines : lines_of text ≡ read.lines
      all_lines = read.place ∙ ap (λ (l : List ℕ). read.lines ++ lines_of l) (drop_all from text past) ∙ append-nil read.lines

      whole : ended text ≡ map Some read.lines ++ None ∷ []
      whole = ap (λ (l : List (List ℕ)). map Some l ++ None ∷ []) all_lines

      pub clean_at_end : IsFaultless HasFault (map Some read.lines) None → IsClean HasFault (ended text)
      clean_at_end faultless = subst (IsClean HasFault) (sym whole) (clean_push HasFault (map Some read.lines) None read.clean faultless)

      pub fault_at_end : (number : F → ℕ) (f : F) → IsLowest HasFault number (map Some read.lines) None f → IsFirstFault HasFault number (ended text) (above + 1) f
      fault_at_end number f lowest = first_here HasFault number (ended text) (map Some read.lines) None [] (above + 1) f whole (ap (λ n. n + 1) (sym many_above)) read.clean lowest
