-- The patterns of rules, as the code finds them.
use Rattle.std.proofs.Common.{◌≡◌, ℕ, suc, ◌+◌, ◌<◌, ◌≤◌, List, [], ◌∷◌, ◌++◌, length, take, drop, get_or, refl, sym, ap, subst, ◌∙◌, arith, length-append}
use Rattle.std.proofs.lemmas.List.{take_more, take-append-drop, map_push}
use Rattle.std.proofs.lemmas.List.Elements.{All-push}
use Rattle.std.proofs.lemmas.List.Sums.{sum_by-append}
use Rattle.std.proofs.Math.Seq.{drop-cons}
use Rattle.cs_pattern_parts.specs.declared.tree.pattern.Pattern.{Pattern}
use Rattle.cs_pattern.specs.Text.Answers.{IsPatternOf}
use Rattle.cs_pattern.specs.Operations.Definitions as definitions
use Rattle.cs_pattern_parts.specs.Tree.Pattern.{Regex, regex, regexes, leaves}
use Rattle.cs_lex.specs.declared.layout.parts.Rule.{Rule}
use Rattle.cs_lex.specs.declared.reading.error.LexError.{LexError}
use Rattle.cs_lex.specs.declared.reading.error.LexError.TheVariants.{Unended, Layout, UnknownDirective, UnknownOption, StartCondition, NoRules, DanglingBar, Limit, Memory}
use Rattle.cs_lex.specs.declared.reading.error.LexError.TheVariants as errors
use Rattle.cs_lex.specs.Reading.Found.{IsRulePattern, HaveFound, RefusesRule, RefusesSome}
use Rattle.cs_lex.specs.Reading.Patterns.{pattern_of, HavePatterns}
use Rattle.cs_pattern_parts.specs.Tree.Scannable.{IsScannable}

module _ (ds : List definitions.Definition) (bytes : List ℕ) where
  patterns_push : (rs : List Rule) (r : Rule) (ps : List Regex) (p : Regex) → HavePatterns ds bytes rs ps → IsPatternOf ds (pattern_of bytes r) p → HavePatterns ds bytes (rs ++ r ∷ []) (ps ++ p ∷ [])
  patterns_push [] r [] p h is = (is, refl)
  patterns_push [] r (q ∷ ps) p h is = absurd cc
  patterns_push (s ∷ rs) r [] p h is = absurd h
  patterns_push (s ∷ rs) r (q ∷ ps) p h is = (h.0, patterns_push rs r ps p h.1 is)

  pub found_more : (rs : List Rule) (i : ℕ) (r : Rule) (p : Pattern) (kept more : List Pattern) (count here : ℕ) → HaveFound ds bytes (take i rs) kept count → i < length rs → r ≡ get_or rs i r
      → IsRulePattern ds (pattern_of bytes r) (regex p) → here ≡ leaves (regex p) → (count + here ≤ 16384 → more ≡ kept ++ p ∷ []) → HaveFound ds bytes (take (i + 1) rs) more (count + here)
  found_more rs i r p kept more count here h lt is one counted keeps =
      subst (λ (xs : List Rule). HaveFound ds bytes xs more (count + here)) (sym front) (record {
        patterns = h.patterns ++ regex p ∷ [];
        have = patterns_push (take i rs) r h.patterns (regex p) h.have one.is;
        scannable = All-push IsScannable h.patterns (regex p) h.scannable one.scannable;
        counted = omega (arith, h.counted, counted, sum_by-append leaves h.patterns (regex p ∷ []));
        are_kept = λ le. ap regexes (keeps le) ∙ (map_push regex kept p ∙ ap (λ (xs : List Regex). xs ++ regex p ∷ []) (h.are_kept (omega arith)));
        few = omega (arith, h.few, counted, one.few, length-append (take i rs) (r ∷ []));
      })
    where
      front : take (i + 1) rs ≡ take i rs ++ r ∷ []
      front = take_more rs i r lt ∙ ap (λ (x : Rule). take i rs ++ x ∷ []) (sym is)

  -- the rule stands between those before it and those behind it
  stands_there : (rs : List Rule) (i : ℕ) (r : Rule) → i < length rs → r ≡ get_or rs i r → rs ≡ take i rs ++ r ∷ drop (suc i) rs
  stands_there rs i r lt is = sym (take-append-drop i rs) ∙ ap (λ (xs : List Rule). take i rs ++ xs) (drop-cons rs i r lt ∙ ap (λ (x : Rule). x ∷ drop (suc i) rs) (sym is))

  pub some_refused : (rs : List Rule) (i : ℕ) (r : Rule) (kept : List Pattern) (count : ℕ) (e : LexError) → HaveFound ds bytes (take i rs) kept count → i < length rs → r ≡ get_or rs i r → RefusesRule ds bytes r e → RefusesSome ds bytes rs e
  some_refused rs i r kept count (errors.Pattern at f) h lt is bad =
      (r, record { before = take i rs; behind = drop (suc i) rs; stands = stands_there rs i r lt is; patterns = h.patterns; have = h.have; refused = bad.1 }, bad.0)
  some_refused rs i r kept count Memory h lt is bad = tt
  some_refused rs i r kept count (Unended at) h lt is bad = absurd bad
  some_refused rs i r kept count (Layout at) h lt is bad = absurd bad
  some_refused rs i r kept count (UnknownDirective at) h lt is bad = absurd bad
  some_refused rs i r kept count (UnknownOption at) h lt is bad = absurd bad
  some_refused rs i r kept count (StartCondition at) h lt is bad = absurd bad
  some_refused rs i r kept count NoRules h lt is bad = absurd bad
  some_refused rs i r kept count (DanglingBar at) h lt is bad = absurd bad
  some_refused rs i r kept count (Limit which found most) h lt is bad = absurd bad
