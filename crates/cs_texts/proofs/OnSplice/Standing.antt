-- The scan of a text of tokens that stand apart.
use Rattle.std.proofs.Common.{◌≡◌, ℕ, ◌+◌, ◌-◌, ◌<◌, ◌≤◌, Bool, true, List, [], ◌∷◌, ◌++◌, Some, refl, sym, ap, ◌∙◌, subst, arith, length, length-append, get_or, take, drop, append_assoc, inl, inr}
use Rattle.std.specs.Prelude.{All, IfSome}
use Rattle.std.proofs.lemmas.List.Elements.{All-head, All-tail, All-weaker}
use Rattle.std.proofs.lemmas.List.{drop_all, drop_at, drop-append-le, take-append-le}
use Rattle.cs_pattern_parts.specs.declared.kind.Kind.{Kind}
use Rattle.cs_pattern_parts.specs.declared.kind.Kind.TheVariants.{Token, OwnByte, Skip, Foreign}
use Rattle.cs_scanner.specs.Automaton.Machine.{MatchesRule}
use Rattle.cs_scanner.specs.Scan.Compared.{scanning}
use Rattle.cs_scanner.specs.Scan.Going.{IsBegunBy}
use Rattle.cs_scanner.specs.Scan.Scan.{Scanning, Gives, IsMatch, Scans, ends, goes_on as after_match, given}
use Rattle.cs_scanner.proofs.OnScan.Together.{begun_more, tail_is}
use Rattle.cs_scanner.specs.Lexeme.Lexeme.{lexeme_in}
use Rattle.cs_texts.specs.Rendering.Rendering.{IsRuleText}
use Rattle.cs_texts.specs.declared.rendering.render_work.RenderWork.{RenderWork}
use Rattle.cs_texts.specs.Splice.Apart.{IsApart, IsPassedBefore, IsTakenFirst, MarkApart, ScanBack, StandsApart}
use Rattle.cs_texts.specs.declared.splice.step.GivenToken.TheVariants as variants
use Rattle.cs_texts.specs.declared.splice.step.Step.{Step}
use Rattle.cs_texts.specs.Splice.Settled.{IsSettledBy, IsStep, tokens_of}
use Rattle.cs_texts.proofs.OnSplice.Aligning.{begins, goes_on, nil_text, one_text}
use Rattle.cs_texts.proofs.OnSplice.Lists.{pushed}
use Rattle.cs_texts.proofs.OnSplice.Marking.{settled_at}

-- a match that some bytes of a text settle is so with more behind the text
step_ahead : (s : Scanning) (text : List ℕ) (step : Step) (n : ℕ) → IsStep s text step → step.read ≡ Some n → (later : List ℕ) → Gives s (text ++ later) step.size (tokens_of step.given)
step_ahead s text step n made read later =
    let P : List ℕ → Type 0 = λ t. Gives s t step.size (tokens_of step.given) in
    let settled : IsSettledBy text P n = subst (λ o. IfSome o (IsSettledBy text P)) read made.settled in
    settled_at P text (text ++ later) n settled (take-append-le n text later settled.0)

-- a match that the separator settles
pub taken_first : (s : Scanning) (lexeme sep : List ℕ) (step : Step) (token n : ℕ) → IsStep s (lexeme ++ sep) step → step.given ≡ variants.Token token → step.read ≡ Some n → step.size ≡ length lexeme → IsTakenFirst s lexeme sep token
taken_first s lexeme sep step token n made given read size later =
    let text = (lexeme ++ sep) ++ later in
    subst (λ k. Gives s text k (token ∷ [])) size (subst (λ g. Gives s text step.size (tokens_of g)) given (step_ahead s (lexeme ++ sep) step n made read later))

-- one match more that gives nothing, in front of the byte
pub passed_more : (s : Scanning) (text rest : List ℕ) (first : ℕ) (step : Step) (n : ℕ) → IsStep s (rest ++ first ∷ []) step → step.given ≡ variants.Nothing → step.read ≡ Some n → step.size ≤ length rest → (later : List ℕ) → IsBegunBy s text [] (rest ++ first ∷ later) → IsBegunBy s text [] (take (length rest - step.size) (drop step.size rest) ++ first ∷ later)
passed_more s text rest first step n made given read within later begun =
    let ahead : Gives s ((rest ++ first ∷ []) ++ later) step.size [] =
    subst (λ g. Gives s ((rest ++ first ∷ []) ++ later) step.size (tokens_of g)) given (step_ahead s (rest ++ first ∷ []) step n made read later) in
    let gives : Gives s (rest ++ first ∷ later) step.size [] = subst (λ t. Gives s t step.size []) (append_assoc rest (first ∷ []) later) ahead in
    let cut : drop step.size (rest ++ first ∷ later) ≡ take (length rest - step.size) (drop step.size rest) ++ first ∷ later =
    drop-append-le step.size rest (first ∷ later) within ∙ ap (λ r. r ++ first ∷ later) (sym (tail_is step.size rest)) in
    subst (λ r. IsBegunBy s text [] r) cut (begun_more s text [] (rest ++ first ∷ later) step.size [] begun gives)

-- what a match gives is told by the first byte of its text
given_alone : (literals : List ℕ) (kind : Kind) (text later : List ℕ) → 0 < length text → given literals kind (text ++ later) ≡ given literals kind text
given_alone literals kind [] later some = absurd (omega (arith, some))
given_alone literals Skip (b ∷ text) later some = refl
given_alone literals (Token t) (b ∷ text) later some = refl
given_alone literals Foreign (b ∷ text) later some = refl
given_alone literals OwnByte (b ∷ text) later some = refl

-- a match that takes the text in front of what is behind it is the match of the text alone
module _ (s : Scanning) (text later : List ℕ) where
  same_front : (n : ℕ) → n ≤ length text → take n (text ++ later) ≡ take n text
  same_front n le = take-append-le n text later le

  match_alone : (rule : ℕ) → IsMatch s.patterns (text ++ later) rule (length text) → IsMatch s.patterns text rule (length text)
  match_alone rule m =
      let all : take (length text) (text ++ later) ≡ take (length text) text = same_front (length text) (omega arith) in
      record {
        some = m.some;
        within = omega arith;
        matches = subst (λ t. MatchesRule s.patterns rule t) all m.matches;
        longest = λ other n le o. m.longest other n (omega (arith, le, length-append text later)) (subst (λ t. MatchesRule s.patterns other t) (sym (same_front n le)) o);
        lowest = λ other o. m.lowest other (subst (λ t. MatchesRule s.patterns other t) (sym all) o);
      }

  gives_alone : (tokens : List ℕ) → Gives s (text ++ later) (length text) tokens → Gives s text (length text) tokens
  gives_alone tokens g =
      record {
        rule = g.rule;
        kind = g.kind;
        is_match = match_alone g.rule g.is_match;
        at = g.at;
        gives = sym (given_alone s.literals g.kind text later g.is_match.some) ∙ g.gives;
      }

-- a lexeme that is taken first, at the end of the text or in front of more
module _ (s : Scanning) (lexeme sep : List ℕ) (token : ℕ) (taken : IsTakenFirst s lexeme sep token) where
  scans_alone : Scans s lexeme (token ∷ [])
  scans_alone =
      let gives : Gives s (lexeme ++ (sep ++ [])) (length lexeme) (token ∷ []) =
      subst (λ t. Gives s t (length lexeme) (token ∷ [])) (append_assoc lexeme sep []) (taken []) in
      let over : drop (length lexeme) lexeme ≡ [] = drop_all (length lexeme) lexeme (omega arith) in
      after_match lexeme (token ∷ []) true (length lexeme) (token ∷ []) [] (gives_alone s lexeme (sep ++ []) (token ∷ []) gives) (ends (drop (length lexeme) lexeme) [] true over refl refl) refl

  scans_before : (later tokens : List ℕ) → Scans s (sep ++ later) tokens → Scans s ((lexeme ++ sep) ++ later) (token ∷ tokens)
  scans_before later tokens run =
      let cut : drop (length lexeme) ((lexeme ++ sep) ++ later) ≡ sep ++ later =
      ap (drop (length lexeme)) (append_assoc lexeme sep later) ∙ drop_at lexeme (sep ++ later) (length lexeme) refl in
      after_match ((lexeme ++ sep) ++ later) (token ∷ tokens) true (length lexeme) (token ∷ []) tokens (taken later) (subst (λ t. Scans s t tokens) (sym cut) run) refl

module _ (work : RenderWork) where
  abbrev s : Scanning
  s = scanning work.scanner.now

  pub stand_apart : (token : ℕ) (lexeme : List ℕ) → 0 < length lexeme → lexeme_in work.lexemes.now token ≡ Some lexeme → IsTakenFirst s lexeme work.separator.now token → IsPassedBefore s work.separator.now (get_or lexeme 0 0) → StandsApart work token
  stand_apart token [] some has taken passed = absurd (omega (arith, some))
  stand_apart token (b ∷ rest) some has taken passed = record { first = b; rest = rest; has = has; taken = taken; passed = passed }

  -- token by token: behind its lexeme the separator is passed over, up to the next one's
  scans_back : (tokens text : List ℕ) → All (StandsApart work) tokens → IsRuleText work.lexemes.now work.separator.now tokens text → Scans s text tokens
  scans_back [] text all rule = ends text [] true (nil_text work.lexemes.now work.separator.now text rule) refl refl
  scans_back (t ∷ []) text all rule =
      let a = All-head (StandsApart work) t [] all in
      let lexeme = a.first ∷ a.rest in
      let is : text ≡ lexeme = one_text work.lexemes.now work.separator.now t text lexeme a.has rule in
      subst (λ x. Scans s x (t ∷ [])) (sym is) (scans_alone s lexeme work.separator.now t a.taken)
  scans_back (t ∷ u ∷ more) text all rule =
      let a = All-head (StandsApart work) t (u ∷ more) all in
      let others = All-tail (StandsApart work) t (u ∷ more) all in
      let b = All-head (StandsApart work) u more others in
      let lexeme = a.first ∷ a.rest in
      let on = goes_on work.lexemes.now work.separator.now t (u ∷ more) text lexeme (omega arith) a.has rule in
      let next = begins work.lexemes.now work.separator.now u more on.0 (b.first ∷ b.rest) b.has on.2 in
      let later : List ℕ = b.rest ++ next.0 in
      let run : Scans s (b.first ∷ later) (u ∷ more) = subst (λ x. Scans s x (u ∷ more)) next.1 (scans_back (u ∷ more) on.0 others on.2) in
      let behind : Scans s (work.separator.now ++ b.first ∷ later) (u ∷ more) = (b.passed later).back (u ∷ more) true run in
      let is : text ≡ (lexeme ++ work.separator.now) ++ b.first ∷ later = on.1 ∙ ap (λ r. (lexeme ++ work.separator.now) ++ r) next.1 in
      subst (λ x. Scans s x (t ∷ u ∷ more)) (sym is) (scans_before s lexeme work.separator.now t a.taken (b.first ∷ later) (u ∷ more) behind)

  pub scan_back : (marks : List Bool) → MarkApart work marks → ScanBack work marks
  scan_back marks each tokens text apart rule = scans_back tokens text (All-weaker (IsApart marks) (StandsApart work) each tokens apart) rule

  -- one mark more, that of the next token
  pub mark_more : (marks : List Bool) (mark : Bool) → MarkApart work marks → (mark ≡ true → StandsApart work (length marks + 1)) → MarkApart work (marks ++ mark ∷ [])
  mark_more marks mark each here token apart =
      elim (pushed marks mark true (token - 1) apart.1) [
        | inl there ↦ each token (apart.0, there)
        | inr last ↦
            let place : length marks + 1 ≡ token = omega (arith, last.0, apart.0) in
            subst (λ n. StandsApart work n) place (here last.1)
      ]
