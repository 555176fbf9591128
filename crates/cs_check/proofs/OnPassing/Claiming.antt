-- The claims of right lines.
use Rattle.std.proofs.Common.{◌≡◌, ℕ, suc, ◌+◌, ◌≤◌, false, List, [], ◌∷◌, ◌++◌, Some, None, length, map, refl, sym, ap, ◌∙◌, subst, append_assoc, append-nil, arith}
use Rattle.std.specs.Prelude.{slice_get}
use Rattle.std.specs.List.{Contains}
use Rattle.std.proofs.lemmas.Bool.{false≢true}
use Rattle.cs_grammar.specs.declared.symbol.Symbol.{Symbol}
use Rattle.cs_grammar.specs.declared.symbol.Symbol.TheVariants.{Nonterminal}
use Rattle.cs_grammar.specs.Grammar.{PlainGrammar}
use Rattle.cs_grammar.specs.Tree.{Tree, IsTree, code, yield, size, IsPrefixFree}
use Rattle.cs_grammar.specs.Leftmost.{IsYield}
use Rattle.cs_grammar.specs.Sentence.{framed}
use Rattle.cs_grammar.specs.Weights.{Measure}
use Rattle.cs_grammar.proofs.OneTree.{one_tree}
use Rattle.cs_choices.specs.declared.weigh.Weigh.{Weigh}
use Rattle.cs_scanner.specs.Scan.Scan.{Scans}
use Rattle.cs_lines.specs.Words.Names.{token_of}
use Rattle.cs_lines.specs.Words.Edits.{EditWords}
use Rattle.cs_lines.specs.Lines.Line.{GoalWords, Feasible, Infeasible, Line, Weighing, LexemeLine, CaseLine, DeriveLine, TokensLine, TextLine, NoLexemeLine, NoScanLine, GoalLine, NegativeLine, EndLine}
use Rattle.cs_check.specs.declared.passing.fault.ClaimFault.TheVariants.{Form, Size, Yield, Scan, Goal as OfGoal, Infeasible as OfInfeasible, Base, Pair}
use Rattle.cs_check.specs.Passing.Above.{size_in, derivation_in, goal_in, verdict_in, base_in, edit_in, weigh_in, lexeme_in, case_sizes, derivations, goals_in, verdicts, base_goals, edits}
use Rattle.cs_check.specs.Passing.Head.{head_size}
use Rattle.cs_check.specs.Passing.Goals.{IsDue, AreFinished}
use Rattle.cs_check.specs.Passing.Places.{Part, OfCase, OfDerivation, OfCaseTokens, OfCaseText, OfNegative, OfNegativeTokens, OfNegativeText, OfEnd, part_of, last_part, next_parts}
use Rattle.cs_check.specs.Passing.Entries.{IsNumbered, IsLast, IsMeasured, measured, IsCase, IsMade, IsNegative, IsTold, AreTold}
use Rattle.cs_check.specs.Passing.Faults.{Checked, HasScan}
use Rattle.cs_check.specs.Passing.Passing.{Passes}
use Rattle.cs_check.specs.Passing.Manifest.{AreRight}
use Rattle.cs_check.specs.Passing.Claims.{IsTextOf, AreShown, IsTrueCase, AreAllGoals, IsTrueGoal, IsTrulyInfeasible, IsTrueNegative, AreTrue, Claims}
use Rattle.cs_check.proofs.OnChecking.Framed.{followed_at}
use Rattle.cs_check.proofs.OnChecking.Once.{one_made, one_yield}
use Rattle.cs_check.proofs.OnChecking.Told.{kept, added, last_part_more, among_true, base_kept}
use Rattle.cs_check.proofs.OnChecking.Kinds.{is_head}
use Rattle.cs_check.proofs.OnPassing.Behind.{IsPast, AreBody, told_stays, past_more, body_behind, behind_all, follower}
use Rattle.cs_check.proofs.OnPassing.Splits.{last_is, goal_line, tells_at, ends_so}
use Rattle.cs_check.proofs.OnPassing.AllGoals.{AreDue, all_goals}
use Rattle.cs_check.proofs.OnPassing.Excluding.{excluded_none, excluded_apart}
use Rattle.cs_check.proofs.OnPassing.Lines.{pass_right}

-- ---- which line may follow

derive_line : (l : Line) → Contains (OfDerivation ∷ []) (part_of OfCase l) → (rules : List ℕ) × (l ≡ DeriveLine rules)
derive_line (DeriveLine rules) h = (rules, refl)
derive_line l h = absurd (false≢true (among_true (OfDerivation ∷ []) (part_of OfCase l) h))

tokens_line : (l : Line) → Contains (OfCaseTokens ∷ []) (part_of OfDerivation l) → (names : List (List ℕ)) × (l ≡ TokensLine names)
tokens_line (TokensLine names) h = (names, refl)
tokens_line l h = absurd (false≢true (among_true (OfCaseTokens ∷ []) (part_of OfDerivation l) h))

negative_line : (l : Line) → Contains (OfNegativeTokens ∷ []) (part_of OfNegative l) → (names : List (List ℕ)) × (l ≡ TokensLine names)
negative_line (TokensLine names) h = (names, refl)
negative_line l h = absurd (false≢true (among_true (OfNegativeTokens ∷ []) (part_of OfNegative l) h))

-- a text is one of the tokens that are told
module _ (c : Checked) (tokens : List ℕ) (above : List Line) (told : (t : List ℕ) → AreTold c.file above t → t ≡ tokens) where
  scanned : (text : List ℕ) → HasScan c above (TextLine text) → Scans c.scanning text tokens
  scanned text h = subst (λ (t : List ℕ). Scans c.scanning text t) (told h.0 h.1) h.2

  case_text : (l : Line) → Contains (OfCaseText ∷ []) (part_of OfCaseTokens l) → HasScan c above l → IsTextOf c.scanning tokens l
  case_text (TextLine text) h is = scanned text is
  case_text (NoLexemeLine name) h is = tt
  case_text (NoScanLine after) h is = tt
  case_text l h is = absurd (false≢true (among_true (OfCaseText ∷ []) (part_of OfCaseTokens l) h))

  negative_text : (l : Line) → Contains (OfNegativeText ∷ []) (part_of OfNegativeTokens l) → HasScan c above l → IsTextOf c.scanning tokens l
  negative_text (TextLine text) h is = scanned text is
  negative_text (NoLexemeLine name) h is = tt
  negative_text (NoScanLine after) h is = tt
  negative_text l h is = absurd (false≢true (among_true (OfNegativeText ∷ []) (part_of OfNegativeTokens l) h))

-- ---- measures

no_weigh : (l : Line) → is_head l ≡ false → weigh_in l ≡ None
no_weigh (Weighing weigh) h = absurd (false≢true (sym h))
no_weigh l h = refl

no_lexeme : (l : Line) → is_head l ≡ false → lexeme_in l ≡ None
no_lexeme (LexemeLine name text) h = absurd (false≢true (sym h))
no_lexeme l h = refl

measured_below : (above body : List Line) → AreBody body → (w : Measure) → IsMeasured above w → IsMeasured (above ++ body) w
measured_below above body are w h = (
  h.0,
  subst (λ (l : List Weigh). IsNumbered l 1 h.0) (sym (told_stays weigh_in no_weigh body above are)) h.1,
  h.2 ∙ ap (measured h.0) (sym (told_stays lexeme_in no_lexeme body above are)),
)

-- ---- a pair at a place

one_code : (g : PlainGrammar) (x : Symbol) (t : Tree) → IsTree g x t → IsPrefixFree g x t
one_code g x t is u more other e =
    let same = one_tree g t u x x more [] refl is other (sym e ∙ sym (append-nil (code u))) in
    (same.0, same.1)

module _ (c : Checked) (lines : List Line) (right : AreRight c lines) where
  -- ---- goals

  due : AreDue c.file (goals_in lines)
  due before words behind e =
      let at = tells_at goal_in lines before words behind e in
      let told = goal_line at.line words at.tells in
      let place : lines ≡ at.above ++ GoalLine told.0 words told.1 ∷ at.below = at.place ∙ ap (λ (x : Line). at.above ++ x ∷ at.below) told.2 in
      let has = right.each at.above (GoalLine told.0 words told.1) at.below place OfGoal in
      (has.0, subst (λ (l : List GoalWords). IsDue c.file l words has.0) at.told has.1)

  finished : AreFinished c.file.grammar (goals_in lines)
  finished =
      let end = ends_so lines right.ended in
      let has = right.each end.0 (EndLine end.1) [] end.2 OfGoal in
      subst (AreFinished c.file.grammar) (sym (ap goals_in end.2 ∙ kept goal_in end.0 (EndLine end.1) refl)) has

  goals_true : (words : GoalWords) → Contains (goals_in lines) words → AreAllGoals c.file lines words
  goals_true words within = all_goals c.file (goals_in lines) due finished words within

  goal_true : (above below : List Line) (n number case first : ℕ) (words : GoalWords) → lines ≡ above ++ GoalLine n words (Feasible number case first) ∷ below → IsTrueGoal c.file above words number case first
  goal_true above below n number case first words place =
      right.each above (GoalLine n words (Feasible number case first)) below place OfGoal

  infeasible_true : (above below : List Line) (n : ℕ) (words : GoalWords) → lines ≡ above ++ GoalLine n words Infeasible ∷ below → IsTrulyInfeasible c.file above words
  infeasible_true above below n words place =
      let l : Line = GoalLine n words Infeasible in
      let has = right.each above l below place OfInfeasible in
      (has.0, has.1, excluded_none c lines right above l below place refl has.0 has.2)

  -- ---- tokens and their text

  module _ (tokens : List ℕ) (before after : Part) (up others : List Line) where
    pub record AreTheTokens : Type 0 where
      pub past : IsPast c.file.grammar up
      pub place : lines ≡ up ++ others
      pub part : last_part up ≡ before
      pub open_before : before ≡ OfEnd → ⊥
      pub open_after : after ≡ OfEnd → ⊥
      pub names : (l : Line) → Contains (next_parts before) (part_of before l) → (names : List (List ℕ)) × (l ≡ TokensLine names)
      pub next : (names : List (List ℕ)) → part_of before (TokensLine names) ≡ after
      pub told : (t : List ℕ) → IsTold c.file up before t → t ≡ tokens
      pub told_after : (names : List (List ℕ)) (t : List ℕ) → IsTold c.file (up ++ TokensLine names ∷ []) after t → t ≡ tokens
      pub text : (above : List Line) → ((t : List ℕ) → AreTold c.file above t → t ≡ tokens) → (l : Line) → Contains (next_parts after) (part_of after l) → HasScan c above l → IsTextOf c.scanning tokens l

    are_shown : AreTheTokens → AreShown c tokens others
    are_shown h =
        let g = c.file.grammar in
        let follow = follower c lines right others up h.past (λ e. h.open_before (sym h.part ∙ e)) h.place in
        let named = h.names follow.line (subst (λ (p : Part). Contains (next_parts p) (part_of p follow.line)) h.part follow.follows) in
        let t : Line = TokensLine named.0 in
        let below : others ≡ t ∷ follow.others = follow.place ∙ ap (λ (x : Line). x ∷ follow.others) named.1 in
        let here : lines ≡ up ++ t ∷ follow.others = h.place ∙ ap (λ (s : List Line). up ++ s) below in
        let yielded = right.each up t follow.others here Yield in
        let are : yielded.0 ≡ tokens = h.told yielded.0 (subst (λ (p : Part). IsTold c.file up p yielded.0) h.part yielded.1) in
        let names_are : named.0 ≡ map (token_of c.file) tokens = yielded.2 ∙ ap (map (token_of c.file)) are in
        let up' = up ++ t ∷ [] in
        let low : head_size g up ≤ length up = let past = h.past in omega (arith, past) in
        let past' : IsPast g up' = past_more g up t refl low in
        let place' : lines ≡ up' ++ follow.others = here ∙ sym (append_assoc up (t ∷ []) follow.others) in
        let part' : last_part up' ≡ after = last_part_more up t ∙ ap (λ (p : Part). part_of p t) h.part ∙ h.next named.0 in
        let follow' = follower c lines right follow.others up' past' (λ e. h.open_after (sym part' ∙ e)) place' in
        let here' : lines ≡ up' ++ follow'.line ∷ follow'.others = place' ∙ ap (λ (s : List Line). up' ++ s) follow'.place in
        let told' : (x : List ℕ) → AreTold c.file up' x → x ≡ tokens = λ x k. h.told_after named.0 x (subst (λ (p : Part). IsTold c.file up' p x) part' k) in
        let is_text = h.text up' told' follow'.line (subst (λ (p : Part). Contains (next_parts p) (part_of p follow'.line)) part' follow'.follows)
        (right.each up' follow'.line follow'.others here' Scan) in
        record {
          text = follow'.line;
          others = follow'.others;
          place = below ∙ ap (λ (s : List Line). t ∷ s) follow'.place ∙ ap (λ (n : List (List ℕ)). TokensLine n ∷ follow'.line ∷ follow'.others) names_are;
          scans = is_text;
        }

  -- ---- cases

  module _ (above below : List Line) (n number : ℕ) (place : lines ≡ above ++ CaseLine n number ∷ below) where
    case_true : IsTrueCase c lines number below
    case_true =
        let g = c.file.grammar in
        let l : Line = CaseLine n number in
        let up1 = above ++ l ∷ [] in
        let behind = (body_behind g above l refl (right.each above l below place Form)).behind in
        let past1 : IsPast g up1 = past_more g above l refl behind in
        let place1 : lines ≡ up1 ++ below = place ∙ sym (append_assoc above (l ∷ []) below) in
        let part1 : last_part up1 ≡ OfCase = last_part_more above l in
        let next1 = follower c lines right below up1 past1 (λ e. let f : OfCase ≡ OfEnd = sym part1 ∙ e in absurd cc) place1 in
        let derived = derive_line next1.line (subst (λ (p : Part). Contains (next_parts p) (part_of p next1.line)) part1 next1.follows) in
        let rules = derived.0 in
        let d : Line = DeriveLine rules in
        let below1 : below ≡ d ∷ next1.others = next1.place ∙ ap (λ (x : Line). x ∷ next1.others) derived.1 in
        let here1 : lines ≡ up1 ++ d ∷ next1.others = place1 ∙ ap (λ (s : List Line). up1 ++ s) below1 in
        let sized = right.each up1 d next1.others here1 Size in
        let all_body = (behind_all c lines right below up1 [] past1 (place1 ∙ ap (λ (s : List Line). up1 ++ s) (sym (append-nil below)))).0 in
        let is_number : sized.1 ≡ number = last_is (case_sizes above) number sized.1 (subst (λ (s : List ℕ). IsLast s sized.1) (added size_in above l number refl) sized.3) in
        let has = sized.4 in
        case_with rules next1.others below1 past1 here1 all_body sized.0 sized.2 has.tree has.is_tree has.code (sym is_number ∙ has.size)
      where
        -- with the derivation and its tree
        case_with : (rules : List ℕ) (others : List Line) → below ≡ DeriveLine rules ∷ others → IsPast c.file.grammar (above ++ CaseLine n number ∷ []) → lines ≡ (above ++ CaseLine n number ∷ []) ++ DeriveLine rules ∷ others → AreBody below → (w : Measure) → IsMeasured (above ++ CaseLine n number ∷ []) w → (tree : Tree) → IsTree c.file.grammar (Nonterminal c.file.grammar.start) tree → rules ≡ code tree → number ≡ size w tree → IsTrueCase c lines number below
        case_with rules others below1 past1 here1 body w weighed tree is_tree is_code sized =
            let g = c.file.grammar in
            let up1 = above ++ CaseLine n number ∷ [] in
            let d : Line = DeriveLine rules in
            let up2 = up1 ++ d ∷ [] in
            let low1 : head_size g up1 ≤ length up1 = omega (arith, past1) in
            let whole : lines ≡ up1 ++ below = here1 ∙ ap (λ (s : List Line). up1 ++ s) (sym below1) in
            record {
              tree = tree;
              is_tree = is_tree;
              w = w;
              measured = subst (λ (s : List Line). IsMeasured s w) (sym whole) (measured_below up1 below body w weighed);
              size = sized;
              others = others;
              derived = below1 ∙ ap (λ (r : List ℕ). DeriveLine r ∷ others) is_code;
              shown = are_shown (yield tree) OfDerivation OfCaseTokens up2 others (record {
                past = past_more g up1 d refl low1;
                place = here1 ∙ sym (append_assoc up1 (d ∷ []) others);
                part = last_part_more up1 d;
                open_before = λ e. absurd cc;
                open_after = λ e. absurd cc;
                names = tokens_line;
                next = λ names. refl;
                told = λ t k. is_yield t up2 refl k;
                told_after = λ names t k. is_yield t (up2 ++ TokensLine names ∷ []) (kept derivation_in up2 (TokensLine names) refl) k;
                text = λ above' told l follows has. case_text c (yield tree) above' told l follows has;
              });
            }
          where
            is_yield : (t : List ℕ) (up : List Line) → derivations up ≡ derivations ((above ++ CaseLine n number ∷ []) ++ DeriveLine rules ∷ []) → IsCase c.file.grammar up t → t ≡ yield tree
            is_yield t up same k =
                let up1 = above ++ CaseLine n number ∷ [] in
                let all : derivations up ≡ derivations up1 ++ rules ∷ [] = same ∙ added derivation_in up1 (DeriveLine rules) rules refl in
                let is : k.0 ≡ rules = last_is (derivations up1) rules k.0 (subst (λ (s : List (List ℕ)). IsLast s k.0) all k.1) in
                one_yield c.file.grammar (one_code c.file.grammar) rules t (yield tree)
                (subst (λ (r : List ℕ). IsYield c.file.grammar r t) is k.2)
                (record { tree = tree; is_tree = is_tree; code = is_code; yield = refl })

  -- ---- negatives

  module _ (above below : List Line) (n base : ℕ) (edit : EditWords) (left other : List ℕ) (at : ℕ) (place : lines ≡ above ++ NegativeLine n base edit left other at ∷ below) where
    negative_true : IsTrueNegative c above base edit left other at below
    negative_true =
        let g = c.file.grammar in
        let l : Line = NegativeLine n base edit left other at in
        let pair = right.each above l below place Pair in
        let tokens = pair.0 in
        let made = pair.1 in
        let apart = pair.2 in
        let behind = (body_behind g above l refl (right.each above l below place Form)).behind in
        let poisoned = excluded_apart c lines right above l below place refl apart.a apart.b apart.apart in
        let more : at + 1 ≡ suc at = omega arith in
        let second : slice_get (framed tokens) (suc at) ≡ Some apart.b = ap (slice_get (framed tokens)) (sym more) ∙ apart.second in
        record {
          whole = made.0;
          tokens = tokens;
          last = right.each above l below place Base;
          is_base = made.1;
          edited = made.2;
          a = apart.a;
          b = apart.b;
          named = apart.named;
          named_behind = apart.named_behind;
          first = apart.first;
          second = apart.second;
          poisoned = poisoned;
          outside = λ sentence. poisoned tokens sentence (followed_at (framed tokens) at apart.a apart.b apart.first second);
          shown = are_shown tokens OfNegative OfNegativeTokens (above ++ l ∷ []) below (record {
            past = past_more g above l refl behind;
            place = place ∙ sym (append_assoc above (l ∷ []) below);
            part = last_part_more above l;
            open_before = λ e. absurd cc;
            open_after = λ e. absurd cc;
            names = negative_line;
            next = λ names. refl;
            told = λ t k. is_made tokens made t (above ++ l ∷ []) refl refl refl refl k;
            told_after = λ names t k. is_made tokens made t ((above ++ l ∷ []) ++ TokensLine names ∷ [])
                (kept derivation_in (above ++ l ∷ []) (TokensLine names) refl)
                (kept verdict_in (above ++ l ∷ []) (TokensLine names) refl)
                (kept base_in (above ++ l ∷ []) (TokensLine names) refl)
                (kept edit_in (above ++ l ∷ []) (TokensLine names) refl) k;
            text = λ above' told l' follows has. negative_text c tokens above' told l' follows has;
          });
        }
      where
        is_made : (tokens : List ℕ) → IsMade c.file above edit tokens → (t : List ℕ) (up : List Line) → derivations up ≡ derivations (above ++ NegativeLine n base edit left other at ∷ []) → verdicts up ≡ verdicts (above ++ NegativeLine n base edit left other at ∷ []) → base_goals up ≡ base_goals (above ++ NegativeLine n base edit left other at ∷ []) → edits up ≡ edits (above ++ NegativeLine n base edit left other at ∷ []) → IsNegative c.file up t → t ≡ tokens
        is_made tokens made t up same_rules same_verdicts same_bases same_edits k =
            let l : Line = NegativeLine n base edit left other at in
            let rules = same_rules ∙ kept derivation_in above l refl in
            let told = same_verdicts ∙ kept verdict_in above l refl in
            let bases = same_bases ∙ kept base_in above l refl in
            let all : edits up ≡ edits above ++ edit ∷ [] = same_edits ∙ added edit_in above l edit refl in
            let is : k.0 ≡ edit = last_is (edits above) edit k.0 (subst (λ (s : List EditWords). IsLast s k.0) all k.1) in
            let there : IsMade c.file up edit tokens = (made.0, base_kept c.file above up rules told bases made.0 made.1, made.2) in
            one_made c.file (one_code c.file.grammar) up edit t tokens (subst (λ (e : EditWords). IsMade c.file up e t) is k.2) there

  pub lines_true : AreTrue c lines
  lines_true = record {
    goals = goals_true;
    cases = case_true;
    shown = goal_true;
    infeasible = infeasible_true;
    negatives = negative_true;
  }

pub passing_true : (c : Checked) (text : List ℕ) → Passes c text → (Claims c text → ⊥) → ⊥
passing_true c text passes never = pass_right c text passes (λ lines are right. never (lines, are, lines_true c lines right))
