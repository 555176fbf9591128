-- The lines of a negative lack each fault below its base.
use Rattle.std.proofs.Common.{◌≡◌, ℕ, ◌+◌, ◌≤◌, List, [], ◌∷◌, ◌++◌, Option, None, Some, map, length, length-append, refl, sym, ap, subst, append_assoc, append-nil, inl, inr, arith}
use Rattle.std.specs.Prelude.{All}
use Rattle.std.specs.List.{AllByRecursion, AllZip, Contains}
use Rattle.std.proofs.lemmas.List.Elements.{All-head, All-tail}
use Rattle.cs_grammar.specs.Grammar.{PlainGrammar}
use Rattle.cs_grammar.specs.Leftmost.{IsYield}
use Rattle.cs_grammar.specs.Sentence.{framed}
use Rattle.cs_goals.proofs.Members.{Among, Contains-from_Among, Among-from_Contains}
use Rattle.cs_mutate.specs.declared.edit.Edit.{Edit}
use Rattle.cs_mutate.specs.declared.edit.Edit.TheVariants.{Delete, Insert, Replace, Swap}
use Rattle.cs_mutate.specs.declared.negative.Negative.{Negative}
use Rattle.cs_mutate.specs.Edit.{Fits, edited}
use Rattle.cs_mutate.specs.Edits.{edits}
use Rattle.cs_mutate.specs.Negatives.{IsNegative as IsPoisoned}
use Rattle.cs_mutate.proofs.KeptLists.{are_of_those}
use Rattle.cs_mutate.proofs.Listed.{members}
use Rattle.cs_mutate.proofs.Searching.{edits_fit}
use Rattle.cs_texts.specs.Rendering.Rendering.{Rendering}
use Rattle.cs_yacc.specs.Reading.File.{File}
use Rattle.cs_manifest.specs.Manifest.Manifest.{AreNegativesOf, BaseEntry, Choice, IsNegativeOf, IsRenderedBy, LexemeList, NegativeEntry, Texts}
use Rattle.cs_lines.specs.Words.Names.{token_of, mark_text}
use Rattle.cs_lines.specs.Words.Edits.{EditWords, IsEdited}
use Rattle.cs_lines.specs.Lines.Line.{VerdictWords, Feasible, Line}
use Rattle.cs_check.specs.Passing.Entries.{IsNumbered as IsEntry, IsLast, IsBase, IsNegative, IsTold, AreTold as AreTokensTold, IsKeptApart}
use Rattle.cs_check.specs.Passing.Places.{last_part, next_parts}
use Rattle.cs_check.proofs.OnChecking.Kinds.{right_tokens, right_negative}
use Rattle.cs_accord.specs.Suite.{numbered, edit_of, negative_line, negative_lines, text_line, text_lines, tokens_line}
use Rattle.cs_accord.proofs.OnSuite.Above.{IsAbove, IsBehind, may_come, behind_none, behind_line, behind_both}
use Rattle.cs_accord.proofs.OnSuite.Cases.{text_fine}
use Rattle.cs_accord.proofs.OnSuite.Claims.{made, made_exact, made_claimed}
use Rattle.cs_accord.proofs.OnSuite.Naming.{token_named}
use Rattle.cs_accord.proofs.OnSuite.Setting.{Setting, IsSetting, by}
use Rattle.cs_accord.proofs.OnSuite.Telling.{Content, Told, of_base, of_negative, of_negative_tokens, of_negative_text, of_end, is_last}

-- negatives, bases and the end may come there
pub record IsBasePart (shown : List Line) : Type 0 where
  pub negative : Contains (next_parts (last_part shown)) (last_part of_negative)
  pub base : Contains (next_parts (last_part shown)) (last_part of_base)
  pub end : Contains (next_parts (last_part shown)) (last_part of_end)

pub base_part : IsBasePart of_base
base_part = record { negative = (0, omega arith, refl); base = (1, omega arith, refl); end = (2, omega arith, refl) }

negative_part : IsBasePart of_negative_text
negative_part = record { negative = (0, omega arith, refl); base = (1, omega arith, refl); end = (2, omega arith, refl) }

-- the goal is feasible, and its case yields these tokens
pub record IsBaseGoal (g : PlainGrammar) (words : List VerdictWords) (codes : List (List ℕ)) (goal : ℕ) (tokens : List ℕ) : Type 0 where
  pub size : ℕ
  pub case : ℕ
  pub first : ℕ
  pub rules : List ℕ
  pub verdict : IsEntry words goal (Feasible size case first)
  pub derived : IsEntry codes case rules
  pub yields : IsYield g rules tokens
  pub short : length tokens ≤ 1000000

-- a negative that is known
pub record IsKnown (g : PlainGrammar) (base : List ℕ) (n : Negative) : Type 0 where
  pub fits : Fits (length base) g.tokens n.edit
  pub poisoned : IsPoisoned g base n

-- those that are kept are such
module _ {g : PlainGrammar} {choice : Choice} {lexemes : Option LexemeList} {before : List Negative} {base : List ℕ} {entries : List NegativeEntry} (of : AreNegativesOf g choice lexemes before base entries) where
  fits_among : (es : List Edit) (e : Edit) → All (Fits (length base) g.tokens) es → Among e es → Fits (length base) g.tokens e
  fits_among [] e each among = absurd among
  fits_among (x ∷ es) e each (inl here) = subst (Fits (length base) g.tokens) (sym here) (All-head (Fits (length base) g.tokens) x es each)
  fits_among (x ∷ es) e each (inr later) = fits_among es e (All-tail (Fits (length base) g.tokens) x es each) later

  known_at : (n : Negative) → Among n of.kept → IsKnown g base n
  known_at n among =
      let within = (are_of_those g base choice.first before of.negatives of.kept of.are_kept n (Contains-from_Among n of.kept among)).0 in
      let is = (members g base (edits g.tokens base choice.operators) of.negatives n of.all).0 within in
      record {
        fits = fits_among (edits g.tokens base choice.operators) n.edit (edits_fit g.tokens base choice.operators) (Among-from_Contains n.edit (edits g.tokens base choice.operators) is.0);
        poisoned = is.1;
      }

-- a negative of the base that is known, and what came of rendering it
pub record IsKnownNegative (s : Setting) (base : List ℕ) (e : NegativeEntry) : Type 0 where
  pub known : IsKnown s.file.grammar base e.negative
  pub text : IsRenderedBy (Some s.texts) (Some s.lexemes) (edited base e.negative.edit) e.rendered

pub known_negatives : {s : Setting} {before : List Negative} {base : List ℕ} (entries : List NegativeEntry) → IsSetting s → AreNegativesOf s.file.grammar s.choice (Some s.lexemes) before base entries
    → AllByRecursion (IsKnownNegative s base) entries
known_negatives {s} {before} {base} entries is of =
    each of.kept entries (λ n among. known_at of n among) (subst (λ (o : Option Texts). AllZip (IsNegativeOf o (Some s.lexemes) base) of.kept entries) is.texts_are of.each)
  where
    each : (kept : List Negative) (list : List NegativeEntry) → ((n : Negative) → Among n kept → IsKnown s.file.grammar base n) → AllZip (IsNegativeOf (Some s.texts) (Some s.lexemes) base) kept list
        → AllByRecursion (IsKnownNegative s base) list
    each kept [] within zip = tt
    each [] (e ∷ list) within zip = absurd zip
    each (n ∷ kept) (e ∷ list) within zip = (
      record {
        known = subst (IsKnown s.file.grammar base) (sym zip.0.is_of) (within n (inl refl));
        text = subst (λ (m : Negative). IsRenderedBy (Some s.texts) (Some s.lexemes) (edited base m.edit) e.rendered) (sym zip.0.is_of) zip.0.text;
      },
      each kept list (λ m among. within m (inr among)) zip.1,
    )

-- the words of edits
abbrev pub edits_told : File → List NegativeEntry → List EditWords
edits_told file entries = map (λ (e : NegativeEntry). edit_of file e.negative.edit) entries

-- ---- below a base

-- the last base is of a goal, and its tokens are these
pub record IsLastBase (g : PlainGrammar) (words : List VerdictWords) (codes : List (List ℕ)) (bases : List ℕ) (tokens : List ℕ) : Type 0 where
  pub goal : ℕ
  pub last : IsLast bases goal
  pub of : IsBaseGoal g words codes goal tokens

is_base : {g : PlainGrammar} {above : List Line} {c : Content} {tokens : List ℕ} → Told above c → IsLastBase g c.words c.codes c.bases tokens → IsBase g above tokens
is_base t b = record {
  goal = b.goal;
  case = b.of.case;
  rules = b.of.rules;
  is_goal = subst (λ (l : List ℕ). IsLast l b.goal) (sym t.bases_are) b.last;
  has_case = (b.of.size, b.of.first, subst (λ (l : List VerdictWords). IsEntry l b.goal (Feasible b.of.size b.of.case b.of.first)) (sym t.words_are) b.of.verdict);
  derived = subst (λ (l : List (List ℕ)). IsEntry l b.of.case b.of.rules) (sym t.codes_are) b.of.derived;
  yields = b.of.yields;
}

-- lines that lack each fault, behind which negatives, bases and the end may come; this is told, but for where the last stands
pub record IsPast (s : Setting) (above lines : List Line) (c : Content) : Type 0 where
  pub shown : List Line
  pub starts : IsBasePart shown
  pub behind : IsBehind s above lines (record c { shown = shown })

module _ {s : Setting} (is : IsSetting s) where
  -- an edit that fits, as its words tell it
  edited_is : (w : List ℕ) (e : Edit) → Fits (length w) s.file.grammar.tokens e → IsEdited s.file w (edit_of s.file e) (edited w e)
  edited_is w (Delete i) fits = (fits.0, refl)
  edited_is w (Insert i t) fits = (fits.0, t, token_named s.file is.named t fits.1, refl)
  edited_is w (Replace i t) fits = (fits.0, t, token_named s.file is.named t fits.1, refl)
  edited_is w (Swap i) fits = (fits.0, refl)

  module _ {above : List Line} {c : Content} (a : IsAbove s above c) (starts : IsBasePart c.shown) {tokens : List ℕ} (b : IsLastBase s.file.grammar c.words c.codes c.bases tokens) where
    kept_apart : (n : Negative) → IsKnown s.file.grammar tokens n → IsKeptApart s.file above (framed (edited tokens n.edit)) n.at (mark_text s.file n.left) (mark_text s.file n.right)
    kept_apart n known = record {
      a = n.left;
      b = n.right;
      first = known.poisoned.pair.left;
      second = known.poisoned.pair.right;
      named = refl;
      named_behind = refl;
      apart = (
        a.below.has,
        made s.file is.named s.closed is.closed,
        made_claimed s.file is.named s.closed is.closed above a.below.told,
        λ next. known.poisoned.poisoned (((made_exact s.file is.named s.closed is.closed).next n.left n.right).0 next),
      );
    }

    negative_fine : (e : NegativeEntry) → IsKnownNegative s tokens e → (rendered : Option Rendering) → IsRenderedBy (Some s.texts) (Some s.lexemes) (edited tokens e.negative.edit) rendered
        → IsPast s above (negative_line s.file (length c.edits + 1) (length c.bases) e.negative ∷ tokens_line s.file (edited tokens e.negative.edit) ∷ text_lines s.file rendered)
        (record c { edits = c.edits ++ edit_of s.file e.negative.edit ∷ [] })
    negative_fine e known None text = absurd text
    negative_fine e known (Some r) text =
        let n = e.negative in
        let edit = edit_of s.file n.edit in
        let y = edited tokens n.edit in
        let first = negative_line s.file (length c.edits + 1) (length c.bases) n in
        let second = tokens_line s.file y in
        let last = text_line s.file r in
        let one = above ++ first ∷ [] in
        let two = one ++ second ∷ [] in
        let edited_here : IsEdited s.file tokens edit y = edited_is tokens n.edit known.known.fits in
        let b1 = behind_line a first of_negative refl refl
        (right_negative (by s) above (length c.edits + 1) (length c.bases) edit (mark_text s.file n.left) (mark_text s.file n.right) n.at
        (may_come a first starts.negative (ap (λ (l : List EditWords). length l + 1) (sym a.told.edits_are))) (ap (λ (l : List ℕ). length l) (sym a.told.bases_are))
        (tokens, is_base a.told b, (y, edited_here)) (y, (tokens, is_base a.told b, edited_here), kept_apart n known.known)) in
        let t1 = b1.told.told in
        let neg_one : IsNegative s.file one y = (edit, subst (λ (l : List EditWords). IsLast l edit) (sym t1.edits_are) (is_last c.edits edit), (tokens, is_base t1 b, edited_here)) in
        let told_one : AreTokensTold s.file one y = subst (λ q. IsTold s.file one q y) (sym t1.part_is) neg_one in
        let b2 = behind_line b1.told second of_negative_tokens refl refl (right_tokens (by s) one (map (token_of s.file) y) (may_come b1.told second (0, omega arith, refl) tt) (y, told_one, refl)) in
        let t2 = b2.told.told in
        let neg_two : IsNegative s.file two y = (edit, subst (λ (l : List EditWords). IsLast l edit) (sym t2.edits_are) (is_last c.edits edit), (tokens, is_base t2 b, edited_here)) in
        let told_two : AreTokensTold s.file two y = subst (λ q. IsTold s.file two q y) (sym t2.part_is) neg_two in
        let b3 = text_fine b2.told of_negative_text refl (0, omega arith, refl) y told_two r text in
        record {
          shown = of_negative_text;
          starts = negative_part;
          behind = behind_both (first ∷ []) (second ∷ last ∷ []) b1 (behind_both (second ∷ []) (last ∷ []) b2 b3);
        }

  -- all negatives of the base
  pub negatives_fine : {tokens : List ℕ} (entries : List NegativeEntry) → AllByRecursion (IsKnownNegative s tokens) entries → {above : List Line} {c : Content} → IsAbove s above c → IsBasePart c.shown
      → IsLastBase s.file.grammar c.words c.codes c.bases tokens
      → IsPast s above (numbered (length c.edits + 1) (negative_lines s.file (length c.bases) tokens) entries) (record c { edits = c.edits ++ edits_told s.file entries })
  negatives_fine [] known {above} {c} a starts b = record {
    shown = c.shown;
    starts = starts;
    behind = subst (λ (l : List EditWords). IsBehind s above [] (record c { edits = l })) (sym (append-nil c.edits)) (behind_none a);
  }
  negatives_fine {tokens} (e ∷ entries) known {above} {c} a starts b =
      let edit = edit_of s.file e.negative.edit in
      let lines = negative_lines s.file (length c.bases) tokens (length c.edits + 1) e in
      let behind = λ (n : ℕ). numbered n (negative_lines s.file (length c.bases) tokens) entries in
      let next = length (c.edits ++ edit ∷ []) + 1 in
      let next_is : next ≡ length c.edits + 1 + 1 = (let more = length-append c.edits (edit ∷ []) in omega (arith, more)) in
      let one = negative_fine a starts b e known.0 e.rendered known.0.text in
      let rest = negatives_fine entries known.1 one.behind.told one.starts b in
      let both = behind_both lines (behind next) one.behind rest.behind in
      let all = subst (λ (l : List EditWords). IsBehind s above (lines ++ behind next) (record c { shown = rest.shown; edits = l })) (append_assoc c.edits (edit ∷ []) (edits_told s.file entries)) both in
      record {
        shown = rest.shown;
        starts = rest.starts;
        behind = subst (λ (n : ℕ). IsBehind s above (lines ++ behind n) (record c { shown = rest.shown; edits = c.edits ++ edits_told s.file (e ∷ entries) })) next_is all;
      }

-- ---- what is known of a base

pub record IsKnownBase (s : Setting) (words : List VerdictWords) (codes : List (List ℕ)) (base : BaseEntry) : Type 0 where
  pub of : IsBaseGoal s.file.grammar words codes base.goal base.tokens
  pub before : List Negative
  pub made : AreNegativesOf s.file.grammar s.choice (Some s.lexemes) before base.tokens base.negatives
