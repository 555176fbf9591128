-- Rows are the entries of their chains, and their parts are the entries' lines.
use Rattle.std.proofs.Common.{◌≡◌, ◌<◌, ℕ, ◌+◌, List, [], ◌∷◌, ◌++◌, length, get_or, take, refl, sym, ap, ◌∙◌, subst, append_assoc, append-nil, Option, None}
use Rattle.std.specs.Prelude.{All, codes, decimal}
use Rattle.std.specs.List.{AllZip}
use Rattle.std.proofs.lemmas.Grind.{flat_map-append}
use Rattle.std.proofs.lemmas.List.{get_or-map, length-map, take_more}
use Rattle.std.proofs.lemmas.List.Elements.{All-cons, All-head, All-nil, All-tail}
use Rattle.cs_least.specs.declared.cost.cost.Cost.{Cost}
use Rattle.cs_least.specs.declared.cost.cost.Cost.TheVariants.{Never, Large, Least}
use Rattle.cs_manifest.specs.Writer.Below.{derive_below}
use Rattle.cs_manifest.specs.Manifest.Lines.{verdict_lines}
use Rattle.cs_manifest.specs.Manifest.Manifest.{AreTokensOf, IsTextOf}
use Rattle.cs_manifest.specs.Output.Names.{token_of, token_words, tokens_below}
use Rattle.cs_manifest.specs.Output.Words.{line, numbered_word, spaced}
use Rattle.cs_chain.specs.declared.chains.chain.Chain.{Chain}
use Rattle.cs_chain.specs.Chains.Chain.{IsChain}
use Rattle.cs_chain.specs.Judging.Frame.{verdict_by}
use Rattle.cs_chain.specs.Judging.Verdict.{IsVerdictIn}
use Rattle.cs_chain.proofs.OnJudging.Framed.{framed_verdict, plus_least}
use Rattle.cs_chain_text.specs.declared.rows.rows.Row.{Row}
use Rattle.cs_chain_text.specs.declared.entries.tally.Tally.{Tally}
use Rattle.cs_chain_text.specs.Rows.Around.{AreTokensIn}
use Rattle.cs_chain_text.specs.Rows.Parts.{head_words}
use Rattle.cs_chain_text.specs.Progress.{CanCount, HasRoom, IsCounted, with_verdict}
use Rattle.cs_chain_text.specs.Rows.Rows.{AreRowsOf, IsRow, IsRowOf, Told, entry_by, row_chain, row_entries, row_entry, tokens_by, tree_parts}
use Rattle.cs_chain_text.specs.Entries.Text.{IsEntryOf, as_goal, chain_words, entry_lines}
use Rattle.cs_chain_text.proofs.OnEntries.Counting.{room_within}
use Rattle.cs_chain_text.proofs.OnRows.Around.{yield_around}
use Rattle.cs_manifest.proofs.OnManifest.Zips.{zip_both}

module _ (told : Told) (chain : Chain) (row : Row) (is_chain : IsChain told.of.grammar chain) (h : IsRowOf told chain row) where
  row_verdict : IsVerdictIn told.of chain (row_entry row).verdict
  row_verdict =
      let v = told.of in
      let f = row.frame.now in
      let k = row.core.now in
      let own = subst (IsChain v.grammar) h.chain_is is_chain in
      let derivation = f.frame.before ++ k.core.code ++ f.frame.behind in
      let whole = framed_verdict v (row_chain row) f.frame k.core (h.is.frame.frames k.rule own) h.is.core.core in
      subst (λ (c : Chain). IsVerdictIn v c (row_entry row).verdict) (sym h.chain_is)
      (subst (λ (cost : Cost). IsVerdictIn v (row_chain row) (verdict_by cost derivation)) (sym h.is.cost) whole)

  tokens_are : (cost : Cost) → row.cost ≡ cost
      → AreTokensOf told.of.grammar (as_goal (verdict_by cost (row.frame.now.frame.before ++ row.core.now.core.code ++ row.frame.now.frame.behind)))
      (tokens_by cost (row.frame.now.around.first.items ++ row.core.now.tokens.items ++ row.frame.now.around.last.items))
  tokens_are Never e = refl
  tokens_are Large e = refl
  tokens_are (Least n) e =
      let g = told.of.grammar in
      let f = row.frame.now in
      let k = row.core.now in
      let parts = plus_least told.of.weights.limit f.frame.cost k.core.cost n (sym h.is.cost ∙ e) in
      let inside = subst (λ (l : ℕ). AreTokensIn g l k.core.code k.tokens.items) (h.is.left n e) (h.is.core.inside parts.second parts.is_second) in
      yield_around g f.frame.before k.core.code f.frame.behind f.around.left f.around.first.items k.tokens.items f.around.last.items (h.is.frame.around parts.first parts.is_first) inside

  text_is : (lexemes : Option (List (Option (List ℕ)))) (cost : Cost) (derivation tokens : List ℕ) → IsTextOf None lexemes (as_goal (verdict_by cost derivation)) tokens None
  text_is lexemes Never derivation tokens = refl
  text_is lexemes Large derivation tokens = refl
  text_is lexemes (Least n) derivation tokens = refl

  row_is : (lexemes : Option (List (Option (List ℕ)))) → IsEntryOf told.of None lexemes chain (row_entry row)
  row_is lexemes = record {
    is_of = sym h.chain_is;
    verdict = row_verdict;
    tokens = tokens_are row.cost refl;
    text = text_is lexemes row.cost _ _;
  }

module _ (told : Told) where
  pub rows_are : (lexemes : Option (List (Option (List ℕ)))) (list : List Chain) (rows : List Row) → All (IsChain told.of.grammar) list → AreRowsOf told list rows → AllZip (IsEntryOf told.of None lexemes) list (row_entries rows)
  rows_are lexemes [] [] chains zip = tt
  rows_are lexemes [] (r ∷ rows) chains zip = absurd zip
  rows_are lexemes (c ∷ list) [] chains zip = absurd zip
  rows_are lexemes (c ∷ list) (r ∷ rows) chains zip =
      (row_is told c r (All-head (IsChain told.of.grammar) c list chains) zip.0 lexemes, rows_are lexemes list rows (All-tail (IsChain told.of.grammar) c list chains) zip.1)

  pub rows_fit : (list : List Chain) (rows : List Row) → AreRowsOf told list rows → All (IsRow told) rows
  rows_fit [] [] zip = All-nil (IsRow told)
  rows_fit [] (r ∷ rows) zip = absurd zip
  rows_fit (c ∷ list) [] zip = absurd zip
  rows_fit (c ∷ list) (r ∷ rows) zip = All-cons (IsRow told) r rows zip.0.is (rows_fit list rows zip.1)

  -- ---- lines

  pub head_is : (row : Row) (number : ℕ) → IsRow told row → codes "goal " ++ decimal number ++ row.frame.now.head ++ row.core.now.number ≡ numbered_word (codes "goal ") number ++ chain_words (row_chain row)
  head_is row number h =
      let front = numbered_word (codes "goal ") number in
      let chain = row.frame.now.chain in
      let own = numbered_word (codes " ") row.core.now.rule in
      ap (λ (l : List ℕ). front ++ l ++ row.core.now.number) h.frame.parts.head ∙ ap (λ (l : List ℕ). front ++ head_words chain ++ l) h.core.parts.number
      ∙ append_assoc front (head_words chain) own

  spaced-append : {A : Type 0} (f : A → List ℕ) (xs ys zs : List A) → spaced f (xs ++ ys ++ zs) ≡ spaced f xs ++ spaced f ys ++ spaced f zs
  spaced-append f xs ys zs =
      flat_map-append (λ x. 32 ∷ f x) (xs ++ ys) zs ∙ ap (λ (l : List ℕ). l ++ spaced f zs) (flat_map-append (λ x. 32 ∷ f x) xs ys)

  joined : (size d b k e t first own last : List ℕ) → size ++ (10 ∷ (d ++ b)) ++ k ++ (e ++ (10 ∷ (t ++ first))) ++ own ++ (last ++ 10 ∷ [])
      ≡ (size ++ 10 ∷ []) ++ ((d ++ (b ++ k ++ e)) ++ 10 ∷ []) ++ ((t ++ (first ++ own ++ last)) ++ 10 ∷ [])
  joined size d b k e t first own last = simp append_assoc

  pub tree_is : (row : Row) (size : ℕ) → IsRow told row → tree_parts row size
      ≡ verdict_lines told.file (as_goal (verdict_by (Least size) (row.frame.now.frame.before ++ row.core.now.core.code ++ row.frame.now.frame.behind))) (row.frame.now.around.first.items ++ row.core.now.tokens.items ++ row.frame.now.around.last.items)
  tree_is row size h =
      let f = row.frame.now in
      let k = row.core.now in
      let file = told.file in
      let words = numbered_word (codes " size ") size in
      let before = derive_below f.frame.before in
      let code = spaced decimal k.core.code in
      let middle = spaced decimal f.frame.behind ++ tokens_below file f.around.first.items in
      let names = token_words file k.tokens.items in
      let end = line (token_words file f.around.last.items) in
      ap (λ (l : List ℕ). words ++ l ++ k.code ++ f.middle ++ k.names ++ f.end) h.frame.parts.before
      ∙ ap (λ (l : List ℕ). words ++ before ++ l ++ f.middle ++ k.names ++ f.end) h.core.parts.code
      ∙ ap (λ (l : List ℕ). words ++ before ++ code ++ l ++ k.names ++ f.end) h.frame.parts.middle
      ∙ ap (λ (l : List ℕ). words ++ before ++ code ++ middle ++ l ++ f.end) h.core.parts.names
      ∙ ap (λ (l : List ℕ). words ++ before ++ code ++ middle ++ names ++ l) h.frame.parts.end
      ∙ joined words (codes "  derive") (spaced decimal f.frame.before) code (spaced decimal f.frame.behind) (codes "  tokens") (token_words file f.around.first.items) names (token_words file f.around.last.items)
      ∙ ap (λ (l : List ℕ). line words ++ line (codes "  derive" ++ l) ++ line (codes "  tokens" ++ (token_words file f.around.first.items ++ names ++ token_words file f.around.last.items)))
      (sym (spaced-append decimal f.frame.before k.core.code f.frame.behind))
      ∙ ap (λ (l : List ℕ). line words ++ line (codes "  derive" ++ spaced decimal (f.frame.before ++ k.core.code ++ f.frame.behind)) ++ line (codes "  tokens" ++ l))
      (sym (spaced-append (token_of file) f.around.first.items k.tokens.items f.around.last.items))

  -- the words of a row, and what stands below them
  pub row_told : (row : Row) (number : ℕ) (cost : Cost) (below : List ℕ) → row.cost ≡ cost
      → below ≡ verdict_lines told.file (as_goal (verdict_by cost (row.frame.now.frame.before ++ row.core.now.core.code ++ row.frame.now.frame.behind))) (tokens_by cost (row.frame.now.around.first.items ++ row.core.now.tokens.items ++ row.frame.now.around.last.items))
      → numbered_word (codes "goal ") number ++ chain_words (row_chain row) ++ below ≡ entry_lines told.file number (row_entry row)
  row_told row number cost below e is =
      let words = numbered_word (codes "goal ") number ++ chain_words (row_chain row) in
      ap (λ (l : List ℕ). words ++ l) is ∙ sym (append-nil _) ∙ ap (λ (c : Cost). entry_lines told.file number (entry_by row.frame.now row.core.now c)) (sym e)

-- ---- counting

pub counts_same : (t : Tally) (cost : Cost) (derivation : List ℕ) → with_verdict t (verdict_by cost []) ≡ with_verdict t (verdict_by cost derivation)
counts_same t Never derivation = refl
counts_same t Large derivation = refl
counts_same t (Least n) derivation = refl

pub counts_one : (t : Tally) (cost : Cost) → (with_verdict t (verdict_by cost [])).goals ≡ t.goals + 1
counts_one t Never = refl
counts_one t Large = refl
counts_one t (Least n) = refl

pub entry_at : (rows : List Row) (i : ℕ) (row : Row) → i < length rows → row ≡ get_or rows i row → row_entry row ≡ get_or (row_entries rows) i (row_entry row)
entry_at rows i row within is = ap row_entry is ∙ sym (get_or-map row_entry rows i row (row_entry row) within)

pub within : (rows : List Row) (i : ℕ) → i < length rows → i < length (row_entries rows)
within rows i h = subst (λ (n : ℕ). i < n) (sym (length-map rows row_entry)) h

pub room : (rows : List Row) (i : ℕ) (a b : Tally) → i < length rows → CanCount a (length rows) → IsCounted (take i (row_entries rows)) a b → HasRoom b
room rows i a b h can counted = room_within (row_entries rows) i a b (within rows i h) (subst (λ (n : ℕ). CanCount a n) (sym (length-map rows row_entry)) can) counted

-- one row more
pub rows_more : (told : Told) (chains : List Chain) (i : ℕ) (d : Chain) (rows new : List Row) (row : Row) → i < length chains → AreRowsOf told (take i chains) rows → IsRowOf told (get_or chains i d) row → new ≡ rows ++ row ∷ []
    → AreRowsOf told (take (i + 1) chains) new
rows_more told chains i d rows new row within so_far one pushed =
    let both = zip_both (IsRowOf told) (take i chains) (get_or chains i d ∷ []) rows (row ∷ []) so_far (one, tt) in
    subst (λ (l : List Chain). AreRowsOf told l new) (sym (take_more chains i d within)) (subst (λ (l : List Row). AreRowsOf told (take i chains ++ get_or chains i d ∷ []) l) (sym pushed) both)
