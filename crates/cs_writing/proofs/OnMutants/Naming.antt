-- The negatives of a base, and what comes of the rendering of their edited lists, have names for their tokens.
use Rattle.std.proofs.Common.{◌≡◌, ℕ, ◌+◌, List, [], ◌∷◌, ◌++◌, length, map, sym, subst, Option}
use Rattle.std.specs.Prelude.{All, Some, slice_get}
use Rattle.std.proofs.lemmas.List.Elements.{All-nil, All-cons, All-append, All-head, All-tail, All-map}
use Rattle.std.proofs.lemmas.Option.{get_or_from_slice_get, slice_get_within}
use Rattle.cs_grammar.specs.Grammar.{IsNumberOf, PlainGrammar}
use Rattle.cs_grammar.specs.Sentence.{framed}
use Rattle.cs_grammar.specs.declared.symbol.Mark.TheVariants.{Begin, Token, End}
use Rattle.cs_manifest.specs.Output.Names.{AreNamedTokens, IsNamedMark, IsNamedToken}
use Rattle.cs_manifest.specs.Manifest.Named.{IsNamedEdit, IsNamedNegative, IsNamedRendering}
use Rattle.cs_mutate.specs.Edit.{Fits, HasToken, edited}
use Rattle.cs_mutate.specs.Negatives.{IsNegative}
use Rattle.cs_mutate.specs.declared.edit.Edit.{Edit}
use Rattle.cs_mutate.specs.declared.edit.Edit.TheVariants.{Delete, Insert, Replace, Swap}
use Rattle.cs_mutate.specs.declared.negative.Negative.{Negative}
use Rattle.cs_mutate.proofs.Searching.{edited_tokens}
use Rattle.cs_texts.specs.Rendering.Rendering.{Rendering, Text, NoLexeme, Differs, IsRendered}
use Rattle.cs_scanner.specs.Scan.Scan.{Scanning}
use Rattle.cs_yacc.specs.Reading.File.{File}

All-there : {A : Type 0} (P : A → Type 0) (xs : List A) (y : A) (ys : List A) → All P (xs ++ y ∷ ys) → P y
All-there P [] y ys h = All-head P y ys h
All-there P (x ∷ xs) y ys h = All-there P xs y ys (All-tail P x (xs ++ y ∷ ys) h)

All-slice_get : {A : Type 0} (P : A → Type 0) (xs : List A) (k : ℕ) (x : A) → All P xs → slice_get xs k ≡ Some x → P x
All-slice_get P xs k x h e = subst P (get_or_from_slice_get xs k x x e) (h k x (slice_get_within xs k x e))

module _ (file : File) where
  named_edit : (e : Edit) → HasToken (length file.token_names) e → IsNamedEdit file e
  named_edit (Delete i) h = tt
  named_edit (Insert i t) h = h
  named_edit (Replace i t) h = h
  named_edit (Swap i) h = tt

  named_frame : (list : List ℕ) → AreNamedTokens file list → All (IsNamedMark file) (framed list)
  named_frame list h =
      All-cons (IsNamedMark file) Begin (map Token list ++ End ∷ []) tt
      (All-append (IsNamedMark file) (map Token list) (End ∷ []) (All-map (IsNamedMark file) Token list h)
      (All-cons (IsNamedMark file) End [] tt (All-nil (IsNamedMark file))))

  -- a negative of a base
  module _ (g : PlainGrammar) (base : List ℕ) (names : length file.token_names ≡ g.tokens) (tokens : All (IsNumberOf g.tokens) base) where
    pub named_negative : (n : Negative) → Fits (length base) g.tokens n.edit → IsNegative g base n → IsNamedNegative file n
    named_negative n fits is =
        let list = edited base n.edit in
        let named : AreNamedTokens file list = subst (λ (k : ℕ). All (IsNumberOf k) list) (sym names) (edited_tokens g.tokens base tokens n.edit fits) in
        let marks = named_frame list named in
        record {
          edit = named_edit n.edit (subst (λ (k : ℕ). HasToken k n.edit) (sym names) fits.1);
          left = All-slice_get (IsNamedMark file) (framed list) n.at n.left marks is.pair.left;
          right = All-slice_get (IsNamedMark file) (framed list) (n.at + 1) n.right marks is.pair.right;
        }

  -- what comes of the rendering of tokens with names
  pub named_rendering : (s : Scanning) (lexemes : List (Option (List ℕ))) (separator tokens : List ℕ) (r : Rendering) → AreNamedTokens file tokens → IsRendered s lexemes separator tokens r → IsNamedRendering file r
  named_rendering s lexemes separator tokens (Text text) named h = tt
  named_rendering s lexemes separator tokens (NoLexeme token) named h =
      All-there (IsNamedToken file) h.front token h.behind (subst (AreNamedTokens file) h.list named)
  named_rendering s lexemes separator tokens (Differs after) named h = tt
