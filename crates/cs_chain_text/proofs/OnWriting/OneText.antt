-- A file has at most one text of its chains, where the lexemes and the rendering of tokens are one.
use Rattle.std.proofs.Common.{◌≡◌, ℕ, List, sym, ap, ◌∙◌, subst, Ok, Option}
use Rattle.std.specs.List.{AllZip}
use Rattle.cs_grammar.specs.Weights.{Weighed}
use Rattle.cs_grammar.proofs.OneOutcome.{one_outcome}
use Rattle.cs_choices.specs.declared.weigh.Weigh.{Weigh}
use Rattle.cs_verdicts.specs.declared.positive.verdict.Verdict.{Verdict}
use Rattle.cs_verdicts.specs.declared.positive.verdict.Verdict.TheVariants.{Feasible, Infeasible, Large}
use Rattle.cs_texts.specs.Rendering.Rendering.{Rendering}
use Rattle.cs_yacc.specs.Reading.File.{File}
use Rattle.cs_manifest.specs.Manifest.Manifest.{AreTokensOf, HasOneText, IsTextOf, Texts}
use Rattle.cs_manifest.proofs.OnManifest.OneManifest.{one_zip}
use Rattle.cs_chain.specs.declared.chains.chain.Chain.{Chain}
use Rattle.cs_chain.specs.declared.judging.verdict.ChainVerdict.{ChainVerdict}
use Rattle.cs_chain.specs.Chains.Chains.{chains}
use Rattle.cs_chain.proofs.OnJudging.Verdicts.{one_verdict}
use Rattle.cs_chain_text.specs.Entries.Text.{ChainEntry, IsChainsText, IsEntryOf, as_goal, chains_lines, weighed_by}

module _ (texts : Option Texts) (one : HasOneText texts) (lexemes : Option (List (Option (List ℕ)))) (of : Weighed) where
  one_list_of_tokens : (verdict : Verdict) (a b : List ℕ) → AreTokensOf of.grammar verdict a → AreTokensOf of.grammar verdict b → a ≡ b
  one_list_of_tokens (Feasible n derivation) a b ha hb = let e = one_outcome of.grammar derivation (Ok a) (Ok b) ha hb in cc
  one_list_of_tokens Infeasible a b ha hb = ha ∙ sym hb
  one_list_of_tokens Large a b ha hb = ha ∙ sym hb

  one_rendered : (verdict : Verdict) (tokens : List ℕ) (a b : Option Rendering) → IsTextOf texts lexemes verdict tokens a → IsTextOf texts lexemes verdict tokens b → a ≡ b
  one_rendered (Feasible n derivation) tokens a b ha hb = one.rendered lexemes tokens a b ha hb
  one_rendered Infeasible tokens a b ha hb = ha ∙ sym hb
  one_rendered Large tokens a b ha hb = ha ∙ sym hb

  -- a chain has one entry
  pub one_entry : (chain : Chain) (a b : ChainEntry) → IsEntryOf of texts lexemes chain a → IsEntryOf of texts lexemes chain b → a ≡ b
  one_entry chain a b ha hb =
      let chained : a.chain ≡ b.chain = ha.is_of ∙ sym hb.is_of in
      let verdicts : a.verdict ≡ b.verdict = one_verdict of.weights of.grammar chain a.verdict b.verdict ha.verdict hb.verdict in
      let moved = subst (λ (v : ChainVerdict). AreTokensOf of.grammar (as_goal v) b.tokens) (sym verdicts) hb.tokens in
      let tokens : a.tokens ≡ b.tokens = one_list_of_tokens (as_goal a.verdict) a.tokens b.tokens ha.tokens moved in
      let moved_text = subst (λ (v : ChainVerdict). IsTextOf texts lexemes (as_goal v) b.tokens b.rendered) (sym verdicts) hb.text in
      let moved_twice = subst (λ (ts : List ℕ). IsTextOf texts lexemes (as_goal a.verdict) ts b.rendered) (sym tokens) moved_text in
      let rendered : a.rendered ≡ b.rendered = one_rendered (as_goal a.verdict) a.tokens a.rendered b.rendered ha.text moved_twice in
      ap (λ (x : Chain). record { chain = x; verdict = a.verdict; tokens = a.tokens; rendered = a.rendered }) chained
      ∙ ap (λ (v : ChainVerdict). record { chain = b.chain; verdict = v; tokens = a.tokens; rendered = a.rendered }) verdicts
      ∙ ap (λ (ts : List ℕ). record { chain = b.chain; verdict = b.verdict; tokens = ts; rendered = a.rendered }) tokens
      ∙ ap (λ (r : Option Rendering). record { chain = b.chain; verdict = b.verdict; tokens = b.tokens; rendered = r }) rendered

  -- and a list of chains one list of entries
  pub one_list : (list : List Chain) (a b : List ChainEntry) → AllZip (IsEntryOf of texts lexemes) list a → AllZip (IsEntryOf of texts lexemes) list b → a ≡ b
  one_list list a b ha hb = one_zip one_entry list a b ha hb

pub one_text_of : ((texts : Option Texts) → HasOneText texts) → (file : File) (texts : Option Texts) (weigh : Weigh) (text other : List ℕ) → IsChainsText file texts weigh text → IsChainsText file texts weigh other → text ≡ other
one_text_of one file texts weigh text other a b =
    let lexemes : a.lexemes ≡ b.lexemes = (one texts).lexemes file.grammar.tokens a.lexemes b.lexemes a.are_lexemes b.are_lexemes in
    let verdicts = subst (λ (l : Option (List (Option (List ℕ)))). AllZip (IsEntryOf (weighed_by weigh file l) texts l) (chains file.grammar) b.entries) (sym lexemes) b.verdicts in
    let entries : a.entries ≡ b.entries = one_list texts (one texts) a.lexemes (weighed_by weigh file a.lexemes) (chains file.grammar) a.entries b.entries a.verdicts verdicts in
    a.lines ∙ ap (λ (l : Option (List (Option (List ℕ)))). chains_lines file l a.entries) lexemes ∙ ap (λ (es : List ChainEntry). chains_lines file b.lexemes es) entries ∙ sym b.lines
