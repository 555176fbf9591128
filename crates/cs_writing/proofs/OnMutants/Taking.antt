-- A base and its edited lists can be rendered.
use Rattle.std.proofs.Common.{ℕ, ◌+◌, ◌≤◌, List, [], ◌∷◌, length, sym, subst, get_or, arith}
use Rattle.std.specs.Prelude.{All}
use Rattle.cs_grammar.specs.Grammar.{IsNumberOf}
use Rattle.cs_mutate.specs.Edit.{Fits, IsPlaced, edited}
use Rattle.cs_mutate.specs.declared.edit.Edit.{Edit}
use Rattle.cs_mutate.specs.declared.edit.Edit.TheVariants.{Delete, Insert, Replace, Swap}
use Rattle.cs_mutate.proofs.Patches.{length-patched}
use Rattle.cs_mutate.proofs.Searching.{edited_tokens}
use Rattle.cs_texts.specs.Work.Renders.{TakesTokens}
use Rattle.cs_texts.specs.declared.rendering.render_work.RenderWork.{RenderWork}
use Rattle.cs_writing.specs.Mutants.Makers.{CanRender}

-- an edit adds one token at most
length-edited : (w : List ℕ) (e : Edit) → IsPlaced (length w) e → length (edited w e) ≤ length w + 1
length-edited w (Delete i) within = omega (arith, within, length-patched w i [] 1 (omega arith))
length-edited w (Insert i t) within = omega (arith, within, length-patched w i (t ∷ []) 0 within)
length-edited w (Replace i t) within = omega (arith, within, length-patched w i (t ∷ []) 1 (omega arith))
length-edited w (Swap i) within = omega (arith, within, length-patched w i (get_or w (i + 1) 0 ∷ get_or w i 0 ∷ []) 2 (omega arith))

module _ (work : RenderWork) (most : ℕ) (base : List ℕ) (can : CanRender work most) (short : length base ≤ 1000000) (tokens : All (IsNumberOf most) base) where
  takes_list : (list : List ℕ) → All (IsNumberOf most) list → length list ≤ 1000001 → TakesTokens work list
  takes_list list all few = record {
    tokens_of = subst (λ (m : ℕ). All (IsNumberOf m) list) (sym can) all;
    few = few;
  }

  -- the base
  pub takes_base : TakesTokens work base
  takes_base = takes_list base tokens (omega (arith, short))

  -- an edited list
  pub takes_edited : (e : Edit) → Fits (length base) most e → TakesTokens work (edited base e)
  takes_edited e fits = takes_list (edited base e) (edited_tokens most base tokens e fits) (omega (arith, short, length-edited base e fits.0))
