-- Sizes by the measure of a suite and by that of its lines are the same.
use Rattle.std.proofs.Common.{◌≡◌, ℕ, ◌+◌, ◌-◌, ◌≤◌, List, [], ◌∷◌, Option, None, Some, length, replicate, refl, sym, ap, ◌∙◌, arith}
use Rattle.std.specs.Prelude.{All, option_map, slice_index_or}
use Rattle.std.proofs.lemmas.List.Elements.{All-replicate, All-nil, All-cons}
use Rattle.cs_grammar.specs.Grammar.{IsNumberOf}
use Rattle.cs_grammar.specs.Tree.{Tree, Leaf, Node, Forest, Bare, Grown, size, sizes}
use Rattle.cs_grammar.specs.Weights.{Measure, IsMeasure, byte_weight}
use Rattle.cs_choices.specs.declared.weigh.Weigh.{Weigh}
use Rattle.cs_choices.specs.declared.weigh.Weigh.TheVariants.{Nodes, Bytes}
use Rattle.cs_manifest.specs.Manifest.Manifest.{LexemeList, byte_measure, measure_of}
use Rattle.cs_check.specs.Passing.Entries.{measured}

module _ (w v : Measure) (same : w.numbers ≡ v.numbers) where
  mutual
    pub same_size : (t : Tree) → size w t ≡ size v t
    same_size (Leaf t) = ap (λ (l : List ℕ). slice_index_or l (t - 1) 1) same
    same_size (Node r children) = ap (λ n. 1 + n) (same_sizes children)

    pub same_sizes : (f : Forest) → sizes w f ≡ sizes v f
    same_sizes Bare = refl
    same_sizes (Grown t f) = ap (λ n. n + sizes w f) (same_size t) ∙ ap (λ n. size v t + n) (same_sizes f)

pub same_numbers : (weigh : Weigh) (tokens : ℕ) (lexemes : LexemeList) → length lexemes ≡ tokens → (measure_of weigh tokens (Some lexemes)).numbers ≡ (measured weigh lexemes).numbers
same_numbers Nodes tokens lexemes many = ap (λ n. replicate n 1) (sym many)
same_numbers Bytes tokens lexemes many = refl

one_byte : (length : Option ℕ) → IsNumberOf 1000000 (byte_weight length)
one_byte None = (omega arith, omega arith)
one_byte (Some bytes) = (omega arith, omega arith)

pub is_measure : (weigh : Weigh) (tokens : ℕ) (lexemes : LexemeList) → IsMeasure (measure_of weigh tokens (Some lexemes))
is_measure Nodes tokens lexemes = record {
  numbers = All-replicate (IsNumberOf 1000000) tokens 1 (omega arith, omega arith);
  limit = (omega arith, omega arith);
}
is_measure Bytes tokens lexemes = record {
  numbers = bytes lexemes;
  limit = (omega arith, omega arith);
}
  where
    bytes : (list : LexemeList) → All (IsNumberOf 1000000) (byte_measure list).numbers
    bytes [] = All-nil (IsNumberOf 1000000)
    bytes (text ∷ list) = All-cons (IsNumberOf 1000000) (byte_weight (option_map length text)) (byte_measure list).numbers (one_byte (option_map length text)) (bytes list)

pub few_limit : (weigh : Weigh) (tokens : ℕ) (lexemes : LexemeList) → (measure_of weigh tokens (Some lexemes)).limit ≤ 1000000
few_limit weigh tokens lexemes = (is_measure weigh tokens lexemes).limit.1
