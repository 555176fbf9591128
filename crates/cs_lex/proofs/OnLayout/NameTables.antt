-- Names in tables.
use denote.Ref.{Bor}
use Rattle.std.proofs.Common.{◌≡◌, ℕ, List, [], ◌∷◌, refl}
use Rattle.std.specs.List.{list_any}
use Rattle.std.specs.Str.{bytes_eq}
use Rattle.cs_lex.specs.Layout.Layout.{has_name}
use Rattle.cs_lex.specs.Layout.Names.{texts_of}

pub has_is : (name : List ℕ) (ks : List (Bor (List ℕ))) → list_any (λ k. bytes_eq name k.now) ks ≡ has_name (texts_of ks) name
has_is name [] = refl
has_is name (k ∷ ks) = rw (has_is name ks) refl
