-- The words that the scan gives for the part are the words that it has.
use Rattle.std.proofs.Common.{◌≡◌, ℕ, List, take, drop, sym, subst, ◌∙◌}
use Rattle.cs_ctext.specs.Words.{HasWords}
use Rattle.cs_ctext.specs.Scans.{words_of}
use Rattle.cs_ctext.proofs.WordLists.{HasWords-words_of}
use Rattle.cs_ctext.proofs.word_iter.words.Goals as goal

pub returns : goal.returns
returns c =
    let same : c.new.result ≡ take c.args.to c.args.bytes.now = c.new.ensures ∙ c.to_offset.ensures in
    subst (λ (t : List ℕ). HasWords c.args.from (drop c.args.from (take c.args.to c.args.bytes.now)) (words_of c.args.from (drop c.args.from t))) (sym same)
    (HasWords-words_of c.args.from _)
