-- The tokens that are held are those of which the text line tells.
use Rattle.std.proofs.Common.{◌≡◌, ℕ, List, ◌∙◌, subst, ◌↔◌}
use Rattle.std.specs.Prelude.{IfOk, IsTrue}
use Rattle.std.proofs.lemmas.Result.{IfOk-weaker}
use Rattle.cs_scanner.specs.Scan.Compared.{scanning}
use Rattle.cs_scanner.specs.Scan.Scan.{Scans}
use Rattle.cs_lines.specs.Lines.Line.{TextLine}
use Rattle.cs_check.specs.Passing.Places.{last_part}
use Rattle.cs_check.specs.Passing.Faults.{HasScan}
use Rattle.cs_check.specs.Checking.Told.{checked_by}
use Rattle.cs_check.proofs.OnChecking.Told.{told_then}
use Rattle.cs_check.proofs.OnChecking.Deriving.{scan_told}
use Rattle.cs_check.proofs.checking.entries.Entries.scans.Goals as goal

pub returns : goal.returns
returns c = λ file lines text t follows is low.
    let by = scanning c.args.scanner.now in
    let tokens = c.args.self.now.tokens.items in
    let told = told_then file lines tokens (last_part lines) follows t.told in
    let bytes : c.deref.result.now ≡ text = c.deref.ensures.value ∙ c.in_ok-bytes.ensures text is in
    let scans = subst (λ (b : List ℕ). IfOk c.scans_to.result (λ so. IsTrue so ↔ Scans by b tokens)) bytes
    (subst (λ (l : List ℕ). IfOk c.scans_to.result (λ so. IsTrue so ↔ Scans by c.deref.result.now l)) c.deref-2.ensures.value c.scans_to.ensures) in
    IfOk-weaker c.scans_to.result (λ so. IsTrue so ↔ Scans by text tokens) (λ so. IsTrue so ↔ HasScan (checked_by file by) lines (TextLine text))
    (λ so h. scan_told (checked_by file by) (c.one_tree.ensures file.grammar) lines text tokens told so h)
    scans
