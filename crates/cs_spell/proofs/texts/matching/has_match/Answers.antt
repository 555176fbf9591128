-- Each match of the scan is looked at in turn, up to the first that is the piece by the rule.
use Rattle.std.proofs.Common.{◌≡◌, true, false, refl, arith, length-drop}
use Rattle.cs_scanner.specs.Scan.Compared.{scanning}
use Rattle.cs_spell.proofs.OnTexts.Matching.{search_ends, search_found, search_next, search_none, search_starts}
use Rattle.cs_spell.proofs.texts.matching.has_match.Goals as goal

pub matches-init : goal.matches-init
matches-init c = record { within = omega arith; left = search_starts (scanning c.args.scanner.now) c.args.rule c.args.piece.now c.args.text.now }

pub is_piece-same-requires : goal.is_piece-same-requires
is_piece-same-requires c = let w = c.in-Some.ensures.answer.within in omega (arith, w, length-drop c.matches.at c.args.text.now)

pub returns-in_default : goal.returns-in_default
returns-in_default c tokens scans =
    absurd (search_none (scanning c.args.scanner.now) c.args.rule c.args.piece.now c.args.text.now c.matches.at c.matches-test.true c.matches.invariant.left c.in_default.ensures.answer tokens scans)

pub returns-then-is_by : goal.returns-then-is_by
returns-then-is_by c tokens scans =
    let both = c.if-is_by.ensures.0 refl in
    (λ yes. search_found (scanning c.args.scanner.now) c.args.rule c.args.piece.now c.args.text.now c.matches.at c.in-Some.found c.in-Some.size c.matches.invariant.left c.in-Some.ensures.answer both.0 (c.is_piece-same.ensures.0 both.1) tokens scans, λ h. refl)

pub matches-preserved : goal.matches-preserved
matches-preserved c = record {
  within = let w = c.in-Some.ensures.answer.within in omega (arith, w, length-drop c.matches.at c.args.text.now);
  left = search_next (scanning c.args.scanner.now) c.args.rule c.args.piece.now c.args.text.now c.matches.at c.in-Some.found c.in-Some.size c.matches-test.true c.matches.invariant.left c.in-Some.ensures.answer
      (λ is. let yes : false ≡ true = c.if-is_by.ensures.1 (is.0, c.is_piece-same.ensures.1 is.1) in cc);
}

pub returns : goal.returns
returns c tokens scans = (λ no. absurd (cc), λ h. absurd (search_ends (scanning c.args.scanner.now) c.args.rule c.args.piece.now c.args.text.now c.matches.at (omega arith) c.matches.invariant.left tokens scans h))
