-- Accepted bytes mean one file, refused bytes are refused with one error, and nothing is both accepted and refused.
use Rattle.std.proofs.Common.{◌≡◌, ℕ, List, drop, length, refl, sym, ap, subst, ◌∙◌, ◌⊎◌, inl, inr}
use Rattle.std.specs.Prelude.{Result, Ok, Err}
use Rattle.cs_yacc.specs.declared.reading.error.YaccError.{YaccError}
use Rattle.cs_yacc.specs.declared.reading.error.YaccError.TheVariants.{BadItem, Unended, UnknownDirective, Syntax, SecondStart, TokenOnLeft, Undefined, StartNotNonterminal, Limit, Memory}
use Rattle.cs_yacc.specs.Items.Items.{Placed, items_of, BeginsUnknown, BeginsNeither, IsOpen}
use Rattle.cs_yacc.specs.Reading.File.{File}
use Rattle.cs_yacc.specs.Items.Table.{IsTaken, IsStuck}
use Rattle.cs_yacc.specs.Reading.Meaning.{outcome}
use Rattle.cs_yacc.specs.Reading.Reading.{Gives, IsYaccFile, Refuses, IsStuckThere}
use Rattle.cs_yacc.proofs.OnItems.Begin.{open_not_unknown}
use Rattle.cs_yacc.specs.Items.Stops.{StopsThere}
use Rattle.cs_yacc.proofs.OnItems.Reading.{one_reading, one_stop, stopped_not_read}
use Rattle.cs_yacc.proofs.OnItems.Stuck.{one_stuck, stuck_not_taken}

one_given : (bytes : List ℕ) (a b : Result File YaccError) → Gives bytes a → Gives bytes b → a ≡ b
one_given bytes a b g h = sym g.is ∙ ap outcome (one_reading bytes g.items h.items g.read h.read) ∙ h.is

-- accepted bytes mean one file
pub one_file : (bytes : List ℕ) (f g : File) → IsYaccFile bytes f → IsYaccFile bytes g → f ≡ g
unfolding IsYaccFile
one_file bytes f g a b = let e = one_given bytes (Ok f) (Ok g) a b in cc

-- ---- the ways in which bytes are refused

-- how reading of items stops at the offset with the error
abbrev StopsAs : YaccError → ℕ → List ℕ → Type 0
StopsAs (BadItem a) at text = (a ≡ at) × BeginsNeither text
StopsAs (Unended a) at text = (a ≡ at) × IsOpen text
StopsAs (UnknownDirective a) at text = (a ≡ at) × BeginsUnknown text
StopsAs e at text = ⊥

abbrev IsStopped : YaccError → List ℕ → Type 0
IsStopped e bytes = (at : ℕ) × StopsThere bytes at × StopsAs e at (drop at bytes)

abbrev IsStuckAs : YaccError → List ℕ → Type 0
IsStuckAs e bytes = (at : ℕ) × IsStuckThere bytes at × (e ≡ Syntax at)

way : (bytes : List ℕ) (e : YaccError) → Refuses e bytes → IsStopped e bytes ⊎ (IsStuckAs e bytes ⊎ Gives bytes (Err e))
unfolding Refuses
way bytes (BadItem at) r = inl (at, r.0, (refl, r.1))
way bytes (Unended at) r = inl (at, r.0, (refl, r.1))
way bytes (UnknownDirective at) r = inl (at, r.0, (refl, r.1))
way bytes (Syntax at) r = inr (inl (at, r, refl))
way bytes (SecondStart at) r = inr (inr r)
way bytes (TokenOnLeft at) r = inr (inr r)
way bytes (Undefined at) r = inr (inr r)
way bytes (StartNotNonterminal at) r = inr (inr r)
way bytes (Limit which found most) r = inr (inr r)
way bytes Memory r = absurd r

same_stop : (e f : YaccError) (at : ℕ) (text : List ℕ) → StopsAs e at text → StopsAs f at text → e ≡ f
same_stop (BadItem a) (BadItem b) at text p q = ap BadItem (p.0 ∙ sym q.0)
same_stop (BadItem a) (Unended b) at text p q = absurd (p.1.0 q.1)
same_stop (BadItem a) (UnknownDirective b) at text p q = absurd (p.1.1 q.1)
same_stop (BadItem a) f at text p q = absurd q
same_stop (Unended a) (BadItem b) at text p q = absurd (q.1.0 p.1)
same_stop (Unended a) (Unended b) at text p q = ap Unended (p.0 ∙ sym q.0)
same_stop (Unended a) (UnknownDirective b) at text p q = absurd (open_not_unknown text p.1 q.1)
same_stop (Unended a) f at text p q = absurd q
same_stop (UnknownDirective a) (BadItem b) at text p q = absurd (q.1.1 p.1)
same_stop (UnknownDirective a) (Unended b) at text p q = absurd (open_not_unknown text q.1 p.1)
same_stop (UnknownDirective a) (UnknownDirective b) at text p q = ap UnknownDirective (p.0 ∙ sym q.0)
same_stop (UnknownDirective a) f at text p q = absurd q
same_stop e f at text p q = absurd p

stuck_not_given : (bytes : List ℕ) (at : ℕ) (g : Result File YaccError) → IsStuckThere bytes at → Gives bytes g → ⊥
stuck_not_given bytes at g s h = stuck_not_taken (length bytes) s.0 at s.2 (subst (λ (ps : List Placed). IsTaken (items_of ps)) (one_reading bytes h.items s.0 h.read s.1) h.taken)

same_stuck : (bytes : List ℕ) (a b : ℕ) → IsStuckThere bytes a → IsStuckThere bytes b → a ≡ b
same_stuck bytes a b s t = one_stuck (length bytes) s.0 a b s.2 (subst (λ (ps : List Placed). IsStuck (length bytes) ps b) (one_reading bytes t.0 s.0 t.1 s.1) t.2)

same_error : (bytes : List ℕ) (e f : YaccError) → Gives bytes (Err e) → Gives bytes (Err f) → e ≡ f
same_error bytes e f r s = let same = one_given bytes (Err e) (Err f) r s in cc

one_way : (bytes : List ℕ) (e f : YaccError) → IsStopped e bytes ⊎ (IsStuckAs e bytes ⊎ Gives bytes (Err e)) → IsStopped f bytes ⊎ (IsStuckAs f bytes ⊎ Gives bytes (Err f)) → e ≡ f
one_way bytes e f (inl r) (inl s) = let at : s.0 ≡ r.0 = one_stop bytes s.1.0 r.1.0 s.0 r.0 s.1.1 r.1.1 in same_stop e f r.0 (drop r.0 bytes) r.2 (subst (λ (k : ℕ). StopsAs f k (drop k bytes)) at s.2)
one_way bytes e f (inl r) (inr (inl s)) = absurd (stopped_not_read bytes r.1.0 s.1.0 r.0 r.1.1 s.1.1)
one_way bytes e f (inl r) (inr (inr s)) = absurd (stopped_not_read bytes r.1.0 s.items r.0 r.1.1 s.read)
one_way bytes e f (inr (inl r)) (inl s) = absurd (stopped_not_read bytes s.1.0 r.1.0 s.0 s.1.1 r.1.1)
one_way bytes e f (inr (inl r)) (inr (inl s)) = r.2 ∙ ap Syntax (same_stuck bytes r.0 s.0 r.1 s.1) ∙ sym s.2
one_way bytes e f (inr (inl r)) (inr (inr s)) = absurd (stuck_not_given bytes r.0 (Err f) r.1 s)
one_way bytes e f (inr (inr r)) (inl s) = absurd (stopped_not_read bytes s.1.0 r.items s.0 s.1.1 r.read)
one_way bytes e f (inr (inr r)) (inr (inl s)) = absurd (stuck_not_given bytes s.0 (Err e) s.1 r)
one_way bytes e f (inr (inr r)) (inr (inr s)) = same_error bytes e f r s

-- no bytes are refused with two errors
pub one_refusal : (bytes : List ℕ) (e f : YaccError) → Refuses e bytes → Refuses f bytes → e ≡ f
one_refusal bytes e f r s = one_way bytes e f (way bytes e r) (way bytes f s)

not_both : (bytes : List ℕ) (file : File) (e : YaccError) → IsStopped e bytes ⊎ (IsStuckAs e bytes ⊎ Gives bytes (Err e)) → Gives bytes (Ok file) → ⊥
not_both bytes file e (inl r) a = stopped_not_read bytes r.1.0 a.items r.0 r.1.1 a.read
not_both bytes file e (inr (inl r)) a = stuck_not_given bytes r.0 (Ok file) r.1 a
not_both bytes file e (inr (inr r)) a = let g = one_given bytes (Ok file) (Err e) a r in cc

-- no bytes are both accepted and refused
pub refused_is_not_accepted : (bytes : List ℕ) (f : File) (e : YaccError) → Refuses e bytes → IsYaccFile bytes f → ⊥
unfolding IsYaccFile
refused_is_not_accepted bytes f e r a = not_both bytes f e (way bytes e r) a
