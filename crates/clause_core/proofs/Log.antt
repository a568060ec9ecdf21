-- One more line after a log, and a lawful log as a certificate.
use Rattle.std.specs.Prelude.{List, [], ◌∷◌, ◌++◌}
use Rattle.std.specs.List.{fold}
use Rattle.std.proofs.Common.{refl, ap, subst, ◌∙◌, ⊎_elim, append_assoc}
use Rattle.clause_core.specs.Clause.{Clause}
use Rattle.clause_core.specs.UnitPropagation.{IsRup}
use Rattle.clause_core.specs.ClauseLines.{ClauseLine, AreLawfulClauses}
use Rattle.clause_core.specs.declared.line.Line.TheVariants.{Add, Delete}
use Rattle.clause_core.specs.Log.{IsLogLine, AreLogLines, Spacing, spacing_after, IsSpacedLine, AreRunsSpaced, LogIsCertificate}

-- one more line after some lines
pub one_more : (given goals own : List Clause) (lines : List ClauseLine) (left next : List Clause) (x : ClauseLine) → AreLogLines given goals own lines left → IsLogLine given goals left x next → AreLogLines given goals own (lines ++ x ∷ []) next
one_more given goals own [] left next x h i = (next, subst (λ z. IsLogLine given goals z x next) h i, refl)
one_more given goals own (y ∷ lines) left next x h i = (h.0, h.1, one_more given goals h.0 lines left next x h.2 i)

pub one_spaced : (s : Spacing) (lines : List ClauseLine) (x : ClauseLine) → AreRunsSpaced s lines → IsSpacedLine (fold spacing_after s lines) x → AreRunsSpaced s (lines ++ x ∷ [])
one_spaced s [] x h i = (i, tt)
one_spaced s (y ∷ lines) x h i = (h.0, one_spaced (spacing_after s y) lines x h.1 i)

-- ---- soundness

rup_of : (given goals own : List Clause) (c : Clause) (next : List Clause) → IsLogLine given goals own (Add c) next → IsRup (own ++ given) c
rup_of given goals own c next h = ⊎_elim (λ l. l.rup) (λ g. g.1) h.0

-- ---- certificates

log_lawful : (given goals own : List Clause) (lines : List ClauseLine) (left : List Clause) → AreLogLines given goals own lines left → AreLawfulClauses (own ++ given) lines
log_lawful given goals own [] left h = tt
log_lawful given goals own (Add c ∷ lines) left h = (rup_of given goals own c h.0 h.1, subst (λ z. AreLawfulClauses (z ++ given) lines) h.1.1 (log_lawful given goals h.0 lines left h.2))
log_lawful given goals own (Delete c ∷ lines) left h =
    let r = h.1 in
    (h.0 ++ given, (r.0, r.1 ++ given, r.2, r.3, ap (λ z. z ++ given) r.4 ∙ append_assoc r.0 (r.2 ∷ r.1) given, ap (λ z. z ++ given) r.5 ∙ append_assoc r.0 r.1 given), log_lawful given goals h.0 lines left h.2)

pub log_is_certificate : LogIsCertificate
log_is_certificate given goals lines left h = log_lawful given goals [] lines left h.lines_lawful
