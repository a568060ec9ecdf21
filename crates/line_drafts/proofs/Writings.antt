-- Lines that are written, and what is known then.
use Rattle.std.specs.Prelude.{◌≡◌, ◌≢◌, ℕ, ◌+◌, ◌≤◌, List, IfSome, IsSome}
use Rattle.std.specs.declared.option.Option.{Option}
use Rattle.std.specs.declared.option.Option.TheVariants.{Some}
use Rattle.std.specs.List.{All}
use Rattle.std.proofs.Common.{sym, ap, ap₂, subst, ◌∙◌, arith}
use Rattle.graph_core.specs.Graph.Assignments.{Assignment}
use Rattle.algebra_core.specs.AlgebraLines.{LiveLine, IsCombined, IsLive, after_all, axioms, line_of, value_of, value_or_zero}
use Rattle.graph_core.specs.Graph.Extended as graphs
use Rattle.algebra_core.specs.Polynomials.{Polynomial, value}
use Rattle.poly_terms.specs.Tables.{Table, Sum, IsOf, modulus_in, monomials_in, value_in}
use Rattle.poly_text.specs.Lines.{parts_in}
use Rattle.frontier_core.specs.Pending.{AreSpare}
use Rattle.frontier_core.proofs.LineLemmas.{new_line_is_live}
use Rattle.pac_writer.specs.Writing.{ArePartsOver, GrowsWrittenTable, Made, PutsLine, combination_of, written_ledger}
use Rattle.line_drafts.specs.declared.known.Known.{Known}
use Rattle.line_drafts.specs.declared.line.Ready.{Ready}
use Rattle.line_drafts.specs.Drafts.{IsKnownIn, IsKnownOf, IsReady}
use Rattle.line_drafts.proofs.OpenDrafts.{known_stays}

-- ---- as the table grows

pub same_ledger : (l grown : Made) → GrowsWrittenTable l grown → written_ledger grown ≡ written_ledger l
same_ledger l grown g = ap₂ (λ e ls. after_all (graphs.modulus e) (axioms e) ls) g.extended g.lines

pub known_grown : (l grown : Made) (k : Known) → GrowsWrittenTable l grown → IsKnownOf l k → IsKnownOf grown k
known_grown l grown k g h = record {
  known = subst (λ ledger. IsKnownIn grown.table ledger.live k) (sym (same_ledger l grown g)) (known_stays l.table grown.table (written_ledger l).live k g.table h.known);
  low = subst (λ n. k.id ≤ n) (sym g.last) h.low;
}

module _ (l grown : Made) (r : Ready) (g : GrowsWrittenTable l grown) (same : modulus_in grown.table ≡ graphs.modulus grown.extended)
    (h : IsReady l.extended.max grown.table (written_ledger l).live r) where
  pub ready_over : ArePartsOver grown.extended.max grown.table r.parts.items r.poly
  ready_over = subst (λ e. ArePartsOver e.max grown.table r.parts.items r.poly) (sym g.extended) h.over

  pub ready_spare : AreSpare (graphs.modulus grown.extended) (written_ledger grown).live (parts_in grown.table r.parts.items)
  ready_spare = subst (λ m. AreSpare m (written_ledger grown).live (parts_in grown.table r.parts.items)) same
      (subst (λ ledger. AreSpare (modulus_in grown.table) ledger.live (parts_in grown.table r.parts.items)) (sym (same_ledger l grown g)) h.spare)

  pub ready_equal : IsCombined (graphs.modulus grown.extended) (written_ledger grown).live (parts_in grown.table r.parts.items) (monomials_in grown.table r.poly)
  ready_equal = subst (λ m. IsCombined m (written_ledger grown).live (parts_in grown.table r.parts.items) (monomials_in grown.table r.poly)) same
      (subst (λ ledger. IsCombined (modulus_in grown.table) ledger.live (parts_in grown.table r.parts.items) (monomials_in grown.table r.poly)) (sym (same_ledger l grown g)) h.equal)

-- ---- as a line is put

module _ (l new : Made) (id : ℕ) (parts : List (ℕ × Sum)) (poly : Sum) (is : id ≡ l.last + 1) (puts : PutsLine (combination_of l.table id parts poly) id l new) where
  abbrev m : ℕ
  m = graphs.modulus l.extended

  abbrev p : Polynomial
  p = monomials_in l.table poly

  pub known_put : (k : Known) → IsKnownOf l k → IsKnownOf new k
  known_put k h =
      let law = new_line_is_live m (written_ledger l) id p in
      let low = h.low in
      let other : k.id ≢ id = λ same. absurd (omega (arith, low, is, same)) in
      let line : line_of (written_ledger new).live k.id ≡ line_of (written_ledger l).live k.id = ap (λ x. line_of x.live k.id) puts.ledger ∙ law.2 k.id other in
      let greatest = puts.last in
      record {
        known = record {
          of = subst (λ t. IsOf t k.poly) (sym puts.table) h.known.of;
          line = subst IsSome (sym line) h.known.line;
          value = λ σ. ap (λ t. value_in t k.poly σ) puts.table ∙ h.known.value σ ∙ ap (λ o. value_or_zero o σ) (sym line);
        };
        low = omega (arith, low, is, greatest);
      }

  pub put_known : (copy : Sum) → modulus_in l.table ≡ m → IsOf l.table copy → ((σ : Assignment) → value_in l.table copy σ ≡ value_in l.table poly σ) →
      IsKnownOf new (record { id = id; poly = copy })
  put_known copy same of value_is =
      let law = new_line_is_live m (written_ledger l) id p in
      let greatest = puts.last in
      record {
        known = record {
          of = subst (λ t. IsOf t copy) (sym puts.table) of;
          line = subst (λ x. IsLive x.live id) (sym puts.ledger) law.0;
          value = λ σ. ap (λ t. value_in t copy σ) puts.table ∙ value_is σ ∙ ap (λ n. value n p σ) same ∙ sym (ap (λ x. value_of x.live id σ) puts.ledger ∙ law.1 σ);
        };
        low = omega (arith, greatest);
      }

-- what a work answers on the lines' table
pub ready_from : (l : Made) (t : Table) (known given : List Known) (max : ℕ) (o : Option Ready) (line : Ready) → o ≡ Some line → given ≡ known → max ≡ l.extended.max →
    All (IsKnownOf l) known → IfSome o (λ r. (live : List LiveLine) → All (IsKnownIn l.table live) given → IsReady max t live r) → IsReady l.extended.max t (written_ledger l).live line
ready_from l t known given max o line is same max_is all did =
    let live = (written_ledger l).live in
    subst (λ n. IsReady n t live line) max_is
    (subst (λ r. IfSome r (λ r. (live : List LiveLine) → All (IsKnownIn l.table live) given → IsReady max t live r)) is did live
    (subst (All (IsKnownIn l.table live)) (sym same) (λ k d low. (all k d low).known)))
