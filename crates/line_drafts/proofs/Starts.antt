-- What is known before the first draft, how lines go on, and what a known line leaves.
use Rattle.std.specs.Prelude.{◌≡◌, ◌+◌, ◌≤◌, [], length}
use Rattle.std.specs.declared.option.Option.TheVariants.{None}
use Rattle.std.proofs.Common.{refl, sym, ap, ap₂, subst, ◌∙◌}
use Rattle.graph_core.specs.Graph.Extended as graphs
use Rattle.graph_core.specs.Graph.Extended.{Extended}
use Rattle.algebra_core.specs.AlgebraLines.{after_all, axioms, specification}
use Rattle.algebra_core.specs.Polynomials.{difference}
use Rattle.frontier_core.specs.LastFrontier.{IsOverInputs}
use Rattle.poly_terms.specs.Laws.{extends_itself, extends_on, value_stays}
use Rattle.poly_terms.specs.Tables.{Sum, monomials_in, value_in}
use Rattle.pac_writer.specs.Writing.{AreLawfulSoFar, GrowsWrittenTable, Made, written_ledger}
use Rattle.line_drafts.specs.LineRests.{GoesOn}
use Rattle.line_drafts.specs.declared.known.Known.{Known}
use Rattle.line_drafts.specs.Drafts.{IsAxiomOf, IsKnownIn, IsKnownOf, IsLeft}
use Rattle.line_drafts.specs.LineRests.{IsLineRest}
use Rattle.line_drafts.proofs.Writings.{known_grown}

-- where there is no line, the axioms are the lines that are live
pub axiom_is_known : (l grown : Made) (k : Known) → l.lines ≡ [] → AreLawfulSoFar l → GrowsWrittenTable l grown → IsAxiomOf l.extended grown.table k → IsKnownOf grown k
axiom_is_known l grown k none lawful g h =
    let ledger = ap₂ (λ e ls. after_all (graphs.modulus e) (axioms e) ls) g.extended (g.lines ∙ none) in
    let last : l.last ≡ l.extended.max + length l.extended.graph.outputs =
    sym lawful.greatest ∙ ap (λ ls. (after_all (graphs.modulus l.extended) (axioms l.extended) ls).last) none in
    let low = h.low in
    record {
      known = subst (λ x. IsKnownIn grown.table x.live k) (sym ledger) h.known;
      low = subst (λ n. k.id ≤ n) (sym (g.last ∙ last)) low;
    }

pub grown_goes_on : (l grown : Made) → l.closing ≡ None → GrowsWrittenTable l grown → GoesOn l grown
grown_goes_on l grown unclosed g = record { extended = g.extended; sides = g.sides; table = g.table; unclosed = g.closing ∙ unclosed }

pub goes_on_itself : (l : Made) → l.closing ≡ None → GoesOn l l
goes_on_itself l unclosed = record { extended = refl; sides = refl; table = extends_itself l.table; unclosed = unclosed }

pub goes_on_more : (a b c : Made) → GoesOn a b → GoesOn b c → GoesOn a c
goes_on_more a b c p q = record {
  extended = q.extended ∙ p.extended;
  sides = q.sides ∙ p.sides;
  table = extends_on a.table b.table c.table p.table q.table;
  unclosed = q.unclosed;
}

pub left_is_rest : (l grown : Made) (k : Known) (poly : Sum) → IsKnownOf l k → GrowsWrittenTable l grown → IsLeft l.extended l.sides l.table grown.table k.poly poly →
    IsLineRest grown.extended grown.sides grown.table (written_ledger grown).live poly k.id
left_is_rest l grown k poly h g left =
    let there = known_grown l grown k g h in
    record {
      of = left.of;
      over = subst (λ (e : Extended). IsOverInputs e.graph.inputs (monomials_in grown.table poly)) (sym g.extended) left.over;
      line = there.known.line;
      differs = λ σ.
          sym (there.known.value σ) ∙ value_stays l.table grown.table k.poly σ g.table h.known.of ∙ left.left σ ∙
          ap₂ (λ e s. difference (graphs.modulus e) (specification e s σ) (value_in grown.table poly σ)) (sym g.extended) (sym g.sides);
    }
