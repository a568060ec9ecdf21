use Rattle.std.proofs.Common.{◌^◌, sym, ap, ◌∙◌}
use Rattle.poly_terms.specs.Monomials.{total_in}
use Rattle.poly_terms.specs.Tables.{Table}
use Rattle.poly_terms.proofs.Made.{extends_grown, made-IsOf, made-value, numbers_in}
use Rattle.poly_terms.proofs.Scaled.{brought-value}
use Rattle.poly_terms.proofs.terms.Terms.bring.Goals as goal

pub carry_all-requires : goal.carry_all-requires
carry_all-requires c = numbers_in c.args.from.now c.numbering.result.now c.args.p.now c.entries.result.now c.numbering.ensures c.entries.ensures c.requires.of

pub returns-clause-of : goal.returns-clause-of
returns-clause-of c =
    made-IsOf c.self.inside.exponent c.carry_all.new.table c.in_ok-raw.raw.items c.in_ok-entries.entries.items c.of.result c.of.ensures c.stand_once.ensures
    ((c.in_ok-raw.ensures.adds (2 ^ c.self.inside.exponent)).numbers tt) c.in_ok-entries.ensures

pub returns-clause-value : goal.returns-clause-value
returns-clause-value c σ =
    let w = c.self.inside.exponent in
    let ms = c.numbering.result.now in
    let p' = c.entries.result.now in
    made-value w c.self.inside.monomials c.carry_all.new.table (λ σ. total_in ms σ p') c.in_ok-raw.raw.items c.in_ok-entries.entries.items c.of.result σ c.of.ensures
    (c.in_ok-raw.ensures.adds (2 ^ w)) c.in_ok-entries.ensures ∙
    brought-value w ms c.args.from.now c.args.p.now p' σ (c.requires.exponent ∙ sym (ap (λ (t : Table). t.exponent) c.self.view_is)) c.numbering.ensures c.entries.ensures

pub invariant_of-self : goal.invariant_of-self
invariant_of-self c = c.self.invariant

pub invariant_of-self-2 : goal.invariant_of-self-2
invariant_of-self-2 c = c.self.invariant

pub invariant_of-self-in_err-entries : goal.invariant_of-self-in_err-entries
invariant_of-self-in_err-entries c = c.self.invariant

pub returns-clause-extends : goal.returns-clause-extends
returns-clause-extends c = extends_grown c.self.inside.exponent c.self.inside.monomials c.carry_all.new.table c.args.self.now c.self.view_is c.carry_all.ensures.grows

pub returns-in_err-raw-clause-extends : goal.returns-in_err-raw-clause-extends
returns-in_err-raw-clause-extends c = extends_grown c.self.inside.exponent c.self.inside.monomials c.carry_all.new.table c.args.self.now c.self.view_is c.carry_all.ensures.grows

pub returns-in_err-entries-clause-extends : goal.returns-in_err-entries-clause-extends
returns-in_err-entries-clause-extends c = extends_grown c.self.inside.exponent c.self.inside.monomials c.carry_all.new.table c.args.self.now c.self.view_is c.carry_all.ensures.grows
