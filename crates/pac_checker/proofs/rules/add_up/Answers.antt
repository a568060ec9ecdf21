use Rattle.std.proofs.Common.{rules, ◌≡◌, ℕ, [], ◌∷◌, get_or, sym, subst, ◌∙◌, arith}
use denote.Ref.{Bor}
use Rattle.std.specs.declared.option.Option.TheVariants.{None}
use Rattle.algebra_core.specs.Refusal.{first_missing}
use Rattle.poly_terms.specs.Tables.{IsOf, Sum}
use Rattle.poly_terms.specs.Laws.{modulus_stays, stays}
use Rattle.pac_checker.specs.Rules.{IsNamingFault, ids_of, lent, lines_with, product_value}
use Rattle.pac_checker.specs.Works.{IsAddedTo}
use Rattle.pac_checker.proofs.Sums.{keeps_on, missing_here, sums_end, sums_live, sums_none, sums_step}
use Rattle.poly_text.specs.Lines.{parts_in}
use Rattle.pac_checker.proofs.rules.add_up.Goals as goal

pub add_product-requires-clause-factor : goal.add_product-requires-clause-factor
add_product-requires-clause-factor c =
    let facts = c.args.live.now in
    let item = c.loop-id-item.result in
    stays facts.table c.loop-id.live.table item.1.now c.loop-id.invariant.keeps.table
    (subst (λ (part : ℕ × Bor Sum). IsOf facts.table part.1.now) (sym c.loop-id-item.is) (c.requires.parts c.loop-id.id-index item c.loop-id-test.true))

pub returns-in_err-add_product-clause-keeps : goal.returns-in_err-add_product-clause-keeps
returns-in_err-add_product-clause-keeps c = keeps_on c.args.live.now c.loop-id.live c.add_product.new.live c.loop-id.invariant.keeps c.add_product.ensures.keeps

pub loop-id-init : goal.loop-id-init
loop-id-init c = sums_none c.args.left.now c.args.live.now c.args.parts.now c.args.products.now c.requires.none c.requires.sum

pub loop-id-preserved : goal.loop-id-preserved
loop-id-preserved c =
    let facts = c.args.live.now in
    let left = c.args.left.now in
    let mid = c.loop-id.live in
    let new = c.add_product.new.live in
    let parts = c.args.parts.now in
    let i = c.loop-id.id-index in
    let item = c.loop-id-item.result in
    let live : first_missing (lines_with left mid) ((get_or parts i item).0 ∷ []) ≡ None = subst (λ part. first_missing (lines_with left mid) (part.0 ∷ []) ≡ None) c.loop-id-item.is c.in_ok-add_product.ensures.live in
    let adds : IsAddedTo mid.table new.table c.loop-id.products c.add_product.new.sum (product_value left mid (get_or parts i item).0 (get_or parts i item).1.now) =
    subst (λ part. IsAddedTo mid.table new.table c.loop-id.products c.add_product.new.sum (product_value left mid part.0 part.1.now)) c.loop-id-item.is c.in_ok-add_product.ensures.adds in
    sums_step left facts mid new parts i item c.loop-id.products c.add_product.new.sum c.loop-id-test.true c.requires.parts c.in_ok-add_product.ensures.keeps live adds c.loop-id.invariant

pub returns-clause-sum : goal.returns-clause-sum
returns-clause-sum c = sums_end c.args.left.now c.args.live.now c.loop-id.live c.args.parts.now c.loop-id.id-index c.loop-id.products (omega (arith, c.loop-id-test.false)) c.loop-id.invariant

pub returns-clause-live : goal.returns-clause-live
returns-clause-live c = sums_live c.args.left.now c.args.live.now c.loop-id.live c.args.parts.now c.loop-id.id-index c.loop-id.products (omega (arith, c.loop-id-test.false)) c.loop-id.invariant

pub add_product-requires-clause-modulus : goal.add_product-requires-clause-modulus
add_product-requires-clause-modulus c = modulus_stays c.args.live.now.table c.loop-id.live.table c.loop-id.invariant.keeps.table ∙ c.requires.modulus

pub returns-in_err-add_product-clause-missing : goal.returns-in_err-add_product-clause-missing
returns-in_err-add_product-clause-missing c =
    let facts = c.args.live.now in
    let left = c.args.left.now in
    let item = c.loop-id-item.result in
    let fault = c.in_err-add_product.field-0.0 in
    let here : IsNamingFault left c.loop-id.live ((get_or c.args.parts.now c.loop-id.id-index item).0 ∷ []) fault =
    subst (λ part. IsNamingFault left c.loop-id.live (part.0 ∷ []) fault) c.loop-id-item.is c.in_err-add_product.ensures.missing in
    let missing : IsNamingFault left facts (ids_of (parts_in facts.table (lent c.args.parts.now))) fault =
    missing_here left facts c.loop-id.live c.args.parts.now c.loop-id.id-index item c.loop-id.products fault c.loop-id-test.true c.loop-id.invariant here in
    search rules
