use Rattle.std.proofs.Common.{◌≡◌, Some, None, sym, ◌∙◌, subst}
use Rattle.std.proofs.lemmas.Bool.Decides.{Decides-int_eq}
use Rattle.std.proofs.lemmas.List.{get_or_default}
use Rattle.std.proofs.lemmas.Option.{same_Some}
use Rattle.std.proofs.lemmas.Slice.Eq.{slice_eq-Decides}
use Rattle.clause_core.specs.Clause.{Clause, SameSet}
use Rattle.clause_core.proofs.CallerLemmas.{sets_are_lists}
use Rattle.unit_prop.specs.Standing.{clause_at}
use Rattle.unit_prop.proofs.propagator.is_at.Goals as goal

pub returns-in-Some : goal.returns-in-Some
returns-in-Some c =
    let found = c.in-Some.lits.now in
    let own = c.lits-in-Some.ensures in
    let is : clause_at c.args.clauses.now c.args.place ≡ Some found =
    get_or_default c.args.clauses.now c.args.place None c.index-clauses-place.result c.requires ∙ (sym c.index-clauses-place.is ∙ c.in-Some.ensures.value) in
    let same = slice_eq-Decides Decides-int_eq found c.lits-in-Some.result.now c.eq.result c.eq.ensures in (
      λ t. (found, is, subst (λ (d : Clause). SameSet found d) (same.0 t ∙ own.value) (λ l h. h, λ l h. h)),
      λ s. same.1 (sets_are_lists found c.args.clause.now c.in-Some.ensures.clause own.clause (subst (λ (d : Clause). SameSet d c.args.clause.now) (same_Some s.0 found (sym s.1 ∙ is)) s.2) ∙ sym own.value),
    )
