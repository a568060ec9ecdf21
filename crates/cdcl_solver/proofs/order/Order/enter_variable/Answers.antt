use Rattle.std.proofs.Common.{◌≡◌, ◌<◌, ◌≤◌, ℕ, List, [], ◌∷◌, true, false, slice_index_or, set, sym, ap, subst, ◌∙◌, arith}
use Rattle.std.specs.List.{All, Contains}
use Rattle.std.proofs.Math.ListN.{length-set}
use Rattle.std.proofs.lemmas.List.Elements.{All-push, Contains-append_left, Contains-push}
use Rattle.cdcl_solver.specs.Orders.{OrderView}
use Rattle.cdcl_solver.proofs.OrderLemmas.{listed_more}
use Rattle.cdcl_solver.proofs.order.Order.enter_variable.Goals as goal

pub invariant_of-self-2 : goal.invariant_of-self-2
invariant_of-self-2 c =
    let i = c.self.inside in
    let is = c.self.invariant in
    let items = c.in_ok-push-2.ensures.items in
    let greatest = ap (λ (o : OrderView). o.greatest) c.self.view_is in
    record {
      sizes = (is.sizes.0, is.sizes.1, is.sizes.2, length-set i.marks.items c.args.var true ∙ is.sizes.3);
      nexts = is.nexts;
      prevs = is.prevs;
      listed = subst (λ (xs : List ℕ). (v : ℕ) → slice_index_or (set i.marks.items c.args.var true) v false ≡ true → Contains xs v) (sym items) (listed_more i.marks.items i.vars.items c.args.var is.listed);
      within = subst (All (λ v. (0 < v) × (v ≤ i.greatest))) (sym items) (All-push (λ v. (0 < v) × (v ≤ i.greatest)) i.vars.items c.args.var is.within (c.requires.some, omega (arith, c.requires.within, greatest)));
    }

pub returns-clause-grows : goal.returns-clause-grows
returns-clause-grows c =
    let i = c.self.inside in
    record {
      greatest = ap (λ (o : OrderView). o.greatest) c.self.view_is;
      kept = λ v has. subst (λ (xs : List ℕ). Contains xs v) (sym c.in_ok-push-2.ensures.items)
          (Contains-append_left i.vars.items (c.args.var ∷ []) v (subst (λ (o : OrderView). Contains o.vars v) (sym c.self.view_is) has));
    }

pub returns-clause-entered : goal.returns-clause-entered
returns-clause-entered c = subst (λ (xs : List ℕ). Contains xs c.args.var) (sym c.in_ok-push-2.ensures.items) (Contains-push c.self.inside.vars.items c.args.var)
