use Rattle.std.proofs.Common.{◌≡◌, ◌+◌, ◌++◌, ◌∷◌, [], length, sym, ap, ap₂, subst, ◌∙◌, arith, length-append}
use Rattle.poly_terms.specs.Lists.{AreEnds, lists_from}
use Rattle.poly_terms.proofs.Listing.{one_more_end, one_more_list}
use Rattle.poly_terms.proofs.lists.Lists.push.Goals as goal

pub invariant_of-self-2 : goal.invariant_of-self-2
invariant_of-self-2 c =
    let vs = c.self.inside.variables.items in
    let list = c.args.list.now in
    let pushed = c.push_all.ensures ∙ ap (λ us. us ++ list) c.try_reserve.ensures.items in
    let end : c.len.result ≡ length vs = omega (arith, c.len.ensures, c.try_reserve.ensures.len) in
    let ended = c.in_ok-push.ensures.pushed ∙ ap (λ n. c.self.inside.ends ++ (n + length list) ∷ []) end in
    let long = length-append vs list in
    rw (ended, pushed)
    (subst (λ n. AreEnds 0 n (c.self.inside.ends ++ (length vs + length list) ∷ [])) (sym long) (one_more_end 0 (length vs) (length list) c.self.inside.ends c.self.invariant))

pub returns-clause-pushed : goal.returns-clause-pushed
returns-clause-pushed c =
    let vs = c.self.inside.variables.items in
    let list = c.args.list.now in
    let pushed = c.push_all.ensures ∙ ap (λ us. us ++ list) c.try_reserve.ensures.items in
    let end : c.len.result ≡ length vs = omega (arith, c.len.ensures, c.try_reserve.ensures.len) in
    let ended = c.in_ok-push.ensures.pushed ∙ ap (λ n. c.self.inside.ends ++ (n + length list) ∷ []) end in
    ap₂ (lists_from 0) pushed ended ∙ one_more_list 0 vs list c.self.inside.ends c.self.invariant ∙ ap (λ ls. ls ++ list ∷ []) c.self.view_is
