use Rattle.std.proofs.Common.{◌≡◌, ◌-◌, [], ◌∷◌, ◌++◌, ℤ, neg_ℤ, w32, SFits, to_z, of_z, refl, rules, sym, ap, ◌∙◌, subst, arith}
use Rattle.std.proofs.lemmas.List.{append-nil}
use Rattle.std.proofs.lemmas.List.Elements.{Contains-append_right}
use Rattle.std.proofs.lemmas.Int.{to_z-of_z}
use Rattle.clause_core.specs.Clause.{IsClauseInRange}
use Rattle.clause_core.specs.UnitPropagation.{IsRup}
use Rattle.cdcl_solver.specs.Deletions.{OnlyAdds}
use Rattle.cdcl_solver.specs.Solvers.{SolverView}
use Rattle.cdcl_solver.proofs.SearchLemmas.{rup_wider}
use Rattle.cdcl_solver.proofs.LogLemmas.{adds_none, alike_none, continues_none}
use Rattle.cdcl_solver.proofs.ShowLemmas.{kept_alike, kept_follows, kept_more, negated_range, refuted_follows, some_answer, two_equal}
use Rattle.cdcl_solver.proofs.SolverLemmas.{known_live}
use Rattle.cdcl_solver.proofs.solver.Solver.show.Goals as goal

-- the negation of a literal, as it is passed on
negated : (r l : ℤ) → SFits w32 r → SFits w32 l → r ≡ neg_ℤ (to_z w32 (of_z w32 l)) → to_z w32 (of_z w32 r) ≡ neg_ℤ l
negated r l f g e = to_z-of_z w32 r f ∙ e ∙ ap neg_ℤ (to_z-of_z w32 l g)

pub returns-then-conflicts-eq0-clause-live : goal.returns-then-conflicts-eq0-clause-live
returns-then-conflicts-eq0-clause-live c = known_live c.args.log.now.left c.args.self.now.live c.requires.known

pub returns-then-not-are_apart-clause-live : goal.returns-then-not-are_apart-clause-live
returns-then-not-are_apart-clause-live c = known_live c.args.log.now.left c.args.self.now.live c.requires.known

pub returns-then-conflicts-eq0-clause-adds : goal.returns-then-conflicts-eq0-clause-adds
returns-then-conflicts-eq0-clause-adds c = adds_none c.args.log.now

pub returns-then-not-are_apart-clause-adds : goal.returns-then-not-are_apart-clause-adds
returns-then-not-are_apart-clause-adds c = adds_none c.args.log.now

pub returns-in_err-follows_near-clause-adds : goal.returns-in_err-follows_near-clause-adds
returns-in_err-follows_near-clause-adds c = adds_none c.args.log.now

pub returns-in_err-keep-clause-adds : goal.returns-in_err-keep-clause-adds
returns-in_err-keep-clause-adds c = subst (λ g. OnlyAdds c.args.log.now g) (sym c.in_err-keep.ensures.err) (adds_none c.args.log.now)

pub keep-requires-clause-range : goal.keep-requires-clause-range
keep-requires-clause-range c =
    let apart = c.are_apart.ensures c.if-not-are_apart.false in
    subst (λ (v : SolverView). IsClauseInRange v.max (to_z w32 (of_z w32 c.args.one) ∷ to_z w32 (of_z w32 c.args.other) ∷ [])) c.self.view_is apart.0

pub keep-requires-clause-follows : goal.keep-requires-clause-follows
keep-requires-clause-follows c = c.in_ok-follows_near.ensures c.if-branch.true

pub returns-then-branch-clause-log : goal.returns-then-branch-clause-log
returns-then-branch-clause-log c =
    let live = known_live c.args.log.now.left c.args.self.now.live c.requires.known in
    (kept_more c.args.self.now.max c.args.self.now.live c.args.log.now 0 c.args.conflicts c.args.self.now c.keep.new.self c.args.log.now c.keep.new.log (omega arith) refl live (continues_none c.args.self.now.max c.args.self.now.live c.args.log.now) c.requires.log c.in_ok-keep.ensures.kept).1

pub returns-then-branch-clause-in_range : goal.returns-then-branch-clause-in_range
returns-then-branch-clause-in_range c =
    let live = known_live c.args.log.now.left c.args.self.now.live c.requires.known in
    (kept_more c.args.self.now.max c.args.self.now.live c.args.log.now 0 c.args.conflicts c.args.self.now c.keep.new.self c.args.log.now c.keep.new.log (omega arith) refl live (continues_none c.args.self.now.max c.args.self.now.live c.args.log.now) c.requires.log c.in_ok-keep.ensures.kept).2

pub returns-then-branch-clause-live : goal.returns-then-branch-clause-live
returns-then-branch-clause-live c =
    let live = known_live c.args.log.now.left c.args.self.now.live c.requires.known in
    (kept_more c.args.self.now.max c.args.self.now.live c.args.log.now 0 c.args.conflicts c.args.self.now c.keep.new.self c.args.log.now c.keep.new.log (omega arith) refl live (continues_none c.args.self.now.max c.args.self.now.live c.args.log.now) c.requires.log c.in_ok-keep.ensures.kept).0

pub returns-then-branch-clause-adds : goal.returns-then-branch-clause-adds
returns-then-branch-clause-adds c =
    (kept_alike c.args.self.now.live c.args.log.now [] c.args.self.now c.keep.new.self c.args.log.now c.keep.new.log (sym (append-nil c.args.log.now.lines)) (alike_none c.args.self.now.live c.args.log.now) (adds_none c.args.log.now) c.in_ok-keep.ensures.kept).1

pub returns-then-branch-clause-shown : goal.returns-then-branch-clause-shown
returns-then-branch-clause-shown c =
    let both = two_equal _ _ _ _ (to_z-of_z w32 c.args.one c.ranges.one) (to_z-of_z w32 c.args.other c.ranges.other) in
    let near = subst (IsRup c.args.self.now.live) both (c.in_ok-follows_near.ensures c.if-branch.true) in
    kept_follows c.args.self.now.live c.args.self.now c.keep.new.self c.args.log.now c.keep.new.log (c.args.one ∷ c.args.other ∷ []) c.in_ok-keep.ensures.kept
    (rup_wider c.args.self.now.live (c.args.log.now.left ++ c.args.self.now.live) (c.args.one ∷ c.args.other ∷ []) (λ d i. Contains-append_right c.args.log.now.left c.args.self.now.live d i) near)

pub keep-requires-in-Some-Refuted-clause-range : goal.keep-requires-in-Some-Refuted-clause-range
keep-requires-in-Some-Refuted-clause-range c =
    let apart = c.are_apart.ensures c.if-not-are_apart.false in
    let both = to_z w32 (of_z w32 c.args.one) ∷ to_z w32 (of_z w32 c.args.other) ∷ [] in
    subst (λ m. IsClauseInRange m both) (sym c.search.ensures.max) (subst (λ (v : SolverView). IsClauseInRange v.max both) c.self.view_is apart.0)

pub search-requires-clause-assumptions : goal.search-requires-clause-assumptions
search-requires-clause-assumptions c =
    let one = c.ranges.one in
    let other = c.ranges.other in
    let first : SFits w32 c.negation.result = search rules in
    let second : SFits w32 c.negation-2.result = search rules in
    let apart = simp to_z-of_z at (c.are_apart.ensures c.if-not-are_apart.false) in
    let range = subst (λ (v : SolverView). IsClauseInRange v.max (c.args.one ∷ c.args.other ∷ [])) c.self.view_is apart.0 in
    subst (IsClauseInRange c.args.self.now.max) (sym (two_equal _ _ _ _ (negated c.negation.result c.args.one first one c.negation.ensures) (negated c.negation-2.result c.args.other second other c.negation-2.ensures)))
    (negated_range c.args.self.now.max (c.args.one ∷ c.args.other ∷ []) range)

pub keep-requires-in-Some-Refuted-clause-follows : goal.keep-requires-in-Some-Refuted-clause-follows
keep-requires-in-Some-Refuted-clause-follows c =
    let one = c.ranges.one in
    let other = c.ranges.other in
    let first : SFits w32 c.negation.result = search rules in
    let second : SFits w32 c.negation-2.result = search rules in
    let both = two_equal _ _ _ _ (negated c.negation.result c.args.one first one c.negation.ensures) (negated c.negation-2.result c.args.other second other c.negation-2.ensures) in
    let answer = some_answer c.args.self.now.max c.args.self.now.live (to_z w32 (of_z w32 c.negation.result) ∷ to_z w32 (of_z w32 c.negation-2.result) ∷ []) (c.args.conflicts - 1) c.args.log.now c.search.new.log c.in_ok-search.field-0 c.in-Some-Refuted.field-0 c.in_ok-search.ensures.answer c.in-Some-Refuted.is in
    let follows = refuted_follows c.args.self.now.max c.args.self.now.live _ (c.args.conflicts - 1) c.args.log.now c.search.new.log c.in-Some-Refuted.field-0 c.args.one c.args.other answer c.in-Some-Refuted.field-0-is both in
    subst (IsRup c.search.new.self.live) (sym (two_equal _ _ _ _ (to_z-of_z w32 c.args.one one) (to_z-of_z w32 c.args.other other)))
    (rup_wider (c.search.new.log.left ++ c.args.self.now.live) c.search.new.self.live (c.args.one ∷ c.args.other ∷ []) c.in_ok-search.ensures.live.back follows)

pub returns : goal.returns
returns c =
    let first : SFits w32 c.negation.result = search rules in
    let second : SFits w32 c.negation-2.result = search rules in
    let both = two_equal _ _ _ _ (negated c.negation.result c.args.one first c.ranges.one c.negation.ensures) (negated c.negation-2.result c.args.other second c.ranges.other c.negation-2.ensures) in
    let answer = some_answer c.args.self.now.max c.args.self.now.live (to_z w32 (of_z w32 c.negation.result) ∷ to_z w32 (of_z w32 c.negation-2.result) ∷ []) (c.args.conflicts - 1) c.args.log.now c.search.new.log c.in_ok-search.field-0 c.in-Some-Refuted.field-0 c.in_ok-search.ensures.answer c.in-Some-Refuted.is in
    let follows = refuted_follows c.args.self.now.max c.args.self.now.live _ (c.args.conflicts - 1) c.args.log.now c.search.new.log c.in-Some-Refuted.field-0 c.args.one c.args.other answer c.in-Some-Refuted.field-0-is both in
    let kept = c.in_ok-keep-in-Some-Refuted.ensures.kept in
    let more = kept_more c.args.self.now.max c.args.self.now.live c.args.log.now (c.args.conflicts - 1) c.args.conflicts c.search.new.self c.keep-in-Some-Refuted.new.self c.search.new.log c.keep-in-Some-Refuted.new.log (omega arith) c.search.ensures.max c.in_ok-search.ensures.live c.search.ensures.log c.search.ensures.in_range kept in
    let goes = c.search.ensures.log in
    let alike = kept_alike c.args.self.now.live c.args.log.now goes.more c.search.new.self c.keep-in-Some-Refuted.new.self c.search.new.log c.keep-in-Some-Refuted.new.log goes.lines c.in_ok-search.ensures.alike c.search.ensures.adds kept in
    record {
      max = c.keep-in-Some-Refuted.ensures.max ∙ c.search.ensures.max;
      log = more.1;
      in_range = more.2;
      live = more.0;
      alike = alike.0;
      adds = alike.1;
      shown = kept_follows c.args.self.now.live c.search.new.self c.keep-in-Some-Refuted.new.self c.search.new.log c.keep-in-Some-Refuted.new.log (c.args.one ∷ c.args.other ∷ []) kept follows;
    }
