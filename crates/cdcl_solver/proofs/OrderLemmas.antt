-- Orders of variables that grow.
use Rattle.std.specs.Prelude.{◌≡◌, ℕ, Bool, true, false, List, [], ◌∷◌, ◌++◌, slice_index_or}
use Rattle.std.specs.List.{Contains}
use Rattle.std.proofs.Common.{refl, sym, ap, subst, ◌∙◌, ⊎_elim, set, replicate, true≢false}
use Rattle.std.proofs.lemmas.List.Elements.{Contains-append_left, Contains-push}
use Rattle.clause_core.specs.Clause.{Clause}
use Rattle.cdcl_solver.specs.Orders.{OrderView, GrowsOrder, Covers}
use Rattle.cdcl_solver.proofs.AnalysisLemmas.{seen_after, unseen}

-- where no variable is marked, none is listed
pub listed_none : (n : ℕ) (marks : List Bool) (vars : List ℕ) → marks ≡ replicate n false → (v : ℕ) → slice_index_or marks v false ≡ true → Contains vars v
listed_none n marks vars none v e = absurd (true≢false (sym e ∙ ap (λ (xs : List Bool). slice_index_or xs v false) none ∙ unseen n v))

-- one more variable is marked and listed
pub listed_more : (marks : List Bool) (vars : List ℕ) (w : ℕ) → ((v : ℕ) → slice_index_or marks v false ≡ true → Contains vars v) → (v : ℕ) → slice_index_or (set marks w true) v false ≡ true → Contains (vars ++ w ∷ []) v
listed_more marks vars w listed v e =
    ⊎_elim (λ same. subst (Contains (vars ++ w ∷ [])) (sym same) (Contains-push vars w)) (λ old. Contains-append_left vars (w ∷ []) v (listed v old)) (seen_after marks w v e)

pub grows_none : (o : OrderView) → GrowsOrder o o
grows_none o = record { greatest = refl; kept = λ v has. has }

pub grows_more : (a b c : OrderView) → GrowsOrder a b → GrowsOrder b c → GrowsOrder a c
grows_more a b c h g = record { greatest = g.greatest ∙ h.greatest; kept = λ v has. g.kept v (h.kept v has) }

pub covers_grown : (old new : OrderView) (clauses : List Clause) → GrowsOrder old new → Covers old.vars clauses → Covers new.vars clauses
covers_grown old new clauses h covers c has l in' = h.kept _ (covers c has l in')
