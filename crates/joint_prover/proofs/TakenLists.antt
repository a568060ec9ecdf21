-- What steps have taken, read from the last step back to the first.
use Rattle.std.proofs.Common.{◌≡◌, ℕ, ◌+◌, ◌<◌, List, [], ◌∷◌, ◌++◌, get_or, length, reverse, take, refl, sym, ap, ◌∙◌}
use Rattle.std.proofs.lemmas.Grind.{reverse_onto}
use Rattle.std.proofs.lemmas.List.{append-nil, take_more}
use Rattle.frontier_core.specs.declared.step.Step.{Step}
use Rattle.frontier_core.specs.declared.step.Step.TheVariants.{Add, Eliminate}
use Rattle.frontier_core.specs.Plan.{Taken, nothing, step, taken}

-- one step more
taken_pushed : (f : Taken) (ss : List Step) (s : Step) → taken f (ss ++ s ∷ []) ≡ step (taken f ss) s
taken_pushed f [] s = refl
taken_pushed f (x ∷ ss) s = taken_pushed (step f x) ss s

column_pushed : (f : Taken) (s : Step) → reverse (step f s).added ≡ reverse f.added ++ (step nothing s).added
column_pushed f (Add k) = reverse_onto f.added k []
column_pushed f (Eliminate v) = sym (append-nil (reverse f.added))

gate_pushed : (f : Taken) (s : Step) → reverse (step f s).eliminated ≡ reverse f.eliminated ++ (step nothing s).eliminated
gate_pushed f (Add k) = sym (append-nil (reverse f.eliminated))
gate_pushed f (Eliminate v) = reverse_onto f.eliminated v []

-- in a loop
taken_more : (d : Step) (ss : List Step) (i : ℕ) → i < length ss → taken nothing (take (i + 1) ss) ≡ step (taken nothing (take i ss)) (get_or ss i d)
taken_more d ss i low = ap (taken nothing) (take_more ss i d low) ∙ taken_pushed nothing (take i ss) (get_or ss i d)

pub columns_more : (d : Step) (ss : List Step) (i : ℕ) (old new : List ℕ) → i < length ss → old ≡ reverse (taken nothing (take i ss)).added → new ≡ old ++ (step nothing (get_or ss i d)).added →
    new ≡ reverse (taken nothing (take (i + 1) ss)).added
columns_more d ss i old new low so_far more = more ∙ ap (λ ks. ks ++ (step nothing (get_or ss i d)).added) so_far ∙
    sym (ap (λ (f : Taken). reverse f.added) (taken_more d ss i low) ∙ column_pushed (taken nothing (take i ss)) (get_or ss i d))

pub gates_more : (d : Step) (ss : List Step) (i : ℕ) (old new : List ℕ) → i < length ss → old ≡ reverse (taken nothing (take i ss)).eliminated → new ≡ old ++ (step nothing (get_or ss i d)).eliminated →
    new ≡ reverse (taken nothing (take (i + 1) ss)).eliminated
gates_more d ss i old new low so_far more = more ∙ ap (λ vs. vs ++ (step nothing (get_or ss i d)).eliminated) so_far ∙
    sym (ap (λ (f : Taken). reverse f.eliminated) (taken_more d ss i low) ∙ gate_pushed (taken nothing (take i ss)) (get_or ss i d))
