-- Which of the kept clauses may be imported.
use Rattle.std.specs.Prelude.{◌≡◌, ◌==◌, ℕ, Bool, true, false, cond, List, []}
use Rattle.std.proofs.Common.{refl, subst}
use Rattle.clause_core.specs.Clause.{Clause}
use Rattle.clause_core.specs.Likeness.{AreSameSets}
use Rattle.drup_checker.specs.Checking.{kept}
use Rattle.drup_checker.specs.declared.keeps.Keeps.TheVariants as keep
use Rattle.pair_core.specs.ClauseFiles.{importable}
use Rattle.joint_checker.specs.Shown.{keeps_of}

same_imported : (version : ℕ) (cs ds : List Clause) → AreSameSets cs ds → AreSameSets (importable version cs) (importable version ds)
same_imported version cs ds same = go (version == 1)
  where
    go : (t : Bool) → AreSameSets (cond t [] cs) (cond t [] ds)
    go true = tt
    go false = same

-- whatever may be imported is kept
imports_kept : (chains : Bool) (version : ℕ) (ds : List Clause) → importable version (kept (keeps_of chains version) ds) ≡ importable version ds
imports_kept true version ds = refl
imports_kept false version ds = go (version == 1)
  where
    go : (t : Bool) → cond t [] (kept (cond t keep.Nothing keep.Clauses) ds) ≡ cond t [] ds
    go true = refl
    go false = refl

pub imported_of_kept : (chains : Bool) (version : ℕ) (cs ds : List Clause) → AreSameSets cs (kept (keeps_of chains version) ds) → AreSameSets (importable version cs) (importable version ds)
imported_of_kept chains version cs ds same =
    subst (AreSameSets (importable version cs)) (imports_kept chains version ds) (same_imported version cs (kept (keeps_of chains version) ds) same)
