-- Lines that are alike are lawful together, one after the other.
use Rattle.std.specs.Prelude.{ℕ, List, [], ◌∷◌}
use Rattle.algebra_core.specs.AlgebraLines.{Ledger, Line, AreLawfulLines, after, after_all}
use Rattle.algebra_core.specs.Agreement.{LedgersAgree}
use Rattle.algebra_core.proofs.CallerLemmas.{after_agrees, agree_trans, lawful_agrees, likeness_is_kept}
use Rattle.poly_text.specs.Recorded.{AreAllAlike}

-- over ledgers that agree
pub alike_lawful : (m : ℕ) (l k : Ledger) (xs ys : List Line) → LedgersAgree l k → AreAllAlike m xs ys → AreLawfulLines m l ys → AreLawfulLines m k xs × LedgersAgree (after_all m l ys) (after_all m k xs)
alike_lawful m l k [] ys same alike h = (tt, rw alike same)
alike_lawful m l k (x ∷ xs) [] same alike h = absurd alike
alike_lawful m l k (x ∷ xs) (y ∷ ys) same alike h =
    let next = agree_trans (after m l y) (after m l x) (after m k x) (likeness_is_kept.after m l x y alike.0) (after_agrees m l k same x) in
    let rest = alike_lawful m (after m l y) (after m k x) xs ys next alike.1 h.1 in
    ((lawful_agrees m l k same x (likeness_is_kept.lawful m l x y alike.0 h.0), rest.0), rest.1)
