use Rattle.std.proofs.Common.{Result, Ok, Err, OnOk}
use Rattle.pac_checker.proofs.works.AddAxiomGrowPoly.grow.Goals as goal

on_both : {T E : Type 0} (r : Result T E) (A B C : Type 0) → (A → B → C) → OnOk r A → OnOk r B → OnOk r C
on_both (Ok t) A B C f a b = f a b
on_both (Err e) A B C f a b = a

pub returns-clause-did : goal.returns-clause-did
returns-clause-did c = on_both c.add_times.result _ _ _ (λ of adds. record { of_table = of; value = adds }) c.add_times.ensures.of c.add_times.ensures.value
