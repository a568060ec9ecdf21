-- The axiom of the one-bit graph's gate is live.
use Rattle.std.specs.Prelude.{◌≡◌}
use Rattle.std.proofs.Common.{refl, sym, ap₂, subst}
use Rattle.graph_core.specs.Graph.Extended.{without_cut, modulus}
use Rattle.algebra_core.specs.AlgebraLines.{IsLive, Ledger, after_all, axioms}
use Rattle.pac_writer.specs.Writing.{Made, written_ledger}
use Rattle.crate_tests.specs.OneBit.{IsOneBit, one_bit}

ledger_is : (l : Made) → IsOneBit l → written_ledger l ≡ axioms (without_cut one_bit)
ledger_is l h = ap₂ (λ x ls. after_all (modulus x) (axioms x) ls) h.extended h.lines

pub axiom_is_live : (l : Made) → IsOneBit l → IsLive (written_ledger l).live 3
axiom_is_live l h = subst (λ (k : Ledger). IsLive k.live 3) (sym (ledger_is l h)) refl
