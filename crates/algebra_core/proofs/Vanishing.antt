-- A graph on whose evaluations the specification vanishes meets the claim.
use Rattle.std.proofs.Common.{sym, subst}
use Rattle.graph_core.specs.declared.profile.Profile.TheVariants.{Multiplier}
use Rattle.graph_core.specs.Graph.Operands.{HasMultiplierShape, sides_of}
use Rattle.graph_core.specs.Graph.Extended.{without_cut}
use Rattle.algebra_core.specs.Soundness.{VanishingMeetsClaim, VanishingMultiplies}
use Rattle.graph_core.proofs.OfAiger.CallerLemmas.{shape_of, well_formed}
use Rattle.graph_core.proofs.OfGraphs.CallerLemmas.{claim_is_product, evaluations_suffice}
use Rattle.algebra_core.proofs.Sound.{vanishing_means_claim}

pub vanishing_meets_claim : VanishingMeetsClaim
vanishing_meets_claim p bytes g s spells vanishes =
    let well = well_formed p bytes g spells in
    evaluations_suffice g s well.defined_once well.acyclic (λ σ evaluates. vanishing_means_claim (without_cut g) s σ (vanishes σ evaluates))

pub vanishing_multiplies : VanishingMultiplies
vanishing_multiplies bytes g order spells vanishes =
    let shape : HasMultiplierShape g = subst HasMultiplierShape (sym spells.3) (shape_of spells.0 spells.1.2) in
    (claim_is_product g order shape (well_formed Multiplier bytes g spells).defined_once).0 (vanishing_meets_claim Multiplier bytes g (sides_of order g) spells vanishes)
