-- What the three files of `check` come to, as far as the desk tells them.
use Rattle.std.specs.Prelude.{IfSome}
use Rattle.command_core.specs.Files.{HasGraph, Texts}
use Rattle.algebra_core.specs.Certificates.{IsLawfulAlgebra}
use Rattle.algebra_core.specs.AlgebraLines.{Premises}
use Rattle.graph_core.specs.Graph.Operands.{profile_of, sides_for}
use Rattle.graph_core.specs.declared.claim.Claim.{Claim}
use Rattle.graph_core.specs.declared.profile.Profile.{Profile}
use Rattle.graph_core.specs.Graph.{Aig}
use Rattle.mv_desk.specs.declared.limits.Limits.{Limits}
use Rattle.mv_text.specs.LineReading.{lengths_of}
use Rattle.pair_core.specs.ClauseFiles.{ArePremisesOf, GivesPremises}

-- There is a graph, which the graph file spells where it is told, and premises of it, which the clause file gives where it is told.
-- Something holds of both.
abbrev pub HasPremises : Profile → Limits → Texts → (Aig → Premises → Type 0) → Type 0
HasPremises profile limits texts P =
    HasGraph profile limits.graph texts.graph (λ g. (p : Premises) × ArePremisesOf g p ×
    IfSome texts.clauses (λ bytes. GivesPremises (lengths_of limits) g bytes p) × P g p)

-- And the algebra file is lawful over the premises where it is told. So what is told of the three is a graph and a lawful pair of
-- certificates for it. Something holds of the graph.
abbrev pub HasLawfulPair : Limits → Claim → Texts → (Aig → Type 0) → Type 0
HasLawfulPair limits claim texts P =
    HasPremises (profile_of claim.widths) limits texts (λ g p. IfSome texts.algebra (IsLawfulAlgebra (lengths_of limits) p (sides_for claim g)) × P g)
