-- A graph without faults has room for its inputs and gates, so what is written for it spells it.
use Rattle.std.specs.Prelude.{ℕ, ◌+◌, ◌<◌, ◌≤◌, cond, map, length, slice_index_or}
use Rattle.std.proofs.Common.{sym, subst, arith, length-append}
use Rattle.std.proofs.lemmas.List.{length-map}
use Rattle.std.proofs.lemmas.List.Elements.{All-append, All-map, Contains-get_or}
use Rattle.graph_core.specs.declared.profile.Profile.{Profile}
use Rattle.graph_core.specs.declared.profile.Profile.TheVariants.{Multiplier, MultiplyAdd, Given, Any}
use Rattle.graph_core.specs.Graph.Literals.{variable_of}
use Rattle.graph_core.specs.Graph.{Aig, IsWellFormed, defined}
use Rattle.graph_core.specs.Aiger.{HasCounts, given_inputs}
use Rattle.graph_core.specs.Aiger.Sizes.{IsSizedAs}
use Rattle.graph_core.specs.Aiger.Writing.{written, written_gate}
use Rattle.graph_core.proofs.OfGraphs.CallerLemmas.{few_numbers, input_in_range}
use Rattle.graph_core.proofs.OfAiger.CallerLemmas.{ascii_text_spells, binary_text_spells, outputs_fit, widths_fit}
use Rattle.aiger_reader.specs.Written.{AsciiSpellsAgain, BinarySpellsAgain}

module _ (g : Aig) (well : IsWellFormed g) where
  abbrev IsVariable : ℕ → Type 0
  IsVariable v = (0 < v) × (v ≤ g.max)

  pub room : length g.inputs + length g.gates ≤ g.max
  room =
      let few = few_numbers (defined g) g.max well.defined_once.once
      (All-append IsVariable (map variable_of g.inputs) (map (λ x. x.v) g.gates)
      (All-map IsVariable variable_of g.inputs
      (λ k d below. let low = input_in_range g well (slice_index_or g.inputs k d) (Contains-get_or g.inputs k d below) in (low.1, omega (arith, low.0))))
      (All-map IsVariable (λ x. x.v) g.gates (λ k d below. (well.defined_once.gates k d below, well.gates_in_range k d below)))) in
      omega (arith, length-append (map variable_of g.inputs) (map (λ x. x.v) g.gates), length-map g.inputs variable_of, length-map g.gates (λ x. x.v))

  written_room : length g.inputs + length (written g).gates ≤ g.max
  written_room = omega (arith, room, length-map g.gates written_gate)

  counted : (profile : Profile) → IsSizedAs profile g → HasCounts profile (written g)
  counted Multiplier sized =
      let inputs = sized.shape.inputs in
      let some_outputs = sized.shape.some_outputs in
      let outputs = sized.shape.outputs in
      let some = sized.some in
      let narrow = sized.narrow in
      record { max = sized.small; step = omega arith; some = omega arith; few = omega arith; some_outputs = omega arith; outputs = omega arith; room = written_room }
  counted MultiplyAdd sized =
      let inputs = sized.shape.inputs in
      let some_outputs = sized.shape.some_outputs in
      let outputs = sized.shape.outputs in
      let some = sized.some in
      let narrow = sized.narrow in
      record { max = sized.small; step = omega arith; some = omega arith; few = omega arith; some_outputs = omega arith; outputs = omega arith; room = written_room }
  counted (Given a b add) sized =
      let inputs = sized.shape.inputs in
      let fit = widths_fit a b sized.some_a sized.narrow_a sized.some_b sized.narrow_b in
      record {
        max = sized.small;
        step = omega arith;
        some = subst (λ t. cond t (given_inputs a b add) 1 ≤ length g.inputs) (sym fit) (omega arith);
        few = subst (λ t. length g.inputs ≤ cond t (given_inputs a b add) 0) (sym fit) (omega arith);
        some_outputs = omega (arith, sized.shape.some_outputs);
        outputs = outputs_fit add (a + b) (length g.inputs) (length g.outputs) inputs sized.shape.outputs;
        room = written_room;
      }
  counted Any sized =
      record { max = sized.small; step = omega arith; some = omega arith; few = sized.few_inputs; some_outputs = omega (arith, sized.some_outputs); outputs = sized.few_outputs; room = written_room }

pub ascii_spells_again : AsciiSpellsAgain
ascii_spells_again profile g well sized = ascii_text_spells profile g well (counted g well profile sized)

pub binary_spells_again : BinarySpellsAgain
binary_spells_again profile g well sized packed = binary_text_spells profile g packed (counted g well profile sized)
