-- Two words and a first carry, added without the last carry.
use Rattle.std.specs.Prelude.{◌≡◌, ℕ, ◌+◌, ◌*◌, ◌^◌, ◌≤◌, List, map, length, drop}
use Rattle.std.specs.declared.option.Option.TheVariants.{Some}
use Rattle.std.proofs.Common.{sym, ap, ◌∙◌, arith}
use Rattle.std.proofs.lemmas.List.{length-map}
use Rattle.graph_core.specs.declared.literal.Lit.{Lit}
use Rattle.graph_core.specs.Graph.Literals.{variable_of}
use Rattle.graph_core.specs.Graph.Assignments.{Assignment, bit, literal, word}
use Rattle.graph_maker.specs.Builder.{Builder}
use Rattle.graph_maker.specs.Ripple.{ripple, add_words}
use Rattle.graph_maker.proofs.CellFacts.{Holds, ripple_row_adds}
use Rattle.graph_maker.proofs.AddersAdd.{length-ripple}
use Rattle.graph_maker.proofs.ArrayAdds.{length-take_to, word-split, word_or-some}
use Rattle.graph_maker.proofs.Places.{AreUpTo, IsBuilt, IsOutputs, ripple_placed, up-some, up-take}
use Rattle.graph_maker.proofs.Sizes.{ripple_few}

pub length-add_words : (b : Builder) (xs ys : List Lit) (c : Lit) → length (add_words b xs ys c).outputs ≡ length ys
length-add_words b xs ys c = length-take_to (length ys) (ripple b (map Some xs) ys (Some c)).outputs (omega (arith, length-ripple b (map Some xs) ys (Some c)))

-- up to a multiple of 2 ^ n, for words of n bits
pub words_add : (σ : Assignment) (b : Builder) (xs ys : List Lit) (c : Lit) → length xs ≤ length ys → Holds σ (add_words b xs ys c).builder →
    Holds σ b × ((g : ℕ) × (word σ (add_words b xs ys c).outputs + 2 ^ length ys * g ≡ word σ xs + word σ ys + bit (literal σ c)))
words_add σ b xs ys c short h =
    let n = length ys in
    let r = ripple b (map Some xs) ys (Some c) in
    let sum = ripple_row_adds σ b (map Some xs) ys (Some c) (omega (arith, length-map xs Some)) h in
    let whole : word σ r.outputs ≡ word σ xs + word σ ys + bit (literal σ c) = sum.1 ∙ ap (λ z. z + word σ ys + bit (literal σ c)) (word_or-some σ xs) in
    (sum.0, (word σ (drop n r.outputs), sym (word-split σ n r.outputs (omega (arith, length-ripple b (map Some xs) ys (Some c)))) ∙ whole))

pub words_placed : (m : ℕ) (b : Builder) (xs ys : List Lit) (c : Lit) → IsBuilt m b → AreUpTo b.last xs → AreUpTo b.last ys → variable_of c ≤ b.last → IsOutputs m b (add_words b xs ys c)
words_placed m b xs ys c h lx ly lc =
    let r = ripple b (map Some xs) ys (Some c) in
    let out = ripple_placed m b (map Some xs) ys (Some c) h (up-some b.last xs lx) ly lc in
    record { next = out.next; outputs = up-take r.builder.last (length ys) r.outputs out.outputs }

pub words_few : (b : Builder) (xs ys : List Lit) (c : Lit) → (add_words b xs ys c).builder.last ≤ b.last + 7 * length ys
words_few b xs ys c = ripple_few b (map Some xs) ys (Some c)
