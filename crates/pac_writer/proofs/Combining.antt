-- What is asked of a combination, or a deletion, makes it one that may follow.
use Rattle.std.specs.Prelude.{◌≡◌, ℕ, ◌+◌, ◌<◌, ◌≤◌, ◌^◌, cond, ◌==◌, List, [], ◌∷◌, IfSome, IsSome}
use Rattle.std.specs.declared.option.Option.TheVariants.{Some}
use Rattle.std.specs.List.{AllByRecursion}
use Rattle.std.proofs.Common.{refl, subst, arith, ⊎_elim, eqb-true}
use Rattle.std.proofs.lemmas.Bool.{cases_Bool}
use Rattle.std.proofs.lemmas.List.Elements.{All-from_recursion, All-map, recursion_from_All}
use Rattle.algebra_core.specs.NormalForm.{IsNormalForm}
use Rattle.algebra_core.specs.AlgebraLines.{LiveLine, Closes, Delete, IsCombined, IsLive, Part, line_of}
use Rattle.graph_core.specs.Graph.Extended.{modulus}
use Rattle.algebra_core.specs.Text.{IsId}
use Rattle.frontier_core.specs.Pending.{AreSpare}
use Rattle.frontier_core.proofs.Gathered.{spare_is_lawful}
use Rattle.poly_terms.specs.Tables.{Table, Sum, IsOf, monomials_in}
use Rattle.poly_terms.proofs.Values.{normal as monomials_are_normal}
use Rattle.poly_text.specs.declared.line.PacLine.TheVariants as line
use Rattle.poly_text.specs.Lines.{part_in, parts_in}
use Rattle.pac_writer.specs.Writing.{Made, AreLawfulSoFar, ArePartsOver, combination_of, written_ledger}
use Rattle.pac_writer.specs.Kept.{CanFollowLines, IsKeptLine}

-- ---- ids of live lines

live_is_up_to : (live : List LiveLine) (id last : ℕ) → AllByRecursion (λ line. (0 < line.id) × (line.id ≤ last)) live → IsLive live id → (0 < id) × (id ≤ last)
live_is_up_to [] id last h is = absurd (cc is)
live_is_up_to (l ∷ live) id last h is =
    ⊎_elim
    (λ here. subst (λ k. (0 < k) × (k ≤ last)) (eqb-true l.id id here) h.0)
    (λ there. live_is_up_to live id last h.1 (subst (λ b. IsSome (cond b (Some l) (line_of live id))) there is))
    (cases_Bool (l.id == id))

pub live_is_id : (old : Made) (id : ℕ) → AreLawfulSoFar old → IsLive (written_ledger old).live id → IsId id
live_is_id old id h live =
    let within = live_is_up_to (written_ledger old).live id old.last (recursion_from_All (λ line. (0 < line.id) × (line.id ≤ old.last)) (written_ledger old).live h.ids) live in
    (within.0, (let far = within.1 in let room = h.room in omega arith))

pub closing_is_id : (old : Made) (id : ℕ) → AreLawfulSoFar old → old.closing ≡ Some id → IsId id
closing_is_id old id h closed =
    let closes : Closes old.extended old.sides (written_ledger old).live id = subst (λ q. IfSome q (Closes old.extended old.sides (written_ledger old).live)) closed h.closes in
    live_is_id old id h closes.0

-- ---- parts

part_ids : (old : Made) (t : Table) (parts : List (ℕ × Sum)) → AreLawfulSoFar old → AllByRecursion (λ (p : Part). IsLive (written_ledger old).live p.id) (parts_in t parts) → AllByRecursion (λ part. IsId part.0) parts
part_ids old t [] h live = tt
part_ids old t (part ∷ parts) h live = (live_is_id old part.0 h live.0, part_ids old t parts h live.1)

normal : (old : Made) (p : Sum) → AreLawfulSoFar old → IsOf old.table p → IsNormalForm (modulus old.extended) (monomials_in old.table p)
normal old p h is = subst (λ m. IsNormalForm m (monomials_in old.table p)) h.same_modulus (monomials_are_normal old.table p is)

-- ---- lines

pub combination_is_kept : (old : Made) (parts : List (ℕ × Sum)) (poly : Sum) (id : ℕ) → AreLawfulSoFar old → id ≡ old.last + 1 → id < 2 ^ 48 →
    ArePartsOver old.extended.max old.table parts poly → AreSpare (modulus old.extended) (written_ledger old).live (parts_in old.table parts) →
    IsKeptLine old.extended.max old.table (line.Combination id parts poly)
combination_is_kept old parts poly id h is room over spare = record {
  goes_on = tt;
  «of» = ((λ k d low. (over.factors k d low).0), over.stated.0);
  writable = (
    (omega arith, room),
    All-from_recursion (λ part. IsId part.0) parts
        (part_ids old old.table parts h (recursion_from_All (λ (p : Part). IsLive (written_ledger old).live p.id) (parts_in old.table parts) spare.live)),
    over.some,
  );
  up_to = ((λ k d low. (over.factors k d low).1), over.stated.1);
}

pub combination_can_follow : (old : Made) (parts : List (ℕ × Sum)) (poly : Sum) (id : ℕ) → AreLawfulSoFar old → id ≡ old.last + 1 → id < 2 ^ 48 →
    ArePartsOver old.extended.max old.table parts poly → AreSpare (modulus old.extended) (written_ledger old).live (parts_in old.table parts) →
    IsCombined (modulus old.extended) (written_ledger old).live (parts_in old.table parts) (monomials_in old.table poly) → CanFollowLines old id (combination_of old.table id parts poly)
combination_can_follow old parts poly id h is room over spare equal = record {
  lawful = spare_is_lawful (modulus old.extended) (written_ledger old) (parts_in old.table parts) id (monomials_in old.table poly) spare (let last = h.greatest in omega arith) equal;
  spare = record {
    once = spare.once;
    nonzero = spare.nonzero;
    factors = All-map (λ (p : Part). IsNormalForm (modulus old.extended) p.factor) (part_in old.table) parts (λ k d low. normal old _ h (over.factors k d low).0);
    stated = normal old poly h over.stated.0;
  };
  greatest = refl;
  room = room;
}

pub deletion_is_kept : (old : Made) (id : ℕ) → AreLawfulSoFar old → IsLive (written_ledger old).live id → IsKeptLine old.extended.max old.table (line.Drop id)
deletion_is_kept old id h live = record { goes_on = tt; «of» = tt; writable = live_is_id old id h live; up_to = tt }

pub deletion_can_follow : (old : Made) (id : ℕ) → AreLawfulSoFar old → IsLive (written_ledger old).live id → CanFollowLines old old.last (Delete id)
deletion_can_follow old id h live = record {
  lawful = record { new_id = tt; there = tt; live_operands = All-from_recursion (IsLive (written_ledger old).live) (id ∷ []) (live, tt); equal = λ σ. refl };
  spare = tt;
  greatest = h.greatest;
  room = h.room;
}
