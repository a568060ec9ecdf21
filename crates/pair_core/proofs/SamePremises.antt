-- Premises that say the same.
use Rattle.std.specs.Prelude.{◌≡◌, ℕ, List, [], ◌∷◌}
use Rattle.std.specs.List.{All}
use Rattle.std.proofs.Common.{refl, sym, ◌∙◌}
use Rattle.std.proofs.lemmas.List.Elements.{All-cons, All-head, All-tail}
use Rattle.algebra_core.specs.AlgebraLines.{Ledger, Premises}
use Rattle.algebra_core.specs.Agreement.{AreSameImports, AreSamePremises, LedgersAgree}
use Rattle.graph_core.specs.Graph.Assignments.{Assignment}
use Rattle.algebra_core.proofs.CallerLemmas.{agree_sym, agree_trans, imports_refl}

-- ledgers with nothing but values to import
abbrev alone : List (Assignment → ℕ) → Ledger
alone fs = record { live = []; last = 0; imports = fs }

alike : (fs gs : List (Assignment → ℕ)) → AreSameImports fs gs → LedgersAgree (alone fs) (alone gs)
alike fs gs same = record { last = refl; lines = λ id. tt; imports = same }

pub same_self : (p : Premises) → AreSamePremises p p
same_self p = record { version = refl; extended = refl; imports = imports_refl p.imports }

pub same_back : (p q : Premises) → AreSamePremises p q → AreSamePremises q p
same_back p q h = record {
  version = sym h.version;
  extended = sym h.extended;
  imports = (agree_sym (alone p.imports) (alone q.imports) (alike p.imports q.imports h.imports)).imports;
}

pub same_joined : (p q r : Premises) → AreSamePremises p q → AreSamePremises q r → AreSamePremises p r
same_joined p q r h k = record {
  version = h.version ∙ k.version;
  extended = h.extended ∙ k.extended;
  imports = (agree_trans (alone p.imports) (alone q.imports) (alone r.imports) (alike p.imports q.imports h.imports) (alike q.imports r.imports k.imports)).imports;
}

-- what holds of each value holds of the same ones
pub same_all : (P : (Assignment → ℕ) → Type 0) → ((f g : Assignment → ℕ) → ((σ : Assignment) → f σ ≡ g σ) → P g → P f) → (fs gs : List (Assignment → ℕ)) → AreSameImports fs gs → All P gs → All P fs
same_all P move [] [] same h = h
same_all P move [] (g ∷ gs) same h = absurd same
same_all P move (f ∷ fs) [] same h = absurd same
same_all P move (f ∷ fs) (g ∷ gs) same h = All-cons P f fs (move f g same.0 (All-head P g gs h)) (same_all P move fs gs same.1 (All-tail P g gs h))
