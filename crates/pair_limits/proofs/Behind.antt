-- Texts that are taken one after the other.
use Rattle.std.specs.Prelude.{◌≡◌, ℕ, List, [], ◌∷◌, ◌++◌}
use Rattle.std.proofs.Common.{refl, sym, ap, subst, ◌∙◌, append_assoc}
use Rattle.pair_limits.specs.declared.room.Room.{Room}
use Rattle.pair_limits.specs.Rooms.{Takes, behind, behind_byte}

-- ---- steps

behind_append : (r : Room) (front rest : List ℕ) → behind (behind r front) rest ≡ behind r (front ++ rest)
unfolding behind
behind_append r [] rest = refl
behind_append r (b ∷ front) rest = behind_append (behind_byte r b) front rest

-- one text after the other
pub text_then : {p q : List ℕ} {a b c : Room} → Takes p a b → Takes q b c → Takes (p ++ q) a c
text_then {p} {q} {a} {b} {c} one two = record { left = two.left ∙ ap (λ r. behind r q) one.left ∙ behind_append a p q }

pub text_is : {p q : List ℕ} {a b : Room} → p ≡ q → Takes p a b → Takes q a b
text_is {p} {q} {a} {b} e = subst (λ t. Takes t a b) e

-- the same, where the later text is in two pieces
pub text_more : {p : List ℕ} (q r : List ℕ) {a b c : Room} → Takes p a b → Takes (q ++ r) b c → Takes (p ++ q ++ r) a c
text_more {p} q r {a} {b} {c} one two = text_is (sym (append_assoc p q r)) (text_then one two)

-- ---- loops

-- Of a whole text this rest is still to be taken.
pub record TakesUpTo (whole rest : List ℕ) (a b : Room) : Type 0 where
  pub same : behind a whole ≡ behind b rest

pub up_to_none : (whole : List ℕ) (a : Room) → TakesUpTo whole whole a a
up_to_none whole a = record { same = refl }

pub up_to_more : {whole rest : List ℕ} {a b c : Room} (piece later : List ℕ) → rest ≡ piece ++ later → TakesUpTo whole rest a b → Takes piece b c → TakesUpTo whole later a c
up_to_more {whole} {rest} {a} {b} {c} piece later is before here =
    record { same = before.same ∙ ap (behind b) is ∙ sym (behind_append b piece later) ∙ ap (λ r. behind r later) (sym here.left) }

pub up_to_all : {whole rest : List ℕ} {a b : Room} → rest ≡ [] → TakesUpTo whole rest a b → Takes whole a b
unfolding behind
up_to_all {whole} {rest} {a} {b} none h = record { left = sym (h.same ∙ ap (behind b) none) }

-- a single byte
pub one_byte : {whole rest : List ℕ} {a b c : Room} (x : ℕ) (later : List ℕ) → rest ≡ x ∷ later → TakesUpTo whole rest a b → c ≡ behind_byte b x → TakesUpTo whole later a c
unfolding behind
one_byte {whole} {rest} {a} {b} {c} x later is before here = record { same = before.same ∙ ap (behind b) is ∙ ap (λ r. behind r later) (sym here) }
