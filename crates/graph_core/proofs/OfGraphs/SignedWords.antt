-- The numbers of signed literals, and of an addend on top.
use Rattle.std.specs.Prelude.{◌≡◌, ℕ, zero, suc, ◌+◌, ◌*◌, ◌-◌, ◌%◌, ◌^◌, ◌<◌, ◌≤◌, Bool, true, false, cond, List, [], ◌∷◌, length, nat_lt}
use Rattle.std.specs.List.{AllByRecursion}
use Rattle.std.proofs.Common.{refl, sym, ap, ap₂, ◌∙◌, arith, pow-suc}
use Rattle.std.proofs.Math.Nat.{add-mul-mod_self_left}
use Rattle.std.proofs.lemmas.Bool.{lt-ltb, le-ltb}
use Rattle.graph_core.specs.declared.literal.Lit.{Lit}
use Rattle.graph_core.specs.declared.sign.Sign.{Sign}
use Rattle.graph_core.specs.declared.sign.Sign.TheVariants.{Unsigned, Signed}
use Rattle.graph_core.specs.Graph.Assignments.{Assignment, literal, bit, word}
use Rattle.graph_core.specs.Graph.Operands.{Sides, claimed, signed_word, operand_word, plus_word, number_as}
use Rattle.graph_core.proofs.OfGraphs.OperandPlaces.{bit_low}

-- an addend is on top, whether or not there is one
pub plus_word_is : (n : ℕ) (σ : Assignment) (ls : List Lit) → plus_word n σ ls ≡ n + word σ ls
plus_word_is n σ [] = omega arith
plus_word_is n σ (l ∷ ls) = refl

-- the value of the last literal
abbrev pub top : Assignment → List Lit → ℕ
top σ [] = 0
top σ (l ∷ []) = bit (literal σ l)
top σ (l ∷ k ∷ ls) = top σ (k ∷ ls)

pub top_low : (σ : Assignment) (l : Lit) (ls : List Lit) → top σ (l ∷ ls) ≤ 1
top_low σ l [] = bit_low (literal σ l)
top_low σ l (k ∷ ls) = top_low σ k ls

-- minus a number and that number
minus_plus : (d m x : ℕ) → d + 1 ≡ m → d * x + x ≡ m * x
minus_plus d m x e = omega (arith, ap (λ k. k * x) e)

signed_step : (b s w m x y z : ℕ) → s + y ≡ w + m * x → y ≡ 2 * x → z ≡ 2 * y → (b + 2 * s) + z ≡ (b + 2 * w) + m * y
signed_step b s w m x y z h p q =
    let e : m * y ≡ 2 * (m * x) = ap (λ u. m * u) p ∙ omega arith in
    omega arith

doubled : (j t : ℕ) → 2 ^ suc j * t ≡ 2 * (2 ^ j * t)
doubled j t = ap (λ z. z * t) (pow-suc 2 j) ∙ omega arith

-- A signed word is the unsigned one, less 2 ^ n times the last literal.
pub signed_is : (m : ℕ) (σ : Assignment) (l : Lit) (ls : List Lit) → 0 < m →
    signed_word m σ (l ∷ ls) + 2 ^ suc (length ls) * top σ (l ∷ ls) ≡ word σ (l ∷ ls) + m * (2 ^ length ls * top σ (l ∷ ls))
signed_is m σ l [] pos =
    let b = bit (literal σ l) in
    let minus : (m - 1) * b + b ≡ m * b = minus_plus (m - 1) m b (omega arith) in
    ap (λ z. (m - 1) * b + z) (doubled 0 b) ∙ base ((m - 1) * b) b (m * b) minus ∙ ap (λ z. (b + 2 * 0) + m * z) (once b)
  where
    once : (x : ℕ) → x ≡ 2 ^ 0 * x
    once x = omega arith

    base : (d x y : ℕ) → d + x ≡ y → d + 2 * (2 ^ 0 * x) ≡ (x + 2 * 0) + y
    base d x y e = omega arith
signed_is m σ l (k ∷ ls) pos =
    signed_step (bit (literal σ l)) (signed_word m σ (k ∷ ls)) (word σ (k ∷ ls)) m (2 ^ length ls * top σ (k ∷ ls)) (2 ^ suc (length ls) * top σ (k ∷ ls)) (2 ^ suc (suc (length ls)) * top σ (k ∷ ls))
    (signed_is m σ k ls pos) (doubled (length ls) (top σ (k ∷ ls))) (doubled (suc (length ls)) (top σ (k ∷ ls)))

-- the last literal is the highest bit
pub word_top : (σ : Assignment) (l : Lit) (ls : List Lit) → (r : ℕ) × (r < 2 ^ length ls) × (word σ (l ∷ ls) ≡ r + 2 ^ length ls * top σ (l ∷ ls))
word_top σ l [] = (0, omega arith, omega arith)
word_top σ l (k ∷ ls) =
    let rest = word_top σ k ls in
    let b = bit (literal σ l) in
    let low = bit_low (literal σ l) in
    let small : rest.0 < 2 ^ length ls = rest.1 in
    let is : word σ (k ∷ ls) ≡ rest.0 + 2 ^ length ls * top σ (k ∷ ls) = rest.2 in
    (b + 2 * rest.0, omega (arith, pow-suc 2 (length ls)), ap (λ w. b + 2 * w) is ∙ omega (arith, doubled (length ls) (top σ (k ∷ ls))))

-- ---- the number that a signed word stands for

chosen : (m n w : ℕ) (b : Bool) → nat_lt w (2 ^ n) ≡ b → cond b w (w + (m - 1) * 2 ^ suc n) ≡ number_as Signed m (suc n) w
chosen m n w b e =
    let here : n ≡ suc n - 1 = omega arith in
    ap (λ c. cond c w (w + (m - 1) * 2 ^ suc n)) (sym e) ∙ ap (λ k. cond (nat_lt w (2 ^ k)) w (w + (m - 1) * 2 ^ suc n)) here

joined : (s w d p x y : ℕ) → s + p ≡ w + x → d + p ≡ y → s + y ≡ (w + d) + x
joined s w d p x y h k = omega arith

-- by the highest bit t, what is below it, and a number that is 2 ^ suc n less where that bit is 1
by_top : (m n s w r t : ℕ) → 0 < m → t ≤ 1 → r < 2 ^ n → w ≡ r + 2 ^ n * t → s + 2 ^ suc n * t ≡ w + m * (2 ^ n * t) → s % m ≡ number_as Signed m (suc n) w % m
by_top m n s w r zero pos one small is e =
    let none : m * (2 ^ n * 0) ≡ 0 = ap (λ x. m * x) (nothing (2 ^ n)) ∙ nothing m in
    let low : w < 2 ^ n = omega (arith, nothing (2 ^ n)) in
    let same : s ≡ w = omega (arith, nothing (2 ^ suc n)) in
    ap (λ x. x % m) (same ∙ chosen m n w true (lt-ltb w (2 ^ n) low))
  where
    nothing : (x : ℕ) → x * 0 ≡ 0
    nothing x = omega arith
by_top m n s w r (suc zero) pos one small is e =
    let high : 2 ^ n ≤ w = omega (arith, once (2 ^ n)) in
    let more : m * (2 ^ n * 1) ≡ m * 2 ^ n = ap (λ x. m * x) (once (2 ^ n)) in
    let minus : (m - 1) * 2 ^ suc n + 2 ^ suc n ≡ m * 2 ^ suc n = minus_plus (m - 1) m (2 ^ suc n) (omega arith) in
    let both : s + m * 2 ^ suc n ≡ (w + (m - 1) * 2 ^ suc n) + m * 2 ^ n =
    joined s w ((m - 1) * 2 ^ suc n) (2 ^ suc n) (m * 2 ^ n) (m * 2 ^ suc n) (ap (λ z. s + z) (sym (once (2 ^ suc n))) ∙ e ∙ ap (λ z. w + z) more) minus in
    sym (add-mul-mod_self_left s m (2 ^ suc n)) ∙ ap (λ z. z % m) both ∙ add-mul-mod_self_left (w + (m - 1) * 2 ^ suc n) m (2 ^ n) ∙
    ap (λ z. z % m) (chosen m n w false (le-ltb w (2 ^ n) high))
  where
    once : (x : ℕ) → x * 1 ≡ x
    once x = omega arith
by_top m n s w r (suc (suc t)) pos one small is e = absurd (omega arith)

signed_number : (m : ℕ) (σ : Assignment) (l : Lit) (ls : List Lit) → 0 < m →
    signed_word m σ (l ∷ ls) % m ≡ number_as Signed m (suc (length ls)) (word σ (l ∷ ls)) % m
signed_number m σ l ls pos =
    let at = word_top σ l ls in
    by_top m (length ls) (signed_word m σ (l ∷ ls)) (word σ (l ∷ ls)) at.0 (top σ (l ∷ ls)) pos (top_low σ l ls) at.1 at.2 (signed_is m σ l ls pos)

-- An operand's literals stand for the number of their word, by how they count.
pub operand_number : (m : ℕ) (sign : Sign) (σ : Assignment) (ls : List Lit) (n a : ℕ) → 0 < m → word σ ls ≡ a → length ls ≡ n →
    operand_word m sign σ ls % m ≡ number_as sign m n a % m
operand_number m Unsigned σ ls n a pos is size = ap (λ x. x % m) is
operand_number m Signed σ [] n a pos is size = ap₂ (λ k x. number_as Signed m k x % m) size is
operand_number m Signed σ (l ∷ ls) n a pos is size = signed_number m σ l ls pos ∙ ap₂ (λ k x. number_as Signed m k x % m) size is

-- ---- what is claimed hangs on the literals of the operands alone

word_same : (σ τ : Assignment) (ls : List Lit) → AllByRecursion (λ l. literal τ l ≡ literal σ l) ls → word τ ls ≡ word σ ls
word_same σ τ [] h = refl
word_same σ τ (l ∷ ls) h = ap₂ (λ b n. bit b + 2 * n) h.0 (word_same σ τ ls h.1)

signed_same : (m : ℕ) (σ τ : Assignment) (ls : List Lit) → AllByRecursion (λ l. literal τ l ≡ literal σ l) ls → signed_word m τ ls ≡ signed_word m σ ls
signed_same m σ τ [] h = refl
signed_same m σ τ (l ∷ []) h = ap (λ b. (m - 1) * bit b) h.0
signed_same m σ τ (l ∷ k ∷ ls) h = ap₂ (λ b n. bit b + 2 * n) h.0 (signed_same m σ τ (k ∷ ls) h.1)

operand_same : (m : ℕ) (sign : Sign) (σ τ : Assignment) (ls : List Lit) → AllByRecursion (λ l. literal τ l ≡ literal σ l) ls → operand_word m sign τ ls ≡ operand_word m sign σ ls
operand_same m Unsigned σ τ ls h = word_same σ τ ls h
operand_same m Signed σ τ ls h = signed_same m σ τ ls h

plus_word_same : (x y : ℕ) (σ τ : Assignment) (ls : List Lit) → y ≡ x → AllByRecursion (λ l. literal τ l ≡ literal σ l) ls → plus_word y τ ls ≡ plus_word x σ ls
plus_word_same x y σ τ [] e h = e
plus_word_same x y σ τ (l ∷ ls) e h = ap₂ ◌+◌ e (word_same σ τ (l ∷ ls) h)

pub claim_same : (m : ℕ) (s : Sides) (σ τ : Assignment) → AllByRecursion (λ l. literal τ l ≡ literal σ l) s.a → AllByRecursion (λ l. literal τ l ≡ literal σ l) s.b →
    AllByRecursion (λ l. literal τ l ≡ literal σ l) s.c → claimed m s τ ≡ claimed m s σ
claim_same m s σ τ a b c =
    plus_word_same (operand_word m s.claim.sign σ s.a * operand_word m s.claim.sign σ s.b) (operand_word m s.claim.sign τ s.a * operand_word m s.claim.sign τ s.b) σ τ s.c
    (ap₂ ◌*◌ (operand_same m s.claim.sign σ τ s.a a) (operand_same m s.claim.sign σ τ s.b b)) c
