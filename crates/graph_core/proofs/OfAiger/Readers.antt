-- The readers of a graph text are steady: none of them looks past what it takes or refuses.
use Rattle.std.specs.Prelude.{◌≡◌, ℕ, zero, suc, ◌*◌, ◌+◌, ◌-◌, Bool, true, false, cond, ◌&&◌, ◌⊎◌, List, [], ◌∷◌, map, ◌==◌, nat_le, nat_lt, Option, Some, None, Result, Ok, Err}
use Rattle.std.proofs.Common.{refl, sym, ap, subst, ◌∙◌, inl, inr, eq-eqb}
use Rattle.graph_core.specs.declared.literal.Lit.{Lit}
use Rattle.graph_core.specs.Text.{space, newline}
use Rattle.graph_core.specs.Aiger.{Form, Ascii, Binary, Counts, Listing, symbol_bound}
use Rattle.graph_core.specs.Aiger.Reading.{Stop, Stops, Wrong, ◌>>=◌, Go, Done, No, Bad, advance, scan, from_start, done_if, byte_where, the_byte, byte_at, Digits, Before, Behind, judged, ended, digit_step, numeral_at, field_at, number_below, line_at, lines_at, behind_number, one_less, numbers_at, form_of, header_at, lit_of, gate_of, ascii_at, group_step, groups_at, in_range, difference_at, lit, consecutive, gates_at, binary_at, body_at, name_step, symbol_at}
use Rattle.graph_core.proofs.OfTexts.Steady.{Outcome, Whole, Steady, both, both_steady, pure, pure_steady, if_steady, started_steady, scan_steady}
use Rattle.graph_core.specs.Text.Numerals.{is_digit}

pub byte_where_steady : {A : Type 0} (meaning : ℕ → Option A) (b : ℕ) (a : A) → meaning b ≡ Some a → Steady (byte_where meaning)
byte_where_steady {A} meaning b a e = scan_steady (λ s x. done_if (meaning x)) (λ s. (b ∷ [], inl ((a, []), refl, ap (λ o. advance {A = A} (λ t. Err (Stops [])) b [] (done_if o)) e))) tt

pub byte_steady : (x : ℕ) → Steady (byte_at x)
byte_steady x = byte_where_steady (the_byte x) x tt (ap (λ c. cond c (Some tt) None) (eq_same x))
  where
    eq_same : (n : ℕ) → (n == n) ≡ true
    eq_same n = eq-eqb n n refl

-- ---- numerals

module _ (ends fits : ℕ → Bool) (e : ℕ) (stop : ends e ≡ true) (other : is_digit e ≡ false) where
  behind_ends : (k n : ℕ) → Outcome Whole (scan (digit_step ends fits) (Behind k n)) (e ∷ [])
  behind_ends zero n = inl (((n, e), []), refl, ap (λ c. advance (λ t. scan (digit_step ends fits) t []) e [] (cond c (Done (n, e)) No)) stop)
  behind_ends (suc k) n = inl (
    ((n, e), []),
    refl,
    ap (λ c. advance (λ t. scan (digit_step ends fits) t []) e [] (cond c (judged fits k (10 * n + (e - 48))) (ended ends n e))) other ∙
        ap (λ c. advance (λ t. scan (digit_step ends fits) t []) e [] (cond c (Done (n, e)) No)) stop,
  )

  before_ends : (c : Bool) → fits 0 ≡ c → Outcome Whole (scan (digit_step ends fits) Before) (48 ∷ e ∷ [])
  before_ends true f =
      let o = behind_ends 9 0 in
      let P : Result ((ℕ × ℕ) × List ℕ) Stop → Type 0 = λ r. ((x : (ℕ × ℕ) × List ℕ) × Whole x × (r ≡ Ok x)) ⊎ ((here : List ℕ) × (r ≡ Err (Wrong here))) in
      subst P (sym (ap (λ c. advance (λ t. scan (digit_step ends fits) t (e ∷ [])) 48 (e ∷ []) (cond c (Go (Behind 9 0)) Bad)) f)) o
  before_ends false f = inr (48 ∷ e ∷ [], ap (λ c. advance (λ t. scan (digit_step ends fits) t (e ∷ [])) 48 (e ∷ []) (cond c (Go (Behind 9 0)) Bad)) f)

  digits_end : (s : Digits) → (more : List ℕ) × Outcome Whole (scan (digit_step ends fits) s) more
  digits_end Before = (48 ∷ e ∷ [], before_ends (fits 0) refl)
  digits_end (Behind k n) = (e ∷ [], behind_ends k n)

  pub digits_steady : Steady (scan (digit_step ends fits) Before)
  digits_steady = scan_steady (digit_step ends fits) digits_end Before

pub field_steady : (x : ℕ) → is_digit x ≡ false → Steady (field_at x)
field_steady x other =
    both_steady (numeral_at (λ b. b == x)) (λ n. pure n.0) (digits_steady (λ b. b == x) (λ n. true) x (eq-eqb x x refl) other) (λ n. pure_steady n.0)

pub below_steady : (bound : ℕ) → Steady (number_below bound)
below_steady bound =
    both_steady (λ bytes. from_start bytes (scan (digit_step (λ b. b == space) (λ n. nat_lt n bound)) Before bytes)) (λ n. pure n.0)
    (started_steady (scan (digit_step (λ b. b == space) (λ n. nat_lt n bound)) Before) (digits_steady (λ b. b == space) (λ n. nat_lt n bound) space refl refl))
    (λ n. pure_steady n.0)

-- ---- lines

pub line_steady : (k : ℕ) → Steady (line_at k)
line_steady zero = both_steady (field_at newline) (λ n. pure (n ∷ [])) (field_steady newline refl) (λ n. pure_steady (n ∷ []))
line_steady (suc k) =
    both_steady (field_at space) (λ n. both (line_at k) (λ ns. pure (n ∷ ns))) (field_steady space refl)
    (λ n. both_steady (line_at k) (λ ns. pure (n ∷ ns)) (line_steady k) (λ ns. pure_steady (n ∷ ns)))

pub lines_steady : (k n : ℕ) → Steady (lines_at k n)
lines_steady k zero = pure_steady []
lines_steady k (suc n) =
    both_steady (line_at k) (λ line. both (lines_at k n) (λ lines. pure (line ∷ lines))) (line_steady k)
    (λ line. both_steady (lines_at k n) (λ lines. pure (line ∷ lines)) (lines_steady k n) (λ lines. pure_steady (line ∷ lines)))

-- ---- the header

numeral_steady : (need more : ℕ) → Steady (numeral_at (behind_number need (suc more)))
numeral_steady zero more = digits_steady (behind_number zero (suc more)) (λ n. true) newline refl refl
numeral_steady (suc need) more = digits_steady (behind_number (suc need) (suc more)) (λ n. true) space refl refl

pub numbers_steady : (need more : ℕ) → Steady (numbers_at need more)
numbers_steady need zero = both_steady (field_at newline) (λ n. pure (n ∷ [])) (field_steady newline refl) (λ n. pure_steady (n ∷ []))
numbers_steady need (suc more) =
    both_steady (numeral_at (behind_number need (suc more)))
    (λ n bytes. cond (n.1 == newline) (Ok (n.0 ∷ [], bytes)) (numbers_at (one_less need) more bytes >>= λ ns. Ok (n.0 ∷ ns.0, ns.1)))
    (numeral_steady need more)
    (λ n. if_steady (n.1 == newline) (pure (n.0 ∷ [])) (both (numbers_at (one_less need) more) (λ ns. pure (n.0 ∷ ns))) (pure_steady (n.0 ∷ []))
    (both_steady (numbers_at (one_less need) more) (λ ns. pure (n.0 ∷ ns)) (numbers_steady (one_less need) more) (λ ns. pure_steady (n.0 ∷ ns))))

pub header_steady : Steady header_at
unfolding header_at
header_steady =
    both_steady (byte_at 97) (λ a. both (byte_where form_of) (λ form. both (byte_at 103) (λ g. both (byte_at space) (λ blank. both (numbers_at 4 8) (λ numbers. pure (form, numbers))))))
    (byte_steady 97) (λ a. both_steady (byte_where form_of) (λ form. both (byte_at 103) (λ g. both (byte_at space) (λ blank. both (numbers_at 4 8) (λ numbers. pure (form, numbers)))))
    (byte_where_steady form_of 97 Ascii refl) (λ form. both_steady (byte_at 103) (λ g. both (byte_at space) (λ blank. both (numbers_at 4 8) (λ numbers. pure (form, numbers))))
    (byte_steady 103) (λ g. both_steady (byte_at space) (λ blank. both (numbers_at 4 8) (λ numbers. pure (form, numbers)))
    (byte_steady space) (λ blank. both_steady (numbers_at 4 8) (λ numbers. pure (form, numbers))
    (numbers_steady 4 8) (λ numbers. pure_steady (form, numbers))))))

-- ---- the body

abbrev listed : Counts → List (List ℕ) → List (List ℕ) → List (List ℕ) → Listing
listed c ins outs gates = record { max = c.max; inputs = map lit_of ins; outputs = map lit_of outs; gates = map gate_of gates }

pub ascii_steady : (c : Counts) → Steady (ascii_at c)
unfolding ascii_at
ascii_steady c =
    both_steady (lines_at 0 c.inputs) (λ ins. both (lines_at 0 c.outputs) (λ outs. both (lines_at 2 c.gates) (λ gates. pure (listed c ins outs gates))))
    (lines_steady 0 c.inputs) (λ ins. both_steady (lines_at 0 c.outputs) (λ outs. both (lines_at 2 c.gates) (λ gates. pure (listed c ins outs gates)))
    (lines_steady 0 c.outputs) (λ outs. both_steady (lines_at 2 c.gates) (λ gates. pure (listed c ins outs gates))
    (lines_steady 2 c.gates) (λ gates. pure_steady (listed c ins outs gates))))

groups_steady : Steady groups_at
groups_steady = scan_steady group_step (λ s. (0 ∷ [], inl ((s.value + s.weight * 0, []), refl, refl))) (record { left = 4; weight = 1; value = 0 })

range_steady : (least most n : ℕ) → Steady (in_range least most n)
range_steady least most n = go (nat_le least n && nat_le n most)
  where
    go : (c : Bool) → Steady (λ bytes. cond c (Ok (n, bytes)) (Err (Wrong bytes)))
    go true = pure_steady n
    go false = record {
      takes = λ bytes a rest h. absurd (cc);
      sound = record {
        misfit = λ bytes here h. record { front = []; number = []; after = bytes; is = refl; here_is = cc; again = λ m. refl };
        stuck = λ bytes rest h. absurd (cc);
        ends = ([], inr ([], refl));
      };
    }

pub difference_steady : (least most : ℕ) → Steady (difference_at least most)
difference_steady least most = started_steady (both groups_at (in_range least most)) (both_steady groups_at (in_range least most) groups_steady (range_steady least most))

abbrev gate_from : ℕ → ℕ → ℕ → Lit × Lit × Lit
gate_from left x y = (lit left, lit (left - x), lit (left - x - y))

pub gates_steady : (left k : ℕ) → Steady (gates_at left k)
gates_steady left zero = pure_steady []
gates_steady left (suc k) =
    both_steady (difference_at 1 left) (λ x. both (difference_at 0 (left - x)) (λ y. both (gates_at (left + 2) k) (λ ts. pure (gate_from left x y ∷ ts))))
    (difference_steady 1 left) (λ x. both_steady (difference_at 0 (left - x)) (λ y. both (gates_at (left + 2) k) (λ ts. pure (gate_from left x y ∷ ts)))
    (difference_steady 0 (left - x)) (λ y. both_steady (gates_at (left + 2) k) (λ ts. pure (gate_from left x y ∷ ts))
    (gates_steady (left + 2) k) (λ ts. pure_steady (gate_from left x y ∷ ts))))

pub binary_steady : (c : Counts) → Steady (binary_at c)
unfolding binary_at
binary_steady c =
    both_steady (lines_at 0 c.outputs) (λ outs. both (gates_at (2 * c.inputs + 2) c.gates) (λ gates. pure (record { max = c.max; inputs = consecutive 2 c.inputs; outputs = map lit_of outs; gates = gates })))
    (lines_steady 0 c.outputs) (λ outs. both_steady (gates_at (2 * c.inputs + 2) c.gates) (λ gates. pure (record { max = c.max; inputs = consecutive 2 c.inputs; outputs = map lit_of outs; gates = gates }))
    (gates_steady (2 * c.inputs + 2) c.gates) (λ gates. pure_steady (record { max = c.max; inputs = consecutive 2 c.inputs; outputs = map lit_of outs; gates = gates })))

pub body_steady : (form : Form) (c : Counts) → Steady (body_at form c)
body_steady Ascii c = ascii_steady c
body_steady Binary c = binary_steady c

-- ---- what follows the gates

pub symbol_steady : (c : Counts) → Steady (symbol_at c)
unfolding symbol_at
symbol_steady c =
    both_steady (byte_where (symbol_bound c)) (λ bound. both (number_below bound) (λ n. scan name_step tt)) (byte_where_steady (symbol_bound c) 105 c.inputs refl)
    (λ bound. both_steady (number_below bound) (λ n. scan name_step tt) (below_steady bound)
    (λ n. scan_steady name_step (λ s. (newline ∷ [], inl ((tt, []), refl, refl))) tt))
