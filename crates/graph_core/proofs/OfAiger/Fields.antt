-- A header's fields, and a text that lists as a header with a rest.
use Rattle.std.specs.Prelude.{◌≡◌, ℕ, ◌+◌, ◌%◌, ◌<◌, ◌≤◌, Bool, true, false, cond, not, ◌||◌, List, [], ◌∷◌, ◌++◌, length, ◌==◌, nat_lt, Option, Some, None}
use Rattle.std.specs.List.{AllByRecursion}
use Rattle.std.proofs.Common.{refl, sym, ap, ap₂, subst, ◌∙◌, arith, append_assoc, inl, inr, eq-eqb, eqb-true, ne_eqb}
use Rattle.std.proofs.lemmas.Bool.{ltb-false, eqb-false}
use Rattle.graph_core.specs.declared.bounds.TheConstants.{MOST_VARIABLES}
use Rattle.graph_core.specs.declared.fault.Field.{Field}
use Rattle.graph_core.specs.declared.fault.Field.TheVariants as field
use Rattle.graph_core.specs.declared.profile.Profile.{Profile}
use Rattle.graph_core.specs.Text.{IsLine}
use Rattle.graph_core.specs.Aiger.{Form, Ascii, Binary, Counts, counts, Listing, input_step, least_inputs, most_inputs, most_outputs, IsHeader, IsTail, HasCounts, Lists}
use Rattle.graph_core.specs.Aiger.Refusal.{zero_fields, has_wrong_inputs, has_wrong_outputs, has_wrong_room, first_refused, refused_field, counts_of, letters, HasHeader, IsBody, IsRest}
use Rattle.graph_core.proofs.OfTexts.Numerals.{not_below}

-- ---- tests

or_false : (b c : Bool) → (b || c) ≡ false → (b ≡ false) × (c ≡ false)
or_false true c h = absurd (cc)
or_false false c h = (refl, h)

not_false : (b : Bool) → not b ≡ false → b ≡ true
not_false true h = refl
not_false false h = absurd (cc)

none_first : (b : Bool) (f : Field) (o : Option Field) → cond b (Some f) o ≡ None → (b ≡ false) × (o ≡ None)
none_first true f o h = absurd (cc)
none_first false f o h = (refl, h)

-- ---- fields that are accepted

pub record AreAccepted (p : Profile) (form : Form) (numbers : List ℕ) : Type 0 where
  pub zeros : List ℕ
  pub few_zeros : length zeros ≤ 4
  pub all_zero : AllByRecursion (λ z. z ≡ 0) zeros
  pub is : numbers ≡ ((counts_of numbers).max ∷ (counts_of numbers).inputs ∷ 0 ∷ (counts_of numbers).outputs ∷ (counts_of numbers).gates ∷ []) ++ zeros
  pub max : (counts_of numbers).max ≤ MOST_VARIABLES
  pub step : (counts_of numbers).inputs % input_step p ≡ 0
  pub some : least_inputs p ≤ (counts_of numbers).inputs
  pub few : (counts_of numbers).inputs ≤ most_inputs p
  pub some_outputs : 0 < (counts_of numbers).outputs
  pub outputs : (counts_of numbers).outputs ≤ most_outputs p (counts_of numbers).inputs
  pub room : (counts_of numbers).inputs + (counts_of numbers).gates ≤ (counts_of numbers).max
  pub full : form ≡ Binary → (counts_of numbers).max ≡ (counts_of numbers).inputs + (counts_of numbers).gates

zeros_from : (fs : List Field) (ns : List ℕ) → length ns ≤ length fs → first_refused (zero_fields fs ns) ≡ None → AllByRecursion (λ z. z ≡ 0) ns
zeros_from fs [] few h = tt
zeros_from [] (n ∷ ns) few h = absurd (omega arith)
zeros_from (f ∷ fs) (n ∷ ns) few h =
    let p = none_first (not (n == 0)) f (first_refused (zero_fields fs ns)) h in
    (eqb-true n 0 (not_false (n == 0) p.0), zeros_from fs ns (omega arith) p.1)

zeros_back : (fs : List Field) (ns : List ℕ) → AllByRecursion (λ z. z ≡ 0) ns → first_refused (zero_fields fs ns) ≡ None
zeros_back [] ns h = refl
zeros_back (f ∷ fs) [] h = refl
zeros_back (f ∷ fs) (n ∷ ns) h = ap (λ b. cond (not b) (Some f) (first_refused (zero_fields fs ns))) (eq-eqb n 0 h.0) ∙ zeros_back fs ns h.1

room_from : (form : Form) (m n : ℕ) → has_wrong_room form m n ≡ false → (n ≤ m) × (form ≡ Binary → m ≡ n)
room_from Ascii m n h = (ltb-false m n h, λ e. absurd (cc))
room_from Binary m n h = let e = eqb-true m n (not_false (m == n) h) in (omega arith, λ p. e)

room_back : (form : Form) (m n : ℕ) → n ≤ m → (form ≡ Binary → m ≡ n) → has_wrong_room form m n ≡ false
room_back Ascii m n low full = not_below m n low
room_back Binary m n low full = ap not (eq-eqb m n (full refl))

pub inputs_from : (p : Profile) (i : ℕ) → has_wrong_inputs p i ≡ false → (i % input_step p ≡ 0) × (least_inputs p ≤ i) × (i ≤ most_inputs p)
inputs_from p i h =
    let step = or_false (not (i % input_step p == 0)) (nat_lt i (least_inputs p) || nat_lt (most_inputs p) i) h in
    let sizes = or_false (nat_lt i (least_inputs p)) (nat_lt (most_inputs p) i) step.1 in
    (eqb-true (i % input_step p) 0 (not_false (i % input_step p == 0) step.0), ltb-false i (least_inputs p) sizes.0, ltb-false (most_inputs p) i sizes.1)

pub inputs_back : (p : Profile) (i : ℕ) → i % input_step p ≡ 0 → least_inputs p ≤ i → i ≤ most_inputs p → has_wrong_inputs p i ≡ false
inputs_back p i step some few =
    ap₂ (λ b c. not b || c) (eq-eqb (i % input_step p) 0 step) (ap₂ ◌||◌ (not_below i (least_inputs p) some) (not_below (most_inputs p) i few))

pub accepted : (p : Profile) (form : Form) (numbers : List ℕ) → 5 ≤ length numbers → length numbers ≤ 9 → refused_field p form numbers ≡ None → AreAccepted p form numbers
accepted p form [] many few h = absurd (omega arith)
accepted p form (m ∷ []) many few h = absurd (omega arith)
accepted p form (m ∷ i ∷ []) many few h = absurd (omega arith)
accepted p form (m ∷ i ∷ l ∷ []) many few h = absurd (omega arith)
accepted p form (m ∷ i ∷ l ∷ o ∷ []) many few h = absurd (omega arith)
accepted p form (m ∷ i ∷ l ∷ o ∷ a ∷ others) many few h =
    let zs : List (Field × Bool) = zero_fields (field.B ∷ field.C ∷ field.J ∷ field.F ∷ []) others in
    let pm = none_first (nat_lt MOST_VARIABLES m) field.M _ h in
    let pi = none_first (has_wrong_inputs p i) field.I _ pm.1 in
    let pl = none_first (not (l == 0)) field.L _ pi.1 in
    let po = none_first (has_wrong_outputs p i o) field.O _ pl.1 in
    let pa = none_first (has_wrong_room form m (i + a)) field.A _ po.1 in
    let inputs = inputs_from p i pi.0 in
    let o1 = or_false (o == 0) (nat_lt (most_outputs p i) o) po.0 in
    let not_none = eqb-false o 0 o1.0 in
    let room = room_from form m (i + a) pa.0 in
    record {
      zeros = others;
      few_zeros = omega arith;
      all_zero = zeros_from (field.B ∷ field.C ∷ field.J ∷ field.F ∷ []) others (omega arith) pa.1;
      is = ap (λ x. m ∷ i ∷ x ∷ o ∷ a ∷ others) (eqb-true l 0 (not_false (l == 0) pl.0));
      max = ltb-false MOST_VARIABLES m pm.0;
      step = inputs.0;
      some = inputs.1;
      few = inputs.2;
      some_outputs = omega arith;
      outputs = ltb-false (most_outputs p i) o o1.1;
      room = room.0;
      full = room.1;
    }

pub none_refused : (p : Profile) (form : Form) (m i o a : ℕ) (zeros : List ℕ) → AllByRecursion (λ z. z ≡ 0) zeros → m ≤ MOST_VARIABLES → i % input_step p ≡ 0 → least_inputs p ≤ i → i ≤ most_inputs p → 0 < o →
    o ≤ most_outputs p i → i + a ≤ m → (form ≡ Binary → m ≡ i + a) → refused_field p form ((m ∷ i ∷ 0 ∷ o ∷ a ∷ []) ++ zeros) ≡ None
none_refused p form m i o a zeros all max step some few some_outputs most room full =
    ap (λ b. cond b (Some field.M) (cond (has_wrong_inputs p i) (Some field.I) (cond (has_wrong_outputs p i o) (Some field.O) (cond (has_wrong_room form m (i + a)) (Some field.A) (first_refused (zero_fields (field.B ∷ field.C ∷ field.J ∷ field.F ∷ []) zeros)))))) (not_below MOST_VARIABLES m max) ∙
    ap (λ b. cond b (Some field.I) (cond (has_wrong_outputs p i o) (Some field.O) (cond (has_wrong_room form m (i + a)) (Some field.A) (first_refused (zero_fields (field.B ∷ field.C ∷ field.J ∷ field.F ∷ []) zeros))))) (inputs_back p i step some few) ∙
    ap₂ (λ b c. cond (b || c) (Some field.O) (cond (has_wrong_room form m (i + a)) (Some field.A) (first_refused (zero_fields (field.B ∷ field.C ∷ field.J ∷ field.F ∷ []) zeros)))) (ne_eqb o 0 (omega arith)) (not_below (most_outputs p i) o most) ∙
    ap (λ b. cond b (Some field.A) (first_refused (zero_fields (field.B ∷ field.C ∷ field.J ∷ field.F ∷ []) zeros))) (room_back form m (i + a) room full) ∙
    zeros_back (field.B ∷ field.C ∷ field.J ∷ field.F ∷ []) zeros all

-- ---- lists as a header with a rest

abbrev pub Splits : Profile → List ℕ → Listing → Type 0
Splits p bytes g = (form : Form) × (numbers rest : List ℕ) × HasHeader bytes form numbers rest × (refused_field p form numbers ≡ None) × IsRest form (counts_of numbers) g rest

header_fields : (p : Profile) (form : Form) (g : Listing) (numbers : List ℕ) → IsHeader g numbers → HasCounts p g → (form ≡ Binary → g.max ≡ length g.inputs + length g.gates) → refused_field p form numbers ≡ None
header_fields p form g numbers h c full =
    ap (refused_field p form) h.3 ∙ none_refused p form g.max (length g.inputs) (length g.outputs) (length g.gates) h.0 h.2 c.max c.step c.some c.few c.some_outputs c.outputs c.room full

header_counts : (g : Listing) (numbers : List ℕ) → IsHeader g numbers → counts g ≡ counts_of numbers
header_counts g numbers h = ap counts_of (sym h.3)

header_many : (g : Listing) (numbers : List ℕ) → IsHeader g numbers → (5 ≤ length numbers) × (length numbers ≤ 9)
header_many g numbers h =
    let few = h.1 in
    subst (λ ns. (5 ≤ length ns) × (length ns ≤ 9)) (sym h.3) (many g.max (length g.inputs) 0 (length g.outputs) (length g.gates) h.0 few)
  where
    many : (a b c d e : ℕ) (zs : List ℕ) → length zs ≤ 4 → (5 ≤ length ((a ∷ b ∷ c ∷ d ∷ e ∷ []) ++ zs)) × (length ((a ∷ b ∷ c ∷ d ∷ e ∷ []) ++ zs) ≤ 9)
    many a b c d e zs h = (omega arith, omega arith)

split_from : (p : Profile) (form : Form) (bytes : List ℕ) (g : Listing) (after numbers line text rest : List ℕ) → IsTail (counts g) after → HasCounts p g → (form ≡ Binary → g.max ≡ length g.inputs + length g.gates) → IsHeader g numbers →
    IsLine line numbers → text ≡ line ++ rest → bytes ≡ letters form ++ text → IsBody form g rest after → Splits p bytes g
split_from p form bytes g after numbers line text rest tail c full header is_line split front b =
    let many = header_many g numbers header in (
      form,
      numbers,
      rest,
      (letters form ++ line, (line, is_line, many.0, many.1, refl), front ∙ ap (λ ys. letters form ++ ys) split ∙ sym (append_assoc (letters form) line rest)),
      header_fields p form g numbers header c full,
      (header_counts g numbers header, (after, b, subst (λ d. IsTail d after) (header_counts g numbers header) tail)),
    )

pub lists_split : (p : Profile) (bytes : List ℕ) (g : Listing) → Lists p bytes g → Splits p bytes g
lists_split p bytes g (after, tail, c, inl h) =
    split_from p Ascii bytes g after h.0 h.3.0 h.1 h.3.1 tail c (λ e. absurd (cc)) h.2 h.3.2 h.3.4 h.4 h.3.3
lists_split p bytes g (after, tail, c, inr (h, full)) =
    split_from p Binary bytes g after h.0 h.5.0 h.1 h.5.1 tail c (λ e. full) h.3 h.5.2 h.5.4 h.7 (h.4, (h.2, h.5.3, h.6))

counts_header : (p : Profile) (form : Form) (g : Listing) (numbers : List ℕ) → AreAccepted p form numbers → counts g ≡ counts_of numbers → IsHeader g numbers
counts_header p form g numbers a e = (a.zeros, a.few_zeros, a.all_zero, subst (λ c. numbers ≡ (c.max ∷ c.inputs ∷ 0 ∷ c.outputs ∷ c.gates ∷ []) ++ a.zeros) (sym e) a.is)

-- the counts of a profile, in a header
record AreCounts (p : Profile) (c : Counts) : Type 0 where
  max : c.max ≤ MOST_VARIABLES
  step : c.inputs % input_step p ≡ 0
  some : least_inputs p ≤ c.inputs
  few : c.inputs ≤ most_inputs p
  some_outputs : 0 < c.outputs
  outputs : c.outputs ≤ most_outputs p c.inputs
  room : c.inputs + c.gates ≤ c.max

accepted_counts : (p : Profile) (form : Form) (g : Listing) (numbers : List ℕ) → AreAccepted p form numbers → counts g ≡ counts_of numbers → HasCounts p g
accepted_counts p form g numbers a e =
    let c = subst (AreCounts p) (sym e) (record { max = a.max; step = a.step; some = a.some; few = a.few; some_outputs = a.some_outputs; outputs = a.outputs; room = a.room }) in
    record { max = c.max; step = c.step; some = c.some; few = c.few; some_outputs = c.some_outputs; outputs = c.outputs; room = c.room }

join_from : (p : Profile) (form : Form) (bytes : List ℕ) (g : Listing) (numbers rest front line after : List ℕ) → AreAccepted p form numbers → IsLine line numbers → front ≡ letters form ++ line → bytes ≡ front ++ rest → counts g ≡ counts_of numbers →
    IsBody form g rest after → IsTail (counts_of numbers) after → Lists p bytes g
join_from p Ascii bytes g numbers rest front line after a is_line front_is is e b tail = (
  after,
  subst (λ c. IsTail c after) (sym e) tail,
  accepted_counts p Ascii g numbers a e,
  inl (numbers, line ++ rest, counts_header p Ascii g numbers a e, (line, rest, is_line, b, refl), is ∙ ap (λ ys. ys ++ rest) front_is ∙ append_assoc (letters Ascii) line rest),
)
join_from p Binary bytes g numbers rest front line after a is_line front_is is e b tail = (
  after,
  subst (λ c. IsTail c after) (sym e) tail,
  accepted_counts p Binary g numbers a e,
  inr (
    (numbers, line ++ rest, b.1.0, counts_header p Binary g numbers a e, b.0, (line, rest, is_line, b.1.1, refl), b.1.2, is ∙ ap (λ ys. ys ++ rest) front_is ∙ append_assoc (letters Binary) line rest),
    subst (λ c. c.max ≡ c.inputs + c.gates) (sym e) (a.full refl),
  ),
)

pub lists_join : (p : Profile) (bytes : List ℕ) (g : Listing) → Splits p bytes g → Lists p bytes g
lists_join p bytes g (form, numbers, rest, (front, (line, is_line, many, few, front_is), is), none, (e, (after, b, tail))) =
    join_from p form bytes g numbers rest front line after (accepted p form numbers many few none) is_line front_is is e b tail
