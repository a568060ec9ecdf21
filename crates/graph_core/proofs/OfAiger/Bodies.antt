-- The lines of a body and the whole body: what is read is one, and one is read.
use Rattle.std.specs.Prelude.{◌≡◌, ℕ, zero, suc, ◌+◌, ◌*◌, ◌<◌, List, [], ◌∷◌, ◌++◌, length, map, Ok, Err}
use Rattle.std.proofs.Common.{refl, sym, ap, ap₂, subst, ◌∙◌, arith, ⊎_elim}
use Rattle.std.proofs.lemmas.List.{length-map}
use Rattle.graph_core.specs.declared.literal.Lit.{Lit}
use Rattle.graph_core.specs.Text.{AreLines}
use Rattle.graph_core.specs.Aiger.{Form, Ascii, Binary, Counts, counts, Listing, body, AreConsecutive, AreBinaryGates}
use Rattle.graph_core.specs.Aiger.Refusal.{IsBody, HasWrongGate}
use Rattle.graph_core.specs.Aiger.Reading.{Wrong, ◌>>=◌, lines_at, lit_of, gate_of, ascii_at, lit, consecutive, gates_at, binary_at, body_at}
use Rattle.graph_core.proofs.OfTexts.Steady.{bind_ok, bind_err, same_Ok}
use Rattle.graph_core.proofs.OfTexts.Lines.{Have, lines_takes, lines_again, lines_not_wrong}
use Rattle.graph_core.proofs.OfGraphs.Gates.{gates_take, gates_again, HasWrong, gates_wrong, gates_wrong_again}

lines_append : (bytes middle rest : List ℕ) (xs ys : List (List ℕ)) → AreLines bytes xs middle → AreLines middle ys rest → AreLines bytes (xs ++ ys) rest
lines_append bytes middle rest [] ys a b = subst (λ z. AreLines z ys rest) (sym a) b
lines_append bytes middle rest (x ∷ xs) ys a b = (a.0, a.1, a.2, lines_append a.1 middle rest xs ys a.3 b, a.4)

lines_split : (bytes rest : List ℕ) (xs ys : List (List ℕ)) → AreLines bytes (xs ++ ys) rest → (middle : List ℕ) × AreLines bytes xs middle × AreLines middle ys rest
lines_split bytes rest [] ys h = (bytes, refl, h)
lines_split bytes rest (x ∷ xs) ys h = let more = lines_split h.1 rest xs ys h.3 in (more.0, (h.0, h.1, h.2, more.1, h.4), more.2)

-- the lines of the body's three parts
abbrev pub single : Lit → List ℕ
single l = l.0 ∷ []

abbrev pub triple : (Lit × Lit × Lit) → List ℕ
triple t = t.0.0 ∷ t.1.0 ∷ t.2.0 ∷ []

singles_back : (lines : List (List ℕ)) → Have 0 lines → map single (map lit_of lines) ≡ lines
singles_back [] h = refl
singles_back (x ∷ lines) h = ap₂ ◌∷◌ (one x h.0) (singles_back lines h.1)
  where
    one : (xs : List ℕ) → length xs ≡ 1 → single (lit_of xs) ≡ xs
    one [] e = absurd (omega arith)
    one (y ∷ []) e = refl
    one (y ∷ z ∷ ys) e = absurd (omega arith)

triples_back : (lines : List (List ℕ)) → Have 2 lines → map triple (map gate_of lines) ≡ lines
triples_back [] h = refl
triples_back (x ∷ lines) h = ap₂ ◌∷◌ (three x h.0) (triples_back lines h.1)
  where
    three : (xs : List ℕ) → length xs ≡ 3 → triple (gate_of xs) ≡ xs
    three [] e = absurd (omega arith)
    three (y ∷ []) e = absurd (omega arith)
    three (y ∷ z ∷ []) e = absurd (omega arith)
    three (y ∷ z ∷ w ∷ []) e = refl
    three (y ∷ z ∷ w ∷ v ∷ ys) e = absurd (omega arith)

have_singles : (ls : List Lit) → Have 0 (map single ls)
have_singles [] = tt
have_singles (l ∷ ls) = (refl, have_singles ls)

have_triples : (ts : List (Lit × Lit × Lit)) → Have 2 (map triple ts)
have_triples [] = tt
have_triples (t ∷ ts) = (refl, have_triples ts)

lits_back : (ls : List Lit) → map lit_of (map single ls) ≡ ls
lits_back [] = refl
lits_back (l ∷ ls) = ap (λ xs. l ∷ xs) (lits_back ls)

gates_back : (ts : List (Lit × Lit × Lit)) → map gate_of (map triple ts) ≡ ts
gates_back [] = refl
gates_back (t ∷ ts) = ap (λ xs. t ∷ xs) (gates_back ts)

-- literals, a line each
pub singles_take : (n : ℕ) (bytes : List ℕ) (lines : List (List ℕ)) (rest : List ℕ) → lines_at 0 n bytes ≡ Ok (lines, rest) → AreLines bytes (map single (map lit_of lines)) rest × (length (map lit_of lines) ≡ n)
singles_take n bytes lines rest h =
    let t = lines_takes 0 n bytes lines rest h in
    (subst (λ ls. AreLines bytes ls rest) (sym (singles_back lines t.2)) t.0, length-map lines lit_of ∙ t.1)

pub singles_again : (ls : List Lit) (bytes rest : List ℕ) → AreLines bytes (map single ls) rest → lines_at 0 (length ls) bytes ≡ Ok (map single ls, rest)
singles_again ls bytes rest h = ap (λ n. lines_at 0 n bytes) (sym (length-map ls single)) ∙ lines_again 0 bytes (map single ls) rest h (have_singles ls)

triples_take : (n : ℕ) (bytes : List ℕ) (lines : List (List ℕ)) (rest : List ℕ) → lines_at 2 n bytes ≡ Ok (lines, rest) → AreLines bytes (map triple (map gate_of lines)) rest × (length (map gate_of lines) ≡ n)
triples_take n bytes lines rest h =
    let t = lines_takes 2 n bytes lines rest h in
    (subst (λ ls. AreLines bytes ls rest) (sym (triples_back lines t.2)) t.0, length-map lines gate_of ∙ t.1)

triples_again : (ts : List (Lit × Lit × Lit)) (bytes rest : List ℕ) → AreLines bytes (map triple ts) rest → lines_at 2 (length ts) bytes ≡ Ok (map triple ts, rest)
triples_again ts bytes rest h = ap (λ n. lines_at 2 n bytes) (sym (length-map ts triple)) ∙ lines_again 2 bytes (map triple ts) rest h (have_triples ts)

counts_are : (c : Counts) (i o a : ℕ) → i ≡ c.inputs → o ≡ c.outputs → a ≡ c.gates → ◌≡◌ {A = Counts} (record { max = c.max; inputs = i; outputs = o; gates = a }) c
counts_are c i o a p q r =
    ap (λ x. record { max = c.max; inputs = x; outputs = o; gates = a }) p ∙ ap (λ x. record { max = c.max; inputs = c.inputs; outputs = x; gates = a }) q ∙
    ap (λ x. record { max = c.max; inputs = c.inputs; outputs = c.outputs; gates = x }) r

-- ---- ascii

abbrev Takes : Form → Counts → List ℕ → Listing → List ℕ → Type 0
Takes form c bytes g after = (counts g ≡ c) × IsBody form g bytes after

abbrev listed : Counts → List (List ℕ) → List (List ℕ) → List (List ℕ) → Listing
listed c ins outs gates = record { max = c.max; inputs = map lit_of ins; outputs = map lit_of outs; gates = map gate_of gates }

ascii_from : (c : Counts) (bytes one two after : List ℕ) (ins outs gates : List (List ℕ)) → lines_at 0 c.inputs bytes ≡ Ok (ins, one) → lines_at 0 c.outputs one ≡ Ok (outs, two) → lines_at 2 c.gates two ≡ Ok (gates, after) → Takes Ascii c bytes (listed c ins outs gates) after
ascii_from c bytes one two after ins outs gates a b d =
    let i = singles_take c.inputs bytes ins one a in
    let o = singles_take c.outputs one outs two b in
    let t = triples_take c.gates two gates after d in (
      counts_are c (length (map lit_of ins)) (length (map lit_of outs)) (length (map gate_of gates)) i.1 o.1 t.1,
      lines_append bytes two after (map single (map lit_of ins) ++ map single (map lit_of outs)) (map triple (map gate_of gates)) (lines_append bytes one two (map single (map lit_of ins)) (map single (map lit_of outs)) i.0 o.0) t.0,
    )

pub ascii_takes : (c : Counts) (bytes : List ℕ) (g : Listing) (after : List ℕ) → ascii_at c bytes ≡ Ok (g, after) → Takes Ascii c bytes g after
unfolding ascii_at
ascii_takes c bytes g after h =
    let i = bind_ok (lines_at 0 c.inputs bytes) (λ i. lines_at 0 c.outputs i.1 >>= (λ o. lines_at 2 c.gates o.1 >>= (λ a. Ok (listed c i.0 o.0 a.0, a.1)))) (g, after) h in
    let o = bind_ok (lines_at 0 c.outputs i.0.1) (λ o. lines_at 2 c.gates o.1 >>= (λ a. Ok (listed c i.0.0 o.0 a.0, a.1))) (g, after) i.2 in
    let t = bind_ok (lines_at 2 c.gates o.0.1) (λ a. Ok (listed c i.0.0 o.0.0 a.0, a.1)) (g, after) o.2 in
    let P : (Listing × List ℕ) → Type 0 = λ p. Takes Ascii c bytes p.0 p.1 in
    subst P (same_Ok (listed c i.0.0 o.0.0 t.0.0, t.0.1) (g, after) t.2) (ascii_from c bytes i.0.1 o.0.1 t.0.1 i.0.0 o.0.0 t.0.0 i.1 o.1 t.1)

pub ascii_again : (g : Listing) (bytes after : List ℕ) → AreLines bytes (body g) after → ascii_at (counts g) bytes ≡ Ok (g, after)
unfolding ascii_at
ascii_again g bytes after h =
    let parts = lines_split bytes after (map single g.inputs ++ map single g.outputs) (map triple g.gates) h in
    let two = lines_split bytes parts.0 (map single g.inputs) (map single g.outputs) parts.1 in
    ap (λ o. o >>= (λ i. lines_at 0 (length g.outputs) i.1 >>= (λ p. lines_at 2 (length g.gates) p.1 >>= (λ x. Ok (listed (counts g) i.0 p.0 x.0, x.1))))) (singles_again g.inputs bytes two.0 two.1) ∙
    ap (λ o. o >>= (λ p. lines_at 2 (length g.gates) p.1 >>= (λ x. Ok (listed (counts g) (map single g.inputs) p.0 x.0, x.1)))) (singles_again g.outputs two.0 parts.0 two.2) ∙
    ap (λ o. o >>= (λ x. Ok (listed (counts g) (map single g.inputs) (map single g.outputs) x.0, x.1))) (triples_again g.gates parts.0 after parts.2) ∙
    ap₂ (λ i p. Ok (record { max = g.max; inputs = i; outputs = p; gates = map gate_of (map triple g.gates) }, after)) (lits_back g.inputs) (lits_back g.outputs) ∙
    ap (λ t. Ok (record { max = g.max; inputs = g.inputs; outputs = g.outputs; gates = t }, after)) (gates_back g.gates)

ascii_not_wrong : (c : Counts) (bytes here : List ℕ) → ascii_at c bytes ≡ Err (Wrong here) → ⊥
unfolding ascii_at
ascii_not_wrong c bytes here h =
    ⊎_elim (lines_not_wrong 0 c.inputs bytes here)
    (λ i. ⊎_elim (lines_not_wrong 0 c.outputs i.0.1 here)
    (λ o. ⊎_elim (lines_not_wrong 2 c.gates o.0.1 here) (λ a. let e = a.2 in cc)
    (bind_err (lines_at 2 c.gates o.0.1) (λ a. Ok (listed c i.0.0 o.0.0 a.0, a.1)) (Wrong here) o.2))
    (bind_err (lines_at 0 c.outputs i.0.1) (λ o. lines_at 2 c.gates o.1 >>= (λ a. Ok (listed c i.0.0 o.0 a.0, a.1))) (Wrong here) i.2))
    (bind_err (lines_at 0 c.inputs bytes) (λ i. lines_at 0 c.outputs i.1 >>= (λ o. lines_at 2 c.gates o.1 >>= (λ a. Ok (listed c i.0 o.0 a.0, a.1)))) (Wrong here) h)

-- ---- binary

consecutive_are : (l k : ℕ) → AreConsecutive l (consecutive l k) × (length (consecutive l k) ≡ k)
consecutive_are l zero = (tt, refl)
consecutive_are l (suc k) = let more = consecutive_are (l + 2) k in ((refl, more.0), ap suc more.1)

consecutive_back : (l : ℕ) (ls : List Lit) → AreConsecutive l ls → consecutive l (length ls) ≡ ls
consecutive_back l [] h = refl
consecutive_back l (x ∷ ls) h = ap₂ ◌∷◌ (ap lit (sym h.0)) (consecutive_back (l + 2) ls h.1)

abbrev binary_listed : Counts → List (List ℕ) → List (Lit × Lit × Lit) → Listing
binary_listed c outs gates = record { max = c.max; inputs = consecutive 2 c.inputs; outputs = map lit_of outs; gates = gates }

binary_from : (c : Counts) (bytes middle after : List ℕ) (outs : List (List ℕ)) (gates : List (Lit × Lit × Lit)) → lines_at 0 c.outputs bytes ≡ Ok (outs, middle) → gates_at (2 * c.inputs + 2) c.gates middle ≡ Ok (gates, after) → Takes Binary c bytes (binary_listed c outs gates) after
binary_from c bytes middle after outs gates a b =
    let i = consecutive_are 2 c.inputs in
    let o = singles_take c.outputs bytes outs middle a in
    let t = gates_take c.gates (2 * c.inputs + 2) middle gates after b in (
      counts_are c (length (consecutive 2 c.inputs)) (length (map lit_of outs)) (length gates) i.1 o.1 t.1,
      (i.0, (middle, o.0, subst (λ n. AreBinaryGates (2 * n + 2) middle gates after) (sym i.1) t.0)),
    )

pub binary_takes : (c : Counts) (bytes : List ℕ) (g : Listing) (after : List ℕ) → binary_at c bytes ≡ Ok (g, after) → Takes Binary c bytes g after
unfolding binary_at
binary_takes c bytes g after h =
    let o = bind_ok (lines_at 0 c.outputs bytes) (λ o. gates_at (2 * c.inputs + 2) c.gates o.1 >>= (λ a. Ok (binary_listed c o.0 a.0, a.1))) (g, after) h in
    let t = bind_ok (gates_at (2 * c.inputs + 2) c.gates o.0.1) (λ a. Ok (binary_listed c o.0.0 a.0, a.1)) (g, after) o.2 in
    let P : (Listing × List ℕ) → Type 0 = λ p. Takes Binary c bytes p.0 p.1 in
    subst P (same_Ok (binary_listed c o.0.0 t.0.0, t.0.1) (g, after) t.2) (binary_from c bytes o.0.1 t.0.1 o.0.0 t.0.0 o.1 t.1)

pub binary_again : (g : Listing) (bytes middle after : List ℕ) → AreConsecutive 2 g.inputs → AreLines bytes (map single g.outputs) middle → AreBinaryGates (2 * length g.inputs + 2) middle g.gates after → binary_at (counts g) bytes ≡ Ok (g, after)
unfolding binary_at
binary_again g bytes middle after a b d =
    ap (λ o. o >>= (λ o. gates_at (2 * length g.inputs + 2) (length g.gates) o.1 >>= (λ a. Ok (binary_listed (counts g) o.0 a.0, a.1)))) (singles_again g.outputs bytes middle b) ∙
    ap (λ o. o >>= (λ a. Ok (binary_listed (counts g) (map single g.outputs) a.0, a.1))) (gates_again g.gates (2 * length g.inputs + 2) middle after d) ∙
    ap₂ (λ i p. Ok (record { max = g.max; inputs = i; outputs = p; gates = g.gates }, after)) (consecutive_back 2 g.inputs a) (lits_back g.outputs)

-- a number of a binary gate that is out of range
abbrev pub WrongGates : Counts → List ℕ → List ℕ → Type 0
WrongGates c bytes here = (outputs : List Lit) × (gates : List (Lit × Lit × Lit)) × (middle after : List ℕ) × (length outputs ≡ c.outputs) × (length gates < c.gates) ×
    AreLines bytes (map (λ l. l.0 ∷ []) outputs) middle × AreBinaryGates (2 * c.inputs + 2) middle gates after × HasWrongGate (2 * c.inputs + 2 + 2 * length gates) after here

pub binary_wrong : (c : Counts) (bytes here : List ℕ) → binary_at c bytes ≡ Err (Wrong here) → WrongGates c bytes here
unfolding binary_at
binary_wrong c bytes here h =
    ⊎_elim (λ e. absurd (lines_not_wrong 0 c.outputs bytes here e))
    (λ o. ⊎_elim (λ e. late o.0.0 o.0.1 o.1 (gates_wrong c.gates (2 * c.inputs + 2) o.0.1 here e)) (λ a. let e = a.2 in absurd (cc))
    (bind_err (gates_at (2 * c.inputs + 2) c.gates o.0.1) (λ a. Ok (binary_listed c o.0.0 a.0, a.1)) (Wrong here) o.2))
    (bind_err (lines_at 0 c.outputs bytes) (λ o. gates_at (2 * c.inputs + 2) c.gates o.1 >>= (λ a. Ok (binary_listed c o.0 a.0, a.1))) (Wrong here) h)
  where
    late : (outs : List (List ℕ)) (middle : List ℕ) → lines_at 0 c.outputs bytes ≡ Ok (outs, middle) → HasWrong (2 * c.inputs + 2) c.gates middle here → WrongGates c bytes here
    late outs middle e w = let o = singles_take c.outputs bytes outs middle e in (map lit_of outs, w.0, middle, w.1, o.1, w.2, o.0, w.3, w.4)

pub binary_wrong_again : (c : Counts) (bytes here : List ℕ) → WrongGates c bytes here → binary_at c bytes ≡ Err (Wrong here)
unfolding binary_at
binary_wrong_again c bytes here w =
    ap (λ n. lines_at 0 n bytes >>= (λ o. gates_at (2 * c.inputs + 2) c.gates o.1 >>= (λ a. Ok (binary_listed c o.0 a.0, a.1)))) (sym w.4) ∙
    ap (λ o. o >>= (λ o. gates_at (2 * c.inputs + 2) c.gates o.1 >>= (λ a. Ok (binary_listed c o.0 a.0, a.1)))) (singles_again w.0 bytes w.2 w.6) ∙
    ap (λ o. o >>= (λ a. Ok (binary_listed c (map single w.0) a.0, a.1))) (gates_wrong_again w.1 c.gates (2 * c.inputs + 2) w.2 w.3 here w.5 w.7 w.8)

-- ---- either form

pub body_takes : (form : Form) (c : Counts) (bytes : List ℕ) (g : Listing) (after : List ℕ) → body_at form c bytes ≡ Ok (g, after) → (counts g ≡ c) × IsBody form g bytes after
body_takes Ascii c bytes g after h = ascii_takes c bytes g after h
body_takes Binary c bytes g after h = binary_takes c bytes g after h

pub body_again : (form : Form) (c : Counts) (g : Listing) (bytes after : List ℕ) → counts g ≡ c → IsBody form g bytes after → body_at form c bytes ≡ Ok (g, after)
body_again Ascii c g bytes after e h = ap (λ d. ascii_at d bytes) (sym e) ∙ ascii_again g bytes after h
body_again Binary c g bytes after e h = ap (λ d. binary_at d bytes) (sym e) ∙ binary_again g bytes h.1.0 after h.0 h.1.1 h.1.2

pub body_wrong : (form : Form) (c : Counts) (bytes here : List ℕ) → body_at form c bytes ≡ Err (Wrong here) → (form ≡ Binary) × WrongGates c bytes here
body_wrong Ascii c bytes here h = absurd (ascii_not_wrong c bytes here h)
body_wrong Binary c bytes here h = (refl, binary_wrong c bytes here h)

pub body_wrong_again : (form : Form) (c : Counts) (bytes here : List ℕ) → form ≡ Binary → WrongGates c bytes here → body_at form c bytes ≡ Err (Wrong here)
body_wrong_again form c bytes here e w = ap (λ f. body_at f c bytes) e ∙ binary_wrong_again c bytes here w
