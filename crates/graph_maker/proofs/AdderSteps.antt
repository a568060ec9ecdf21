-- Steps of the loops that make adders.
use Rattle.std.proofs.Common.{◌≡◌, refl, ℕ, suc, ◌+◌, ◌<◌, ◌≤◌, List, [], ◌∷◌, ◌++◌, length, get_or, drop, sym, ap, ap₂, ◌∙◌, append_assoc, append-nil, arith}
use Rattle.std.proofs.lemmas.List.{drop_all, drop_more, drop-drop}
use Rattle.std.specs.Option.{unwrap_or}
use Rattle.std.specs.Prelude.{nat_le}
use Rattle.std.specs.declared.option.Option.{Option}
use Rattle.std.specs.declared.option.Option.TheVariants.{None, Some}
use Rattle.graph_core.specs.declared.literal.Lit.{Lit}
use Rattle.graph_core.specs.Graph.Literals.{constant_false}
use Rattle.graph_maker.specs.Builder.{Builder, or_false}
use Rattle.graph_maker.specs.Cells.{Added, half_adder, cell}
use Rattle.graph_maker.specs.Ripple.{cons_output, first, ripple}
use Rattle.graph_maker.specs.Prefix.{Span, cons_span, single_spans, join_partner, level, prefix_sums}
use Rattle.graph_maker.proofs.MakingSteps.{after, spans_after, sums_left}

-- the x in its place, where there is one
pub first_left : (xs : List (Option Lit)) (k : ℕ) (d : Option Lit) → k < length xs → first (drop k xs) ≡ get_or xs k d
first_left xs k d l = ap first (drop_more xs k d l)

pub no_first : (xs : List (Option Lit)) (k : ℕ) → length xs ≤ k → first (drop k xs) ≡ None
no_first xs k l = ap first (drop_all k xs l)

or_constant : (x : Option Lit) → or_false x ≡ unwrap_or x constant_false
or_constant None = refl
or_constant (Some x) = refl

-- the x in its place, or else the constant 0
pub x_left : (xs : List (Option Lit)) (k : ℕ) (d : Option Lit) (x : Lit) → k < length xs → x ≡ unwrap_or (get_or xs k d) constant_false → or_false (first (drop k xs)) ≡ x
x_left xs k d x l is = ap or_false (first_left xs k d l) ∙ or_constant (get_or xs k d) ∙ sym is

pub no_x : (xs : List (Option Lit)) (k : ℕ) (x : Lit) → length xs ≤ k → x ≡ constant_false → or_false (first (drop k xs)) ≡ x
no_x xs k x l is = ap or_false (no_first xs k l) ∙ sym is

-- one single span more
pub single_step : (done more : List Span) (b next : Builder) (xs : List (Option Lit)) (ys : List Lit) (k : ℕ) (x sum carry d : Lit) → k < length ys → or_false (first (drop k xs)) ≡ x →
    half_adder b x (get_or ys k d) ≡ record { builder = next; sum = sum; carry = Some carry } → more ≡ done ++ (carry, sum) ∷ [] →
    spans_after done (single_spans b (drop k xs) (drop k ys)) ≡ spans_after more (single_spans next (drop (k + 1) xs) (drop (k + 1) ys))
single_step done more b next xs ys k x sum carry d l x_is made more_is =
    let rest = drop (k + 1) ys in
    let s = single_spans next (drop (k + 1) xs) rest in
    let add = λ (a : Added). spans_after done (cons_span (or_false a.carry, a.sum) (single_spans a.builder (drop 1 (drop k xs)) rest)) in
    ap (λ zs. spans_after done (single_spans b (drop k xs) zs)) (drop_more ys k d l) ∙ ap (λ z. add (half_adder b z (get_or ys k d))) x_is ∙ ap add made ∙
    ap (λ zs. spans_after done (cons_span (carry, sum) (single_spans next zs rest))) (drop-drop 1 k xs) ∙
    ap (λ ss. record { builder = s.builder; spans = ss }) (sym (append_assoc done ((carry, sum) ∷ []) s.spans)) ∙ ap (λ ss. spans_after ss s) (sym more_is)

pub single_end : (done : List Span) (b : Builder) (xs : List (Option Lit)) (ys : List Lit) (k : ℕ) → length ys ≤ k → spans_after done (single_spans b xs (drop k ys)) ≡ record { builder = b; spans = done }
single_end done b xs ys k l = ap (λ zs. spans_after done (single_spans b xs zs)) (drop_all k ys l) ∙ ap (λ ss. record { builder = b; spans = ss }) (append-nil done)

-- one span of a level more
pub span_step : (done more : List Span) (b next : Builder) (partner : ℕ → Option ℕ) (wide : ℕ) (old : List Span) (i : ℕ) (d s : Span) → i < length old →
    join_partner old b (get_or old i d) (partner i) (nat_le wide i) ≡ record { builder = next; span = s } → more ≡ done ++ s ∷ [] →
    spans_after done (level partner wide old b i (drop i old)) ≡ spans_after more (level partner wide old next (i + 1) (drop (i + 1) old))
span_step done more b next partner wide old i d s l made more_is =
    let rest = drop (i + 1) old in
    let e : suc i ≡ i + 1 = omega arith in
    let left = level partner wide old next (i + 1) rest in
    ap (λ ss. spans_after done (level partner wide old b i ss)) (drop_more old i d l) ∙ ap (λ r. spans_after done (cons_span r.span (level partner wide old r.builder (suc i) rest))) made ∙
    ap (λ j. spans_after done (cons_span s (level partner wide old next j rest))) e ∙ ap (λ ss. record { builder = left.builder; spans = ss }) (sym (append_assoc done (s ∷ []) left.spans)) ∙
    ap (λ ss. spans_after ss left) (sym more_is)

pub level_end : (done : List Span) (b : Builder) (partner : ℕ → Option ℕ) (wide : ℕ) (old : List Span) (i : ℕ) → length old ≤ i →
    spans_after done (level partner wide old b i (drop i old)) ≡ record { builder = b; spans = done }
level_end done b partner wide old i l = ap (λ ss. spans_after done (level partner wide old b i ss)) (drop_all i old l) ∙ ap (λ ss. record { builder = b; spans = ss }) (append-nil done)

sums_first : (b : Builder) (carry : Option Lit) (t s : Span) (ts ss : List Span) → (let a = cell b None t.1 carry in sums_left b carry (t ∷ ts) (s ∷ ss) ≡ cons_output a.sum (prefix_sums a.builder s.0 ts ss))
sums_first b None t s ts ss = refl
sums_first b (Some c) t s ts ss = refl

-- one sum more, and the carry that its span makes
pub sum_step : (done more : List Lit) (b next : Builder) (carry other : Option Lit) (ts ss : List Span) (k : ℕ) (d : Span) (sum : Lit) → k < length ts → length ss ≡ length ts →
    cell b None (get_or ts k d).1 carry ≡ record { builder = next; sum = sum; carry = other } → more ≡ done ++ sum ∷ [] →
    after done (sums_left b carry (drop k ts) (drop k ss)) ≡ after more (prefix_sums next (get_or ss k d).0 (drop (k + 1) ts) (drop (k + 1) ss))
sum_step done more b next carry other ts ss k d sum l same made more_is =
    let t = get_or ts k d in
    let s = get_or ss k d in
    let left = prefix_sums next s.0 (drop (k + 1) ts) (drop (k + 1) ss) in
    ap₂ (λ us vs. after done (sums_left b carry us vs)) (drop_more ts k d l) (drop_more ss k d (omega (arith, l, same))) ∙ ap (after done) (sums_first b carry t s (drop (k + 1) ts) (drop (k + 1) ss)) ∙
    ap (λ a. after done (cons_output a.sum (prefix_sums a.builder s.0 (drop (k + 1) ts) (drop (k + 1) ss)))) made ∙
    ap (λ ls. record { builder = left.builder; outputs = ls }) (sym (append_assoc done (sum ∷ []) left.outputs)) ∙ ap (λ ls. after ls left) (sym more_is)

no_sum : (b : Builder) (carry : Option Lit) → sums_left b carry [] [] ≡ record { builder = b; outputs = unwrap_or carry constant_false ∷ [] }
no_sum b None = refl
no_sum b (Some c) = refl

pub sums_end : (done more : List Lit) (b : Builder) (carry : Option Lit) (ts ss : List Span) (k : ℕ) → length ts ≤ k → length ss ≡ length ts → more ≡ done ++ unwrap_or carry constant_false ∷ [] →
    after done (sums_left b carry (drop k ts) (drop k ss)) ≡ record { builder = b; outputs = more }
sums_end done more b carry ts ss k l same more_is =
    ap₂ (λ us vs. after done (sums_left b carry us vs)) (drop_all k ts l) (drop_all k ss (omega (arith, l, same))) ∙ ap (after done) (no_sum b carry) ∙ ap (λ ls. record { builder = b; outputs = ls }) (sym more_is)

-- one sum of the ripple-carry adder more
pub ripple_step : (done more : List Lit) (b next : Builder) (xs : List (Option Lit)) (ys : List Lit) (carry other x : Option Lit) (k : ℕ) (d sum : Lit) → k < length ys → first (drop k xs) ≡ x →
    cell b x (get_or ys k d) carry ≡ record { builder = next; sum = sum; carry = other } → more ≡ done ++ sum ∷ [] →
    after done (ripple b (drop k xs) (drop k ys) carry) ≡ after more (ripple next (drop (k + 1) xs) (drop (k + 1) ys) other)
ripple_step done more b next xs ys carry other x k d sum l x_is made more_is =
    let rest = drop (k + 1) ys in
    let left = ripple next (drop (k + 1) xs) rest other in
    let add = λ (a : Added). after done (cons_output a.sum (ripple a.builder (drop 1 (drop k xs)) rest a.carry)) in
    ap (λ zs. after done (ripple b (drop k xs) zs carry)) (drop_more ys k d l) ∙ ap (λ z. add (cell b z (get_or ys k d) carry)) x_is ∙ ap add made ∙
    ap (λ zs. after done (cons_output sum (ripple next zs rest other))) (drop-drop 1 k xs) ∙
    ap (λ ls. record { builder = left.builder; outputs = ls }) (sym (append_assoc done (sum ∷ []) left.outputs)) ∙ ap (λ ls. after ls left) (sym more_is)

pub ripple_end : (done more : List Lit) (b : Builder) (xs : List (Option Lit)) (ys : List Lit) (carry : Option Lit) (k : ℕ) → length ys ≤ k → more ≡ done ++ unwrap_or carry constant_false ∷ [] →
    after done (ripple b xs (drop k ys) carry) ≡ record { builder = b; outputs = more }
ripple_end done more b xs ys carry k l more_is =
    ap (λ zs. after done (ripple b xs zs carry)) (drop_all k ys l) ∙ ap (λ ls. record { builder = b; outputs = ls }) (ap (λ c. done ++ c ∷ []) (or_constant carry) ∙ sym more_is)
