-- A line put after others.
use Rattle.std.specs.Prelude.{◌≡◌, ℕ, ◌<◌, ◌≤◌, not, ◌==◌, List, [], ◌∷◌, ◌++◌, IfSome, IsSomeAnd}
use Rattle.std.specs.declared.option.Option.{Option}
use Rattle.std.specs.declared.option.Option.TheVariants.{None, Some}
use Rattle.std.specs.List.{All, filter_map}
use Rattle.std.proofs.Common.{refl, sym, ap, subst, ◌∙◌, arith}
use Rattle.std.proofs.lemmas.List.Elements.{All-cons, All-filter, All-push, filter_map-append}
use Rattle.graph_core.specs.Graph.Operands.{Sides}
use Rattle.graph_core.specs.Graph.Extended.{Extended, modulus}
use Rattle.algebra_core.specs.Polynomials.{Polynomial, value}
use Rattle.algebra_core.specs.AlgebraLines.{LiveLine, Line, Ledger, Sum, Product, Combination, Import, Delete, AreLawfulLines, Closes, IsNewId, after, after_all, axioms}
use Rattle.frontier_core.proofs.LineLemmas.{lines_grow}
use Rattle.poly_terms.specs.Tables.{Table}
use Rattle.poly_text.specs.declared.line.PacLine.{PacLine}
use Rattle.poly_text.specs.Lines.{line_in}
use Rattle.pac_writer.specs.Spare.{IsSpareLine}
use Rattle.pac_writer.specs.Writing.{Made, AreLawfulSoFar, PutsLine, written_ledger, made_of}
use Rattle.poly_text.specs.Recorded.{lines_in}
use Rattle.pac_writer.specs.Kept.{AreKept, CanFollowLines, IsKeptLine}

-- ---- ids

more_ids : (last greatest : ℕ) (live : List LiveLine) → last ≤ greatest → All (λ line. (0 < line.id) × (line.id ≤ last)) live → All (λ line. (0 < line.id) × (line.id ≤ greatest)) live
more_ids last greatest live le h = λ k d low. let one = h k d low in (one.0, (let far = one.1 in omega arith))

new_id : (m last id : ℕ) (p : Polynomial) (live : List LiveLine) → last < id → All (λ line. (0 < line.id) × (line.id ≤ last)) live →
    All (λ line. (0 < line.id) × (line.id ≤ id)) (record { id = id; value = value m p } ∷ live)
new_id m last id p live new h =
    All-cons (λ (line : LiveLine). (0 < line.id) × (line.id ≤ id)) (record { id = id; value = value m p }) live (omega arith, omega arith) (more_ids last id live (omega arith) h)

ids_after : (m : ℕ) (l : Ledger) (x : Line) → IsNewId l.last x → All (λ line. (0 < line.id) × (line.id ≤ l.last)) l.live →
    All (λ line. (0 < line.id) × (line.id ≤ (after m l x).last)) (after m l x).live
ids_after m l (Sum id i j p) new h = new_id m l.last id p l.live new h
ids_after m l (Product id i q p) new h = new_id m l.last id p l.live new h
ids_after m l (Combination id parts p) new h = new_id m l.last id p l.live new h
ids_after m l (Import id number p) new h = new_id m l.last id p l.live new h
ids_after m l (Delete id) new h = All-filter (λ x. not (x.id == id)) (λ line. (0 < line.id) × (line.id ≤ l.last)) l.live h

-- ---- the lines that are kept

lines_pushed : (t : Table) (xs : List PacLine) (x : PacLine) (y : Line) → line_in t x ≡ Some y → lines_in t (xs ++ x ∷ []) ≡ lines_in t xs ++ y ∷ []
lines_pushed t xs x y is = filter_map-append (line_in t) xs (x ∷ []) ∙ ap (λ ys. lines_in t xs ++ ys) (one (line_in t x) is)
  where
    one : (o : Option Line) → o ≡ Some y → filter_map (λ z. z) (o ∷ []) ≡ y ∷ []
    one o e = rw e refl

so_far_grows : (l : Made) (lines : List Line) (x : Line) (last : ℕ) → lines ≡ l.lines ++ x ∷ [] → l.closing ≡ None → AreLawfulSoFar l → CanFollowLines l last x →
    let new : Made = record { extended = l.extended; sides = l.sides; table = l.table; lines = lines; last = last; closing = l.closing } in AreLawfulSoFar new × PutsLine x last l new
so_far_grows l lines x last is none h can =
    let m = modulus l.extended in
    let both = lines_grow m (axioms l.extended) l.lines x h.lawful can.lawful in
    let ledger : after_all m (axioms l.extended) lines ≡ after m (written_ledger l) x = ap (after_all m (axioms l.extended)) is ∙ both.1 in
    let ids = ids_after m (written_ledger l) x can.lawful.new_id (subst (λ n. All (λ line. (0 < line.id) × (line.id ≤ n)) (written_ledger l).live) (sym h.greatest) h.ids) in (
      record {
        same_modulus = h.same_modulus;
        lawful = subst (AreLawfulLines m (axioms l.extended)) (sym is) both.0;
        spare = subst (All (IsSpareLine m)) (sym is) (All-push (IsSpareLine m) l.lines x h.spare can.spare);
        greatest = ap (λ k. k.last) ledger ∙ can.greatest;
        room = can.room;
        ids = subst (λ (k : Ledger). All (λ line. (0 < line.id) × (line.id ≤ last)) k.live) (sym ledger)
            (subst (λ n. All (λ line. (0 < line.id) × (line.id ≤ n)) (after m (written_ledger l) x).live) can.greatest ids);
        closes = subst (λ q. IfSome q (Closes l.extended l.sides (after_all m (axioms l.extended) lines).live)) (sym none) tt;
      },
      record { extended = refl; sides = refl; table = refl; lines = is; ledger = ledger; last = refl; closing = none },
    )

-- one more line is kept
pub line_follows : (e : Extended) (s : Sides) (t : Table) (xs ys : List PacLine) (x : PacLine) (before last : ℕ) (closing : Option ℕ) → ys ≡ xs ++ x ∷ [] →
    AreKept e s t xs before closing → closing ≡ None → IsKeptLine e.max t x → IsSomeAnd (line_in t x) (CanFollowLines (made_of e s t xs before closing) last) →
    AreKept e s t ys last closing × IsSomeAnd (line_in t x) (λ y. PutsLine y last (made_of e s t xs before closing) (made_of e s t ys last closing))
line_follows e s t xs ys x before last closing is h none kept can = go (line_in t x) refl can
  where
    go : (o : Option Line) → line_in t x ≡ o → IsSomeAnd o (CanFollowLines (made_of e s t xs before closing) last) →
        AreKept e s t ys last closing × IsSomeAnd o (λ y. PutsLine y last (made_of e s t xs before closing) (made_of e s t ys last closing))
    go None said c = absurd c
    go (Some y) said c =
        let lines : lines_in t ys ≡ lines_in t xs ++ y ∷ [] = ap (lines_in t) is ∙ lines_pushed t xs x y said in
        let both = so_far_grows (made_of e s t xs before closing) (lines_in t ys) y last lines none h.so_far c in
        (record { small = h.small; exponent = h.exponent; kept = subst (All (IsKeptLine e.max t)) (sym is) (All-push (IsKeptLine e.max t) xs x h.kept kept); so_far = both.0 }, both.1)

-- the same in the words of what contracts see
pub put_follows : (old : Made) (e : Extended) (s : Sides) (t : Table) (xs ys : List PacLine) (x : PacLine) (before last : ℕ) (closing : Option ℕ) →
    made_of e s t xs before closing ≡ old → ys ≡ xs ++ x ∷ [] → AreKept e s t xs before closing → old.closing ≡ None →
    IsKeptLine old.extended.max old.table x → IsSomeAnd (line_in old.table x) (CanFollowLines old last) →
    AreKept e s t ys last closing × IsSomeAnd (line_in old.table x) (λ y. PutsLine y last old (made_of e s t ys last closing))
put_follows old e s t xs ys x before last closing view is h =
    subst (λ (o : Made). o.closing ≡ None → IsKeptLine o.extended.max o.table x → IsSomeAnd (line_in o.table x) (CanFollowLines o last) →
    AreKept e s t ys last closing × IsSomeAnd (line_in o.table x) (λ y. PutsLine y last o (made_of e s t ys last closing))) view
    (λ none kept can. line_follows e s t xs ys x before last closing is h none kept can)
