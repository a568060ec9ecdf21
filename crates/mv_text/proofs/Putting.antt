-- Texts put one after the other.
use Rattle.std.specs.Prelude.{◌≡◌, ℕ, List, [], ◌++◌, Result, Ok, Err, OnOk}
use Rattle.std.proofs.Common.{refl, sym, ap, subst, ◌∙◌, append_assoc, append-nil}
use Rattle.mv_desk.specs.View.{View, KeepsTelling}
use Rattle.mv_desk.specs.Calls.{HasWriteCause, Writes, WritesPart, WritesTo}
use Rattle.mv_desk.specs.declared.faults.WriteFault.{WriteFault}
use Rattle.mv_desk.specs.declared.slot.Slot.{Slot}
use Rattle.mv_desk.proofs.CallerLemmas.{HasWriteCause-none, HasWriteCause-then, KeepsTelling-refl, KeepsTelling-trans, WritesPart-behind, WritesTo-nil, WritesTo-trans}
use Rattle.mv_text.specs.Puts.{Pending, IsInPart, HasPut, Puts, Flushes}

-- ---- what is put is written

-- no write failed
abbrev none_failed : Result (Unit {0}) WriteFault
none_failed = Ok tt

-- what waits is written
pub wrote_flushes : (old : Pending) (r : Result (Unit {0}) WriteFault) (u v : View) → old.result ≡ none_failed → Writes old.slot old.waits u v r → Flushes old r u v
wrote_flushes old r u v e wrote = record { flushes = λ done start h. go done start r wrote (subst (λ x. OnOk x (IsInPart old.slot done old.waits start u)) e h.whole) (subst (λ x. HasWriteCause start u x) e h.cause) (KeepsTelling-trans start u v h.tells wrote.tells) }
  where
    go : (done : List ℕ) (start : View) (r : Result (Unit {0}) WriteFault) → Writes old.slot old.waits u v r → IsInPart old.slot done old.waits start u → HasWriteCause start u none_failed → KeepsTelling start v → Writes old.slot done start v r
    go done start (Ok x) wrote before why tells = record {
      whole = subst (λ t. WritesTo old.slot t start v) (sym before.all) (WritesTo-trans old.slot start u v before.part old.waits before.writes wrote.whole);
      part = tt;
      cause = HasWriteCause-then tt start u v (Ok x) why wrote.cause;
      tells = tells;
    }
    go done start (Err e) wrote before why tells = record {
      whole = tt;
      part = subst (λ t. WritesPart old.slot t start v) (sym before.all) (WritesPart-behind old.slot before.part old.waits start u v before.writes wrote.part);
      cause = HasWriteCause-then tt start u v (Err e) why wrote.cause;
      tells = tells;
    }

-- ---- steps

pub Puts-nil : (a : Pending) (v : View) → Puts [] a a v v
Puts-nil a v = record { slot = refl; puts = λ done start h. rw (append-nil done) h }

-- one text after the other
pub Puts-then : {p q : List ℕ} {a b c : Pending} {u v w : View} → Puts p a b u v → Puts q b c v w → Puts (p ++ q) a c u w
Puts-then {p} {q} {a} {b} {c} {u} {v} {w} one two = record {
  slot = two.slot ∙ one.slot;
  puts = λ done start h. subst (λ t. HasPut t c start w) (append_assoc done p q) (two.puts (done ++ p) start (one.puts done start h));
}

-- the same, where the later text is in two pieces
pub Puts-more : {p : List ℕ} (q r : List ℕ) {a b c : Pending} {u v w : View} → Puts p a b u v → Puts (q ++ r) b c v w → Puts (p ++ q ++ r) a c u w
Puts-more {p} q r {a} {b} {c} {u} {v} {w} one two = subst (λ t. Puts t a c u w) (sym (append_assoc p q r)) (Puts-then one two)

pub Puts-is : {p q : List ℕ} {a b : Pending} {u v : View} → p ≡ q → Puts p a b u v → Puts q a b u v
Puts-is {p} {q} {a} {b} {u} {v} e = subst (λ t. Puts t a b u v) e

-- a text that is put from an empty output on, and written
pub written_from : (slot : Slot) (text : List ℕ) (new old : Pending) (r : Result (Unit {0}) WriteFault) (u v w : View) → new ≡ record { slot = slot; waits = []; result = none_failed } → Puts text new old u v → Flushes old r v w → Writes slot text u w r
written_from slot text new old r u v w empty p f = rw (p.slot ∙ ap (λ o. o.slot) empty) at (f.flushes text u (p.puts [] u (rw empty none)))
  where
    none : HasPut [] (record { slot = slot; waits = []; result = none_failed }) u u
    none = record {
      whole = record { part = []; all = refl; writes = WritesTo-nil slot u };
      part = tt;
      cause = HasWriteCause-none tt u;
      tells = KeepsTelling-refl u;
    }

-- ---- loops

-- after what is put already
longer : (whole text rest piece later : List ℕ) → whole ≡ text ++ rest → rest ≡ piece ++ later → whole ≡ (text ++ piece) ++ later
longer whole text rest piece later e f = e ∙ ap (λ ys. text ++ ys) f ∙ sym (append_assoc text piece later)

-- Of a whole text this rest is still to be put.
pub record PutsUpTo (whole rest : List ℕ) (a b : Pending) (u v : View) : Type 0 where
  pub text : List ℕ
  pub all : whole ≡ text ++ rest
  pub puts : Puts text a b u v

pub up_to_none : (whole : List ℕ) (a : Pending) (v : View) → PutsUpTo whole whole a a v v
up_to_none whole a v = record { text = []; all = refl; puts = Puts-nil a v }

pub up_to_more : {whole rest : List ℕ} {a b c : Pending} {u v w : View} (piece later : List ℕ) → rest ≡ piece ++ later → PutsUpTo whole rest a b u v → Puts piece b c v w → PutsUpTo whole later a c u w
up_to_more {whole} {rest} {a} {b} {c} {u} {v} {w} piece later is before here = record {
  text = before.text ++ piece;
  all = longer whole before.text rest piece later before.all is;
  puts = Puts-then before.puts here;
}

pub up_to_all : {whole rest : List ℕ} {a b : Pending} {u v : View} → rest ≡ [] → PutsUpTo whole rest a b u v → Puts whole a b u v
up_to_all {whole} {rest} {a} {b} {u} {v} none h = subst (λ t. Puts t a b u v) (sym (h.all ∙ ap (λ l. h.text ++ l) none ∙ append-nil h.text)) h.puts
