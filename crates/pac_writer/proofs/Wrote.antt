-- Texts that are written one after the other.
use Rattle.std.specs.Prelude.{◌≡◌, ℕ, List, [], ◌++◌, Result, Ok, Err}
use Rattle.std.specs.Result.{IsErr}
use Rattle.std.proofs.Common.{refl, sym, ap, subst, ◌∙◌, append_assoc, append-nil}
use Rattle.mv_desk.specs.View.{View}
use Rattle.mv_desk.specs.Calls.{Writes}
use Rattle.mv_desk.specs.declared.faults.WriteFault.{WriteFault}
use Rattle.mv_desk.specs.declared.slot.Slot.TheVariants.{Algebra}
use Rattle.mv_desk.proofs.CallerLemmas.{HasWriteCause-none, HasWriteCause-then, KeepsTelling-refl, KeepsTelling-trans, WritesPart-behind, WritesPart-longer, WritesTo-nil, WritesTo-trans}

-- a text is written, or a front part of it
abbrev pub WritesText : List ℕ → View → View → Result (Unit {0}) WriteFault → Type 0
WritesText text old new r = Writes Algebra text old new r

pub writes_none : (v : View) → WritesText [] v v (Ok tt)
writes_none v = record { whole = WritesTo-nil Algebra v; part = tt; cause = HasWriteCause-none tt v; tells = KeepsTelling-refl v }

-- one text after another
pub writes_then : (p q : List ℕ) (r : Result (Unit {0}) WriteFault) (u v w : View) → WritesText p u v (Ok tt) → WritesText q v w r → WritesText (p ++ q) u w r
writes_then p q (Ok x) u v w one two = record {
  whole = WritesTo-trans Algebra u v w p q one.whole two.whole;
  part = tt;
  cause = HasWriteCause-then tt u v w (Ok x) one.cause two.cause;
  tells = KeepsTelling-trans u v w one.tells two.tells;
}
writes_then p q (Err e) u v w one two = record {
  whole = tt;
  part = WritesPart-behind Algebra p q u v w one.whole two.part;
  cause = HasWriteCause-then tt u v w (Err e) one.cause two.cause;
  tells = KeepsTelling-trans u v w one.tells two.tells;
}

-- a text that failed has failed with whatever was to come after it
pub failed_before : (p q : List ℕ) (e : WriteFault) (u v : View) → WritesText p u v (Err e) → WritesText (p ++ q) u v (Err e)
failed_before p q e u v h = record { whole = tt; part = WritesPart-longer Algebra p q u v h.part; cause = h.cause; tells = h.tells }

pub same_text : {p q : List ℕ} {r : Result (Unit {0}) WriteFault} {u v : View} → p ≡ q → WritesText p u v r → WritesText q u v r
same_text {p} {q} {r} {u} {v} is h = subst (λ text. WritesText text u v r) is h

-- what a `?` returns after a write that failed
pub returned : (text : List ℕ) (r : Result (Unit {0}) WriteFault) (e : WriteFault) (u v : View) → IsErr r → WritesText text u v (Err e) → WritesText text u v r
returned text (Ok x) e u v is h = absurd (cc is)
returned text (Err f) e u v is h = record {
  whole = tt;
  part = h.part;
  cause = record { later = h.cause.later; stands = tt; rose = h.cause.rose; read_faults = h.cause.read_faults; opened = h.cause.opened };
  tells = h.tells;
}

-- ---- loops

-- Of a whole text this rest is still to be written.
pub record WroteUpTo (whole rest : List ℕ) (old new : View) : Type 0 where
  pub text : List ℕ
  pub all : whole ≡ text ++ rest
  pub writes : WritesText text old new (Ok tt)

-- after what was written already
longer : (whole text rest piece later : List ℕ) → whole ≡ text ++ rest → rest ≡ piece ++ later → whole ≡ (text ++ piece) ++ later
longer whole text rest piece later e f = e ∙ ap (λ ys. text ++ ys) f ∙ sym (append_assoc text piece later)

pub up_to_none : (whole : List ℕ) (v : View) → WroteUpTo whole whole v v
up_to_none whole v = record { text = []; all = refl; writes = writes_none v }

pub up_to_more : {whole rest : List ℕ} {u v w : View} (piece later : List ℕ) → rest ≡ piece ++ later → WroteUpTo whole rest u v → WritesText piece v w (Ok tt) → WroteUpTo whole later u w
up_to_more {whole} {rest} {u} {v} {w} piece later is before here = record {
  text = before.text ++ piece;
  all = longer whole before.text rest piece later before.all is;
  writes = writes_then before.text piece (Ok tt) u v w before.writes here;
}

pub up_to_all : {whole rest : List ℕ} {u v : View} → rest ≡ [] → WroteUpTo whole rest u v → WritesText whole u v (Ok tt)
up_to_all {whole} {rest} {u} {v} none h = same_text (sym (h.all ∙ ap (λ l. h.text ++ l) none ∙ append-nil h.text)) h.writes

pub up_to_failed : {whole rest : List ℕ} {u v w : View} (piece later : List ℕ) (e : WriteFault) → rest ≡ piece ++ later → WroteUpTo whole rest u v → WritesText piece v w (Err e) → WritesText whole u w (Err e)
up_to_failed {whole} {rest} {u} {v} {w} piece later e is before here =
    same_text (sym (longer whole before.text rest piece later before.all is)) (failed_before (before.text ++ piece) later e u w (writes_then before.text piece (Err e) u v w before.writes here))
