-- What calls on a desk do one after the other: what the crates above may cite of this crate's proofs.
use Rattle.std.proofs.Common.{◌≡◌, ◌≢◌, ◌≤◌, ℕ, List, [], ◌++◌, None, Some, Option, refl, sym, ap, ◌∙◌, append_assoc, append-nil, ◌+◌, ◌-◌, suc, zero, add-zero, add-suc, length, take, drop, take-append-drop, take_all, length-drop, subst, arith}
use Rattle.std.specs.Io.{StartsWith}
use Rattle.std.specs.Io.KnownBytes.{Keeps}
use Rattle.std.specs.Prelude.{IfSome, OnOk, Result, Ok, Err, option_map, unwrap_or}
use Rattle.std.proofs.KnownBytes.{Appends-nil, Appends-trans, starts_with_rest}
use Rattle.std.proofs.Transfers.{starts_with_of_append}
use Rattle.mv_desk.specs.Calls.{AreApart, BytesGrow, HasReadCause, HasWriteCause, HeldGrows, Inspects, Opens, OtherStays, Reads, ReadsOnly, WritesPart, WritesTo}
use Rattle.mv_desk.specs.View.{IsSame, KeepsTelling, ModeStays, OpensFiles, SlotStays, View, bytes_under, raised, raised_by}
use Rattle.mv_desk.specs.HonestDesk.{view_of}
use Rattle.mv_desk.specs.declared.memory.honest_desk.HonestDesk.{HonestDesk}
use Rattle.mv_desk.specs.declared.slot.Slot.{Slot}
use Rattle.mv_desk.specs.declared.slot.Slot.TheVariants.{Report}

pub ModeStays-refl : (slot : Slot) (a : View) → ModeStays slot a a
ModeStays-refl slot a = record { reads = refl; writes = refl; name = refl }

pub ModeStays-trans : (slot : Slot) (a b c : View) → ModeStays slot a b → ModeStays slot b c → ModeStays slot a c
ModeStays-trans slot a b c p q = record { reads = q.reads ∙ p.reads; writes = q.writes ∙ p.writes; name = q.name ∙ p.name }

pub SlotStays-refl : (slot : Slot) (a : View) → SlotStays slot a a
SlotStays-refl slot a = record { mode = ModeStays-refl slot a; left = refl; written = refl }

pub SlotStays-trans : (slot : Slot) (a b c : View) → SlotStays slot a b → SlotStays slot b c → SlotStays slot a c
SlotStays-trans slot a b c p q = record { mode = ModeStays-trans slot a b c p.mode q.mode; left = q.left ∙ p.left; written = q.written ∙ p.written }

pub KeepsTelling-refl : (a : View) → KeepsTelling a a
KeepsTelling-refl a = record { held = λ _ told. told; left = λ _ told. told; written = λ _ told. told }

pub KeepsTelling-trans : (a b c : View) → KeepsTelling a b → KeepsTelling b c → KeepsTelling a c
KeepsTelling-trans a b c p q = record {
  held = λ name told. q.held name (p.held name told);
  left = λ slot told. q.left slot (p.left slot told);
  written = λ slot told. q.written slot (p.written slot told);
}

pub ReadsOnly-refl : (slot : Slot) (a : View) → ReadsOnly slot a a
ReadsOnly-refl slot a = record {
  mode = ModeStays-refl slot a;
  written = refl;
  others = λ other _. SlotStays-refl other a;
  held = λ _. refl;
  later = omega arith;
  write_faults = refl;
  opened = refl;
}

pub ReadsOnly-trans : (slot : Slot) (a b c : View) → ReadsOnly slot a b → ReadsOnly slot b c → ReadsOnly slot a c
ReadsOnly-trans slot a b c p q =
    let first = p.later in
    let second = q.later in
    record {
      mode = ModeStays-trans slot a b c p.mode q.mode;
      written = q.written ∙ p.written;
      others = λ other apart. SlotStays-trans other a b c (p.others other apart) (q.others other apart);
      held = λ name. q.held name ∙ p.held name;
      later = omega arith;
      write_faults = q.write_faults ∙ p.write_faults;
      opened = q.opened ∙ p.opened;
    }

-- ---- the report

-- ---- commands that only look

pub Inspects-trans : (a b c : View) → Inspects a b → Inspects b c → Inspects a c
Inspects-trans a b c p q =
    let first = p.later in
    let second = q.later in
    record {
      report = SlotStays-trans Report a b c p.report q.report;
      held = λ name. q.held name ∙ p.held name;
      later = omega arith;
      write_faults = q.write_faults ∙ p.write_faults;
    }

-- opening a slot but the report
pub Inspects-Opens : {T E : Type 0} (slot : Slot) (given : List ℕ) (a b : View) (result : Result T E) → Report ≢ slot
    → Opens slot given a b → HasReadCause a b result → Inspects a b
Inspects-Opens slot given a b result apart opens cause = record {
  report = opens.others Report apart;
  held = opens.held;
  later = cause.later;
  write_faults = cause.write_faults;
}

-- reading from a slot but the report
pub Inspects-ReadsOnly : (slot : Slot) (a b : View) → Report ≢ slot → ReadsOnly slot a b → Inspects a b
Inspects-ReadsOnly slot a b apart only = record {
  report = only.others Report apart;
  held = only.held;
  later = only.later;
  write_faults = only.write_faults;
}

-- ---- how many files were opened

raised_by-raised_by : (first second count : ℕ) → raised_by second (raised_by first count) ≡ raised_by (first + second) count
raised_by-raised_by first zero count = rw (add-zero first) refl
raised_by-raised_by first (suc second) count = rw (add-suc first second) (ap raised (raised_by-raised_by first second count))

pub OpensFiles-trans : (first second : ℕ) (a b c : View) → OpensFiles first a b → OpensFiles second b c → OpensFiles (first + second) a c
OpensFiles-trans first second a b c p q = q ∙ ap (raised_by second) p ∙ raised_by-raised_by first second a.opened

-- a call that opened none
pub OpensFiles-still : (count : ℕ) (a b c : View) → OpensFiles count a b → c.opened ≡ b.opened → OpensFiles count a c
OpensFiles-still count a b c p same = same ∙ p

-- the bytes under a name stay with what is held
pub bytes_under-held : (a b : View) (name : List ℕ) → b.held name ≡ a.held name → bytes_under b name ≡ bytes_under a name
bytes_under-held a b name same = ap (option_map (λ (bytes : Option (List ℕ)). unwrap_or bytes [])) same

-- a fact of known bytes, where they were kept
pub IfSome-Keeps : (a b : Option (List ℕ)) (P : List ℕ → Type 0) → Keeps a b → IfSome b P → IfSome a P
IfSome-Keeps None b P kept fact = tt
IfSome-Keeps (Some xs) None P kept fact = absurd kept
IfSome-Keeps (Some xs) (Some ys) P kept fact = subst P kept fact

-- ---- writing

HeldGrows-nil : (h : Option (Option (List ℕ))) → HeldGrows h h []
HeldGrows-nil None = tt
HeldGrows-nil (Some None) = tt
HeldGrows-nil (Some (Some bytes)) = ap (λ (l : List ℕ). Some (Some l)) (sym (append-nil bytes))

HeldGrows-trans : (h i j : Option (Option (List ℕ))) (p q : List ℕ) → HeldGrows h i p → HeldGrows i j q → HeldGrows h j (p ++ q)
HeldGrows-trans None i j p q first second = tt
HeldGrows-trans (Some None) i j p q first second = tt
HeldGrows-trans (Some (Some bytes)) i j p q first second =
    let grown : HeldGrows (Some (Some (bytes ++ p))) j q = subst (λ (h : Option (Option (List ℕ))). HeldGrows h j q) first second in
    grown ∙ ap (λ (l : List ℕ). Some (Some l)) (append_assoc bytes p q)

BytesGrow-nil : (name : Option (Option (List ℕ))) (a : View) → BytesGrow name a a []
BytesGrow-nil None a = tt
BytesGrow-nil (Some None) a = tt
BytesGrow-nil (Some (Some name)) a = HeldGrows-nil (a.held name)

BytesGrow-same : (name : Option (Option (List ℕ))) (a b : View) → ((n : List ℕ) → b.held n ≡ a.held n) → BytesGrow name a b []
BytesGrow-same None a b same = tt
BytesGrow-same (Some None) a b same = tt
BytesGrow-same (Some (Some name)) a b same = rw (same name) (HeldGrows-nil (a.held name))

BytesGrow-trans : (name : Option (Option (List ℕ))) (a b c : View) (p q : List ℕ) → BytesGrow name a b p → BytesGrow name b c q → BytesGrow name a c (p ++ q)
BytesGrow-trans None a b c p q first second = tt
BytesGrow-trans (Some None) a b c p q first second = tt
BytesGrow-trans (Some (Some name)) a b c p q first second = HeldGrows-trans (a.held name) (b.held name) (c.held name) p q first second

OtherStays-refl : (name : Option (Option (List ℕ))) (slot : Slot) (a : View) → OtherStays name slot a a
OtherStays-refl name slot a = record { mode = ModeStays-refl slot a; written = refl; left = λ _. refl }

OtherStays-trans : (name : Option (Option (List ℕ))) (slot : Slot) (a b c : View) → OtherStays name slot a b →
    OtherStays name slot b c → OtherStays name slot a c
OtherStays-trans name slot a b c p q = record {
  mode = ModeStays-trans slot a b c p.mode q.mode;
  written = q.written ∙ p.written;
  left = λ apart. q.left (subst (AreApart name) (sym p.mode.name) apart) ∙ p.left apart;
}

pub WritesTo-nil : (slot : Slot) (a : View) → WritesTo slot [] a a
WritesTo-nil slot a = record {
  mode = ModeStays-refl slot a;
  written = Appends-nil (a.written slot);
  bytes = BytesGrow-nil (a.name slot) a;
  others = λ other _. OtherStays-refl (a.name slot) other a;
  held = λ _ _. refl;
}

pub WritesTo-trans : (slot : Slot) (a b c : View) (p q : List ℕ) → WritesTo slot p a b → WritesTo slot q b c → WritesTo slot (p ++ q) a c
WritesTo-trans slot a b c p q first second =
    let same = first.mode.name in
    record {
      mode = ModeStays-trans slot a b c first.mode second.mode;
      written = Appends-trans (a.written slot) (b.written slot) (c.written slot) p q first.written second.written;
      bytes = BytesGrow-trans (a.name slot) a b c p q first.bytes (subst (λ (name : Option (Option (List ℕ))). BytesGrow name b c q) same second.bytes);
      others = λ other apart. OtherStays-trans (a.name slot) other a b c (first.others other apart)
          (subst (λ (name : Option (Option (List ℕ))). OtherStays name other b c) same (second.others other apart));
      held = λ name apart. second.held name (subst (λ (own : Option (Option (List ℕ))). AreApart own (Some (Some name))) (sym same) apart) ∙
          first.held name apart;
    }

-- a call that changed nothing wrote nothing
pub WritesTo-same : (slot : Slot) (p : List ℕ) (a b c : View) → WritesTo slot p a b → IsSame b c → WritesTo slot p a c
WritesTo-same slot p a b c first same = rw (append-nil p) at (WritesTo-trans slot a b c p [] first nothing)
  where
    nothing : WritesTo slot [] b c
    nothing = record {
      mode = (same.slots slot).mode;
      written = rw (same.slots slot).written (Appends-nil (b.written slot));
      bytes = BytesGrow-same (b.name slot) b c (λ name. same.held name);
      others = λ other _. let one = same.slots other in record { mode = one.mode; written = one.written; left = λ _. one.left };
      held = λ name _. same.held name;
    }

-- no write failed yet
pub HasWriteCause-none : {T E : Type 0} (done : T) (a : View) → HasWriteCause {T = T} {E = E} a a (Ok done)
HasWriteCause-none done a = record { later = omega arith; stands = refl; rose = tt; read_faults = refl; opened = refl }

-- a call that succeeded, and another
pub HasWriteCause-then : {S T F E : Type 0} (done : S) (a b c : View) (result : Result T E)
    → HasWriteCause {T = S} {E = F} a b (Ok done) → HasWriteCause b c result → HasWriteCause a c result
HasWriteCause-then done a b c (Ok x) p q =
    let first = p.later in
    let second = q.later in
    record {
      later = omega arith;
      stands = q.stands ∙ p.stands;
      rose = tt;
      read_faults = q.read_faults ∙ p.read_faults;
      opened = q.opened ∙ p.opened;
    }
HasWriteCause-then done a b c (Err e) p q =
    let first = p.later in
    let second = q.later in
    let rose = q.rose in
    record {
      later = omega arith;
      stands = tt;
      rose = omega arith;
      read_faults = q.read_faults ∙ p.read_faults;
      opened = q.opened ∙ p.opened;
    }

starts_longer : (xs ys prefix : List ℕ) → StartsWith xs prefix → StartsWith (xs ++ ys) prefix
starts_longer xs ys prefix h =
    starts_with_of_append (xs ++ ys) prefix (drop (length prefix) xs ++ ys) (ap (λ (l : List ℕ). l ++ ys) (starts_with_rest xs prefix h) ∙
    append_assoc prefix (drop (length prefix) xs) ys)

starts_behind : (front xs prefix : List ℕ) → StartsWith xs prefix → StartsWith (front ++ xs) (front ++ prefix)
starts_behind front xs prefix h =
    starts_with_of_append (front ++ xs) (front ++ prefix) (drop (length prefix) xs) (ap (λ (l : List ℕ). front ++ l) (starts_with_rest xs prefix h) ∙
    sym (append_assoc front prefix (drop (length prefix) xs)))

-- a front part of these bytes is one of longer ones
pub WritesPart-longer : (slot : Slot) (bytes more : List ℕ) (a b : View) → WritesPart slot bytes a b → WritesPart slot (bytes ++ more) a b
WritesPart-longer slot bytes more a b h = record { part = h.part; starts = starts_longer bytes more h.part h.starts; writes = h.writes }

-- bytes, and a front part of those after them
pub WritesPart-behind : (slot : Slot) (bytes more : List ℕ) (a b c : View) → WritesTo slot bytes a b → WritesPart slot more b c →
    WritesPart slot (bytes ++ more) a c
WritesPart-behind slot bytes more a b c p q = record {
  part = bytes ++ q.part;
  starts = starts_behind bytes more q.part q.starts;
  writes = WritesTo-trans slot a b c bytes q.part p q.writes;
}

-- bytes are those up to a place, and those from it on
pub split_at : (bytes : List ℕ) (count most : ℕ) → length bytes - count ≤ most → bytes ≡ take count bytes ++ take most (drop count bytes)
split_at bytes count most enough = rw (take_all most (drop count bytes) (rw (length-drop count bytes) enough)) (sym (take-append-drop count bytes))

-- a read after others
pub reads_on : {T E : Type 0} (slot : Slot) (a b c : View) → ReadsOnly slot a b → KeepsTelling a b → ReadsOnly slot b c → KeepsTelling b c → (result : Result T E)
    → OnOk result (c.read_faults ≡ a.read_faults) → Reads slot a c result
reads_on slot a b c first told second tells result stands = record {
  only = ReadsOnly-trans slot a b c first second;
  stands = stands;
  tells = KeepsTelling-trans a b c told tells;
}

-- ---- honest desks

-- no read of an honest desk ever failed
pub never_failed : (desk : HonestDesk) → (view_of desk).read_faults ≡ 0
unfolding view_of
never_failed desk = refl
