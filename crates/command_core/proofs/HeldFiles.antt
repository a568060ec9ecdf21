-- What is held under a name once a file was written.
use Rattle.std.proofs.Common.{◌≡◌, ◌≢◌, ℕ, List, [], Some, None, refl, sym, subst, ◌∙◌}
use Rattle.std.specs.Prelude.{IsSome, option_map, unwrap_or}
use Rattle.std.specs.declared.option.Option.{Option}
use Rattle.mv_desk.specs.Calls.{AreApart, Becomes, BytesGrow, HeldGrows}
use Rattle.mv_desk.specs.View.{View}
use Rattle.mv_desk.specs.declared.slot.Slot.{Slot}
use Rattle.command_core.specs.Written.{WritesFile}

none_told : (A : Type 0) → IsSome {T = A} None → ⊥
none_told A h = cc

becomes : {A : Type 0} (old new : Option A) (value : A) → IsSome old → Becomes old new value → new ≡ Some value
becomes {A = A} None new value told h = absurd (none_told A told)
becomes (Some before) new value told h = h

pub same_told : {A : Type 0} (old new : Option A) → new ≡ old → IsSome old → IsSome new
same_told old new same told = subst IsSome (sym same) told

-- ---- one file

-- The slot had the name once the file was created.
module _ (at : Slot) (name text : List ℕ) (a b : View) (w : WritesFile at name text a b) (named : w.created.name at ≡ Some (Some name)) where
  pub text_is_held : IsSome (a.held name) → b.held name ≡ Some (Some text)
  text_is_held told =
      let empty = becomes (a.held name) (w.created.held name) (Some []) told w.creates.bytes in
      let grows : HeldGrows (w.created.held name) (b.held name) text = subst (λ n. BytesGrow n w.created b text) named w.writes.bytes in
      subst (λ old. HeldGrows old (b.held name) text) empty grows

  pub no_other_changed : (other : List ℕ) → name ≢ other → b.held other ≡ a.held other
  no_other_changed other apart =
      w.writes.held other (subst (λ n. AreApart n (Some (Some other))) (sym named) apart) ∙ w.creates.held other (λ same. apart (sym same))

-- The slot's name is told.
module _ (at : Slot) (name text : List ℕ) (a b : View) (w : WritesFile at name text a b) (named : IsSome (a.name at)) where
  created_name : w.created.name at ≡ Some (Some name)
  created_name = becomes (a.name at) (w.created.name at) (Some name) named w.creates.name

  pub file_is_held : IsSome (a.held name) → b.held name ≡ Some (Some text)
  file_is_held = text_is_held at name text a b w created_name

  pub others_are_held : (other : List ℕ) → name ≢ other → b.held other ≡ a.held other
  others_are_held = no_other_changed at name text a b w created_name

  pub other_names : (other : Slot) → other ≢ at → b.name other ≡ a.name other
  other_names other apart = (w.writes.others other apart).mode.name ∙ (w.creates.others other apart).mode.name

-- the bytes that are told
pub told_file : (file : Option (Option (List ℕ))) → IsSome file → (bytes : List ℕ) × (option_map (λ b. unwrap_or b []) file ≡ Some bytes)
told_file None told = absurd (none_told (Option (List ℕ)) told)
told_file (Some bytes) told = (unwrap_or bytes [], refl)
