-- Items that a loop reads one after another, as a reader of many reads them.
use Rattle.std.specs.Prelude.{◌≡◌, ℕ, Bool, false, cond, List, [], ◌∷◌, ◌++◌, length}
use Rattle.std.specs.declared.option.Option.{Option}
use Rattle.std.specs.declared.option.Option.TheVariants.{None, Some}
use Rattle.std.specs.Global.{Global}
use Rattle.std.specs.declared.vec.Vec.{Vec}
use Rattle.std.specs.List.{All}
use Rattle.std.specs.Option.{IsSome}
use Rattle.std.proofs.Common.{refl, sym, ap, subst, ◌∙◌, append_assoc}
use Rattle.std.proofs.lemmas.List.{append-nil}
use Rattle.std.proofs.lemmas.List.Elements.{All-push, All-pop}
use Rattle.graph_core.specs.Text.Numerals.{◌>>=◌}
use Rattle.graph_core.specs.Text.Readers.{Reader, many_at, many_in, put_before}
use Rattle.mv_text.specs.Steps.{begins, Gives, Takes, Pushes, IsMisfit}
use Rattle.mv_text.specs.declared.line_fail.LineFail.{LineFail}
use Rattle.mv_text.specs.declared.line_fail.LineFail.TheVariants as fail

-- items before those that are read after them
abbrev pub put_all : {A : Type 0} → List A → Option (List A × List ℕ) → Option (List A × List ℕ)
put_all xs None = None
put_all xs (Some ys) = Some (xs ++ ys.0, ys.1)

-- So far these items were read, with the same items to come, and code has this of them.
pub record Gathers {A T : Type 0} (many : Reader (List A)) (InRange : List A → Type 0) (Are : List A → T → Type 0) (old now : List ℕ) (given : Option T) : Type 0 where
  pub read : List A
  pub goes_on : many old ≡ put_all read (many now)
  pub gives : Gives InRange Are read given

put_all-nil : {A : Type 0} (o : Option (List A × List ℕ)) → o ≡ put_all [] o
put_all-nil None = refl
put_all-nil (Some ys) = refl

put_all-before : {A : Type 0} (xs : List A) (x : A) (o : Option (List A × List ℕ)) → put_all xs (put_before x o) ≡ put_all (xs ++ x ∷ []) o
put_all-before xs x None = refl
put_all-before xs x (Some ys) = ap (λ zs. Some (zs, ys.1)) (sym (append_assoc xs (x ∷ []) ys.0))

-- nothing is read yet
pub gathers_none : {A T : Type 0} (many : Reader (List A)) (InRange : List A → Type 0) (Are : List A → T → Type 0) (old : List ℕ) (given : Option T) → Gives InRange Are [] given → Gathers many InRange Are old old given
gathers_none many InRange Are old given gives = record { read = []; goes_on = put_all-nil (many old); gives = gives }

-- one more item is read
pub gathers_more : {A T K : Type 0} {many : Reader (List A)} {InRange : List A → Type 0} {Are : List A → T → Type 0} {old now : List ℕ} {given : Option T} {item : Reader A} {Fits : A → Type 0} {Is : A → K → Type 0} {new : List ℕ} {one : Option K} (given' : Option T) →
    (so_far : Gathers many InRange Are old now given) → (next : Takes item Fits Is now new one) → many now ≡ (item now >>= λ x. put_before x.0 (many x.1)) → Gives InRange Are (so_far.read ++ next.read ∷ []) given' → Gathers many InRange Are old new given'
gathers_more {A} {T} {K} {many} {InRange} {Are} {old} {now} {given} {item} {Fits} {Is} {new} given' so_far next turn gives = record {
  read = so_far.read ++ next.read ∷ [];
  goes_on = so_far.goes_on ∙ ap (put_all so_far.read) (turn ∙ ap (λ o. o >>= λ x. put_before x.0 (many x.1)) next.taken) ∙ put_all-before so_far.read next.read (many new);
  gives = gives;
}

-- no item follows
pub gathers_all : {A T : Type 0} {many : Reader (List A)} {InRange : List A → Type 0} {Are : List A → T → Type 0} {old now : List ℕ} {given : Option T} → Gathers many InRange Are old now given → many now ≡ Some ([], now) → Takes many InRange Are old now given
gathers_all {A} {T} {many} {InRange} {Are} {old} {now} so_far stop = record {
  read = so_far.read;
  taken = so_far.goes_on ∙ ap (put_all so_far.read) stop ∙ ap (λ zs. Some (zs, now)) (append-nil so_far.read);
  gives = so_far.gives;
}

-- what follows is no item
pub gathers_misfit : {A T : Type 0} {many : Reader (List A)} {InRange : List A → Type 0} {Are : List A → T → Type 0} {old now : List ℕ} {given : Option T} (item : Reader A) → Gathers many InRange Are old now given →
    many now ≡ (item now >>= λ x. put_before x.0 (many x.1)) → item now ≡ None → many old ≡ None
gathers_misfit {A} {T} {many} item so_far turn none = so_far.goes_on ∙ ap (put_all so_far.read) (turn ∙ ap (λ o. o >>= λ x. put_before x.0 (many x.1)) none)

-- where no item begins, there is none
pub many_stops : {A : Type 0} (test : ℕ → Bool) (item : Reader A) (bytes : List ℕ) → begins test bytes ≡ false → many_at test item bytes ≡ Some ([], bytes)
unfolding many_at
many_stops test item [] h = refl
many_stops test item (b ∷ bytes) h = ap (λ c. cond c (item (b ∷ bytes) >>= λ x. put_before x.0 (many_in (length bytes) test item x.1)) (Some ([], b ∷ bytes))) h

-- a list of items in range gets one more
pub pushes_give : {A I T : Type 0} (P : A → Type 0) (Is : A → T → Type 0) (before : Option I) (Are : List A → Vec T Global → Type 0) (read : List A) (x : A) (given : Option (Vec T Global)) (one : Option T) (given' : Option (Vec T Global)) →
    ((list longer : Vec T Global) (k : T) → Are read list → Is x k → longer.items ≡ list.items ++ k ∷ [] → Are (read ++ x ∷ []) longer) →
    Gives (λ xs. IsSome before × All P xs) Are read given → Gives P Is x one → Pushes given one given' → Gives (λ xs. IsSome before × All P xs) Are (read ++ x ∷ []) given'
pushes_give P Is before Are read x (Some list) (Some k) (Some longer) step all here pushes = ((all.0.0, All-push P read x all.0.1 here.0), step list longer k all.1 here.1 pushes)
pushes_give P Is before Are read x (Some list) (Some k) None step all here pushes = absurd pushes
pushes_give {A} {I} {T} P Is before Are read x (Some list) None given' step all here pushes =
    subst (Gives (λ xs. IsSome before × All P xs) Are (read ++ x ∷ [])) (sym pushes) (λ h. here (All-pop P (read ++ x ∷ []) read (Some x) refl h.1).1)
pushes_give {A} {I} {T} P Is before Are read x None one given' step all here pushes =
    subst (Gives (λ xs. IsSome before × All P xs) Are (read ++ x ∷ [])) (sym pushes) (λ h. all (h.0, (All-pop P (read ++ x ∷ []) read (Some x) refl h.1).0))

-- a text that fails where another one does
pub misfit_from : {P Q : Type 0} (f : LineFail) → (P → Q) → IsMisfit P f → IsMisfit Q f
misfit_from fail.Text q p = q p
misfit_from fail.Range q p = p
misfit_from fail.Fault q p = p
misfit_from fail.TooLong q p = p
misfit_from fail.Memory q p = tt
