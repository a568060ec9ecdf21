-- What kept lines import is kept, under its new number.
use Rattle.std.specs.Prelude.{◌≡◌, ℕ, zero, suc, ◌<◌, ◌≤◌, Bool, true, false, List, [], ◌∷◌, length, map, slice_get, slice_index, slice_index_or, IsSome}
use Rattle.std.specs.declared.option.Option.{Option}
use Rattle.std.specs.declared.option.Option.TheVariants.{None, Some}
use Rattle.std.specs.List.{All, cons_option}
use Rattle.std.proofs.Common.{refl, sym, ap, ap₂, subst, ◌∙◌, arith, ⊎_elim}
use Rattle.std.proofs.lemmas.List.Elements.{All-cons, All-head, All-map, All-nil, All-tail}
use Rattle.graph_core.specs.Graph.Assignments.{Assignment}
use Rattle.graph_core.specs.Graph.Operands.{Sides}
use Rattle.algebra_core.specs.AlgebraLines.{AreLawful, AreLawfulLines, IsThere, Ledger, Line, Premises, after, beginning, import_of, import_or_zero}
use Rattle.graph_core.specs.Graph.Extended.{modulus}
use Rattle.algebra_core.specs.AlgebraLines as algebra
use Rattle.algebra_core.specs.Text.{IsId, IsLineInRange}
use Rattle.clause_core.specs.Clause.{Clause}
use Rattle.clause_core.specs.ClauseLines.{ClauseLine, added}
use Rattle.miter_encoder.specs.declared.goal.Goal.{Goal}
use Rattle.poly_terms.specs.Tables.{Table, monomials_in}
use Rattle.poly_text.specs.Lines.{AreOf, line_in}
use Rattle.poly_text.specs.Recorded.{id_in, lines_in}
use Rattle.poly_text.specs.WrittenLines.{IsWritable}
use Rattle.poly_text.specs.declared.line.PacLine.{PacLine}
use Rattle.poly_text.specs.declared.line.PacLine.TheVariants as pac
use Rattle.clause_core.specs.KeptClauses.{AreBelow, IsMarked, added_lines, chosen, numbered, rank}
use Rattle.pair_trim.specs.KeptLines.{IsImportKept}
use Rattle.clause_core.proofs.CallerLemmas.{chosen_at}
use Rattle.pair_trim.specs.Lines.{AreLinesKept, all_renumbered, imports_in, renumbered_in}
use Rattle.pair_trim.specs.Marking.{IsKeptOf}
use Rattle.pair_trim.specs.Trimmed.{AreWritable, KeptImportsAreThere, KeptLinesAreWritable, KeptPairIsLawful}
use Rattle.pair_trim.proofs.KeptAlgebra.{kept_lines_close}
use Rattle.pair_trim.proofs.KeptClauses.{all_chosen}
use Rattle.pair_trim.proofs.UsedLines.{said_still}

-- ---- what is there

get_low : {X : Type 0} (xs : List X) (i : ℕ) → IsSome (slice_get xs i) → i < length xs
get_low [] i h = absurd (cc)
get_low (x ∷ xs) zero h = omega arith
get_low (x ∷ xs) (suc i) h = let low = get_low xs i h in omega arith

there_low : (imports : List (Assignment → ℕ)) (n : ℕ) → IsSome (import_of imports n) → (0 < n) × (n ≤ length imports)
there_low imports zero h = absurd (cc)
there_low imports (suc i) h = (omega arith, let low = get_low imports i h in omega arith)

imports_stay : (m : ℕ) (l : Ledger) (x : Line) → (after m l x).imports ≡ l.imports
imports_stay m l (algebra.Sum id i j p) = refl
imports_stay m l (algebra.Product id i q p) = refl
imports_stay m l (algebra.Combination id parts p) = refl
imports_stay m l (algebra.Import id n p) = refl
imports_stay m l (algebra.Delete id) = refl

all_there : (m : ℕ) (l : Ledger) (xs : List Line) → AreLawfulLines m l xs → All (IsThere l.imports) xs
all_there m l [] w = All-nil (IsThere l.imports)
all_there m l (x ∷ xs) w = All-cons (IsThere l.imports) x xs w.0.there (subst (λ (fs : List (Assignment → ℕ)). All (IsThere fs) xs) (imports_stay m l x) (all_there m (after m l x) xs w.1))

option_tail : (P : Line → Type 0) (o : Option Line) (xs : List Line) → All P (cons_option o xs) → All P xs
option_tail P None xs h = h
option_tail P (Some x) xs h = All-tail P x xs h

option_onto : (P : Line → Type 0) (o : Option Line) (xs ys : List Line) → All P (cons_option o xs) → All P ys → All P (cons_option o ys)
option_onto P None xs ys h k = k
option_onto P (Some x) xs ys h k = All-cons P x ys (All-head P x xs h) k

-- what holds of all lines holds of the chosen ones
pub said_chosen : (P : Line → Type 0) (t : Table) (marks : List Bool) (lines : List PacLine) → All P (lines_in t lines) → All P (lines_in t (chosen marks lines))
said_chosen P t [] lines h = All-nil P
said_chosen P t (b ∷ marks) [] h = All-nil P
said_chosen P t (true ∷ marks) (x ∷ lines) h =
    option_onto P (line_in t x) (lines_in t lines) (lines_in t (chosen marks lines)) h (said_chosen P t marks lines (option_tail P (line_in t x) (lines_in t lines) h))
said_chosen P t (false ∷ marks) (x ∷ lines) h = said_chosen P t marks lines (option_tail P (line_in t x) (lines_in t lines) h)

kept_there : (p : Premises) (s : Sides) (t : Table) (lines kept : List PacLine) (closing : ℕ) → AreLinesKept lines closing kept → AreLawful p s (lines_in t lines) closing → All (IsThere p.imports) (lines_in t kept)
kept_there p s t lines kept closing k w =
    subst (λ (xs : List PacLine). All (IsThere p.imports) (lines_in t xs)) (sym k.lines_are)
    (said_chosen (IsThere p.imports) t k.marks lines (all_there (modulus p.extended) (beginning p) (lines_in t lines) w.0))

imports_low : (imports : List (Assignment → ℕ)) (n : ℕ) (t : Table) (lines : List PacLine) → length imports ≤ n → All (IsThere imports) (lines_in t lines) → AreBelow n (imports_in lines)
imports_low imports n t [] low h = All-nil (λ (k : ℕ). (0 < k) × (k ≤ n))
imports_low imports n t (pac.Sum id i j p ∷ lines) low h = imports_low imports n t lines low (All-tail (IsThere imports) (algebra.Sum id i j (monomials_in t p)) (lines_in t lines) h)
imports_low imports n t (pac.Product id i q p ∷ lines) low h =
    imports_low imports n t lines low (All-tail (IsThere imports) (algebra.Product id i (monomials_in t q) (monomials_in t p)) (lines_in t lines) h)
imports_low imports n t (pac.Combination id parts p ∷ lines) low h = imports_low imports n t lines low (option_tail (IsThere imports) (line_in t (pac.Combination id parts p)) (lines_in t lines) h)
imports_low imports n t (pac.Import id k p ∷ lines) low h =
    let x : Line = algebra.Import id k (monomials_in t p) in
    let l = there_low imports k (All-head (IsThere imports) x (lines_in t lines) h) in
    let most = l.1 in
    All-cons (λ (j : ℕ). (0 < j) × (j ≤ n)) k (imports_in lines) (l.0, omega arith) (imports_low imports n t lines low (All-tail (IsThere imports) x (lines_in t lines) h))
imports_low imports n t (pac.Drop id ∷ lines) low h = imports_low imports n t lines low (All-tail (IsThere imports) (algebra.Delete id) (lines_in t lines) h)
imports_low imports n t (pac.Close id ∷ lines) low h = imports_low imports n t lines low h

pub kept_imports_are_there : KeptImportsAreThere
kept_imports_are_there p s t lines kept closing n k w low = imports_low p.imports n t kept low (kept_there p s t lines kept closing k w)

-- ---- ranks

rank_low : (marks : List Bool) (n : ℕ) → rank marks n ≤ n
rank_low marks zero = omega arith
rank_low [] (suc n) = omega arith
rank_low (true ∷ marks) (suc n) = let low = rank_low marks n in omega arith
rank_low (false ∷ marks) (suc n) = let low = rank_low marks n in omega arith

rank_some : (marks : List Bool) (n : ℕ) → IsMarked marks n → 0 < rank marks n
rank_some marks zero m = absurd (cc)
rank_some [] (suc n) m = absurd (cc)
rank_some (true ∷ marks) (suc n) m = omega arith
rank_some (false ∷ marks) (suc zero) m = absurd (cc)
rank_some (false ∷ marks) (suc (suc n)) m = rank_some marks (suc n) m

pub marked_low : (marks : List Bool) (n : ℕ) → IsMarked marks n → n ≤ length marks
marked_low marks zero m = omega arith
marked_low [] (suc n) m = absurd (cc)
marked_low (b ∷ marks) (suc zero) m = omega arith
marked_low (b ∷ marks) (suc (suc n)) m = let low = marked_low marks (suc n) m in omega arith

-- an element has a marked number
numbered_there : {X : Type 0} (marks : List Bool) (xs : List X) (n : ℕ) → length marks ≡ length xs → IsMarked marks n → (x : X) × (numbered xs n ≡ Some x)
numbered_there marks xs zero even m = absurd (cc)
numbered_there [] xs (suc n) even m = absurd (cc)
numbered_there (b ∷ marks) [] (suc n) even m = absurd (omega arith)
numbered_there (b ∷ marks) (x ∷ xs) (suc zero) even m = (x, refl)
numbered_there (b ∷ marks) (x ∷ xs) (suc (suc n)) even m = numbered_there marks xs (suc n) (omega arith) m

import_is : (f : Clause → Assignment → ℕ) (cs : List Clause) (n : ℕ) (c : Clause) → numbered cs n ≡ Some c → import_of (map f cs) n ≡ Some (f c)
import_is f cs zero c is = absurd (cc)
import_is f cs (suc j) c is = go cs j is
  where
    go : (ds : List Clause) (i : ℕ) → slice_get ds i ≡ Some c → slice_get (map f ds) i ≡ Some (f c)
    go [] i e = absurd (cc)
    go (d ∷ ds) zero e = let same : d ≡ c = cc in ap (λ (x : Clause). Some (f x)) same
    go (d ∷ ds) (suc i) e = go ds i e

added_back : (cs : List Clause) → added (added_lines cs) ≡ cs
added_back [] = refl
added_back (c ∷ cs) = ap (λ (ds : List Clause). c ∷ ds) (added_back cs)

module _ (goals : List Goal) (more : List ℕ) (clauses : List Clause) (uses : List (List ℕ)) (lines : List ClauseLine) (kept_uses : List (List ℕ)) (ranks : List ℕ)
    (k : IsKeptOf goals more clauses uses lines kept_uses ranks) where
  pub added_are : added lines ≡ chosen k.marks clauses
  added_are = ap added k.lines_are ∙ added_back (chosen k.marks clauses)

  pub ranked : (n : ℕ) → IsMarked k.marks n → slice_index ranks n ≡ rank k.marks n
  ranked n m = k.ranks_are.told n (marked_low k.marks n m)

  -- a number in range becomes one in range
  id_still : (n : ℕ) → IsMarked k.marks n → IsId n → IsId (slice_index ranks n)
  id_still n m id =
      let is = ranked n m in
      let some = rank_some k.marks n m in
      let low = rank_low k.marks n in
      let most = id.1 in
      (omega arith, omega arith)

  import_kept : (f : Clause → Assignment → ℕ) (n : ℕ) → IsMarked k.marks n →
      IsSome (import_of (map f (added lines)) (slice_index ranks n)) × ((σ : Assignment) → import_or_zero (import_of (map f (added lines)) (slice_index ranks n)) σ ≡ import_or_zero (import_of (map f clauses) n) σ)
  import_kept f n m =
      let c = numbered_there k.marks clauses n k.long m in
      let new : import_of (map f (added lines)) (slice_index ranks n) ≡ Some (f c.0) =
      ap₂ (λ (cs : List Clause) (j : ℕ). import_of (map f cs) j) added_are (ranked n m) ∙ import_is f (chosen k.marks clauses) (rank k.marks n) c.0 (chosen_at k.marks clauses n c.0 c.1 m) in
      let old = import_is f clauses n c.0 c.1 in
      (subst IsSome (sym new) refl, λ σ. ap (λ (o : Option (Assignment → ℕ)). import_or_zero o σ) (new ∙ sym old))

  imports_kept : (f : Clause → Assignment → ℕ) (t : Table) (xs : List PacLine) → All (IsMarked k.marks) (imports_in xs) →
      All (IsImportKept (map f clauses) (map f (added lines)) (slice_index ranks)) (lines_in t xs)
  imports_kept f t [] h = All-nil (IsImportKept (map f clauses) (map f (added lines)) (slice_index ranks))
  imports_kept f t (pac.Sum id i j p ∷ xs) h = All-cons (IsImportKept (map f clauses) (map f (added lines)) (slice_index ranks)) (algebra.Sum id i j (monomials_in t p)) (lines_in t xs) tt (imports_kept f t xs h)
  imports_kept f t (pac.Product id i q p ∷ xs) h =
      All-cons (IsImportKept (map f clauses) (map f (added lines)) (slice_index ranks)) (algebra.Product id i (monomials_in t q) (monomials_in t p)) (lines_in t xs) tt (imports_kept f t xs h)
  imports_kept f t (pac.Combination id parts p ∷ xs) h = All-cons (IsImportKept (map f clauses) (map f (added lines)) (slice_index ranks)) _ (lines_in t xs) tt (imports_kept f t xs h)
  imports_kept f t (pac.Import id n p ∷ xs) h =
      All-cons (IsImportKept (map f clauses) (map f (added lines)) (slice_index ranks)) (algebra.Import id n (monomials_in t p)) (lines_in t xs)
      (import_kept f n (All-head (IsMarked k.marks) n (imports_in xs) h)) (imports_kept f t xs (All-tail (IsMarked k.marks) n (imports_in xs) h))
  imports_kept f t (pac.Drop id ∷ xs) h = All-cons (IsImportKept (map f clauses) (map f (added lines)) (slice_index ranks)) (algebra.Delete id) (lines_in t xs) tt (imports_kept f t xs h)
  imports_kept f t (pac.Close id ∷ xs) h = imports_kept f t xs h

-- nothing is imported
none_kept : (others : List (Assignment → ℕ)) (number : ℕ → ℕ) (x : Line) → IsThere [] x → IsImportKept [] others number x
none_kept others number (algebra.Sum id i j p) h = tt
none_kept others number (algebra.Product id i q p) h = tt
none_kept others number (algebra.Combination id parts p) h = tt
none_kept others number (algebra.Import id zero p) h = absurd (cc)
none_kept others number (algebra.Import id (suc n) p) h = absurd (cc)
none_kept others number (algebra.Delete id) h = tt

pub kept_pair_is_lawful : KeptPairIsLawful
kept_pair_is_lawful p q s t lines kept closing f goals clauses uses clause_lines kept_uses ranks k up h w c extended these =
    subst (λ (xs : List Line). AreLawful q s xs closing) (sym (said_still (slice_index ranks) t kept))
    (kept_lines_close p q s t (slice_index ranks) lines kept closing k up h w extended (⊎_elim none some these))
  where
    none : p.imports ≡ [] → All (IsImportKept p.imports q.imports (slice_index ranks)) (lines_in t kept)
    none e = subst (λ (fs : List (Assignment → ℕ)). All (IsImportKept fs q.imports (slice_index ranks)) (lines_in t kept)) (sym e)
        (λ i d low. none_kept q.imports (slice_index ranks) (slice_index_or (lines_in t kept) i d)
        (subst (λ (fs : List (Assignment → ℕ)). IsThere fs (slice_index_or (lines_in t kept) i d)) e (kept_there p s t lines kept closing k w i d low)))

    some : (p.imports ≡ map f clauses) × (q.imports ≡ map f (added clause_lines)) → All (IsImportKept p.imports q.imports (slice_index ranks)) (lines_in t kept)
    some e = subst (λ (fs : List (Assignment → ℕ)). All (IsImportKept fs q.imports (slice_index ranks)) (lines_in t kept)) (sym e.0)
        (subst (λ (fs : List (Assignment → ℕ)). All (IsImportKept (map f clauses) fs (slice_index ranks)) (lines_in t kept)) (sym e.1)
        (imports_kept goals (imports_in kept) clauses uses clause_lines kept_uses ranks c f t kept c.named))

-- ---- lines that can be written

module _ (f : ℕ → ℕ) where
  abbrev StaysId : ℕ → Type 0
  StaysId n = IsId n → IsId (f n)

  one_introduces : (x : PacLine) → 0 < id_in x → 0 < id_in (renumbered_in f x)
  one_introduces (pac.Sum id i j p) h = h
  one_introduces (pac.Product id i q p) h = h
  one_introduces (pac.Combination id parts p) h = h
  one_introduces (pac.Import id n p) h = h
  one_introduces (pac.Drop id) h = h
  one_introduces (pac.Close id) h = h

  one_of : (t : Table) (x : PacLine) → AreOf t x → AreOf t (renumbered_in f x)
  one_of t (pac.Sum id i j p) h = h
  one_of t (pac.Product id i q p) h = h
  one_of t (pac.Combination id parts p) h = h
  one_of t (pac.Import id n p) h = h
  one_of t (pac.Drop id) h = h
  one_of t (pac.Close id) h = h

  all_writable : (xs : List PacLine) → All StaysId (imports_in xs) → All IsWritable xs → All IsWritable (all_renumbered f xs)
  all_writable [] s h = All-nil IsWritable
  all_writable (pac.Sum id i j p ∷ xs) s h = All-cons IsWritable (pac.Sum id i j p) (all_renumbered f xs) (All-head IsWritable (pac.Sum id i j p) xs h) (all_writable xs s (All-tail IsWritable (pac.Sum id i j p) xs h))
  all_writable (pac.Product id i q p ∷ xs) s h =
      All-cons IsWritable (pac.Product id i q p) (all_renumbered f xs) (All-head IsWritable (pac.Product id i q p) xs h) (all_writable xs s (All-tail IsWritable (pac.Product id i q p) xs h))
  all_writable (pac.Combination id parts p ∷ xs) s h =
      All-cons IsWritable (pac.Combination id parts p) (all_renumbered f xs) (All-head IsWritable (pac.Combination id parts p) xs h) (all_writable xs s (All-tail IsWritable (pac.Combination id parts p) xs h))
  all_writable (pac.Import id n p ∷ xs) s h =
      let w = All-head IsWritable (pac.Import id n p) xs h in
      All-cons IsWritable (pac.Import id (f n) p) (all_renumbered f xs) (w.0, All-head StaysId n (imports_in xs) s w.1) (all_writable xs (All-tail StaysId n (imports_in xs) s) (All-tail IsWritable (pac.Import id n p) xs h))
  all_writable (pac.Drop id ∷ xs) s h = All-cons IsWritable (pac.Drop id) (all_renumbered f xs) (All-head IsWritable (pac.Drop id) xs h) (all_writable xs s (All-tail IsWritable (pac.Drop id) xs h))
  all_writable (pac.Close id ∷ xs) s h = All-cons IsWritable (pac.Close id) (all_renumbered f xs) (All-head IsWritable (pac.Close id) xs h) (all_writable xs s (All-tail IsWritable (pac.Close id) xs h))

  all_in_range : (max : ℕ) (t : Table) (xs : List PacLine) → All StaysId (imports_in xs) → All (IsLineInRange max) (lines_in t xs) → All (IsLineInRange max) (lines_in t (all_renumbered f xs))
  all_in_range max t [] s h = All-nil (IsLineInRange max)
  all_in_range max t (pac.Sum id i j p ∷ xs) s h =
      option_onto (IsLineInRange max) (line_in t (pac.Sum id i j p)) (lines_in t xs) (lines_in t (all_renumbered f xs)) h (all_in_range max t xs s (option_tail (IsLineInRange max) (line_in t (pac.Sum id i j p)) (lines_in t xs) h))
  all_in_range max t (pac.Product id i q p ∷ xs) s h =
      option_onto (IsLineInRange max) (line_in t (pac.Product id i q p)) (lines_in t xs) (lines_in t (all_renumbered f xs)) h (all_in_range max t xs s (option_tail (IsLineInRange max) (line_in t (pac.Product id i q p)) (lines_in t xs) h))
  all_in_range max t (pac.Combination id parts p ∷ xs) s h =
      option_onto (IsLineInRange max) (line_in t (pac.Combination id parts p)) (lines_in t xs) (lines_in t (all_renumbered f xs)) h (all_in_range max t xs s (option_tail (IsLineInRange max) (line_in t (pac.Combination id parts p)) (lines_in t xs) h))
  all_in_range max t (pac.Import id n p ∷ xs) s h =
      let x : Line = algebra.Import id n (monomials_in t p) in
      let w = All-head (IsLineInRange max) x (lines_in t xs) h in
      All-cons (IsLineInRange max) (algebra.Import id (f n) (monomials_in t p)) (lines_in t (all_renumbered f xs)) (w.0, All-head StaysId n (imports_in xs) s w.1, w.2)
      (all_in_range max t xs (All-tail StaysId n (imports_in xs) s) (All-tail (IsLineInRange max) x (lines_in t xs) h))
  all_in_range max t (pac.Drop id ∷ xs) s h =
      option_onto (IsLineInRange max) (line_in t (pac.Drop id)) (lines_in t xs) (lines_in t (all_renumbered f xs)) h (all_in_range max t xs s (option_tail (IsLineInRange max) (line_in t (pac.Drop id)) (lines_in t xs) h))
  all_in_range max t (pac.Close id ∷ xs) s h = all_in_range max t xs s h

pub kept_lines_are_writable : KeptLinesAreWritable
kept_lines_are_writable t max lines kept closing goals clauses uses clause_lines kept_uses ranks k c h =
    subst (λ (xs : List PacLine). AreWritable t max (all_renumbered (slice_index ranks) xs)) (sym k.lines_are) (record {
      introduce = All-map (λ x. 0 < id_in x) (renumbered_in (slice_index ranks)) (chosen k.marks lines) (λ i d low. one_introduces (slice_index ranks) (slice_index_or (chosen k.marks lines) i d) (all_chosen (λ x. 0 < id_in x) k.marks lines h.introduce i d low));
      of = All-map (AreOf t) (renumbered_in (slice_index ranks)) (chosen k.marks lines) (λ i d low. one_of (slice_index ranks) t (slice_index_or (chosen k.marks lines) i d) (all_chosen (AreOf t) k.marks lines h.of i d low));
      writable = all_writable (slice_index ranks) (chosen k.marks lines) stays (all_chosen IsWritable k.marks lines h.writable);
      in_range = all_in_range (slice_index ranks) max t (chosen k.marks lines) stays (said_chosen (IsLineInRange max) t k.marks lines h.in_range);
    })
  where
    stays : All (λ n. IsId n → IsId (slice_index ranks n)) (imports_in (chosen k.marks lines))
    stays = subst (λ (xs : List PacLine). All (λ n. IsId n → IsId (slice_index ranks n)) (imports_in xs)) k.lines_are
        (λ i d low. id_still goals (imports_in kept) clauses uses clause_lines kept_uses ranks c (slice_index_or (imports_in kept) i d) (c.named i d low))
