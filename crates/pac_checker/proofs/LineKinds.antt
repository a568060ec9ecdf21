-- Each kind of line that introduces an id states the sum of some lines, each times a factor.
use Rattle.std.proofs.Common.{◌≡◌, ℕ, ◌+◌, ◌*◌, ◌%◌, List, [], ◌∷◌, ◌++◌, refl, sym, ap, ap₂, subst, ◌∙◌, arith}
use Rattle.std.proofs.Math.Nat.{add-mul}
use Rattle.std.proofs.lemmas.Nat.{mul-mod_second}
use Rattle.graph_core.specs.Graph.Extended.{Extended}
use Rattle.algebra_core.specs.Agreement.{LedgersAgree}
use Rattle.algebra_core.specs.AlgebraLines.{Line, IsLawfulLine, introduce, value_of}
use Rattle.algebra_core.specs.InRange.{IsRefusedInRange}
use Rattle.graph_core.specs.Graph.Extended as graphs
use Rattle.algebra_core.specs.AlgebraLines as algebra
use Rattle.algebra_core.specs.Refusal as cause
use Rattle.algebra_core.proofs.CallerLemmas.{after_agrees, agree_trans, lawful_agrees, refused_in_range_agrees}
use Rattle.poly_terms.specs.Tables.{Sum, IsOf, modulus_in, monomials_in}
use Rattle.poly_terms.specs.Laws.{extends_on, modulus_stays, monomials_stay}
use Rattle.pac_checker.specs.declared.fault.LineFault.{LineFault}
use Rattle.pac_checker.specs.declared.fault.LineFault.TheVariants.{Id, NoSuchLine, NoSuchClause, NotEqual, Memory}
use Rattle.pac_checker.specs.Checking.{AlgebraChecking, ledger_of, recorded_of, GrowsCheckedTable, TakesAlgebraLine}
use Rattle.pac_checker.specs.Rules.{IsRefused, IsStatingLine, combination_line, product_line, sum_line}
use Rattle.pac_checker.specs.Works.{IsPolyOfValue}

two_ones : (m k v w f : ℕ) → f ≡ 1 % k → m ≡ k → (v + w) % m ≡ (v * f + (w * f + 0)) % m
two_ones m k v w f e same =
    sym (ap (λ n. n % m) (omega arith ∙ sym (add-mul v w f)) ∙ ap (λ n. ((v + w) * n) % m) (e ∙ ap (λ n. 1 % n) (sym same)) ∙ mul-mod_second (v + w) 1 m ∙ ap (λ n. n % m) (omega arith))

-- a sum, over a table that has grown by the polynomial 1
pub sum_is_combination : (old mid : AlgebraChecking) (id i j : ℕ) (one p : Sum) → GrowsCheckedTable old mid → IsPolyOfValue mid.table (λ σ. 1 % modulus_in old.table) one → IsOf old.table p →
    IsStatingLine mid id ((i, one) ∷ (j, one) ∷ []) p (sum_line old.table id i j p)
sum_is_combination old mid id i j one p grown made of =
    let same : monomials_in mid.table p ≡ monomials_in old.table p = monomials_stay old.table mid.table p grown.table of in
    record {
      is_new = λ last above. above;
      is_old = λ last below above. absurd (omega (arith, below, above));
      lines = refl;
      there = λ imports. tt;
      states = sym same;
      names = λ σ. two_ones (modulus_in mid.table) (modulus_in old.table) (value_of (ledger_of mid).live i σ) (value_of (ledger_of mid).live j σ) _ (made.value σ) (modulus_stays old.table mid.table grown.table);
      next = λ m l. ap (introduce m l id) (sym same);
    }

pub product_is_combination : (c : AlgebraChecking) (id i : ℕ) (factor p : Sum) → IsStatingLine c id ((i, factor) ∷ []) p (product_line c.table id i factor p)
product_is_combination c id i factor p = record {
  is_new = λ last above. above;
  is_old = λ last below above. absurd (omega (arith, below, above));
  lines = refl;
  there = λ imports. tt;
  states = refl;
  names = λ σ. ap (λ n. n % modulus_in c.table) (omega arith);
  next = λ m l. refl;
}

pub combination_is_combination : (c : AlgebraChecking) (id : ℕ) (parts : List (ℕ × Sum)) (p : Sum) → IsStatingLine c id parts p (combination_line c.table id parts p)
combination_is_combination c id parts p = record {
  is_new = λ last above. above;
  is_old = λ last below above. absurd (omega (arith, below, above));
  lines = refl;
  there = λ imports. tt;
  states = refl;
  names = λ σ. refl;
  next = λ m l. refl;
}

-- ---- over a table that has grown

pub takes_grown : (old mid new : AlgebraChecking) (x : Line) → GrowsCheckedTable old mid → TakesAlgebraLine x mid new → TakesAlgebraLine x old new
takes_grown old mid new x g t = record {
  added = t.added ∙ g.added;
  extended = t.extended ∙ g.extended;
  sides = t.sides ∙ g.sides;
  records = t.records ∙ g.records;
  recorded = t.recorded ∙ ap₂ (λ lines records. lines ++ recorded_of records x) g.recorded g.records;
  table = extends_on old.table mid.table new.table g.table t.table;
  lawful = lawful_agrees (graphs.modulus old.extended) (ledger_of mid) (ledger_of old) g.ledger x (subst (λ (e : Extended). IsLawfulLine (graphs.modulus e) (ledger_of mid) x) g.extended t.lawful);
  ledger = agree_trans (ledger_of new) (algebra.after (graphs.modulus old.extended) (ledger_of mid) x) (algebra.after (graphs.modulus old.extended) (ledger_of old) x) (subst (λ (e : Extended). LedgersAgree (ledger_of new) (algebra.after (graphs.modulus e) (ledger_of mid) x)) g.extended t.ledger)
      (after_agrees (graphs.modulus old.extended) (ledger_of mid) (ledger_of old) g.ledger x);
}

pub refused_grown : (old mid : AlgebraChecking) (x : Line) (fault : LineFault) → GrowsCheckedTable old mid → IsRefused mid x fault → IsRefused old x fault
refused_grown old mid x Id g r = refused_in_range_agrees old.extended (ledger_of mid) (ledger_of old) g.ledger x cause.Id (subst (λ (e : Extended). IsRefusedInRange e (ledger_of mid) x cause.Id) g.extended r)
refused_grown old mid x (NoSuchLine id) g r = refused_in_range_agrees old.extended (ledger_of mid) (ledger_of old) g.ledger x (cause.NoSuchLine id) (subst (λ (e : Extended). IsRefusedInRange e (ledger_of mid) x (cause.NoSuchLine id)) g.extended r)
refused_grown old mid x (NoSuchClause number) g r = refused_in_range_agrees old.extended (ledger_of mid) (ledger_of old) g.ledger x (cause.NoSuchClause number) (subst (λ (e : Extended). IsRefusedInRange e (ledger_of mid) x (cause.NoSuchClause number)) g.extended r)
refused_grown old mid x NotEqual g r = refused_in_range_agrees old.extended (ledger_of mid) (ledger_of old) g.ledger x cause.NotEqual (subst (λ (e : Extended). IsRefusedInRange e (ledger_of mid) x cause.NotEqual) g.extended r)
refused_grown old mid x Memory g r = tt

pub grows_grown : (a b c : AlgebraChecking) → GrowsCheckedTable a b → GrowsCheckedTable b c → GrowsCheckedTable a c
grows_grown a b c g h = record {
  added = h.added ∙ g.added;
  extended = h.extended ∙ g.extended;
  deleted = h.deleted ∙ g.deleted;
  sides = h.sides ∙ g.sides;
  table = extends_on a.table b.table c.table g.table h.table;
  entries = h.entries ∙ g.entries;
  last = h.last ∙ g.last;
  records = h.records ∙ g.records;
  recorded = h.recorded ∙ g.recorded;
  ledger = agree_trans (ledger_of c) (ledger_of b) (ledger_of a) h.ledger g.ledger;
}
