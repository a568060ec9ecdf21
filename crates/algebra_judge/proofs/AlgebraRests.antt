-- What is left of an algebra file after some lines: how it may go on to be lawful, and where it is refused.
use Rattle.std.proofs.Common.{◌≡◌, ℕ, suc, ◌+◌, List, [], ◌∷◌, ◌++◌, length, refl, sym, ap, ap₂, subst, zero-add, ◌∙◌, arith, inr}
use Rattle.std.proofs.lemmas.List.Elements.{All-cons, All-nil}
use Rattle.algebra_core.specs.AlgebraLines.{Line, Ledger, IsLawfulLine, Closes, after, beginning}
use Rattle.graph_core.specs.Graph.Extended.{modulus}
use Rattle.algebra_core.specs.Refusal.{AlgebraCause, IsRefusedBody, IsRefusedEnd, IsRefusedNext}
use Rattle.algebra_core.specs.Text.{IsCloseText, IsId, IsLineInRange, IsLineText}
use Rattle.graph_core.specs.Text.JudgedLines.{BeginsWith}
use Rattle.graph_core.specs.Text.{newline}
use Rattle.graph_core.proofs.OfTexts.CallerLemmas.{ShortFrom, short_next, short_nil, start_later}
use Rattle.algebra_core.proofs.CallerLemmas.{none_close, none_line}
use Rattle.algebra_judge.specs.AlgebraBody.{IsLawfulRest, IsRefusedRest}
use Rattle.algebra_judge.specs.AlgebraLines.{AlgebraTask}

pair_is : {A B : Type 0} {a c : A} {b d : B} → a ≡ c → b ≡ d → ◌≡◌ {A = A × B} (a, b) (c, d)
pair_is p q = ap₂ (λ x y. (x, y)) p q

module _ (t : AlgebraTask) (IsLong : List ℕ → Type 0) where
  -- after the header, which is line 1
  pub refused_body : (body : List ℕ) (k : ℕ) (cause : AlgebraCause) → IsRefusedRest t IsLong (beginning t.premises) body (k, cause) → IsRefusedBody t.premises t.sides IsLong body (2 + k, cause)
  refused_body body k cause h =
      let count : k ≡ length h.0 + h.1.0 = ap (λ (p : ℕ × AlgebraCause). p.0) h.3 in
      let same : cause ≡ h.1.1 = ap (λ (p : ℕ × AlgebraCause). p.1) h.3 in
      (h.0, h.1, h.2, pair_is (omega (arith, count)) same)

  -- the end that is left is refused here
  pub refused_here : (l : Ledger) (left : List ℕ) (q : ℕ × AlgebraCause) → IsRefusedNext t.premises.version t.premises.extended t.sides IsLong l left q → IsRefusedRest t IsLong l left q
  refused_here l left q h = ([], q, h, pair_is (sym (zero-add q.0)) refl)

  module _ (l : Ledger) (x : Line) (left rest : List ℕ) (begins : BeginsWith (IsLineText t.premises.version) left x rest) (in_range : IsLineInRange t.premises.extended.max x) (lawful : IsLawfulLine (modulus t.premises.extended) l x)
      (short : ¬ (IsLong left)) where
    -- a lawful line before a lawful end
    pub lawful_turn : IsLawfulRest t IsLong (after (modulus t.premises.extended) l x) rest → IsLawfulRest t IsLong l left
    lawful_turn end = record {
      lines = x ∷ end.lines;
      closing = end.closing;
      last = end.last;
      texts = (begins.0, rest, begins.1, end.texts, begins.2);
      close = end.close;
      in_range = All-cons (IsLineInRange t.premises.extended.max) x end.lines in_range end.in_range;
      closing_in_range = end.closing_in_range;
      lawful = (lawful, end.lawful);
      closes = end.closes;
      short = subst (ShortFrom IsLong) (sym begins.2) (short_next IsLong begins.0 rest (none_line t.premises.version begins.0 x begins.1) (subst (λ (b : List ℕ). ¬ (IsLong b)) begins.2 short) end.short);
      ends = start_later left rest [] (inr (begins.0, begins.2)) end.ends;
    }

    -- a lawful line before a refused end
    pub refused_turn : (k : ℕ) (cause : AlgebraCause) → IsRefusedRest t IsLong (after (modulus t.premises.extended) l x) rest (k, cause) → IsRefusedRest t IsLong l left (suc k, cause)
    refused_turn k cause h =
        let count : k ≡ length h.0 + h.1.0 = ap (λ (p : ℕ × AlgebraCause). p.0) h.3 in
        let same : cause ≡ h.1.1 = ap (λ (p : ℕ × AlgebraCause). p.1) h.3 in
        (x ∷ h.0, h.1, (rest, after (modulus t.premises.extended) l x, short, begins, (in_range, lawful, refl), h.2), pair_is (omega (arith, count)) same)

  -- a closing line with nothing after it
  pub lawful_close : (l : Ledger) (id : ℕ) (left rest : List ℕ) → BeginsWith IsCloseText left id rest → rest ≡ [] → IsId id → Closes t.premises.extended t.sides l.live id → ¬ (IsLong left) → ¬ (IsLong []) →
      IsLawfulRest t IsLong l left
  lawful_close l id left rest begins none in_range closes short short_end =
      let is : left ≡ begins.0 ++ newline ∷ [] = begins.2 ∙ ap (λ (more : List ℕ). begins.0 ++ newline ∷ more) none in
      record {
        lines = [];
        closing = id;
        last = left;
        texts = refl;
        close = (begins.0, begins.1, is);
        in_range = All-nil (IsLineInRange t.premises.extended.max);
        closing_in_range = in_range;
        lawful = tt;
        closes = closes;
        short = subst (ShortFrom IsLong) (sym is) (short_next IsLong begins.0 [] (none_close begins.0 id begins.1) (subst (λ (b : List ℕ). ¬ (IsLong b)) is short) (short_nil IsLong short_end));
        ends = inr (begins.0, is);
      }

  -- something after the closing line, which is the next line's refusal
  pub refused_end : (l : Ledger) (id : ℕ) (left rest : List ℕ) (q : ℕ × AlgebraCause) → BeginsWith IsCloseText left id rest → IsId id → Closes t.premises.extended t.sides l.live id → ¬ (IsLong left) →
      IsRefusedEnd IsLong rest q → IsRefusedRest t IsLong l left q
  refused_end l id left rest q begins in_range closes short h = refused_here l left q (inr (short, inr (inr (id, rest, begins, inr ((in_range, closes), h)))))
