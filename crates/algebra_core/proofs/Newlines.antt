-- The lines of an algebra certificate have no line feed in them.
use Rattle.std.specs.Prelude.{ℕ, Bool, true, false, cond, List, [], ◌∷◌, ◌++◌, codes, ◌==◌}
use Rattle.std.proofs.Common.{refl, ⊎_elim}
use Rattle.algebra_core.specs.Polynomials.{Term, Polynomial}
use Rattle.algebra_core.specs.AlgebraLines.{Line, Sum, Product, Combination, Import, Delete, Part}
use Rattle.algebra_core.specs.Text.{AreFactors, IsTerm, AreTerms, IsPolynomial, IsPart, AreParts, IsLineText, IsCloseText, first_line, sign_of}
use Rattle.graph_core.proofs.OfTexts.CallerLemmas.{HasNoNewline, none_append, none_back, none_in, none_numeral, none_same}

none_factors : (bytes : List ℕ) (vs : List ℕ) → AreFactors bytes vs → HasNoNewline bytes
none_factors bytes [] h = none_same bytes [] h tt
none_factors bytes (v ∷ vs) h = none_same bytes _ h.4 (none_append (codes "*x" ++ h.0) h.1 (none_append (codes "*x") h.0 (none_in (codes "*x") refl) (none_numeral 10 h.0 v h.2)) (none_factors h.1 vs h.3))

none_term : (bytes : List ℕ) (t : Term) → IsTerm bytes t → HasNoNewline bytes
none_term bytes t h =
    ⊎_elim (λ c. none_same bytes (c.0 ++ c.1) c.4 (none_append c.0 c.1 (none_numeral 39 c.0 t.coefficient c.2) (none_factors c.1 t.variables c.3)))
    (λ n. none_back (codes "*") bytes (none_factors (codes "*" ++ bytes) t.variables n.1)) h

none_sign : (n : Bool) → HasNoNewline (sign_of n)
none_sign true = none_in (codes "-") refl
none_sign false = none_in (codes "+") refl

none_terms : (bytes : List ℕ) (ts : List Term) → AreTerms bytes ts → HasNoNewline bytes
none_terms bytes [] h = none_same bytes [] h tt
none_terms bytes (t ∷ ts) h = none_same bytes _ h.4 (none_append (sign_of t.negative ++ h.0) h.1 (none_append (sign_of t.negative) h.0 (none_sign t.negative) (none_term h.0 t h.2)) (none_terms h.1 ts h.3))

pub none_poly : (bytes : List ℕ) (p : Polynomial) → IsPolynomial bytes p → HasNoNewline bytes
none_poly bytes [] h = absurd h
none_poly bytes (t ∷ ts) h = go t.negative h
  where
    go : (c : Bool) → AreTerms (cond c bytes (codes "+" ++ bytes)) (t ∷ ts) → HasNoNewline bytes
    go true f = none_terms bytes (t ∷ ts) f
    go false f = none_back (codes "+") bytes (none_terms (codes "+" ++ bytes) (t ∷ ts) f)

none_part : (bytes : List ℕ) (part : Part) → IsPart bytes part → HasNoNewline bytes
none_part bytes part h =
    none_same bytes _ h.4 (none_append (h.0 ++ codes " * (" ++ h.1) (codes ")") (none_append (h.0 ++ codes " * (") h.1 (none_append h.0 (codes " * (") (none_numeral 15 h.0 part.id h.2) (none_in (codes " * (") refl)) (none_poly h.1 part.factor h.3)) (none_in (codes ")") refl))

none_parts : (bytes : List ℕ) (parts : List Part) → AreParts bytes parts → HasNoNewline bytes
none_parts bytes [] h = absurd h
none_parts bytes (part ∷ []) h = none_part bytes part h
none_parts bytes (part ∷ next ∷ parts) h = none_same bytes _ h.4 (none_append (h.0 ++ codes " + ") h.1 (none_append h.0 (codes " + ") (none_part h.0 part h.2) (none_in (codes " + ") refl)) (none_parts h.1 (next ∷ parts) h.3))

-- four fields with texts after them
none_two : (a p b q : List ℕ) → HasNoNewline a → HasNoNewline p → HasNoNewline b → HasNoNewline q → HasNoNewline (a ++ p ++ b ++ q)
none_two a p b q h i j k = none_append (a ++ p ++ b) q (none_append (a ++ p) b (none_append a p h i) j) k

none_four : (a p b q c r d s : List ℕ) → HasNoNewline a → HasNoNewline p → HasNoNewline b → HasNoNewline q → HasNoNewline c → HasNoNewline r → HasNoNewline d → HasNoNewline s → HasNoNewline (a ++ p ++ b ++ q ++ c ++ r ++ d ++ s)
none_four a p b q c r d s h i j k l m n o = none_append (a ++ p ++ b ++ q ++ c ++ r ++ d) s (none_append (a ++ p ++ b ++ q ++ c ++ r) d (none_append (a ++ p ++ b ++ q ++ c) r (none_append (a ++ p ++ b ++ q) c (none_two a p b q h i j k) l) m) n) o

comma : HasNoNewline (codes ", ")
comma = none_in (codes ", ") refl

semicolon : HasNoNewline (codes ";")
semicolon = none_in (codes ";") refl

-- the first line
pub none_first : (version : ℕ) → HasNoNewline (first_line version)
none_first version = elim (version == 1) as (λ b. HasNoNewline (cond b (codes "pac 1") (cond (version == 2) (codes "pac 2") (codes "pac 3")))) [ true ↦ none_in (codes "pac 1") refl | false ↦ later ]
  where
    later : HasNoNewline (cond (version == 2) (codes "pac 2") (codes "pac 3"))
    later = elim (version == 2) as (λ b. HasNoNewline (cond b (codes "pac 2") (codes "pac 3"))) [ true ↦ none_in (codes "pac 2") refl | false ↦ none_in (codes "pac 3") refl ]

pub none_line : (version : ℕ) (bytes : List ℕ) (x : Line) → IsLineText version bytes x → HasNoNewline bytes
none_line version bytes (Sum id i j p) h =
    none_same bytes _ h.8 (none_four h.0 (codes " + ") h.1 (codes ", ") h.2 (codes ", ") h.3 (codes ";") (none_numeral 15 h.0 id h.4) (none_in (codes " + ") refl) (none_numeral 15 h.1 i h.5) comma (none_numeral 15 h.2 j h.6) comma (none_poly h.3 p h.7) semicolon)
none_line version bytes (Product id i q p) h =
    none_same bytes _ h.8 (none_four h.0 (codes " * ") h.1 (codes ", ") h.2 (codes ", ") h.3 (codes ";") (none_numeral 15 h.0 id h.4) (none_in (codes " * ") refl) (none_numeral 15 h.1 i h.5) comma (none_poly h.2 q h.6) comma (none_poly h.3 p h.7) semicolon)
none_line version bytes (Combination id parts p) h =
    none_same bytes _ h.6 (none_append (h.0 ++ codes " % " ++ h.1 ++ codes ", " ++ h.2) (codes ";") (none_append (h.0 ++ codes " % " ++ h.1 ++ codes ", ") h.2 (none_two h.0 (codes " % ") h.1 (codes ", ") (none_numeral 15 h.0 id h.3) (none_in (codes " % ") refl) (none_parts h.1 parts h.4) comma) (none_poly h.2 p h.5)) semicolon)
none_line version bytes (Import id number p) h =
    none_same bytes _ h.1.6 (none_append (h.1.0 ++ codes " c " ++ h.1.1 ++ codes ", " ++ h.1.2) (codes ";") (none_append (h.1.0 ++ codes " c " ++ h.1.1 ++ codes ", ") h.1.2 (none_two h.1.0 (codes " c ") h.1.1 (codes ", ") (none_numeral 15 h.1.0 id h.1.3) (none_in (codes " c ") refl) (none_numeral 15 h.1.1 number h.1.4) comma) (none_poly h.1.2 p h.1.5)) semicolon)
none_line version bytes (Delete id) h = none_same bytes _ h.2 (none_append h.0 (codes " d;") (none_numeral 15 h.0 id h.1) (none_in (codes " d;") refl))

pub none_close : (bytes : List ℕ) (id : ℕ) → IsCloseText bytes id → HasNoNewline bytes
none_close bytes id h = none_same bytes _ h.2 (none_append (codes "q " ++ h.0) (codes ";") (none_append (codes "q ") h.0 (none_in (codes "q ") refl) (none_numeral 15 h.0 id h.1)) semicolon)
