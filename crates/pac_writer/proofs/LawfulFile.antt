-- The text of a certificate is a lawful algebra file.
use Rattle.std.specs.Prelude.{◌≡◌, ℕ, ◌<◌, ◌^◌, List, [], ◌∷◌, ◌++◌, length}
use Rattle.std.specs.declared.option.Option.{Option}
use Rattle.std.specs.declared.option.Option.TheVariants.{Some}
use Rattle.std.specs.List.{AllByRecursion}
use Rattle.std.proofs.Common.{refl, sym, ap, subst, ◌∙◌, arith, append_assoc, ⊎_elim}
use Rattle.std.proofs.lemmas.Bool.{cases_order}
use Rattle.std.proofs.lemmas.List.Elements.{All-from_recursion, recursion_from_All}
use Rattle.std.proofs.lemmas.Nat.{pow_below}
use Rattle.graph_core.specs.Graph.Operands.{Sides}
use Rattle.graph_core.specs.Graph.Extended.{Extended}
use Rattle.graph_core.specs.Text.{newline}
use Rattle.algebra_core.specs.AlgebraLines.{AreLawful, Closes, Premises, after_all, axioms, beginning}
use Rattle.graph_core.specs.Graph.Extended as graphs
use Rattle.algebra_core.specs.Text.{first_line, IsId, IsLawfulAlgebraFile, IsLineInRange}
use Rattle.algebra_core.proofs.CallerLemmas.{agree_refl, closes_agrees}
use Rattle.mv_nums.specs.Residue.{IsWidth}
use Rattle.poly_terms.specs.Tables.{Table, modulus_in}
use Rattle.poly_text.specs.declared.line.PacLine.{PacLine}
use Rattle.pac_writer.specs.Writing.{Made, made_of, without_imports}
use Rattle.poly_text.specs.Recorded.{AreAllAlike, lines_in}
use Rattle.poly_text.specs.WrittenLines.{closing_text, written_certificate, written_lines}
use Rattle.pac_writer.specs.Certificates.{ArePartsOf, certificate_text}
use Rattle.pac_writer.specs.Kept.{AreKept}
use Rattle.pac_writer.specs.LawfulTexts.{IsLawfulTextOf, WrittenCertificatesAreLawful}
use Rattle.pac_writer.proofs.Alike.{alike_lawful}
use Rattle.pac_writer.proofs.Combining.{closing_is_id, live_is_id}
use Rattle.pac_writer.proofs.ReadBack.{closing_says, told_say}
use Rattle.pac_writer.proofs.Readable.{IsTold, kept_goes_on, kept_is_told, readable_are_told}

-- what is written of lawful lines that are told
told_text : (p : Premises) (s : Sides) (t : Table) (xs : List PacLine) (id : ℕ) → IsWidth t.exponent → p.extended.max < 2 ^ 32 → modulus_in t ≡ graphs.modulus p.extended →
    AllByRecursion (IsTold p.version p.extended.max t) xs → IsId id → AreLawful p s (lines_in t xs) id →
    IsLawfulTextOf p s (lines_in t xs) id (written_certificate p.version (modulus_in t) (lines_in t xs) id)
told_text p s t xs id width small same told is lawful =
    let m = graphs.modulus p.extended in
    let max = p.extended.max in
    let close = closing_says t p.version max id width small is in
    let after = closing_text id ++ newline ∷ [] in
    let says = told_say t p.version max xs after width small told in
    let body = written_lines (modulus_in t) (lines_in t xs) ++ after in
    let alike : AreAllAlike m says.lines (lines_in t xs) = subst (λ n. AreAllAlike n says.lines (lines_in t xs)) same says.alike in
    let both = alike_lawful m (beginning p) (beginning p) says.lines (lines_in t xs) (agree_refl (beginning p)) alike lawful.0 in
    record {
      file = record {
        lines = says.lines;
        closing = id;
        text = (
          body,
          after,
          close.0,
          close.1,
          says.texts,
          ap (λ b. b ++ newline ∷ []) close.2,
          append_assoc (first_line p.version) (newline ∷ []) body,
        );
        in_range = All-from_recursion (IsLineInRange max) says.lines says.in_range;
        closing_in_range = is;
        lawful = (both.0, closes_agrees p.extended s (after_all m (beginning p) (lines_in t xs)) (after_all m (beginning p) says.lines) both.1 id lawful.1);
      };
      alike = alike;
      closing_is = refl;
    }

same_exponent : (i j : ℕ) → 2 ^ i ≡ 2 ^ j → i ≡ j
same_exponent i j e =
    ⊎_elim (λ same. same) (⊎_elim (λ low. let less = pow_below i j low in absurd (omega (arith, less, e))) (λ high. let less = pow_below j i high in absurd (omega (arith, less, e)))) (cases_order i j)

pub written_certificates_are_lawful : WrittenCertificatesAreLawful
written_certificates_are_lawful p s t xs id width small same two readable is lawful =
    let max = p.extended.max in
    let exponent : IsWidth t.exponent = subst IsWidth (sym (same_exponent t.exponent (length p.extended.graph.outputs) same)) width in
    let told = readable_are_told p.version max (graphs.modulus p.extended) t p.imports two (beginning p) xs refl readable lawful.0 in
    told_text p s t xs id exponent small same told is lawful

-- ---- lines that are made

-- the text is that of the lines as they are kept
pub kept_certificate : (version : ℕ) (old : Made) (e : Extended) (s : Sides) (t : Table) (xs : List PacLine) (last id : ℕ) (closing : Option ℕ) →
    made_of e s t xs last closing ≡ old → closing ≡ Some id → AreKept e s t xs last closing → written_certificate version (modulus_in t) (lines_in t xs) id ≡ certificate_text version old
kept_certificate version old e s t xs last id closing view closed h =
    ap (λ m. written_certificate version m (lines_in t xs) id) h.so_far.same_modulus ∙
    (ap (λ q. certificate_text version (made_of e s t xs last q)) (sym closed) ∙ ap (certificate_text version) view)

closed_file : (version : ℕ) (e : Extended) (s : Sides) (t : Table) (xs : List PacLine) (last id : ℕ) → AreKept e s t xs last (Some id) →
    IsLawfulAlgebraFile (without_imports version e) s (written_certificate version (modulus_in t) (lines_in t xs) id)
closed_file version e s t xs last id h =
    let small : e.max < 2 ^ 32 = (let low = h.small in omega arith) in
    let closes : Closes e s (after_all (graphs.modulus e) (axioms e) (lines_in t xs)).live id = h.so_far.closes in
    let told = recursion_from_All (IsTold version e.max t) xs (λ k d low. kept_is_told version e.max t _ (h.kept k d low)) in
    (told_text (without_imports version e) s t xs id h.exponent small h.so_far.same_modulus told (live_is_id (made_of e s t xs last (Some id)) id h.so_far closes.0) (h.so_far.lawful, closes)).file

pub certificate_is_lawful : (version : ℕ) (old : Made) (e : Extended) (s : Sides) (t : Table) (xs : List PacLine) (last id : ℕ) (closing : Option ℕ) →
    made_of e s t xs last closing ≡ old → closing ≡ Some id → AreKept e s t xs last closing → IsLawfulAlgebraFile (without_imports version old.extended) old.sides (certificate_text version old)
certificate_is_lawful version old e s t xs last id closing view closed h =
    subst (λ (o : Made). IsLawfulAlgebraFile (without_imports version o.extended) o.sides (certificate_text version o)) view
    (subst (IsLawfulAlgebraFile (without_imports version e) s) (kept_certificate version (made_of e s t xs last closing) e s t xs last id closing refl closed h)
    (closed_file version e s t xs last id (subst (AreKept e s t xs last) closed h)))

pub parts_of : (e : Extended) (s : Sides) (t : Table) (xs : List PacLine) (last id : ℕ) (closing : Option ℕ) → closing ≡ Some id → AreKept e s t xs last closing → ArePartsOf (made_of e s t xs last closing) t xs id
parts_of e s t xs last id closing closed h = record {
  go_on = λ k d low. kept_goes_on e.max t _ (h.kept k d low);
  «of» = λ k d low. (h.kept k d low).«of»;
  writable = λ k d low. (h.kept k d low).writable;
  closing_is = closing_is_id (made_of e s t xs last closing) id h.so_far closed;
  modulus_is = h.so_far.same_modulus;
  lines_are = refl;
  spare = h.so_far.spare;
  lawful = λ version. closed_file version e s t xs last id (subst (AreKept e s t xs last) closed h);
}
