-- Listed lines, each of which adds to an extended graph, as they are read: what passes, and the first refusal.
use Rattle.std.specs.Prelude.{◌≡◌, ◌+◌, ◌<◌, ℕ, zero, suc, List, [], ◌∷◌, ◌++◌, length, IfOk, Result, Ok, Err}
use Rattle.std.specs.Global.{Global}
use Rattle.std.specs.declared.vec.Vec.{Vec}
use Rattle.std.specs.List.{fold}
use Rattle.std.proofs.Common.{refl, sym, ap, subst, ◌∙◌, arith, append_assoc, inl, inr, length-append, ⊎_elim}
use Rattle.graph_core.specs.Graph.Extended.{Extended}
use Rattle.mv_desk.specs.View.{View}
use Rattle.mv_text.specs.CertificateFiles.{FileState}
use Rattle.mv_text.specs.declared.line_fail.LineFail.{LineFail}
use Rattle.drup_text.specs.PassingHeaders.{PassListed, PassesListing}
use Rattle.drup_text.specs.HeaderRefusal.{Later, LineCause, IsRefusedListedLine, IsRefusedListedLines, IsRefusedListing, nothing_later}
use Rattle.drup_text.specs.HeaderSteps.{HeaderPart, ReadsHeaderPart, line_part, listed_part, listing_part}
use Rattle.drup_text.specs.LineTexts.{IsCountInRange}
use Rattle.drup_text.specs.ClauseTexts.{AreLinesOf}
use Rattle.drup_text.specs.Listings.{IsListed, Listing}
use Rattle.drup_text.proofs.BlockSteps.{append_none, front_refused, some_left}
use Rattle.drup_text.proofs.HeaderSteps.{part_behind, refused_behind, same_part}

module _ {X : Type 0} (l : Listing X) where
  -- the graph with these
  abbrev pub with_all : Extended → List X → Extended
  with_all e xs = fold l.more e xs

  pub all_more : (e : Extended) (xs : List X) (x : X) → with_all e (xs ++ x ∷ []) ≡ l.more (with_all e xs) x
  all_more e [] x = refl
  all_more e (y ∷ xs) x = all_more (l.more e y) xs x

  -- ---- one line

  abbrev pub listed_line : Extended → HeaderPart X
  listed_line e = line_part l.text (l.in_range e)

  abbrev pub number_part : Extended → HeaderPart ℕ
  number_part e = line_part l.number_text (IsCountInRange (l.most e))

  -- it passes, and what is after it is refused
  line_passes_on : (later : Later) (IsLong : List ℕ → Type 0) (e : Extended) (number : ℕ) (bytes : List ℕ) (x : X) (rest : List ℕ) (p : ℕ × LineCause) → (listed_line e).passes IsLong bytes x rest → later (l.more e x) (number + 1) rest p →
      IsRefusedListedLine l later IsLong e number bytes p
  line_passes_on later IsLong e number bytes x rest p h refused = inr (h.0, inr (x, rest, h.1, inr (h.2, refused)))

  -- it is refused, whatever is after it
  line_refused : (later : Later) (IsLong : List ℕ → Type 0) (e : Extended) (number : ℕ) (bytes : List ℕ) (p : ℕ × LineCause) → (listed_line e).refused IsLong number bytes p → IsRefusedListedLine l later IsLong e number bytes p
  line_refused later IsLong e number bytes p h = front_refused l.text (l.in_range e) (λ x rest. later (l.more e x) (number + 1) rest) IsLong number bytes p h

  -- ---- more is refused after lines where more is refused later

  module _ (one two : Later) (grows : (e : Extended) (n : ℕ) (bytes : List ℕ) (p : ℕ × LineCause) → one e n bytes p → two e n bytes p) (IsLong : List ℕ → Type 0) where
    listed_line_more : (e : Extended) (number : ℕ) (bytes : List ℕ) (p : ℕ × LineCause) → IsRefusedListedLine l one IsLong e number bytes p → IsRefusedListedLine l two IsLong e number bytes p
    listed_line_more e number bytes p h =
        ⊎_elim (λ f. inl f)
        (λ s. inr (s.0, ⊎_elim (λ none. inl none) (λ b. inr (b.0, b.1, b.2, ⊎_elim (λ f. inl f) (λ r. inr (r.0, grows (l.more e b.0) (number + 1) b.1 p r.1)) b.3)) s.1)) h

  module _ (IsLong : List ℕ → Type 0) where
    listed_lines_more : (one two : Later) → ((e : Extended) (n : ℕ) (bytes : List ℕ) (p : ℕ × LineCause) → one e n bytes p → two e n bytes p) → (count : ℕ) (e : Extended) (number : ℕ) (bytes : List ℕ) (p : ℕ × LineCause) →
        IsRefusedListedLines l one IsLong count e number bytes p → IsRefusedListedLines l two IsLong count e number bytes p
    listed_lines_more one two grows zero e number bytes p h = grows e number bytes p h
    listed_lines_more one two grows (suc n) e number bytes p h =
        listed_line_more (IsRefusedListedLines l one IsLong n) (IsRefusedListedLines l two IsLong n) (listed_lines_more one two grows n) IsLong e number bytes p h

    pub listing_more : (one two : Later) → ((e : Extended) (n : ℕ) (bytes : List ℕ) (p : ℕ × LineCause) → one e n bytes p → two e n bytes p) → (e : Extended) (number : ℕ) (bytes : List ℕ) (p : ℕ × LineCause) →
        IsRefusedListing l one IsLong e number bytes p → IsRefusedListing l two IsLong e number bytes p
    listing_more one two grows e number bytes p h =
        ⊎_elim (λ f. inl f)
        (λ s. inr (s.0, ⊎_elim (λ none. inl none) (λ b. inr (b.0, b.1, b.2, ⊎_elim (λ f. inl f) (λ r. inr (r.0, listed_lines_more one two grows b.0 e (number + 1) b.1 p r.1)) b.3)) s.1)) h

    -- what is refused within lines is so whatever is after them
    pub listing_whatever : (later : Later) (e : Extended) (number : ℕ) (bytes : List ℕ) (p : ℕ × LineCause) → IsRefusedListing l nothing_later IsLong e number bytes p → IsRefusedListing l later IsLong e number bytes p
    listing_whatever later = listing_more nothing_later later (λ e n bytes p h. absurd h)

    -- ---- what is refused after lines that pass

    listed_behind : (later : Later) (e : Extended) (number : ℕ) (xs : List X) (bytes body : List ℕ) (p : ℕ × LineCause) → PassListed l IsLong e bytes xs body → later (with_all e xs) (number + length xs) body p →
        IsRefusedListedLines l later IsLong (length xs) e number bytes p
    listed_behind later e number [] bytes body p h refused = subst (λ z. later e number z p) (sym h) (subst (λ n. later e n body p) (plus number) refused)
      where
        plus : (n : ℕ) → n + 0 ≡ n
        plus n = omega arith
    listed_behind later e number (x ∷ xs) bytes body p h refused =
        line_passes_on (IsRefusedListedLines l later IsLong (length xs)) IsLong e number bytes x h.0 p (h.1, h.2, h.3)
        (listed_behind later (l.more e x) (number + 1) xs h.0 body p h.4 (subst (λ n. later (with_all (l.more e x) xs) n body p) (further (length xs)) refused))
      where
        further : (n : ℕ) → number + suc n ≡ number + 1 + n
        further n = omega arith

    pub listing_behind : (later : Later) (e : Extended) (number : ℕ) (xs : List X) (bytes body : List ℕ) (p : ℕ × LineCause) → PassesListing l IsLong e bytes xs body → later (with_all e xs) (number + 1 + length xs) body p →
        IsRefusedListing l later IsLong e number bytes p
    listing_behind later e number xs bytes body p h refused = inr (h.1, inr (length xs, h.0, h.2, inr (h.3, listed_behind later e (number + 1) xs h.0 body p h.4 refused)))

    -- ---- what they say

    listed_said : (e : Extended) (bytes : List ℕ) (xs : List X) (body : List ℕ) → PassListed l IsLong e bytes xs body → AreLinesOf l.text bytes xs body
    listed_said e bytes [] body h = h
    listed_said e bytes (x ∷ xs) body h = (h.0, h.2, listed_said (l.more e x) h.0 xs body h.4)

    pub listing_said : (e : Extended) (bytes : List ℕ) (xs : List X) (body : List ℕ) → PassesListing l IsLong e bytes xs body → IsListed l bytes xs body
    listing_said e bytes xs body h = (h.0, h.2, listed_said e h.0 xs body h.4)

  -- ---- the loop over lines

  -- Where so many of the lines that are to come passed: what passes or is refused from here on does so from the first one on.
  abbrev pub listed_so_far : Extended → ℕ → HeaderPart (Vec X Global)
  listed_so_far start count = record {
    passes = λ IsLong bytes xs rest.
        ((more : List X) (body : List ℕ) → PassListed l IsLong (with_all start xs.items) rest more body → PassListed l IsLong start bytes (xs.items ++ more) body) ×
        ((number left : ℕ) (p : ℕ × LineCause) → left + length xs.items ≡ count → IsRefusedListedLines l nothing_later IsLong left (with_all start xs.items) (number + length xs.items) rest p →
        IsRefusedListedLines l nothing_later IsLong count start number bytes p);
    refused = λ IsLong number bytes p. ⊥;
    lines = λ xs. length xs.items;
  }

  pub none_listed : (start : Extended) (count : ℕ) (none : Vec X Global) → none.items ≡ [] → (IsLong : List ℕ → Type 0) (bytes : List ℕ) → (listed_so_far start count).passes IsLong bytes none bytes
  none_listed start count none is IsLong bytes =
      subst (λ xs. ((more : List X) (body : List ℕ) → PassListed l IsLong (with_all start xs) bytes more body → PassListed l IsLong start bytes (xs ++ more) body) ×
      ((number left : ℕ) (p : ℕ × LineCause) → left + length xs ≡ count → IsRefusedListedLines l nothing_later IsLong left (with_all start xs) (number + length xs) bytes p → IsRefusedListedLines l nothing_later IsLong count start number bytes p)) (sym is) (
        λ more body h. h,
        λ number left p n h. subst (λ k. IsRefusedListedLines l nothing_later IsLong count start k bytes p) (omega arith) (subst (λ k. IsRefusedListedLines l nothing_later IsLong k start (number + 0) bytes p) (omega (arith, n)) h),
      )

  module _ (start e : Extended) (count : ℕ) (xs : Vec X Global) (early : length xs.items < count) (is : e ≡ with_all start xs.items) (IsLong : List ℕ → Type 0) (bytes rest : List ℕ)
      (so_far : (listed_so_far start count).passes IsLong bytes xs rest) where
    -- one more passes
    pub listed_on : (longer : Vec X Global) (x : X) (body : List ℕ) → longer.items ≡ xs.items ++ x ∷ [] → (listed_line e).passes IsLong rest x body → (listed_so_far start count).passes IsLong bytes longer body
    listed_on longer x body made here =
        let all : (listed_line (with_all start xs.items)).passes IsLong rest x body = subst (λ (y : Extended). (listed_line y).passes IsLong rest x body) is here in
        let longer_is : with_all start longer.items ≡ l.more (with_all start xs.items) x = ap (with_all start) made ∙ all_more start xs.items x in
        let many : length longer.items ≡ length xs.items + 1 = ap length made ∙ length-append xs.items (x ∷ []) in (
          λ more end h. subst (λ zs. PassListed l IsLong start bytes zs end) (sym (ap (λ zs. zs ++ more) made ∙ append_assoc xs.items (x ∷ []) more))
              (so_far.0 (x ∷ more) end (body, all.0, all.1, all.2, subst (λ (y : Extended). PassListed l IsLong y body more end) longer_is h)),
          λ number left p n h. so_far.1 number (suc left) p (omega (arith, n, many))
              (line_passes_on (IsRefusedListedLines l nothing_later IsLong left) IsLong (with_all start xs.items) (number + length xs.items) rest x body p all
              (subst (λ k. IsRefusedListedLines l nothing_later IsLong left (l.more (with_all start xs.items) x) k body p) (omega (arith, many))
              (subst (λ (y : Extended). IsRefusedListedLines l nothing_later IsLong left y (number + length longer.items) body p) longer_is h))),
        )

    -- one more is refused
    pub listed_refused : (first : ℕ) (p : ℕ × LineCause) → (listed_line e).refused IsLong (first + length xs.items + 1) rest p → IsRefusedListedLines l nothing_later IsLong count start (first + 1) bytes p
    listed_refused first p r =
        let n = some_left (length xs.items) count early in
        let number : first + length xs.items + 1 ≡ first + 1 + length xs.items = omega arith in
        so_far.1 (first + 1) (suc n.0) p n.1
        (line_refused (IsRefusedListedLines l nothing_later IsLong n.0) IsLong (with_all start xs.items) (first + 1 + length xs.items) rest p
        (subst (λ k. (listed_line (with_all start xs.items)).refused IsLong k rest p) number (subst (λ (y : Extended). (listed_line y).refused IsLong (first + length xs.items + 1) rest p) is r)))

  -- all passed
  listed_all : (start : Extended) (count : ℕ) (xs : Vec X Global) (IsLong : List ℕ → Type 0) (bytes body : List ℕ) → (listed_so_far start count).passes IsLong bytes xs body → PassListed l IsLong start bytes xs.items body
  listed_all start count xs IsLong bytes body h = subst (λ zs. PassListed l IsLong start bytes zs body) (append_none xs.items) (h.0 [] body refl)

  pub listed_read : (start e : Extended) (count : ℕ) (xs : Vec X Global) {old new : FileState} {before now : View} → ReadsHeaderPart (listed_so_far start count) old new before now (Ok xs) →
      ReadsHeaderPart (listed_part l start count) old new before now (Ok (e, xs))
  listed_read start e count xs h = same_part (listed_so_far start count) (listed_part l start count) xs (e, xs) refl (listed_all start count xs) h

  -- ---- the number of lines, and they

  module _ (e : Extended) (IsLong : List ℕ → Type 0) where
    listing_joined : (count : ℕ) (xs : List X) → length xs ≡ count → (bytes rest body : List ℕ) → (number_part e).passes IsLong bytes count rest → PassListed l IsLong e rest xs body → PassesListing l IsLong e bytes xs body
    listing_joined count xs many bytes rest body h all = let k = subst (λ n. (number_part e).passes IsLong bytes n rest) (sym many) h in (rest, k.0, k.1, k.2, all)

    listing_refused : (number count : ℕ) (bytes rest : List ℕ) (p : ℕ × LineCause) → (number_part e).passes IsLong bytes count rest → IsRefusedListedLines l nothing_later IsLong count e (number + 1 + 1) rest p →
        IsRefusedListing l nothing_later IsLong e (number + 1) bytes p
    listing_refused number count bytes rest p h r = inr (h.0, inr (count, rest, h.1, inr (h.2, r)))

    pub number_refused : (number : ℕ) (bytes : List ℕ) (p : ℕ × LineCause) → (number_part e).refused IsLong number bytes p → IsRefusedListing l nothing_later IsLong e number bytes p
    number_refused number bytes p h = front_refused l.number_text (IsCountInRange (l.most e)) (λ n rest. IsRefusedListedLines l nothing_later IsLong n e (number + 1) rest) IsLong number bytes p h

  -- they, where their number was read
  pub listing_read : (e : Extended) (count : ℕ) {old mid new : FileState} {before between now : View} (r : Result (Extended × Vec X Global) LineFail) → mid.lines.lengths ≡ old.lines.lengths → between.read_faults ≡ before.read_faults →
      ReadsHeaderPart (number_part e) old mid before between (Ok count) → IfOk r (λ made. length made.1.items ≡ count) → ReadsHeaderPart (listed_part l e count) mid new between now r → ReadsHeaderPart (listing_part l e) old new before now r
  listing_read e count (Ok made) lengths stands line many h =
      part_behind (number_part e) (listed_part l e count) (listing_part l e) count lengths line made made refl (λ IsLong. listing_joined e IsLong count made.1.items many) h
  listing_read e count {old} (Err f) lengths stands line many h =
      refused_behind (number_part e) (listed_part l e count) (listing_part l e) count lengths line f stands (λ IsLong. listing_refused e IsLong old.number count) h
