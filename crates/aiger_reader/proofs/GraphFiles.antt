-- Of a graph file just one thing is told: a graph that it spells within its limit, its first refusal, or that it is too long.
use Rattle.std.proofs.Common.{◌≡◌, ℕ, List, refl, sym, ap, ◌∙◌, arith, inl, inr}
use Rattle.aiger_reader.specs.Refusals.{IsFoundWithin, IsGraphRefusal, IsGraphTooLong, SpellsWithin}
use Rattle.aiger_reader.specs.declared.fail.ReadFail.{ReadFail}
use Rattle.aiger_reader.specs.declared.fail.ReadFail.TheVariants as fail
use Rattle.aiger_reader.proofs.LimitLaws.{found_is_first}
use Rattle.graph_core.specs.declared.profile.Profile.{Profile}
use Rattle.graph_core.specs.Graph.{Aig}
use Rattle.graph_core.specs.Aiger.Refusal.{Refusal, Text, Header, Faulty}
use Rattle.graph_core.proofs.OfTexts.CallerLemmas.{not_spelled_and_refused, one_refusal}

-- the reader's answer of a refusal
abbrev pub answer_of : Refusal → ReadFail
answer_of (Text p) = fail.Text p
answer_of (Header f) = fail.Header f
answer_of (Faulty f) = fail.Graph f

module _ (profile : Profile) (limit : ℕ) (file : List ℕ) where
  pub refused : (r : Refusal) → IsFoundWithin profile limit file r → IsGraphRefusal profile limit file (answer_of r)
  refused (Text p) h = h
  refused (Header f) h = h
  refused (Faulty f) h = h

  found : (why : ReadFail) → IsGraphRefusal profile limit file why → (r : Refusal) × IsFoundWithin profile limit file r × (why ≡ answer_of r)
  found (fail.Text p) h = (Text p, h, refl)
  found (fail.Header f) h = (Header f, h, refl)
  found (fail.Graph f) h = (Faulty f, h, refl)
  found fail.Fault h = absurd h
  found fail.TooLong h = absurd h
  found fail.Memory h = absurd h

  pub one_graph_refusal : (why other : ReadFail) → IsGraphRefusal profile limit file why → IsGraphRefusal profile limit file other → why ≡ other
  one_graph_refusal why other h k =
      let one = found why h in
      let two = found other k in
      one.2 ∙ ap answer_of (one_refusal profile file one.0 two.0 (found_is_first profile limit file one.0 one.1) (found_is_first profile limit file two.0 two.1)) ∙ sym two.2

  pub spelled_not_refused : (g : Aig) (why : ReadFail) → SpellsWithin profile limit file g → IsGraphRefusal profile limit file why → ⊥
  spelled_not_refused g why s h = let one = found why h in not_spelled_and_refused profile file g one.0 s.spells (found_is_first profile limit file one.0 one.1)

  pub spelled_not_long : (g : Aig) → SpellsWithin profile limit file g → IsGraphTooLong profile limit file → ⊥
  spelled_not_long g s long = let short = s.short in let far = long.long in omega arith

  pub refused_not_long : (why : ReadFail) → IsGraphRefusal profile limit file why → IsGraphTooLong profile limit file → ⊥
  refused_not_long why h long = let one = found why h in go one.0 one.1
    where
      go : (r : Refusal) → IsFoundWithin profile limit file r → ⊥
      go r (inl within) = let short = within.0 in let far = long.long in omega arith
      go r (inr before) = long.none r before.1 before.2
