-- A file spells one graph or has one first refusal, and reading finds which.
use Rattle.std.specs.Prelude.{◌≡◌, ℕ, ◌⊎◌, List, Option, Some, None, Result, Ok, Err}
use Rattle.std.proofs.Common.{refl, sym, ap, subst, ◌∙◌, inl, inr}
use Rattle.graph_core.specs.declared.fault.GraphFault.{GraphFault}
use Rattle.graph_core.specs.declared.profile.Profile.{Profile}
use Rattle.graph_core.specs.Graph.{Aig}
use Rattle.graph_core.specs.Aiger.{Listing, graph_of, Lists, Spells}
use Rattle.graph_core.specs.Aiger.Refusal.{Refusal, Text, Header, Faulty, IsRefusal, fault_of, OneRefusal, SpelledOrRefused, NotSpelledAndRefused, OneGraph}
use Rattle.graph_core.specs.Aiger.Reading.{lists_at, faulty_or, judged_lists, graph_at, GraphIsRead, RefusalIsRead}
use Rattle.graph_core.proofs.OfTexts.Steady.{same_Ok, same_Err}
use Rattle.graph_core.proofs.OfAiger.Refusals.{lists_take, lists_again, lists_refused, text_refused, header_refused}
use Rattle.graph_core.proofs.OfGraphs.Faults.{fault_is_found, no_fault_is_found}

graph_take : (p : Profile) (bytes : List ℕ) (graph : Aig) → graph_at p bytes ≡ Ok graph → Spells p bytes graph
graph_take p bytes graph h = go (lists_at p bytes) refl h
  where
    fault : (g : Listing) → Lists p bytes g → (o : Option GraphFault) → fault_of g ≡ o → faulty_or g o ≡ Ok graph → Spells p bytes graph
    fault g l None e f = (g, l, (no_fault_is_found g).0 e, sym (same_Ok (graph_of g) graph f))
    fault g l (Some x) e f = absurd (cc)

    go : (o : Result Listing Refusal) → lists_at p bytes ≡ o → judged_lists o ≡ Ok graph → Spells p bytes graph
    go (Ok g) e f = fault g (lists_take p bytes g e) (fault_of g) refl f
    go (Err r) e f = absurd (cc)

graph_again : (p : Profile) (bytes : List ℕ) (graph : Aig) → Spells p bytes graph → graph_at p bytes ≡ Ok graph
graph_again p bytes graph s =
    ap judged_lists (lists_again p bytes s.0 s.1) ∙ ap (faulty_or s.0) ((no_fault_is_found s.0).1 s.2) ∙ ap Ok (sym s.3)

pub graph_is_read : GraphIsRead
graph_is_read p bytes graph = (graph_take p bytes graph, graph_again p bytes graph)

refused : (p : Profile) (bytes : List ℕ) (r : Refusal) → graph_at p bytes ≡ Err r → IsRefusal p bytes r
refused p bytes r h = go (lists_at p bytes) refl h
  where
    fault : (g : Listing) → Lists p bytes g → (o : Option GraphFault) → fault_of g ≡ o → faulty_or g o ≡ Err r → IsRefusal p bytes r
    fault g l None e f = absurd (cc)
    fault g l (Some x) e f = subst (IsRefusal p bytes) (same_Err (Faulty x) r f) (g, l, (fault_is_found g x).0 e)

    go : (o : Result Listing Refusal) → lists_at p bytes ≡ o → judged_lists o ≡ Err r → IsRefusal p bytes r
    go (Ok g) e f = fault g (lists_take p bytes g e) (fault_of g) refl f
    go (Err x) e f = lists_refused p bytes r (e ∙ ap Err (same_Err x r f))

refused_again : (p : Profile) (bytes : List ℕ) (r : Refusal) → IsRefusal p bytes r → graph_at p bytes ≡ Err r
refused_again p bytes (Text n) h = ap judged_lists (text_refused p bytes n h)
refused_again p bytes (Header f) h = ap judged_lists (header_refused p bytes f h)
refused_again p bytes (Faulty f) h = ap judged_lists (lists_again p bytes h.0 h.1) ∙ ap (faulty_or h.0) ((fault_is_found h.0 f).1 h.2)

pub refusal_is_read : RefusalIsRead
refusal_is_read p bytes r = (refused p bytes r, refused_again p bytes r)

pub one_graph : OneGraph
one_graph p bytes g h a b = same_Ok g h (sym (graph_again p bytes g a) ∙ graph_again p bytes h b)

pub one_refusal : OneRefusal
one_refusal p bytes r s a b = same_Err r s (sym (refused_again p bytes r a) ∙ refused_again p bytes s b)

pub spelled_or_refused : SpelledOrRefused
spelled_or_refused p bytes = go (graph_at p bytes) refl
  where
    go : (o : Result Aig Refusal) → graph_at p bytes ≡ o → ((graph : Aig) × Spells p bytes graph) ⊎ ((r : Refusal) × IsRefusal p bytes r)
    go (Ok g) e = inl (g, graph_take p bytes g e)
    go (Err r) e = inr (r, refused p bytes r e)

pub not_spelled_and_refused : NotSpelledAndRefused
not_spelled_and_refused p bytes graph r a b = let both = sym (graph_again p bytes graph a) ∙ refused_again p bytes r b in cc
