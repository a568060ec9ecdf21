-- A graph file spells a graph within its limit, or just one stop is due.
use Rattle.std.proofs.Common.{◌≡◌, ℕ, List, Some, sym, ap, ◌∙◌, refl, inl, inr, ⊎_elim}
use Rattle.mv_desk.specs.declared.slot.Slot.{Slot}
use Rattle.aiger_reader.specs.Refusals.{SpellsWithin}
use Rattle.aiger_reader.proofs.CallerLemmas.{answer_of, one_graph_refusal, refused, refused_not_long, spelled_found_or_long, spelled_not_long, spelled_not_refused}
use Rattle.command_core.specs.Stopping.{IsGraphStop}
use Rattle.command_core.specs.declared.stop.Stop.{Stop}
use Rattle.command_core.specs.declared.stop.Stop.TheVariants as stop
use Rattle.graph_core.specs.declared.profile.Profile.{Profile}
use Rattle.graph_core.specs.Graph.{Aig}
use Rattle.graph_core.specs.Text.JudgedLines.{IsExact}

module _ (profile : Profile) (limit : ℕ) (file : List ℕ) where
  pub graph_exact : (at : Slot) → IsExact ((g : Aig) × SpellsWithin profile limit file g) (IsGraphStop at profile limit (Some file))
  graph_exact at = record {
    decided = ⊎_elim inl (λ h. inr (⊎_elim (λ r. (stop.Graph at (answer_of r.0), (refl, refused profile limit file r.0 r.1))) (λ long. (stop.TooLong at, (refl, long))) h)) (spelled_found_or_long profile limit file);
    not_both = λ why s h. not_both s.0 s.1 why h;
    one = one;
  }
    where
      not_both : (g : Aig) → SpellsWithin profile limit file g → (why : Stop) → IsGraphStop at profile limit (Some file) why → ⊥
      not_both g s (stop.Graph slot why) h = spelled_not_refused profile limit file g why s h.1
      not_both g s (stop.TooLong slot) h = spelled_not_long profile limit file g s h.1
      not_both g s stop.ReadFault h = h
      not_both g s stop.WriteFault h = h
      not_both g s stop.Memory h = h

      one : (why other : Stop) → IsGraphStop at profile limit (Some file) why → IsGraphStop at profile limit (Some file) other → why ≡ other
      one (stop.Graph slot why) (stop.Graph there other) h k = ap (λ s. stop.Graph s why) (h.0 ∙ sym k.0) ∙ ap (stop.Graph there) (one_graph_refusal profile limit file why other h.1 k.1)
      one (stop.Graph slot why) (stop.TooLong there) h k = absurd (refused_not_long profile limit file why h.1 k.1)
      one (stop.TooLong slot) (stop.Graph there other) h k = absurd (refused_not_long profile limit file other k.1 h.1)
      one (stop.TooLong slot) (stop.TooLong there) h k = ap stop.TooLong (h.0 ∙ sym k.0)
      one (stop.Graph slot why) stop.ReadFault h k = absurd k
      one (stop.Graph slot why) stop.WriteFault h k = absurd k
      one (stop.Graph slot why) stop.Memory h k = absurd k
      one (stop.TooLong slot) stop.ReadFault h k = absurd k
      one (stop.TooLong slot) stop.WriteFault h k = absurd k
      one (stop.TooLong slot) stop.Memory h k = absurd k
      one stop.ReadFault other h k = absurd h
      one stop.WriteFault other h k = absurd h
      one stop.Memory other h k = absurd h
