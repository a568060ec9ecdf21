-- What crates above may cite of polynomials, of ledgers and of algebra certificates.
pub use Rattle.algebra_core.proofs.Agreements.{after_agrees, agree_refl, agree_sym, agree_trans, closes_agrees, imports_refl, introduce_agrees, lawful_agrees, line_of-deleted, live_agrees, missing_same, refused_agrees, refused_close_agrees, refused_close_in_range_agrees, refused_in_range_agrees, same_of, same_refl, same_sym, same_trans, value_same}
pub use Rattle.algebra_core.proofs.Differences.{claim_from_difference, difference_is, difference_plus, difference_same, same_from_difference}
pub use Rattle.algebra_core.proofs.FirstRefusals.{algebra_is_exact}
pub use Rattle.algebra_core.proofs.LikeLines.{likeness_is_kept, same_ids}
pub use Rattle.algebra_core.proofs.Newlines.{none_close, none_line}
pub use Rattle.algebra_core.proofs.NormalFormSizes.{normal_form, normal_form_exists, plain_value, size_is_one}
pub use Rattle.algebra_core.proofs.NormalForms.{Once, all_mem, normal_forms_differ, once_around, once_from_pairs, part_length, part_whole, rising_from, rising_mem, sum_of-append, term_full, term_none, true_term}
pub use Rattle.algebra_core.proofs.Reading.{algebra_line_is_read, close_is_read, factors_next, parts_next, reads_factors, reads_part, terms_next}
pub use Rattle.algebra_core.proofs.SamePremises.{lines_agree, next_agrees, premises_are_kept}
pub use Rattle.algebra_core.proofs.Sound.{AreZero, algebra_is_sound, axioms-vanish, gate_axiom-zero, modulus_pos, specification-zero, vanishing_means_claim}
pub use Rattle.algebra_core.proofs.Vanishing.{vanishing_multiplies}
