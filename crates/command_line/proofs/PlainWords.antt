-- What plain words ask for, computed.
use Rattle.std.proofs.Common.{◌≡◌, Some, None, refl, codes}
use Rattle.clap.proofs.OnLiterals.{clap_on_literals}
use Rattle.graph_core.specs.declared.order.Order.TheVariants.{Interleaved, Separate}
use Rattle.graph_core.specs.declared.sign.Sign.TheVariants.{Signed, Unsigned}
use Rattle.graph_core.specs.Graph.Operands.{adding, multiplying}
use Rattle.graph_maker.specs.declared.adder.Adder.TheVariants.{Kogge, Ripple}
use Rattle.graph_maker.specs.declared.design.Design.TheVariants.{Corrected, Multiplier, MultiplyAdd, OfWidths}
use Rattle.graph_maker.specs.declared.kind.Kind.TheVariants.{Array, Dadda}
use Rattle.command_line.specs.declared.command.Command.TheVariants.{Eval, Make, Trial}
use Rattle.command_line.specs.Asked.{AsksTrim, IsCheck, asked, making_of}
use Rattle.command_line.specs.Examples.{adding_to_24x17, g_c_a, g_c_a_x_y, check_interleaved, check_interleaved_widths, check_signed_sum, check_widths, check_g, make_array, make_widths, make_widths_add, make_corrected, make_dadda_add, make_corrected_add, eval_addend, one_two_three, trial_of_21, trim_interleaved, trim_to}

pub interleaved : IsCheck check_interleaved g_c_a (multiplying Interleaved Unsigned)
unfolding asked clap_on_literals
interleaved = refl

pub signed_sum : IsCheck check_signed_sum g_c_a (adding Separate Signed)
unfolding asked clap_on_literals
signed_sum = refl

pub wide : IsCheck check_widths g_c_a adding_to_24x17
unfolding asked clap_on_literals
wide = refl

pub wide_interleaved : asked check_interleaved_widths ≡ None
unfolding asked clap_on_literals
wide_interleaved = refl

pub too_few : asked check_g ≡ None
unfolding asked clap_on_literals
too_few = refl

pub tried : asked trial_of_21 ≡ Some (Trial 21)
unfolding asked clap_on_literals
tried = refl

pub made : asked make_array ≡ Some (Make (making_of (Multiplier Array) 64 Ripple) (codes "x"))
unfolding asked clap_on_literals
made = refl

pub made_wide : asked make_widths ≡ Some (Make (making_of (OfWidths Dadda 17) 24 Kogge) (codes "x"))
unfolding asked clap_on_literals
made_wide = refl

pub no_wide_sum : asked make_widths_add ≡ None
unfolding asked clap_on_literals
no_wide_sum = refl

pub corrected : asked make_corrected ≡ Some (Make (making_of Corrected 8 Kogge) (codes "x"))
unfolding asked clap_on_literals
corrected = refl

pub sum : asked make_dadda_add ≡ Some (Make (making_of (MultiplyAdd Dadda) 8 Kogge) (codes "x"))
unfolding asked clap_on_literals
sum = refl

pub no_sum : asked make_corrected_add ≡ None
unfolding asked clap_on_literals
no_sum = refl

pub added : asked eval_addend ≡ Some (Eval (codes "g") one_two_three)
unfolding asked clap_on_literals
added = refl

pub trimmed : AsksTrim trim_interleaved g_c_a_x_y (multiplying Interleaved Unsigned)
unfolding asked clap_on_literals
trimmed = refl

pub over_graph : asked (trim_to (codes "g") (codes "y")) ≡ None
unfolding asked clap_on_literals
over_graph = refl

pub over_clauses : asked (trim_to (codes "x") (codes "c")) ≡ None
unfolding asked clap_on_literals
over_clauses = refl

pub twice : asked (trim_to (codes "x") (codes "x")) ≡ None
unfolding asked clap_on_literals
twice = refl
