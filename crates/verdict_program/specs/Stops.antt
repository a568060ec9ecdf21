-- What is reported of each stop, and its status.
use Rattle.std.specs.Prelude.{ℕ, List, [], ◌∷◌, ◌++◌, codes, decimal}
use Rattle.graph_core.specs.Text.{newline}
use Rattle.aiger_reader.specs.declared.fail.ReadFail.{ReadFail}
use Rattle.aiger_reader.specs.declared.fail.ReadFail.TheVariants as fail
use Rattle.graph_core.specs.declared.fault.Field.{Field}
use Rattle.graph_core.specs.declared.fault.Field.TheVariants as field
use Rattle.graph_core.specs.declared.fault.GraphFault.{GraphFault}
use Rattle.graph_core.specs.declared.fault.GraphFault.TheVariants as fault
use Rattle.graph_core.specs.declared.literal.Lit.{Lit}
use Rattle.mv_desk.specs.declared.slot.Slot.{Slot}
use Rattle.mv_desk.specs.declared.slot.Slot.TheVariants as slot
use Rattle.command_core.specs.declared.stop.Stop.{Stop}
use Rattle.command_core.specs.declared.stop.Stop.TheVariants as stop

abbrev pub line : List ℕ → List ℕ
line text = text ++ newline ∷ []

-- ---- a graph refused

abbrev pub letter_of : Field → List ℕ
letter_of field.M = codes "M"
letter_of field.I = codes "I"
letter_of field.L = codes "L"
letter_of field.O = codes "O"
letter_of field.A = codes "A"
letter_of field.B = codes "B"
letter_of field.C = codes "C"
letter_of field.J = codes "J"
letter_of field.F = codes "F"

abbrev pub about_literal : Lit → List ℕ
about_literal l = codes "graph refused: literal " ++ decimal l.0

-- a graph refused: the byte, the field of the header, or the fault
abbrev pub report_of_fault : GraphFault → List ℕ
report_of_fault (fault.Range l) = about_literal l ++ line (codes " out of range")
report_of_fault (fault.Left l) = about_literal l ++ line (codes " is no left side")
report_of_fault (fault.Twice v) = codes "graph refused: variable " ++ decimal v ++ line (codes " defined twice")
report_of_fault (fault.Undefined l) = about_literal l ++ line (codes " undefined")
report_of_fault (fault.Cycle v) = codes "graph refused: cycle at variable " ++ decimal v ++ line []

abbrev pub report_of_graph : ReadFail → List ℕ
report_of_graph (fail.Text p) = codes "graph refused at byte " ++ decimal p ++ line (codes ": text")
report_of_graph (fail.Header f) = codes "graph refused: header " ++ letter_of f ++ line []
report_of_graph (fail.Graph f) = report_of_fault f
report_of_graph _ = []

-- ---- any of them

abbrev pub name_of_slot : Slot → List ℕ
name_of_slot slot.Graph = codes "graph"
name_of_slot slot.Other = codes "other"
name_of_slot slot.Clauses = codes "clauses"
name_of_slot slot.Algebra = codes "algebra"
name_of_slot slot.Report = codes "report"

-- of two graphs the second one is told by a word before the report
abbrev pub prefix_of : Slot → List ℕ
prefix_of slot.Other = codes "other "
prefix_of _ = []

abbrev pub report_of_stop : Stop → List ℕ
report_of_stop (stop.Graph at why) = prefix_of at ++ report_of_graph why
report_of_stop stop.ReadFault = line (codes "read fault")
report_of_stop stop.WriteFault = line (codes "write fault")
report_of_stop stop.Memory = line (codes "want of memory")
report_of_stop (stop.TooLong at) = codes "too long: " ++ name_of_slot at ++ line []

abbrev pub status_of_stop : Stop → ℕ
status_of_stop (stop.Graph at why) = 4
status_of_stop stop.ReadFault = 6
status_of_stop stop.WriteFault = 7
status_of_stop stop.Memory = 8
status_of_stop (stop.TooLong at) = 9
