-- What is recorded of the lines of an algebra file.
use Rattle.std.specs.Prelude.{◌≡◌, ℕ, Bool, true, List, [], ◌∷◌, ◌++◌, length, IfSome, ⊤}
use Rattle.std.specs.List.{All}
use Rattle.std.specs.declared.option.Option.{Option}
use Rattle.std.specs.declared.option.Option.TheVariants.{Some}
use Rattle.algebra_core.specs.AlgebraLines.{Line, AreLawful, Premises}
use Rattle.algebra_core.specs.Text.{AreLineTexts, IsAlgebraText, IsCloseText, IsId, IsLineText}
use Rattle.graph_core.specs.Graph.Extended.{modulus}
use Rattle.graph_core.specs.Graph.Operands.{Sides}
use Rattle.graph_core.specs.Text.JudgedLines.{BeginsWith}
use Rattle.pac_checker.specs.Checking.{AlgebraChecking, IsRecordable, recorded_of}
use Rattle.poly_terms.specs.Tables as table
use Rattle.poly_text.specs.Lines.{AreOf}
use Rattle.poly_text.specs.Recorded.{AreAllAlike, AreMadeOfEarlier, AreRisingIds, HasNewId, ids_in, lines_in}
use Rattle.algebra_judge.specs.AlgebraLines.{AlgebraTask, task_of}
use Rattle.algebra_judge.specs.declared.algebra_line.Turn.{Turn}
use Rattle.algebra_judge.specs.declared.algebra_line.Turn.TheVariants as turn
use Rattle.algebra_judge.specs.declared.judging.Closed.{Closed}

-- of lines those that are recorded: where lines are, those that introduce ids
abbrev pub all_recorded : Bool → List Line → List Line
all_recorded records [] = []
all_recorded records (x ∷ xs) = recorded_of records x ++ all_recorded records xs

-- The text is that of lines, of which there are so many, closed by this one, and those of them that are recorded are alike.
pub record IsRecordOf (records : Bool) (version m : ℕ) (bytes : List ℕ) (recorded : List Line) (closing count : ℕ) : Type 0 where
  pub lines : List Line
  pub text : IsAlgebraText version bytes lines closing
  pub alike : AreAllAlike m (all_recorded records lines) recorded
  pub counted : count ≡ length lines

-- The recorded lines are lawful over these premises, and close. Each introduces an id, is made of earlier ones, and can be written.
pub record IsLawfulRecord (p : Premises) (sides : Sides) (c : Closed) : Type 0 where
  pub lawful : AreLawful p sides (lines_in c.record.terms c.record.lines.items) c.id
  pub closing : IsId c.id
  pub modulus_is : table.modulus_in c.record.terms ≡ modulus p.extended
  pub of_table : All (AreOf c.record.terms) c.record.lines.items
  pub recordable : All (IsRecordable p.extended.max c.record.terms) c.record.lines.items
  pub new_ids : All HasNewId c.record.lines.items
  pub rising : AreRisingIds (ids_in c.record.lines.items)
  pub earlier : AreMadeOfEarlier c.record.lines.items

-- After a header stand lines, of which there are so many, a closing line, and nothing more; those that are recorded are alike.
pub record IsRecordedBody (t : AlgebraTask) (recorded : List Line) (closing count : ℕ) (body : List ℕ) : Type 0 where
  pub lines : List Line
  pub last : List ℕ
  pub texts : AreLineTexts t.premises.version body lines last
  pub close : BeginsWith IsCloseText last closing []
  pub alike : AreAllAlike (modulus t.premises.extended) (all_recorded t.records lines) recorded
  pub counted : count ≡ length lines

-- ---- line by line. Private clauses alone cite what follows.

-- What is recorded of a line of these bytes comes after what was recorded.
pub record RecordsText (t : AlgebraTask) (old new : List Line) (bytes : List ℕ) (behind : Option (List ℕ)) : Type 0 where
  pub line : Line
  pub rest : List ℕ
  pub begins : BeginsWith (IsLineText t.premises.version) bytes line rest
  pub left_is : behind ≡ Some rest
  pub more : List Line
  pub alike : AreAllAlike (modulus t.premises.extended) (recorded_of t.records line) more
  pub recorded : new ≡ old ++ more

-- a closing line stands there
pub record ClosesText (closing : ℕ) (bytes : List ℕ) (behind : Option (List ℕ)) : Type 0 where
  pub rest : List ℕ
  pub begins : BeginsWith IsCloseText bytes closing rest
  pub left_is : behind ≡ Some rest

-- Where the file is told, a line stands there and is recorded, or a closing line does, which isn't.
abbrev pub RecordsTurn : AlgebraTask → List Line → List Line → Option (List ℕ) → Option (List ℕ) → Turn → Type 0
RecordsTurn t old new left behind turn.Taken = IfSome left (λ bytes. RecordsText t old new bytes behind)
RecordsTurn t old new left behind (turn.Closed id) = (new ≡ old) × IfSome left (λ bytes. ClosesText id bytes behind)

-- The id is one, and where lines are recorded these are lawful and close with it.
pub record ClosesAt (t : AlgebraTask) (recorded : List Line) (id : ℕ) : Type 0 where
  pub is_id : IsId id
  pub lawful : t.records ≡ true → AreLawful t.premises t.sides recorded id

-- so it is at the closing line, of which nothing is recorded, in a file of any version
abbrev pub ClosesRecord : AlgebraChecking → AlgebraChecking → Turn → Type 0
ClosesRecord old new turn.Taken = ⊤
ClosesRecord old new (turn.Closed id) = (new.recorded ≡ old.recorded) × ((version : ℕ) → ClosesAt (task_of version old) new.recorded id)

-- After a header these lines stand, and then what is left; what is recorded of them is alike. They are so many.
pub record IsRecordedTo (t : AlgebraTask) (recorded : List Line) (count : ℕ) (left : Option (List ℕ)) (body : List ℕ) : Type 0 where
  pub lines : List Line
  pub rest : List ℕ
  pub left_is : left ≡ Some rest
  pub texts : AreLineTexts t.premises.version body lines rest
  pub alike : AreAllAlike (modulus t.premises.extended) (all_recorded t.records lines) recorded
  pub counted : count ≡ length lines
