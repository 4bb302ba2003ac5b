-- The rule book: what a table owes, in the order in which it is judged.
use Rattle.std.specs.Prelude.{◌≡◌, ℕ, ◌+◌, ◌⊎◌, List, [], ◌∷◌, ◌++◌, length, Option, Some, None}
use Rattle.std.specs.Prelude.{map}
use Rattle.board.specs.Boards.{Board}
use Rattle.seq_program.specs.declared.instr.Instr.{Instr}
use Rattle.seq_program.specs.declared.instr.Instr.TheVariants as instr
use Rattle.facts.specs.declared.duties.rule.Rule.{Rule}
use Rattle.facts.specs.declared.duties.rule.Rule.TheVariants.{K6, K7, K8, K9}
use Rattle.facts.specs.domain.Rows.{Row, IsRow}
use Rattle.facts.specs.duties.Duties.{Meets, duties}
use Rattle.facts.specs.transfer.Edges.{Edge}
use Rattle.facts.specs.transfer.TimedEdges.{timed_edges}
use Rattle.table_check.specs.Tables.{Table, row_of}
use Rattle.table_check.specs.declared.checker.verdict.Verdict.{Verdict}
use Rattle.table_check.specs.declared.checker.verdict.Verdict.TheVariants.{Accepted, Refused}
use Rattle.table_check.specs.checker.Rules.{IsCovered, Pays, PaysEnd, Starts}

-- what is owed once, by a place's row, by an instruction at its row, and along its edges
pub data Obligation : Type 0 where
  Length : Obligation
  Shape : (place : ℕ) (row : Row) → Obligation
  Start : Obligation
  Duty : (place : ℕ) (i : Instr) (row : Row) (rule : Rule) → Obligation
  Covered : (place : ℕ) (e : Edge) → Obligation
  Falls : (place worst : ℕ) (e : Edge) → Obligation
  FallsEnd : (place : ℕ) (row : Row) → Obligation

abbrev pub Holds : Board → List Instr → Table → Obligation → Type 0
Holds b p t Length = length t ≡ length p
Holds b p t (Shape place row) = IsRow b row
Holds b p t Start = Starts b t
Holds b p t (Duty place i row rule) = Meets b row i rule
Holds b p t (Covered place e) = IsCovered b t e
Holds b p t (Falls place worst e) = Pays b t worst e
Holds b p t (FallsEnd place row) = PaysEnd b row

-- the place and the rule that are told where it fails
abbrev pub fault_of : Obligation → ℕ × Rule
fault_of Length = (0, K9)
fault_of (Shape place row) = (place, K9)
fault_of Start = (0, K8)
fault_of (Duty place i row rule) = (place, rule)
fault_of (Covered place e) = (place, K6)
fault_of (Falls place worst e) = (place, K7)
fault_of (FallsEnd place row) = (place, K7)

-- each row that a table has is one of the board
abbrev pub shapes : ℕ → Table → List Obligation
shapes place [] = []
shapes place (None ∷ rows) = shapes (place + 1) rows
shapes place (Some row ∷ rows) = Shape place row ∷ shapes (place + 1) rows

-- each edge is covered, and pays for its ticks
abbrev pub of_edges : ℕ → List (Edge × ℕ) → List Obligation
of_edges place [] = []
of_edges place (e ∷ es) = Covered place e.0 ∷ Falls place e.1 e.0 ∷ of_edges place es

abbrev pub of_end : ℕ → Row → Instr → List Obligation
of_end place row instr.End = FallsEnd place row ∷ []
of_end place row instr.Fail = FallsEnd place row ∷ []
of_end place row _ = []

-- an instruction meets its duties at its row, and then its edges are looked at
abbrev pub of_row : Board → ℕ → Instr → Row → List Obligation
of_row b place i row =
    map (Duty place i row) duties
    ++ (of_edges place (timed_edges b place i row) ++ of_end place row i)

-- places upwards; those without a row are passed over
abbrev pub of_places : Board → ℕ → List Instr → Table → List Obligation
of_places b place [] rows = []
of_places b place (i ∷ is') [] = []
of_places b place (i ∷ is') (None ∷ rows) = of_places b (place + 1) is' rows
of_places b place (i ∷ is') (Some row ∷ rows) =
    of_row b place i row ++ of_places b (place + 1) is' rows

abbrev pub obligations : Board → List Instr → Table → List Obligation
obligations b p t = Length ∷ (shapes 0 t ++ (Start ∷ of_places b 0 p t))

abbrev pub AllHold : Board → List Instr → Table → List Obligation → Type 0
AllHold b p t [] = Unit {0}
AllHold b p t (o ∷ os) = Holds b p t o × AllHold b p t os

-- the table is inductive: it keeps the whole rule book
abbrev pub IsInductive : Board → List Instr → Table → Type 0
IsInductive b p t = AllHold b p t (obligations b p t)

-- of some obligations the first that fails, if there is one
abbrev pub IsFirstFault : Board → List Instr → Table → List Obligation → Option (ℕ × Rule)
    → Type 0
IsFirstFault b p t [] found = found ≡ None
IsFirstFault b p t (o ∷ os) found =
    (Holds b p t o × IsFirstFault b p t os found)
    ⊎ ((Holds b p t o → ⊥) × (found ≡ Some (fault_of o)))

abbrev pub base_of : Option Row → ℕ
base_of None = 0
base_of (Some row) = row.base

-- the ticks that are left at the start
abbrev pub bound_of : Table → ℕ
bound_of t = base_of (row_of t 0)

-- a fault refuses a table; without one it is accepted, with its bound
abbrev pub verdict_on : Table → Option (ℕ × Rule) → Verdict
verdict_on t None = Accepted (bound_of t)
verdict_on t (Some fault) = Refused fault.0 fault.1

-- the answer of the checker
abbrev pub IsVerdict : Board → List Instr → Table → Verdict → Type 0
IsVerdict b p t v =
    (found : Option (ℕ × Rule)) × IsFirstFault b p t (obligations b p t) found
    × (v ≡ verdict_on t found)
