-- Why a table isn't accepted: what is to blame for the first obligation that fails.
use Rattle.std.specs.Prelude.{◌≡◌, ℕ, List, length, slice_get, Some, None, IsTrue}
use Rattle.board.specs.Boards.{Board}
use Rattle.seq_program.specs.declared.instr.Instr.{Instr}
use Rattle.seq_program.specs.Programs.{is_end}
use Rattle.facts.specs.declared.duties.rule.Rule.{Rule}
use Rattle.facts.specs.declared.duties.rule.Rule.TheVariants.{K6, K7, K8, K9}
use Rattle.facts.specs.domain.Rows.{Row}
use Rattle.facts.specs.domain.Uncovered.{IsFirstUncovered}
use Rattle.facts.specs.duties.Violations as blame
use Rattle.facts.specs.duties.Violations.{IsFirstNot}
use Rattle.facts.specs.FactLaws.{without_ticks}
use Rattle.facts.specs.well_formed.Misfits.{IsFirstMisfit}
use Rattle.facts.specs.well_formed.Unheld.{IsFirstUnheld}
use Rattle.facts.specs.transfer.Edges.{Edge}
use Rattle.facts.specs.transfer.TimedEdges.{timed_edges}
use Rattle.table_check.specs.Tables.{Table, row_of}
use Rattle.table_check.specs.declared.checker.breach.Breach.{Breach}
use Rattle.table_check.specs.declared.checker.breach.Breach.TheVariants as breach
use Rattle.table_check.specs.declared.checker.breach.Judgement.{Judgement}
use Rattle.table_check.specs.declared.checker.breach.Judgement.TheVariants as judgement
use Rattle.table_check.specs.declared.checker.verdict.Verdict.{Verdict}
use Rattle.table_check.specs.declared.checker.verdict.Verdict.TheVariants.{Accepted, Refused}
use Rattle.table_check.specs.checker.Lacking.{IsUnpaid}
use Rattle.table_check.specs.checker.Obligations.{IsVerdict}
use Rattle.table_check.specs.checker.Rules.{IsCovered, Pays}

-- the rule that is broken
abbrev pub rule_of : Breach → Rule
rule_of breach.Length = K9
rule_of (breach.Shape part) = K9
rule_of breach.NoStart = K8
rule_of (breach.Start part) = K8
rule_of (breach.Duty v) = blame.rule_of v
rule_of (breach.NoRow edge to) = K6
rule_of (breach.Uncovered edge to part) = K6
rule_of (breach.Unpaid edge to spot needed left) = K7
rule_of (breach.UnpaidEnd spot) = K7

-- an edge with its worst ticks keeps K6 and K7
abbrev pub KeepsEdge : Board → Table → Edge × ℕ → Type 0
KeepsEdge b t e = IsCovered b t e.0 × Pays b t e.1 e.0

-- or breaks one of them by this, where it has this index
abbrev pub BreaksEdge : Board → Table → ℕ → Edge × ℕ → Breach → Type 0
BreaksEdge b t index e (breach.NoRow edge to) =
    (edge ≡ index) × (to ≡ e.0.to) × (row_of t to ≡ None)
BreaksEdge b t index e (breach.Uncovered edge to part) =
    (edge ≡ index) × (to ≡ e.0.to)
    × ((next : Row) × (row_of t to ≡ Some next) × IsFirstUncovered next e.0.row part)
BreaksEdge b t index e (breach.Unpaid edge to spot needed left) =
    (edge ≡ index) × (to ≡ e.0.to)
    × ((next : Row) × (row_of t to ≡ Some next) × IsUnpaid b e.1 next e.0.row spot needed left)
BreaksEdge b t index e other = ⊥

-- the first of some edges that doesn't keep them breaks one by this
pub record BreaksFirst (b : Board) (t : Table) (edges : List (Edge × ℕ)) (by : Breach)
    : Type 0 where
  pub index : ℕ
  pub edge : Edge × ℕ
  pub first : IsFirstNot (KeepsEdge b t) edges index edge
  pub breaks : BreaksEdge b t index edge by

-- what is to blame for an instruction at its row; an end is as an edge that takes a tick, to where
-- nothing has to be left
abbrev pub BreaksAt : Board → Table → ℕ → Instr → Row → Breach → Type 0
BreaksAt b t place i row (breach.Duty v) = blame.IsToBlame b row i v
BreaksAt b t place i row (breach.UnpaidEnd spot) =
    IsTrue (is_end i) × IsUnpaid b 1 (without_ticks row) row spot 1 0
BreaksAt b t place i row other = BreaksFirst b t (timed_edges b place i row) other

-- what is to blame at a place
pub record BreaksThere (b : Board) (p : List Instr) (t : Table) (place : ℕ) (by : Breach)
    : Type 0 where
  pub instr : Instr
  pub row : Row
  pub here : slice_get p place ≡ Some instr
  pub known : row_of t place ≡ Some row
  pub breaks : BreaksAt b t place instr row by

abbrev pub IsToBlame : Board → List Instr → Table → ℕ → Breach → Type 0
IsToBlame b p t place breach.Length = length t ≡ length p → ⊥
IsToBlame b p t place (breach.Shape part) =
    (row : Row) × (row_of t place ≡ Some row) × IsFirstMisfit b row part
IsToBlame b p t place breach.NoStart = row_of t 0 ≡ None
IsToBlame b p t place (breach.Start part) =
    (row : Row) × (row_of t 0 ≡ Some row) × IsFirstUnheld b row part
IsToBlame b p t place other = BreaksThere b p t place other

-- the verdict without what is to blame
abbrev pub verdict_of : Judgement → Verdict
verdict_of (judgement.Accepted bound) = Accepted bound
verdict_of (judgement.Refused r) = Refused r.place (rule_of r.breach)

-- what is to blame for a refusal; for accepting nothing is
abbrev pub HasReason : Board → List Instr → Table → Judgement → Type 0
HasReason b p t (judgement.Accepted bound) = Unit {0}
HasReason b p t (judgement.Refused r) = IsToBlame b p t r.place r.breach

-- the answer of the checker with its evidence
abbrev pub IsJudgement : Board → List Instr → Table → Judgement → Type 0
IsJudgement b p t j = IsVerdict b p t (verdict_of j) × HasReason b p t j
