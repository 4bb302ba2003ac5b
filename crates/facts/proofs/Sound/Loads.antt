-- A register gets a new value, and nothing else that a row speaks of changes.
use Rattle.std.proofs.Common.{◌≡◌, ℕ, ◌<◌, List, refl}
use Rattle.std.specs.Prelude.{slice_set}
use Rattle.board.specs.Boards.{Board}
use Rattle.simulator.specs.Machines.{Machine, Entry}
use Rattle.facts.specs.declared.domain.source.Source.{Source}
use Rattle.facts.specs.declared.domain.span.Span.{Span}
use Rattle.facts.specs.domain.Sets.{empty}
use Rattle.facts.specs.domain.Rows.{Row, Admits, IsRow, IsFrom, InSpan}
use Rattle.facts.specs.transfer.Edges.{with_reg}
use Rattle.facts.proofs.Sound.RowChanges.{Change, admits_same, admits_reg}

pub admits_load : (b : Board) (row : Row) (m : Machine) (h : List Entry) (m' : Machine)
    (h' : List Entry)
    (r : ℕ) (s : Span) (origin : Source) (x : ℕ)
    → IsRow b row → Admits b row m h → Change b m h m' h' empty empty empty → r < 8 → InSpan s x
    → IsFrom b m' h' origin x
    → m'.counters ≡ m.counters → m'.regs ≡ slice_set m.regs r x
    → Admits b (with_reg row r s origin) m' h'
admits_load b row m h m' h' r s origin x shaped k c lt inside from counters regs =
    admits_reg b row
    (record m' { regs = m.regs }) m' h' r s origin x shaped.reg_count shaped.source_count
    (admits_same b row m h (record m' { regs = m.regs }) h' k
    (record { pages = c.pages; protects = c.protects; reports = c.reports; lost = c.lost }) refl
    counters)
    lt inside from refl refl regs
