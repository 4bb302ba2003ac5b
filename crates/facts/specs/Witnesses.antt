-- There are machines that stand at a message, and rows that cover others there.
use Rattle.std.specs.Prelude.{◌≢◌, List, [], length, map, replicate, IsSome}
use Rattle.pmbus_table.specs.Protect.{is_protection}
use Rattle.board.specs.Boards.{Target, Board}
use Rattle.board.specs.Valid.{IsBoard, is_page_value}
use Rattle.seq_program.specs.declared.instr.Instr.{Instr}
use Rattle.seq_program.specs.Valid.{IsInstrOn}
use Rattle.simulator.specs.Machines.{Machine, Entry}
use Rattle.facts.specs.declared.duties.rule.Rule.{Rule}
use Rattle.facts.specs.declared.domain.source.Source.TheVariants as source
use Rattle.facts.specs.domain.Sets.{empty}
use Rattle.facts.specs.domain.Rows.{Row, RowCovers}
use Rattle.seq_program.specs.Requests.{request_in}
use Rattle.facts.specs.duties.Duties.{one, Meets}
use Rattle.facts.specs.Steps.{Stands}
use Rattle.facts.specs.FactLaws.{Wider}

-- all that the targets may store, with registers and counters at 0
abbrev pub widest_row : Board → Row
widest_row b =
    record {
      pages = map (λ (t : Target). is_page_value t.pages) b.targets;
      protects = map (λ (t : Target). is_protection) b.targets;
      good = empty;
      regs = replicate 8 (one 0);
      sources = replicate 8 source.None;
      counters = replicate 4 (one 0);
      lost = record { lo = 0; hi = b.contentions };
      base = 0;
      coeffs = replicate 4 0;
      lost_coeff = 0;
    }

-- a machine stands at a message after a step, at a row whose duties are met
pub record SomeMachineStands : Type 0 where
  pub board : Board
  pub program : List Instr
  pub instr : Instr
  pub row : Row
  pub machine : Machine
  pub history : List Entry
  pub sends : IsSome (request_in instr)
  pub later : history ≢ []
  pub stands : Stands board program instr row machine history

-- a row covers another that doesn't cover it, and meets the duties of a message
pub record SomeRowIsWider : Type 0 where
  pub board : Board
  pub instr : Instr
  pub wide : Row
  pub row : Row
  pub is_board : IsBoard board
  pub said : IsInstrOn (length board.targets) instr
  pub sends : IsSome (request_in instr)
  pub wider : Wider board wide row
  pub meets : (rule : Rule) → Meets board wide instr rule
  pub other : RowCovers board row wide → ⊥
