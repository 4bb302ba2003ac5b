-- What is known in a run: the machine, and which rails reported good.
use Rattle.std.specs.Prelude.{◌<◌, ◌↔◌, ℕ, IsTrue, List, length, map, replicate, Option}
use Rattle.board.specs.Boards.{Board}
use Rattle.seq_program.specs.declared.instr.Instr.{Instr}
use Rattle.simulator.specs.Machines.{Machine, Entry}
use Rattle.simulator.specs.Reports.{IsReportedGood}
use Rattle.facts.specs.declared.duties.rule.Rule.{Rule}
use Rattle.facts.specs.declared.domain.source.Source.TheVariants as source
use Rattle.facts.specs.duties.Duties.{one, duties, Meets, IsFirstFailing}
use Rattle.facts.specs.domain.Rows.{Row}
use Rattle.facts.specs.domain.Sets.{Set, only}

-- the row of this machine and of no other, where these rails are good; where its values come from
-- isn't told
abbrev pub known_row : Machine → Set → Row
known_row m good =
    record {
      pages = map only m.bus.page;
      protects = map only m.bus.protect;
      good = good;
      regs = map one m.regs;
      sources = replicate 8 source.None;
      counters = map one m.counters;
      lost = one m.bus.lost;
      base = 0;
      coeffs = replicate 4 0;
      lost_coeff = 0;
    }

-- the rails of the set are those of the board whose last report is good
pub record Knows (b : Board) (history : List Entry) (good : Set) : Type 0 where
  pub reported : (d : ℕ) → d < length b.rails → IsTrue (good d) ↔ IsReportedGood b history d
  pub rails : (d : ℕ) → IsTrue (good d) → d < length b.rails

-- an instruction keeps the rules K1 to K5 where it is known
abbrev pub KeepsRules : Board → Set → Machine → Instr → Type 0
KeepsRules b good m i = (rule : Rule) → Meets b (known_row m good) i rule

-- the first of them that it breaks, if there is one
abbrev pub IsBreach : Board → Set → Machine → Instr → Option Rule → Type 0
IsBreach b good m i found = IsFirstFailing b (known_row m good) i duties found
