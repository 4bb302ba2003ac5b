-- What the code's values stand for, and what is kept while lines are read.
use Rattle.std.specs.Prelude.{◌≡◌, ℕ, ◌≤◌, ◌<◌, nat_lt, List, length, map, All, IfSome, IsTrue}
use Rattle.std.specs.Prelude.{None}
use Rattle.std.specs.Prelude.{String, string_bytes}
use Rattle.std.specs.List.{list_all}
use Rattle.std.specs.declared.alloc.Global.{Global}
use Rattle.indexmap.specs.IndexMap.{IndexMap}
use Rattle.seq_program.specs.declared.instr.Instr.{Instr}
use Rattle.seq_program.specs.declared.labels.LabelAt.{LabelAt}
use Rattle.seq_program.specs.declared.pass.InstrsSoFar.{InstrsSoFar}
use Rattle.seq_program.specs.Labels.{Label}
use Rattle.seq_program.specs.Passes as specs
use Rattle.seq_program.specs.Valid.{IsInstrOn, jump_in}
use Rattle.seq_program.specs.declared.program.TheConstants.{MOST_PLACES}

abbrev pub label_view : String Global × LabelAt → Label
label_view e = record { name = string_bytes e.0; place = e.1.place; line = e.1.line }

abbrev pub labels_view : {S : Type 0} → IndexMap (String Global) LabelAt S → List Label
labels_view m = map label_view m.entries

abbrev pub pass_view : InstrsSoFar → specs.InstrsSoFar
pass_view p = record { instrs = p.instrs.items; unknown = p.unknown }

-- each label stands before so many places
abbrev pub AreBelow : ℕ → List Label → Type 0
AreBelow count labels = IsTrue (list_all (λ (l : Label). nat_lt l.place count) labels)

-- a place before as many places as all labels
abbrev pub IsAmong : List Label → ℕ → Type 0
IsAmong labels place = (count : ℕ) → AreBelow count labels → place < count

-- its jump lands where all labels do
abbrev pub Lands : List Label → Instr → Type 0
Lands labels i = IfSome (jump_in i) (λ place. IsAmong labels place)

-- instructions that were read for a board, no more than a program has; if no label was unknown,
-- their jumps land
abbrev pub AreInstrsSoFar : ℕ → List Label → InstrsSoFar → Type 0
AreInstrsSoFar targets labels pass =
    (length pass.instrs.items ≤ MOST_PLACES)
    × All (λ i. IsInstrOn targets i) pass.instrs.items
    × (pass.unknown ≡ None → All (λ i. Lands labels i) pass.instrs.items)
