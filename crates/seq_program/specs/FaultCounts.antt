-- How the first faults of a text are kept, and the others counted.
use Rattle.std.specs.Prelude.{◌≡◌, ◌<◌, ◌≤◌, ◌+◌, ◌⊎◌, ℕ, [], ◌∷◌, ◌++◌, length}
use Rattle.seq_program.specs.declared.fault.ProgramFault.{ProgramFault}
use Rattle.seq_program.specs.declared.faulty_lines.LineFaults.{LineFaults}

-- where fewer than so many are kept it is one of them, else it is counted
abbrev pub IsOneMore : ℕ → ProgramFault → LineFaults → LineFaults → Type 0
IsOneMore most fault old new =
    ((length old.first.items < most) × (new.first.items ≡ old.first.items ++ fault ∷ [])
    × (new.more ≡ old.more))
    ⊎ ((most ≤ length old.first.items) × (new.first.items ≡ old.first.items)
    × (new.more ≡ old.more + 1))
