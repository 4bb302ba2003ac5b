use Rattle.std.proofs.Common.{◌≡◌, ◌++◌, All, drop, map}
use Rattle.std.specs.List.{filter_map}
use Rattle.seq_program.specs.Faults.{line_of}
use Rattle.texts.specs.Words.{lines_by_feed}
use Rattle.notes.specs.Lines.{FindsIn}
use Rattle.diagnostics.specs.OtherErrors.{IsError}
use Rattle.diagnostics.proofs.other_errors.notes_of.Given as goal

-- so far each fault that has a line has a note on it
abbrev pub invariant-loop-fault : goal.invariant-loop-fault
invariant-loop-fault l = record {
  finds : FindsIn (lines_by_feed l.text) l.lines;
  errors : All (IsError (lines_by_feed l.text)) l.notes.items;
  told : map (λ n. n.line) l.notes.items ++ filter_map line_of (drop l.fault-index l.faults)
      ≡ filter_map line_of l.faults;
}
