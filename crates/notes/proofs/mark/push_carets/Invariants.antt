use Rattle.std.proofs.Common.{◌≡◌, ◌≤◌, ◌-◌, ◌++◌}
use Rattle.std.specs.Prelude.{string_bytes, replicate}
use Rattle.notes.proofs.mark.push_carets.Given as goal

abbrev pub invariant-loop : goal.invariant-loop
invariant-loop l = record {
  few : l.counter ≤ l.count;
  more : string_bytes l.mark ++ replicate (l.count - l.counter) 94
      ≡ string_bytes l.fn.mark ++ replicate l.count 94;
}
