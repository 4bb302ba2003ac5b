use denote.Shadow.{shadow}
use denote.Text.{Utf8}
use Rattle.std.proofs.Common.{◌≡◌, ◌≤◌, ◌+◌, length, option_map}
use Rattle.std.specs.Str.Lines.{lines}
use Rattle.command_line.specs.FileFaults.{first_refused, refused_as}
use Rattle.command_line.proofs.file_fault.line_fault.Given as goal

abbrev pub invariant-loop-line : goal.invariant-loop-line
invariant-loop-line l = record {
  text : shadow (Utf8 l.rest);
  first : option_map refused_as (first_refused l.number (lines l.rest))
      ≡ option_map refused_as (first_refused 1 (lines l.text));
  few : l.number + length l.rest ≤ length l.text + 1;
}

abbrev pub decreases-loop-line : goal.decreases-loop-line
decreases-loop-line l = length l.rest
