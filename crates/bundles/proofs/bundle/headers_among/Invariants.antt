use denote.Shadow.{shadow}
use denote.Text.{Utf8}
use Rattle.std.proofs.Common.{◌≡◌, ◌≤◌, ◌+◌, drop, take, length, find, count_by}
use Rattle.std.specs.List.{enumerate_from}
use Rattle.std.specs.Str.Lines.{lines}
use Rattle.bundles.specs.Bundles.{starts_section, is_unexpected, first_unexpected}
use Rattle.bundles.proofs.bundle.headers_among.Given as goal

abbrev pub invariant-loop-line : goal.invariant-loop-line
invariant-loop-line l = record {
  text : shadow (Utf8 l.rest);
  left : lines l.rest ≡ drop l.place (lines l.text);
  passed : find (is_unexpected l.headers (lines l.text)) (enumerate_from l.place (lines l.rest))
      ≡ first_unexpected l.headers (lines l.text);
  count : l.above ≡ count_by starts_section (take l.place (lines l.text));
  most : l.above ≤ length l.headers;
  few : l.place + length l.rest ≤ length l.text;
}

abbrev pub decreases-loop-line : goal.decreases-loop-line
decreases-loop-line l = length l.rest
