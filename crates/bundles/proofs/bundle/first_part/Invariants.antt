use denote.Shadow.{shadow}
use denote.Text.{Utf8}
use Rattle.std.proofs.Common.{◌≡◌, ◌≤◌, ◌+◌, drop, take, length, false}
use Rattle.std.specs.Prelude.{All}
use Rattle.std.specs.Str.Lines.{lines}
use Rattle.bundles.specs.Bundles.{starts_section}
use Rattle.bundles.proofs.bundle.first_part.Given as goal

abbrev pub invariant-loop-line : goal.invariant-loop-line
invariant-loop-line l = record {
  text : shadow (Utf8 l.rest);
  left : lines l.rest ≡ drop l.count (lines l.text);
  within : l.count ≤ length (lines l.text);
  none : All (λ line. starts_section line ≡ false) (take l.count (lines l.text));
  few : l.count + length l.rest ≤ length l.text;
}

abbrev pub decreases-loop-line : goal.decreases-loop-line
decreases-loop-line l = length l.rest
