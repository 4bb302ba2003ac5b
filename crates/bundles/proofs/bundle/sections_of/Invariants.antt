use Rattle.std.proofs.Common.{◌≡◌, ◌≤◌, ◌+◌, ◌++◌, map, length}
use Rattle.std.specs.Prelude.{⊤, option_copied, MatchOption, option_map, unwrap_or}
use Rattle.std.specs.Str.Lines.{lines}
use Rattle.bundles.specs.Bundles.{numbered, parts_below, sections_of}
use Rattle.bundles.specs.Views.{section_view}
use Rattle.bundles.proofs.bundle.sections_of.Given as goal

abbrev pub invariant-loop-next : goal.invariant-loop-next
invariant-loop-next l = record {
  sections : map section_view l.sections.items
      ++ numbered l.first_line (parts_below (option_copied l.next))
      ≡ sections_of (lines l.fn.text);
  few : MatchOption l.next ⊤
      (λ text. l.first_line + length text.now ≤ length l.fn.text + 3);
}

abbrev pub decreases-loop-next : goal.decreases-loop-next
decreases-loop-next l = unwrap_or (option_map (λ text. length text.now + 1) l.next) 0
