-- The lines of a section that say something.
use Rattle.std.specs.Prelude.{ℕ, List, Bool, not, ◌&&◌, ◌==◌, slice_index, filter}
use Rattle.std.specs.List.{enumerate_from}
use Rattle.bundles.specs.Bundles.{Line, Section, is_blank}
use Rattle.texts.specs.Ascii as ascii

-- blank lines and those that begin with `#` don't count
abbrev pub is_counted : Line → Bool
is_counted line = not (is_blank line) && not (slice_index line 0 == ascii.number_sign)

abbrev pub counted_lines : Section → List (ℕ × Line)
counted_lines section =
    filter (λ (numbered : ℕ × Line). is_counted numbered.1)
    (enumerate_from section.first_line section.lines)
