-- The entry of a target that allows a transaction, and what it lets be read.
use Rattle.std.specs.Prelude.{ℕ, Option, option_map, unwrap_or}
use Rattle.board.specs.declared.entry.Range.{Range}
use Rattle.board.specs.Boards.{Allow, Board, entry_at}
use Rattle.board.specs.Valid.{full_values, full_length}
use Rattle.seq_program.specs.Requests.{Transaction, code_in}

abbrev pub allowing : Board → ℕ → Transaction → Option Allow
allowing b i x = entry_at b i x.form (code_in x)

-- what may be read: the entry's ranges, or all that the form has
abbrev pub values_at : Board → ℕ → Transaction → Range
values_at b i x =
    unwrap_or (option_map (λ (e : Allow). e.values) (allowing b i x)) (full_values x.form)

abbrev pub lengths_at : Board → ℕ → Transaction → Range
lengths_at b i x = unwrap_or (option_map (λ (e : Allow). e.length) (allowing b i x)) full_length
