-- What an `if` asks of a register: to pass its test, or not to.
use Rattle.std.specs.Prelude.{ℕ, Bool, not, if◌then◌else◌, slice_set}
use Rattle.facts.specs.domain.Sets.{gains, keeps}
use Rattle.facts.specs.domain.Rows.{Row, set_at}
use Rattle.simulator.specs.Moves.{passes}
use Rattle.facts.specs.declared.transfer.test.Test.{Test}

abbrev pub asked : Test → ℕ → Bool
asked t = λ x. if t.holds then passes x t.mask t.value else not (passes x t.mask t.value)

-- the parts of a row that a test tells more of
abbrev pub keep_page : Row → ℕ → (ℕ → Bool) → Row
keep_page row i test =
    record row { pages = slice_set row.pages i (keeps (set_at row.pages i) test) }

abbrev pub keep_protect : Row → ℕ → (ℕ → Bool) → Row
keep_protect row i test =
    record row { protects = slice_set row.protects i (keeps (set_at row.protects i) test) }

abbrev pub with_good : Row → ℕ → Row
with_good row d = record row { good = gains row.good d }
