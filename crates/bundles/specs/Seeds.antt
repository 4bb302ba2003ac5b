-- The section of a seed: one line with a decimal number.
use Rattle.std.specs.Prelude.{ℕ, ◌+◌, ◌-◌, ◌^◌, List, [], ◌∷◌, length, Result, Err}
use Rattle.texts.specs.Decimal.{decimal_within}
use Rattle.texts.specs.Reading.{◌>>=◌, some_or}
use Rattle.bundles.specs.declared.fault.BundleFault.{BundleFault}
use Rattle.bundles.specs.declared.fault.BundleFault.TheVariants.{BadSeed}
use Rattle.bundles.specs.declared.flaw.Flaw.TheVariants.{NoLine, Second, Whole}
use Rattle.bundles.specs.Bundles.{Line, Section}
use Rattle.bundles.specs.CountedLines.{counted_lines}

abbrev pub greatest_seed : ℕ
greatest_seed = 2 ^ 64 - 1

abbrev pub seed_of : ℕ → Line → Result ℕ BundleFault
seed_of number line = some_or (BadSeed number Whole) (decimal_within greatest_seed line)

-- the one line that counts: where there is none, the fault is at the line below the section's last,
-- and where there is a second, at that
unfoldable pub one_seed : ℕ → List (ℕ × Line) → Result ℕ BundleFault
one_seed last [] = Err (BadSeed last NoLine)
one_seed last (first ∷ []) = seed_of first.0 first.1
one_seed last (first ∷ second ∷ later) =
    seed_of first.0 first.1 >>= λ seed. Err (BadSeed second.0 Second)

abbrev pub seed_in : Section → Result ℕ BundleFault
seed_in section = one_seed (section.first_line + length section.lines) (counted_lines section)
