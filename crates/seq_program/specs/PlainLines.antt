-- The lines that neither send nor jump: what stands behind their first word.
use Rattle.std.specs.Prelude.{ℕ, List, [], ◌∷◌, Ok, Err}
use Rattle.texts.specs.Reading.{◌>>=◌}
use Rattle.seq_program.specs.declared.instr.Instr.TheVariants as instr
use Rattle.seq_program.specs.LineOperands.{register_in, counter_in, number_in, word_in}
use Rattle.seq_program.specs.MessageLines.{Parsed}
use Rattle.seq_program.specs.WordCounts.{miscounted}
use Rattle.seq_program.specs.declared.instr.TheConstants.{MOST_TURNS}

-- `rN V`
unfoldable pub set_of : ℕ → List (List ℕ) → Parsed
set_of n (r ∷ v ∷ []) = do
  register ← register_in n 1 r
  value ← word_in n 2 v
  Ok (instr.Set register value)
set_of n _ = Err (miscounted n 2)

-- `rN V`
unfoldable pub add_of : ℕ → List (List ℕ) → Parsed
add_of n (r ∷ v ∷ []) = do
  register ← register_in n 1 r
  value ← word_in n 2 v
  Ok (instr.Add register value)
add_of n _ = Err (miscounted n 2)

-- `cN V`
unfoldable pub count_of : ℕ → List (List ℕ) → Parsed
count_of n (c ∷ v ∷ []) = do
  counter ← counter_in n 1 c
  value ← number_in n 2 0 MOST_TURNS v
  Ok (instr.Count counter value)
count_of n _ = Err (miscounted n 2)

-- `V`
unfoldable pub wait_of : ℕ → List (List ℕ) → Parsed
wait_of n (v ∷ []) = do
  ticks ← number_in n 1 1 10000000 v
  Ok (instr.Wait ticks)
wait_of n _ = Err (miscounted n 1)

-- nothing
abbrev pub end_of : ℕ → List (List ℕ) → Parsed
end_of n [] = Ok instr.End
end_of n _ = Err (miscounted n 0)

abbrev pub fail_of : ℕ → List (List ℕ) → Parsed
fail_of n [] = Ok instr.Fail
fail_of n _ = Err (miscounted n 0)
