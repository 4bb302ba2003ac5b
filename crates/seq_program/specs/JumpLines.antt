-- The lines that jump and send nothing: what stands between their first word and the label.
use Rattle.std.specs.Prelude.{ℕ, List, [], ◌∷◌, Result, Ok, Err}
use Rattle.texts.specs.Reading.{◌>>=◌}
use Rattle.seq_program.specs.declared.fault.ProgramFault.{ProgramFault}
use Rattle.seq_program.specs.declared.instr.Instr.TheVariants as instr
use Rattle.seq_program.specs.declared.line_word.JumpWord.TheVariants as jump
use Rattle.seq_program.specs.LineOperands.{register_in, counter_in, word_in}
use Rattle.seq_program.specs.MessageLines.{Parsed}
use Rattle.seq_program.specs.WordCounts.{miscounted, jump_count}

-- nothing
abbrev pub if_alert_of : ℕ → ℕ → List (List ℕ) → Parsed
if_alert_of n place [] = Ok (instr.IfAlert place)
if_alert_of n place _ = Err (miscounted n (jump_count jump.IfAlert))

-- `M V`
unfoldable pub bits_of : ℕ → List ℕ → List ℕ → Result (ℕ × ℕ) ProgramFault
bits_of n m v = do
  mask ← word_in n 2 m
  value ← word_in n 3 v
  Ok (mask, value)

-- `rN M V`
unfoldable pub if_of : ℕ → ℕ → List (List ℕ) → Parsed
if_of n place (r ∷ m ∷ v ∷ []) = do
  register ← register_in n 1 r
  bits ← bits_of n m v
  Ok (instr.If register bits.0 bits.1 place)
if_of n place _ = Err (miscounted n (jump_count jump.If))

-- `rN V`
unfoldable pub above_of : ℕ → ℕ → List (List ℕ) → Parsed
above_of n place (r ∷ v ∷ []) = do
  register ← register_in n 1 r
  value ← word_in n 2 v
  Ok (instr.Above register value place)
above_of n place _ = Err (miscounted n (jump_count jump.Above))

-- `cN`
unfoldable pub again_of : ℕ → ℕ → List (List ℕ) → Parsed
again_of n place (c ∷ []) = do
  counter ← counter_in n 1 c
  Ok (instr.Again counter place)
again_of n place _ = Err (miscounted n (jump_count jump.Again))

-- nothing
abbrev pub goto_of : ℕ → ℕ → List (List ℕ) → Parsed
goto_of n place [] = Ok (instr.Goto place)
goto_of n place _ = Err (miscounted n (jump_count jump.Goto))
