-- What the lines of a text say, one after another, where its labels are known.
use Rattle.std.specs.Prelude.{ℕ, ◌+◌, List, [], ◌∷◌, ◌++◌, length, nat_lt}
use Rattle.std.specs.Prelude.{Option, Some, None, unwrap_or, Result, Ok, if◌then◌else◌}
use Rattle.texts.specs.Reading.{◌>>=◌, value_if}
use Rattle.board.specs.Boards.{Board}
use Rattle.seq_program.specs.declared.fault.ProgramFault.{ProgramFault}
use Rattle.seq_program.specs.declared.fault.ProgramFault.TheVariants.{SameLabel, TooLong}
use Rattle.seq_program.specs.declared.instr.Instr.{Instr}
use Rattle.seq_program.specs.declared.line.LineInstr.{LineInstr}
use Rattle.seq_program.specs.Labels.{Label, words_on, label_in, is_first}
use Rattle.seq_program.specs.Lines.{instr_of}
use Rattle.seq_program.specs.declared.program.TheConstants.{MOST_PLACES}

-- the instructions so far, and the first line so far whose label stands nowhere
pub record InstrsSoFar : Type 0 where
  pub instrs : List Instr
  pub unknown : Option ℕ

abbrev pub with_instr : ℕ → InstrsSoFar → LineInstr → InstrsSoFar
with_instr n pass found = record {
  instrs = pass.instrs ++ found.instr ∷ [];
  unknown = if found.is_known then pass.unknown else Some (unwrap_or pass.unknown n);
}

-- an instruction more, up to the most that a program has
unfoldable pub after_instr : Board → List Label → ℕ → InstrsSoFar → List ℕ → List (List ℕ)
    → Result InstrsSoFar ProgramFault
after_instr board labels n pass word words = do
  found ← instr_of board labels n word words
  few ← value_if (TooLong n) (nat_lt (length pass.instrs) MOST_PLACES) found
  Ok (with_instr n pass few)

-- a label's line, which must be the first that has the label, or an instruction's
abbrev pub after_named : Board → List Label → ℕ → InstrsSoFar → List ℕ → List (List ℕ)
    → Option (List ℕ) → Result InstrsSoFar ProgramFault
after_named board labels n pass word words None = after_instr board labels n pass word words
after_named board labels n pass word words (Some name) =
    value_if (SameLabel n) (is_first labels n name) pass

abbrev pub after_words : Board → List Label → ℕ → InstrsSoFar → List (List ℕ)
    → Result InstrsSoFar ProgramFault
after_words board labels n pass [] = Ok pass
after_words board labels n pass (word ∷ words) =
    after_named board labels n pass word words (label_in (word ∷ words))

unfoldable pub after_line : Board → List Label → ℕ → InstrsSoFar → List ℕ
    → Result InstrsSoFar ProgramFault
after_line board labels n pass line = after_words board labels n pass (words_on line)

-- the lines from the one with this number on
abbrev pub after_lines : Board → List Label → ℕ → InstrsSoFar → List (List ℕ)
    → Result InstrsSoFar ProgramFault
after_lines board labels n pass [] = Ok pass
after_lines board labels n pass (line ∷ more) = after_line board labels n pass line >>= λ p.
    after_lines board labels (n + 1) p more
