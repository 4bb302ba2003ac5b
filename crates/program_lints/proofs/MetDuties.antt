-- Duties that are met, from the first that isn't.
use Rattle.std.proofs.Common.{◌≡◌, Option, None, List, [], ◌∷◌, inl, inr}
use Rattle.board.specs.Boards.{Board}
use Rattle.seq_program.specs.declared.instr.Instr.{Instr}
use Rattle.facts.specs.declared.duties.rule.Rule.{Rule}
use Rattle.facts.specs.declared.duties.rule.Rule.TheVariants.{K1}
use Rattle.facts.specs.domain.Rows.{Row}
use Rattle.facts.specs.duties.Duties.{IsFirstFailing, Meets, duties}
use Rattle.program_lints.proofs.Places.{none_some}

pub first_met : (b : Board) (i : Instr) (row : Row) → IsFirstFailing b row i duties None
    → Meets b row i K1
first_met b i row (inl h) = h.0
first_met b i row (inr h) = absurd (none_some K1 h.1)

-- where all are met, none fails
pub none_fails : (b : Board) (i : Instr) (row : Row) (rules : List Rule) (found : Option Rule)
    → ((rule : Rule) → Meets b row i rule) → IsFirstFailing b row i rules found → found ≡ None
none_fails b i row [] found met h = h
none_fails b i row (rule ∷ rules) found met (inl h) = none_fails b i row rules found met h.1
none_fails b i row (rule ∷ rules) found met (inr h) = absurd (h.0 (met rule))
