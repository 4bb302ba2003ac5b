-- A step that doesn't lead to its label: its message is done, and went out whole.
use Rattle.std.proofs.Common.{◌≡◌, ◌≤◌, ◌∙◌, ℕ, Option, Some, None, List, length, ap, sym, subst}
use Rattle.std.proofs.Common.{refl, arith}
use Rattle.std.specs.Prelude.{unwrap_or, IsTrue}
use Rattle.smbus.specs.Asked.{Asked}
use Rattle.smbus.specs.Answered.{Answered}
use Rattle.smbus.specs.Contenders.{Contender}
use Rattle.smbus.specs.FirstSegment.{bytes_before, bytes_to, message_bytes}
use Rattle.smbus.specs.Winners.{winner, unless_won, carried}
use Rattle.board.specs.Boards.{Target, Board}
use Rattle.targets.specs.declared.outcome.Outcome.{Outcome}
use Rattle.targets.specs.declared.outcome.Outcome.TheVariants.{Done, NotAcknowledged, TimedOut}
use Rattle.targets.specs.declared.outcome.Outcome.TheVariants.{Lost}
use Rattle.targets.specs.Outcomes.{IsDone, returned_by, ending_of, cut_of, outcome_of}
use Rattle.targets.specs.Outcomes.{outcome_over}
use Rattle.seq_program.specs.declared.instr.Instr.{Instr}
use Rattle.seq_program.specs.declared.instr.Written.{Written}
use Rattle.seq_program.specs.declared.instr.Written.TheVariants as written
use Rattle.seq_program.specs.Messages.{message_of}
use Rattle.seq_program.specs.Valid.{jump_in}
use Rattle.simulator.specs.Machines.{Machine, Entry}
use Rattle.simulator.specs.Moves.{after_message, moved}
use Rattle.simulator.specs.StepDoes.{GoOut}
use Rattle.simulator.specs.Steps.{IsStepOf}
use Rattle.program_lints.specs.Changes.{is_word}
use Rattle.program_lints.proofs.Writes.{write_message}

-- the message is done, and the wire carries it
pub record IsCarried (m : Asked) (a : Answered) : Type 0 where
  pub done : IsDone m a
  pub kept : carried (Some m) a ≡ Some m

ended : (i : Instr) (m : Machine) (l : ℕ) (o : Outcome) → jump_in i ≡ Some l
    → (Machine.place (after_message i o m) ≡ l → ⊥) → (v : ℕ) × (o ≡ Done v)
ended i m l (Done v) jump away = (v, refl)
ended i m l NotAcknowledged jump away =
    absurd (away (ap (λ (o : Option ℕ). unwrap_or o m.place) jump))
ended i m l TimedOut jump away =
    absurd (away (ap (λ (o : Option ℕ). unwrap_or o m.place) jump))
ended i m l Lost jump away = absurd (away (ap (λ (o : Option ℕ). unwrap_or o m.place) jump))

ended_done : (refuse cut : Option ℕ) (returned v : ℕ) → ending_of refuse cut returned ≡ Done v
    → (refuse ≡ None) × (cut ≡ None)
ended_done refuse (Some slot) returned v e = absurd (cc e)
ended_done (Some n) None returned v e = absurd (cc e)
ended_done None None returned v e = (refl, refl)

carried_done : (m : Asked) (a : Answered) (v : ℕ) → outcome_of (Some m) a ≡ Done v → IsCarried m a
carried_done m a v e = by (winner m a) refl e
  where
    by : (w : Option Contender) → winner m a ≡ w → outcome_over w m a ≡ Done v → IsCarried m a
    by None is e =
        let d = ended_done a.refuse (cut_of m a) (returned_by m.form a.value a.bytes) v e in
        record {
          done = record { accepted = d.0; uncut = d.1 };
          kept = ap (λ (w : Option Contender). unless_won w m) is;
        }
    by (Some c) is e = absurd (cc e)

-- the message of a step that doesn't lead to its label
pub away_is_done : (b : Board) (i : Instr) (sent : Asked) (l : ℕ) (m : Machine) (a : Answered)
    (e : Entry) (next : Machine) → IsStepOf b i (message_of b i m.regs) m a e next
    → message_of b i m.regs ≡ Some sent → jump_in i ≡ Some l → (next.place ≡ l → ⊥)
    → IsCarried sent a
away_is_done b i sent l m a e next step is jump away =
    carried_done sent a (ends.0) ends.1
  where
    goes : next ≡ moved i (Some sent) (outcome_of (Some sent) a) next.bus m
    goes = let P : Option Asked → Type 0 = λ o. next ≡ moved i o (outcome_of o a) next.bus m in
        subst P is step.next_is

    place : next.place ≡ Machine.place (after_message i (outcome_of (Some sent) a) m)
    place = ap (λ (x : Machine). x.place) goes

    ends : (v : ℕ) × (outcome_of (Some sent) a ≡ Done v)
    ends = ended i m l (outcome_of (Some sent) a) jump (λ same. away (place ∙ same))

-- all bytes of a message that is done go out
goes_out : (m : Asked) (a : Answered) (n : ℕ) → IsDone m a → n ≤ length (message_bytes m a)
    → GoOut n m a
goes_out m a n done le =
    let P : Option ℕ → Type 0 =
    λ cut. n ≤ length (bytes_before cut (bytes_to a.refuse (message_bytes m a))) in
    let Q : Option ℕ → Type 0 = λ refuse. n ≤ length (bytes_to refuse (message_bytes m a)) in
    subst P (sym done.uncut) (subst Q (sym done.accepted) le)

pub byte_goes_out : (t : Target) (code value : ℕ) (regs : List ℕ) (a : Answered)
    → IsDone (write_message t code regs (written.Byte value)) a
    → GoOut 3 (write_message t code regs (written.Byte value)) a
byte_goes_out t code value regs a done =
    let all : 3 ≤ 3 = omega arith in
    goes_out (write_message t code regs (written.Byte value)) a 3 done all

pub word_goes_out : (t : Target) (code : ℕ) (value : Written) (regs : List ℕ) (a : Answered)
    → IsTrue (is_word value) → IsDone (write_message t code regs value) a
    → GoOut 4 (write_message t code regs value) a
word_goes_out t code (written.Word value) regs a is done =
    let all : 4 ≤ 4 = omega arith in
    goes_out (write_message t code regs (written.Word value)) a 4 done all
word_goes_out t code (written.Register r) regs a is done =
    let all : 4 ≤ 4 = omega arith in
    goes_out (write_message t code regs (written.Register r)) a 4 done all
word_goes_out t code (written.Byte value) regs a is done = absurd (cc is)
