-- Lines are read one after another.
use Rattle.std.proofs.Common.{◌≡◌, ◌∙◌, ℕ, suc, ◌+◌, List, [], ◌∷◌, ◌++◌, length, Result, Ok, Err}
use Rattle.std.proofs.Common.{refl, sym, ap, arith, codes, None}
use Rattle.texts.specs.Reading.{◌>>=◌}
use Rattle.board.specs.Boards.{Board}
use Rattle.seq_program.specs.declared.fault.ProgramFault.{ProgramFault}
use Rattle.seq_program.specs.Labels.{Label}
use Rattle.seq_program.specs.Passes.{InstrsSoFar, after_instr, after_line, after_lines}
use Rattle.seq_program.specs.Lines.{instr_of}
use Rattle.seq_program.specs.Programs.{no_pass}
use Rattle.seq_program.specs.LineOrder.{LinesInOrder, IsFirstFault, FirstFaultIsTold}
use Rattle.seq_program.specs.LineOrder.{SomeLineFails}
use Rattle.seq_program.specs.declared.instr.Instr.TheVariants as instr

kept : (r : Result InstrsSoFar ProgramFault) → (r >>= λ s. Ok s) ≡ r
kept (Ok s) = refl
kept (Err e) = refl

bound : (r : Result InstrsSoFar ProgramFault)
    (f g : InstrsSoFar → Result InstrsSoFar ProgramFault) → ((s : InstrsSoFar) → f s ≡ g s)
    → (r >>= f) ≡ (r >>= g)
bound (Ok s) f g e = e s
bound (Err d) f g e = refl

in_turn : (r : Result InstrsSoFar ProgramFault)
    (f g : InstrsSoFar → Result InstrsSoFar ProgramFault)
    → ((r >>= f) >>= g) ≡ (r >>= λ s. f s >>= g)
in_turn (Ok s) f g = refl
in_turn (Err d) f g = refl

-- lines after others are read after them
pub joined : (board : Board) (labels : List Label) (n : ℕ) (s : InstrsSoFar)
    (before later : List (List ℕ))
    → after_lines board labels n s (before ++ later)
    ≡ (after_lines board labels n s before >>=
    λ t. after_lines board labels (n + length before) t later)
joined board labels n s [] later =
    let m : n + 0 ≡ n = omega arith in
    rw m refl
joined board labels n s (line ∷ before) later =
    let m : n + suc (length before) ≡ n + 1 + length before = omega arith in
    rw m
    (bound (after_line board labels n s line) _ _
    (λ t. joined board labels (n + 1) t before later)
    ∙ sym (in_turn (after_line board labels n s line) _ _))

pub lines_in_order : LinesInOrder
lines_in_order board labels before line =
    joined board labels 1 no_pass before (line ∷ [])
    ∙ bound (after_lines board labels 1 no_pass before) _ _
    (λ t. kept (after_line board labels (1 + length before) t line))

-- the first fault from the line numbered n on, after what was read before it
record Stops (board : Board) (labels : List Label) (n : ℕ) (s : InstrsSoFar)
    (lines : List (List ℕ)) (fault : ProgramFault) : Type 0 where
  before : List (List ℕ)
  line : List ℕ
  later : List (List ℕ)
  parts : lines ≡ before ++ line ∷ later
  so_far : InstrsSoFar
  reads : after_lines board labels n s before ≡ Ok so_far
  fails : after_line board labels (n + length before) so_far line ≡ Err fault

stops_at : (board : Board) (labels : List Label) (n : ℕ) (s : InstrsSoFar) (line : List ℕ)
    (later : List (List ℕ)) (fault : ProgramFault) (r : Result InstrsSoFar ProgramFault)
    → after_line board labels n s line ≡ r
    → ((t : InstrsSoFar) → after_lines board labels (n + 1) t later ≡ Err fault
    → Stops board labels (n + 1) t later fault)
    → (r >>= λ t. after_lines board labels (n + 1) t later) ≡ Err fault
    → Stops board labels n s (line ∷ later) fault
stops_at board labels n s line later fault (Ok t) e rest f =
    let u = rest t f in
    let m : n + suc (length u.before) ≡ n + 1 + length u.before = omega arith in
    record {
      before = line ∷ u.before;
      line = u.line;
      later = u.later;
      parts = ap (λ ls. line ∷ ls) u.parts;
      so_far = u.so_far;
      reads = rw e u.reads;
      fails = rw m u.fails;
    }
stops_at board labels n s line later fault (Err d) e rest f =
    let m : n + 0 ≡ n = omega arith in
    record {
      before = [];
      line = line;
      later = later;
      parts = refl;
      so_far = s;
      reads = refl;
      fails = rw m (e ∙ f);
    }

stops : (board : Board) (labels : List Label) (n : ℕ) (s : InstrsSoFar) (lines : List (List ℕ))
    (fault : ProgramFault) → after_lines board labels n s lines ≡ Err fault
    → Stops board labels n s lines fault
stops board labels n s [] fault e = absurd cc
stops board labels n s (line ∷ later) fault e =
    stops_at board labels n s line later fault (after_line board labels n s line) refl
    (λ t. stops board labels (n + 1) t later fault) e

told : (board : Board) (labels : List Label) (lines : List (List ℕ)) (fault : ProgramFault)
    → IsFirstFault board labels lines fault → after_lines board labels 1 no_pass lines ≡ Err fault
told board labels lines fault h =
    rw (h.parts, joined board labels 1 no_pass h.before (h.line ∷ h.later), h.reads, h.fails) refl

pub first_fault_is_told : FirstFaultIsTold
first_fault_is_told board labels lines fault = (
  λ e.
      let s = stops board labels 1 no_pass lines fault e in
      record {
        before = s.before;
        line = s.line;
        later = s.later;
        parts = s.parts;
        so_far = s.so_far;
        reads = s.reads;
        fails = s.fails;
      },
  told board labels lines fault,
)

pub some_line_fails : SomeLineFails
unfolding after_line after_instr instr_of
some_line_fails board = record {
  before = codes "end" ∷ [];
  line = codes "x";
  later = [];
  parts = refl;
  so_far = record { instrs = instr.End ∷ []; unknown = None };
  reads = refl;
  fails = refl;
}
