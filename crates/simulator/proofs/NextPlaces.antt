-- A program that hasn't ended goes on at a place of its own.
use Rattle.std.proofs.Common.{◌≡◌, ◌<◌, ◌+◌, ◌-◌, inl, inr, ℕ, zero, suc, Bool, true, false}
use Rattle.std.proofs.Common.{if◌then◌else◌, Option, Some, None, List, [], ◌∷◌, length, slice_get}
use Rattle.std.proofs.Common.{unwrap_or, IfSome, IsTrue, All, refl, sym, ap, subst, ◌∙◌, arith}
use Rattle.std.specs.List.{AllByRecursion}
use Rattle.std.proofs.lemmas.Bool.{cases_lt}
use Rattle.std.proofs.lemmas.Option.{slice_get_within}
use Rattle.std.proofs.lemmas.List.Elements.{recursion_from_All}
use Rattle.smbus.specs.Asked.{Asked}
use Rattle.smbus.specs.Answered.{Answered}
use Rattle.board.specs.Boards.{Board}
use Rattle.targets.specs.declared.outcome.Outcome.{Outcome}
use Rattle.targets.specs.declared.outcome.Outcome.TheVariants.{Done, NotAcknowledged, TimedOut}
use Rattle.targets.specs.declared.outcome.Outcome.TheVariants.{Lost}
use Rattle.targets.specs.Outcomes.{outcome_of}
use Rattle.targets.specs.States.{BusState}
use Rattle.seq_program.specs.declared.instr.Instr.{Instr}
use Rattle.seq_program.specs.declared.instr.Instr.TheVariants as instr
use Rattle.seq_program.specs.Messages.{message_of}
use Rattle.seq_program.specs.Programs.{is_end}
use Rattle.seq_program.specs.Valid.{IsInstr, IsProgram, jump_in}
use Rattle.simulator.specs.Faults.{most_ticks}
use Rattle.simulator.specs.Machines.{Machine, Entry}
use Rattle.simulator.specs.Steps.{IsStepOf}
use Rattle.simulator.specs.Moves.{moved, silently, after_message}

got : {X : Type 0} (P : X → Type 0) (xs : List X) (i : ℕ) → AllByRecursion P xs
    → IfSome (slice_get xs i) P
got P [] i all = tt
got P (x ∷ xs) zero all = all.0
got P (x ∷ xs) (suc i) all = got P xs i all.1

-- what holds of each element holds of the one that is there
pub at_place : {X : Type 0} (P : X → Type 0) (xs : List X) (i : ℕ) (x : X) → All P xs
    → slice_get xs i ≡ Some x → P x
at_place P xs i x all e = subst (λ o. IfSome o P) e (got P xs i (recursion_from_All P xs all))

pub is_instr : (p : List Instr) (place : ℕ) (i : Instr) → IsProgram p
    → slice_get p place ≡ Some i → IsInstr i
is_instr p place i is e = at_place (λ i. IsInstr i) p place i is.each e

sends_on : (b : Board) (i : Instr) (regs : List ℕ) (m : Asked) → message_of b i regs ≡ Some m
    → is_end i ≡ false
sends_on b (instr.Quick t r l) regs m e = refl
sends_on b (instr.Send t c l) regs m e = refl
sends_on b (instr.Receive t r l) regs m e = refl
sends_on b (instr.Write t c v l) regs m e = refl
sends_on b (instr.Read t c w r l) regs m e = refl
sends_on b (instr.Call t c v r l) regs m e = refl
sends_on b (instr.BlockWrite t c bytes l) regs m e = refl
sends_on b (instr.BlockRead t c r l) regs m e = refl
sends_on b (instr.BlockCall t c bytes r l) regs m e = refl
sends_on b (instr.Alert r l) regs m e = refl
sends_on b (instr.IfAlert l) regs m e = refl
sends_on b (instr.Set r v) regs m e = refl
sends_on b (instr.Add r v) regs m e = refl
sends_on b (instr.If r k v l) regs m e = refl
sends_on b (instr.Above r v l) regs m e = refl
sends_on b (instr.Count c v) regs m e = refl
sends_on b (instr.Again c l) regs m e = refl
sends_on b (instr.Wait n) regs m e = refl
sends_on b (instr.Goto l) regs m e = refl
sends_on b instr.End regs m e = cc
sends_on b instr.Fail regs m e = cc

-- only the last instruction has no place after it
next_place : (p : List Instr) (place : ℕ) (i : Instr) → IsProgram p
    → slice_get p place ≡ Some i → is_end i ≡ false → place + 1 < length p
next_place p place i is here goes =
    elim (cases_lt (place + 1) (length p)) [
      | inl lt ↦ lt
      | inr le ↦
          let within : place < length p = slice_get_within p place i here in
          let last : length p - 1 ≡ place = omega (arith, within, le) in
          let ends : IfSome (slice_get p (length p - 1)) (λ i. IsTrue (is_end i)) = is.last in
          let same : slice_get p (length p - 1) ≡ Some i =
          ap (λ (n : ℕ). slice_get p n) last ∙ here in
          let bad : IsTrue (is_end i) =
          subst (λ (o : Option Instr). IfSome o (λ i. IsTrue (is_end i))) same ends in
          let no : true ≡ false = sym bad ∙ goes in
          cc
    ]

jump_lands : (p : List Instr) (place : ℕ) (i : Instr) → IsProgram p
    → slice_get p place ≡ Some i → IfSome (jump_in i) (λ to. to < length p)
jump_lands p place i is here =
    at_place (λ i. IfSome (jump_in i) (λ to. to < length p)) p place i is.jumps here

-- the jump or the next place
one_of : (jumps : Bool) (to next n : ℕ) → to < n → next < n → (if jumps then to else next) < n
one_of true to next n t m = t
one_of false to next n t m = m

jump_or_stay : (o : Option ℕ) (place n : ℕ) → IfSome o (λ to. to < n) → place < n
    → unwrap_or o place < n
jump_or_stay None place n j s = s
jump_or_stay (Some to) place n j s = j

silent_place : (p : List Instr) (i : Instr) (m : Machine) → IsProgram p
    → slice_get p m.place ≡ Some i → (silently i m).place < length p
silent_place p (instr.Quick t r l) m is here = slice_get_within p m.place (instr.Quick t r l) here
silent_place p (instr.Send t c l) m is here = slice_get_within p m.place (instr.Send t c l) here
silent_place p (instr.Receive t r l) m is here =
    slice_get_within p m.place (instr.Receive t r l) here
silent_place p (instr.Write t c v l) m is here =
    slice_get_within p m.place (instr.Write t c v l) here
silent_place p (instr.Read t c w r l) m is here =
    slice_get_within p m.place (instr.Read t c w r l) here
silent_place p (instr.Call t c v r l) m is here =
    slice_get_within p m.place (instr.Call t c v r l) here
silent_place p (instr.BlockWrite t c bytes l) m is here =
    slice_get_within p m.place (instr.BlockWrite t c bytes l) here
silent_place p (instr.BlockRead t c r l) m is here =
    slice_get_within p m.place (instr.BlockRead t c r l) here
silent_place p (instr.BlockCall t c bytes r l) m is here =
    slice_get_within p m.place (instr.BlockCall t c bytes r l) here
silent_place p (instr.Alert r l) m is here = slice_get_within p m.place (instr.Alert r l) here
silent_place p (instr.IfAlert l) m is here =
    one_of _ l (m.place + 1) (length p) (jump_lands p m.place (instr.IfAlert l) is here)
    (next_place p m.place (instr.IfAlert l) is here refl)
silent_place p (instr.Set r v) m is here = next_place p m.place (instr.Set r v) is here refl
silent_place p (instr.Add r v) m is here = next_place p m.place (instr.Add r v) is here refl
silent_place p (instr.If r k v l) m is here =
    one_of _ l (m.place + 1) (length p) (jump_lands p m.place (instr.If r k v l) is here)
    (next_place p m.place (instr.If r k v l) is here refl)
silent_place p (instr.Above r v l) m is here =
    one_of _ l (m.place + 1) (length p) (jump_lands p m.place (instr.Above r v l) is here)
    (next_place p m.place (instr.Above r v l) is here refl)
silent_place p (instr.Count c v) m is here = next_place p m.place (instr.Count c v) is here refl
silent_place p (instr.Again c l) m is here =
    one_of _ l (m.place + 1) (length p) (jump_lands p m.place (instr.Again c l) is here)
    (next_place p m.place (instr.Again c l) is here refl)
silent_place p (instr.Wait n) m is here = next_place p m.place (instr.Wait n) is here refl
silent_place p (instr.Goto l) m is here = jump_lands p m.place (instr.Goto l) is here
silent_place p instr.End m is here = slice_get_within p m.place instr.End here
silent_place p instr.Fail m is here = slice_get_within p m.place instr.Fail here

message_place : (p : List Instr) (i : Instr) (outcome : Outcome) (m : Machine) → IsProgram p
    → slice_get p m.place ≡ Some i → is_end i ≡ false → (after_message i outcome m).place < length p
message_place p i (Done v) m is here goes = next_place p m.place i is here goes
message_place p i NotAcknowledged m is here goes =
    jump_or_stay (jump_in i) m.place (length p) (jump_lands p m.place i is here)
    (slice_get_within p m.place i here)
message_place p i TimedOut m is here goes =
    jump_or_stay (jump_in i) m.place (length p) (jump_lands p m.place i is here)
    (slice_get_within p m.place i here)
message_place p i Lost m is here goes =
    jump_or_stay (jump_in i) m.place (length p) (jump_lands p m.place i is here)
    (slice_get_within p m.place i here)

pub moved_place : (b : Board) (p : List Instr) (i : Instr) (o : Option Asked)
    (outcome : Outcome) (new : BusState) (m : Machine)
    → IsProgram p → slice_get p m.place ≡ Some i → o ≡ message_of b i m.regs
    → (moved i o outcome new m).place < length p
moved_place b p i None outcome new m is here e = silent_place p i m is here
moved_place b p i (Some asked) outcome new m is here e =
    message_place p i outcome m is here (sends_on b i m.regs asked (sym e))

pub stepped_place : (b : Board) (p : List Instr) (i : Instr) (o : Option Asked) (m : Machine)
    (a : Answered) (e : Entry) (next : Machine)
    → IsProgram p → slice_get p m.place ≡ Some i → o ≡ message_of b i m.regs
    → IsStepOf b i o m a e next → next.place < length p
stepped_place b p i o m a e next is here asked step =
    let place : next.place ≡ (moved i o (outcome_of o a) next.bus m).place =
    ap (λ (x : Machine). x.place) step.next_is in
    rw place (moved_place b p i o (outcome_of o a) next.bus m is here asked)

-- more samples than are left
pub past : (before ticks same : ℕ) → most_ticks - before < ticks → ticks ≡ same
    → most_ticks < before + same
past before ticks same lt e = omega (arith, lt, e)
