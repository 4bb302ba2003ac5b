-- Runs, one step longer.
use Rattle.std.proofs.Common.{◌≡◌, ◌≢◌, ◌≤◌, ◌<◌, ◌+◌, ℕ, zero, suc, List, [], ◌∷◌, ◌++◌, length}
use Rattle.std.proofs.Common.{take, slice_get, slice_index_or, Some, Result, Ok, Err, IfErr, All}
use Rattle.std.proofs.Common.{refl, sym, ap, subst, ◌∙◌, arith}
use Rattle.std.specs.Result.{IsErrAnd}
use Rattle.std.proofs.lemmas.List.Elements.{All-append, All-from_recursion}
use Rattle.smbus.specs.Answered.{Answered}
use Rattle.board.specs.Boards.{Board}
use Rattle.seq_program.specs.declared.instr.Instr.{Instr}
use Rattle.simulator.specs.declared.fault.RunFault.{RunFault}
use Rattle.simulator.specs.declared.fault.RunFault.TheVariants.{Memory}
use Rattle.simulator.specs.Faults.{most_ticks, IsStepFault, RunFails}
use Rattle.simulator.specs.Machines.{Machine, Entry}
use Rattle.simulator.specs.Steps.{IsStep, IsRun, total_ticks}
use Rattle.simulator.specs.Traces.{HasItsFrame}
use Rattle.simulator.proofs.Taken.{take_more}

pub one_more : (b : Board) (p : List Instr) (m mid last : Machine) (answers : List Answered)
    (entries : List Entry) (a : Answered) (e : Entry)
    → IsRun b p m answers entries mid → IsStep b p mid a e last
    → IsRun b p m (answers ++ a ∷ []) (entries ++ e ∷ []) last
one_more b p m mid last [] [] a e run step =
    let first : IsStep b p m a e last = subst (λ (x : Machine). IsStep b p x a e last) run step in
    (last, first, refl)
one_more b p m mid last [] (y ∷ entries) a e run step = absurd run
one_more b p m mid last (x ∷ answers) [] a e run step = absurd run
one_more b p m mid last (x ∷ answers) (y ∷ entries) a e run step =
    (run.0, run.1, one_more b p run.0 mid last answers entries a e run.2 step)

pub ticks_more : (entries : List Entry) (e : Entry)
    → total_ticks (entries ++ e ∷ []) ≡ total_ticks entries + e.ticks
ticks_more [] e = omega arith
ticks_more (x ∷ entries) e =
    let later : total_ticks (entries ++ e ∷ []) ≡ total_ticks entries + e.ticks =
    ticks_more entries e in
    let goal : x.ticks + total_ticks (entries ++ e ∷ [])
    ≡ (x.ticks + total_ticks entries) + e.ticks = omega (arith, later) in
    goal

-- an element that is there
at_index : {X : Type 0} (xs : List X) (i : ℕ) (d : X) → i < length xs
    → slice_get xs i ≡ Some (slice_index_or xs i d)
at_index [] i d lt = absurd (omega (arith, lt))
at_index (x ∷ xs) zero d lt = refl
at_index (x ∷ xs) (suc i) d lt =
    let within : i < length xs = omega (arith, lt) in
    at_index xs i d within

pub fails_here : (b : Board) (p : List Instr) (m reached : Machine) (answers : List Answered)
    (entries : List Entry) (index ticks : ℕ) (a : Answered) (fault : RunFault)
    → IsRun b p m (take index answers) entries reached → ticks ≡ total_ticks entries
    → ticks ≤ most_ticks → index < length answers → a ≡ slice_index_or answers index a
    → IsStepFault b p reached a ticks index fault → RunFails b p m answers fault
fails_here b p m reached answers entries index ticks a fault run sum few lt is why = record {
  index = index;
  entries = entries;
  reached = reached;
  run = run;
  within = subst (λ (n : ℕ). n ≤ most_ticks) sum few;
  answer = a;
  here = at_index answers index a lt ∙ ap (λ (x : Answered). Some x) (sym is);
  why = subst (λ (n : ℕ). IsStepFault b p reached a n index fault) sum why;
}

-- a fault that is passed on
pub passed_on : {T : Type 0} (r : Result T RunFault) (f : RunFault) (P : RunFault → Type 0)
    → IsErrAnd r (λ e. e ≡ f) → (f ≢ Memory → P f) → IfErr r (λ e. e ≢ Memory → P e)
passed_on (Ok t) f P is p = tt
passed_on (Err e) f P is p = λ real. subst P (sym is) (p (λ none. real (is ∙ none)))

pub out_of_memory : {T : Type 0} (r : Result T RunFault) (P : RunFault → Type 0)
    → IsErrAnd r (λ e. e ≡ Memory) → IfErr r (λ e. e ≢ Memory → P e)
out_of_memory (Ok t) P is = tt
out_of_memory (Err e) P is = λ real. absurd (real is)

pub next_run : (b : Board) (p : List Instr) (m mid last : Machine) (answers : List Answered)
    (entries : List Entry) (index : ℕ) (a : Answered) (e : Entry)
    → index < length answers → a ≡ slice_index_or answers index a
    → IsRun b p m (take index answers) entries mid → IsStep b p mid a e last
    → IsRun b p m (take (index + 1) answers) (entries ++ e ∷ []) last
next_run b p m mid last answers entries index a e lt is run step =
    let more : take (index + 1) answers ≡ take index answers ++ a ∷ [] =
    take_more answers index a lt ∙ ap (λ (x : Answered). take index answers ++ x ∷ []) (sym is) in
    rw more (one_more b p m mid last (take index answers) entries a e run step)

pub seen_more : (entries : List Entry) (e : Entry) → All HasItsFrame entries → HasItsFrame e
    → All HasItsFrame (entries ++ e ∷ [])
seen_more entries e all seen =
    All-append HasItsFrame entries (e ∷ []) all (All-from_recursion HasItsFrame (e ∷ []) (seen, tt))

pub sum_more : (entries : List Entry) (e : Entry) (ticks more : ℕ) → ticks ≡ total_ticks entries
    → more ≡ e.ticks → ticks + more ≡ total_ticks (entries ++ e ∷ [])
sum_more entries e ticks more sum same =
    let total : total_ticks (entries ++ e ∷ []) ≡ total_ticks entries + e.ticks =
    ticks_more entries e in
    omega (arith, sum, same, total)

pub still_within : (e : Entry) (ticks more : ℕ) → more ≡ e.ticks → ticks + e.ticks ≤ most_ticks
    → ticks + more ≤ most_ticks
still_within e ticks more same le = omega (arith, same, le)
