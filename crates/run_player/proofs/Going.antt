-- A run that is played step by step.
use Rattle.std.proofs.Common.{◌≡◌, ◌≤◌, ◌<◌, ◌+◌, ℕ, List, [], ◌∷◌, ◌++◌, length, take, All}
use Rattle.std.proofs.Common.{Some, slice_get, ap, refl, subst, sym, arith, length-append}
use Rattle.std.proofs.lemmas.List.{take_all}
use Rattle.std.proofs.lemmas.List.Elements.{All-append, All-from_recursion}
use Rattle.board.specs.Boards.{Board}
use Rattle.bundles.specs.AnswerTexts.{CanBeSaid}
use Rattle.seq_program.specs.declared.instr.Instr.{Instr}
use Rattle.smbus.specs.Answered.{Answered}
use Rattle.targets.specs.States.{BusState}
use Rattle.simulator.specs.Faults.{most_ticks}
use Rattle.simulator.specs.Machines.{Machine, Entry, IsMachine, start_at}
use Rattle.simulator.specs.RunLaws.{RunsGoOn, TicksAddUp}
use Rattle.simulator.specs.Steps.{IsRun, IsStep, total_ticks}
use Rattle.simulator.specs.Traces.{HasItsFrame}
use Rattle.run_player.specs.PlayedSteps.{IsPlayedStep}
use Rattle.run_player.specs.Plays.{IsPlayedFrom}
use Rattle.run_player.specs.declared.playing.TheConstants.{MOST_STEPS}

-- the answers so far have a step each from the start, which together take so many ticks
pub record IsSoFar (b : Board) (p : List Instr) (s : BusState) (answers : List Answered)
    (ticks : ℕ) (m : Machine) : Type 0 where
  pub entries : List Entry
  pub run : IsRun b p (start_at s) answers entries m
  pub machine : IsMachine b p m
  pub seen : All HasItsFrame entries
  pub sum : ticks ≡ total_ticks entries
  pub within : ticks ≤ most_ticks
  pub said : All CanBeSaid answers
  pub few : length answers ≤ MOST_STEPS

pub so_far_none : (b : Board) (p : List Instr) (s : BusState) (m : Machine) → m ≡ start_at s
    → IsMachine b p m → IsSoFar b p s [] 0 m
so_far_none b p s m is machine = record {
  entries = [];
  run = is;
  machine = machine;
  seen = All-from_recursion HasItsFrame [] tt;
  sum = refl;
  within = omega arith;
  said = All-from_recursion CanBeSaid [] tt;
  few = omega arith;
}

-- ---- a list with an element more

front_is : {X : Type 0} (xs : List X) (x : X) → take (length xs) (xs ++ x ∷ []) ≡ xs
front_is [] x = refl
front_is (y ∷ xs) x = ap (λ (l : List _). y ∷ l) (front_is xs x)

last_is : {X : Type 0} (xs : List X) (x : X) → slice_get (xs ++ x ∷ []) (length xs) ≡ Some x
last_is [] x = refl
last_is (y ∷ xs) x = last_is xs x

whole_is : {X : Type 0} (xs : List X) (x : X)
    → take (length xs + 1) (xs ++ x ∷ []) ≡ xs ++ x ∷ []
whole_is xs x =
    take_all (length xs + 1) (xs ++ x ∷ []) (omega (arith, length-append xs (x ∷ [])))

-- ---- an answer more

one_more : RunsGoOn → (b : Board) (p : List Instr) (m mid last : Machine)
    (answers : List Answered) (entries : List Entry) (a : Answered) (e : Entry)
    → IsRun b p m answers entries mid → IsStep b p mid a e last
    → IsRun b p m (answers ++ a ∷ []) (entries ++ e ∷ []) last
one_more go b p m mid last answers entries a e run step =
    let front = subst (λ (l : List Answered). IsRun b p m l entries mid)
    (sym (front_is answers a)) run in
    subst (λ (l : List Answered). IsRun b p m l (entries ++ e ∷ []) last) (whole_is answers a)
    (go b p m mid last (answers ++ a ∷ []) entries (length answers) a e (last_is answers a) front
    step)

seen_more : (entries : List Entry) (e : Entry) → All HasItsFrame entries → HasItsFrame e
    → All HasItsFrame (entries ++ e ∷ [])
seen_more entries e all seen =
    All-append HasItsFrame entries (e ∷ []) all (All-from_recursion HasItsFrame (e ∷ []) (seen, tt))

sum_more : TicksAddUp → (entries : List Entry) (e : Entry) (ticks : ℕ)
    → ticks ≡ total_ticks entries → ticks + e.ticks ≡ total_ticks (entries ++ e ∷ [])
sum_more add entries e ticks sum = omega (arith, sum, add entries e)

said_more : (answers : List Answered) (a : Answered) → All CanBeSaid answers → CanBeSaid a
    → All CanBeSaid (answers ++ a ∷ [])
said_more answers a all said =
    All-append CanBeSaid answers (a ∷ []) all (All-from_recursion CanBeSaid (a ∷ []) (said, tt))

one_longer : (answers : List Answered) (a : Answered) → length answers < MOST_STEPS
    → length (answers ++ a ∷ []) ≤ MOST_STEPS
one_longer answers a lt = omega (arith, length-append answers (a ∷ []))

pub so_far_more : RunsGoOn → TicksAddUp → (b : Board) (p : List Instr) (s : BusState)
    (answers : List Answered) (ticks : ℕ) (m next : Machine) (a : Answered) (e : Entry)
    → IsSoFar b p s answers ticks m → length answers < MOST_STEPS
    → IsPlayedStep b p ticks m a e next
    → IsSoFar b p s (answers ++ a ∷ []) (ticks + e.ticks) next
so_far_more go add b p s answers ticks m next a e h lt n = record {
  entries = h.entries ++ e ∷ [];
  run = one_more go b p (start_at s) m next answers h.entries a e h.run n.step;
  machine = n.machine;
  seen = seen_more h.entries e h.seen n.seen;
  sum = sum_more add h.entries e ticks h.sum;
  within = n.within;
  said = said_more answers a h.said n.said;
  few = one_longer answers a lt;
}

-- the play ends here
pub so_far_ends : (b : Board) (p : List Instr) (s : BusState) (answers : List Answered)
    (ticks : ℕ) (m : Machine) → IsSoFar b p s answers ticks m
    → IsPlayedFrom b p s answers m.ended
so_far_ends b p s answers ticks m h = record {
  trace = record { entries = h.entries; last = m };
  is_trace = record {
    entries = h.seen;
    within = subst (λ (n : ℕ). n ≤ most_ticks) h.sum h.within;
  };
  run = h.run;
  end = refl;
  said = h.said;
  few = h.few;
}
