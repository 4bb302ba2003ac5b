-- What is known after a step.
use Rattle.std.proofs.Common.{◌≡◌, ◌<◌, ◌∙◌, ◌∷◌, ℕ, Bool, List, [], length, slice_get, Option}
use Rattle.std.proofs.Common.{Some, None, inl, inr, sym, ap, subst, refl}
use Rattle.std.specs.Prelude.{IsTrue, Result, Ok, Err, IfOk, IfSome}
use Rattle.smbus.specs.Asked.{Asked}
use Rattle.smbus.specs.Answered.{Answered}
use Rattle.smbus.specs.Winners.{carried}
use Rattle.board.specs.Boards.{Board}
use Rattle.targets.specs.States.{BusState}
use Rattle.seq_program.specs.declared.instr.Instr.{Instr}
use Rattle.seq_program.specs.Messages.{message_of}
use Rattle.simulator.specs.Machines.{Machine, Entry}
use Rattle.simulator.specs.Reports.{LastReport, IsReportedGood}
use Rattle.simulator.specs.StepDoes.{StepDoes}
use Rattle.simulator.specs.StepLaws.{StepIsSeen}
use Rattle.facts.specs.declared.duties.rule.Rule.{Rule}
use Rattle.facts.specs.declared.duties.rule.Rule.TheVariants.{K1, K2, K3, K4, K5}
use Rattle.facts.specs.duties.Duties.{IsFirstFailing, Meets, MeetsSent, duties}
use Rattle.seq_program.specs.Requests.{Request, request_in}
use Rattle.facts.specs.domain.Rows.{Row}
use Rattle.facts.specs.domain.Sets.{Set, empty}
use Rattle.run_monitor.specs.Known.{Knows}
use Rattle.run_monitor.specs.Telling.{TellsAfter}

pub nothing_known : (b : Board) (s : Set) → s ≡ empty → Knows b [] s
nothing_known b s is = record {
  reported = λ d lt. (λ t. absurd (none d t), λ k. absurd k.last);
  rails = λ d t. absurd (none d t);
}
  where
    none : (d : ℕ) → IsTrue (s d) → ⊥
    none d t = let off = ap (λ (x : Set). x d) is in cc (off, t)

same_instr : (p : List Instr) (place : ℕ) (i j : Instr) → slice_get p place ≡ Some i
    → slice_get p place ≡ Some j → i ≡ j
same_instr p place i j x y = cc (x, y)

pub first_failing : (b : Board) (p : List Instr) (place : ℕ) (i j : Instr) (row known : Row)
    (found : Option Rule) → slice_get p place ≡ Some i → slice_get p place ≡ Some j → row ≡ known
    → IsFirstFailing b row i duties found → IsFirstFailing b known j duties found
first_failing b p place i j row known found x y same k =
    let P : Instr → Type 0 = λ z. IsFirstFailing b known z duties found in
    let Q : Row → Type 0 = λ z. IsFirstFailing b z i duties found in
    subst P (same_instr p place i j x y) (subst Q same k)

-- what the wire carries of the instruction's message does this
does : (b : Board) (p : List Instr) (m next : Machine) (a : Answered) (e : Entry) (i : Instr)
    (message : Option Asked) → StepIsSeen b p m a e next → slice_get p m.place ≡ Some i
    → message ≡ carried (message_of b i m.regs) a → StepDoes b m.bus message a e
does b p m next a e i message seen here is =
    let P : Option Asked → Type 0 = λ x. StepDoes b m.bus x a e in
    let same : i ≡ seen.instr = same_instr p m.place i seen.instr here seen.here in
    subst P (sym (is ∙ ap (λ (x : Instr). carried (message_of b x m.regs) a) same)) seen.does

pub after_step : (b : Board) (p : List Instr) (m next : Machine) (a : Answered) (e : Entry)
    (i : Instr) (message : Option Asked) (history : List Entry) (old new : Set)
    → StepIsSeen b p m a e next → slice_get p m.place ≡ Some i
    → message ≡ carried (message_of b i m.regs) a
    → ((d : ℕ) → d < length b.rails → TellsAfter b m.bus message a d (old d) (new d))
    → ((d : ℕ) → IsTrue (new d) → d < length b.rails)
    → Knows b history old → Knows b (e ∷ history) new
after_step b p m next a e i message history old new seen here is tells rails known = record {
  reported = λ d lt. tells d lt history e (does b p m next a e i message seen here is)
      (known.reported d lt);
  rails = rails;
}

-- a step that carries no message tells nothing
pub quiet_tells : (b : Board) (s : BusState) (a : Answered) (d : ℕ) (good : Bool)
    → TellsAfter b s None a d good good
quiet_tells b s a d good history e quiet known = (to, from)
  where
    to : IsTrue good → IsReportedGood b (e ∷ history) d
    to t = let k = known.0 t in record {
      word = k.word;
      last = inr (
        λ other r. ((quiet.reports d other).0 r).reports,
        λ w. ((quiet.withdraws d).0 w).written,
        k.last,
      );
      good = k.good;
    }

    by : (word : ℕ) → LastReport b (e ∷ history) d word → LastReport b history d word
    by word (inl x) = absurd ((quiet.reports d word).0 x).reports
    by word (inr x) = x.2

    from : IsReportedGood b (e ∷ history) d → IsTrue good
    from k = known.1 (record { word = k.word; last = by k.word k.last; good = k.good })

-- an instruction that sends nothing breaks no rule
pub silent : (b : Board) (row : Row) (i : Instr) → request_in i ≡ None
    → IsFirstFailing b row i duties None
silent b row i nothing =
    let met : (rule : Rule) → Meets b row i rule = λ rule. free rule (request_in i) nothing in
    inl (met K1, inl (met K2, inl (met K3, inl (met K4, inl (met K5, refl)))))
  where
    free : (rule : Rule) (o : Option Request) → o ≡ None → MeetsSent b row o rule
    free rule None is = tt
    free rule (Some s) is = cc is

-- the same of the instruction at a place
pub silent_at : (b : Board) (p : List Instr) (place : ℕ) (i j : Instr) (row : Row)
    → slice_get p place ≡ Some i → slice_get p place ≡ Some j → request_in i ≡ None
    → IsFirstFailing b row j duties None
silent_at b p place i j row x y quiet =
    subst (λ z. IsFirstFailing b row z duties None) (same_instr p place i j x y)
    (silent b row i quiet)

-- ---- what is told of a machine

pub when_running : {F : Type 0} → (r : Result (Option Rule) F) (R : Type 0)
    (Q : Option Rule → Type 0) → IfOk r Q → IfOk r (λ found. R → Q found)
when_running (Ok found) R Q k = λ x. k
when_running (Err e) R Q k = tt

pub is_running : {F : Type 0} → (r : Result (Option Rule) F) (R : Type 0) → R
    → IfOk r (λ found. IfSome found (λ rule. R))
is_running (Ok None) R x = tt
is_running (Ok (Some rule)) R x = x
is_running (Err e) R x = tt
