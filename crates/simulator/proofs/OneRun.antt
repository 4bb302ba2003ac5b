-- A run is the only one of its answers.
use Rattle.std.proofs.Common.{◌≡◌, ◌<◌, ◌==◌, ◌↔◌, ℕ, zero, suc, List, [], ◌∷◌, Some, Option}
use Rattle.std.proofs.Common.{IsTrue}
use Rattle.std.proofs.Common.{Bool, length, refl, sym, ap, subst, ◌∙◌, inl, inr, arith}
use Rattle.std.specs.Int.{bit_at}
use Rattle.std.proofs.lemmas.List.{ext_get_or}
use Rattle.std.proofs.lemmas.Nat.Bits.{bit_at-lt, same_from_bits}
use Rattle.smbus.specs.Asked.{Asked}
use Rattle.smbus.specs.Answered.{Answered}
use Rattle.board.specs.Boards.{Target, Board}
use Rattle.targets.specs.States.{BusState, Alerts}
use Rattle.targets.specs.Effects.{Writes, WritesPage, WritesProtect, IsStored, IsAfterStep}
use Rattle.smbus.specs.Winners.{carried}
use Rattle.targets.specs.Outcomes.{outcome_of}
use Rattle.seq_program.specs.declared.instr.Instr.{Instr}
use Rattle.seq_program.specs.Messages.{message_of}
use Rattle.simulator.specs.Machines.{Machine, Entry}
use Rattle.simulator.specs.Moves.{moved}
use Rattle.simulator.specs.Steps.{IsStepOf, IsStep, IsRun}

same_some : {X : Type 0} (x y : X) → Some x ≡ Some y → x ≡ y
same_some x y e = cc

same_only : (v w : ℕ) → v ∷ [] ≡ w ∷ [] → v ≡ w
same_only v w e = cc

-- a message writes one value
one_write : (code : ℕ) (is_value : Target → ℕ → Bool) (b : Board) (s : BusState)
    (m : Option Asked) (a : Answered) (i v w : ℕ) → Writes code is_value b s m a i v
    → Writes code is_value b s m a i w → v ≡ w
one_write code is_value b s m a i v w k l =
    let same : k.asked ≡ l.asked = same_some k.asked l.asked (sym k.sent ∙ l.sent) in
    same_only v w (sym k.is_write.content
    ∙ (ap (λ (x : Asked). x.out) same ∙ l.is_write.content))

one_stored : (W : ℕ → Type 0) (before x y : ℕ) → ((v w : ℕ) → W v → W w → v ≡ w)
    → IsStored W before x → IsStored W before y → x ≡ y
one_stored W before x y one (inl k) (inl l) = one x y k l
one_stored W before x y one (inl k) (inr l) = absurd (l.0 x k)
one_stored W before x y one (inr k) (inl l) = absurd (k.0 y l)
one_stored W before x y one (inr k) (inr l) = k.1 ∙ sym l.1

same_bit : (p q : ℕ) → p < 2 → q < 2 → (IsTrue (p == 1) → IsTrue (q == 1))
    → (IsTrue (q == 1) → IsTrue (p == 1)) → p ≡ q
same_bit zero zero few less to from = refl
same_bit zero (suc zero) few less to from = cc (from refl)
same_bit (suc zero) zero few less to from = cc (to refl)
same_bit (suc zero) (suc zero) few less to from = refl
same_bit (suc (suc p)) q few less to from = absurd (omega (arith, few))
same_bit p (suc (suc q)) few less to from = absurd (omega (arith, less))

same_alerting : (x y : BusState) → ((i : ℕ) → Alerts x i ↔ Alerts y i) → x.alerting ≡ y.alerting
same_alerting x y same =
    same_from_bits x.alerting y.alerting (λ i.
    same_bit (bit_at x.alerting i) (bit_at y.alerting i) (bit_at-lt x.alerting i)
    (bit_at-lt y.alerting i) (same i).0 (same i).1)

abbrev stored : List ℕ → List ℕ → ℕ → ℕ → BusState
stored pages protects alerting lost =
    record { page = pages; protect = protects; alerting = alerting; lost = lost }

same_stored : (pages protects : List ℕ) (alerting lost : ℕ) (y : BusState) → pages ≡ y.page
    → protects ≡ y.protect → alerting ≡ y.alerting → lost ≡ y.lost
    → stored pages protects alerting lost ≡ y
same_stored pages protects alerting lost y is are alert count = rw (is, are, alert, count) refl

same_state : (x y : BusState) → x.page ≡ y.page → x.protect ≡ y.protect
    → x.alerting ≡ y.alerting → x.lost ≡ y.lost → x ≡ y
same_state x y pages protects alerting lost =
    same_stored x.page x.protect x.alerting x.lost y pages protects alerting lost

one_after : (b : Board) (s : BusState) (m : Option Asked) (a : Answered) (x y : BusState)
    → IsAfterStep b s m a x → IsAfterStep b s m a y → x ≡ y
one_after b s o a x y after same =
    let m = carried o a in
    let k = after.targets in
    let l = same.targets in
    let few = k.pages in
    let fewer = k.protects in
    same_state x y
    (ext_get_or 0 x.page y.page (k.pages ∙ sym l.pages) (λ i lt.
    let within : i < length s.page = omega (arith, lt, few) in
    one_stored (WritesPage b s m a i) _ _ _ (one_write _ _ b s m a i) (k.page i within)
    (l.page i within)))
    (ext_get_or 0 x.protect y.protect (k.protects ∙ sym l.protects) (λ i lt.
    let within : i < length s.protect = omega (arith, lt, fewer) in
    one_stored (WritesProtect b s m a i) _ _ _ (one_write _ _ b s m a i) (k.protect i within)
    (l.protect i within)))
    (same_alerting x y (λ i. (
      (λ up. (l.alerting i).1 ((k.alerting i).0 up)),
      (λ up. (k.alerting i).1 ((l.alerting i).0 up)),
    )))
    (after.lost ∙ sym same.lost)

one_step_of : (b : Board) (i : Instr) (message : Option Asked) (m : Machine) (a : Answered)
    (e f : Entry) (x y : Machine) → IsStepOf b i message m a e x → IsStepOf b i message m a f y
    → (e ≡ f) × (x ≡ y)
one_step_of b i message m a e f x y k l =
    let same : x.bus ≡ y.bus = one_after b m.bus message a x.bus y.bus k.bus l.bus in (
      k.entry_is ∙ sym l.entry_is,
      k.next_is ∙ (ap (λ (s : BusState). moved i message (outcome_of message a) s m) same
          ∙ sym l.next_is),
    )

pub one_step : (b : Board) (p : List Instr) (m : Machine) (a : Answered) (e f : Entry)
    (x y : Machine) → IsStep b p m a e x → IsStep b p m a f y → (e ≡ f) × (x ≡ y)
one_step b p m a e f x y k l =
    let same : k.instr ≡ l.instr = same_some k.instr l.instr (sym k.here ∙ l.here) in
    let P : Instr → Type 0 = λ i. IsStepOf b i (message_of b i m.regs) m a e x in
    one_step_of b l.instr (message_of b l.instr m.regs) m a e f x y (subst P same k.step) l.step

pub one_run : (b : Board) (p : List Instr) (m : Machine) (answers : List Answered)
    (entries others : List Entry) (x y : Machine) → IsRun b p m answers entries x
    → IsRun b p m answers others y → (entries ≡ others) × (x ≡ y)
one_run b p m [] [] [] x y k l = (refl, k ∙ sym l)
one_run b p m [] [] (f ∷ others) x y k l = absurd l
one_run b p m [] (e ∷ entries) others x y k l = absurd k
one_run b p m (a ∷ answers) [] others x y k l = absurd k
one_run b p m (a ∷ answers) (e ∷ entries) [] x y k l = absurd l
one_run b p m (a ∷ answers) (e ∷ entries) (f ∷ others) x y k l =
    let first = one_step b p m a e f k.0 l.0 k.1 l.1 in
    let Q : Machine → Type 0 = λ n. IsRun b p n answers entries x in
    let later = one_run b p l.0 answers entries others x y (subst Q first.1 k.2) l.2 in
    (both_same e f entries others first.0 later.0, later.1)
  where
    both_same : (e f : Entry) (entries others : List Entry) → e ≡ f → entries ≡ others
        → e ∷ entries ≡ f ∷ others
    both_same e f entries others one all = cc
