-- Control goes on just where reading does.
use Rattle.std.proofs.Common.{◌≡◌, ℕ, ◌+◌, ◌<◌, ◌≤◌, ◌==◌, ltb, inl, inr, Bool, true, false, not}
use Rattle.std.proofs.Common.{Option}
use Rattle.std.proofs.Common.{Some, None, suc, List, [], ◌∷◌, ◌++◌, length, option_map}
use Rattle.std.proofs.Common.{refl, sym, ap, ◌∙◌, arith, take, get_or, rules}
use Rattle.std.proofs.lemmas.Bool.{cases_Bool, eqb-true, eqb-false, ne_eqb}
use Rattle.std.proofs.lemmas.List.{length_push, take_more}
use Rattle.wires.specs.declared.event.Event.{Event}
use Rattle.wires.specs.declared.event.Event.TheVariants.{Start, Stop, Rise}
use Rattle.smbus.specs.Shown.{Shown}
use Rattle.smbus.specs.Frames.{Begins}
use Rattle.smbus.specs.Machine.{State, risen, is_again, ends_low, step, start, run, then_run}
use Rattle.smbus.specs.Control.{control_step, control_after, then_control}
use Rattle.smbus.specs.declared.control.Control.{Control}
use Rattle.smbus.specs.declared.control.Control.TheVariants.{Free, Begun, Bits}
use Rattle.smbus.proofs.StatesOfEvents.{Segments, state, Sound, step_keeps, ends_low-push}
use Rattle.smbus.proofs.EventByEvent.{begins_read, none_begin, sound_start}

abbrev pub control_of_bits : List Bool → Control
control_of_bits [] = Begun
control_of_bits (b ∷ bits) = Bits (length (b ∷ bits)) (not (ends_low (b ∷ bits)))

abbrev pub control_of_open : Bool → List Bool → Control
control_of_open false bits = Free
control_of_open true bits = control_of_bits bits

abbrev pub control_of : State → Control
control_of s = control_of_open s.is_open s.bits

not-not : (b : Bool) → not (not b) ≡ b
not-not true = refl
not-not false = refl

bits-push : (bits : List Bool) (b : Bool) (n : ℕ) → length bits + 1 ≡ n
    → control_of_bits (bits ++ b ∷ []) ≡ Bits n b
bits-push [] b n e =
    ap (λ (m : ℕ). Bits m (not (not b))) e ∙ ap (λ (x : Bool). Bits n x) (not-not b)
bits-push (c ∷ bits) b n e =
    ap (λ (m : ℕ). Bits m (not (ends_low (c ∷ bits ++ b ∷ [])))) (length_push (c ∷ bits) b ∙ e)
    ∙ ap (λ (x : Bool). Bits n (not x)) (ends_low-push (c ∷ bits) b)
    ∙ ap (λ (x : Bool). Bits n x) (not-not b)

then_control-append : (a b : List Event)
    → ((c : Control)
    → control_after (a ++ b) c ≡ then_control (control_after b) (control_after a c))
    → (o : Option Control) → then_control (control_after (a ++ b)) o
    ≡ then_control (control_after b) (then_control (control_after a) o)
then_control-append a b h None = refl
then_control-append a b h (Some c) = h c

pub control-append : (a b : List Event) (c : Control)
    → control_after (a ++ b) c ≡ then_control (control_after b) (control_after a c)
control-append [] b c = refl
control-append (e ∷ a) b c = then_control-append a b (control-append a b) (control_step c e)

then-one : (o : Option Control) → then_control (control_after []) o ≡ o
then-one None = refl
then-one (Some c) = refl

pub control-more : (es : List Event) (place : ℕ) (first c : Control) (d : Event)
    → place < length es → control_after (take place es) first ≡ Some c
    → control_after (take (place + 1) es) first ≡ control_step c (get_or es place d)
control-more es place first c d lt so_far =
    ap (λ (l : List Event). control_after l first) (take_more es place d lt)
    ∙ control-append (take place es) (get_or es place d ∷ []) first
    ∙ ap (then_control (control_after (get_or es place d ∷ []))) so_far
    ∙ then-one (control_step c (get_or es place d))

some_in : (c d : Control) → Some c ≡ Some d → c ≡ d
some_in c d e = cc

pub not_none : (o : Option Control) (c : Control) → o ≡ Some c → o ≡ None → ⊥
not_none o c e f = cc

-- one step

ltb-yes : (n m : ℕ) → n < m → ltb n m ≡ true
ltb-yes n m lt = search rules

rise-open : (frames : List Shown) (segments : Segments) (bytes : List (ℕ × Bool))
    (bits : List Bool) (b : Bool) → length bits ≤ 9
    → control_step (control_of_bits bits) (Rise b)
    ≡ Some (control_of (risen b (state frames true segments bytes bits)))
rise-open frames segments bytes [] b few =
    ap (λ (x : Bool). Some (Bits 1 x)) (sym (not-not b))
rise-open frames segments bytes (c ∷ bits) b few = elim (cases_Bool (length (c ∷ bits) == 9)) [
  | inl t ↦
      let n : length (c ∷ bits) ≡ 9 = eqb-true _ _ t in
      let f : ltb (length (c ∷ bits)) 9 ≡ false = rw n refl in
      rw (f, t) (ap (λ (x : Bool). Some (Bits 1 x)) (sym (not-not b)))
  | inr f ↦
      let ne : length (c ∷ bits) ≡ 9 → ⊥ = eqb-false _ _ f in
      let t : ltb (length (c ∷ bits)) 9 ≡ true = ltb-yes _ _ (omega arith) in
      rw (t, f) (ap Some (sym (bits-push (c ∷ bits) b _ refl)))
]

again-open : (bits : List Bool) → is_again bits ≡ true
    → control_step (control_of_bits bits) Start ≡ Some Begun
again-open [] e = cc
again-open (true ∷ []) e = refl
again-open (false ∷ []) e = cc
again-open (b ∷ c ∷ bits) e = cc

no_again : (k : ℕ) (x : Bool) → control_step (Bits (suc (suc k)) x) Start ≡ None
no_again k true =
    let ne : suc (suc k) ≡ 1 → ⊥ = λ e. omega arith in
    let f : (suc (suc k) == 1) ≡ false = ne_eqb _ _ ne in
    rw f refl
no_again k false = refl

not_again-open : (bits : List Bool) → is_again bits ≡ false
    → control_step (control_of_bits bits) Start ≡ None
not_again-open [] e = refl
not_again-open (true ∷ []) e = cc
not_again-open (false ∷ []) e = refl
not_again-open (b ∷ c ∷ bits) e = no_again (length bits) (not (ends_low (b ∷ c ∷ bits)))

stop-open : (bits : List Bool) → ends_low bits ≡ true
    → control_step (control_of_bits bits) Stop ≡ Some Free
stop-open [] e = cc
stop-open (b ∷ bits) e = rw e refl

no_stop-open : (bits : List Bool) → ends_low bits ≡ false
    → control_step (control_of_bits bits) Stop ≡ None
no_stop-open [] e = refl
no_stop-open (b ∷ bits) e = rw e refl

step-open : (frames : List Shown) (segments : Segments) (bytes : List (ℕ × Bool))
    (bits : List Bool) (e : Event) → length bits ≤ 9
    → control_step (control_of_bits bits) e
    ≡ option_map control_of (step (state frames true segments bytes bits) e)
step-open frames segments bytes bits (Rise b) few = rise-open frames segments bytes bits b few
step-open frames segments bytes bits Start few = elim (cases_Bool (is_again bits)) [
  | inl a ↦ rw a (again-open bits a)
  | inr f ↦ rw f (not_again-open bits f)
]
step-open frames segments bytes bits Stop few = elim (cases_Bool (ends_low bits)) [
  | inl a ↦ rw a (stop-open bits a)
  | inr f ↦ rw f (no_stop-open bits f)
]

step-closed : (frames : List Shown) (segments : Segments) (bytes : List (ℕ × Bool))
    (bits : List Bool) (e : Event) → Sound (state frames false segments bytes bits)
    → control_step Free e ≡ option_map control_of (step (state frames false segments bytes bits) e)
step-closed frames segments bytes bits (Rise b) h = refl
step-closed frames segments bytes bits Stop h = refl
step-closed frames segments bytes bits Start h =
    let c = h.closed refl in rw c.2 refl

by_open : (frames : List Shown) (is_open : Bool) (segments : Segments) (bytes : List (ℕ × Bool))
    (bits : List Bool) (e : Event) → Sound (state frames is_open segments bytes bits)
    → control_step (control_of_open is_open bits) e
    ≡ option_map control_of (step (state frames is_open segments bytes bits) e)
by_open frames true segments bytes bits e h = step-open frames segments bytes bits e h.few
by_open frames false segments bytes bits e h = step-closed frames segments bytes bits e h

-- all the steps

then_run-controlled : (es : List Event) (s : State) (e : Event) (o : Option State)
    → step s e ≡ o → Sound s
    → ((t : State) → Sound t → control_after es (control_of t) ≡ option_map control_of (run es t))
    → then_control (control_after es) (option_map control_of o)
    ≡ option_map control_of (then_run (run es) o)
then_run-controlled es s e None eq h all = refl
then_run-controlled es s e (Some t) eq h all = all t (step_keeps s t e h eq).0

run-controlled : (es : List Event) (s : State) → Sound s
    → control_after es (control_of s) ≡ option_map control_of (run es s)
run-controlled [] s h = refl
run-controlled (e ∷ es) s h =
    ap (then_control (control_after es))
    (by_open s.frames s.is_open s.segments s.bytes s.bits e h)
    ∙ then_run-controlled es s e (step s e) refl h (run-controlled es)

mapped : (o : Option State) (c : Control) → option_map control_of o ≡ Some c
    → (s : State) × (o ≡ Some s) × (control_of s ≡ c)
mapped None c e = cc
mapped (Some s) c e = (s, refl, some_in (control_of s) c e)

mapped_none : (o : Option State) → option_map control_of o ≡ None → o ≡ None
mapped_none None e = refl
mapped_none (Some s) e = cc

-- where control goes on, the events are read, and some frames begin with them
pub read_controlled : (es : List Event) (c : Control) → control_after es Free ≡ Some c
    → (s : State) × (run es start ≡ Some s) × (control_of s ≡ c)
read_controlled es c e =
    mapped (run es start) c (sym (run-controlled es start sound_start) ∙ e)

pub begins_controlled : (es : List Event) (c : Control) → control_after es Free ≡ Some c
    → Begins es
begins_controlled es c e =
    let r = read_controlled es c e in begins_read es r.0 r.1

-- where it doesn't, no frames begin with them
pub none_controlled : (es : List Event) → control_after es Free ≡ None → Begins es → ⊥
none_controlled es e =
    none_begin es (mapped_none (run es start) (sym (run-controlled es start sound_start) ∙ e))
