-- Whole bytes read at once, where a rise follows them, are those of reading event by event.
use Rattle.std.proofs.Common.{◌≡◌, ℕ, ◌+◌, ◌-◌, ◌*◌, ◌/◌, ◌%◌, ◌^◌, ◌<◌, ◌≤◌, ◌==◌, Bool}
use Rattle.std.proofs.Common.{true, false, not, if◌then◌else◌, Some, None, List, [], ◌∷◌}
use Rattle.std.proofs.Common.{◌++◌, length}
use Rattle.std.proofs.Common.{take, drop, get_or, refl, sym, ap, subst, ◌∙◌, append_assoc, arith}
use Rattle.std.proofs.lemmas.List.{append-nil, map-append, length_push, length-append, take_more}
use Rattle.std.proofs.lemmas.List.{take_all, length-map, length-take}
use Rattle.std.proofs.Math.Pow.{pow_mono}
use Rattle.std.proofs.Math.Seq.{take-append_seam, get_or-append_seam}
use mir.Val.{bool_byte}
use Rattle.wires.specs.declared.event.Event.{Event}
use Rattle.wires.specs.declared.event.Event.TheVariants.{Rise}
use Rattle.wires.specs.Bits.{number_of}
use Rattle.smbus.specs.Shown.{Shown}
use Rattle.smbus.specs.Frames.{rises, FailsAt}
use Rattle.smbus.specs.Machine.{byte_of, State, start, then_run, run, step, Leads}
use Rattle.smbus.proofs.Bytes.{bit_byte, number_from, number_from-zero, number_of-lt}
use Rattle.smbus.proofs.StatesOfEvents.{Segments, state, run-append, risen-nine, risen-few}
use Rattle.smbus.proofs.EventByEvent.{fails_here}

-- the number of the bits that were read so far, as it grows by one

number_from-push : (n : ℕ) (bits : List Bool) (b : Bool)
    → number_from n (bits ++ b ∷ []) ≡ 2 * number_from n bits + (if b then 1 else 0)
number_from-push n [] b = refl
number_from-push n (c ∷ bits) b = number_from-push (2 * n + (if c then 1 else 0)) bits b

pub number_of-push : (bits : List Bool) (b : Bool)
    → number_of (bits ++ b ∷ []) ≡ 2 * number_of bits + bool_byte b
number_of-push bits b =
    sym (number_from-zero (bits ++ b ∷ [])) ∙ number_from-push 0 bits b
    ∙ ap (λ n. 2 * n + (if b then 1 else 0)) (number_from-zero bits)
    ∙ ap (λ k. 2 * number_of bits + k) (sym (bit_byte b))

pub bit_few : (b : Bool) → bool_byte b ≤ 1
bit_few true = omega arith
bit_few false = omega arith

-- so many events are rises, with this number
pub record AreRises (events : List Event) (number : ℕ) : Type 0 where
  pub bits : List Bool
  pub are : events ≡ rises bits
  pub sum : number ≡ number_of bits

pub no_rises : AreRises [] 0
no_rises = record { bits = []; are = refl; sum = refl }

pub one_rise_more : (events : List Event) (i : ℕ) (d : Event) (b : Bool) (n k : ℕ)
    → i < length events → get_or events i d ≡ Rise b → k ≡ bool_byte b
    → AreRises (take i events) n → AreRises (take (i + 1) events) (2 * n + k)
one_rise_more events i d b n k lt is bit so_far = record {
  bits = so_far.bits ++ b ∷ [];
  are =
      take_more events i d lt ∙ ap (λ e. take i events ++ e ∷ []) is
      ∙ ap (λ l. l ++ Rise b ∷ []) so_far.are ∙ sym (map-append Rise so_far.bits (b ∷ []));
  sum =
      ap (λ m. 2 * m + k) so_far.sum ∙ ap (λ m. 2 * number_of so_far.bits + m) bit
      ∙ sym (number_of-push so_far.bits b);
}

pub rises_below : (events : List Event) (i n k : ℕ) → i ≤ k → AreRises (take i events) n
    → n < 2 ^ k
rises_below events i n k le r =
    let long : length r.bits ≤ k =
    omega (arith, le, length-map r.bits Rise, ap length r.are, length-take i events) in
    omega (arith, r.sum, number_of-lt r.bits, pow_mono long)

byte_parts : (m : ℕ) (b : Bool)
    → ((2 * m + bool_byte b) / 2 ≡ m) × (((2 * m + bool_byte b) % 2 == 0) ≡ not b)
byte_parts m true = (
  let e : (2 * m + 1) / 2 ≡ m = omega arith in e,
  let e : (2 * m + 1) % 2 ≡ 1 = omega arith in rw e refl,
)
byte_parts m false = (
  let e : (2 * m + 0) / 2 ≡ m = omega arith in e,
  let e : (2 * m + 0) % 2 ≡ 0 = omega arith in rw e refl,
)

-- nine bits are twice the byte's number and the last bit
pub nine_byte : (bits : List Bool) → length bits ≡ 9
    → ◌≡◌ {A = ℕ × Bool} (number_of bits / 2, number_of bits % 2 == 0) (byte_of bits)
unfolding byte_of
nine_byte bits e =
    let ends : bits ≡ take 8 bits ++ get_or bits 8 false ∷ [] =
    sym (take_all 9 bits (omega arith)) ∙ take_more bits 8 false (omega arith) in
    let number : number_of bits
    ≡ 2 * number_of (take 8 bits) + bool_byte (get_or bits 8 false) =
    ap number_of ends ∙ number_of-push (take 8 bits) (get_or bits 8 false) in
    let parts = byte_parts (number_of (take 8 bits)) (get_or bits 8 false) in
    rw (number, parts.0, parts.1) refl

-- what events lead to

pub leads_none : (s : State) (events : List Event) → Leads s events s events
leads_none s events = record {
  front = [];
  parts = refl;
  behind = s;
  ran = refl;
  next = λ e later is. refl;
  ended = λ is. refl;
}

pub leads_on : (a b c d : State) (events later rest : List Event) (e : Event)
    → Leads a events b (e ∷ later) → step b e ≡ Some c → Leads c later d rest
    → Leads a events d rest
leads_on a b c d events later rest e first goes last = record {
  front = first.front ++ e ∷ last.front;
  parts =
      first.parts ∙ ap (λ l. first.front ++ e ∷ l) last.parts
      ∙ sym (append_assoc first.front (e ∷ last.front) rest);
  behind = last.behind;
  ran =
      run-append first.front (e ∷ last.front) a
      ∙ ap (then_run (run (e ∷ last.front))) first.ran
      ∙ ap (then_run (run last.front)) (first.next e later refl ∙ goes) ∙ last.ran;
  next = last.next;
  ended = last.ended;
}

pub leads_all : (a s : State) (events : List Event) → Leads a events s [] → run events a ≡ Some s
leads_all a s events l =
    ap (λ es. run es a) (l.parts ∙ append-nil l.front) ∙ l.ran ∙ ap Some (l.ended refl)

pub leads_stop : (s : State) (events later : List Event) (e : Event)
    → Leads start events s (e ∷ later) → step s e ≡ None
    → FailsAt events (length events - length (e ∷ later))
leads_stop s events later e l stops =
    let all : List Event = l.front ++ e ∷ later in
    let long = length-append l.front (e ∷ later) in
    let place : length all - length (e ∷ later) ≡ length l.front = omega (arith, long) in
    let here : FailsAt all (length l.front) =
    fails_here all (length l.front) l.behind e (omega (arith, long))
    (ap (λ es. run es start) (take-append_seam l.front (e ∷ later)) ∙ l.ran)
    (ap (step l.behind) (get_or-append_seam l.front e later e) ∙ l.next e later refl ∙ stops) in
    subst (λ es. FailsAt es (length es - length (e ∷ later))) (sym l.parts)
    (subst (FailsAt all) (sym place) here)

pub first_and_later : (events : List Event) (d : Event) → 1 ≤ length events
    → events ≡ get_or events 0 d ∷ take (length events - 1) (drop 1 events)
first_and_later [] d some = absurd (omega arith)
first_and_later (e ∷ later) d some =
    ap (λ l. e ∷ l) (sym (take_all (length (e ∷ later) - 1) later (omega arith)))

-- a whole byte

pub begins_with : (events : List Event) (d e : Event) → 0 < length events → get_or events 0 d ≡ e
    → events ≡ e ∷ drop 1 events
begins_with [] d e some is = absurd (omega arith)
begins_with (f ∷ later) d e some is = ap (λ x. x ∷ later) is

run_rises : (frames : List Shown) (segments : Segments) (bytes : List (ℕ × Bool))
    (before bits : List Bool) → length before + length bits ≤ 9
    → run (rises bits) (state frames true segments bytes before)
    ≡ Some (state frames true segments bytes (before ++ bits))
run_rises frames segments bytes before [] few =
    ap (λ l. Some (state frames true segments bytes l)) (sym (append-nil before))
run_rises frames segments bytes before (b ∷ bits) few =
    ap (run (rises bits))
    (risen-few b (state frames true segments bytes before) (omega (arith, few)))
    ∙ run_rises frames segments bytes (before ++ b ∷ []) bits
    (omega (arith, few, length_push before b))
    ∙ ap (λ l. Some (state frames true segments bytes l)) (append_assoc before (b ∷ []) bits)

module _ (a : State) (events later : List Event) (frames : List Shown) (segments : Segments)
    (bytes : List (ℕ × Bool)) where
  abbrev before : State
  before = state frames true segments bytes []

  nine_rises : (bits : List Bool) (front : List Event) (now : State) → length bits ≡ 9
      → run front a ≡ Some now
      → ((e : Event) (more : List Event) → rises bits ++ later ≡ e ∷ more
      → step now e ≡ step before e)
      → run (front ++ rises bits) a ≡ Some (state frames true segments bytes bits)
  nine_rises [] front now nine ran next = absurd (omega arith)
  nine_rises (b ∷ bits) front now nine ran next =
      run-append front (rises (b ∷ bits)) a ∙ ap (then_run (run (rises (b ∷ bits)))) ran
      ∙ ap (then_run (run (rises bits))) (next (Rise b) (rises bits ++ later) refl)
      ∙ run_rises frames segments bytes [] (b ∷ bits) (omega (arith, nine))

  pub leads_byte : (bits : List Bool) (x : Bool) (more : List Event) → length bits ≡ 9
      → later ≡ Rise x ∷ more
      → Leads a events (state frames true segments bytes []) (rises bits ++ later)
      → Leads a events (state frames true segments (bytes ++ byte_of bits ∷ []) []) later
  leads_byte bits x more nine is l = record {
    front = l.front ++ rises bits;
    parts = l.parts ∙ sym (append_assoc l.front (rises bits) later);
    behind = state frames true segments bytes bits;
    ran = nine_rises bits l.front l.behind nine l.ran l.next;
    next = λ e rest at.
        let same : e ≡ Rise x = let heads : e ∷ rest ≡ Rise x ∷ more = sym at ∙ is in cc in
        rw same (ap Some (risen-nine x (state frames true segments bytes bits) nine));
    ended = λ none. let gone : [] ≡ Rise x ∷ more = sym none ∙ is in cc;
  }
