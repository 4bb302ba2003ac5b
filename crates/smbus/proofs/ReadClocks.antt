-- Clocks one after another, from runs of equal samples.
use Rattle.std.proofs.Common.{◌≡◌, ℕ, ◌+◌, ◌*◌, ◌<◌, ◌≤◌, ◌^◌, Bool, true, false, List, [], ◌∷◌}
use Rattle.std.proofs.Common.{◌++◌, length, drop, get_or, refl, sym, ap, subst, ◌∙◌, append_assoc}
use Rattle.std.proofs.Common.{arith, ◌/◌, ◌%◌, ◌==◌, MatchBool, Some, None, not, Option}
use Rattle.std.proofs.Common.{option_to_list}
use Rattle.std.proofs.lemmas.List.{map-append, length_push, length-drop, get_or-drop, drop-drop}
use Rattle.std.proofs.lemmas.List.{get_or_default}
use Rattle.std.proofs.Math.Pow.{pow_mono}
use mir.Val.{bool_byte}
use Rattle.wires.specs.declared.event.Event.{Event}
use Rattle.wires.specs.declared.event.Event.TheVariants.{Start, Stop, Rise}
use Rattle.wires.specs.declared.runs.Run.{Run}
use Rattle.wires.specs.Bits.{number_of}
use Rattle.wires.specs.Events.{change, events_between}
use Rattle.smbus.specs.Clocks.{events_in, AreClocks, IsNextByte}
use Rattle.smbus.specs.Machine.{State, start, run, step, then_run, Leads}
use Rattle.smbus.specs.Frames.{rises, AreFrames}
use Rattle.smbus.proofs.Bytes.{number_of-lt}
use Rattle.smbus.proofs.WholeBytes.{number_of-push, nine_byte, leads_on, leads_all, leads_stop}
use Rattle.smbus.proofs.WholeBytes.{bit_few}
use Rattle.smbus.proofs.Observed.{never_fails}
use Rattle.smbus.proofs.StatesOfEvents.{run-append}
use Rattle.smbus.specs.Shown.{Shown}

pub is_high : (b : Bool) → not b ≡ false → b ≡ true
is_high true e = refl
is_high false e = cc

pub bit_below : (k : ℕ) (b : Bool) → k ≡ bool_byte b → k ≤ 1
bit_below k b e = omega (arith, e, bit_few b)

first_clock : (runs : List Run) (d : Run) → 2 < length runs
    → (get_or runs 0 d).sample.scl ≡ true → (get_or runs 1 d).sample.scl ≡ false
    → (get_or runs 2 d).sample.scl ≡ true
    → events_in runs ≡ Rise (get_or runs 2 d).sample.sda ∷ events_in (drop 2 runs)
first_clock [] d long a b c = absurd (omega arith)
first_clock (r ∷ []) d long a b c = absurd (omega arith)
first_clock (r ∷ s ∷ []) d long a b c = absurd (omega arith)
first_clock (r ∷ s ∷ t ∷ later) d long a b c = rw (a, b, c) refl

pub clock_at : (runs : List Run) (i : ℕ) (d : Run) → i + 2 < length runs
    → (get_or runs i d).sample.scl ≡ true → (get_or runs (i + 1) d).sample.scl ≡ false
    → (get_or runs (i + 2) d).sample.scl ≡ true
    → events_in (drop i runs) ≡ Rise (get_or runs (i + 2) d).sample.sda
    ∷ events_in (drop (i + 2) runs)
clock_at runs i d long a b c =
    let at = λ (k : ℕ). get_or-drop i runs k d in
    let left : 2 < length (drop i runs) = omega (arith, long, length-drop i runs) in
    let none : i + 0 ≡ i = omega arith in
    first_clock (drop i runs) d left
    (ap (λ (r : Run). r.sample.scl) (at 0) ∙ ap (λ n. (get_or runs n d).sample.scl) none ∙ a)
    (ap (λ (r : Run). r.sample.scl) (at 1) ∙ b) (ap (λ (r : Run). r.sample.scl) (at 2) ∙ c)
    ∙ ap (λ (r : Run). Rise r.sample.sda ∷ events_in (drop 2 (drop i runs))) (at 2)
    ∙ ap (λ (l : List Run). Rise (get_or runs (i + 2) d).sample.sda ∷ events_in l)
    (drop-drop 2 i runs)

pub no_clocks : (runs : List Run) → 1 ≤ length runs
    → ((d : Run) → (get_or runs 0 d).sample.scl ≡ true) → AreClocks runs 0 0
no_clocks runs some high = record {
  bits = [];
  long = refl;
  sum = refl;
  read = refl;
  high = high;
}

pub one_clock_more : (runs : List Run) (i n k : ℕ) (d : Run) → 2 * i + 2 < length runs
    → (get_or runs (2 * i + 1) d).sample.scl ≡ false
    → (get_or runs (2 * i + 2) d).sample.scl ≡ true
    → k ≡ bool_byte (get_or runs (2 * i + 2) d).sample.sda
    → AreClocks runs i n → AreClocks runs (i + 1) (2 * n + k)
one_clock_more runs i n k d lt low high bit so_far = record {
  bits = so_far.bits ++ (get_or runs (2 * i + 2) d).sample.sda ∷ [];
  long = length_push so_far.bits _ ∙ ap (λ m. m + 1) so_far.long;
  sum =
      ap (λ m. 2 * m + k) so_far.sum ∙ ap (λ m. 2 * number_of so_far.bits + m) bit
      ∙ sym (number_of-push so_far.bits _);
  read =
      let b = (get_or runs (2 * i + 2) d).sample.sda in
      let rest = events_in (drop (2 * i + 2) runs) in
      let two : 2 * i + 2 ≡ 2 * (i + 1) = omega arith in
      so_far.read
      ∙ ap (λ l. rises so_far.bits ++ l) (clock_at runs (2 * i) d lt (so_far.high d) low high)
      ∙ sym (append_assoc (rises so_far.bits) (Rise b ∷ []) rest)
      ∙ ap (λ l. l ++ rest) (sym (map-append Rise so_far.bits (b ∷ [])))
      ∙ ap (λ n. rises (so_far.bits ++ b ∷ []) ++ events_in (drop n runs)) two;
  high = λ e.
      let two : 2 * (i + 1) ≡ 2 * i + 2 = omega arith in
      ap (λ n. (get_or runs n e).sample.scl) two
      ∙ ap (λ (r : Run). r.sample.scl) (get_or_default runs (2 * i + 2) e d lt) ∙ high;
}

pub number_below : (runs : List Run) (i n k : ℕ) → i ≤ k → AreClocks runs i n → n < 2 ^ k
number_below runs i n k le r =
    let long : length r.bits ≤ k = omega (arith, le, r.long) in
    omega (arith, r.sum, number_of-lt r.bits, pow_mono long)

pub next_byte : (runs : List Run) (n : ℕ) (d : Run) → 20 < length runs → AreClocks runs 9 n
    → (get_or runs 19 d).sample.scl ≡ false → (get_or runs 20 d).sample.scl ≡ true
    → IsNextByte runs (n / 2, n % 2 == 0)
next_byte runs n d long r low high = record {
  bits = r.bits;
  nine = r.long;
  is = ap (λ (m : ℕ). (m / 2, m % 2 == 0)) r.sum ∙ nine_byte r.bits r.long;
  read = r.read;
  bit = (get_or runs 20 d).sample.sda;
  more = events_in (drop 20 runs);
  next = clock_at runs 18 d long (r.high d) low high;
}

-- what happens between two samples

pub one_runs : (s t : State) (e : Event) (es : List Event) (taken : Bool) → e ∷ [] ≡ es
    → MatchBool taken (step s e ≡ Some t) (step s e ≡ None)
    → MatchBool taken (run es s ≡ Some t) (run es s ≡ None)
one_runs s t e es true is m =
    subst (λ l. run l s ≡ Some t) is (ap (then_run (run [])) m)
one_runs s t e es false is m =
    subst (λ l. run l s ≡ None) is (ap (then_run (run [])) m)

pub between_first : (runs : List Run) (d : Run) → 2 ≤ length runs
    → events_in runs ≡ events_between (get_or runs 0 d).sample (get_or runs 1 d).sample
    ++ events_in (drop 1 runs)
between_first [] d long = absurd (omega arith)
between_first (r ∷ []) d long = absurd (omega arith)
between_first (r ∷ s ∷ later) d long = refl

pub nothing_after : (runs : List Run) → length runs < 2 → events_in runs ≡ []
nothing_after [] few = refl
nothing_after (r ∷ []) few = refl
nothing_after (r ∷ s ∷ later) few = absurd (omega arith)

-- from the first of runs to the next

leads_front : (a b d behind : State) (events later rest front : List Event)
    → Leads a events b later → later ≡ front ++ rest → run front b ≡ Some behind
    → ((e : Event) (more : List Event) → rest ≡ e ∷ more → step behind e ≡ step d e)
    → (rest ≡ [] → behind ≡ d) → Leads a events d rest
leads_front a b d behind events later rest [] first parts ran next ended =
    let same : b ≡ behind = cc in
    record {
      front = first.front;
      parts = first.parts ∙ ap (λ l. first.front ++ l) parts;
      behind = first.behind;
      ran = first.ran;
      next = λ e more is.
          first.next e more (parts ∙ is) ∙ ap (λ s. step s e) same ∙ next e more is;
      ended = λ is. first.ended (parts ∙ is) ∙ same ∙ ended is;
    }
leads_front a b d behind events later rest (f ∷ front) first parts ran next ended = record {
  front = first.front ++ f ∷ front;
  parts =
      first.parts ∙ ap (λ l. first.front ++ l) parts
      ∙ sym (append_assoc first.front (f ∷ front) rest);
  behind = behind;
  ran =
      run-append first.front (f ∷ front) a ∙ ap (then_run (run (f ∷ front))) first.ran
      ∙ ap (then_run (run front)) (first.next f (front ++ rest) parts) ∙ ran;
  next = next;
  ended = ended;
}

change_is : (a b c d : Bool) → (e : Option Event) × (change a b c d ≡ option_to_list e)
change_is true true true false = (Some Start, refl)
change_is true true false true = (Some Stop, refl)
change_is true true true true = (None, refl)
change_is true true false false = (None, refl)
change_is false true before after = (Some (Rise after), refl)
change_is true false before after = (None, refl)
change_is false false before after = (None, refl)

step_of : (s t : State) (e : Event) → run (e ∷ []) s ≡ Some t → step s e ≡ Some t
step_of s t e goes = of_step (step s e) t goes where
  of_step : (o : Option State) (t : State) → then_run (run []) o ≡ Some t → o ≡ Some t
  of_step None t e = e
  of_step (Some s) t e = e

no_step : (s : State) (e : Event) → run (e ∷ []) s ≡ None → step s e ≡ None
no_step s e stops = of_step (step s e) stops where
  of_step : (o : Option State) → then_run (run []) o ≡ None → o ≡ None
  of_step None e = e
  of_step (Some s) e = e

leads_by : (a b c d : State) (events es later rest : List Event) (o : Option Event)
    → es ≡ option_to_list o → Leads a events b (es ++ later) → run es b ≡ Some c
    → Leads c later d rest → Leads a events d rest
leads_by a b c d events es later rest None is first goes last =
    let begun : Leads a events b later = rw is at first in
    let ran : run [] b ≡ Some c = rw is at goes in
    let same : b ≡ c = cc in
    let on : Leads b later d rest = rw same last in
    leads_front a b d on.behind events later rest on.front begun on.parts on.ran on.next on.ended
leads_by a b c d events es later rest (Some e) is first goes last =
    leads_on a b c d events later rest e (rw is at first) (step_of b c e (rw is at goes)) last

fails_by : (b : State) (events es later : List Event) (o : Option Event)
    → es ≡ option_to_list o → Leads start events b (es ++ later) → run es b ≡ None
    → (frames : List Shown) → AreFrames events frames → ⊥
fails_by b events es later None is first stops frames are =
    let ran : run [] b ≡ None = rw is at stops in cc
fails_by b events es later (Some e) is first stops frames are =
    never_fails events frames _ are
    (leads_stop b events later e (rw is at first) (no_step b e (rw is at stops)))

pub leads_between : (b c d : State) (events rest : List Event) (runs : List Run) (k : Run)
    → 2 ≤ length runs → Leads start events b (events_in runs)
    → run (events_between (get_or runs 0 k).sample (get_or runs 1 k).sample) b ≡ Some c
    → Leads c (events_in (drop 1 runs)) d rest → Leads start events d rest
leads_between b c d events rest runs k long first goes last =
    let s = (get_or runs 0 k).sample in
    let t = (get_or runs 1 k).sample in
    let is = change_is s.scl t.scl s.sda t.sda in
    leads_by start b c d events (events_between s t) (events_in (drop 1 runs)) rest is.0 is.1
    (rw (between_first runs k long) at first) goes last

pub fails_between : (b : State) (events : List Event) (runs : List Run) (k : Run)
    → 2 ≤ length runs → Leads start events b (events_in runs)
    → run (events_between (get_or runs 0 k).sample (get_or runs 1 k).sample) b ≡ None
    → (frames : List Shown) → AreFrames events frames → ⊥
fails_between b events runs k long first stops =
    let s = (get_or runs 0 k).sample in
    let t = (get_or runs 1 k).sample in
    let is = change_is s.scl t.scl s.sda t.sda in
    fails_by b events (events_between s t) (events_in (drop 1 runs)) is.0 is.1
    (rw (between_first runs k long) at first) stops

pub all_read : (events : List Event) (s : State) (runs : List Run) → length runs < 2
    → Leads start events s (events_in runs) → run events start ≡ Some s
all_read events s runs few l =
    leads_all start s events (rw (nothing_after runs few) at l)
