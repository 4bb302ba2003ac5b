-- Definitions at known values, and what the law on steps says of single messages.
use Rattle.std.proofs.Common.{◌≡◌, ℕ, suc, ◌+◌, ◌/◌, ◌<◌, ◌≤◌, true, false, inl, inr, Option, Some}
use Rattle.std.proofs.Common.{None, List, [], ◌∷◌, length, slice_index, refl, ap, ◌∙◌, arith}
use Rattle.std.proofs.lemmas.List.{length-take}
use Rattle.bit_bus.specs.Levels.{first_cut}
use Rattle.smbus.specs.Asked.{Asked}
use Rattle.smbus.specs.Answered.{Answered}
use Rattle.smbus.specs.Slots.{plan_of}
use Rattle.smbus.specs.FirstSegment.{message_bytes, bytes_to, bytes_before, bytes_out}
use Rattle.smbus.specs.MessageFrame.{IsReadWord}
use Rattle.pmbus_table.specs.Codes.{clear_faults_code, operation_code, status_word_code}
use Rattle.board.specs.Boards.{Target, Rail, Board}
use Rattle.targets.specs.States.{BusState, IsTargetAt}
use Rattle.targets.specs.Effects.{IsByteWrite}
use Rattle.targets.specs.Outcomes.{IsDone}
use Rattle.simulator.specs.Machines.{Entry}
use Rattle.simulator.specs.Allowed.{word_of, is_operation_value}
use Rattle.simulator.specs.Does.{BeginsWith}
use Rattle.simulator.specs.Reports.{write_to, WritesTo, selects, IsRailAt, Reports}
use Rattle.simulator.specs.Safe.{query_code, is_guarded}
use Rattle.simulator.specs.StepDoes.{MessageWrites, StepDoes}
use Rattle.simulator.proofs.FrontBytes.{plain_bytes}

-- FFh selects every page, and any other value its own
all_pages : selects 0xFF 3 ≡ true
all_pages = refl

own_page : selects 3 3 ≡ true
own_page = refl

other_page : selects 2 3 ≡ false
other_page = refl

-- off after the delays, and on at the low margin, where faults are acted on; what is left of the
-- fault bits is reserved
off_after_delays : is_operation_value 0x40 ≡ true
off_after_delays = refl

on_at_margin : is_operation_value 0x98 ≡ true
on_at_margin = refl

reserved_margin : is_operation_value 0x9C ≡ false
reserved_margin = refl

off_at_margin : is_operation_value 0x18 ≡ false
off_at_margin = refl

-- what WRITE_PROTECT doesn't speak of, and what it does
query_is_free : is_guarded query_code ≡ false
query_is_free = refl

clear_is_free : is_guarded clear_faults_code ≡ false
clear_is_free = refl

operation_is_guarded : is_guarded operation_code ≡ true
operation_is_guarded = refl

-- low byte first
low_byte_first : word_of (0x34 ∷ 0x12 ∷ []) ≡ 0x1234
low_byte_first = refl

-- a Read Word of STATUS_WORD that is done reports its word
reads_report : (b : Board) (s : BusState) (m : Asked) (a : Answered) (e : Entry) (d word : ℕ)
    (r : Rail) (t : Target) → StepDoes b s (Some m) a e
    → IsRailAt b d r t → slice_index s.page r.target ≡ r.page
    → IsReadWord t.address status_word_code word m a → IsDone m a → Reports b e d word
reads_report b s m a e d word r t does at page read done =
    (does.reports d word).1 (record {
      rail = r;
      target = t;
      at = at;
      page = page;
      reports = record { read = read; accepted = done.accepted; cut_late = inl done.uncut };
    })

-- of a message that is done all bytes go out
pub done_out : (m : Asked) (a : Answered) → IsDone m a → bytes_out m a ≡ message_bytes m a
done_out m a done =
    ap (λ (cut : Option ℕ). bytes_before cut (bytes_to a.refuse (message_bytes m a))) done.uncut
    ∙ ap (λ (refuse : Option ℕ). bytes_to refuse (message_bytes m a)) done.accepted

-- so a Write Byte to OPERATION that is done is seen to write its value
pub writes_operation : (b : Board) (s : BusState) (m : Asked) (a : Answered) (e : Entry)
    (i value : ℕ) (t : Target) → StepDoes b s (Some m) a e
    → IsTargetAt b i t → IsByteWrite t.address operation_code value m → IsDone m a
    → BeginsWith e.samples (write_to t ∷ operation_code ∷ value ∷ [])
writes_operation b s m a e i value t does at is done =
    let one : length m.out ≡ 1 = ap length is.content in
    let all : length (bytes_out m a) ≡ suc (suc (length m.out)) =
    ap length (done_out m a done) ∙ ap length (plain_bytes _ m a (λ _ _ _ _ _. refl) is.form) in
    (does.operations i t value at).1 (record { is_write = is; went_out = omega (arith, one, all) })

-- where the address or the code is refused, or a slot before the third byte's acknowledge is cut,
-- nothing is written

to_few : (n : ℕ) (bytes : List ℕ) → length (bytes_to (Some n) bytes) ≤ n + 1
to_few n bytes = let l = length-take (n + 1) bytes in omega (arith, l)

before_few : (cut : Option ℕ) (bytes : List ℕ) → length (bytes_before cut bytes) ≤ length bytes
before_few None bytes = omega arith
before_few (Some slot) bytes = let l = length-take ((slot + 1) / 9) bytes in omega (arith, l)

refused_early : (m : Asked) (a : Answered) (address code n : ℕ) → a.refuse ≡ Some n → n < 2
    → MessageWrites address code m a → ⊥
refused_early m a address code n e lt w = elim (w.went_out) [
  | inl data_out ↦
      let few : length (bytes_out m a) ≤ length (bytes_to a.refuse (message_bytes m a)) =
      before_few (first_cut (plan_of m a)) (bytes_to a.refuse (message_bytes m a)) in
      let to : length (bytes_to a.refuse (message_bytes m a)) ≤ n + 1 =
      rw e (to_few n (message_bytes m a)) in
      let out : 3 ≤ length (bytes_out m a) = data_out.1 in
      omega (arith, few, to, out, lt)
  | inr sent ↦ let none = sent.1.accepted in cc
]

refused_writes_nothing : (b : Board) (s : BusState) (m : Asked) (a : Answered) (e : Entry)
    (i code n : ℕ) (t : Target) → StepDoes b s (Some m) a e
    → IsTargetAt b i t → a.refuse ≡ Some n → n < 2 → WritesTo t e.samples code → ⊥
refused_writes_nothing b s m a e i code n t does at refused lt w =
    refused_early m a t.address code n refused lt ((does.writes i t code at).0 w)

cut_early : (m : Asked) (a : Answered) (address code slot : ℕ) → first_cut (plan_of m a) ≡ Some slot
    → slot < 26 → MessageWrites address code m a → ⊥
cut_early m a address code slot e lt w = elim (w.went_out) [
  | inl data_out ↦
      let l = length-take ((slot + 1) / 9) (bytes_to a.refuse (message_bytes m a)) in
      let few : length (bytes_before (Some slot) (bytes_to a.refuse (message_bytes m a))) ≤ 2 =
      omega (arith, l, lt) in
      let out : 3 ≤ length (bytes_before (Some slot) (bytes_to a.refuse (message_bytes m a))) =
      rw e at data_out.1 in
      omega (arith, few, out)
  | inr sent ↦ let none = sent.1.uncut in cc
]

cut_writes_nothing : (b : Board) (s : BusState) (m : Asked) (a : Answered) (e : Entry)
    (i code slot : ℕ) (t : Target) → StepDoes b s (Some m) a e
    → IsTargetAt b i t → first_cut (plan_of m a) ≡ Some slot → slot < 26 → WritesTo t e.samples code
    → ⊥
cut_writes_nothing b s m a e i code slot t does at cut lt w =
    cut_early m a t.address code slot cut lt ((does.writes i t code at).0 w)
