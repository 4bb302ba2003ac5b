-- What a request changes, told from its form, its code and its data.
use Rattle.std.proofs.Common.{◌≡◌, ◌==◌, ℕ, Bool, true, false, Option, Some, None, List, [], ◌∷◌}
use Rattle.std.proofs.Common.{slice_index, refl, sym, ap, subst, ◌∙◌}
use Rattle.std.proofs.lemmas.Bool.{eq-eqb, or_left}
use Rattle.smbus.specs.declared.message.Form.TheVariants as form
use Rattle.smbus.specs.Asked.{Asked}
use Rattle.smbus.specs.Answered.{Answered}
use Rattle.pmbus_table.specs.Codes.{page_code, operation_code, write_protect_code, status_word_code}
use Rattle.pmbus_table.specs.Operation.{enables}
use Rattle.board.specs.Boards.{Target, Rail, Board}
use Rattle.board.specs.Valid.{IsBoard}
use Rattle.targets.specs.declared.outcome.Outcome.TheVariants.{Done}
use Rattle.targets.specs.Outcomes.{IsDone, returned_by, ending_of, cut_of}
use Rattle.targets.specs.States.{BusState, IsTargetAt}
use Rattle.targets.specs.Effects.{Writes}
use Rattle.simulator.specs.Machines.{Machine, Entry}
use Rattle.simulator.specs.Reports.{Selects}
use Rattle.simulator.specs.StepDoes.{MessageReports, MessageWithdraws}
use Rattle.facts.specs.domain.Sets.{Set}
use Rattle.facts.specs.domain.Rows.{Row}
use Rattle.seq_program.specs.Requests.{Transaction, code_in, data_in}
use Rattle.facts.specs.duties.Duties.{touches_some, is_touched}
use Rattle.facts.proofs.Shared.Places.{some_same, only_one}
use Rattle.facts.proofs.Sound.RowChanges.{Change}
use Rattle.facts.proofs.Sound.Seen.{changes_by}
use Rattle.facts.proofs.Shared.Asking.{asked, Sending, ending}
use Rattle.facts.proofs.Sound.SafeRequests.{touched}

-- a message that is done
ended_done : (refuse cut : Option ℕ) (returned v : ℕ) → ending_of refuse cut returned ≡ Done v
    → (refuse ≡ None) × (cut ≡ None) × (v ≡ returned)
ended_done refuse (Some slot) returned v e = cc
ended_done (Some n) None returned v e = cc
ended_done None None returned v e = (refl, refl, cc)

pub is_done : (t : Target) (regs : List ℕ) (r : Transaction) (a : Answered) (v : ℕ)
    → ending t regs r a ≡ Done v
    → IsDone (asked t regs r) a
is_done t regs r a v e =
    let d =
    ended_done a.refuse (cut_of (asked t regs r) a) (returned_by r.form a.value a.bytes) v e in
    record { accepted = d.0; uncut = d.1 }

pub done_value : (t : Target) (regs : List ℕ) (r : Transaction) (a : Answered) (v : ℕ)
    → ending t regs r a ≡ Done v → v ≡ returned_by r.form a.value a.bytes
done_value t regs r a v e = (ended_done a.refuse (cut_of (asked t regs r) a)
    (returned_by r.form a.value a.bytes) v e).2

-- what a write of a code to target u is
pub record ByteWrite (regs : List ℕ) (i u code value : ℕ) (r : Transaction) : Type 0 where
  pub form : r.form ≡ form.WriteByte
  pub command : code_in r ≡ code
  pub content : data_in regs r ≡ value ∷ []
  pub here : u ≡ i

pub byte_write_of : (code : ℕ) (is_value : Target → ℕ → Bool) (b : Board) (s : BusState)
    (regs : List ℕ)
    (i u : ℕ) (t : Target) (r : Transaction) (a : Answered) (value : ℕ)
    → IsBoard b → IsTargetAt b i t → Writes code is_value b s (Some (asked t regs r)) a u value
    → ByteWrite regs i u code value r
byte_write_of code is_value b s regs i u t r a value is at' w =
    let same : asked t regs r ≡ w.asked = some_same (asked t regs r) w.asked w.sent in
    record {
      form = ap (λ (m : Asked). m.form) same ∙ w.is_write.form;
      command = ap (λ (m : Asked). m.code) same ∙ w.is_write.command;
      content = ap (λ (m : Asked). m.out) same ∙ w.is_write.content;
      here = only_one b is u i w.target t w.at at'
          (sym w.is_write.to ∙ sym (ap (λ (m : Asked). m.address) same));
    }

touched_at : (b : Board) (row : Row) (h : List Entry) (m next : Machine) (i d : ℕ) (t : Target)
    (r : Transaction) (a : Answered) (e : Entry) (rail : Rail) → Sending b row h m next i t r a e
    → Selects b m.bus i d rail → is_touched b row i d ≡ true
touched_at b row h m next i d t r a e rail k s = ap (touches_some row i) s.rail
    ∙ touched b row m h i d rail t k.admits k.at s

-- a report of rail d is a read of STATUS_WORD, and touches it
pub report_by : (b : Board) (row : Row) (h : List Entry) (m next : Machine) (i d word : ℕ)
    (t : Target)
    (r : Transaction) (a : Answered) (e : Entry) → Sending b row h m next i t r a e
    → MessageReports b m.bus d word (Some (asked t m.regs r)) a
    → (r.form ≡ form.ReadWord) × (code_in r ≡ status_word_code) × (is_touched b row i d ≡ true)
report_by b row h m next i d word t r a e k x =
    let same : x.rail.target ≡ i = only_one b k.board x.rail.target i x.target t x.at.target k.at
    (sym x.reports.read.to) in
    let page : slice_index m.bus.page i ≡ x.rail.page =
    ap (slice_index m.bus.page) (sym same) ∙ x.page in (
      x.reports.read.form,
      x.reports.read.command,
      touched_at b row h m next i d t r a e x.rail k
          (record {
            rail = x.at.rail;
            on_target = same;
            page =
                or_left (slice_index m.bus.page i == x.rail.page) _ (eq-eqb _ x.rail.page page);
          }),
    )

-- a withdrawal of rail d is a write of OPERATION that turns off, and touches it
pub record TurnsOff (b : Board) (row : Row) (regs : List ℕ) (i d : ℕ)
    (r : Transaction) : Type 0 where
  pub form : r.form ≡ form.WriteByte
  pub command : code_in r ≡ operation_code
  pub value : ℕ
  pub content : data_in regs r ≡ value ∷ []
  pub off : enables value ≡ false
  pub touched : is_touched b row i d ≡ true

pub withdrawal_by : (b : Board) (row : Row) (h : List Entry) (m next : Machine) (i d : ℕ)
    (t : Target)
    (r : Transaction) (a : Answered) (e : Entry) → Sending b row h m next i t r a e
    → MessageWithdraws b m.bus d (Some (asked t m.regs r)) a → TurnsOff b row m.regs i d r
withdrawal_by b row h m next i d t r a e k x =
    let same : x.rail.target ≡ i = only_one b k.board x.rail.target i x.target t x.at.target k.at
    (sym x.written.is_write.to) in
    let S : ℕ → Type 0 = λ n. Selects b m.bus n d x.rail in
    record {
      form = x.written.is_write.form;
      command = x.written.is_write.command;
      value = x.value;
      content = x.written.is_write.content;
      off = x.off;
      touched = touched_at b row h m next i d t r a e x.rail k (subst S same x.selected);
    }

-- what a request may change
pub request_changes : (b : Board) (row : Row) (h : List Entry) (m next : Machine) (i : ℕ)
    (t : Target)
    (r : Transaction) (a : Answered) (e : Entry) (P W D : Set) → Sending b row h m next i t r a e
    → ((u value : ℕ) → P u ≡ false → ByteWrite m.regs i u page_code value r → ⊥)
    → ((u value : ℕ) → W u ≡ false → ByteWrite m.regs i u write_protect_code value r → ⊥)
    → ((d : ℕ) → D d ≡ false → r.form ≡ form.ReadWord → code_in r ≡ status_word_code
    → is_touched b row i d ≡ true → ⊥)
    → ((d : ℕ) → D d ≡ false → TurnsOff b row m.regs i d r → ⊥)
    → Change b m h next (e ∷ h) P W D
request_changes b row h m next i t r a e P W D k page protect reports withdraws =
    changes_by b m next h (Some (asked t m.regs r)) a e P W D k.belongs k.after k.lost k.does
    (λ u value outside w. page u value outside
    (byte_write_of page_code _ b m.bus m.regs i u t r a value k.board k.at w))
    (λ u value outside w. protect u value outside
    (byte_write_of write_protect_code _ b m.bus m.regs i u t r a value k.board k.at w))
    (λ d word outside x. let z = report_by b row h m next i d word t r a e k x in
    reports d outside z.0 z.1 z.2)
    (λ d outside x. withdraws d outside (withdrawal_by b row h m next i d t r a e k x))
