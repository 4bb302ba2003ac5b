-- The alert response: it is safe, and its two edges.
use Rattle.std.proofs.Common.{◌≡◌, ◌≤◌, ◌<◌, ◌+◌, ◌%◌, ◌⊎◌, ℕ, true, false, Option, Some, None}
use Rattle.std.proofs.Common.{List, ◌∷◌, length, inl, inr, refl, sym, ap, ◌∙◌, arith}
use Rattle.std.specs.Prelude.{slice_set}
use Rattle.std.proofs.lemmas.Bool.{false≢true}
use Rattle.smbus.specs.declared.message.Form.TheVariants as form
use Rattle.smbus.specs.Asked.{Asked}
use Rattle.smbus.specs.Answered.{Answered}
use Rattle.smbus.specs.SlotCounts.{most_slots}
use Rattle.board.specs.Boards.{Target, Board, largest_stretch}
use Rattle.targets.specs.declared.outcome.Outcome.{Outcome}
use Rattle.targets.specs.declared.outcome.Outcome.TheVariants.{Done, NotAcknowledged, TimedOut}
use Rattle.targets.specs.declared.outcome.Outcome.TheVariants.{Lost}
use Rattle.targets.specs.Outcomes.{ending_of, cut_of, outcome_alone}
use Rattle.targets.specs.States.{BusState, Belongs}
use Rattle.targets.specs.Effects.{Writes, IsAfter}
use Rattle.targets.specs.Fitting.{Fits}
use Rattle.seq_program.specs.declared.instr.Instr.TheVariants.{Alert}
use Rattle.seq_program.specs.Messages.{alert_message}
use Rattle.simulator.specs.Machines.{Machine, Entry}
use Rattle.simulator.specs.StepDoes.{StepDoes}
use Rattle.simulator.specs.StepLaws.{CarriesMessage}
use Rattle.facts.specs.declared.domain.source.Source.TheVariants as source
use Rattle.facts.specs.domain.Sets.{empty}
use Rattle.facts.specs.domain.Rows.{Row, Admits, IsRow}
use Rattle.facts.specs.transfer.Edges.{edge, with_reg}
use Rattle.facts.specs.transfer.Ticks.{frame_ticks}
use Rattle.facts.proofs.Sound.OwnLeads.{LeadsOwn}
use Rattle.facts.proofs.Shared.Places.{some_same}
use Rattle.facts.proofs.Sound.RowChanges.{Change, admits_same}
use Rattle.facts.proofs.Sound.Seen.{changes_by}
use Rattle.facts.proofs.Sound.Loads.{admits_load}
use Rattle.facts.proofs.Sound.Silent.{same_rank}
use Rattle.facts.proofs.Sound.SafeSteps.{IsSafeMessage}

not_byte : form.Alert ≡ form.WriteByte → ⊥
not_byte e = cc

not_word : form.Alert ≡ form.WriteWord → ⊥
not_word e = cc

not_read : form.Alert ≡ form.ReadWord → ⊥
not_read e = cc

not_send : form.Alert ≡ form.SendByte → ⊥
not_send e = cc

pub alert_is_safe : (b : Board) (h : List Entry) (s : BusState) (a : Answered)
    → IsSafeMessage b h s alert_message a
alert_is_safe b h s a = record {
  allowed = inl refl;
  protection = λ i t code at' w guarded. absurd (sends w.went_out);
  limits = λ i t code low high d r at' sets w selected. absurd (not_word w.form);
  order = λ i t value d r at' w on selected. absurd (not_byte w.is_write.form);
}
  where
    sends : {X Y : Type 0} → ((false ≡ true) × X) ⊎ ((form.Alert ≡ form.SendByte) × Y) → ⊥
    sends (inl w) = false≢true w.0
    sends (inr w) = not_send w.0

no_write : (code : ℕ) (is_value : Target → ℕ → Rattle.std.proofs.Common.Bool) (b : Board)
    (s : BusState)
    (a : Answered) (u value : ℕ) → Writes code is_value b s (Some alert_message) a u value → ⊥
no_write code is_value b s a u value w =
    let same : alert_message ≡ w.asked = some_same alert_message w.asked w.sent in
    not_byte (ap (λ (m : Asked). m.form) same ∙ w.is_write.form)

alert_changes : (b : Board) (h : List Entry) (m next : Machine) (a : Answered) (e : Entry)
    → Belongs b m.bus
    → IsAfter b m.bus (Some alert_message) a next.bus → next.bus.lost ≡ m.bus.lost
    → StepDoes b m.bus (Some alert_message) a e
    → Change b m h next (e ∷ h) empty empty empty
alert_changes b h m next a e belongs after same does =
    changes_by b m next h (Some alert_message) a e empty empty
    empty belongs after same does
    (λ u value _ w. no_write _ _ b m.bus a u value w)
    (λ u value _ w. no_write _ _ b m.bus a u value w)
    (λ d word _ x. not_read x.reports.read.form)
    (λ d _ x. not_byte x.written.is_write.form)

alert_value : (refuse cut : Option ℕ) (returned v : ℕ) → ending_of refuse cut returned ≡ Done v
    → v ≡ returned
alert_value refuse (Some slot) returned v e = cc
alert_value (Some n) None returned v e = cc
alert_value None None returned v e = cc

pub record AlertStep (b : Board) (row : Row) (h : List Entry) (m next : Machine) (r otherwise : ℕ)
    (a : Answered) (e : Entry) : Type 0 where
  pub shaped : IsRow b row
  pub admits : Admits b row m h
  pub belongs : Belongs b m.bus
  pub small : r < 8
  pub fits : Fits b m.bus alert_message a
  pub after : IsAfter b m.bus (Some alert_message) a next.bus
  pub lost : next.bus.lost ≡ m.bus.lost
  pub carries : CarriesMessage m.bus alert_message a e
  pub does : StepDoes b m.bus (Some alert_message) a e
  pub done : (v : ℕ) → outcome_alone (Some alert_message) a ≡ Done v
      → (next.place ≡ m.place + 1) × (next.regs ≡ slice_set m.regs r v)
  pub other : ((v : ℕ) → outcome_alone (Some alert_message) a ≡ Done v → ⊥)
      → (next.place ≡ otherwise) × (next.regs ≡ m.regs)
  pub counters : next.counters ≡ m.counters

pub leads_alert : (b : Board) (row : Row) (h : List Entry) (m next : Machine) (r otherwise : ℕ)
    (a : Answered) (e : Entry) → AlertStep b row h m next r otherwise a e
    → LeadsOwn b m.place (Alert r otherwise) row m next (e ∷ h)
leads_alert b row h m next r otherwise a e k = by (outcome_alone (Some alert_message) a) refl
  where
    lost : ((v : ℕ) → outcome_alone (Some alert_message) a ≡ Done v → ⊥)
        → LeadsOwn b m.place (Alert r otherwise) row m next (e ∷ h)
    lost never = record {
      by = edge otherwise row;
      there = inr (inl refl);
      to = (k.other never).0;
      admits = admits_same b row m h next (e ∷ h) k.admits
          (alert_changes b h m next a e k.belongs k.after k.lost k.does)
          (k.other never).1 k.counters;
      falls = same_rank row m.counters next.counters k.counters;
    }

    by : (o : Outcome) → outcome_alone (Some alert_message) a ≡ o
        → LeadsOwn b m.place (Alert r otherwise) row m next (e ∷ h)
    by (Done v) is =
        let value : v ≡ a.value % 256 =
        alert_value a.refuse (cut_of alert_message a) (a.value % 256) v is in
        record {
          by = edge (m.place + 1) (with_reg row r (record { lo = 0; hi = 255 }) source.None);
          there = inl refl;
          to = (k.done v is).0;
          admits =
              admits_load b row m h next (e ∷ h) r
              (record { lo = 0; hi = 255 }) source.None v k.shaped
              k.admits (alert_changes b h m next a e k.belongs k.after k.lost k.does) k.small
              (omega (arith, value), omega (arith, value)) tt k.counters (k.done v is).1;
          falls = same_rank row m.counters next.counters k.counters;
        }
    by NotAcknowledged is = lost (λ v z. apart v (sym is ∙ z))
      where
        apart : (v : ℕ) → NotAcknowledged ≡ Done v → ⊥
        apart v z = cc
    by TimedOut is = lost (λ v z. apart v (sym is ∙ z))
      where
        apart : (v : ℕ) → TimedOut ≡ Done v → ⊥
        apart v z = cc
    by Lost is = lost (λ v z. apart v (sym is ∙ z))
      where
        apart : (v : ℕ) → Lost ≡ Done v → ⊥
        apart v z = cc

pub alert_ticks : (b : Board) (row : Row) (h : List Entry) (m next : Machine) (r otherwise : ℕ)
    (a : Answered) (e : Entry) → AlertStep b row h m next r otherwise a e
    → length e.samples ≤ frame_ticks b (most_slots form.Alert 0 0)
unfolding frame_ticks
alert_ticks b row h m next r otherwise a e k =
    let few = k.carries.reads.few (largest_stretch b.targets) k.fits.holds in
    rw k.carries.samples few
