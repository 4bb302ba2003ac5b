-- Both edges of a byte that is written.
use Rattle.std.proofs.Common.{◌≡◌, ◌≢◌, ◌<◌, ◌⊎◌, ◌==◌, ◌&&◌, ℕ, Bool, true, false, not, cond}
use Rattle.std.proofs.Common.{Option, Some, None, List, [], ◌∷◌, length, slice_get, slice_index}
use Rattle.std.proofs.Common.{inl, inr, refl, sym, ap, subst, ◌∙◌, arith}
use Rattle.std.specs.Prelude.{IsTrue, option_and_then}
use Rattle.std.proofs.lemmas.Bool.{eq-eqb, eqb-false, or_left, or_right, and_from, cond_both}
use Rattle.std.proofs.lemmas.Bool.{false≢true, not_from_false}
use Rattle.smbus.specs.declared.message.Form.TheVariants as form
use Rattle.smbus.specs.Answered.{Answered}
use Rattle.pmbus_table.specs.Codes.{page_code, operation_code, write_protect_code}
use Rattle.pmbus_table.specs.Operation.{enables}
use Rattle.pmbus_table.specs.Protect.{permits, is_protection}
use Rattle.board.specs.Boards.{Target, Board}
use Rattle.board.specs.Valid.{is_page_value}
use Rattle.targets.specs.declared.outcome.Outcome.{Outcome}
use Rattle.targets.specs.declared.outcome.Outcome.TheVariants.{Done, NotAcknowledged, TimedOut}
use Rattle.targets.specs.declared.outcome.Outcome.TheVariants.{Lost}
use Rattle.targets.specs.Effects.{Writes, IsStored}
use Rattle.seq_program.specs.declared.instr.Written.TheVariants as written
use Rattle.simulator.specs.Machines.{Machine, Entry}
use Rattle.simulator.specs.Safe.{is_guarded}
use Rattle.facts.specs.declared.duties.rule.Rule.TheVariants.{K1, K3}
use Rattle.facts.specs.domain.Sets.{Set, only, empty, gains}
use Rattle.facts.specs.domain.Rows.{Row, Admits, set_at}
use Rattle.seq_program.specs.Requests.{Transaction, write}
use Rattle.facts.specs.duties.Duties.{is_touched}
use Rattle.facts.specs.transfer.Edges.{effect_of, without_touched, done_row, else_row}
use Rattle.facts.proofs.Shared.Places.{found, within, index_at}
use Rattle.facts.proofs.Shared.Forms.{guarded_write}
use Rattle.facts.proofs.Sound.RowChanges.{Change, admits_page, admits_protect, admits_touched}
use Rattle.facts.proofs.Sound.RowChanges.{admits_same}
use Rattle.facts.proofs.Shared.Asking.{asked, regs_after, ending, Sending}
use Rattle.facts.proofs.Sound.SafeRequests.{entered, takes_written}
use Rattle.facts.proofs.Sound.Effects.{is_done, byte_write_of, request_changes}

abbrev pub byte_write : ℕ → ℕ → Transaction
byte_write code value = write code (written.Byte value)

-- the row of the edge that an outcome takes
abbrev pub row_by : Board → Row → ℕ → Transaction → Outcome → Row
row_by b row i r (Done value) = done_row b row i r (effect_of r)
row_by b row i r other = else_row b row i (effect_of r)

-- without a register in it no request changes one
pub regs_same : (r : Transaction) (regs : List ℕ) (o : Outcome) → r.register ≡ None
    → regs_after r regs o ≡ regs
regs_same r regs (Done v) e =
    ap (λ (z : Option ℕ). Rattle.simulator.specs.Moves.with_result z v regs) e
regs_same r regs NotAcknowledged e = refl
regs_same r regs TimedOut e = refl
regs_same r regs Lost e = refl

same_value : (v w : ℕ) → v ∷ [] ≡ w ∷ [] → w ≡ v
same_value v w e = cc

-- what is stored after a byte write is the byte or what was stored
byte_or_old : (code : ℕ) (is_value : Target → ℕ → Bool) (b : Board) (row : Row) (h : List Entry)
    (m next : Machine) (i : ℕ) (t : Target) (v : ℕ) (a : Answered) (e : Entry) (old new : ℕ)
    → Sending b row h m next i t (byte_write code v) a e
    → IsStored (λ x. Writes code is_value b m.bus (Some (asked t m.regs (byte_write code v))) a i x)
    old new
    → (new ≡ v) ⊎ (new ≡ old)
byte_or_old code is_value b row h m next i t v a e old new k (inl w) =
    inl
    (same_value v new (byte_write_of code is_value b m.bus m.regs i i t (byte_write code v) a new
    k.board k.at w).content)
byte_or_old code is_value b row h m next i t v a e old new k (inr kept) = inr kept.1

-- and where it is done, the byte
byte_when_done : (code : ℕ) (is_value : Target → ℕ → Bool) (b : Board) (row : Row) (h : List Entry)
    (m next : Machine) (i : ℕ) (t : Target) (v : ℕ) (a : Answered) (e : Entry) (old new x : ℕ)
    → Sending b row h m next i t (byte_write code v) a e → IsTrue (is_guarded code)
    → IsTrue (is_value t v)
    → ending t m.regs (byte_write code v) a ≡ Done x
    → IsStored (λ y. Writes code is_value b m.bus (Some (asked t m.regs (byte_write code v))) a i y)
    old new
    → new ≡ v
byte_when_done code is_value b row h m next i t v a e old new x k guarded valid done (inl w) =
    same_value v new
    (byte_write_of code is_value b m.bus m.regs i i t (byte_write code v) a new k.board
    k.at w).content
byte_when_done code is_value b row h m next i t v a e old new x k guarded valid done (inr kept) =
    absurd (kept.0 v (record {
      asked = asked t m.regs (byte_write code v);
      sent = refl;
      target = t;
      at = k.at;
      is_write = record { to = refl; form = refl; command = refl; content = refl };
      valid = valid;
      permitted = permitted;
      effective = inl (is_done t m.regs (byte_write code v) a x done);
    }))
  where
    there : i < length b.targets
    there = within b.targets i t k.at

    stored : (p : ℕ) × (slice_get m.bus.protect i ≡ Some p)
    stored =
        found m.bus.protect i (let L : ℕ → Type 0 = λ n. i < n in subst L (sym k.belongs.protects)
        (within b.targets i t k.at))

    permitted : option_and_then (λ protect. permits protect code) (slice_get m.bus.protect i)
        ≡ Some true
    permitted =
        let duty : permits (slice_index m.bus.protect i) code ≡ Some true
        = k.duty K3 (guarded_write code form.WriteByte guarded
        (takes_written (byte_write code v) k.request (inl refl)) (inl refl))
        (slice_index m.bus.protect i) (k.admits.protects i (within b.targets i t k.at)) in
        let P : ℕ → Type 0 = λ p. permits p code ≡ Some true in
        ap (option_and_then (λ protect. permits protect code)) stored.1
        ∙ subst P (index_at m.bus.protect i stored.0 0 stored.1) duty

byte_changes : (b : Board) (row : Row) (h : List Entry) (m next : Machine) (i : ℕ) (t : Target)
    (c v : ℕ)
    (a : Answered) (e : Entry) (P W D : Set) → Sending b row h m next i t (byte_write c v) a e
    → ((u : ℕ) → P u ≡ false → c ≡ page_code → u ≡ i → ⊥)
    → ((u : ℕ) → W u ≡ false → c ≡ write_protect_code → u ≡ i → ⊥)
    → ((d : ℕ) → D d ≡ false → c ≡ operation_code → enables v ≡ false → is_touched b row i d ≡ true
    → ⊥)
    → Change b m h next (e ∷ h) P W D
byte_changes b row h m next i t c v a e P W D k page protect off =
    request_changes b row h m next i t (byte_write c v) a e P W D k
    (λ u value outside w. page u outside w.command w.here)
    (λ u value outside w. protect u outside w.command w.here)
    (λ d outside f code hit. not_read f)
    (λ d outside w.
    off d outside w.command (ap enables (sym (same_value v w.value w.content)) ∙ w.off)
    w.touched)
  where
    not_read : form.WriteByte ≡ form.ReadWord → ⊥
    not_read f = cc

gains_new : (s : Set) (x n : ℕ) → x ≡ n → gains s n x ≡ true
gains_new s x n e = or_right (s x) (x == n) (eq-eqb x n e)

pub gains_old : (s : Set) (x y n : ℕ) → x ≡ y → s y ≡ true → gains s n x ≡ true
gains_old s x y n e k = or_left (s x) (x == n) (ap s e ∙ k)

-- a write of PAGE
pub page_write : (b : Board) (row : Row) (h : List Entry) (m next : Machine) (i : ℕ) (t : Target)
    (v : ℕ)
    (a : Answered) (e : Entry) (o : Outcome)
    → Sending b row h m next i t (byte_write page_code v) a e
    → ending t m.regs (byte_write page_code v) a ≡ o
    → Admits b (row_by b row i (byte_write page_code v) o) next (e ∷ h)
page_write b row h m next i t v a e o k is = by o is
  where
    there : i < length b.targets
    there = within b.targets i t k.at

    stored : IsStored (λ x. Writes page_code (λ t v. is_page_value t.pages v) b m.bus
        (Some (asked t m.regs (byte_write page_code v))) a i x) (slice_index m.bus.page i)
        (slice_index next.bus.page i)
    stored = k.after.page i (let L : ℕ → Type 0 = λ n. i < n in subst L (sym k.belongs.pages)
        (within b.targets i t k.at))

    changes : Change b m h next (e ∷ h) (only i) empty empty
    changes = byte_changes b row h m next i t page_code v a e (only i) empty empty k
        (λ u f _ same. eqb-false u i f same) (λ u f (x : page_code ≡ write_protect_code). absurd
        (omega (arith, x))) (λ d f (x : page_code ≡ operation_code). absurd (omega (arith, x)))

    same : next.regs ≡ m.regs
    same =
        k.regs
        ∙ regs_same (byte_write page_code v) m.regs (ending t m.regs (byte_write page_code v) a)
        refl

    gained : gains (set_at row.pages i) v (slice_index next.bus.page i) ≡ true
    gained = elim (byte_or_old page_code (λ t v. is_page_value t.pages v) b row h m next i t v a e
        (slice_index m.bus.page i) (slice_index next.bus.page i) k stored) [
          | inl new ↦ gains_new (set_at row.pages i) (slice_index next.bus.page i) v new
          | inr old ↦
              gains_old (set_at row.pages i) (slice_index next.bus.page i)
              (slice_index m.bus.page i) v
              old (k.admits.pages i (within b.targets i t k.at))
        ]

    by : (o : Outcome) → ending t m.regs (byte_write page_code v) a ≡ o
        → Admits b (row_by b row i (byte_write page_code v) o) next (e ∷ h)
    by (Done x) is =
        admits_page b row m h next (e ∷ h) i (only v) k.shaped (within b.targets i t k.at)
        k.admits changes
        (eq-eqb (slice_index next.bus.page i) v
        (byte_when_done page_code (λ t v. is_page_value t.pages v) b row h m next i t v a e
        (slice_index m.bus.page i) (slice_index next.bus.page i) x k refl
        ((entered b row i t (byte_write page_code v) k.board k.at (k.duty K1)).known.0 refl) is
        stored))
        same k.counters
    by NotAcknowledged is =
        admits_page b row m h next (e ∷ h) i (gains (set_at row.pages i) v) k.shaped
        (within b.targets i t k.at) k.admits changes gained same k.counters
    by TimedOut is = admits_page b row m h next (e ∷ h) i (gains (set_at row.pages i) v) k.shaped
        (within b.targets i t k.at) k.admits changes gained same k.counters
    by Lost is = admits_page b row m h next (e ∷ h) i (gains (set_at row.pages i) v) k.shaped
        (within b.targets i t k.at) k.admits changes gained same k.counters

-- a write of WRITE_PROTECT
pub protect_write : (b : Board) (row : Row) (h : List Entry) (m next : Machine) (i : ℕ) (t : Target)
    (v : ℕ)
    (a : Answered) (e : Entry) (o : Outcome)
    → Sending b row h m next i t (byte_write write_protect_code v) a e
    → ending t m.regs (byte_write write_protect_code v) a ≡ o
    → Admits b (row_by b row i (byte_write write_protect_code v) o) next (e ∷ h)
protect_write b row h m next i t v a e o k is = by o is
  where
    stored : IsStored (λ x. Writes write_protect_code (λ t v. is_protection v) b m.bus
        (Some (asked t m.regs (byte_write write_protect_code v))) a i x)
        (slice_index m.bus.protect i)
        (slice_index next.bus.protect i)
    stored = k.after.protect i (let L : ℕ → Type 0 = λ n. i < n in subst L (sym k.belongs.protects)
        (within b.targets i t k.at))

    changes : Change b m h next (e ∷ h) empty (only i) empty
    changes = byte_changes b row h m next i t write_protect_code v a e empty (only i) empty k
        (λ u f (x : write_protect_code ≡ page_code). absurd (omega (arith, x)))
        (λ u f _ same. eqb-false u i f same)
        (λ d f (x : write_protect_code ≡ operation_code). absurd (omega (arith, x)))

    same : next.regs ≡ m.regs
    same = k.regs ∙ regs_same (byte_write write_protect_code v) m.regs
        (ending t m.regs (byte_write write_protect_code v) a) refl

    gained : gains (set_at row.protects i) v (slice_index next.bus.protect i) ≡ true
    gained = elim (byte_or_old write_protect_code (λ t v. is_protection v) b row h m next i t v a e
        (slice_index m.bus.protect i) (slice_index next.bus.protect i) k stored) [
          | inl new ↦ gains_new (set_at row.protects i) (slice_index next.bus.protect i) v new
          | inr old ↦ gains_old (set_at row.protects i) (slice_index next.bus.protect i)
              (slice_index m.bus.protect i) v old (k.admits.protects i (within b.targets i t k.at))
        ]

    by : (o : Outcome) → ending t m.regs (byte_write write_protect_code v) a ≡ o
        → Admits b (row_by b row i (byte_write write_protect_code v) o) next (e ∷ h)
    by (Done x) is =
        admits_protect b row m h next (e ∷ h) i (only v) k.shaped (within b.targets i t k.at)
        k.admits changes
        (eq-eqb (slice_index next.bus.protect i) v
        (byte_when_done write_protect_code (λ t v. is_protection v) b row h m next i t v a e
        (slice_index m.bus.protect i) (slice_index next.bus.protect i) x k refl
        ((entered b row i t (byte_write write_protect_code v) k.board k.at (k.duty K1)).known.1
        refl) is
        stored)) same k.counters
    by NotAcknowledged is =
        admits_protect b row m h next (e ∷ h) i (gains (set_at row.protects i) v)
        k.shaped (within b.targets i t k.at) k.admits changes gained same k.counters
    by TimedOut is =
        admits_protect b row m h next (e ∷ h) i (gains (set_at row.protects i) v) k.shaped
        (within b.targets i t k.at) k.admits changes gained same k.counters
    by Lost is =
        admits_protect b row m h next (e ∷ h) i (gains (set_at row.protects i) v) k.shaped
        (within b.targets i t k.at) k.admits changes gained same k.counters

-- what the effect of any other byte write leaves
abbrev pub after_other : Board → Row → ℕ → ℕ → ℕ → Row
after_other b row i c v =
    cond ((c == operation_code) && not (enables v)) (without_touched b row i) row

-- OPERATION, and every other code
pub other_write : (b : Board) (row : Row) (h : List Entry) (m next : Machine) (i : ℕ) (t : Target)
    (c v : ℕ)
    (a : Answered) (e : Entry)
    → Sending b row h m next i t (byte_write c v) a e → c ≢ page_code → c ≢ write_protect_code
    → Admits b (after_other b row i c v) next (e ∷ h)
other_write b row h m next i t c v a e k np nw =
    cond_both ((c == operation_code) && not (enables v)) (without_touched b row i) row
    (λ r. Admits b r next (e ∷ h))
    (λ off. admits_touched b row m h next (e ∷ h) i k.admits
    (byte_changes b row h m next i t c v a e empty empty (is_touched b row i) k (λ u f x _. np x)
    (λ u f x _. nw x) (λ d f x y z. false≢true (sym f ∙ z))) same k.counters)
    (λ on. admits_same b row m h next (e ∷ h) k.admits
    (byte_changes b row h m next i t c v a e empty empty empty k (λ u f x _. np x) (λ u f x _. nw x)
    (λ d f x y z. false≢true (sym on ∙ and_from (c == operation_code) (not (enables v))
    (eq-eqb c operation_code x) (not_from_false (enables v) y)))) same k.counters)
  where
    same : next.regs ≡ m.regs
    same = k.regs ∙ regs_same (byte_write c v) m.regs (ending t m.regs (byte_write c v) a) refl
