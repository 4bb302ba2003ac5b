-- Both edges of what is read, and of requests that change nothing.
use Rattle.std.proofs.Common.{◌≡◌, ◌≤◌, ◌<◌, ◌==◌, ◌&&◌, ◌%◌, ℕ, true, Option, Some, None, List, []}
use Rattle.std.proofs.Common.{◌∷◌, length, slice_get, slice_index, slice_index_or, slice_set, inl}
use Rattle.std.proofs.Common.{refl, sym, ap, subst, ◌∙◌, arith, All}
use Rattle.std.specs.Prelude.{option_and_then}
use Rattle.std.proofs.lemmas.Bool.{eqb-true, and_parts, false≢true}
use Rattle.std.proofs.lemmas.List.{length-map}
use Rattle.std.proofs.lemmas.List.Quantifiers.{position-Some}
use Rattle.smbus.specs.declared.message.Form.{Form}
use Rattle.smbus.specs.declared.message.Form.TheVariants as form
use Rattle.smbus.specs.Answered.{Answered}
use Rattle.pmbus_table.specs.Codes.{page_code, write_protect_code, status_word_code}
use Rattle.board.specs.declared.entry.Range.{Range}
use Rattle.board.specs.Boards.{Allow, Target, Rail, Board, entry_of}
use Rattle.board.specs.Valid.{full_values}
use Rattle.targets.specs.declared.outcome.Outcome.{Outcome}
use Rattle.targets.specs.declared.outcome.Outcome.TheVariants.{Done, NotAcknowledged, TimedOut}
use Rattle.targets.specs.declared.outcome.Outcome.TheVariants.{Lost}
use Rattle.targets.specs.Outcomes.{IsDone, returned_by}
use Rattle.targets.specs.States.{IsTargetAt}
use Rattle.targets.specs.Fitting.{IsIn, IsStoredBy}
use Rattle.seq_program.specs.declared.instr.Width.TheVariants as width
use Rattle.simulator.specs.Machines.{Machine, Entry}
use Rattle.facts.specs.declared.duties.rule.Rule.TheVariants.{K1}
use Rattle.facts.specs.declared.domain.source.Source.TheVariants as source
use Rattle.facts.specs.domain.Sets.{empty}
use Rattle.facts.specs.domain.Rows.{Row, Admits, IsFrom, InSpan, set_at}
use Rattle.seq_program.specs.Requests.{Transaction, read, code_in}
use Rattle.facts.specs.duties.Duties.{is_touched}
use Rattle.facts.specs.transfer.Edges.{Effect, ReadsStatus, ReadsPage, ReadsProtect, Loads, Nothing}
use Rattle.facts.specs.transfer.Edges.{effect_of, without_touched, bounds, span_of, loaded, single}
use Rattle.facts.specs.transfer.Edges.{rail_on}
use Rattle.facts.specs.transfer.Edges.{status_of, status_source, done_row, else_row}
use Rattle.facts.proofs.Shared.Places.{found, within, index_at, is_target, page_small}
use Rattle.facts.proofs.Shared.Places.{protect_small}
use Rattle.facts.proofs.Shared.Bounds.{bounds_hold, single_is}
use Rattle.facts.proofs.Sound.RowChanges.{Change, admits_same, admits_touched, admits_reg}
use Rattle.facts.proofs.Sound.Loads.{admits_load}
use Rattle.facts.proofs.Shared.Asking.{register_small}
use Rattle.facts.proofs.Shared.Asking.{asked, regs_after, ending, Sending, place_is}
use Rattle.facts.proofs.Shared.Asking.{values_same, values_there}
use Rattle.facts.proofs.Sound.SafeRequests.{Entered, entered}
use Rattle.facts.proofs.Sound.Effects.{is_done, done_value, request_changes}
use Rattle.facts.proofs.Sound.WriteEdges.{row_by, regs_same}

-- one argument for the done edge, and one for every other outcome
pub by_effect : (b : Board) (row : Row) (next : Machine) (h' : List Entry) (i : ℕ) (r : Transaction)
    (f : Effect) (o : Outcome) → effect_of r ≡ f
    → ((v : ℕ) → o ≡ Done v → Admits b (done_row b row i r f) next h')
    → (((v : ℕ) → o ≡ Done v → ⊥) → Admits b (else_row b row i f) next h')
    → Admits b (row_by b row i r o) next h'
by_effect b row next h' i r f (Done v) e done other = let P : Effect
    → Type 0 = λ x. Admits b (done_row b row i r x) next h' in subst P (sym e) (done v refl)
by_effect b row next h' i r f NotAcknowledged e done other = let P : Effect
    → Type 0 = λ x. Admits b (else_row b row i x) next h' in
    subst P (sym e) (other (λ v z. apart v z))
  where
    apart : (v : ℕ) → NotAcknowledged ≡ Done v → ⊥
    apart v z = cc
by_effect b row next h' i r f TimedOut e done other = let P : Effect
    → Type 0 = λ x. Admits b (else_row b row i x) next h' in
    subst P (sym e) (other (λ v z. apart v z))
  where
    apart : (v : ℕ) → TimedOut ≡ Done v → ⊥
    apart v z = cc
by_effect b row next h' i r f Lost e done other = let P : Effect
    → Type 0 = λ x. Admits b (else_row b row i x) next h' in
    subst P (sym e) (other (λ v z. apart v z))
  where
    apart : (v : ℕ) → Lost ≡ Done v → ⊥
    apart v z = cc

-- where it isn't done no register changes
pub regs_kept : (r : Transaction) (regs : List ℕ) (o : Outcome) → ((v : ℕ) → o ≡ Done v → ⊥)
    → regs_after r regs o ≡ regs
regs_kept r regs (Done v) never = absurd (never v refl)
regs_kept r regs NotAcknowledged never = refl
regs_kept r regs TimedOut never = refl
regs_kept r regs Lost never = refl

-- neither a byte write nor a read of STATUS_WORD
pub record IsQuiet (r : Transaction) : Type 0 where
  pub no_write : r.form ≡ form.WriteByte → ⊥
  pub no_status : r.form ≡ form.ReadWord → code_in r ≡ status_word_code → ⊥

pub quiet_changes : (b : Board) (row : Row) (h : List Entry) (m next : Machine) (i : ℕ) (t : Target)
    (r : Transaction) (a : Answered) (e : Entry) → Sending b row h m next i t r a e
    → IsQuiet r → Change b m h next (e ∷ h) empty empty empty
quiet_changes b row h m next i t r a e k q =
    request_changes b row h m next i t r a e empty empty empty k
    (λ u value _ w. q.no_write w.form) (λ u value _ w. q.no_write w.form)
    (λ d _ f c hit. q.no_status f c)
    (λ d _ w. q.no_write w.form)

-- nothing is known anew
pub nothing_edges : (b : Board) (row : Row) (h : List Entry) (m next : Machine) (i : ℕ) (t : Target)
    (r : Transaction) (a : Answered) (e : Entry) → Sending b row h m next i t r a e
    → IsQuiet r → effect_of r ≡ Nothing → r.register ≡ None
    → Admits b (row_by b row i r (ending t m.regs r a)) next (e ∷ h)
nothing_edges b row h m next i t r a e k q f none =
    by_effect b row next (e ∷ h) i r Nothing (ending t m.regs r a) f (λ _ _. same) (λ _. same)
  where
    same : Admits b row next (e ∷ h)
    same = admits_same b row m h next (e ∷ h) k.admits (quiet_changes b row h m next i t r a e k q)
        (k.regs ∙ regs_same r m.regs (ending t m.regs r a) none) k.counters

-- the register after a read that is done
loaded_regs : (b : Board) (row : Row) (h : List Entry) (m next : Machine) (i : ℕ) (t : Target)
    (r : Transaction)
    (a : Answered) (e : Entry) → Sending b row h m next i t r a e
    → (g v : ℕ) → r.register ≡ Some g → ending t m.regs r a ≡ Done v
    → next.regs ≡ slice_set m.regs g (returned_by r.form a.value a.bytes)
loaded_regs b row h m next i t r a e k g v some is =
    k.regs ∙ (ap (regs_after r m.regs) is
    ∙ (ap (λ (z : Option ℕ). Rattle.simulator.specs.Moves.with_result z v m.regs) some
    ∙ ap (slice_set m.regs g) (done_value t m.regs r a v is)))

-- a register is loaded
pub load_edges : (b : Board) (row : Row) (h : List Entry) (m next : Machine) (i : ℕ) (t : Target)
    (r : Transaction) (a : Answered) (e : Entry) → Sending b row h m next i t r a e
    → (g : ℕ) → IsQuiet r → effect_of r ≡ Loads g → r.register ≡ Some g → g < 8
    → InSpan (loaded b i r) (returned_by r.form a.value a.bytes)
    → Admits b (row_by b row i r (ending t m.regs r a)) next (e ∷ h)
load_edges b row h m next i t r a e k g q f some lt inside =
    by_effect b row next (e ∷ h) i r (Loads g) (ending t m.regs r a) f
    (λ v is. admits_load b row m h next (e ∷ h) g (loaded b i r) source.None
    (returned_by r.form a.value a.bytes) k.shaped k.admits changes lt inside tt k.counters
    (loaded_regs b row h m next i t r a e k g v some is))
    (λ never. admits_same b row m h next (e ∷ h) k.admits changes
    (k.regs ∙ regs_kept r m.regs (ending t m.regs r a) never) k.counters)
  where
    changes : Change b m h next (e ∷ h) empty empty empty
    changes = quiet_changes b row h m next i t r a e k q

-- what lies in the entry's range is loaded
pub in_loaded : (b : Board) (i : ℕ) (t : Target) (r : Transaction) (x : Allow) (v : ℕ)
    → IsTargetAt b i t
    → entry_of r.form (code_in r) t.allow ≡ Some x → IsIn x.values v → InSpan (loaded b i r) v
unfolding loaded
in_loaded b i t r x v at' listed is =
    let P : Range → Type 0 = λ z. InSpan (span_of z) v in
    subst P (sym (values_there b i t r x at' listed)) (is.above, is.below)

-- and of a form of bytes it is a byte
pub byte_loaded : (b : Board) (row : Row) (i : ℕ) (t : Target) (r : Transaction)
    (x : Entered b row t r)
    (v : ℕ)
    → IsTargetAt b i t → Range.high (full_values r.form) ≡ 255 → IsIn x.entry.values v
    → InSpan (loaded b i r) (v % 256)
byte_loaded b row i t r x v at' bytes is =
    let top : Range.high x.entry.values ≤ Range.high (full_values x.entry.form) =
    x.is_entry.in_values.below in
    let full : Range.high (full_values x.entry.form) ≡ 255 =
    ap (λ (f : Form). Range.high (full_values f)) x.same ∙ bytes in
    let below : v ≤ Range.high x.entry.values = is.below in
    let same : v ≡ v % 256 =
    small v (Range.high x.entry.values) (Range.high (full_values x.entry.form))
    below top full in
    let P : ℕ → Type 0 = λ n. InSpan (loaded b i r) n in
    subst P same (in_loaded b i t r x.entry v at' x.listed is)
  where
    small : (v high most : ℕ) → v ≤ high → high ≤ most → most ≡ 255 → v ≡ v % 256
    small v high most p q e = omega (arith, p, q, e)

-- a block's first byte
pub first_loaded : (b : Board) (row : Row) (i : ℕ) (t : Target) (r : Transaction)
    (x : Entered b row t r)
    (bytes : List ℕ) → IsTargetAt b i t → IsIn x.entry.length (length bytes)
    → All (IsIn x.entry.values) bytes
    → InSpan (loaded b i r) (slice_index bytes 0)
first_loaded b row i t r x bytes at' count each =
    let one : 1 ≤ Range.low x.entry.length = x.is_entry.in_length.above in
    let more : Range.low x.entry.length ≤ length bytes = count.above in
    in_loaded b i t r x.entry (slice_index bytes 0) at' x.listed
    (each 0 0 (omega (arith, one, more)))

-- reads of PAGE and WRITE_PROTECT
quiet_read : (c g : ℕ) → IsQuiet (read c width.Byte g)
quiet_read c g = record { no_write = λ e. apart e; no_status = λ e _. other e }
  where
    apart : form.ReadByte ≡ form.WriteByte → ⊥
    apart e = cc

    other : form.ReadByte ≡ form.ReadWord → ⊥
    other e = cc

stored_value : (b : Board) (i : ℕ) (t : Target) (regs : List ℕ) (r : Transaction) (stored : List ℕ)
    (v : ℕ)
    → Rattle.board.specs.Valid.IsBoard b → IsTargetAt b i t
    → IsStoredBy b stored (asked t regs r) v → slice_index stored i ≡ v
stored_value b i t regs r stored v is at' k =
    index_at stored i v 0
    (sym (ap (option_and_then (slice_get stored)) (place_is b i t is at')) ∙ k)

low_byte : (v x : ℕ) → x ≡ v → x < 256 → v % 256 ≡ x
low_byte v x e lt = omega (arith, e, lt)

pub page_read_edges : (b : Board) (row : Row) (h : List Entry) (m next : Machine) (i : ℕ)
    (t : Target)
    (g : ℕ) (a : Answered) (e : Entry)
    → Sending b row h m next i t (read page_code width.Byte g) a e
    → Admits b (row_by b row i (read page_code width.Byte g)
    (ending t m.regs (read page_code width.Byte g) a)) next (e ∷ h)
page_read_edges b row h m next i t g a e k =
    by_effect b row next (e ∷ h) i (read page_code width.Byte g)
    (ReadsPage g) (ending t m.regs (read page_code width.Byte g) a) refl
    (λ v is. admits_load b row m h next (e ∷ h) g (bounds (set_at row.pages i)) (source.Page i)
    (a.value % 256) k.shaped k.admits changes (register_small _ g k.request refl)
    (let P : ℕ → Type 0 = λ x. InSpan (bounds (set_at row.pages i)) x in
    subst P (sym value)
    (bounds_hold (set_at row.pages i) (slice_index m.bus.page i) (omega (arith, small))
    (k.admits.pages i (within b.targets i t k.at))))
    (within b.targets i t k.at, value ∙ sym (changes.pages i (within b.targets i t k.at) refl))
    k.counters
    (loaded_regs b row h m next i t (read page_code width.Byte g) a e k g v refl is))
    (λ never. admits_same b row m h next (e ∷ h) k.admits changes
    (k.regs ∙ regs_kept (read page_code width.Byte g) m.regs
    (ending t m.regs (read page_code width.Byte g) a) never) k.counters)
  where
    changes : Change b m h next (e ∷ h) empty empty empty
    changes =
        quiet_changes b row h m next i t (read page_code width.Byte g) a e k
        (quiet_read page_code g)

    small : slice_index m.bus.page i < 256
    small = page_small t (slice_index m.bus.page i) (is_target b i t k.board k.at)
        (k.belongs.targets i t k.at).page_valid

    value : a.value % 256 ≡ slice_index m.bus.page i
    value = low_byte a.value (slice_index m.bus.page i)
        (stored_value b i t m.regs (read page_code width.Byte g) m.bus.page a.value k.board k.at
        (k.fits.form.0.page refl))
        (page_small t (slice_index m.bus.page i) (is_target b i t k.board k.at)
        (k.belongs.targets i t k.at).page_valid)

pub protect_read_edges : (b : Board) (row : Row) (h : List Entry) (m next : Machine) (i : ℕ)
    (t : Target)
    (g : ℕ) (a : Answered) (e : Entry)
    → Sending b row h m next i t (read write_protect_code width.Byte g) a e
    → Admits b (row_by b row i (read write_protect_code width.Byte g)
    (ending t m.regs (read write_protect_code width.Byte g) a)) next (e ∷ h)
protect_read_edges b row h m next i t g a e k =
    by_effect b row next (e ∷ h) i (read write_protect_code width.Byte g) (ReadsProtect g)
    (ending t m.regs (read write_protect_code width.Byte g) a) refl
    (λ v is.
    admits_load b row m h next (e ∷ h) g (bounds (set_at row.protects i)) (source.Protect i)
    (a.value % 256) k.shaped k.admits changes (register_small _ g k.request refl)
    (let P : ℕ → Type 0 = λ x. InSpan (bounds (set_at row.protects i)) x in
    subst P (sym value) (bounds_hold (set_at row.protects i) (slice_index m.bus.protect i)
    (omega (arith, small)) (k.admits.protects i (within b.targets i t k.at))))
    (within b.targets i t k.at, value ∙ sym (changes.protects i (within b.targets i t k.at) refl))
    k.counters
    (loaded_regs b row h m next i t (read write_protect_code width.Byte g) a e k g v refl is))
    (λ never. admits_same b row m h next (e ∷ h) k.admits changes
    (k.regs ∙ regs_kept (read write_protect_code width.Byte g) m.regs
    (ending t m.regs (read write_protect_code width.Byte g) a) never) k.counters)
  where
    changes : Change b m h next (e ∷ h) empty empty empty
    changes = quiet_changes b row h m next i t (read write_protect_code width.Byte g) a e k
        (quiet_read write_protect_code g)

    small : slice_index m.bus.protect i < 256
    small = protect_small (slice_index m.bus.protect i) (k.belongs.targets i t k.at).protect_valid

    value : a.value % 256 ≡ slice_index m.bus.protect i
    value = low_byte a.value (slice_index m.bus.protect i)
        (stored_value b i t m.regs
        (read write_protect_code width.Byte g) m.bus.protect a.value k.board k.at
        (k.fits.form.0.protect refl))
        (protect_small (slice_index m.bus.protect i) (k.belongs.targets i t k.at).protect_valid)

-- a read of STATUS_WORD
abbrev pub status_read : ℕ → Transaction
status_read g = read status_word_code width.Word g

status_changes : (b : Board) (row : Row) (h : List Entry) (m next : Machine) (i : ℕ) (t : Target)
    (g : ℕ)
    (a : Answered) (e : Entry) → Sending b row h m next i t (status_read g) a e
    → Change b m h next (e ∷ h) empty empty (is_touched b row i)
status_changes b row h m next i t g a e k =
    request_changes b row h m next i t (status_read g) a e empty
    empty (is_touched b row i) k
    (λ u value _ w. apart w.form) (λ u value _ w. apart w.form)
    (λ d outside _ _ hit. false≢true (sym outside ∙ hit)) (λ d _ w. apart w.form)
  where
    apart : form.ReadWord ≡ form.WriteByte → ⊥
    apart e = cc

-- the word that is read is the last report of the rail on the only page
source_is_report : (b : Board) (row : Row) (h : List Entry) (m next : Machine) (i : ℕ) (t : Target)
    (g : ℕ)
    (a : Answered) (e : Entry) (v : ℕ) → Sending b row h m next i t (status_read g) a e
    → ending t m.regs (status_read g) a ≡ Done v
    → IsFrom b next (e ∷ h) (status_source b row i) a.value
unfolding status_source
source_is_report b row h m next i t g a e v k is = page (single (set_at row.pages i)) refl
  where
    small : slice_index m.bus.page i < 256
    small = page_small t (slice_index m.bus.page i) (is_target b i t k.board k.at)
        (k.belongs.targets i t k.at).page_valid

    on_page : (p : ℕ) → single (set_at row.pages i) ≡ Some p → (o : Option ℕ) → rail_on b i p ≡ o
        → IsFrom b next (e ∷ h) (status_of o) a.value
    on_page p sp None q = tt
    on_page p sp (Some d) q =
        let none : Rail = record { target = 0; page = 0; limit_uv = 0; needs = [] } in
        let z = position-Some (λ (r : Rail). (r.target == i) && (r.page == p)) b.rails d none q in
        let rail = found b.rails d z.0 in
        let same : slice_index_or b.rails d none ≡ rail.0 = index_at b.rails d rail.0 none rail.1 in
        let T : Rail → Type 0 = λ r. ((r.target == i) && (r.page == p)) ≡ true in
        let parts =
        and_parts (Rail.target rail.0 == i) (Rail.page rail.0 == p) (subst T same z.1) in
        let target : Rail.target rail.0 ≡ i = eqb-true (Rail.target rail.0) i parts.0 in
        let on : Rail.page rail.0 ≡ p = eqb-true (Rail.page rail.0) p parts.1 in
        let stored : slice_index m.bus.page i ≡ p =
        single_is (set_at row.pages i) p (slice_index m.bus.page i) sp (omega (arith, small))
        (k.admits.pages i (within b.targets i t k.at)) in
        let done : IsDone (asked t m.regs (status_read g)) a =
        is_done t m.regs (status_read g) a v is in
        let A : ℕ → Type 0 = λ n. IsTargetAt b n t in (
          z.0,
          inl ((k.does.reports d a.value).1 (record {
            rail = rail.0;
            target = t;
            at = record { rail = rail.1; target = subst A (sym target) k.at };
            page = ap (slice_index m.bus.page) target ∙ (stored ∙ sym on);
            reports = record {
              read = record { form = refl; to = refl; command = refl; returns = refl };
              accepted = done.accepted;
              cut_late = inl done.uncut;
            };
          })),
        )

    page : (o : Option ℕ) → single (set_at row.pages i) ≡ o
        → IsFrom b next (e ∷ h) (status_of (option_and_then (rail_on b i) o)) a.value
    page None q = tt
    page (Some p) q = on_page p q (rail_on b i p) refl

pub status_edges : (b : Board) (row : Row) (h : List Entry) (m next : Machine) (i : ℕ) (t : Target)
    (g : ℕ)
    (a : Answered) (e : Entry) → Sending b row h m next i t (status_read g) a e
    → Admits b (row_by b row i (status_read g) (ending t m.regs (status_read g) a)) next (e ∷ h)
status_edges b row h m next i t g a e k =
    by_effect b row next (e ∷ h) i (status_read g) (ReadsStatus g)
    (ending t m.regs (status_read g) a) refl
    (λ v is. admits_reg b (without_touched b row i) (record next { regs = m.regs }) next (e ∷ h) g
    (loaded b i (status_read g)) (status_source b row i) a.value
    k.shaped.reg_count (length-map row.sources _ ∙ k.shaped.source_count) first
    (register_small _ g k.request refl) inside
    (source_is_report b row h m next i t g a e v k is) refl refl
    (loaded_regs b row h m next i t (status_read g) a e k g v refl is))
    (λ never.
    admits_touched b row m h next (e ∷ h) i k.admits (status_changes b row h m next i t g a e k)
    (k.regs ∙ regs_kept (status_read g) m.regs (ending t m.regs (status_read g) a) never)
    k.counters)
  where
    inside : InSpan (loaded b i (status_read g)) a.value
    inside =
        let x = entered b row i t (status_read g) k.board k.at (k.duty K1) in
        let P : Range → Type 0 = λ z. IsIn z a.value in
        in_loaded b i t (status_read g) x.entry a.value k.at x.listed
        (subst P
        (values_same b i t m.regs (status_read g) x.entry k.board k.at x.listed) k.fits.form.0)

    first : Admits b (without_touched b row i) (record next { regs = m.regs }) (e ∷ h)
    first = admits_touched b row m h (record next { regs = m.regs }) (e ∷ h) i k.admits
        (let c : Change b m h next (e ∷ h) empty empty (is_touched b row i) =
        status_changes b row h m next i t g a e k in
        record { pages = c.pages; protects = c.protects; reports = c.reports; lost = c.lost }) refl
        k.counters
