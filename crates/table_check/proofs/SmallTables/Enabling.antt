-- Places of programs that turn on rails, at rows of which the next ones know no more.
use Rattle.std.proofs.Common.{◌≡◌, ◌≤◌, ◌+◌, ℕ, Some, List, [], ◌∷◌}
use Rattle.std.proofs.Common.{slice_get}
use Rattle.std.proofs.Common.{◌&&◌, not, refl, inl, inr, arith, lit≤}
use Rattle.std.specs.Prelude.{IsTrue, All}
use Rattle.std.proofs.lemmas.Bool.{false≢true}
use Rattle.std.proofs.lemmas.List.Elements.{All-from_recursion}
use Rattle.smbus.specs.declared.message.Form.TheVariants.{WriteByte, ReadWord}
use Rattle.pmbus_table.specs.Codes.{operation_code, status_word_code}
use Rattle.seq_program.specs.declared.instr.Instr.{Instr}
use Rattle.seq_program.specs.declared.instr.Instr.TheVariants as to
use Rattle.seq_program.specs.declared.instr.Width.TheVariants as width
use Rattle.seq_program.specs.declared.instr.Written.TheVariants as written
use Rattle.simulator.specs.Allowed.{is_operation_value}
use Rattle.facts.specs.declared.domain.source.Source.{Source}
use Rattle.facts.specs.declared.domain.source.Source.TheVariants as source
use Rattle.facts.specs.declared.domain.span.Span.{Span}
use Rattle.facts.specs.domain.Sets.{Set, empty, only}
use Rattle.facts.specs.domain.Rows.{Row}
use Rattle.seq_program.specs.Requests.{write, read}
use Rattle.facts.specs.duties.Duties.{one, touches, is_touched, MayBeSent, HasNeeds}
use Rattle.facts.specs.transfer.Edges.{edge, good_bits, bounds, loaded, status_source}
use Rattle.facts.specs.transfer.Ticks.{frame_ticks}
use Rattle.table_check.specs.Tables.{Table, row_of}
use Rattle.table_check.specs.checker.Obligations.{AllHold, of_row}
use Rattle.table_check.specs.checker.SmallTables.{two_rails, small_target, entry, row_at}
use Rattle.table_check.specs.checker.SmallTables.{known_row, any_row, reported_row, a_word}
use Rattle.table_check.proofs.SmallTables.KnownRows.{each_rail, leads}
use Rattle.table_check.proofs.SmallTables.Owed.{leads_on}

-- ---- duties

-- a byte that is written to OPERATION
pub turned : (row : Row) (i address value : ℕ)
    → slice_get two_rails.targets i ≡ Some (small_target address)
    → value ≤ 255 → IsTrue (is_operation_value value)
    → MayBeSent two_rails row i (write operation_code (written.Byte value))
turned row i address value at small is = record {
  target = small_target address;
  at = at;
  entry = entry WriteByte operation_code;
  listed = refl;
  in_entry = (omega arith, small);
  known = ((λ e. cc), (λ e. cc), (λ e. is));
}

pub asked : (row : Row) → MayBeSent two_rails row 0 (read status_word_code width.Word 0)
asked row = record {
  target = small_target 0x40;
  at = refl;
  entry = entry ReadWord status_word_code;
  listed = refl;
  in_entry = tt;
  known = tt;
}

-- the first rail has no needs
pub first_needs : (good : Set) (span : Span) (s : Source) (base : ℕ)
    → HasNeeds two_rails (row_at good span s base) 0 (write operation_code (written.Byte 0x80))
first_needs good span s base same on d r rail =
    each_rail
    (λ d r. IsTrue (touches (row_at good span s base) 0 r)
    → All (λ need. IsTrue (good need)) r.needs)
    (λ touched. All-from_recursion (λ need. IsTrue (good need)) [] tt)
    (λ touched. absurd (false≢true touched)) d r rail

-- the second one needs the first
pub second_needs : (good : Set) (span : Span) (s : Source) (base : ℕ) → IsTrue (good 0)
    → HasNeeds two_rails (row_at good span s base) 1 (write operation_code (written.Byte 0x80))
second_needs good span s base first same on d r rail =
    each_rail
    (λ d r. IsTrue (touches (row_at good span s base) 1 r)
    → All (λ need. IsTrue (good need)) r.needs)
    (λ touched. absurd (false≢true touched))
    (λ touched. All-from_recursion (λ need. IsTrue (good need)) (0 ∷ []) (first, tt)) d r rail

-- ---- places

-- the first rail is turned on
pub first_on : (p : List Instr) (t : Table) (n m k fail : ℕ) → row_of t 1 ≡ Some (known_row m)
    → row_of t fail ≡ Some (any_row k) → 86 + m ≤ n → 86 + k ≤ n
    → AllHold two_rails p t
    (of_row two_rails 0 (to.Write 0 operation_code (written.Byte 0x80) fail) (known_row n))
unfolding frame_ticks
first_on p t n m k fail next other enough more =
    leads_on p t 0 86 (to.Write 0 operation_code (written.Byte 0x80) fail)
    empty (one 0) source.None n
    (edge 1 (known_row n)) (edge fail (known_row n))
    (turned (known_row n) 0 0x40 0x80 refl (lit≤ tt) refl)
    tt
    (first_needs empty (one 0) source.None n)
    (leads t 86 1 empty empty (one 0) (one 0) source.None source.None m n next
    (λ d x. x) (lit≤ tt, lit≤ tt) (inl refl) enough)
    (leads t 86 fail empty empty a_word (one 0) source.None source.None k n other
    (λ d x. x) (lit≤ tt, lit≤ tt) (inl refl) more)

-- it is asked for a report
pub asks : (p : List Instr) (t : Table) (n m k fail : ℕ)
    → row_of t 2 ≡ Some (reported_row empty m) → row_of t fail ≡ Some (any_row k) → 143 + m ≤ n
    → 143 + k ≤ n
    → AllHold two_rails p t
    (of_row two_rails 1 (to.Read 0 status_word_code width.Word 0 fail) (known_row n))
unfolding frame_ticks bounds loaded status_source
asks p t n m k fail next other enough more =
    leads_on p t 1 143 (to.Read 0 status_word_code width.Word 0 fail)
    empty (one 0) source.None n
    (edge 2 (reported_row empty n)) (edge fail (row_at empty (one 0) source.None n))
    (asked (known_row n))
    tt
    tt
    (leads t 143 2 empty empty a_word a_word (source.Status 0) (source.Status 0) m n next
    (λ d x. x) (lit≤ tt, lit≤ tt) (inr refl) enough)
    (leads t 143 fail empty empty a_word (one 0) source.None source.None k n other
    (λ d x. x) (lit≤ tt, lit≤ tt) (inl refl) more)

-- what it reports is looked at
pub looks : (p : List Instr) (t : Table) (n m k : ℕ)
    → row_of t 4 ≡ Some (reported_row (only 0) m) → row_of t 3 ≡ Some (any_row k) → 1 + m ≤ n
    → 1 + k ≤ n
    → AllHold two_rails p t (of_row two_rails 2 (to.If 0 good_bits 0 4) (reported_row empty n))
looks p t n m k next other enough more =
    leads_on p t 2 1 (to.If 0 good_bits 0 4)
    empty a_word (source.Status 0) n
    (edge 4 (reported_row (only 0) n)) (edge 3 (reported_row empty n)) tt tt tt
    (leads t 1 4 (only 0) (only 0) a_word a_word (source.Status 0) (source.Status 0) m n next
    (λ d x. x) (lit≤ tt, lit≤ tt) (inr refl) enough)
    (leads t 1 3 empty empty a_word a_word source.None (source.Status 0) k n other
    (λ d x. x) (lit≤ tt, lit≤ tt) (inl refl) more)

-- the second rail is turned on where the first one is good
pub second_on : (p : List Instr) (t : Table) (n m k fail : ℕ) → row_of t 5 ≡ Some (any_row m)
    → row_of t fail ≡ Some (any_row k) → 86 + m ≤ n → 86 + k ≤ n
    → AllHold two_rails p t
    (of_row two_rails 4 (to.Write 1 operation_code (written.Byte 0x80) fail)
    (reported_row (only 0) n))
unfolding frame_ticks
second_on p t n m k fail next other enough more =
    leads_on p t 4 86 (to.Write 1 operation_code (written.Byte 0x80) fail)
    (only 0) a_word (source.Status 0) n
    (edge 5 (reported_row (only 0) n)) (edge fail (reported_row (only 0) n))
    (turned (reported_row (only 0) n) 1 0x41 0x80 refl (lit≤ tt) refl)
    tt
    (second_needs (only 0) a_word (source.Status 0) n refl)
    (leads t 86 5 empty (only 0) a_word a_word source.None (source.Status 0) m n next
    (λ d x. absurd (false≢true x)) (lit≤ tt, lit≤ tt) (inl refl) enough)
    (leads t 86 fail empty (only 0) a_word a_word source.None (source.Status 0) k n other
    (λ d x. absurd (false≢true x)) (lit≤ tt, lit≤ tt) (inl refl) more)

-- the first rail is turned off, and is no longer good
pub first_off : (p : List Instr) (t : Table) (n m k fail : ℕ) → row_of t 5 ≡ Some (any_row m)
    → row_of t fail ≡ Some (any_row k) → 86 + m ≤ n → 86 + k ≤ n
    → AllHold two_rails p t
    (of_row two_rails 4 (to.Write 0 operation_code (written.Byte 0x00) fail)
    (reported_row (only 0) n))
unfolding frame_ticks
first_off p t n m k fail next other enough more =
    let left : Set = λ d. only 0 d && not (is_touched two_rails (reported_row (only 0) n) 0 d) in
    leads_on p t 4 86 (to.Write 0 operation_code (written.Byte 0x00) fail)
    (only 0) a_word (source.Status 0) n
    (edge 5 (row_at left a_word source.None n)) (edge fail (row_at left a_word source.None n))
    (turned (reported_row (only 0) n) 0 0x40 0x00 refl (lit≤ tt) refl)
    tt
    (λ same on. absurd (false≢true on))
    (leads t 86 5 empty left a_word a_word source.None source.None m n next
    (λ d x. absurd (false≢true x)) (lit≤ tt, lit≤ tt) (inl refl) enough)
    (leads t 86 fail empty left a_word a_word source.None source.None k n other
    (λ d x. absurd (false≢true x)) (lit≤ tt, lit≤ tt) (inl refl) more)
