-- The edges of an instruction: where it may lead, and what is known there.
use Rattle.std.specs.Prelude.{ℕ, zero, suc, ◌+◌, ◌-◌, ◌*◌, ◌==◌, ◌&&◌, Bool, true, false, not}
use Rattle.std.specs.Prelude.{if◌then◌else◌, nat_lt, nat_le, min, max, List, [], ◌∷◌, ◌++◌, map}
use Rattle.std.specs.Prelude.{slice_index, slice_set, Option, Some, None, option_and_then, position}
use Rattle.pmbus_table.specs.Codes.{page_code, operation_code, write_protect_code, status_word_code}
use Rattle.pmbus_table.specs.Operation.{enables}
use Rattle.smbus.specs.declared.message.Form.{Form}
use Rattle.smbus.specs.declared.message.Form.TheVariants as form
use Rattle.board.specs.declared.entry.Range.{Range}
use Rattle.board.specs.Boards.{Rail, Board}
use Rattle.seq_program.specs.declared.instr.Instr.{Instr}
use Rattle.seq_program.specs.declared.instr.Instr.TheVariants as instr
use Rattle.seq_program.specs.declared.instr.Written.TheVariants as written
use Rattle.seq_program.specs.Requests.{Content, Value, Transaction, Request, request_in, code_in}
use Rattle.simulator.specs.Moves.{passes}
use Rattle.facts.specs.declared.domain.source.Source.{Source}
use Rattle.facts.specs.declared.domain.source.Source.TheVariants as source
use Rattle.facts.specs.declared.domain.span.Span.{Span}
use Rattle.facts.specs.domain.Sets.{Set, only, gains, keeps}
use Rattle.facts.specs.domain.Rows.{Row, set_at, span_at, source_at}
use Rattle.facts.specs.duties.Allowing.{values_at}
use Rattle.facts.specs.duties.Duties.{one, is_touched}

-- what a message does to what is known
pub data Effect : Type 0 where
  SetsPage : (value : ℕ) → Effect
  SetsProtect : (value : ℕ) → Effect
  TurnsOff : Effect
  ReadsStatus : (register : ℕ) → Effect
  ReadsPage : (register : ℕ) → Effect
  ReadsProtect : (register : ℕ) → Effect
  Loads : (register : ℕ) → Effect
  Nothing : Effect

-- of a byte that is written
abbrev pub written_effect : ℕ → ℕ → Effect
written_effect code value =
    if code == page_code then SetsPage value
    else if code == write_protect_code then SetsProtect value
    else if (code == operation_code) && not (enables value) then TurnsOff
    else Nothing

-- of a byte, and of a word, that is read
abbrev pub byte_effect : ℕ → ℕ → Effect
byte_effect code register =
    if code == page_code then ReadsPage register
    else if code == write_protect_code then ReadsProtect register
    else Loads register

abbrev pub word_effect : ℕ → ℕ → Effect
word_effect code register =
    if code == status_word_code then ReadsStatus register else Loads register

abbrev pub read_effect : Form → ℕ → ℕ → Effect
read_effect form.ReadByte code register = byte_effect code register
read_effect form.ReadWord code register = word_effect code register
read_effect _ code register = Loads register

-- of a message that reads nothing, and of one that reads
abbrev pub content_effect : ℕ → Content → Effect
content_effect code (Value (written.Byte value)) = written_effect code value
content_effect code _ = Nothing

abbrev pub effect_by : Transaction → Option ℕ → Effect
effect_by x None = content_effect (code_in x) x.content
effect_by x (Some register) = read_effect x.form (code_in x) register

abbrev pub effect_of : Transaction → Effect
effect_of x = effect_by x x.register

-- the sources that a test finds are forgotten
abbrev pub forget : (Source → Bool) → Source → Source
forget test s = if test s then source.None else s

abbrev pub clear : (Source → Bool) → List Source → List Source
clear test sources = map (forget test) sources

abbrev pub is_page_of : ℕ → Source → Bool
is_page_of i (source.Page u) = u == i
is_page_of i _ = false

abbrev pub is_protect_of : ℕ → Source → Bool
is_protect_of i (source.Protect u) = u == i
is_protect_of i _ = false

abbrev pub is_status_of : Set → Source → Bool
is_status_of rails (source.Status d) = rails d
is_status_of rails _ = false

abbrev pub with_page : Row → ℕ → Set → Row
with_page row i s =
    record row { pages = slice_set row.pages i s; sources = clear (is_page_of i) row.sources }

abbrev pub with_protect : Row → ℕ → Set → Row
with_protect row i s = record row {
  protects = slice_set row.protects i s;
  sources = clear (is_protect_of i) row.sources;
}

-- the rails that may be touched are no longer good
abbrev pub without_touched : Board → Row → ℕ → Row
without_touched b row i =
    record row {
      good = λ d. row.good d && not (is_touched b row i d);
      sources = clear (is_status_of (is_touched b row i)) row.sources;
    }

abbrev pub with_reg : Row → ℕ → Span → Source → Row
with_reg row r span s =
    record row { regs = slice_set row.regs r span; sources = slice_set row.sources r s }

-- the least value of a set among so many from low on, or the one after them
abbrev pub first_in : Set → ℕ → ℕ → ℕ
first_in s low zero = low
first_in s low (suc n) = if s low then low else first_in s (low + 1) n

-- the greatest value of a set up to n, or 0
abbrev pub last_in : Set → ℕ → ℕ
last_in s zero = 0
last_in s (suc n) = if s (suc n) then suc n else last_in s n

-- the least and the greatest byte of a set
unfoldable pub bounds : Set → Span
bounds s = record { lo = first_in s 0 255; hi = last_in s 255 }

abbrev pub span_of : Range → Span
span_of r = record { lo = r.low; hi = r.high }

-- the values of what is read
unfoldable pub loaded : Board → ℕ → Transaction → Span
loaded b i x = span_of (values_at b i x)

-- the rail on a page of a target, if there is one
abbrev pub rail_on : Board → ℕ → ℕ → Option ℕ
rail_on b i page = position (λ (r : Rail). (r.target == i) && (r.page == page)) b.rails

abbrev pub is_single : Span → Bool
is_single s = s.lo == s.hi

-- the only value of a set, if it has one alone
abbrev pub single : Set → Option ℕ
single s = if is_single (bounds s) then Some (Span.lo (bounds s)) else None

abbrev pub status_of : Option ℕ → Source
status_of None = source.None
status_of (Some d) = source.Status d

-- a status word is the report of the rail on the only page that the target may store
unfoldable pub status_source : Board → Row → ℕ → Source
status_source b row i = status_of (option_and_then (rail_on b i) (single (set_at row.pages i)))

-- the row after a message that is done
abbrev pub done_row : Board → Row → ℕ → Transaction → Effect → Row
done_row b row i x (SetsPage value) = with_page row i (only value)
done_row b row i x (SetsProtect value) = with_protect row i (only value)
done_row b row i x TurnsOff = without_touched b row i
done_row b row i x (ReadsStatus register) =
    with_reg (without_touched b row i) register (loaded b i x) (status_source b row i)
done_row b row i x (ReadsPage register) =
    with_reg row register (bounds (set_at row.pages i)) (source.Page i)
done_row b row i x (ReadsProtect register) =
    with_reg row register (bounds (set_at row.protects i)) (source.Protect i)
done_row b row i x (Loads register) = with_reg row register (loaded b i x) source.None
done_row b row i x Nothing = row

-- the row after one that isn't
abbrev pub else_row : Board → Row → ℕ → Effect → Row
else_row b row i (SetsPage value) = with_page row i (gains (set_at row.pages i) value)
else_row b row i (SetsProtect value) = with_protect row i (gains (set_at row.protects i) value)
else_row b row i TurnsOff = without_touched b row i
else_row b row i (ReadsStatus register) = without_touched b row i
else_row b row i _ = row

pub record Edge : Type 0 where
  pub to : ℕ
  pub row : Row

abbrev pub edge : ℕ → Row → Edge
edge to row = record { to = to; row = row }

-- an edge that is there where its condition holds
abbrev pub edge_if : Bool → ℕ → Row → List Edge
edge_if condition to row = if condition then edge to row ∷ [] else []

-- the done edge, and then the other one
abbrev pub sent_edges : Board → ℕ → Request → Row → List Edge
sent_edges b place r row =
    edge (place + 1) (done_row b row r.target r.transaction (effect_of r.transaction))
    ∷ edge r.otherwise (else_row b row r.target (effect_of r.transaction))
    ∷ []

abbrev pub in_span : Span → ℕ → Bool
in_span s value = nat_le s.lo value && nat_le value s.hi

abbrev pub all_bits : ℕ
all_bits = 0xFFFF

-- POWER_GOOD_N and OFF of a status word
abbrev pub good_bits : ℕ
good_bits = 0x0840

-- the values of a register's source that pass a test
abbrev pub keep : Row → Source → (ℕ → Bool) → Row
keep row (source.Page i) test =
    record row { pages = slice_set row.pages i (keeps (set_at row.pages i) test) }
keep row (source.Protect i) test =
    record row { protects = slice_set row.protects i (keeps (set_at row.protects i) test) }
keep row _ test = row

-- a rail is good where its last report is seen to be
abbrev pub learn_good : Row → Source → Bool → Row
learn_good row (source.Status d) is_seen =
    if is_seen then record row { good = gains row.good d } else row
learn_good row _ is_seen = row

-- the set of a source has a value left
abbrev pub has_any : Set → Bool
has_any s = s (Span.lo (bounds s))

abbrev pub is_possible : Row → Source → Bool
is_possible row (source.Page i) = has_any (set_at row.pages i)
is_possible row (source.Protect i) = has_any (set_at row.protects i)
is_possible row _ = true

-- where the jump of `if` may be taken, and what is known then
abbrev pub if_may_jump : Span → ℕ → ℕ → Bool
if_may_jump s mask value =
    passes value mask value && ((if is_single s then passes s.lo mask value else true)
    && (if mask == all_bits then in_span s value else true))

abbrev pub if_jump_row : Row → ℕ → ℕ → ℕ → Row
if_jump_row row r mask value =
    let s = source_at row.sources r in
    let kept = learn_good (keep row s (λ x. passes x mask value)) s
    (passes mask good_bits good_bits && passes value good_bits 0) in
    if mask == all_bits then record kept { regs = slice_set row.regs r (one value) } else kept

abbrev pub if_may_go_on : Span → ℕ → ℕ → Bool
if_may_go_on s mask value =
    (if is_single s then not (passes s.lo mask value) else true)
    && not ((mask == 0) && (value == 0))

abbrev pub if_next_row : Row → ℕ → ℕ → ℕ → Row
if_next_row row r mask value = keep row (source_at row.sources r) (λ x. not (passes x mask value))

-- those whose rows leave a value to the source of a register
abbrev pub possible : Row → ℕ → List Edge → List Edge
possible row r [] = []
possible row r (e ∷ edges) =
    (if is_possible e.row (source_at row.sources r) then e ∷ [] else []) ++ possible row r edges

abbrev pub plus : Span → ℕ → Span
plus s value = record { lo = min (s.lo + value) 65535; hi = min (s.hi + value) 65535 }

abbrev pub above : Span → ℕ → Span
above s value = record { lo = max s.lo (value + 1); hi = s.hi }

abbrev pub up_to : Span → ℕ → Span
up_to s value = record { lo = s.lo; hi = min s.hi value }

-- one less, where it is over 0
abbrev pub one_off : Span → Span
one_off s = record { lo = max s.lo 1 - 1; hi = s.hi - 1 }

abbrev pub reg_in : Row → ℕ → Span → Row
reg_in row r s = record row { regs = slice_set row.regs r s }

abbrev pub counter_in : Row → ℕ → Span → Row
counter_in row c s = record row { counters = slice_set row.counters c s }

-- a counter that is set pays what its least value was worth
abbrev pub with_counter : Row → ℕ → ℕ → Row
with_counter row c value =
    record row {
      counters = slice_set row.counters c (one value);
      base = row.base + slice_index row.coeffs c * Span.lo (span_at row.counters c);
      coeffs = slice_set row.coeffs c 0;
    }

-- a counter that falls pays its coefficient
abbrev pub taken_off : Row → ℕ → Row
taken_off row c =
    record (counter_in row c (one_off (span_at row.counters c)))
    { base = row.base + slice_index row.coeffs c }

abbrev pub a_byte : Span
a_byte = record { lo = 0; hi = 255 }

-- an instruction that sends nothing to a target; the jump edge first
abbrev pub other_edges : ℕ → Instr → Row → List Edge
other_edges place (instr.Alert r otherwise) row =
    edge (place + 1) (with_reg row r a_byte source.None) ∷ edge otherwise row ∷ []
other_edges place (instr.IfAlert jump) row = edge jump row ∷ edge (place + 1) row ∷ []
other_edges place (instr.Set r value) row =
    edge (place + 1) (with_reg row r (one value) source.None) ∷ []
other_edges place (instr.Add r value) row =
    edge (place + 1) (with_reg row r (plus (span_at row.regs r) value) source.None) ∷ []
other_edges place (instr.If r mask value jump) row =
    possible row r
    (edge_if (if_may_jump (span_at row.regs r) mask value) jump (if_jump_row row r mask value)
    ++ edge_if (if_may_go_on (span_at row.regs r) mask value) (place + 1)
    (if_next_row row r mask value))
other_edges place (instr.Above r value jump) row =
    edge_if (nat_lt value (Span.hi (span_at row.regs r))) jump
    (reg_in row r (above (span_at row.regs r) value))
    ++ edge_if (nat_le (Span.lo (span_at row.regs r)) value) (place + 1)
    (reg_in row r (up_to (span_at row.regs r) value))
other_edges place (instr.Count c value) row = edge (place + 1) (with_counter row c value) ∷ []
other_edges place (instr.Again c jump) row =
    edge_if (nat_le 1 (Span.hi (span_at row.counters c))) jump (taken_off row c)
    ++ edge_if (Span.lo (span_at row.counters c) == 0) (place + 1) (counter_in row c (one 0))
other_edges place (instr.Wait ticks) row = edge (place + 1) row ∷ []
other_edges place (instr.Goto jump) row = edge jump row ∷ []
other_edges place _ row = []

abbrev pub edges_of : Board → ℕ → Instr → Row → Option Request → List Edge
edges_of b place i row None = other_edges place i row
edges_of b place i row (Some r) = sent_edges b place r row

abbrev pub edges : Board → ℕ → Instr → Row → List Edge
edges b place i row = edges_of b place i row (request_in i)

-- after a lost arbitration: one more of them, which pays its coefficient, and else all as before
abbrev pub lost_row : Board → Row → Row
lost_row b row =
    record row {
      lost = record { lo = row.lost.lo + 1; hi = min (row.lost.hi + 1) b.contentions };
      base = row.base + row.lost_coeff;
    }

-- the edge of a lost arbitration to the `else` label, where one more may be lost
abbrev pub lost_edges : Board → Option ℕ → Row → List Edge
lost_edges b None row = []
lost_edges b (Some otherwise) row =
    edge_if (nat_lt row.lost.lo b.contentions) otherwise (lost_row b row)
