-- The duties of an instruction at a row: what must be known before its message is sent.
use Rattle.std.specs.Prelude.{◌≡◌, ◌≤◌, ◌+◌, ◌==◌, ◌&&◌, ◌||◌, ◌⊎◌, ℕ, Bool, true, false, List, []}
use Rattle.std.specs.Prelude.{◌∷◌, length, slice_get, Option, Some, None, IsTrue, All}
use Rattle.pmbus_table.specs.Codes.{page_code, operation_code, write_protect_code}
use Rattle.pmbus_table.specs.Commands.{form_read, is_paged, counts_as_write}
use Rattle.pmbus_table.specs.Operation.{enables}
use Rattle.pmbus_table.specs.Protect.{permits, is_protection}
use Rattle.pmbus_table.specs.Voltage.{IsWithin, carries_voltage}
use Rattle.board.specs.declared.entry.Range.{Range}
use Rattle.board.specs.Boards.{Allow, Target, Rail, Board, entry_of}
use Rattle.board.specs.Valid.{is_page_value}
use Rattle.targets.specs.States.{IsTargetAt}
use Rattle.seq_program.specs.declared.instr.Instr.{Instr}
use Rattle.seq_program.specs.declared.instr.Written.{Written}
use Rattle.seq_program.specs.declared.instr.Written.TheVariants as written
use Rattle.seq_program.specs.Requests.{Content, Nothing, Value, Block, Transaction, Request}
use Rattle.seq_program.specs.Requests.{request_in}
use Rattle.seq_program.specs.Requests.{code_in}
use Rattle.simulator.specs.Allowed.{IsBlockIn, is_operation_value}
use Rattle.facts.specs.declared.duties.rule.Rule.{Rule}
use Rattle.facts.specs.declared.duties.rule.Rule.TheVariants.{K1, K2, K3, K4, K5}
use Rattle.facts.specs.declared.domain.span.Span.{Span}
use Rattle.facts.specs.domain.Sets.{Set}
use Rattle.pmbus_table.specs.Codes.{all_pages}
use Rattle.facts.specs.domain.Rows.{Row, set_at, span_at}

-- some page of the set selects the page (PMBus 1.3 Part II, 11.10)
abbrev pub may_select : Set → ℕ → Bool
may_select pages page = pages page || pages all_pages

-- the rail is touched at target i: some page that the target may store selects it
abbrev pub touches : Row → ℕ → Rail → Bool
touches row i r = (r.target == i) && may_select (set_at row.pages i) r.page

abbrev pub touches_some : Row → ℕ → Option Rail → Bool
touches_some row i None = false
touches_some row i (Some r) = touches row i r

abbrev pub is_touched : Board → Row → ℕ → ℕ → Bool
is_touched b row i d = touches_some row i (slice_get b.rails d)

-- the values that may be written
abbrev pub one : ℕ → Span
one n = record { lo = n; hi = n }

abbrev pub written_span : Row → Written → Span
written_span row (written.Byte value) = one value
written_span row (written.Word value) = one value
written_span row (written.Register register) = span_at row.regs register

abbrev pub IsWithinRange : Range → Span → Type 0
IsWithinRange r s = (r.low ≤ s.lo) × (s.hi ≤ r.high)

-- what is written lies in the entry's ranges
abbrev pub IsContentIn : Row → Allow → Content → Type 0
IsContentIn row e (Value value) = IsWithinRange e.values (written_span row value)
IsContentIn row e (Block bytes) = IsBlockIn e bytes
IsContentIn row e Nothing = Unit {0}

-- both blocks of a Block Process Call have at most 255 bytes together (SMBus 3.2, 6.5.8)
abbrev pub LeavesRoom : Allow → Content → Type 0
LeavesRoom e (Block bytes) = length bytes + e.length.high ≤ 255
LeavesRoom e _ = Unit {0}

-- the ranges are those of what is read, where something is
abbrev pub IsTaken : Row → Allow → Content → Option ℕ → Type 0
IsTaken row e content None = IsContentIn row e content
IsTaken row e content (Some register) = LeavesRoom e content

abbrev pub IsInEntry : Row → Allow → Transaction → Type 0
IsInEntry row e x = IsTaken row e x.content x.register

-- a byte that is written to PAGE, WRITE_PROTECT or OPERATION is one of the command's values
abbrev pub IsKnownContent : Target → ℕ → Content → Type 0
IsKnownContent t code (Value (written.Byte value)) =
    (code ≡ page_code → IsTrue (is_page_value t.pages value))
    × (code ≡ write_protect_code → IsTrue (is_protection value))
    × (code ≡ operation_code → IsTrue (is_operation_value value))
IsKnownContent t code _ = Unit {0}

abbrev pub IsKnownValue : Target → Transaction → Type 0
IsKnownValue t x = IsKnownContent t (code_in x) x.content

-- K1: the target allows the message, with every value that it may carry
pub record MayBeSent (b : Board) (row : Row) (i : ℕ) (x : Transaction) : Type 0 where
  pub target : Target
  pub at : IsTargetAt b i target
  pub entry : Allow
  pub listed : entry_of x.form (code_in x) target.allow ≡ Some entry
  pub in_entry : IsInEntry row entry x
  pub known : IsKnownValue target x

-- K2: a paged command isn't read while PAGE may stand for all pages
abbrev pub ReadsOnePage : Row → ℕ → Transaction → Type 0
ReadsOnePage row i x =
    IsTrue (is_paged (code_in x)) → form_read (code_in x) ≡ Some x.form
    → set_at row.pages i all_pages ≡ false

-- K3: every protection that may be stored permits the write
abbrev pub IsUnprotected : Row → ℕ → Transaction → Type 0
IsUnprotected row i x =
    IsTrue (counts_as_write (code_in x) x.form) → (protect : ℕ)
    → IsTrue (set_at row.protects i protect)
    → permits protect (code_in x) ≡ Some true

-- K4: the greatest voltage that may be commanded is within the limit of each rail that is touched
abbrev pub IsWithinLimits : Board → Row → ℕ → Span → Type 0
IsWithinLimits b row i values =
    (t : Target) (d : ℕ) (r : Rail) → IsTargetAt b i t → slice_get b.rails d ≡ Some r
    → IsTrue (touches row i r)
    → IsWithin values.hi t.exponent r.limit_uv

abbrev pub SetsWithinLimits : Board → Row → ℕ → ℕ → Content → Type 0
SetsWithinLimits b row i code (Value (written.Byte value)) = Unit {0}
SetsWithinLimits b row i code (Value value) = IsTrue (carries_voltage code)
    → IsWithinLimits b row i (written_span row value)
SetsWithinLimits b row i code _ = Unit {0}

-- a message that reads commands nothing
abbrev pub LimitsOf : Board → Row → ℕ → ℕ → Content → Option ℕ → Type 0
LimitsOf b row i code content None = SetsWithinLimits b row i code content
LimitsOf b row i code content (Some register) = Unit {0}

abbrev pub CommandsWithinLimits : Board → Row → ℕ → Transaction → Type 0
CommandsWithinLimits b row i x = LimitsOf b row i (code_in x) x.content x.register

-- K5: what a rail that is touched needs is good, where a value that enables is written
abbrev pub AreNeedsGood : Board → Row → ℕ → Type 0
AreNeedsGood b row i =
    (d : ℕ) (r : Rail) → slice_get b.rails d ≡ Some r → IsTrue (touches row i r)
    → All (λ need. IsTrue (row.good need)) r.needs

abbrev pub EnablesInOrder : Board → Row → ℕ → ℕ → Content → Type 0
EnablesInOrder b row i code (Value (written.Byte value)) =
    code ≡ operation_code → IsTrue (enables value) → AreNeedsGood b row i
EnablesInOrder b row i code _ = Unit {0}

abbrev pub HasNeeds : Board → Row → ℕ → Transaction → Type 0
HasNeeds b row i x = EnablesInOrder b row i (code_in x) x.content

-- a rule's duty of a transaction with a target; the rules from K6 on speak of tables
abbrev pub MeetsAt : Board → Row → ℕ → Transaction → Rule → Type 0
MeetsAt b row i x K1 = MayBeSent b row i x
MeetsAt b row i x K2 = ReadsOnePage row i x
MeetsAt b row i x K3 = IsUnprotected row i x
MeetsAt b row i x K4 = CommandsWithinLimits b row i x
MeetsAt b row i x K5 = HasNeeds b row i x
MeetsAt b row i x _ = Unit {0}

abbrev pub MeetsSent : Board → Row → Option Request → Rule → Type 0
MeetsSent b row None rule = Unit {0}
MeetsSent b row (Some r) rule = MeetsAt b row r.target r.transaction rule

-- an instruction that sends nothing to a target has no duties
abbrev pub Meets : Board → Row → Instr → Rule → Type 0
Meets b row i rule = MeetsSent b row (request_in i) rule

-- the rules of an instruction, in order
abbrev pub duties : List Rule
duties = K1 ∷ K2 ∷ K3 ∷ K4 ∷ K5 ∷ []

-- the first of some rules that isn't met, if there is one
abbrev pub IsFirstFailing : Board → Row → Instr → List Rule → Option Rule → Type 0
IsFirstFailing b row i [] found = found ≡ None
IsFirstFailing b row i (rule ∷ rules) found =
    (Meets b row i rule × IsFirstFailing b row i rules found)
    ⊎ ((Meets b row i rule → ⊥) × (found ≡ Some rule))
