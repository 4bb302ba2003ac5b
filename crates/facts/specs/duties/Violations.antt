-- What is to blame where an instruction breaks one of the rules K1 to K5. Each case says that the
-- rule is broken by what it names, and that nothing before it in its order breaks it.
use Rattle.std.specs.Prelude.{◌≡◌, ◌≢◌, ◌<◌, ℕ, List, length, slice_get, take, Option, Some, None}
use Rattle.std.specs.Prelude.{true, IsTrue, All, if◌then◌else◌}
use Rattle.pmbus_table.specs.Codes.{all_pages, operation_code}
use Rattle.pmbus_table.specs.Commands.{form_read, is_paged, counts_as_write}
use Rattle.pmbus_table.specs.Operation.{enables}
use Rattle.pmbus_table.specs.Protect.{permits}
use Rattle.pmbus_table.specs.Voltage.{IsWithin, carries_voltage}
use Rattle.board.specs.Boards.{Allow, Target, Rail, Board}
use Rattle.targets.specs.Fitting.{IsIn}
use Rattle.targets.specs.States.{IsTargetAt}
use Rattle.seq_program.specs.declared.instr.Instr.{Instr}
use Rattle.seq_program.specs.declared.instr.Written.TheVariants as written
use Rattle.seq_program.specs.Requests.{Content, Value, Block, Transaction, Request}
use Rattle.seq_program.specs.Requests.{request_in, code_in}
use Rattle.facts.specs.declared.domain.span.Span.{Span}
use Rattle.facts.specs.declared.duties.rule.Rule.{Rule}
use Rattle.facts.specs.declared.duties.rule.Rule.TheVariants.{K1, K2, K3, K4, K5}
use Rattle.facts.specs.declared.duties.violation.Violation.{Violation}
use Rattle.facts.specs.declared.duties.violation.Violation.TheVariants.{NoEntry, Values}
use Rattle.facts.specs.declared.duties.violation.Violation.TheVariants.{BlockLength, BlockByte}
use Rattle.facts.specs.declared.duties.violation.Violation.TheVariants.{NoRoom, UnknownValue}
use Rattle.facts.specs.declared.duties.violation.Violation.TheVariants.{AllPages, Protected}
use Rattle.facts.specs.declared.duties.violation.Violation.TheVariants.{OverLimit, NotGood}
use Rattle.facts.specs.domain.Rows.{Row, set_at}
use Rattle.facts.specs.duties.Allowing.{allowing}
use Rattle.facts.specs.duties.Duties.{touches, written_span, IsWithinRange, LeavesRoom, IsInEntry}
use Rattle.facts.specs.duties.Duties.{IsKnownValue}

-- the rule that is broken
abbrev pub rule_of : Violation → Rule
rule_of NoEntry = K1
rule_of (Values span) = K1
rule_of BlockLength = K1
rule_of (BlockByte place) = K1
rule_of NoRoom = K1
rule_of UnknownValue = K1
rule_of AllPages = K2
rule_of (Protected protect) = K3
rule_of (OverLimit rail most) = K4
rule_of (NotGood rail need) = K5

-- the item at this place isn't so, and each before it is
pub record IsFirstNot {A : Type 0} (Is : A → Type 0) (items : List A) (place : ℕ) (item : A)
    : Type 0 where
  pub here : slice_get items place ≡ Some item
  pub fails : Is item → ⊥
  pub before : All Is (take place items)

-- K1: what is written isn't within the entry's ranges; a block's length comes before its bytes
abbrev pub IsOutside : Row → Allow → Content → Option ℕ → Violation → Type 0
IsOutside row e (Value value) None (Values span) =
    (span ≡ written_span row value) × (IsWithinRange e.values span → ⊥)
IsOutside row e (Block bytes) None BlockLength = IsIn e.length (length bytes) → ⊥
IsOutside row e (Block bytes) None (BlockByte place) =
    IsIn e.length (length bytes) × ((byte : ℕ) × IsFirstNot (IsIn e.values) bytes place byte)
IsOutside row e content (Some register) NoRoom = LeavesRoom e content → ⊥
IsOutside row e content register other = ⊥

pub record IsOutsideEntry (b : Board) (row : Row) (i : ℕ) (x : Transaction) (v : Violation)
    : Type 0 where
  pub entry : Allow
  pub listed : allowing b i x ≡ Some entry
  pub outside : IsOutside row entry x.content x.register v

-- K1: the entry takes what is written, which is none of the command's values
pub record WritesUnknown (b : Board) (row : Row) (i : ℕ) (x : Transaction) : Type 0 where
  pub target : Target
  pub at : IsTargetAt b i target
  pub entry : Allow
  pub listed : allowing b i x ≡ Some entry
  pub in_entry : IsInEntry row entry x
  pub unknown : IsKnownValue target x → ⊥

-- K2: a paged command is read while PAGE may stand for all pages
pub record ReadsAllPages (row : Row) (i : ℕ) (x : Transaction) : Type 0 where
  pub paged : IsTrue (is_paged (code_in x))
  pub reads : form_read (code_in x) ≡ Some x.form
  pub all : IsTrue (set_at row.pages i all_pages)

-- K3: the protection may be stored and doesn't permit the write, as each lower one does
pub record Forbids (row : Row) (i : ℕ) (x : Transaction) (protect : ℕ) : Type 0 where
  pub counts : IsTrue (counts_as_write (code_in x) x.form)
  pub stored : IsTrue (set_at row.protects i protect)
  pub forbids : permits protect (code_in x) ≢ Some true
  pub least : (lower : ℕ) → lower < protect → IsTrue (set_at row.protects i lower)
      → permits lower (code_in x) ≡ Some true

-- the voltages that may be commanded, by a word and where nothing is read
abbrev pub words_of : Row → Content → Option ℕ → Option Span
words_of row (Value (written.Byte value)) register = None
words_of row (Value value) None = Some (written_span row value)
words_of row content register = None

abbrev pub voltages_of : Row → Transaction → Option Span
voltages_of row x =
    if carries_voltage (code_in x) then words_of row x.content x.register else None

-- K4: the greatest voltage is over the limit of a rail that is touched, and of none before it
abbrev pub IsRailWithin : Row → ℕ → Target → ℕ → Rail → Type 0
IsRailWithin row i t most r = IsTrue (touches row i r) → IsWithin most t.exponent r.limit_uv

pub record ExceedsLimit (b : Board) (row : Row) (i : ℕ) (x : Transaction) (rail most : ℕ)
    : Type 0 where
  pub target : Target
  pub at : IsTargetAt b i target
  pub voltages : Span
  pub commanded : voltages_of row x ≡ Some voltages
  pub greatest : most ≡ voltages.hi
  pub limited : Rail
  pub first : IsFirstNot (IsRailWithin row i target most) b.rails rail limited

-- a value that enables is written to OPERATION
pub record TurnsOn (x : Transaction) : Type 0 where
  pub value : ℕ
  pub written : x.content ≡ Value (written.Byte value)
  pub operation : code_in x ≡ operation_code
  pub enabling : IsTrue (enables value)

-- K5: a rail is turned on that has a need that isn't known to be good, and none before it has
abbrev pub IsRailReady : Row → ℕ → Rail → Type 0
IsRailReady row i r = IsTrue (touches row i r) → All (λ need. IsTrue (row.good need)) r.needs

pub record LacksNeed (b : Board) (row : Row) (i : ℕ) (x : Transaction) (rail need : ℕ)
    : Type 0 where
  pub on : TurnsOn x
  pub dependent : Rail
  pub first : IsFirstNot (IsRailReady row i) b.rails rail dependent
  pub place : ℕ
  pub lacking : IsFirstNot (λ d. IsTrue (row.good d)) dependent.needs place need

-- what is to blame in a transaction with a target
abbrev pub IsToBlameAt : Board → Row → ℕ → Transaction → Violation → Type 0
IsToBlameAt b row i x NoEntry = allowing b i x ≡ None
IsToBlameAt b row i x (Values span) = IsOutsideEntry b row i x (Values span)
IsToBlameAt b row i x BlockLength = IsOutsideEntry b row i x BlockLength
IsToBlameAt b row i x (BlockByte place) = IsOutsideEntry b row i x (BlockByte place)
IsToBlameAt b row i x NoRoom = IsOutsideEntry b row i x NoRoom
IsToBlameAt b row i x UnknownValue = WritesUnknown b row i x
IsToBlameAt b row i x AllPages = ReadsAllPages row i x
IsToBlameAt b row i x (Protected protect) = Forbids row i x protect
IsToBlameAt b row i x (OverLimit rail most) = ExceedsLimit b row i x rail most
IsToBlameAt b row i x (NotGood rail need) = LacksNeed b row i x rail need

abbrev pub IsToBlameIn : Board → Row → Option Request → Violation → Type 0
IsToBlameIn b row None v = ⊥
IsToBlameIn b row (Some r) v = IsToBlameAt b row r.target r.transaction v

-- what an instruction is refused for at a row
abbrev pub IsToBlame : Board → Row → Instr → Violation → Type 0
IsToBlame b row i v = IsToBlameIn b row (request_in i) v
