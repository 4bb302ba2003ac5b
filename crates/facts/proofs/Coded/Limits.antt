-- K4 and K5: rails that are touched, from what is found among a board's.
use Rattle.std.proofs.Common.{◌≡◌, ◌==◌, ◌&&◌, ℕ, Bool, true, false, IsTrue, List, All}
use Rattle.std.proofs.Common.{slice_get, slice_index_or, Option, Some, None, sym, subst, refl}
use Rattle.std.proofs.lemmas.Option.{slice_get-get_or}
use Rattle.std.specs.Prelude.{cond, option_map}
use Rattle.pmbus_table.specs.Codes.{operation_code}
use Rattle.pmbus_table.specs.Operation.{enables}
use Rattle.pmbus_table.specs.Voltage.{IsWithin, carries_voltage}
use Rattle.board.specs.Boards.{Rail, Board}
use Rattle.seq_program.specs.declared.instr.Written.TheVariants as written
use Rattle.seq_program.specs.Requests.{Content, Nothing, Value, Block, Transaction, code_in}
use Rattle.facts.specs.declared.domain.span.Span.{Span}
use Rattle.facts.specs.declared.duties.rule.Rule.TheVariants.{K5}
use Rattle.facts.specs.declared.duties.violation.Violation.TheVariants.{NotGood}
use Rattle.facts.specs.domain.Rows.{Row, set_at}
use Rattle.facts.specs.domain.Sets.{Set, pages_in, rails_in}
use Rattle.facts.specs.duties.Duties.{may_select, IsWithinLimits, LimitsOf}
use Rattle.facts.specs.duties.Duties.{CommandsWithinLimits}
use Rattle.facts.specs.duties.Duties.{AreNeedsGood, EnablesInOrder, HasNeeds}
use Rattle.facts.specs.duties.Violations.{words_of, IsFirstNot, IsRailWithin}
use Rattle.facts.specs.duties.Violations.{ExceedsLimit, TurnsOn, IsRailReady, LacksNeed}
use Rattle.facts.specs.duties.Blaming.{FindsUnready, Blames}
use Rattle.facts.proofs.Shared.Places.{all_at, some_same, none_some}
use Rattle.facts.proofs.Coded.Firsts.{not_all}

each_rail : (P : Rail → Type 0) (rails : List Rail)
    → ((d : ℕ) (r : Rail) → slice_get rails d ≡ Some r → P r) → All P rails
each_rail P rails each =
    λ d r lt. each d (slice_index_or rails d r) (slice_get-get_or rails d r lt)

-- ---- which voltages are commanded

limits_given : (b : Board) (row : Row) (i code : ℕ) (content : Content) (register : Option ℕ)
    (s : Span) → words_of row content register ≡ Some s → IsTrue (carries_voltage code)
    → LimitsOf b row i code content register → IsWithinLimits b row i s
limits_given b row i code (Value (written.Byte n)) None s is carries h = absurd (none_some s is)
limits_given b row i code (Value (written.Word n)) None s is carries h =
    subst (IsWithinLimits b row i) (some_same _ s is) (h carries)
limits_given b row i code (Value (written.Register r)) None s is carries h =
    subst (IsWithinLimits b row i) (some_same _ s is) (h carries)
limits_given b row i code Nothing None s is carries h = absurd (none_some s is)
limits_given b row i code (Block bytes) None s is carries h = absurd (none_some s is)
limits_given b row i code (Value (written.Byte n)) (Some r) s is carries h =
    absurd (none_some s is)
limits_given b row i code (Value (written.Word n)) (Some r) s is carries h =
    absurd (none_some s is)
limits_given b row i code (Value (written.Register n)) (Some r) s is carries h =
    absurd (none_some s is)
limits_given b row i code Nothing (Some r) s is carries h = absurd (none_some s is)
limits_given b row i code (Block bytes) (Some r) s is carries h = absurd (none_some s is)

-- a choice that gives something
given : (t : Bool) (o : Option Span) (s : Span) → cond t o None ≡ Some s → (t ≡ true) × (o ≡ Some s)
given true o s is = (refl, is)
given false o s is = absurd (none_some s is)

-- ---- K4

pub exceeding_breaks : (b : Board) (row : Row) (i : ℕ) (x : Transaction) (rail most : ℕ)
    → ExceedsLimit b row i x rail most → CommandsWithinLimits b row i x → ⊥
exceeding_breaks b row i x rail most h met =
    let from = given (carries_voltage (code_in x)) _ h.voltages h.commanded in
    let within =
    limits_given b row i (code_in x) x.content x.register h.voltages from.1 from.0 met in
    not_all (IsRailWithin row i h.target most) b.rails rail h.limited h.first
    (each_rail (IsRailWithin row i h.target most) b.rails
    (λ d r here touched. subst (λ n. IsWithin n h.target.exponent r.limit_uv) (sym h.greatest)
    (within h.target d r h.at here touched)))

-- ---- K5

off : (b : Board) (row : Row) (i : ℕ) (x : Transaction) (content : Content) → x.content ≡ content
    → (TurnsOn x → ⊥) → EnablesInOrder b row i (code_in x) content
off b row i x (Value (written.Byte n)) is never = λ operation enabling. absurd
    (never (record { value = n; written = is; operation = operation; enabling = enabling }))
off b row i x (Value (written.Word n)) is never = tt
off b row i x (Value (written.Register r)) is never = tt
off b row i x Nothing is never = tt
off b row i x (Block bytes) is never = tt

pub k5_off : (b : Board) (row : Row) (i : ℕ) (x : Transaction) → (TurnsOn x → ⊥)
    → Blames b row i x K5 None
k5_off b row i x never = off b row i x x.content refl never

in_order : (b : Board) (row : Row) (i code : ℕ) (content : Content) → AreNeedsGood b row i
    → EnablesInOrder b row i code content
in_order b row i code (Value (written.Byte n)) good = λ operation enabling. good
in_order b row i code (Value (written.Word n)) good = tt
in_order b row i code (Value (written.Register r)) good = tt
in_order b row i code Nothing good = tt
in_order b row i code (Block bytes) good = tt

abbrev Ready : Set → ℕ → Set → Rail → Type 0
Ready pages i good r =
    IsTrue ((r.target == i) && may_select pages r.page) → All (λ d. IsTrue (good d)) r.needs

pub k5 : (b : Board) (row : Row) (i : ℕ) (x : Transaction) (pages good : ℕ)
    (found : Option (ℕ × ℕ)) → TurnsOn x → pages_in pages ≡ set_at row.pages i
    → rails_in good ≡ row.good → FindsUnready pages i good b.rails found
    → Blames b row i x K5 (option_map (λ (at : ℕ × ℕ). NotGood at.0 at.1) found)
k5 b row i x pages good None on same same_good h =
    in_order b row i (code_in x) x.content
    (λ d r here touched. all_at (IsRailReady row i) b.rails d r
    (subst (λ g. All (Ready (set_at row.pages i) i g) b.rails) same_good
    (subst (λ u. All (Ready u i (rails_in good)) b.rails) same h)) here touched)
k5 b row i x pages good (Some (rail, need)) on same same_good h = (
  refl,
  record {
    on = on;
    dependent = h.0;
    first = subst (λ g. IsFirstNot (Ready (set_at row.pages i) i g) b.rails rail h.0) same_good
        (subst (λ u. IsFirstNot (Ready u i (rails_in good)) b.rails rail h.0) same h.1);
    place = h.2.1.0;
    lacking = subst (λ (g : Set). IsFirstNot (λ d. IsTrue (g d)) h.0.needs h.2.1.0 need) same_good
        h.2.1.1;
  },
)

ordered : (b : Board) (row : Row) (i code value : ℕ) (content : Content)
    → content ≡ Value (written.Byte value) → code ≡ operation_code → IsTrue (enables value)
    → EnablesInOrder b row i code content → AreNeedsGood b row i
ordered b row i code value content is operation enabling h =
    subst (λ c. EnablesInOrder b row i code c) is h operation enabling

pub lacking_breaks : (b : Board) (row : Row) (i : ℕ) (x : Transaction) (rail need : ℕ)
    → LacksNeed b row i x rail need → HasNeeds b row i x → ⊥
lacking_breaks b row i x rail need h met =
    not_all (IsRailReady row i) b.rails rail h.dependent h.first
    (each_rail (IsRailReady row i) b.rails
    (λ d r here touched. ordered b row i (code_in x) h.on.value x.content h.on.written
    h.on.operation h.on.enabling met d r here touched))
