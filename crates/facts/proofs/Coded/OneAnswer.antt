-- Of each rule that is broken, one thing is to blame.
use Rattle.std.proofs.Common.{◌≡◌, ◌∙◌, ◌⊎◌, inl, inr, ℕ, IsTrue, List, Option, Some}
use Rattle.std.proofs.Common.{None, length, sym, ap, subst, refl, arith}
use Rattle.std.proofs.lemmas.Bool.{cases_lt}
use Rattle.board.specs.Boards.{Allow, Rail, Board}
use Rattle.seq_program.specs.declared.instr.Written.{Written}
use Rattle.seq_program.specs.Requests.{Content, Nothing, Value, Block, Transaction, Request}
use Rattle.seq_program.specs.Requests.{request_in}
use Rattle.targets.specs.Fitting.{IsIn}
use Rattle.facts.specs.declared.duties.rule.Rule.TheVariants.{K1, K2, K3, K4, K5}
use Rattle.facts.specs.declared.duties.violation.Violation.{Violation}
use Rattle.facts.specs.declared.duties.violation.Violation.TheVariants.{NoEntry, Values}
use Rattle.facts.specs.declared.duties.violation.Violation.TheVariants.{BlockLength, BlockByte}
use Rattle.facts.specs.declared.duties.violation.Violation.TheVariants.{NoRoom, UnknownValue}
use Rattle.facts.specs.declared.duties.violation.Violation.TheVariants.{AllPages, Protected}
use Rattle.facts.specs.declared.duties.violation.Violation.TheVariants.{OverLimit, NotGood}
use Rattle.facts.specs.declared.domain.span.Span.{Span}
use Rattle.facts.specs.domain.Rows.{Row}
use Rattle.facts.specs.duties.Allowing.{allowing}
use Rattle.facts.specs.duties.Duties.{written_span, IsInEntry, MeetsSent}
use Rattle.facts.specs.duties.Violations.{rule_of, IsFirstNot, IsOutside, IsOutsideEntry}
use Rattle.facts.specs.duties.Violations.{WritesUnknown, Forbids, IsRailWithin, ExceedsLimit}
use Rattle.facts.specs.duties.Violations.{IsRailReady, LacksNeed, IsToBlameAt, IsToBlameIn}
use Rattle.facts.proofs.Shared.Places.{some_same, none_some}
use Rattle.facts.proofs.Coded.Firsts.{only_first}
use Rattle.facts.proofs.Coded.Untaken.{not_taken}
use Rattle.facts.proofs.Coded.Blamed.{breaks}
use Rattle.facts.specs.BlameLaws.{OneIsToBlame, BlameBreaks}

-- ---- K1

value_only : (row : Row) (e : Allow) (value : Written) (v : Violation)
    → IsOutside row e (Value value) None v → v ≡ Values (written_span row value)
value_only row e value (Values span) h = ap Values h.0
value_only row e value v h = absurd h

abbrev OfBlock : Allow → List ℕ → Violation → Type 0
OfBlock e bytes v =
    ((IsIn e.length (length bytes) → ⊥) × (v ≡ BlockLength))
    ⊎ (IsIn e.length (length bytes) × ((place : ℕ) × (byte : ℕ) × (v ≡ BlockByte place)
    × IsFirstNot (IsIn e.values) bytes place byte))

block_only : (row : Row) (e : Allow) (bytes : List ℕ) (v : Violation)
    → IsOutside row e (Block bytes) None v → OfBlock e bytes v
block_only row e bytes BlockLength h = inl (h, refl)
block_only row e bytes (BlockByte place) h = inr (h.0, (place, h.1.0, refl, h.1.1))
block_only row e bytes v h = absurd h

one_block : (e : Allow) (bytes : List ℕ) (v w : Violation) → OfBlock e bytes v → OfBlock e bytes w
    → v ≡ w
one_block e bytes v w (inl h) (inl k) = h.1 ∙ sym k.1
one_block e bytes v w (inl h) (inr k) = absurd (h.0 k.0)
one_block e bytes v w (inr h) (inl k) = absurd (k.0 h.0)
one_block e bytes v w (inr h) (inr k) =
    h.1.2 ∙ (ap BlockByte (only_first (IsIn e.values) bytes h.1.0 k.1.0 h.1.1 k.1.1 h.1.3
    k.1.3).0 ∙ sym k.1.2)

room_only : (row : Row) (e : Allow) (content : Content) (register : ℕ) (v : Violation)
    → IsOutside row e content (Some register) v → v ≡ NoRoom
room_only row e content register NoRoom h = refl
room_only row e (Value value) register v h = absurd h
room_only row e (Block bytes) register v h = absurd h
room_only row e Nothing register v h = absurd h

one_outside : (row : Row) (e : Allow) (content : Content) (register : Option ℕ) (v w : Violation)
    → IsOutside row e content register v → IsOutside row e content register w → v ≡ w
one_outside row e (Value value) None v w h k =
    value_only row e value v h ∙ sym (value_only row e value w k)
one_outside row e (Block bytes) None v w h k =
    one_block e bytes v w (block_only row e bytes v h) (block_only row e bytes w k)
one_outside row e Nothing None v w h k = absurd h
one_outside row e content (Some register) v w h k =
    room_only row e content register v h ∙ sym (room_only row e content register w k)

outside_one : (b : Board) (row : Row) (i : ℕ) (x : Transaction) (v w : Violation)
    → IsOutsideEntry b row i x v → IsOutsideEntry b row i x w → v ≡ w
outside_one b row i x v w h k =
    let same : k.entry ≡ h.entry = some_same k.entry h.entry (sym k.listed ∙ h.listed) in
    one_outside row h.entry x.content x.register v w h.outside
    (subst (λ e. IsOutside row e x.content x.register w) same k.outside)

outside_or_unknown : (b : Board) (row : Row) (i : ℕ) (x : Transaction) (v : Violation)
    → IsOutsideEntry b row i x v → WritesUnknown b row i x → ⊥
outside_or_unknown b row i x v h k =
    let same : k.entry ≡ h.entry = some_same k.entry h.entry (sym k.listed ∙ h.listed) in
    not_taken row h.entry x.content x.register v h.outside
    (subst (λ e. IsInEntry row e x) same k.in_entry)

abbrev OfK1 : Board → Row → ℕ → Transaction → Violation → Type 0
OfK1 b row i x v =
    ((v ≡ NoEntry) × (allowing b i x ≡ None))
    ⊎ (IsOutsideEntry b row i x v ⊎ ((v ≡ UnknownValue) × WritesUnknown b row i x))

of_k1 : (b : Board) (row : Row) (i : ℕ) (x : Transaction) (v : Violation)
    → IsToBlameAt b row i x v → rule_of v ≡ K1 → OfK1 b row i x v
of_k1 b row i x NoEntry h e = inl (refl, h)
of_k1 b row i x (Values span) h e = inr (inl h)
of_k1 b row i x BlockLength h e = inr (inl h)
of_k1 b row i x (BlockByte place) h e = inr (inl h)
of_k1 b row i x NoRoom h e = inr (inl h)
of_k1 b row i x UnknownValue h e = inr (inr (refl, h))
of_k1 b row i x AllPages h e = cc
of_k1 b row i x (Protected protect) h e = cc
of_k1 b row i x (OverLimit rail most) h e = cc
of_k1 b row i x (NotGood rail need) h e = cc

one_k1 : (b : Board) (row : Row) (i : ℕ) (x : Transaction) (v w : Violation)
    → OfK1 b row i x v → OfK1 b row i x w → v ≡ w
one_k1 b row i x v w (inl h) (inl k) = h.0 ∙ sym k.0
one_k1 b row i x v w (inl h) (inr (inl k)) = absurd (none_some k.entry (sym h.1 ∙ k.listed))
one_k1 b row i x v w (inl h) (inr (inr k)) = absurd (none_some k.1.entry (sym h.1 ∙ k.1.listed))
one_k1 b row i x v w (inr (inl h)) (inl k) = absurd (none_some h.entry (sym k.1 ∙ h.listed))
one_k1 b row i x v w (inr (inl h)) (inr (inl k)) = outside_one b row i x v w h k
one_k1 b row i x v w (inr (inl h)) (inr (inr k)) =
    absurd (outside_or_unknown b row i x v h k.1)
one_k1 b row i x v w (inr (inr h)) (inl k) = absurd (none_some h.1.entry (sym k.1 ∙ h.1.listed))
one_k1 b row i x v w (inr (inr h)) (inr (inl k)) =
    absurd (outside_or_unknown b row i x w k h.1)
one_k1 b row i x v w (inr (inr h)) (inr (inr k)) = h.0 ∙ sym k.0

-- ---- K2 to K5

of_k2 : (b : Board) (row : Row) (i : ℕ) (x : Transaction) (v : Violation)
    → IsToBlameAt b row i x v → K2 ≡ rule_of v → AllPages ≡ v
of_k2 b row i x AllPages h e = refl
of_k2 b row i x NoEntry h e = cc
of_k2 b row i x (Values span) h e = cc
of_k2 b row i x BlockLength h e = cc
of_k2 b row i x (BlockByte place) h e = cc
of_k2 b row i x NoRoom h e = cc
of_k2 b row i x UnknownValue h e = cc
of_k2 b row i x (Protected protect) h e = cc
of_k2 b row i x (OverLimit rail most) h e = cc
of_k2 b row i x (NotGood rail need) h e = cc

same_least : (row : Row) (i : ℕ) (x : Transaction) (p q : ℕ) → Forbids row i x p
    → Forbids row i x q → p ≡ q
same_least row i x p q h k = elim (cases_lt p q) [
  | inl lt ↦ absurd (h.forbids (k.least p lt h.stored))
  | inr le ↦ elim (cases_lt q p) [
    | inl lt ↦ absurd (k.forbids (h.least q lt k.stored))
    | inr ge ↦ omega arith
  ]
]

of_k3 : (b : Board) (row : Row) (i : ℕ) (x : Transaction) (p : ℕ) (v : Violation)
    → Forbids row i x p → IsToBlameAt b row i x v → K3 ≡ rule_of v → Protected p ≡ v
of_k3 b row i x p (Protected q) h k e = ap Protected (same_least row i x p q h k)
of_k3 b row i x p NoEntry h k e = cc
of_k3 b row i x p (Values span) h k e = cc
of_k3 b row i x p BlockLength h k e = cc
of_k3 b row i x p (BlockByte place) h k e = cc
of_k3 b row i x p NoRoom h k e = cc
of_k3 b row i x p UnknownValue h k e = cc
of_k3 b row i x p AllPages h k e = cc
of_k3 b row i x p (OverLimit rail most) h k e = cc
of_k3 b row i x p (NotGood rail need) h k e = cc

-- the same greatest voltage, target and rail
same_limit : (b : Board) (row : Row) (i : ℕ) (x : Transaction) (rail most d n : ℕ)
    → ExceedsLimit b row i x rail most → ExceedsLimit b row i x d n
    → OverLimit rail most ≡ OverLimit d n
same_limit b row i x rail most d n h k =
    let target = some_same h.target k.target (sym h.at ∙ k.at) in
    let span = some_same h.voltages k.voltages (sym h.commanded ∙ k.commanded) in
    let greatest : most ≡ n = h.greatest ∙ (ap (λ (s : Span). s.hi) span ∙ sym k.greatest) in
    let first : IsFirstNot (IsRailWithin row i k.target n) b.rails rail h.limited =
    subst (λ t. IsFirstNot (IsRailWithin row i t n) b.rails rail h.limited) target
    (subst (λ m. IsFirstNot (IsRailWithin row i h.target m) b.rails rail h.limited) greatest
    h.first) in
    let place : rail ≡ d =
    (only_first (IsRailWithin row i k.target n) b.rails rail d h.limited k.limited first
    k.first).0 in
    ap (λ r. OverLimit r most) place ∙ ap (OverLimit d) greatest

of_k4 : (b : Board) (row : Row) (i : ℕ) (x : Transaction) (rail most : ℕ) (v : Violation)
    → ExceedsLimit b row i x rail most → IsToBlameAt b row i x v → K4 ≡ rule_of v
    → OverLimit rail most ≡ v
of_k4 b row i x rail most (OverLimit d n) h k e = same_limit b row i x rail most d n h k
of_k4 b row i x rail most NoEntry h k e = cc
of_k4 b row i x rail most (Values span) h k e = cc
of_k4 b row i x rail most BlockLength h k e = cc
of_k4 b row i x rail most (BlockByte place) h k e = cc
of_k4 b row i x rail most NoRoom h k e = cc
of_k4 b row i x rail most UnknownValue h k e = cc
of_k4 b row i x rail most AllPages h k e = cc
of_k4 b row i x rail most (Protected protect) h k e = cc
of_k4 b row i x rail most (NotGood d need) h k e = cc

same_need : (b : Board) (row : Row) (i : ℕ) (x : Transaction) (rail need d n : ℕ)
    → LacksNeed b row i x rail need → LacksNeed b row i x d n → NotGood rail need ≡ NotGood d n
same_need b row i x rail need d n h k =
    let first = only_first (IsRailReady row i) b.rails rail d h.dependent k.dependent h.first
    k.first in
    let lacking : IsFirstNot (λ m. IsTrue (row.good m)) k.dependent.needs h.place need =
    subst (λ (r : Rail). IsFirstNot (λ m. IsTrue (row.good m)) r.needs h.place need) first.1
    h.lacking in
    let same : need ≡ n = (only_first (λ m. IsTrue (row.good m)) k.dependent.needs h.place k.place
    need n lacking k.lacking).1 in
    ap (λ r. NotGood r need) first.0 ∙ ap (NotGood d) same

of_k5 : (b : Board) (row : Row) (i : ℕ) (x : Transaction) (rail need : ℕ) (v : Violation)
    → LacksNeed b row i x rail need → IsToBlameAt b row i x v → K5 ≡ rule_of v
    → NotGood rail need ≡ v
of_k5 b row i x rail need (NotGood d n) h k e = same_need b row i x rail need d n h k
of_k5 b row i x rail need NoEntry h k e = cc
of_k5 b row i x rail need (Values span) h k e = cc
of_k5 b row i x rail need BlockLength h k e = cc
of_k5 b row i x rail need (BlockByte place) h k e = cc
of_k5 b row i x rail need NoRoom h k e = cc
of_k5 b row i x rail need UnknownValue h k e = cc
of_k5 b row i x rail need AllPages h k e = cc
of_k5 b row i x rail need (Protected protect) h k e = cc
of_k5 b row i x rail need (OverLimit d most) h k e = cc

one_at : (b : Board) (row : Row) (i : ℕ) (x : Transaction) (v w : Violation)
    → IsToBlameAt b row i x v → IsToBlameAt b row i x w → rule_of v ≡ rule_of w → v ≡ w
one_at b row i x AllPages w h k e = of_k2 b row i x w k e
one_at b row i x (Protected p) w h k e = of_k3 b row i x p w h k e
one_at b row i x (OverLimit rail most) w h k e = of_k4 b row i x rail most w h k e
one_at b row i x (NotGood rail need) w h k e = of_k5 b row i x rail need w h k e
one_at b row i x NoEntry w h k e =
    one_k1 b row i x NoEntry w (of_k1 b row i x NoEntry h refl) (of_k1 b row i x w k (sym e))
one_at b row i x (Values span) w h k e =
    one_k1 b row i x (Values span) w (inr (inl h)) (of_k1 b row i x w k (sym e))
one_at b row i x BlockLength w h k e =
    one_k1 b row i x BlockLength w (inr (inl h)) (of_k1 b row i x w k (sym e))
one_at b row i x (BlockByte place) w h k e =
    one_k1 b row i x (BlockByte place) w (inr (inl h)) (of_k1 b row i x w k (sym e))
one_at b row i x NoRoom w h k e =
    one_k1 b row i x NoRoom w (inr (inl h)) (of_k1 b row i x w k (sym e))
one_at b row i x UnknownValue w h k e =
    one_k1 b row i x UnknownValue w (inr (inr (refl, h))) (of_k1 b row i x w k (sym e))

one_in : (b : Board) (row : Row) (o : Option Request) (v w : Violation)
    → IsToBlameIn b row o v → IsToBlameIn b row o w → rule_of v ≡ rule_of w → v ≡ w
one_in b row None v w h k e = absurd h
one_in b row (Some r) v w h k e = one_at b row r.target r.transaction v w h k e

breaks_in : (b : Board) (row : Row) (o : Option Request) (v : Violation) → IsToBlameIn b row o v
    → MeetsSent b row o (rule_of v) → ⊥
breaks_in b row None v h met = absurd h
breaks_in b row (Some r) v h met = breaks b row r.target r.transaction v h met

pub one_is_to_blame : OneIsToBlame
one_is_to_blame b i row v w h k e = one_in b row (request_in i) v w h k e

pub blame_breaks : BlameBreaks
blame_breaks b i row v h = breaks_in b row (request_in i) v h
