-- What is to blame breaks its rule, and the first rule that is broken is the first that isn't met.
use Rattle.std.proofs.Common.{◌≡◌, ◌∙◌, inl, inr, ℕ, List, [], ◌∷◌, Option, Some}
use Rattle.std.proofs.Common.{None, sym, ap, subst, refl}
use Rattle.std.specs.Prelude.{option_map, IfSome}
use Rattle.std.proofs.lemmas.Bool.{false≢true}
use Rattle.board.specs.Boards.{Board}
use Rattle.seq_program.specs.declared.instr.Instr.{Instr}
use Rattle.seq_program.specs.Requests.{Transaction, Request, request_in}
use Rattle.facts.specs.declared.duties.rule.Rule.{Rule}
use Rattle.facts.specs.declared.duties.violation.Violation.{Violation}
use Rattle.facts.specs.declared.duties.violation.Violation.TheVariants.{NoEntry, Values}
use Rattle.facts.specs.declared.duties.violation.Violation.TheVariants.{BlockLength, BlockByte}
use Rattle.facts.specs.declared.duties.violation.Violation.TheVariants.{NoRoom, UnknownValue}
use Rattle.facts.specs.declared.duties.violation.Violation.TheVariants.{AllPages, Protected}
use Rattle.facts.specs.declared.duties.violation.Violation.TheVariants.{OverLimit, NotGood}
use Rattle.facts.specs.domain.Rows.{Row}
use Rattle.facts.specs.duties.Duties.{MeetsAt, MeetsSent, IsFirstFailing}
use Rattle.facts.specs.duties.Violations.{rule_of, IsToBlameAt, IsToBlameIn, IsToBlame}
use Rattle.facts.specs.duties.Blaming.{Blames, BlamesFirst}
use Rattle.facts.proofs.Coded.Untaken.{entry_listed, outside_breaks, unknown_breaks}
use Rattle.facts.proofs.Coded.Limits.{exceeding_breaks, lacking_breaks}

pub breaks : (b : Board) (row : Row) (i : ℕ) (x : Transaction) (v : Violation)
    → IsToBlameAt b row i x v → MeetsAt b row i x (rule_of v) → ⊥
breaks b row i x NoEntry h met = entry_listed b row i x h met
breaks b row i x (Values span) h met = outside_breaks b row i x (Values span) h met
breaks b row i x BlockLength h met = outside_breaks b row i x BlockLength h met
breaks b row i x (BlockByte place) h met = outside_breaks b row i x (BlockByte place) h met
breaks b row i x NoRoom h met = outside_breaks b row i x NoRoom h met
breaks b row i x UnknownValue h met = unknown_breaks b row i x h met
breaks b row i x AllPages h met = false≢true (sym (met h.paged h.reads) ∙ h.all)
breaks b row i x (Protected protect) h met = h.forbids (met h.counts protect h.stored)
breaks b row i x (OverLimit rail most) h met = exceeding_breaks b row i x rail most h met
breaks b row i x (NotGood rail need) h met = lacking_breaks b row i x rail need h met

-- the first rule that is judged, and the last
pub first_blamed : (b : Board) (row : Row) (i : ℕ) (x : Transaction) (rule : Rule)
    (rules : List Rule) (v : Violation) → Blames b row i x rule (Some v)
    → BlamesFirst b row i x (rule ∷ rules) (Some v)
first_blamed b row i x rule rules v h = inr (v, refl, h.0, h.1)

pub last_judged : (b : Board) (row : Row) (i : ℕ) (x : Transaction) (rule : Rule)
    (found : Option Violation) → Blames b row i x rule found
    → BlamesFirst b row i x (rule ∷ []) found
last_judged b row i x rule None h = inl (h, refl)
last_judged b row i x rule (Some v) h = first_blamed b row i x rule [] v h

-- a message's first rule that is broken is its instruction's first that isn't met
pub first_failing : (b : Board) (row : Row) (i : Instr) (r : Request) (rules : List Rule)
    (found : Option Violation) → Some r ≡ request_in i
    → BlamesFirst b row r.target r.transaction rules found
    → IsFirstFailing b row i rules (option_map rule_of found)
first_failing b row i r [] found is h = ap (option_map rule_of) h
first_failing b row i r (rule ∷ rules) found is (inl h) = inl (
  subst (λ o. MeetsSent b row o rule) is h.0,
  first_failing b row i r rules found is h.1,
)
first_failing b row i r (rule ∷ rules) found is (inr h) = inr (
  (λ met. breaks b row r.target r.transaction h.0 h.3
      (subst (MeetsAt b row r.target r.transaction) (sym h.2)
      (subst (λ o. MeetsSent b row o rule) (sym is) met))),
  ap (option_map rule_of) h.1 ∙ ap (λ (one : Rule). Some one) h.2,
)

pub blamed : (b : Board) (row : Row) (i : Instr) (r : Request) (rules : List Rule)
    (found : Option Violation) → Some r ≡ request_in i
    → BlamesFirst b row r.target r.transaction rules found → IfSome found (IsToBlame b row i)
blamed b row i r [] found is h = subst (λ o. IfSome o (IsToBlame b row i)) (sym h) tt
blamed b row i r (rule ∷ rules) found is (inl h) = blamed b row i r rules found is h.1
blamed b row i r (rule ∷ rules) found is (inr h) =
    subst (λ o. IfSome o (IsToBlame b row i)) (sym h.1)
    (subst (λ o. IsToBlameIn b row o h.0) is h.3)
