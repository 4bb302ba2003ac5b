-- K1: what a target doesn't take is to blame, and is one thing.
use Rattle.std.proofs.Common.{◌≡◌, ◌∙◌, inl, inr, ℕ, Option, Some}
use Rattle.std.proofs.Common.{None, slice_get, sym, ap, subst, refl}
use Rattle.std.specs.Prelude.{option_and_then}
use Rattle.board.specs.Boards.{Allow, Target, Board, entry_of}
use Rattle.seq_program.specs.Requests.{Content, Value, Block, Transaction, code_in}
use Rattle.targets.specs.Fitting.{IsIn}
use Rattle.facts.specs.declared.duties.rule.Rule.TheVariants.{K1}
use Rattle.facts.specs.declared.duties.violation.Violation.{Violation}
use Rattle.facts.specs.declared.duties.violation.Violation.TheVariants.{Values}
use Rattle.facts.specs.declared.duties.violation.Violation.TheVariants.{BlockLength, BlockByte}
use Rattle.facts.specs.declared.duties.violation.Violation.TheVariants.{NoRoom}
use Rattle.facts.specs.domain.Rows.{Row}
use Rattle.facts.specs.duties.Allowing.{allowing}
use Rattle.facts.specs.duties.Duties.{IsWithinRange, IsTaken, MayBeSent}
use Rattle.facts.specs.duties.Duties.{IsKnownValue}
use Rattle.facts.specs.duties.Violations.{rule_of, IsOutside, IsOutsideEntry}
use Rattle.facts.specs.duties.Violations.{WritesUnknown, IsToBlameAt}
use Rattle.facts.specs.duties.Blaming.{FindsUntaken, Blames}
use Rattle.facts.proofs.Shared.Places.{some_same, none_some}
use Rattle.facts.proofs.Coded.Firsts.{not_all}

-- ---- the entry

allowing_at : (b : Board) (i : ℕ) (x : Transaction) (t : Target) → Some t ≡ slice_get b.targets i
    → allowing b i x ≡ entry_of x.form (code_in x) t.allow
allowing_at b i x t at' =
    ap (option_and_then (λ (u : Target). entry_of x.form (code_in x) u.allow)) (sym at')

-- ---- what isn't within its ranges

abbrev IsOfRanges : Violation → Type 0
IsOfRanges (Values span) = Unit {0}
IsOfRanges BlockLength = Unit {0}
IsOfRanges (BlockByte place) = Unit {0}
IsOfRanges NoRoom = Unit {0}
IsOfRanges other = ⊥

of_ranges : (row : Row) (e : Allow) (content : Content) (register : Option ℕ) (v : Violation)
    → IsOutside row e content register v → IsOfRanges v
of_ranges row e (Value value) None (Values span) h = tt
of_ranges row e (Block bytes) None BlockLength h = tt
of_ranges row e (Block bytes) None (BlockByte place) h = tt
of_ranges row e content (Some register) NoRoom h = tt
of_ranges row e content register v h = absurd h

outside_blames : (b : Board) (row : Row) (i : ℕ) (x : Transaction) (v : Violation)
    → IsOutsideEntry b row i x v → (rule_of v ≡ K1) × IsToBlameAt b row i x v
outside_blames b row i x (Values span) h = (refl, h)
outside_blames b row i x BlockLength h = (refl, h)
outside_blames b row i x (BlockByte place) h = (refl, h)
outside_blames b row i x NoRoom h = (refl, h)
outside_blames b row i x v h =
    absurd (of_ranges row h.entry x.content x.register v h.outside)

pub k1 : (b : Board) (row : Row) (i : ℕ) (x : Transaction) (t : Target) (e : Allow)
    (found : Option Violation) → Some t ≡ slice_get b.targets i
    → Some e ≡ entry_of x.form (code_in x) t.allow → FindsUntaken row t e x found
    → Blames b row i x K1 found
k1 b row i x t e None at' listed' h =
    record {
      target = t;
      at = sym at';
      entry = e;
      listed = sym listed';
      in_entry = h.0;
      known = h.1;
    }
k1 b row i x t e (Some v) at' listed' (inl h) =
    outside_blames b row i x v
    (record { entry = e; listed = allowing_at b i x t at' ∙ sym listed'; outside = h })
k1 b row i x t e (Some v) at' listed' (inr h) =
    let unknown : WritesUnknown b row i x = record {
      target = t;
      at = sym at';
      entry = e;
      listed = allowing_at b i x t at' ∙ sym listed';
      in_entry = h.1;
      unknown = h.2;
    } in
    subst (λ w. (rule_of w ≡ K1) × IsToBlameAt b row i x w) (sym h.0) (refl, unknown)

-- ---- it breaks the rule

pub not_taken : (row : Row) (e : Allow) (content : Content) (register : Option ℕ) (v : Violation)
    → IsOutside row e content register v → IsTaken row e content register → ⊥
not_taken row e (Value value) None (Values span) h taken =
    h.1 (subst (λ s. IsWithinRange e.values s) (sym h.0) taken)
not_taken row e (Block bytes) None BlockLength h taken = h taken.count
not_taken row e (Block bytes) None (BlockByte place) h taken =
    not_all (IsIn e.values) bytes place h.1.0 h.1.1 taken.each
not_taken row e content (Some register) NoRoom h taken = h taken
not_taken row e content register v h taken = absurd h

listed_at : (b : Board) (row : Row) (i : ℕ) (x : Transaction) (m : MayBeSent b row i x)
    → allowing b i x ≡ Some m.entry
listed_at b row i x m = allowing_at b i x m.target (sym m.at) ∙ m.listed

pub entry_listed : (b : Board) (row : Row) (i : ℕ) (x : Transaction) → allowing b i x ≡ None
    → MayBeSent b row i x → ⊥
entry_listed b row i x none m = none_some m.entry (sym none ∙ listed_at b row i x m)

pub outside_breaks : (b : Board) (row : Row) (i : ℕ) (x : Transaction) (v : Violation)
    → IsOutsideEntry b row i x v → MayBeSent b row i x → ⊥
outside_breaks b row i x v h m =
    let same : m.entry ≡ h.entry =
    some_same m.entry h.entry (sym (listed_at b row i x m) ∙ h.listed) in
    not_taken row h.entry x.content x.register v h.outside
    (subst (λ u. IsTaken row u x.content x.register) same m.in_entry)

pub unknown_breaks : (b : Board) (row : Row) (i : ℕ) (x : Transaction) → WritesUnknown b row i x
    → MayBeSent b row i x → ⊥
unknown_breaks b row i x h m =
    let same : m.target ≡ h.target = some_same m.target h.target (sym m.at ∙ h.at) in
    h.unknown (subst (λ u. IsKnownValue u x) same m.known)
