-- What a write of an instruction turns on and off, and what is sure after it.
use Rattle.std.proofs.Common.{◌≡◌, ◌∙◌, ◌⊎◌, ℕ, Bool, true, false, ◌||◌, ◌&&◌, not, ap, sym, subst}
use Rattle.std.proofs.Common.{inl, inr, refl}
use Rattle.std.specs.Prelude.{IsTrue}
use Rattle.pmbus_table.specs.Codes.{operation_code}
use Rattle.pmbus_table.specs.Operation.{enables}
use Rattle.board.specs.Boards.{Board}
use Rattle.seq_program.specs.declared.instr.Instr.{Instr}
use Rattle.seq_program.specs.declared.instr.Instr.TheVariants as instr
use Rattle.seq_program.specs.declared.instr.Written.TheVariants as written
use Rattle.facts.specs.domain.Rows.{Row}
use Rattle.facts.specs.domain.Sets.{Set, empty}
use Rattle.facts.specs.duties.Duties.{is_touched}
use Rattle.program_lints.specs.Changes.{MayTurnOn, TurnsOff, SetsVoltage, IsOffAfter}
use Rattle.program_lints.specs.Changes.{HasVoltageAfter}

record SameWrite (t v u w : ℕ) : Type 0 where
  pub target : t ≡ u
  pub value : v ≡ w

same_write : (t v l u w k : ℕ) → instr.Write t operation_code (written.Byte v) l
    ≡ instr.Write u operation_code (written.Byte w) k → SameWrite t v u w
same_write t v l u w k e = record { target = cc e; value = cc e }

-- a write that enables turns on what it touches
pub on_touched : (b : Board) (row : Row) (i : Instr) (t v l d : ℕ) (s : Set)
    → i ≡ instr.Write t operation_code (written.Byte v) l
    → ((n : ℕ) → IsTrue (is_touched b row t n) → IsTrue (s n)) → MayTurnOn b row i d
    → IsTrue (s d)
on_touched b row i t v l d s is touched x =
    let same = same_write x.target x.value x.otherwise t v l (sym x.is ∙ is) in
    touched d (subst (λ n. IsTrue (is_touched b row n d)) same.target x.touched)

-- one that doesn't turns nothing on
pub nothing_on : (b : Board) (row : Row) (i : Instr) (t v l d : ℕ)
    → i ≡ instr.Write t operation_code (written.Byte v) l → enables v ≡ false
    → MayTurnOn b row i d → ⊥
nothing_on b row i t v l d is off x =
    let same = same_write x.target x.value x.otherwise t v l (sym x.is ∙ is) in
    bad (enables v) off (subst (λ n. enables n ≡ true) same.value x.on)
  where
    bad : (y : Bool) → y ≡ false → y ≡ true → ⊥
    bad y e f = cc (e, f)

-- nothing is in an empty set
pub not_empty : (s : Set) (d : ℕ) → s ≡ empty → IsTrue (s d) → ⊥
not_empty s d is t = let off = ap (λ (x : Set). x d) is in cc (off, t)

-- what is sure after a way
record Parts (x y z : Bool) : Type 0 where
  pub either : IsTrue x ⊎ IsTrue y
  pub kept : IsTrue z → ⊥

parts : (x y z : Bool) → IsTrue ((x || y) && not z) → Parts x y z
parts true y false t = record { either = inl refl; kept = λ k. cc k }
parts false true false t = record { either = inr refl; kept = λ k. cc k }
parts false false false t = absurd (cc t)
parts true y true t = absurd (cc t)
parts false true true t = absurd (cc t)
parts false false true t = absurd (cc t)

pub off_after : (b : Board) (row : Row) (i : Instr) (to : ℕ) (gains loses before : Set) (d : ℕ)
    → (IsTrue (gains d) → TurnsOff b row i to d) → (MayTurnOn b row i d → IsTrue (loses d))
    → IsTrue ((before d || gains d) && not (loses d)) → IsOffAfter b row i to before d
off_after b row i to gains loses before d turns on sure =
    let p = parts (before d) (gains d) (loses d) sure in
    (by p.either, λ x. p.kept (on x))
  where
    by : IsTrue (before d) ⊎ IsTrue (gains d) → IsTrue (before d) ⊎ TurnsOff b row i to d
    by (inl t) = inl t
    by (inr t) = inr (turns t)

pub voltage_after : (b : Board) (row : Row) (i : Instr) (to : ℕ) (gains loses before : Set)
    (d : ℕ) → (IsTrue (gains d) → SetsVoltage b row i to d)
    → IsTrue ((before d || gains d) && not (loses d)) → HasVoltageAfter b row i to before d
voltage_after b row i to gains loses before d sets sure =
    by (Parts.either (parts (before d) (gains d) (loses d) sure))
  where
    by : IsTrue (before d) ⊎ IsTrue (gains d) → IsTrue (before d) ⊎ SetsVoltage b row i to d
    by (inl t) = inl t
    by (inr t) = inr (sets t)
