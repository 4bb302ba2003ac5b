-- The first fault of obligations that are looked at one part after another.
use Rattle.std.proofs.Common.{◌≡◌, ℕ, Some, None, List, [], ◌∷◌, ◌++◌, refl, sym, subst}
use Rattle.std.proofs.Common.{inl, inr}
use Rattle.std.specs.Prelude.{Option}
use Rattle.board.specs.Boards.{Board}
use Rattle.seq_program.specs.declared.instr.Instr.{Instr}
use Rattle.facts.specs.declared.duties.rule.Rule.{Rule}
use Rattle.table_check.specs.Tables.{Table}
use Rattle.table_check.specs.checker.Obligations.{Obligation, IsFirstFault}
use Rattle.table_check.proofs.Places.{none_some}

-- a fault of the first list is one of both
pub front : (b : Board) (p : List Instr) (t : Table) (xs ys : List Obligation) (f : ℕ × Rule)
    → IsFirstFault b p t xs (Some f) → IsFirstFault b p t (xs ++ ys) (Some f)
front b p t [] ys f h = absurd (none_some f (sym h))
front b p t (x ∷ xs) ys f (inl h) = inl (h.0, front b p t xs ys f h.1)
front b p t (x ∷ xs) ys f (inr h) = inr h

-- with no fault in the first list, that of the second
pub back : (b : Board) (p : List Instr) (t : Table) (xs ys : List Obligation)
    (found : Option (ℕ × Rule)) → IsFirstFault b p t xs None → IsFirstFault b p t ys found
    → IsFirstFault b p t (xs ++ ys) found
back b p t [] ys found h k = k
back b p t (x ∷ xs) ys found (inl h) k = inl (h.0, back b p t xs ys found h.1 k)
back b p t (x ∷ xs) ys found (inr h) k = absurd (none_some _ h.1)

-- the first fault of what is left is that of all
abbrev pub Leaves : Board → List Instr → Table → List Obligation → List Obligation → Type 0
Leaves b p t all left = (found : Option (ℕ × Rule)) → IsFirstFault b p t left found
    → IsFirstFault b p t all found

pub leaves_all : (b : Board) (p : List Instr) (t : Table) (all : List Obligation)
    → Leaves b p t all all
leaves_all b p t all = λ found h. h

-- the next part has a fault
pub leaves_fault : (b : Board) (p : List Instr) (t : Table) (all left part rest : List Obligation)
    (f : ℕ × Rule) → Leaves b p t all left → left ≡ part ++ rest
    → IsFirstFault b p t part (Some f) → IsFirstFault b p t all (Some f)
leaves_fault b p t all left part rest f k e h =
    let P : List Obligation → Type 0 = λ os. IsFirstFault b p t os (Some f) in
    k (Some f) (subst P (sym e) (front b p t part rest f h))

-- the next part has none
pub leaves_rest : (b : Board) (p : List Instr) (t : Table) (all left part rest : List Obligation)
    → Leaves b p t all left → left ≡ part ++ rest → IsFirstFault b p t part None
    → Leaves b p t all rest
leaves_rest b p t all left part rest k e none = λ found h.
    let P : List Obligation → Type 0 = λ os. IsFirstFault b p t os found in
    k found (subst P (sym e) (back b p t part rest found none h))

-- nothing is left
pub leaves_none : (b : Board) (p : List Instr) (t : Table) (all left : List Obligation)
    → Leaves b p t all left → left ≡ [] → IsFirstFault b p t all None
leaves_none b p t all left k e =
    let P : List Obligation → Type 0 = λ os. IsFirstFault b p t os None in
    k None (subst P (sym e) refl)
