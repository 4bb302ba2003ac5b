-- What holds where all obligations of a table hold, and that they do where none is told to fail.
use Rattle.std.proofs.Common.{◌≡◌, ◌+◌, ◌⊎◌, ℕ, zero, suc, Option, Some, None, List, [], ◌∷◌, ◌++◌}
use Rattle.std.proofs.Common.{slice_get, inl, inr, refl, sym, ap, subst, arith}
use Rattle.std.specs.Prelude.{IsTrue}
use Rattle.std.proofs.lemmas.Bool.{false≢true}
use Rattle.board.specs.Boards.{Board}
use Rattle.seq_program.specs.declared.instr.Instr.{Instr}
use Rattle.seq_program.specs.declared.instr.Instr.TheVariants as instr
use Rattle.seq_program.specs.Programs.{is_end}
use Rattle.facts.specs.declared.duties.rule.Rule.{Rule}
use Rattle.facts.specs.declared.duties.rule.Rule.TheVariants.{K1, K2, K3, K4, K5, K6, K7, K8, K9}
use Rattle.facts.specs.domain.Rows.{Row, IsRow}
use Rattle.seq_program.specs.Requests.{Request, request_in}
use Rattle.facts.specs.duties.Duties.{Meets, MeetsSent}
use Rattle.facts.specs.transfer.Edges.{Edge}
use Rattle.facts.specs.transfer.TimedEdges.{HasTimed}
use Rattle.facts.specs.transfer.Ticks.{own_ticks}
use Rattle.table_check.specs.Tables.{Table, row_of}
use Rattle.table_check.specs.checker.Rules.{IsCovered, Pays, PaysEnd}
use Rattle.table_check.specs.checker.Obligations.{Obligation, fault_of, shapes, of_edges, of_end}
use Rattle.table_check.specs.checker.Obligations.{of_row, of_places, AllHold, IsFirstFault}
use Rattle.table_check.proofs.Places.{some_same, none_some}

pub hold_front : (b : Board) (p : List Instr) (t : Table) (xs ys : List Obligation)
    → AllHold b p t (xs ++ ys) → AllHold b p t xs
hold_front b p t [] ys h = tt
hold_front b p t (x ∷ xs) ys h = (h.0, hold_front b p t xs ys h.1)

pub hold_back : (b : Board) (p : List Instr) (t : Table) (xs ys : List Obligation)
    → AllHold b p t (xs ++ ys) → AllHold b p t ys
hold_back b p t [] ys h = h
hold_back b p t (x ∷ xs) ys h = hold_back b p t xs ys h.1

-- what holds at an edge
pub hold_edge : (b : Board) (p : List Instr) (t : Table) (n : ℕ) (es : List (Edge × ℕ)) (x : Edge)
    (ticks : ℕ) → AllHold b p t (of_edges n es) → HasTimed es x ticks
    → IsCovered b t x × Pays b t ticks x
hold_edge b p t n [] x ticks h k = absurd k
hold_edge b p t n (e ∷ es) x ticks h (inl k) =
    let P : Edge → Type 0 = λ y. IsCovered b t y × Pays b t ticks y in
    let Q : ℕ → Type 0 = λ m. IsCovered b t e.0 × Pays b t m e.0 in
    subst P (sym k.0) (subst Q (sym k.1) (h.0, h.1.0))
hold_edge b p t n (e ∷ es) x ticks h (inr k) = hold_edge b p t n es x ticks h.1.1 k

-- what holds at a place
pub hold_place : (b : Board) (p : List Instr) (t : Table) (is' : List Instr) (rows : Table)
    (first n place : ℕ) (i : Instr) (row : Row)
    → AllHold b p t (of_places b first is' rows) → place ≡ first + n → slice_get is' n ≡ Some i
    → row_of rows n ≡ Some row → AllHold b p t (of_row b place i row)
hold_place b p t [] rows first n place i row h e a r = absurd (none_some i a)
hold_place b p t (x ∷ is') [] first n place i row h e a r = absurd (none_some row r)
hold_place b p t (x ∷ is') (None ∷ rows) first zero place i row h e a r = absurd (none_some row r)
hold_place b p t (x ∷ is') (None ∷ rows) first (suc n) place i row h e a r =
    hold_place b p t is' rows (first + 1) n place i row h (omega arith) a r
hold_place b p t (x ∷ is') (Some y ∷ rows) first zero place i row h e a r =
    let P : Instr → Type 0 = λ z. AllHold b p t (of_row b place z row) in
    let Q : Row → Type 0 = λ z. AllHold b p t (of_row b place x z) in
    let N : ℕ → Type 0 = λ z. AllHold b p t (of_row b z x y) in
    let here : first ≡ place = omega arith in
    subst P (some_same x i a) (subst Q (some_same y row r) (subst N here
    (hold_front b p t (of_row b first x y) (of_places b (first + 1) is' rows) h)))
hold_place b p t (x ∷ is') (Some y ∷ rows) first (suc n) place i row h e a r =
    hold_place b p t is' rows (first + 1) n place i row
    (hold_back b p t (of_row b first x y) (of_places b (first + 1) is' rows) h) (omega arith) a r

pub hold_shape : (b : Board) (p : List Instr) (t : Table) (rows : Table) (first n : ℕ)
    (row : Row)
    → AllHold b p t (shapes first rows) → row_of rows n ≡ Some row → IsRow b row
hold_shape b p t [] first n row h r = absurd (none_some row r)
hold_shape b p t (None ∷ rows) first zero row h r = absurd (none_some row r)
hold_shape b p t (None ∷ rows) first (suc n) row h r = hold_shape b p t rows (first + 1) n row h r
hold_shape b p t (Some y ∷ rows) first zero row h r = let P : Row
    → Type 0 = λ z. IsRow b z in subst P (some_same y row r) h.0
hold_shape b p t (Some y ∷ rows) first (suc n) row h r =
    hold_shape b p t rows (first + 1) n row h.1 r

-- the rules from K6 on ask nothing of an instruction alone
pub others : (b : Board) (row : Row) (o : Option Request)
    → MeetsSent b row o K6 × MeetsSent b row o K7
    × MeetsSent b row o K8 × MeetsSent b row o K9
others b row None = (tt, tt, tt, tt)
others b row (Some s) = (tt, tt, tt, tt)

pub met_duties : (b : Board) (p : List Instr) (t : Table) (n : ℕ) (i : Instr) (row : Row)
    → AllHold b p t (of_row b n i row) → (rule : Rule) → Meets b row i rule
met_duties b p t n i row h K1 = h.0
met_duties b p t n i row h K2 = h.1.0
met_duties b p t n i row h K3 = h.1.1.0
met_duties b p t n i row h K4 = h.1.1.1.0
met_duties b p t n i row h K5 = h.1.1.1.1.0
met_duties b p t n i row h K6 = (others b row (request_in i)).0
met_duties b p t n i row h K7 = (others b row (request_in i)).1
met_duties b p t n i row h K8 = (others b row (request_in i)).2
met_duties b p t n i row h K9 = (others b row (request_in i)).3

pub at_end : (b : Board) (p : List Instr) (t : Table) (n : ℕ) (i : Instr) (row : Row)
    → (i ≡ instr.End) ⊎ (i ≡ instr.Fail) → AllHold b p t (of_end n row i) → PaysEnd b row
at_end b p t n i row (inl e) h =
    (let P : Instr → Type 0 = λ x. AllHold b p t (of_end n row x) in subst P
    e h).0
at_end b p t n i row (inr e) h =
    (let P : Instr → Type 0 = λ x. AllHold b p t (of_end n row x) in subst P
    e h).0

pub worst_of_end : (b : Board) (i : Instr) → (i ≡ instr.End) ⊎ (i ≡ instr.Fail)
    → own_ticks b i ≡ 1
worst_of_end b i (inl e) = ap (own_ticks b) e
worst_of_end b i (inr e) = ap (own_ticks b) e

-- where none is told to fail, all hold
pub no_fault : (b : Board) (p : List Instr) (t : Table) (os : List Obligation)
    → IsFirstFault b p t os None → AllHold b p t os
no_fault b p t [] h = tt
no_fault b p t (o ∷ os) (inl h) = (h.0, no_fault b p t os h.1)
no_fault b p t (o ∷ os) (inr h) = absurd (none_some (fault_of o) h.1)

-- an instruction that ends the program is one of two
pub ends_by : (i : Instr) → IsTrue (is_end i) → (i ≡ instr.End) ⊎ (i ≡ instr.Fail)
ends_by instr.End e = inl refl
ends_by instr.Fail e = inr refl
ends_by (instr.Quick t read l) e = absurd (false≢true e)
ends_by (instr.Send t c l) e = absurd (false≢true e)
ends_by (instr.Receive t r l) e = absurd (false≢true e)
ends_by (instr.Write t c v l) e = absurd (false≢true e)
ends_by (instr.Read t c w r l) e = absurd (false≢true e)
ends_by (instr.Call t c v r l) e = absurd (false≢true e)
ends_by (instr.BlockWrite t c bytes l) e = absurd (false≢true e)
ends_by (instr.BlockRead t c r l) e = absurd (false≢true e)
ends_by (instr.BlockCall t c bytes r l) e = absurd (false≢true e)
ends_by (instr.Alert r l) e = absurd (false≢true e)
ends_by (instr.IfAlert l) e = absurd (false≢true e)
ends_by (instr.Set r v) e = absurd (false≢true e)
ends_by (instr.Add r v) e = absurd (false≢true e)
ends_by (instr.If r k v l) e = absurd (false≢true e)
ends_by (instr.Above r v l) e = absurd (false≢true e)
ends_by (instr.Count c v) e = absurd (false≢true e)
ends_by (instr.Again c l) e = absurd (false≢true e)
ends_by (instr.Wait n) e = absurd (false≢true e)
ends_by (instr.Goto l) e = absurd (false≢true e)
