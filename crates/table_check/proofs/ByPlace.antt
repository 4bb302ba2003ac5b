-- The rule book place by place, and the verdict on a table that keeps it where duties are met.
use Rattle.std.proofs.Common.{◌≡◌, ◌+◌, ◌⊎◌, ℕ, suc, Option, Some, None, List, [], ◌∷◌, ◌++◌}
use Rattle.std.proofs.Common.{slice_get, inl, inr, refl, sym, ap, subst, arith}
use Rattle.std.specs.Prelude.{IsTrue, Contains, length}
use Rattle.board.specs.Boards.{Board}
use Rattle.seq_program.specs.declared.instr.Instr.{Instr}
use Rattle.seq_program.specs.declared.instr.Instr.TheVariants as instr
use Rattle.seq_program.specs.Programs.{is_end}
use Rattle.facts.specs.declared.duties.rule.Rule.{Rule}
use Rattle.facts.specs.declared.duties.rule.Rule.TheVariants.{K1, K2, K3, K4, K5, K6, K7, K8, K9}
use Rattle.facts.specs.domain.Rows.{Row, IsRow}
use Rattle.seq_program.specs.Requests.{request_in}
use Rattle.facts.specs.duties.Duties.{Meets, duties}
use Rattle.facts.specs.transfer.Edges.{Edge}
use Rattle.facts.specs.transfer.TimedEdges.{HasTimed, timed_edges}
use Rattle.table_check.specs.Tables.{Table, row_of}
use Rattle.table_check.specs.checker.Rules.{IsCovered, Pays, PaysEnd, Starts}
use Rattle.table_check.specs.checker.Obligations.{Obligation, Start, Length, shapes, of_edges}
use Rattle.table_check.specs.checker.Obligations.{of_end}
use Rattle.table_check.specs.checker.Obligations.{of_row, of_places, AllHold, IsInductive}
use Rattle.table_check.specs.checker.Obligations.{IsFirstFault, IsVerdict, verdict_on}
use Rattle.table_check.specs.declared.checker.verdict.Verdict.{Verdict}
use Rattle.table_check.specs.declared.checker.verdict.Verdict.TheVariants as verdict
use Rattle.table_check.specs.checker.ByPlace.{Follows, EdgesHold, MeetsAll, KeepsDuties}
use Rattle.table_check.specs.checker.ByPlace.{InductiveByPlace, FollowingTablesTellDuties}
use Rattle.table_check.specs.checker.ByPlace.{ClosedTablesTellDutiesOrTicks}
use Rattle.table_check.proofs.Obligations.{hold_front, hold_back, hold_edge, hold_place, hold_shape}
use Rattle.table_check.proofs.Obligations.{met_duties, at_end, ends_by, others}

-- from the parts to the whole
pub all_append : (b : Board) (p : List Instr) (t : Table) (xs ys : List Obligation)
    → AllHold b p t xs → AllHold b p t ys → AllHold b p t (xs ++ ys)
all_append b p t [] ys h k = k
all_append b p t (x ∷ xs) ys h k = (h.0, all_append b p t xs ys h.1 k)

all_shapes : (b : Board) (p : List Instr) (t rows : Table) (first : ℕ)
    → ((n : ℕ) (u : Row) → row_of rows n ≡ Some u → IsRow b u) → AllHold b p t (shapes first rows)
all_shapes b p t [] first k = tt
all_shapes b p t (None ∷ rows) first k = all_shapes b p t rows (first + 1) (λ n u e. k (suc n) u e)
all_shapes b p t (Some x ∷ rows) first k =
    (k 0 x refl, all_shapes b p t rows (first + 1) (λ n u e. k (suc n) u e))

all_edges : (b : Board) (p : List Instr) (t : Table) (n : ℕ) (es : List (Edge × ℕ))
    → ((e : Edge) (ticks : ℕ) → HasTimed es e ticks → IsCovered b t e × Pays b t ticks e)
    → AllHold b p t (of_edges n es)
all_edges b p t n [] k = tt
all_edges b p t n (e ∷ es) k =
    let x = k e.0 e.1 (inl (refl, refl)) in
    (x.0, (x.1, all_edges b p t n es (λ f ticks h. k f ticks (inr h))))

-- an instruction that ends nothing owes nothing more
all_end : (b : Board) (p : List Instr) (t : Table) (n : ℕ) (row : Row) (i : Instr)
    → (IsTrue (is_end i) → PaysEnd b row) → AllHold b p t (of_end n row i)
all_end b p t n row instr.End k = (k refl, tt)
all_end b p t n row instr.Fail k = (k refl, tt)
all_end b p t n row (instr.Quick to read l) k = tt
all_end b p t n row (instr.Send to c l) k = tt
all_end b p t n row (instr.Receive to r l) k = tt
all_end b p t n row (instr.Write to c v l) k = tt
all_end b p t n row (instr.Read to c w r l) k = tt
all_end b p t n row (instr.Call to c v r l) k = tt
all_end b p t n row (instr.BlockWrite to c bytes l) k = tt
all_end b p t n row (instr.BlockRead to c r l) k = tt
all_end b p t n row (instr.BlockCall to c bytes r l) k = tt
all_end b p t n row (instr.Alert r l) k = tt
all_end b p t n row (instr.IfAlert l) k = tt
all_end b p t n row (instr.Set r v) k = tt
all_end b p t n row (instr.Add r v) k = tt
all_end b p t n row (instr.If r m v l) k = tt
all_end b p t n row (instr.Above r v l) k = tt
all_end b p t n row (instr.Count c v) k = tt
all_end b p t n row (instr.Again c l) k = tt
all_end b p t n row (instr.Wait x) k = tt
all_end b p t n row (instr.Goto l) k = tt

-- what an instruction owes after its duties
abbrev after_duties : Board → ℕ → Instr → Row → List Obligation
after_duties b n i row = of_edges n (timed_edges b n i row) ++ of_end n row i

all_after : (b : Board) (p : List Instr) (t : Table) (n : ℕ) (i : Instr) (u : Row)
    → EdgesHold b t n i u → AllHold b p t (after_duties b n i u)
all_after b p t n i u k =
    all_append b p t (of_edges n (timed_edges b n i u)) (of_end n u i)
    (all_edges b p t n (timed_edges b n i u)
    (λ e ticks h. (k.covered e ticks h, k.falls e ticks h)))
    (all_end b p t n u i k.ends)

all_row : (b : Board) (p : List Instr) (t : Table) (n : ℕ) (i : Instr) (u : Row)
    → MeetsAll b i u → EdgesHold b t n i u → AllHold b p t (of_row b n i u)
all_row b p t n i u duty k =
    (duty K1, (duty K2, (duty K3, (duty K4, (duty K5, all_after b p t n i u k)))))

-- what holds at the places of a part of the program
abbrev At : Board → List Instr → Table → ℕ → List Instr → Table
    → (ℕ → Instr → Row → Type 0) → Type 0
At b p t first is' rows Holds' = (n : ℕ) (i : Instr) (u : Row) → slice_get is' n ≡ Some i
    → row_of rows n ≡ Some u → Holds' (first + n) i u

later : (b : Board) (p : List Instr) (t : Table) (first : ℕ) (i : Instr) (is' : List Instr)
    (o : Option Row) (rows : Table) (Holds' : ℕ → Instr → Row → Type 0)
    → At b p t first (i ∷ is') (o ∷ rows) Holds' → At b p t (first + 1) is' rows Holds'
later b p t first i is' o rows Holds' k n j u a r =
    let P : ℕ → Type 0 = λ x. Holds' x j u in
    let e : first + suc n ≡ first + 1 + n = omega arith in subst P e (k (suc n) j u a r)

here : (b : Board) (p : List Instr) (t : Table) (first : ℕ) (i : Instr) (is' : List Instr)
    (u : Row) (rows : Table) (Holds' : ℕ → Instr → Row → Type 0)
    → At b p t first (i ∷ is') (Some u ∷ rows) Holds' → Holds' first i u
here b p t first i is' u rows Holds' k =
    let P : ℕ → Type 0 = λ x. Holds' x i u in
    let e : first + 0 ≡ first = omega arith in subst P e (k 0 i u refl refl)

all_places : (b : Board) (p : List Instr) (t : Table) (is' : List Instr) (rows : Table) (first : ℕ)
    → At b p t first is' rows (λ n i u. MeetsAll b i u × EdgesHold b t n i u)
    → AllHold b p t (of_places b first is' rows)
all_places b p t [] rows first k = tt
all_places b p t (i ∷ is') [] first k = tt
all_places b p t (i ∷ is') (None ∷ rows) first k =
    all_places b p t is' rows (first + 1)
    (later b p t first i is' None rows (λ n i u. MeetsAll b i u × EdgesHold b t n i u) k)
all_places b p t (i ∷ is') (Some x ∷ rows) first k =
    let at' = here b p t first i is' x rows (λ n i u. MeetsAll b i u × EdgesHold b t n i u) k in
    all_append b p t (of_row b first i x) (of_places b (first + 1) is' rows)
    (all_row b p t first i x at'.0 at'.1)
    (all_places b p t is' rows (first + 1)
    (later b p t first i is' (Some x) rows (λ n i u. MeetsAll b i u × EdgesHold b t n i u) k))

at_first : (n : ℕ) → n ≡ 0 + n
at_first n = omega arith

built : (b : Board) (p : List Instr) (t : Table) → Follows b p t → KeepsDuties b p t
    → IsInductive b p t
built b p t k met = (
  k.places,
  all_append b p t (shapes 0 t) (Start ∷ of_places b 0 p t) (all_shapes b p t t 0 k.rows) (
    k.start,
    all_places b p t p t 0 (λ n i u a r.
        let P : ℕ → Type 0 = λ x. MeetsAll b i u × EdgesHold b t x i u in
        subst P (at_first n) (met n i u a r, k.goes_on n i u a r (met n i u a r))),
  ),
)

-- and back
all_of : (b : Board) (p : List Instr) (t : Table) (n : ℕ) (i : Instr) (u : Row)
    → IsInductive b p t → slice_get p n ≡ Some i → row_of t n ≡ Some u
    → AllHold b p t (of_row b n i u)
all_of b p t n i u h a r =
    hold_place b p t p t 0 n n i u
    (hold_back b p t (shapes 0 t) (Start ∷ of_places b 0 p t) h.1).1 (at_first n) a r

goes : (b : Board) (p : List Instr) (t : Table) (n : ℕ) (i : Instr) (u : Row)
    → AllHold b p t (of_row b n i u) → EdgesHold b t n i u
goes b p t n i u h =
    let es = of_edges n (timed_edges b n i u) in
    let rest : AllHold b p t (after_duties b n i u) = h.1.1.1.1.1 in
    let front : AllHold b p t es = hold_front b p t es (of_end n u i) rest in
    record {
      covered = λ e ticks k. (hold_edge b p t n (timed_edges b n i u) e ticks front k).0;
      falls = λ e ticks k. (hold_edge b p t n (timed_edges b n i u) e ticks front k).1;
      ends = λ is-end. at_end b p t n i u (ends_by i is-end)
          (hold_back b p t es (of_end n u i) rest);
    }

pub by_place : InductiveByPlace
by_place b p t = (
  λ h. (
    record {
      places = h.0;
      rows = λ n u r. hold_shape b p t t 0 n u
          (hold_front b p t (shapes 0 t) (Start ∷ of_places b 0 p t) h.1) r;
      start = (hold_back b p t (shapes 0 t) (Start ∷ of_places b 0 p t) h.1).0;
      goes_on = λ n i u a r met. goes b p t n i u (all_of b p t n i u h a r);
    },
    λ n i u a r. met_duties b p t n i u (all_of b p t n i u h a r),
  ),
  λ k. built b p t k.0 k.1,
)

-- the first fault, where the first obligations hold
past : (b : Board) (p : List Instr) (t : Table) (xs ys : List Obligation)
    (found : Option (ℕ × Rule)) → AllHold b p t xs → IsFirstFault b p t (xs ++ ys) found
    → IsFirstFault b p t ys found
past b p t [] ys found h k = k
past b p t (x ∷ xs) ys found h (inl k) = past b p t xs ys found h.1 k.1
past b p t (x ∷ xs) ys found h (inr k) = absurd (k.0 h.0)

-- a fault that tells such a rule, or one further on
abbrev TellsOr : (Rule → Type 0) → Board → List Instr → Table → List Obligation
    → Option (ℕ × Rule) → Type 0
TellsOr Tells b p t rest found =
    ((f : ℕ × Rule) × (found ≡ Some f) × Tells f.1) ⊎ IsFirstFault b p t rest found

first_duty : Contains duties K1
first_duty = (0, omega arith, refl)

second_duty : Contains duties K2
second_duty = (1, omega arith, refl)

third_duty : Contains duties K3
third_duty = (2, omega arith, refl)

fourth_duty : Contains duties K4
fourth_duty = (3, omega arith, refl)

fifth_duty : Contains duties K5
fifth_duty = (4, omega arith, refl)

met_all : (b : Board) (i : Instr) (u : Row) → Meets b u i K1 → Meets b u i K2 → Meets b u i K3
    → Meets b u i K4 → Meets b u i K5 → MeetsAll b i u
met_all b i u k1 k2 k3 k4 k5 K1 = k1
met_all b i u k1 k2 k3 k4 k5 K2 = k2
met_all b i u k1 k2 k3 k4 k5 K3 = k3
met_all b i u k1 k2 k3 k4 k5 K4 = k4
met_all b i u k1 k2 k3 k4 k5 K5 = k5
met_all b i u k1 k2 k3 k4 k5 K6 = (others b u (request_in i)).0
met_all b i u k1 k2 k3 k4 k5 K7 = (others b u (request_in i)).1
met_all b i u k1 k2 k3 k4 k5 K8 = (others b u (request_in i)).2
met_all b i u k1 k2 k3 k4 k5 K9 = (others b u (request_in i)).3

-- past a row's duties
tells_duties : (Tells : Rule → Type 0) (b : Board) (p : List Instr) (t : Table) (n : ℕ) (i : Instr)
    (u : Row) (rest : List Obligation) (found : Option (ℕ × Rule))
    → ((rule : Rule) → Contains duties rule → Tells rule)
    → (MeetsAll b i u → IsFirstFault b p t (after_duties b n i u ++ rest) found
    → TellsOr Tells b p t rest found)
    → IsFirstFault b p t (of_row b n i u ++ rest) found → TellsOr Tells b p t rest found
tells_duties Tells b p t n i u rest found tell k (inr h) =
    inl ((n, K1), h.1, tell K1 first_duty)
tells_duties Tells b p t n i u rest found tell k (inl (k1, inr h)) =
    inl ((n, K2), h.1, tell K2 second_duty)
tells_duties Tells b p t n i u rest found tell k (inl (k1, inl (k2, inr h))) =
    inl ((n, K3), h.1, tell K3 third_duty)
tells_duties Tells b p t n i u rest found tell k (inl (k1, inl (k2, inl (k3, inr h)))) =
    inl ((n, K4), h.1, tell K4 fourth_duty)
tells_duties Tells b p t n i u rest found tell k (inl (k1, inl (k2, inl (k3, inl (k4, inr h))))) =
    inl ((n, K5), h.1, tell K5 fifth_duty)
tells_duties Tells b p t n i u rest found tell k
    (inl (k1, inl (k2, inl (k3, inl (k4, inl (k5, h)))))) =
    k (met_all b i u k1 k2 k3 k4 k5) h

-- past covered edges, and an end
tells_edges : (Tells : Rule → Type 0) (b : Board) (p : List Instr) (t : Table) (n : ℕ)
    (es : List (Edge × ℕ)) (rest : List Obligation) (found : Option (ℕ × Rule)) → Tells K7
    → ((e : Edge) (ticks : ℕ) → HasTimed es e ticks → IsCovered b t e)
    → IsFirstFault b p t (of_edges n es ++ rest) found
    → TellsOr Tells b p t rest found
tells_edges Tells b p t n [] rest found tell k h = inr h
tells_edges Tells b p t n (e ∷ es) rest found tell k (inr h) =
    absurd (h.0 (k e.0 e.1 (inl (refl, refl))))
tells_edges Tells b p t n (e ∷ es) rest found tell k (inl (covered, inr h)) =
    inl ((n, K7), h.1, tell)
tells_edges Tells b p t n (e ∷ es) rest found tell k (inl (covered, inl (falls, h))) =
    tells_edges Tells b p t n es rest found tell (λ f ticks there. k f ticks (inr there)) h

tells_end : (Tells : Rule → Type 0) (b : Board) (p : List Instr) (t : Table) (n : ℕ) (u : Row)
    (i : Instr) (rest : List Obligation) (found : Option (ℕ × Rule)) → Tells K7
    → IsFirstFault b p t (of_end n u i ++ rest) found → TellsOr Tells b p t rest found
tells_end Tells b p t n u instr.End rest found tell (inl h) = inr h.1
tells_end Tells b p t n u instr.End rest found tell (inr h) = inl ((n, K7), h.1, tell)
tells_end Tells b p t n u instr.Fail rest found tell (inl h) = inr h.1
tells_end Tells b p t n u instr.Fail rest found tell (inr h) = inl ((n, K7), h.1, tell)
tells_end Tells b p t n u (instr.Quick to read l) rest found tell h = inr h
tells_end Tells b p t n u (instr.Send to c l) rest found tell h = inr h
tells_end Tells b p t n u (instr.Receive to r l) rest found tell h = inr h
tells_end Tells b p t n u (instr.Write to c v l) rest found tell h = inr h
tells_end Tells b p t n u (instr.Read to c w r l) rest found tell h = inr h
tells_end Tells b p t n u (instr.Call to c v r l) rest found tell h = inr h
tells_end Tells b p t n u (instr.BlockWrite to c bytes l) rest found tell h = inr h
tells_end Tells b p t n u (instr.BlockRead to c r l) rest found tell h = inr h
tells_end Tells b p t n u (instr.BlockCall to c bytes r l) rest found tell h = inr h
tells_end Tells b p t n u (instr.Alert r l) rest found tell h = inr h
tells_end Tells b p t n u (instr.IfAlert l) rest found tell h = inr h
tells_end Tells b p t n u (instr.Set r v) rest found tell h = inr h
tells_end Tells b p t n u (instr.Add r v) rest found tell h = inr h
tells_end Tells b p t n u (instr.If r m v l) rest found tell h = inr h
tells_end Tells b p t n u (instr.Above r v l) rest found tell h = inr h
tells_end Tells b p t n u (instr.Count c v) rest found tell h = inr h
tells_end Tells b p t n u (instr.Again c l) rest found tell h = inr h
tells_end Tells b p t n u (instr.Wait x) rest found tell h = inr h
tells_end Tells b p t n u (instr.Goto l) rest found tell h = inr h

or_further : (Tells : Rule → Type 0) (b : Board) (p : List Instr) (t : Table)
    (here' rest : List Obligation) (found : Option (ℕ × Rule)) → TellsOr Tells b p t here' found
    → (IsFirstFault b p t here' found → TellsOr Tells b p t rest found)
    → TellsOr Tells b p t rest found
or_further Tells b p t here' rest found (inl tells) further = inl tells
or_further Tells b p t here' rest found (inr h) further = further h

-- place by place
abbrev TellsRow : (Rule → Type 0) → Board → List Instr → Table → ℕ → Instr → Row → Type 0
TellsRow Tells b p t n i u = (rest : List Obligation) (found : Option (ℕ × Rule))
    → IsFirstFault b p t (of_row b n i u ++ rest) found → TellsOr Tells b p t rest found

tells_places : (Tells : Rule → Type 0) (b : Board) (p : List Instr) (t : Table)
    (is' : List Instr) (rows : Table) (first : ℕ) (found : Option (ℕ × Rule))
    → At b p t first is' rows (TellsRow Tells b p t)
    → IsFirstFault b p t (of_places b first is' rows) found → TellsOr Tells b p t [] found
tells_places Tells b p t [] rows first found k h = inr h
tells_places Tells b p t (i ∷ is') [] first found k h = inr h
tells_places Tells b p t (i ∷ is') (None ∷ rows) first found k h =
    tells_places Tells b p t is' rows (first + 1) found
    (later b p t first i is' None rows (TellsRow Tells b p t) k) h
tells_places Tells b p t (i ∷ is') (Some x ∷ rows) first found k h =
    or_further Tells b p t (of_places b (first + 1) is' rows) [] found
    (here b p t first i is' x rows (TellsRow Tells b p t) k (of_places b (first + 1) is' rows) found
    h)
    (tells_places Tells b p t is' rows (first + 1) found
    (later b p t first i is' (Some x) rows (TellsRow Tells b p t) k))

-- the verdict on a table whose length, rows and start are right
abbrev Says : (Rule → Type 0) → Verdict → Type 0
Says Tells (verdict.Accepted bound) = Unit {0}
Says Tells (verdict.Refused place rule) = Tells rule

tells : (Tells : Rule → Type 0) (b : Board) (p : List Instr) (t : Table) (v : Verdict)
    → length t ≡ length p → ((n : ℕ) (u : Row) → row_of t n ≡ Some u → IsRow b u)
    → Starts b t → At b p t 0 p t (TellsRow Tells b p t) → IsVerdict b p t v → Says Tells v
tells Tells b p t v places rows start row is = subst (Says Tells) (sym is.2)
    (go (tells_places Tells b p t p t 0 is.0 row
    (past b p t (Start ∷ []) (of_places b 0 p t) is.0 (start, tt)
    (past b p t (shapes 0 t) (Start ∷ of_places b 0 p t) is.0 (all_shapes b p t t 0 rows)
    (past b p t (Length ∷ []) (shapes 0 t ++ (Start ∷ of_places b 0 p t)) is.0 (places, tt)
    is.1)))))
  where
    go : TellsOr Tells b p t [] is.0 → Says Tells (verdict_on t is.0)
    go (inr none) = subst (λ f. Says Tells (verdict_on t f)) (sym none) tt
    go (inl k) = subst (λ f. Says Tells (verdict_on t f)) (sym k.1) k.2

pub tells_duty : FollowingTablesTellDuties
tells_duty b p t (verdict.Accepted bound) k is = tt
tells_duty b p t (verdict.Refused place rule) k is =
    tells (Contains duties) b p t (verdict.Refused place rule) k.places k.rows k.start
    (λ n i u a r rest found.
    let P : ℕ → Type 0 = λ x. MeetsAll b i u → EdgesHold b t x i u in
    let goes_on : MeetsAll b i u → EdgesHold b t (0 + n) i u =
    subst P (at_first n) (k.goes_on n i u a r) in
    tells_duties (Contains duties) b p t (0 + n) i u rest found (λ x c. c)
    (λ met h. inr (past b p t (after_duties b (0 + n) i u) rest found
    (all_after b p t (0 + n) i u (goes_on met)) h)))
    is

abbrev DutyOrTicks : Rule → Type 0
DutyOrTicks rule = Contains duties rule ⊎ (rule ≡ K7)

append_assoc : (xs ys zs : List Obligation) → ((xs ++ ys) ++ zs) ≡ (xs ++ (ys ++ zs))
append_assoc [] ys zs = refl
append_assoc (x ∷ xs) ys zs = ap (λ l. x ∷ l) (append_assoc xs ys zs)

tells_after : (b : Board) (p : List Instr) (t : Table) (n : ℕ) (i : Instr) (u : Row)
    (rest : List Obligation) (found : Option (ℕ × Rule))
    → ((e : Edge) (ticks : ℕ) → HasTimed (timed_edges b n i u) e ticks → IsCovered b t e)
    → IsFirstFault b p t (after_duties b n i u ++ rest) found → TellsOr DutyOrTicks b p t rest found
tells_after b p t n i u rest found covered h =
    let es = of_edges n (timed_edges b n i u) in
    or_further DutyOrTicks b p t (of_end n u i ++ rest) rest found
    (tells_edges DutyOrTicks b p t n (timed_edges b n i u) (of_end n u i ++ rest) found
    (inr refl) covered
    (subst (λ os. IsFirstFault b p t os found) (append_assoc es (of_end n u i) rest) h))
    (tells_end DutyOrTicks b p t n u i rest found (inr refl))

pub tells_duty_or_ticks : ClosedTablesTellDutiesOrTicks
tells_duty_or_ticks b p t (verdict.Accepted bound) k is = tt
tells_duty_or_ticks b p t (verdict.Refused place rule) k is =
    tells DutyOrTicks b p t (verdict.Refused place rule) k.places k.rows k.start
    (λ n i u a r rest found.
    let P : ℕ → Type 0 = λ x. MeetsAll b i u → (e : Edge) (ticks : ℕ)
    → HasTimed (timed_edges b x i u) e ticks → IsCovered b t e in
    let covered : MeetsAll b i u → (e : Edge) (ticks : ℕ)
    → HasTimed (timed_edges b (0 + n) i u) e ticks → IsCovered b t e =
    subst P (at_first n) (k.covered n i u a r) in
    tells_duties DutyOrTicks b p t (0 + n) i u rest found (λ x c. inl c)
    (λ met. tells_after b p t (0 + n) i u rest found (covered met)))
    is
