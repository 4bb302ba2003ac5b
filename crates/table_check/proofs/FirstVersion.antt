-- From the rule book without counted contentions to the one with them.
use Rattle.std.proofs.Common.{◌≡◌, ◌<◌, ◌≤◌, ◌+◌, ◌-◌, ◌*◌, ◌&&◌, ℕ, suc, Bool, true, false}
use Rattle.std.proofs.Common.{max, if◌then◌else◌, Option, Some, None, List, [], ◌∷◌, ◌++◌, inl, inr}
use Rattle.std.proofs.Common.{refl, sym, ap, subst, ◌∙◌, map, arith}
use Rattle.std.specs.Prelude.{nat_lt, is_some}
use Rattle.std.proofs.lemmas.Bool.{lt-ltb, le-ltb, ltb-true}
use Rattle.std.proofs.lemmas.List.{append-nil}
use Rattle.board.specs.Boards.{Board}
use Rattle.seq_program.specs.declared.instr.Instr.{Instr}
use Rattle.seq_program.specs.Requests.{else_in}
use Rattle.simulator.specs.ForeignTicks.{foreign_ticks}
use Rattle.facts.specs.declared.duties.rule.Rule.{Rule}
use Rattle.facts.specs.declared.domain.span.Span.{Span}
use Rattle.facts.specs.domain.Rows.{Row, InSpan, InSpans, IsRow, weight}
use Rattle.facts.specs.duties.Duties.{duties}
use Rattle.facts.specs.transfer.Edges.{Edge, edge, edges, edge_if, lost_row, lost_edges}
use Rattle.facts.specs.transfer.Ticks.{own_ticks}
use Rattle.facts.specs.transfer.TimedEdges.{HasTimed, timed, timed_edges}
use Rattle.facts.specs.FactLaws.{ElseEdgesCover, CoveringGoesOn, HasElseEdge}
use Rattle.table_check.specs.Tables.{Table}
use Rattle.table_check.specs.declared.checker.verdict.Verdict.{Verdict}
use Rattle.table_check.specs.declared.checker.verdict.Verdict.TheVariants as verdict
use Rattle.table_check.specs.checker.Rules.{IsCovered, Pays}
use Rattle.table_check.specs.checker.Obligations.{Obligation, Length, Start, Duty, Covered, Falls}
use Rattle.table_check.specs.checker.Obligations.{shapes, of_edges}
use Rattle.table_check.specs.checker.Obligations.{of_end, of_row, of_places, obligations, AllHold}
use Rattle.table_check.specs.checker.Obligations.{IsFirstFault, verdict_on, IsVerdict}
use Rattle.table_check.specs.checker.FirstVersion.{is_contended, worst_ticks}
use Rattle.table_check.specs.FlatTables.{IsFlatRow, IsFlat}
use Rattle.table_check.specs.checker.FirstVersion.{uncounted_row, uncounted_places, uncounted}
use Rattle.table_check.specs.checker.FirstVersion.{WasVerdict, FlatTablesStayAccepted}
use Rattle.table_check.specs.checker.FirstVersion.{TablesAreJudgedAlike}
use Rattle.table_check.proofs.Broken.{row_shaped}
use Rattle.table_check.proofs.ByPlace.{all_append}
use Rattle.table_check.proofs.Obligations.{hold_front, hold_back, hold_edge, no_fault}

own_below : (b : Board) (i : Instr) → own_ticks b i ≤ worst_ticks b i
own_below b i = by (is_contended b i)
  where
    by : (contended : Bool) → own_ticks b i
        ≤ (if contended then max (own_ticks b i) (foreign_ticks b) else own_ticks b i)
    by true = omega arith
    by false = omega arith

foreign_below : (b : Board) (i : Instr) (to : ℕ) → else_in i ≡ Some to → 0 < b.contentions
    → foreign_ticks b ≤ worst_ticks b i
foreign_below b i to otherwise some =
    let here : is_contended b i ≡ true = rw (otherwise, lt-ltb 0 b.contentions some) refl in
    rw here (omega arith)

pays_less : (b : Board) (t : Table) (m n : ℕ) (e : Edge) → n ≤ m → Pays b t m e → Pays b t n e
pays_less b t m n e le k next there cs inside lost here =
    let one = k next there cs inside lost here in
    omega (arith, le, one)

retimed : (m n : ℕ) (es : List Edge) (x : Edge) (k : ℕ) → HasTimed (timed m es) x k
    → HasTimed (timed n es) x n
retimed m n [] x k h = absurd h
retimed m n (e ∷ es) x k (inl h) = inl (h.0, refl)
retimed m n (e ∷ es) x k (inr h) = inr (retimed m n es x k h)

-- an instruction's own edges owe less
owed : (b : Board) (p : List Instr) (t : Table) (n m k : ℕ) (es : List Edge) → k ≤ m
    → AllHold b p t (of_edges n (timed m es)) → AllHold b p t (of_edges n (timed k es))
owed b p t n m k [] le h = tt
owed b p t n m k (e ∷ es) le h =
    (h.0, (pays_less b t m k e le h.1.0, owed b p t n m k es le h.1.1))

-- the laws of the layer below
pub record Laws : Type 0 where
  pub otherwise : ElseEdgesCover
  pub goes_on : CoveringGoesOn

-- what is known of a flat table's row, and of its instruction
record At (b : Board) (p : List Instr) (t : Table) (n : ℕ) (i : Instr) (row : Row) : Type 0 where
  pub shaped : IsRow b row
  pub flat : IsFlatRow b row
  pub others : IsFlat b t
  pub all : AllHold b p t (of_edges n (timed (worst_ticks b i) (edges b n i row)))

-- the edge of a lost arbitration is covered where the one to the `else` label is, and pays
lost_owed : Laws → (b : Board) (p : List Instr) (t : Table) (n : ℕ) (i : Instr) (row : Row)
    (to : ℕ) → At b p t n i row → else_in i ≡ Some to → 0 < b.contentions
    → IsCovered b t (edge to (lost_row b row))
    × Pays b t (foreign_ticks b) (edge to (lost_row b row))
lost_owed laws b p t n i row to k otherwise some = (covered, falls)
  where
    has : HasElseEdge b n i row to
    has = laws.otherwise b n i row to (row_shaped b row k.shaped) otherwise

    held : IsCovered b t (edge to has.by) × Pays b t (worst_ticks b i) (edge to has.by)
    held = hold_edge b p t n (timed (worst_ticks b i) (edges b n i row)) (edge to has.by)
        (worst_ticks b i) k.all
        (retimed (own_ticks b i) (worst_ticks b i) (edges b n i row) (edge to has.by)
        (own_ticks b i)
        has.there)

    covered : IsCovered b t (edge to (lost_row b row))
    covered =
        let next = held.0.0 in
        let c = laws.goes_on b next has.by row held.0.2 has.covers in
        let flat : next.lost ≡ record { lo = 0; hi = b.contentions } =
        (k.others to next held.0.1).lost in
        let lo = ap (λ (s : Span). s.lo) flat in
        let hi = ap (λ (s : Span). s.hi) flat in (
          next,
          held.0.1,
          record {
            pages = c.pages;
            protects = c.protects;
            good = c.good;
            regs = c.regs;
            sources = c.sources;
            counters = c.counters;
            lost = (omega (arith, lo), omega (arith, hi));
          },
        )

    falls : Pays b t (foreign_ticks b) (edge to (lost_row b row))
    falls next there cs inside lost here =
        let P : List Span → Type 0 = λ ss. InSpans ss cs in
        let span : has.by.lost ≡ record { lo = 0; hi = b.contentions } = has.lost ∙ k.flat.lost in
        let Q : Span → Type 0 = λ s. InSpan s lost in
        let one = held.1 next there cs (subst P (sym has.counters) inside) lost
        (subst Q (sym span) (omega arith, omega (arith, here.1))) in
        let base = has.base in
        let weights : weight has.by.coeffs cs ≡ weight row.coeffs cs =
        ap (λ ks. weight ks cs) has.coeffs in
        let left : has.by.lost_coeff * (b.contentions - lost)
        ≡ row.lost_coeff * (b.contentions - lost) =
        ap (λ c. c * (b.contentions - lost)) has.lost_coeff in
        let below = foreign_below b i to otherwise some in
        omega (arith, one, base, weights, left, below)

all_lost : Laws → (b : Board) (p : List Instr) (t : Table) (n : ℕ) (i : Instr) (row : Row)
    → At b p t n i row
    → AllHold b p t (of_edges n (timed (foreign_ticks b) (lost_edges b (else_in i) row)))
all_lost laws b p t n i row k = by (else_in i) refl
  where
    by_if : (to : ℕ) (c : Bool) → nat_lt row.lost.lo b.contentions ≡ c → else_in i ≡ Some to
        → AllHold b p t (of_edges n (timed (foreign_ticks b) (edge_if c to (lost_row b row))))
    by_if to false is otherwise = tt
    by_if to true is otherwise =
        let less : row.lost.lo < b.contentions = ltb-true row.lost.lo b.contentions is in
        let two = lost_owed laws b p t n i row to k otherwise (omega (arith, less)) in
        (two.0, (two.1, tt))

    by : (o : Option ℕ) → else_in i ≡ o
        → AllHold b p t (of_edges n (timed (foreign_ticks b) (lost_edges b o row)))
    by None is = tt
    by (Some to) is = by_if to (nat_lt row.lost.lo b.contentions) refl is

edges_append : (n : ℕ) (xs ys : List (Edge × ℕ))
    → of_edges n (xs ++ ys) ≡ of_edges n xs ++ of_edges n ys
edges_append n [] ys = refl
edges_append n (x ∷ xs) ys =
    ap (λ (os : List Obligation). Covered n x.0 ∷ Falls n x.1 x.0 ∷ os) (edges_append n xs ys)

-- a row that met the rule book meets it
counted_row : Laws → (b : Board) (p : List Instr) (t : Table) (n : ℕ) (i : Instr) (row : Row)
    → IsRow b row → IsFlatRow b row → IsFlat b t
    → AllHold b p t (uncounted_row b n i row) → AllHold b p t (of_row b n i row)
counted_row laws b p t n i row shaped flat others h =
    let met = map (Duty n i row) duties in
    let was = of_edges n (timed (worst_ticks b i) (edges b n i row)) in
    let own = timed (own_ticks b i) (edges b n i row) in
    let lost = timed (foreign_ticks b) (lost_edges b (else_in i) row) in
    let rest = hold_back b p t met (was ++ of_end n row i) h in
    let all = hold_front b p t was (of_end n row i) rest in
    let at : At b p t n i row = record {
      shaped = shaped;
      flat = flat;
      others = others;
      all = all;
    } in
    let both = all_append b p t (of_edges n own) (of_edges n lost)
    (owed b p t n (worst_ticks b i) (own_ticks b i) (edges b n i row) (own_below b i) all)
    (all_lost laws b p t n i row at) in
    all_append b p t met (of_edges n (own ++ lost) ++ of_end n row i)
    (hold_front b p t met (was ++ of_end n row i) h)
    (all_append b p t (of_edges n (own ++ lost)) (of_end n row i)
    (subst (AllHold b p t) (sym (edges_append n own lost)) both)
    (hold_back b p t was (of_end n row i) rest))

counted_places : Laws → (b : Board) (p : List Instr) (t : Table) (first : ℕ) (is' : List Instr)
    (rows : Table) → IsFlat b t → IsFlat b rows
    → AllHold b p t (shapes first rows) → AllHold b p t (uncounted_places b first is' rows)
    → AllHold b p t (of_places b first is' rows)
counted_places laws b p t first [] rows others flat shaped h = tt
counted_places laws b p t first (i ∷ is') [] others flat shaped h = tt
counted_places laws b p t first (i ∷ is') (None ∷ rows) others flat shaped h =
    counted_places laws b p t (first + 1) is' rows others (λ n u e. flat (suc n) u e) shaped h
counted_places laws b p t first (i ∷ is') (Some row ∷ rows) others flat shaped h =
    all_append b p t (of_row b first i row) (of_places b (first + 1) is' rows)
    (counted_row laws b p t first i row shaped.0 (flat 0 row refl) others
    (hold_front b p t (uncounted_row b first i row) (uncounted_places b (first + 1) is' rows) h))
    (counted_places laws b p t (first + 1) is' rows others (λ n u e. flat (suc n) u e) shaped.1
    (hold_back b p t (uncounted_row b first i row) (uncounted_places b (first + 1) is' rows) h))

-- what was accepted had no fault
was_faultless : (t : Table) (found : Option (ℕ × Rule)) (bound : ℕ)
    → verdict.Accepted bound ≡ verdict_on t found → found ≡ None
was_faultless t None bound e = refl
was_faultless t (Some fault) bound e = absurd (accepted_refused e)
  where
    is_accepted : Verdict → Type 0
    is_accepted (verdict.Accepted bound) = Unit {0}
    is_accepted (verdict.Refused place rule) = ⊥

    accepted_refused : verdict.Accepted bound ≡ verdict_on t (Some fault) → ⊥
    accepted_refused e = subst is_accepted e tt

all_found : (b : Board) (p : List Instr) (t : Table) (os : List Obligation) → AllHold b p t os
    → IsFirstFault b p t os None
all_found b p t [] h = refl
all_found b p t (o ∷ os) h = inl (h.0, all_found b p t os h.1)

pub stay_accepted : Laws → FlatTablesStayAccepted
stay_accepted laws b p t bound board program flat was =
    let P : Option (ℕ × Rule) → Type 0 = λ found. IsFirstFault b p t (uncounted b p t) found in
    let Q : Option (ℕ × Rule) → Type 0 = λ found. verdict.Accepted bound ≡ verdict_on t found in
    let none = was_faultless t was.0 bound was.2 in
    let h = no_fault b p t (uncounted b p t) (subst P none was.1) in
    let owed_places = Start ∷ uncounted_places b 0 p t in
    let shaped = hold_front b p t (shapes 0 t) owed_places h.1 in
    let from_start = hold_back b p t (shapes 0 t) owed_places h.1 in
    let places = counted_places laws b p t 0 p t flat flat shaped from_start.1 in
    let all = all_append b p t (shapes 0 t) (Start ∷ of_places b 0 p t) shaped
    (from_start.0, places) in
    (None, all_found b p t (obligations b p t) (h.0, all), subst Q none was.2)

-- ---- where no arbitration may be lost, the obligations are the same

same_ticks : (b : Board) (i : Instr) → b.contentions ≡ 0 → worst_ticks b i ≡ own_ticks b i
same_ticks b i none = by (is_some (else_in i))
  where
    by : (c : Bool)
        → (if c && nat_lt 0 b.contentions then max (own_ticks b i) (foreign_ticks b)
        else own_ticks b i) ≡ own_ticks b i
    by true = rw none refl
    by false = refl

none_lost : (b : Board) (o : Option ℕ) (row : Row) → b.contentions ≡ 0 → lost_edges b o row ≡ []
none_lost b None row none = refl
none_lost b (Some to) row none =
    ap (λ (c : Bool). edge_if c to (lost_row b row))
    (le-ltb row.lost.lo b.contentions (omega (arith, none)))

same_edges : (b : Board) (n : ℕ) (i : Instr) (row : Row) → b.contentions ≡ 0
    → timed (worst_ticks b i) (edges b n i row) ≡ timed_edges b n i row
same_edges b n i row none =
    let es = edges b n i row in
    let own = timed (own_ticks b i) es in
    let with_lost : List Edge → List (Edge × ℕ) = λ fs. own ++ timed (foreign_ticks b) fs in
    ap (λ (ticks : ℕ). timed ticks es) (same_ticks b i none)
    ∙ sym (ap with_lost (none_lost b (else_in i) row none) ∙ append-nil own)

same_row : (b : Board) (n : ℕ) (i : Instr) (row : Row) → b.contentions ≡ 0
    → uncounted_row b n i row ≡ of_row b n i row
same_row b n i row none =
    ap (λ (es : List (Edge × ℕ)). map (Duty n i row) duties ++ (of_edges n es ++ of_end n row i))
    (same_edges b n i row none)

same_places : (b : Board) (first : ℕ) (is' : List Instr) (rows : Table) → b.contentions ≡ 0
    → uncounted_places b first is' rows ≡ of_places b first is' rows
same_places b first [] rows none = refl
same_places b first (i ∷ is') [] none = refl
same_places b first (i ∷ is') (None ∷ rows) none = same_places b (first + 1) is' rows none
same_places b first (i ∷ is') (Some row ∷ rows) none =
    ap (λ (os : List Obligation). os ++ uncounted_places b (first + 1) is' rows)
    (same_row b first i row none)
    ∙ ap (λ (os : List Obligation). of_row b first i row ++ os)
    (same_places b (first + 1) is' rows none)

same_obligations : (b : Board) (p : List Instr) (t : Table) → b.contentions ≡ 0
    → uncounted b p t ≡ obligations b p t
same_obligations b p t none =
    ap (λ (os : List Obligation). Length ∷ (shapes 0 t ++ (Start ∷ os))) (same_places b 0 p t none)

pub judged_alike : TablesAreJudgedAlike
judged_alike b p t v none = (there, back)
  where
    P : Option (ℕ × Rule) → List Obligation → Type 0
    P found os = IsFirstFault b p t os found

    same : uncounted b p t ≡ obligations b p t
    same = same_obligations b p t none

    there : WasVerdict b p t v → IsVerdict b p t v
    there was = (was.0, subst (P was.0) same was.1, was.2)

    back : IsVerdict b p t v → WasVerdict b p t v
    back is = (is.0, subst (P is.0) (sym same) is.1, is.2)
