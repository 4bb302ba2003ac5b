-- Which rule an instruction or an edge breaks.
use Rattle.std.proofs.Common.{◌≡◌, ◌≤◌, ◌<◌, ℕ, zero, suc, Some, None, List, [], ◌∷◌}
use Rattle.std.proofs.Common.{true, false}
use Rattle.std.proofs.Common.{map, length, refl, sym, ap, subst, inl, inr, ◌∙◌, All, arith}
use Rattle.std.specs.Prelude.{Result, Ok, Err, IfOk, replicate, slice_index}
use Rattle.std.specs.Prelude.{slice_index_or}
use Rattle.std.specs.List.{AllByRecursion}
use Rattle.std.proofs.lemmas.List.{length-map}
use Rattle.std.proofs.lemmas.List.Elements.{All-from_recursion}
use Rattle.board.specs.Boards.{Board}
use Rattle.seq_program.specs.declared.instr.Instr.{Instr}
use Rattle.facts.specs.declared.domain.row.Row.{Row as CodeRow}
use Rattle.facts.specs.declared.duties.rule.Rule.{Rule}
use Rattle.facts.specs.declared.duties.rule.Rule.TheVariants.{K1, K6, K7}
use Rattle.facts.specs.declared.domain.span.Span.{Span}
use Rattle.facts.specs.domain.Covering.{IsSized}
use Rattle.facts.specs.duties.Duties.{IsFirstFailing, Meets, duties}
use Rattle.facts.specs.transfer.Edges.{Edge, edge}
use Rattle.facts.specs.FactLaws.{IsShaped}
use Rattle.facts.specs.domain.Rows.{Row, IsRow, RowCovers, most_ticks, no_span, row_view}
use Rattle.facts.specs.domain.Sets.{pages_in, protects_in}
use Rattle.facts.specs.transfer.TimedEdges.{HasTimed}
use Rattle.facts.specs.transfer.Ways.{timed_view}
use Rattle.table_check.specs.Tables.{Table, row_of}
use Rattle.table_check.specs.checker.Obligations.{Obligation, Covered, Duty, Falls, IsFirstFault}
use Rattle.table_check.specs.checker.Looking.{PaysFor}
use Rattle.table_check.proofs.Places.{none_some, some_same}

-- duties
pub duty_fails : (b : Board) (p : List Instr) (t : Table) (place : ℕ) (i : Instr) (row : Row)
    (rules : List Rule) (rule : Rule) → IsFirstFailing b row i rules (Some rule)
    → IsFirstFault b p t (map (Duty place i row) rules) (Some (place, rule))
duty_fails b p t place i row [] rule h = absurd (none_some rule (sym h))
duty_fails b p t place i row (r ∷ rules) rule (inl h) =
    inl (h.0, duty_fails b p t place i row rules rule h.1)
duty_fails b p t place i row (r ∷ rules) rule (inr h) =
    inr (h.0, ap (λ x. Some (place, x)) (some_same rule r h.1))

pub duties_met : (b : Board) (p : List Instr) (t : Table) (place : ℕ) (i : Instr) (row : Row)
    (rules : List Rule) → IsFirstFailing b row i rules None
    → IsFirstFault b p t (map (Duty place i row) rules) None
duties_met b p t place i row [] h = refl
duties_met b p t place i row (r ∷ rules) (inl h) =
    inl (h.0, duties_met b p t place i row rules h.1)
duties_met b p t place i row (r ∷ rules) (inr h) = absurd (none_some r h.1)

pub first_met : (b : Board) (i : Instr) (row : Row) → IsFirstFailing b row i duties None
    → Meets b row i K1
first_met b i row (inl h) = h.0
first_met b i row (inr h) = absurd (none_some K1 h.1)

-- what holds of each edge holds of the code's
have_all : (P : Edge → Type 0) (items : List (ℕ × CodeRow × ℕ)) (es : List (Edge × ℕ))
    → map timed_view items ≡ es → ((x : Edge) (ticks : ℕ) → HasTimed es x ticks → P x)
    → AllByRecursion (λ e. P (edge e.0 (row_view e.1))) items
have_all P [] es e h = tt
have_all P (x ∷ items) [] e h = absurd (cons_nil e)
  where
    cons_nil : {X : Type 0} {y : X} {ys : List X} → y ∷ ys ≡ [] → ⊥
    cons_nil e = cc
have_all P (x ∷ items) (y ∷ es) e h = (
  subst P (sym (ap (λ (z : Edge × ℕ). z.0) (heads e))) (h y.0 y.1 (inl (refl, refl))),
  have_all P items es (tails e) (λ z ticks k. h z ticks (inr k)),
)
  where
    heads : {X : Type 0} {u v : X} {us vs : List X} → u ∷ us ≡ v ∷ vs → u ≡ v
    heads e = cc

    tails : {X : Type 0} {u v : X} {us vs : List X} → u ∷ us ≡ v ∷ vs → us ≡ vs
    tails e = cc

pub all_have : (P : Edge → Type 0) (items : List (ℕ × CodeRow × ℕ)) (es : List (Edge × ℕ))
    → map timed_view items ≡ es → ((x : Edge) (ticks : ℕ) → HasTimed es x ticks → P x)
    → All (λ e. P (edge e.0 (row_view e.1))) items
all_have P items es e h =
    All-from_recursion (λ (x : ℕ × CodeRow × ℕ). P (edge x.0 (row_view x.1))) items
    (have_all P items es e h)

-- counters
by_index : {X : Type 0} (P : X → Type 0) (xs : List X) (d : X)
    → ((r : ℕ) → r < length xs → P (slice_index_or xs r d)) → AllByRecursion P xs
by_index P [] d h = tt
by_index P (x ∷ xs) d h =
    (h 0 (omega arith), by_index P xs d (λ r lt. h (suc r) (omega (arith, lt))))

all_by_index : {X : Type 0} (P : X → Type 0) (xs : List X) (d : X) (n : ℕ) → length xs ≡ n
    → ((r : ℕ) → r < n → P (slice_index_or xs r d)) → All P xs
all_by_index P xs d n e h =
    All-from_recursion P xs (by_index P xs d (λ r lt. h r (omega (arith, e, lt))))

pub counters_are_spans : (b : Board) (row : Row) → IsRow b row
    → All (λ (s : Span). (s.lo ≤ s.hi) × (s.hi ≤ 1000)) row.counters
counters_are_spans b row h =
    all_by_index (λ (s : Span). (s.lo ≤ s.hi) × (s.hi ≤ 1000)) row.counters no_span 4
    h.counter_count h.counters

-- rows of the code
pub row_sized : (b : Board) (row : CodeRow) → IsRow b (row_view row) → IsSized b row
row_sized b row h = record {
  pages = sym (length-map row.pages.items pages_in) ∙ h.page_sets;
  protects = sym (length-map row.protects.items protects_in) ∙ h.protect_sets;
}

pub shaped_sized : (b : Board) (row : CodeRow) → IsShaped b (row_view row) → IsSized b row
shaped_sized b row h = record {
  pages = sym (length-map row.pages.items pages_in) ∙ h.page_sets;
  protects = sym (length-map row.protects.items protects_in) ∙ h.protect_sets;
}

-- edges
abbrev pub of_one : ℕ → ℕ → Edge → List Obligation
of_one place worst e = Covered place e ∷ Falls place worst e ∷ []

pub leads_nowhere : (b : Board) (p : List Instr) (t : Table) (place worst : ℕ) (e : Edge)
    → None ≡ row_of t e.to → IsFirstFault b p t (of_one place worst e) (Some (place, K6))
leads_nowhere b p t place worst e none =
    inr ((λ covered. none_some covered.0 (none ∙ covered.1)), refl)

pub uncovered : (b : Board) (p : List Instr) (t : Table) (place worst : ℕ) (e : Edge) (next : Row)
    → Some next ≡ row_of t e.to → (RowCovers b next e.row → ⊥)
    → IsFirstFault b p t (of_one place worst e) (Some (place, K6))
uncovered b p t place worst e next there fails =
    inr (
      (λ covered.
          let same : covered.0 ≡ next = sym (some_same next covered.0 (there ∙ covered.1)) in
          fails (subst (λ (r : Row). RowCovers b r e.row) same covered.2)),
      refl,
    )

covers_next : (b : Board) (t : Table) (e : Edge) (next : Row) → Some next ≡ row_of t e.to
    → RowCovers b next e.row
    → (next' : Row) × (row_of t e.to ≡ Some next') × RowCovers b next' e.row
covers_next b t e next there covers = (next, sym there, covers)

pub unpaid : (b : Board) (p : List Instr) (t : Table) (place worst : ℕ) (e : Edge) (next : Row)
    → Some next ≡ row_of t e.to → RowCovers b next e.row → (PaysFor b worst next e.row → ⊥)
    → IsFirstFault b p t (of_one place worst e) (Some (place, K7))
unpaid b p t place worst e next there covers fails =
    inl (
      covers_next b t e next there covers,
      inr ((λ pays. fails (pays next (sym there))), refl),
    )

pub kept : (b : Board) (p : List Instr) (t : Table) (place worst : ℕ) (e : Edge) (next : Row)
    → Some next ≡ row_of t e.to → RowCovers b next e.row → PaysFor b worst next e.row
    → IsFirstFault b p t (of_one place worst e) None
kept b p t place worst e next there covers pays =
    inl (
      covers_next b t e next there covers,
      inl (
        (λ other at'.
            let same : next ≡ other = some_same next other (there ∙ at') in
            subst (λ (r : Row). PaysFor b worst r e.row) same pays),
        refl,
      ),
    )

-- a result's clause in other words
pub ok_to : {X E : Type 0} (r : Result X E) (P Q : X → Type 0) → ((x : X) → P x → Q x)
    → IfOk r P → IfOk r Q
ok_to (Ok x) P Q f h = f x h
ok_to (Err e) P Q f h = tt

-- a row of the board is one whatever its ticks are
pub row_shaped : (b : Board) (row : Row) → IsRow b row → IsShaped b row
row_shaped b row h = record {
  page_sets = h.page_sets;
  protect_sets = h.protect_sets;
  pages = h.pages;
  protects = h.protects;
  good = h.good;
  reg_count = h.reg_count;
  regs = h.regs;
  reg_range = h.reg_range;
  source_count = h.source_count;
  sources = h.sources;
  counter_count = h.counter_count;
  counters = h.counters;
  lost = h.lost;
  lost_range = h.lost_range;
  base = omega arith;
  coeff_count = refl;
  coeffs = λ c lt. zero_at c lt;
  lost_coeff = omega arith;
}
  where
    zero_at : (c : ℕ) → c < 4 → slice_index (replicate 4 0) c ≤ most_ticks
    zero_at zero lt = omega arith
    zero_at (suc zero) lt = omega arith
    zero_at (suc (suc zero)) lt = omega arith
    zero_at (suc (suc (suc zero))) lt = omega arith
    zero_at (suc (suc (suc (suc c)))) lt = absurd (omega (arith, lt))
