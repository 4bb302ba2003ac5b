-- Arrows for all edges, flows along all arrows, and sets that are kept along all flows.
use Rattle.std.proofs.Common.{◌≡◌, ◌∙◌, ◌⊎◌, ◌++◌, ℕ, suc, List, [], ◌∷◌, map, slice_get, Some}
use Rattle.std.proofs.Common.{All, ap, sym, subst, refl, inl, inr, ◌<◌, ◌≤◌, ◌+◌, length, arith}
use Rattle.std.proofs.Common.{◌↔◌, true, false, drop, slice_index_or, append_assoc}
use Rattle.std.proofs.lemmas.Bool.{cases_Bool, cases_eq}
use Rattle.std.proofs.lemmas.List.{append-nil, map-append, drop_all}
use Rattle.std.proofs.lemmas.List.Elements.{All-push, All-nil}
use Rattle.std.proofs.Math.Seq.{drop-cons}
use Rattle.std.specs.Prelude.{IsTrue}
use Rattle.board.specs.Boards.{Board}
use Rattle.seq_program.specs.declared.instr.Instr.{Instr}
use Rattle.facts.specs.declared.domain.row.Row.{Row as CodeRow}
use Rattle.facts.specs.domain.Rows.{Row, SetCovers, set_at}
use Rattle.facts.specs.domain.Sets.{Set, empty}
use Rattle.facts.specs.transfer.Edges.{Edge}
use Rattle.facts.specs.transfer.TimedEdges.{HasTimed}
use Rattle.facts.specs.transfer.Ways.{timed_view}
use Rattle.table_check.specs.Tables.{Table, row_of}
use Rattle.table_check.specs.checker.ByPlace.{Follows, KeepsDuties, InductiveByPlace}
use Rattle.table_check.specs.checker.Obligations.{IsInductive}
use Rattle.program_lints.specs.declared.flow.Flow.{Flow}
use Rattle.program_lints.specs.Changes.{After}
use Rattle.program_lints.specs.Closed.{IsClosed}
use Rattle.program_lints.specs.Flows.{HasArrow, HasEdges, HasAllEdges, arrow_from, arrow_of}
use Rattle.program_lints.specs.Flows.{AreEdges, AreFlows, IsFlow, IsKept, flow_after}
use Rattle.program_lints.proofs.Places.{all_at, some_same, within}

has_left : (xs ys : List (ℕ × ℕ)) (from to : ℕ) → HasArrow xs from to
    → HasArrow (xs ++ ys) from to
has_left [] ys from to h = absurd h
has_left (x ∷ xs) ys from to (inl h) = inl h
has_left (x ∷ xs) ys from to (inr h) = inr (has_left xs ys from to h)

has_right : (xs ys : List (ℕ × ℕ)) (from to : ℕ) → HasArrow ys from to
    → HasArrow (xs ++ ys) from to
has_right [] ys from to h = h
has_right (x ∷ xs) ys from to h = inr (has_right xs ys from to h)

-- each edge of the code has its arrow
edge_arrow : (place : ℕ) (items : List (ℕ × CodeRow × ℕ)) (e : Edge) (ticks : ℕ)
    → HasTimed (map timed_view items) e ticks → HasArrow (map (arrow_from place) items) place e.to
edge_arrow place [] e ticks h = absurd h
edge_arrow place (x ∷ items) e ticks (inl h) =
    inl (refl, sym (ap (λ (y : Edge). y.to) h.0))
edge_arrow place (x ∷ items) e ticks (inr h) = inr (edge_arrow place items e ticks h)

-- the arrows of the places before, and of one more
pub more_arrows : (b : Board) (p : List Instr) (t : Table) (place : ℕ) (old new : List (ℕ × ℕ))
    (items : List (ℕ × CodeRow × ℕ)) → AreEdges b p t place items
    → new ≡ old ++ map (arrow_from place) items
    → (k : ℕ) → (k ≡ place) ⊎ HasEdges b p t old k → HasEdges b p t new k
more_arrows b p t place old new items are is k (inl same) =
    subst (HasEdges b p t new) (sym same) at_place
  where
    at_place : HasEdges b p t new place
    at_place i row e ticks here there shaped met has =
        let H : List (ℕ × ℕ) → Type 0 = λ xs. HasArrow xs place e.to in
        let edges = are i row here there shaped met in
        subst H (sym is) (has_right old (map (arrow_from place) items) place e.to
        (edge_arrow place items e ticks
        (subst (λ es. HasTimed es e ticks) (sym edges) has)))
more_arrows b p t place old new items are is k (inr has) =
    λ i row e ticks here there shaped met edge.
    let H : List (ℕ × ℕ) → Type 0 = λ xs. HasArrow xs k e.to in
    subst H (sym is) (has_left old (map (arrow_from place) items) k e.to
    (has i row e ticks here there shaped met edge))

pub more_places : (b : Board) (p : List Instr) (t : Table) (place : ℕ) (old new : List (ℕ × ℕ))
    (items : List (ℕ × CodeRow × ℕ)) → AreEdges b p t place items
    → new ≡ old ++ map (arrow_from place) items
    → ((k : ℕ) → k < place → HasEdges b p t old k)
    → (k : ℕ) → k < place + 1 → HasEdges b p t new k
more_places b p t place old new items are is before k lt =
    more_arrows b p t place old new items are is k (by (cases_eq k place))
  where
    by : (k ≡ place) ⊎ (k ≡ place → ⊥) → (k ≡ place) ⊎ HasEdges b p t old k
    by (inl e) = inl e
    by (inr ne) = inr (before k (omega (arith, lt, ne)))

-- beyond the program there are no edges
pub all_places : (b : Board) (p : List Instr) (t : Table) (arrows : List (ℕ × ℕ)) (end : ℕ)
    → length p ≤ end → ((k : ℕ) → k < end → HasEdges b p t arrows k) → HasAllEdges b p t arrows
all_places b p t arrows end le edges k i row e ticks here =
    let lt : k < length p = within p k i here in
    edges k (omega (arith, lt, le)) i row e ticks here

-- the flow along an arrow
record FlowAlong (flows : List Flow) (from to : ℕ) : Type 0 where
  pub place : ℕ
  pub flow : Flow
  pub there : slice_get flows place ≡ Some flow
  pub start : flow.from ≡ from
  pub end : flow.to ≡ to

flow_along : (flows : List Flow) (from to : ℕ) → HasArrow (map arrow_of flows) from to
    → FlowAlong flows from to
flow_along [] from to h = absurd h
flow_along (f ∷ flows) from to (inl h) =
    record { place = 0; flow = f; there = refl; start = h.0; end = h.1 }
flow_along (f ∷ flows) from to (inr h) =
    let g = flow_along flows from to h in
    record { place = suc g.place; flow = g.flow; there = g.there; start = g.start; end = g.end }

-- sets that are kept along the flows of a program with an accepted table are closed
pub kept_are_closed : (after : After) (b : Board) (p : List Instr) (t : Table)
    (arrows : List (ℕ × ℕ)) (flows : List Flow) (sets : List Set) → InductiveByPlace
    → IsInductive b p t → HasAllEdges b p t arrows → AreFlows after b p t arrows flows
    → All (IsKept sets) flows → IsClosed after b p t sets
kept_are_closed after b p t arrows flows sets by_place table edges are kept place i row e ticks d
    here there has sure =
    subst (λ n. after b row i n (set_at sets place) d) f.end
    (subst (λ n. after b row i f.flow.to (set_at sets n) d) f.start flows_on)
  where
    judged : Follows b p t × KeepsDuties b p t
    judged = (by_place b p t).0 table

    arrow : HasArrow arrows place e.to
    arrow = edges place i row e ticks here there (judged.0.rows place row there)
        (judged.1 place i row here there) has

    f : FlowAlong flows place e.to
    f = flow_along flows place e.to
        (subst (λ xs. HasArrow xs place e.to) (sym are.along) arrow)

    after_flow : IsTrue (flow_after f.flow (set_at sets (Flow.from f.flow)) d)
    after_flow = all_at (IsKept sets) flows f.place f.flow kept f.there d
        (subst (λ n. IsTrue (set_at sets n d)) (sym f.end) sure)

    flows_on : after b row i (Flow.to f.flow) (set_at sets (Flow.from f.flow)) d
    flows_on = all_at (IsFlow after b p t) flows f.place f.flow are.each f.there i row
        (set_at sets (Flow.from f.flow)) d
        (subst (λ n. slice_get p n ≡ Some i) (sym f.start) here)
        (subst (λ n. row_of t n ≡ Some row) (sym f.start) there) after_flow

-- the flows along the arrows before an index
pub record FlowsSoFar (after : After) (b : Board) (p : List Instr) (t : Table)
    (arrows : List (ℕ × ℕ)) (flows : List Flow) (i : ℕ) : Type 0 where
  pub along : map arrow_of flows ++ drop i arrows ≡ arrows
  pub each : All (IsFlow after b p t) flows

pub no_flows : (after : After) (b : Board) (p : List Instr) (t : Table) (arrows : List (ℕ × ℕ))
    (flows : List Flow) → flows ≡ [] → FlowsSoFar after b p t arrows flows 0
no_flows after b p t arrows flows none =
    subst (λ xs. FlowsSoFar after b p t arrows xs 0) (sym none)
    (record { along = refl; each = All-nil (IsFlow after b p t) })

pub one_flow : (after : After) (b : Board) (p : List Instr) (t : Table) (arrows : List (ℕ × ℕ))
    (flows new : List Flow) (i : ℕ) (f : Flow) (d : ℕ × ℕ)
    → FlowsSoFar after b p t arrows flows i → i < length arrows → IsFlow after b p t f
    → arrow_of f ≡ slice_index_or arrows i d → new ≡ flows ++ f ∷ []
    → FlowsSoFar after b p t arrows new (i + 1)
one_flow after b p t arrows flows new i f d far lt flow is same =
    subst (λ xs. FlowsSoFar after b p t arrows xs (i + 1)) (sym same)
    (record {
      along = along;
      each = All-push (IsFlow after b p t) flows f far.each flow;
    })
  where
    next : suc i ≡ i + 1
    next = omega arith

    later : List (ℕ × ℕ)
    later = drop (i + 1) arrows

    cut : drop i arrows ≡ slice_index_or arrows i d ∷ drop (i + 1) arrows
    cut = drop-cons arrows i d lt ∙ ap (λ n. slice_index_or arrows i d ∷ drop n arrows) next

    along : map arrow_of (flows ++ f ∷ []) ++ drop (i + 1) arrows ≡ arrows
    along = ap (λ (xs : List (ℕ × ℕ)). xs ++ drop (i + 1) arrows)
        (map-append arrow_of flows (f ∷ []))
        ∙ (append_assoc (map arrow_of flows) (arrow_of f ∷ []) (drop (i + 1) arrows)
        ∙ (ap (λ (x : ℕ × ℕ). map arrow_of flows ++ x ∷ drop (i + 1) arrows) is
        ∙ (ap (λ (xs : List (ℕ × ℕ)). map arrow_of flows ++ xs) (sym cut) ∙ far.along)))

pub all_flows : (after : After) (b : Board) (p : List Instr) (t : Table) (arrows : List (ℕ × ℕ))
    (flows : List Flow) (i : ℕ) → FlowsSoFar after b p t arrows flows i → length arrows ≤ i
    → AreFlows after b p t arrows flows
all_flows after b p t arrows flows i far end = record {
  along = sym (append-nil (map arrow_of flows))
      ∙ (ap (λ (xs : List (ℕ × ℕ)). map arrow_of flows ++ xs) (sym (drop_all i arrows end))
      ∙ far.along);
  each = far.each;
}

-- a set that covers another covers one that is the same
pub covers_same : (s u v w : Set) → ((d : ℕ) → s d ≡ u d) → v ≡ w → SetCovers s v ↔ SetCovers u w
covers_same s u v w same is = (
  λ k d t. subst IsTrue (same d) (k d (subst (λ (x : Set). IsTrue (x d)) (sym is) t)),
  λ k d t. subst IsTrue (sym (same d)) (k d (subst (λ (x : Set). IsTrue (x d)) is t)),
)

-- the flow of a place with this instruction and this row
pub flow_of : (after : After) (b : Board) (p : List Instr) (t : Table) (f : Flow) (from to : ℕ)
    (i : Instr) (row : Row) → arrow_of f ≡ (from, to) → slice_get p from ≡ Some i
    → row_of t from ≡ Some row
    → ((before : Set) (d : ℕ) → IsTrue (flow_after f before d) → after b row i to before d)
    → IsFlow after b p t f
flow_of after b p t f from to i row along here there flow j other before d at' row_at sure =
    let start : f.from ≡ from = ap (λ (x : ℕ × ℕ). x.0) along in
    let end : f.to ≡ to = ap (λ (x : ℕ × ℕ). x.1) along in
    let instr : i ≡ j = some_same i j
    (sym here ∙ subst (λ n. slice_get p n ≡ Some j) start at') in
    let rows : row ≡ other = some_same row other
    (sym there ∙ subst (λ n. row_of t n ≡ Some other) start row_at) in
    subst (λ n. after b other j n before d) (sym end)
    (subst (λ (r : Row). after b r j to before d) rows
    (subst (λ (x : Instr). after b row x to before d) instr (flow before d sure)))

-- where nothing is sure at the start, nothing is at the first place
pub none_at_start : (start : Set) (sets : List Set) → start ≡ empty
    → SetCovers start (set_at sets 0) → (d : ℕ) → set_at sets 0 d ≡ false
none_at_start start sets none covers d = by (cases_Bool (set_at sets 0 d))
  where
    by : (set_at sets 0 d ≡ true) ⊎ (set_at sets 0 d ≡ false) → set_at sets 0 d ≡ false
    by (inl t) =
        let off = ap (λ (s : Set). s d) none in
        let on = covers d t in absurd (cc (off, on))
    by (inr f) = f
