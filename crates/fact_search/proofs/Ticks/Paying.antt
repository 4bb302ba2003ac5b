-- Ticks that pay for the edges of a place.
use Rattle.std.proofs.Common.{◌≡◌, ◌<◌, ◌≤◌, ◌+◌, ℕ, List, [], ◌∷◌, length, refl, sym}
use Rattle.std.proofs.Common.{◌∙◌, ◌⊎◌, ap, slice_get, Some, subst, inl, inr, All, arith, min}
use Rattle.std.specs.List.{AllByRecursion}
use Rattle.std.proofs.lemmas.List.Elements.{All-from_recursion, recursion_from_All}
use Rattle.std.specs.Prelude.{IfSome, Option, slice_index}
use Rattle.board.specs.Boards.{Board}
use Rattle.seq_program.specs.declared.instr.Instr.{Instr}
use Rattle.facts.specs.transfer.Edges.{Edge}
use Rattle.facts.specs.domain.Rows.{Row}
use Rattle.facts.specs.transfer.TimedEdges.{HasTimed, timed_edges}
use Rattle.table_check.specs.Tables.{Table}
use Rattle.fact_search.specs.Leading.{AreLeadsAt, leads_of}
use Rattle.fact_search.specs.Searching.{Premises}
use Rattle.fact_search.specs.Ticking.{PaysAt, most_cost, most_worst}
use Rattle.fact_search.proofs.Shared.Places.{some_same}
use Rattle.fact_search.proofs.Leads.Goes.{inside}
use Rattle.fact_search.proofs.Leads.Has.{IsLost, IsOwn, own_or_lost}
use Rattle.fact_search.proofs.Leads.Said.{is_instr}
use Rattle.fact_search.proofs.Ticks.Worst.{foreign_low, own_low}

abbrev Lead : Type 0
Lead = ℕ × ℕ

-- what holds of each edge with its ticks holds of their leads
have_all : (P : ℕ → ℕ → Type 0) (es : List (Edge × ℕ))
    → ((x : Edge) (k : ℕ) → HasTimed es x k → P x.to k)
    → AllByRecursion (λ (l : Lead). P l.0 l.1) (leads_of es)
have_all P [] h = tt
have_all P (y ∷ es) h = (h y.0 y.1 (inl (refl, refl)), have_all P es (λ z k l. h z k (inr l)))

-- and back
all_have : (P : ℕ → ℕ → Type 0) (es : List (Edge × ℕ))
    → AllByRecursion (λ (l : Lead). P l.0 l.1) (leads_of es) → (x : Edge) (k : ℕ)
    → HasTimed es x k → P x.to k
all_have P [] h x k l = absurd l
all_have P (y ∷ es) h x k (inl same) =
    let R : Edge → Type 0 = λ z. P z.to k in
    let S : ℕ → Type 0 = λ n. P (Edge.to y.0) n in
    subst R (sym same.0) (subst S (sym same.1) h.0)
all_have P (y ∷ es) h x k (inr l) = all_have P es h.1 x k l

-- the leads of a place's edges, where there are any
known : (P : ℕ → ℕ → Type 0) (b : Board) (p : List Instr) (t : Table) (place : ℕ)
    (leads : List Lead) → AreLeadsAt b p t place leads
    → ((i : Instr) (row : Row) → slice_get p place ≡ Some i → (x : Edge) (k : ℕ)
    → HasTimed (timed_edges b place i row) x k → P x.to k)
    → All (λ (l : Lead). P l.0 l.1) leads
known P b p t place leads (es, inl none, e) h =
    let Q : List Lead → Type 0 = λ ls. AllByRecursion (λ (l : Lead). P l.0 l.1) ls in
    All-from_recursion (λ (l : Lead). P l.0 l.1) leads
    (subst Q (sym (e ∙ ap leads_of none.0)) tt)
known P b p t place leads (es, inr x, e) h =
    let i : Instr = x.0 in
    let Q : List Lead → Type 0 = λ ls. AllByRecursion (λ (l : Lead). P l.0 l.1) ls in
    All-from_recursion (λ (l : Lead). P l.0 l.1) leads
    (subst Q (sym (e ∙ ap leads_of x.5))
    (have_all P (timed_edges b place i x.1) (λ z k l. h i x.1 x.2 z k l)))

-- the edges of a place lead into the program, and take no more ticks than any instruction
pub leads_inside : (b : Board) (p : List Instr) (t : Table) (place : ℕ) (leads : List Lead)
    → Premises b p → AreLeadsAt b p t place leads → All (λ l. l.0 < length p) leads
leads_inside b p t place leads given is =
    known (λ to worst. to < length p) b p t place leads is
    (λ i row here e k h. inside b p place i row e k given.program here h)

pub leads_low : (b : Board) (p : List Instr) (t : Table) (place : ℕ) (leads : List Lead)
    → Premises b p → AreLeadsAt b p t place leads → All (λ l. l.1 ≤ most_worst) leads
leads_low b p t place leads given is =
    known (λ to worst. worst ≤ most_worst) b p t place leads is
    (λ i row here e k h. low i row here e k (own_or_lost b place i row e k h))
  where
    low : (i : Instr) (row : Row) → slice_get p place ≡ Some i → (e : Edge) (k : ℕ)
        → IsOwn b place i row e k ⊎ IsLost b i row e k → k ≤ most_worst
    low i row here e k (inl own) =
        let z = (own_low b i given.board (is_instr p place i given.program here)).1 in
        omega (arith, own.1, z)
    low i row here e k (inr lost) =
        let z = (foreign_low b given.board).1 in omega (arith, lost.1, z)

-- what pays for the leads of a place pays for its edges
pub leads_pay : (b : Board) (p : List Instr) (t : Table) (place : ℕ) (leads : List Lead)
    (lost cost : ℕ) (ticks : List ℕ) (n : ℕ) → AreLeadsAt b p t place leads
    → IfSome (slice_get p place) (λ i. cost ≡ most_cost b lost i)
    → All (λ l. min l.1 cost + slice_index ticks l.0 ≤ n) leads → PaysAt b p t lost ticks place n
leads_pay b p t place leads lost cost ticks n (es, inl none, e) priced all i row here there met
    x k h =
    absurd (none.1 i row here there met)
leads_pay b p t place leads lost cost ticks n (es, inr y, same) priced all i row here there met
    e k h =
    let j : Instr = y.0 in
    let old : Row = y.1 in
    let si : j ≡ i = some_same j i (sym y.2 ∙ here) in
    let sr : old ≡ row = some_same old row (sym y.3 ∙ there) in
    let Costs : Option Instr → Type 0 = λ o. IfSome o (λ z. cost ≡ most_cost b lost z) in
    let price = subst Costs here priced in
    let P : Instr → Type 0 = λ z. HasTimed (timed_edges b place z old) e k
    → min k cost + slice_index ticks e.to ≤ n in
    let Q : Row → Type 0 = λ z. HasTimed (timed_edges b place i z) e k
    → min k cost + slice_index ticks e.to ≤ n in
    let R : List Lead → Type 0 = λ ls.
    AllByRecursion (λ (l : Lead). min l.1 cost + slice_index ticks l.0 ≤ n) ls in
    let each = subst R (same ∙ ap leads_of y.5)
    (recursion_from_All (λ (l : Lead). min l.1 cost + slice_index ticks l.0 ≤ n) leads all) in
    let S : ℕ → Type 0 = λ m. min k m + slice_index ticks e.to ≤ n in
    subst S price (subst Q sr (subst P si (λ l.
    all_have (λ to worst. min worst cost + slice_index ticks to ≤ n)
    (timed_edges b place j old) each e k l)) h)
