-- Ticks from the last place down.
use Rattle.std.proofs.Common.{◌≡◌, ◌<◌, ◌≤◌, ◌+◌, ◌*◌, ◌⊎◌, ℕ, List, length, ap}
use Rattle.std.proofs.Common.{sym, ◌∙◌, subst, inl, inr, arith, All, replicate}
use Rattle.std.proofs.lemmas.Bool.{cases_eq}
use Rattle.std.proofs.lemmas.List.{get_or-set_same, get_or-set_other, length-replicate}
use Rattle.std.specs.Prelude.{slice_get, slice_index, slice_set, Some}
use Rattle.board.specs.Boards.{Board}
use Rattle.seq_program.specs.declared.instr.Instr.{Instr}
use Rattle.facts.specs.transfer.TimedEdges.{HasTimed, timed_edges}
use Rattle.table_check.specs.Tables.{Table, row_of}
use Rattle.fact_search.specs.Forward.{IsForward}
use Rattle.fact_search.specs.Ticking.{DoFit, PaysAt, most_worst}
use Rattle.fact_search.proofs.Shared.Places.{at_replicate, within}
use Rattle.fact_search.proofs.Shared.Tables.{length_set}
use Rattle.fact_search.proofs.Rows.Widened.{all_by_index, all_set}
use Rattle.fact_search.proofs.Leads.Goes.{onward}

-- ticks that fit at the last so many places
pub record FitLast (b : Board) (p : List Instr) (t : Table) (lost : ℕ) (ticks : List ℕ)
    (done : ℕ) : Type 0 where
  pub count : length ticks ≡ length p
  pub some : All (λ n. 1 ≤ n) ticks
  pub most : All (λ n. n ≤ 1 + done * 536870912) ticks
  pub pays : (place : ℕ) → length p ≤ place + done → place < length p
      → PaysAt b p t lost ticks place (slice_index ticks place)

ones : (P : ℕ → Type 0) (n : ℕ) → P 1 → All P (replicate n 1)
ones P n k = all_by_index P (replicate n 1) 0 n (length-replicate n 1)
    (λ r lt. subst P (sym (at_replicate n r 1 0 lt)) k)

pub fit_first : (b : Board) (p : List Instr) (t : Table) (lost : ℕ) (ticks : List ℕ) (n : ℕ)
    → ticks ≡ replicate n 1 → n ≡ length p → FitLast b p t lost ticks 0
fit_first b p t lost ticks n e count =
    let P : List ℕ → Type 0 = λ xs. FitLast b p t lost xs 0 in
    subst P (sym e) (record {
      count = length-replicate n 1 ∙ count;
      some = ones (λ x. 1 ≤ x) n (omega arith);
      most = ones (λ x. x ≤ 1 + 0 * 536870912) n (omega arith);
      pays = λ place last inside. absurd (omega (arith, last, inside));
    })

-- how far they are at most, whatever is done
pub all_low : (b : Board) (p : List Instr) (t : Table) (lost : ℕ) (ticks : List ℕ) (done : ℕ)
    → FitLast b p t lost ticks done → done ≤ 1024 → All (λ n. n ≤ 549755813889) ticks
all_low b p t lost ticks done k le i d lt = let h = k.most i d lt in omega (arith, h, le)

pub fit_more : (b : Board) (p : List Instr) (t : Table) (lost : ℕ) (ticks : List ℕ)
    (done place n : ℕ) → IsForward p → FitLast b p t lost ticks done → place + done + 1 ≡ length p
    → 1 ≤ n
    → PaysAt b p t lost ticks place n
    → ((bound : ℕ) → 1 ≤ bound → All (λ m. m ≤ bound) ticks → n ≤ bound + most_worst)
    → FitLast b p t lost (slice_set ticks place n) (done + 1)
fit_more b p t lost ticks done place n forward k e some pays most = record {
  count = length_set ticks place n ∙ k.count;
  some = all_set (λ x. 1 ≤ x) ticks place n k.some some;
  most = all_set (λ x. x ≤ 1 + (done + 1) * 536870912) ticks place n
      (λ i d lt. let h = k.most i d lt in omega (arith, h))
      (let h = most (1 + done * 536870912) (omega arith) k.most in omega (arith, h));
  pays = λ q last inside. at q last inside (cases_eq q place);
}
  where
    later : (m : ℕ) → place < m → slice_index (slice_set ticks place n) m ≡ slice_index ticks m
    later m lt = get_or-set_other ticks place m n 0 (λ same. absurd (omega (arith, same, lt)))

    here : slice_index (slice_set ticks place n) place ≡ n
    here =
        let c = k.count in
        let lt : place < length ticks = omega (arith, e, c) in
        get_or-set_same ticks place n 0 lt

    at : (q : ℕ) → length p ≤ q + (done + 1) → q < length p → (q ≡ place) ⊎ (q ≡ place → ⊥)
        → PaysAt b p t lost (slice_set ticks place n) q (slice_index (slice_set ticks place n) q)
    at q last inside (inl same) i row at' there met x w h =
        let P : ℕ → Type 0 = λ m. slice_get p m ≡ Some i in
        let Q : ℕ → Type 0 = λ m. row_of t m ≡ Some row in
        let R : ℕ → Type 0 = λ m. HasTimed (timed_edges b m i row) x w in
        let old = pays i row (subst P same at') (subst Q same there) met x w (subst R same h) in
        let on = onward b p place i row x w forward (subst P same at') (subst R same h) in
        let there' = later x.to on in
        let here' = ap (slice_index (slice_set ticks place n)) same ∙ here in
        omega (arith, old, there', here')
    at q last inside (inr apart) i row at' there met x w h =
        let after : place < q = omega (arith, last, apart, e) in
        let old = k.pays q (omega (arith, after, e)) inside i row at' there met x w h in
        let on = onward b p q i row x w forward at' h in
        let there' = later x.to (omega (arith, after, on)) in
        let here' = later q after in
        omega (arith, old, there', here')

pub do_fit : (b : Board) (p : List Instr) (t : Table) (lost : ℕ) (ticks : List ℕ) (done : ℕ)
    → FitLast b p t lost ticks done → length p ≤ done → done ≤ 1024 → DoFit b p t lost ticks
do_fit b p t lost ticks done k all few = record {
  count = k.count;
  some = k.some;
  most = all_low b p t lost ticks done k few;
  pays = λ place i row here there met x w h.
      k.pays place (omega (arith, all)) (within p place i here) i row here there met x w h;
}
