-- Duties that are met, all or not all.
use Rattle.std.proofs.Common.{◌≡◌, ℕ, List, [], ◌∷◌, Some, None, inl, inr, refl, sym, ◌∙◌}
use Rattle.std.proofs.Common.{subst}
use Rattle.std.specs.Prelude.{Option, slice_get, IfSome}
use Rattle.board.specs.Boards.{Board}
use Rattle.seq_program.specs.declared.instr.Instr.{Instr}
use Rattle.facts.specs.declared.duties.rule.Rule.{Rule}
use Rattle.facts.specs.declared.duties.rule.Rule.TheVariants.{K1, K2, K3, K4, K5, K6, K7, K8, K9}
use Rattle.facts.specs.duties.Duties.{IsFirstFailing, Meets, MeetsSent, duties}
use Rattle.facts.specs.transfer.Edges.{Edge}
use Rattle.seq_program.specs.Requests.{Request, request_in}
use Rattle.facts.specs.domain.Rows.{Row}
use Rattle.facts.specs.transfer.TimedEdges.{timed_edges}
use Rattle.table_check.specs.checker.ByPlace.{MeetsAll}
use Rattle.table_check.specs.Tables.{Table, row_of}
use Rattle.fact_search.specs.Searching.{AreEdgesAt}
use Rattle.fact_search.proofs.Shared.Places.{none_some, some_same}

others : (b : Board) (row : Row) (o : Option Request) → MeetsSent b row o K6 × MeetsSent b row o K7
    × MeetsSent b row o K8 × MeetsSent b row o K9
others b row None = (tt, tt, tt, tt)
others b row (Some s) = (tt, tt, tt, tt)

five : (b : Board) (i : Instr) (row : Row) → Meets b row i K1 → Meets b row i K2
    → Meets b row i K3 → Meets b row i K4 → Meets b row i K5 → MeetsAll b i row
five b i row k1 k2 k3 k4 k5 K1 = k1
five b i row k1 k2 k3 k4 k5 K2 = k2
five b i row k1 k2 k3 k4 k5 K3 = k3
five b i row k1 k2 k3 k4 k5 K4 = k4
five b i row k1 k2 k3 k4 k5 K5 = k5
five b i row k1 k2 k3 k4 k5 K6 = (others b row (request_in i)).0
five b i row k1 k2 k3 k4 k5 K7 = (others b row (request_in i)).1
five b i row k1 k2 k3 k4 k5 K8 = (others b row (request_in i)).2
five b i row k1 k2 k3 k4 k5 K9 = (others b row (request_in i)).3

pub all_met : (b : Board) (i : Instr) (row : Row) → IsFirstFailing b row i duties None
    → MeetsAll b i row
all_met b i row (inr h) = absurd (none_some K1 h.1)
all_met b i row (inl (k1, inr h)) = absurd (none_some K2 h.1)
all_met b i row (inl (k1, inl (k2, inr h))) = absurd (none_some K3 h.1)
all_met b i row (inl (k1, inl (k2, inl (k3, inr h)))) = absurd (none_some K4 h.1)
all_met b i row (inl (k1, inl (k2, inl (k3, inl (k4, inr h))))) = absurd (none_some K5 h.1)
all_met b i row (inl (k1, inl (k2, inl (k3, inl (k4, inl (k5, h)))))) =
    five b i row k1 k2 k3 k4 k5

fails : (b : Board) (i : Instr) (row : Row) (rules : List Rule) (rule : Rule)
    → IsFirstFailing b row i rules (Some rule) → MeetsAll b i row → ⊥
fails b i row [] rule h met = absurd (none_some rule (sym h))
fails b i row (r ∷ rules) rule (inl h) met = fails b i row rules rule h.1 met
fails b i row (r ∷ rules) rule (inr h) met = h.0 (met r)

-- a place without a row, without an instruction or with a duty that isn't met has no edges
pub no_row : (b : Board) (p : List Instr) (t : Table) (place : ℕ) → None ≡ row_of t place
    → AreEdgesAt b p t place []
no_row b p t place none = inl (refl, λ i row here there met. none_some row (none ∙ there))

pub no_instr : (b : Board) (p : List Instr) (t : Table) (place : ℕ) → None ≡ slice_get p place
    → AreEdgesAt b p t place []
no_instr b p t place none = inl (refl, λ i row here there met. none_some i (none ∙ here))

pub duty_fails : (b : Board) (p : List Instr) (t : Table) (place : ℕ) (i : Instr) (row : Row)
    (rule : Rule) → Some i ≡ slice_get p place → Some row ≡ row_of t place
    → IsFirstFailing b row i duties (Some rule) → AreEdgesAt b p t place []
duty_fails b p t place i row rule here there h =
    inl (
      refl,
      λ j other here' there' met.
          let same : j ≡ i = sym (some_same i j (here ∙ here')) in
          let same' : other ≡ row = sym (some_same row other (there ∙ there')) in
          let P : Instr → Type 0 = λ x. MeetsAll b x row in
          let Q : Row → Type 0 = λ x. MeetsAll b j x in
          fails b i row duties rule h (subst P same (subst Q same' met)),
    )

pub duties_met : (b : Board) (p : List Instr) (t : Table) (place : ℕ) (i : Instr) (row : Row)
    (es : List (Edge × ℕ)) → Some i ≡ slice_get p place → Some row ≡ row_of t place
    → IsFirstFailing b row i duties None
    → IfSome (slice_get p place) (λ j. es ≡ timed_edges b place j row)
    → AreEdgesAt b p t place es
duties_met b p t place i row es here there h told =
    let Told : Option Instr → Type 0 = λ o. IfSome o
    (λ j. es ≡ timed_edges b place j row) in
    inr (i, row, sym here, sym there, all_met b i row h, subst Told (sym here) told)
