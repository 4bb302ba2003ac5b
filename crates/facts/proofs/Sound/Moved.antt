-- Where a message leads: the ticks, the rank and the machine after it.
use Rattle.std.proofs.Common.{◌≡◌, ◌≤◌, ◌+◌, ℕ, Option, Some, List, length}
use Rattle.std.proofs.Common.{inl, inr, refl, sym, ap, subst, ◌∙◌, arith}
use Rattle.std.specs.Prelude.{unwrap_or}
use Rattle.smbus.specs.Asked.{Asked}
use Rattle.smbus.specs.Answered.{Answered}
use Rattle.smbus.specs.Contenders.{Contender}
use Rattle.board.specs.Boards.{Board}
use Rattle.targets.specs.declared.outcome.Outcome.{Outcome}
use Rattle.targets.specs.declared.outcome.Outcome.TheVariants.{Done, NotAcknowledged, TimedOut}
use Rattle.targets.specs.declared.outcome.Outcome.TheVariants.{Lost}
use Rattle.targets.specs.States.{BusState}
use Rattle.seq_program.specs.declared.instr.Instr.{Instr}
use Rattle.seq_program.specs.Valid.{jump_in}
use Rattle.simulator.specs.Machines.{Machine, Entry}
use Rattle.simulator.specs.Moves.{moved}
use Rattle.seq_program.specs.Requests.{result_in}
use Rattle.simulator.specs.ContendedSteps.{IsStepAlone, IsStepLost}
use Rattle.facts.specs.domain.Rows.{Row, Admits, rank}
use Rattle.seq_program.specs.Requests.{Transaction}
use Rattle.seq_program.specs.Requests.{request, request_in}
use Rattle.facts.specs.transfer.Edges.{Effect, SetsPage, SetsProtect, TurnsOff, ReadsStatus}
use Rattle.facts.specs.transfer.Edges.{ReadsPage}
use Rattle.facts.specs.transfer.Edges.{ReadsProtect, Loads, Nothing, Edge, edge, edges, edges_of}
use Rattle.facts.specs.transfer.Edges.{sent_edges}
use Rattle.facts.specs.transfer.Edges.{effect_of, done_row, else_row}
use Rattle.facts.proofs.Shared.EdgeLists.{HasEdge}
use Rattle.facts.proofs.Sound.OwnLeads.{LeadsOwn}
use Rattle.facts.proofs.Shared.Asking.{regs_after}
use Rattle.facts.proofs.Sound.WriteEdges.{row_by}

pub alone_ticks : (b : Board) (i : Instr) (o : Option Asked) (m : Machine) (a : Answered)
    (e : Entry) (next : Machine) → IsStepAlone b i o m a e next → e.ticks ≡ length e.samples
alone_ticks b i o m a e next step = ap (λ (x : Entry). x.ticks) step.entry_is
    ∙ sym (ap (λ (x : Entry). length x.samples) step.entry_is)

pub lost_ticks : (b : Board) (i : Instr) (msg : Asked) (c : Contender) (m : Machine)
    (a : Answered) (e : Entry) (next : Machine) → IsStepLost b i msg c m a e next
    → e.ticks ≡ length e.samples
lost_ticks b i msg c m a e next step = ap (λ (x : Entry). x.ticks) step.entry_is
    ∙ sym (ap (λ (x : Entry). length x.samples) step.entry_is)

-- ranks along the edges of a request
pub done_rank : (b : Board) (row : Row) (i : ℕ) (r : Transaction) (f : Effect) (counters : List ℕ)
    (left : ℕ) → rank (done_row b row i r f) counters left ≡ rank row counters left
done_rank b row i r (SetsPage v) counters left = refl
done_rank b row i r (SetsProtect v) counters left = refl
done_rank b row i r TurnsOff counters left = refl
done_rank b row i r (ReadsStatus g) counters left = refl
done_rank b row i r (ReadsPage g) counters left = refl
done_rank b row i r (ReadsProtect g) counters left = refl
done_rank b row i r (Loads g) counters left = refl
done_rank b row i r Nothing counters left = refl

pub else_rank : (b : Board) (row : Row) (i : ℕ) (f : Effect) (counters : List ℕ)
    (left : ℕ) → rank (else_row b row i f) counters left ≡ rank row counters left
else_rank b row i (SetsPage v) counters left = refl
else_rank b row i (SetsProtect v) counters left = refl
else_rank b row i TurnsOff counters left = refl
else_rank b row i (ReadsStatus g) counters left = refl
else_rank b row i (ReadsPage g) counters left = refl
else_rank b row i (ReadsProtect g) counters left = refl
else_rank b row i (Loads g) counters left = refl
else_rank b row i Nothing counters left = refl

pub rank_same : (r s : Row) (cs ds : List ℕ)
    → ((left : ℕ) → rank r cs left ≡ rank s cs left) → cs ≡ ds
    → (left : ℕ) → rank r cs left ≤ rank s ds left
rank_same r s cs ds e f left =
    let same = e left in
    let k : rank s cs left ≡ rank s ds left = ap (λ l. rank s l left) f in
    omega (arith, same, k)

-- where a message leads
abbrev pub place_after : Instr → ℕ → Outcome → ℕ
place_after i place (Done v) = place + 1
place_after i place other = unwrap_or (jump_in i) place

pub moved_place : (i : Instr) (msg : Asked) (o : Outcome) (s : BusState) (m : Machine)
    → (moved i (Some msg) o s m).place ≡ place_after i m.place o
moved_place i msg (Done v) s m = refl
moved_place i msg NotAcknowledged s m = refl
moved_place i msg TimedOut s m = refl
moved_place i msg Lost s m = refl

pub moved_counters : (i : Instr) (msg : Asked) (o : Outcome) (s : BusState) (m : Machine)
    → (moved i (Some msg) o s m).counters ≡ m.counters
moved_counters i msg (Done v) s m = refl
moved_counters i msg NotAcknowledged s m = refl
moved_counters i msg TimedOut s m = refl
moved_counters i msg Lost s m = refl

pub moved_ended : (i : Instr) (msg : Asked) (o : Outcome) (s : BusState) (m : Machine)
    → (moved i (Some msg) o s m).ended ≡ m.ended
moved_ended i msg (Done v) s m = refl
moved_ended i msg NotAcknowledged s m = refl
moved_ended i msg TimedOut s m = refl
moved_ended i msg Lost s m = refl

pub moved_regs : (i : Instr) (r : Transaction) (msg : Asked) (o : Outcome) (s : BusState)
    (m : Machine)
    → result_in i ≡ r.register → (moved i (Some msg) o s m).regs ≡ regs_after r m.regs o
moved_regs i r msg (Done v) s m e =
    ap (λ (z : Option ℕ). Rattle.simulator.specs.Moves.with_result z v
    m.regs) e
moved_regs i r msg NotAcknowledged s m e = refl
moved_regs i r msg TimedOut s m e = refl
moved_regs i r msg Lost s m e = refl

-- the edge that the outcome takes
pub leads_request : (b : Board) (row : Row) (m : Machine) (next : Machine) (h' : List Entry)
    (i : Instr)
    (target otherwise : ℕ) (r : Transaction) (o : Outcome)
    → request_in i ≡ Some (request target r otherwise) → jump_in i ≡ Some otherwise
    → next.place ≡ place_after i m.place o → Admits b (row_by b row target r o) next h'
    → next.counters ≡ m.counters → LeadsOwn b m.place i row m next h'
leads_request b row m next h' i target otherwise r o sends jump place admits counters =
    by o place admits
  where
    all : edges b m.place i row ≡ sent_edges b m.place (request target r otherwise) row
    all = ap (edges_of b m.place i row) sends

    there : (x : Edge) → HasEdge (sent_edges b m.place (request target r otherwise) row) x
        → HasEdge (edges b m.place i row) x
    there x k = let P : List Edge → Type 0 = λ es. HasEdge es x in
        subst P (sym (ap (edges_of b m.place i row) sends)) k

    other : next.place ≡ unwrap_or (jump_in i) m.place
        → Admits b (else_row b row target (effect_of r)) next h'
        → LeadsOwn b m.place i row m next h'
    other place admits = record {
      by = edge otherwise (else_row b row target (effect_of r));
      there = there (edge otherwise (else_row b row target (effect_of r))) (inr (inl refl));
      to = place ∙ ap (λ (z : Option ℕ). unwrap_or z m.place) jump;
      admits = admits;
      falls = rank_same (else_row b row target (effect_of r)) row next.counters m.counters
          (else_rank b row target (effect_of r) next.counters) counters;
    }

    by : (o : Outcome) → next.place ≡ place_after i m.place o
        → Admits b (row_by b row target r o) next h'
        → LeadsOwn b m.place i row m next h'
    by (Done v) place admits = record {
      by = edge (m.place + 1) (done_row b row target r (effect_of r));
      there = there (edge (m.place + 1) (done_row b row target r (effect_of r))) (inl refl);
      to = place;
      admits = admits;
      falls = rank_same (done_row b row target r (effect_of r)) row next.counters m.counters
          (done_rank b row target r (effect_of r) next.counters) counters;
    }
    by NotAcknowledged place admits = other place admits
    by TimedOut place admits = other place admits
    by Lost place admits = other place admits
