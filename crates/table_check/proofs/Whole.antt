-- From a table that keeps the rule book to whole runs.
use Rattle.std.proofs.Common.{◌≡◌, ◌≤◌, ◌+◌, ◌*◌, ◌⊎◌, ℕ, zero, suc, Option, Some, None, List, []}
use Rattle.std.proofs.Common.{◌∷◌}
use Rattle.std.proofs.Common.{replicate, slice_get, slice_index, inl, inr, refl, sym, ap}
use Rattle.std.proofs.Common.{subst, ◌∙◌, arith}
use Rattle.std.specs.Prelude.{IsTrue, IfSome}
use Rattle.std.proofs.lemmas.List.Elements.{All-contains}
use Rattle.smbus.specs.Answered.{Answered}
use Rattle.board.specs.Boards.{Target, Board}
use Rattle.board.specs.Valid.{IsBoard}
use Rattle.targets.specs.States.{BusState, IsStart}
use Rattle.targets.specs.SomeAnswer.{IsMessage}
use Rattle.seq_program.specs.declared.instr.Instr.{Instr}
use Rattle.seq_program.specs.Messages.{message_of}
use Rattle.seq_program.specs.Programs.{is_end}
use Rattle.seq_program.specs.Valid.{IsInstr, IsProgram}
use Rattle.simulator.specs.declared.machine.Ending.TheVariants.{Running}
use Rattle.simulator.specs.Machines.{Machine, Entry, start_at}
use Rattle.simulator.specs.Safe.{AreSafe, IsSafe as IsSafeEntry}
use Rattle.simulator.specs.SafeLaws.{SendsMessage, SafeStepsAreSafeRuns}
use Rattle.simulator.specs.StepLaws.{IsReady, StartsAreReady, StepsAreSeen}
use Rattle.simulator.specs.Steps.{IsStep, IsRun, total_ticks}
use Rattle.facts.specs.declared.duties.rule.Rule.{Rule}
use Rattle.facts.specs.declared.domain.source.Source.{Source}
use Rattle.facts.specs.domain.Rows.{Row, Admits, InSpan, IsRow, IsFrom, left_of, rank, weight}
use Rattle.facts.specs.domain.Rows.{set_at}
use Rattle.facts.specs.transfer.Edges.{Edge}
use Rattle.facts.specs.FactLaws.{CoveringRowsAdmit}
use Rattle.facts.specs.well_formed.Starts.{HoldsStarts}
use Rattle.facts.specs.Steps.{Leads, IsSoundStep, StepsAreSound, MetDutiesSend}
use Rattle.facts.specs.transfer.Ticks.{own_ticks}
use Rattle.facts.specs.transfer.TimedEdges.{timed_edges}
use Rattle.table_check.specs.Tables.{Table, row_of}
use Rattle.table_check.specs.checker.Obligations.{Start, shapes, of_edges, of_end}
use Rattle.table_check.specs.checker.Obligations.{of_row, of_places, obligations, AllHold}
use Rattle.table_check.specs.checker.Obligations.{IsInductive}
use Rattle.table_check.specs.checker.Obligations.{IsFirstFault, base_of, bound_of, verdict_on}
use Rattle.table_check.specs.checker.SafeTables.{InductiveRunsAreSafe, IsSafeVerdict}
use Rattle.table_check.specs.checker.SafeTables.{VerdictsAreSafe}
use Rattle.table_check.proofs.Places.{all_at, found}
use Rattle.table_check.proofs.Obligations.{hold_front, hold_back, hold_edge, hold_place, hold_shape}
use Rattle.table_check.proofs.Obligations.{met_duties, at_end, worst_of_end, no_fault}
use Rattle.table_check.proofs.Obligations.{ends_by}

-- the laws of the layers below
pub record Laws : Type 0 where
  pub sound : StepsAreSound
  pub sends : MetDutiesSend
  pub admits : CoveringRowsAdmit
  pub seen : StepsAreSeen
  pub starts : StartsAreReady
  pub runs : SafeStepsAreSafeRuns

-- a machine that has ended, or that its place's row admits with so many ticks left
pub record Lasts (b : Board) (t : Table) (m : Machine) (h : List Entry) (n : ℕ) : Type 0 where
  pub row : Row
  pub there : row_of t m.place ≡ Some row
  pub admits : Admits b row m h
  pub left : rank row m.counters (left_of b m.bus) ≤ n

pub record Kept (b : Board) (p : List Instr) (t : Table) (m : Machine) (h : List Entry)
    (n : ℕ) : Type 0 where
  pub ready : IsReady b p m
  pub stands : (m.ended ≡ Running → ⊥) ⊎ Lasts b t m h n

-- what holds at a place of an inductive table
record Held (b : Board) (p : List Instr) (t : Table) (place : ℕ) (i : Instr)
    (row : Row) : Type 0 where
  pub shaped : IsRow b row
  pub all : AllHold b p t (of_row b place i row)

held : (b : Board) (p : List Instr) (t : Table) (place : ℕ) (i : Instr) (row : Row)
    → IsInductive b p t → slice_get p place ≡ Some i → row_of t place ≡ Some row
    → Held b p t place i row
held b p t place i row table here there = record {
  shaped = hold_shape b p t t 0 place row (hold_front b p t (shapes 0 t) (Start ∷ of_places b 0 p t)
      table.1) there;
  all = hold_place b p t p t 0 place place i row
      (hold_back b p t (shapes 0 t) (Start ∷ of_places b 0 p t) table.1).1 (omega arith) here there;
}

-- one step: the ticks are taken off
pub record Stepped (b : Board) (p : List Instr) (t : Table) (h : List Entry) (n : ℕ) (e : Entry)
    (next : Machine) : Type 0 where
  pub safe : IsSafeEntry b h e
  pub rest : ℕ
  pub pays : e.ticks + rest ≤ n
  pub kept : Kept b p t next (e ∷ h) rest

pub stepped : Laws → (b : Board) (p : List Instr) (t : Table) → IsBoard b → IsProgram p
    → IsInductive b p t
    → (m : Machine) (h : List Entry) (n : ℕ) (a : Answered) (e : Entry) (next : Machine)
    → Kept b p t m h n → IsStep b p m a e next → Stepped b p t h n e next
stepped laws b p t is program table m h n a e next k step = by k.stands
  where
    ready : IsReady b p next
    ready = (laws.seen b p m next a e is program k.ready step).ready

    by : (m.ended ≡ Running → ⊥) ⊎ Lasts b t m h n → Stepped b p t h n e next
    by (inl ended) = absurd (ended step.running)
    by (inr l) = goes sound.goes
      where
        all : Held b p t m.place step.instr l.row
        all = held b p t m.place step.instr l.row table step.here l.there

        sound : IsSoundStep b step.instr l.row m h e next
        sound = laws.sound b p step.instr l.row m h a e next (record {
          board = is;
          program = program;
          here = step.here;
          shaped = (held b p t m.place step.instr l.row table step.here l.there).shaped;
          ready = k.ready;
          admits = l.admits;
          running = step.running;
          duties = met_duties b p t m.place step.instr l.row
              (held b p t m.place step.instr l.row table step.here l.there).all;
        }) step.step

        goes : ((next.ended ≡ Running → ⊥) × IsTrue (is_end step.instr)
            × (e.ticks ≤ own_ticks b step.instr))
            ⊎ ((next.ended ≡ Running) × Leads b m.place step.instr l.row m next (e ∷ h) e.ticks)
            → Stepped b p t h n e next
        goes (inl x) =
            let end = ends_by step.instr x.1 in
            let es =
            of_edges m.place (timed_edges b m.place step.instr l.row) in
            let last : AllHold b p t (of_end m.place l.row step.instr) =
            hold_back b p t es (of_end m.place l.row step.instr) all.all.1.1.1.1.1 in
            let pays : 1 ≤ rank l.row m.counters (left_of b m.bus) =
            at_end b p t m.place step.instr l.row end last m.counters l.admits.counters m.bus.lost
            l.admits.lost in
            let worst : own_ticks b step.instr ≡ 1 = worst_of_end b step.instr end in
            let ticks = x.2 in
            let left = l.left in
            record {
              safe = sound.safe;
              rest = 0;
              pays = omega (arith, pays, worst, ticks, left);
              kept =
                  record { ready = ready; stands = inl x.0 };
            }
        goes (inr x) =
            let lead = x.1 in
            let es =
            of_edges m.place (timed_edges b m.place step.instr l.row) in
            let first : AllHold b p t es = hold_front b p t es (of_end m.place l.row step.instr)
            all.all.1.1.1.1.1 in
            let here =
            hold_edge b p t m.place (timed_edges b m.place step.instr l.row) lead.by lead.most first
            lead.there in
            let to : Row = here.0.0 in
            let pays : lead.most + rank to next.counters (left_of b next.bus)
            ≤ rank (Edge.row lead.by) next.counters (left_of b next.bus) =
            here.1 to here.0.1 next.counters (Admits.counters lead.admits) next.bus.lost
            (Admits.lost lead.admits) in
            let ticks = lead.within in
            let left = l.left in
            let falls = lead.falls in
            record {
              safe = sound.safe;
              rest = rank to next.counters (left_of b next.bus);
              pays = omega (arith, pays, ticks, left, falls);
              kept = record {
                ready = ready;
                stands = inr (record {
                  row = to;
                  there = ap (row_of t) lead.to ∙ here.0.1;
                  admits =
                      laws.admits b to (Edge.row lead.by) next (e ∷ h) here.0.2 lead.admits;
                  left =
                      omega arith;
                });
              };
            }

-- a run
record Ran (b : Board) (p : List Instr) (t : Table) (h : List Entry) (n : ℕ)
    (entries : List Entry)
    (last : Machine) : Type 0 where
  pub safe : AreSafe b h entries
  pub few : total_ticks entries ≤ n
  pub history : List Entry
  pub rest : ℕ
  pub kept : Kept b p t last history rest

ran : Laws → (b : Board) (p : List Instr) (t : Table) → IsBoard b → IsProgram p
    → IsInductive b p t
    → (answers : List Answered) (entries : List Entry) (m : Machine) (h : List Entry) (n : ℕ)
    (last : Machine)
    → Kept b p t m h n → IsRun b p m answers entries last → Ran b p t h n entries last
ran laws b p t is program table [] [] m h n last k run =
    record {
      safe = tt;
      few = omega arith;
      history = h;
      rest = n;
      kept = let P : Machine
          → Type 0 = λ x. Kept b p t x h n in subst P (sym run) k;
    }
ran laws b p t is program table [] (e ∷ entries) m h n last k run = absurd run
ran laws b p t is program table (a ∷ answers) [] m h n last k run = absurd run
ran laws b p t is program table (a ∷ answers) (e ∷ entries) m h n last k run =
    let one = stepped laws b p t is program table m h n a e run.0 k run.1 in
    let later =
    ran laws b p t is program table answers entries run.0 (e ∷ h) one.rest last one.kept run.2 in
    let pays = one.pays in
    let few = later.few in
    record {
      safe = (one.safe, later.safe);
      few = omega (arith, pays, few);
      history = later.history;
      rest =
          later.rest;
      kept = later.kept;
    }

weight-zeros : (ks : List ℕ) (n : ℕ) → weight ks (replicate n 0) ≡ 0
weight-zeros [] n = refl
weight-zeros (k ∷ ks) zero = refl
weight-zeros (k ∷ ks) (suc n) = omega (arith, weight-zeros ks n)

-- the row of place 0 admits every start
pub admits_start : (b : Board) (row : Row) (s : BusState) → HoldsStarts b row → IsStart b s
    → Admits b row (start_at s) []
admits_start b row s first start = record {
  pages = λ i lt. let u = found b.targets i lt in
      All-contains (λ v. IsTrue (set_at row.pages i v)) (Target.start_pages u.0)
      (slice_index s.page i) (first.pages i u.0 u.1) (start.targets i u.0 u.1).page_listed;
  protects = λ i lt. let u = found b.targets i lt in
      All-contains (λ v. IsTrue (set_at row.protects i v)) (Target.start_protects u.0)
      (slice_index s.protect i) (first.protects i u.0 u.1) (start.targets i u.0 u.1).protect_listed;
  regs = first.regs;
  sources = λ r lt.
      let P : Source → Type 0 = λ x. IsFrom b (start_at s) [] x (slice_index (replicate 8 0) r) in
      subst P (sym (first.sources r)) tt;
  counters = first.counters;
  lost = let P : ℕ → Type 0 = λ n. InSpan row.lost n in subst P (sym start.fresh) first.lost;
  good = λ d lt g. absurd (first.good d g);
}

-- where a run may start
pub started : Laws → (b : Board) (p : List Instr) (t : Table) (s : BusState) → IsBoard b
    → IsProgram p → IsInductive b p t → IsStart b s → Kept b p t (start_at s) [] (bound_of t)
started laws b p t s is program table start =
    let at' : (row : Row) × (row_of t 0 ≡ Some row) × HoldsStarts b row =
    (hold_back b p t (shapes 0 t) (Start ∷ of_places b 0 p t) table.1).0 in
    record { ready = laws.starts b p s is program start; stands = inr (by at'.0 at'.1 at'.2) }
  where
    by : (row : Row) → row_of t 0 ≡ Some row → HoldsStarts b row
        → Lasts b t (start_at s) [] (bound_of t)
    by row there first = record {
      row = row;
      there = there;
      admits = admits_start b row s first start;
      left =
          let none : weight row.coeffs (replicate 4 0) ≡ 0 = weight-zeros row.coeffs 4 in
          let free : row.lost_coeff * left_of b s ≡ 0 =
          ap (λ k. k * left_of b s) first.lost_coeff ∙ omega arith in
          let same : bound_of t ≡ row.base = ap base_of there in
          omega (arith, none, free, same);
    }

-- a machine that runs sends a message that targets can answer
goes_on : Laws → (b : Board) (p : List Instr) (t : Table) (m : Machine) (h : List Entry) (n : ℕ)
    → IsBoard b
    → IsProgram p → IsInductive b p t → Kept b p t m h n → m.ended ≡ Running → SendsMessage b p m
goes_on laws b p t m h n is program table k running i here = by k.stands
  where
    by : (m.ended ≡ Running → ⊥) ⊎ Lasts b t m h n → IfSome (message_of b i m.regs)
        (λ x. IsMessage b x)
    by (inl ended) = absurd (ended running)
    by (inr l) = laws.sends b l.row i m.regs is
        (all_at (λ (x : Instr). IsInstr x) p m.place i program.each here)
        (met_duties b p t m.place i l.row (held b p t m.place i l.row table here l.there).all)

pub inductive_runs : Laws → InductiveRunsAreSafe
inductive_runs laws b p t is program table s answers entries last start run =
    let first = started laws b p t s is program table start in
    let whole =
    ran laws b p t is program table answers entries (start_at s) [] (bound_of t) last first run in
    laws.runs b p (start_at s) last answers entries
    (bound_of t) is program first.ready run whole.safe whole.few
    (goes_on laws b p t last whole.history whole.rest is program table whole.kept)

-- a verdict without a fault accepts the table's bound
pub verdicts : Laws → VerdictsAreSafe
verdicts laws b p t v is program told = by told.0 told.1 told.2
  where
    by : (found : Option (ℕ × Rule)) → IsFirstFault b p t (obligations b p t) found
        → v ≡ verdict_on t found → IsSafeVerdict b p v
    by None none same =
        subst (IsSafeVerdict b p) (sym same)
        (inductive_runs laws b p t is program (no_fault b p t (obligations b p t) none))
    by (Some fault) some same = subst (IsSafeVerdict b p) (sym same) tt
