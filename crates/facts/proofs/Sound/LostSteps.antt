-- A step that another controller wins: it is safe, it takes no more than the longest frame of such
-- a controller, and the edge of a lost arbitration leads on.
use Rattle.std.proofs.Common.{◌≡◌, ◌<◌, ◌≤◌, ◌+◌, ◌-◌, ◌*◌, ℕ, suc, Option, Some, None, List, ◌∷◌}
use Rattle.std.proofs.Common.{inr, refl, sym, ap, subst, ◌∙◌, arith}
use Rattle.std.specs.Prelude.{nat_lt, slice_index, unwrap_or}
use Rattle.std.proofs.lemmas.Bool.{lt-ltb}
use Rattle.smbus.specs.Asked.{Asked}
use Rattle.smbus.specs.Answered.{Answered}
use Rattle.smbus.specs.Contenders.{Contender}
use Rattle.smbus.specs.Winners.{unless_won, carried}
use Rattle.board.specs.Boards.{Board}
use Rattle.targets.specs.States.{BusState}
use Rattle.targets.specs.Effects.{IsAfter}
use Rattle.targets.specs.declared.outcome.Outcome.TheVariants.{Lost}
use Rattle.seq_program.specs.declared.instr.Instr.{Instr}
use Rattle.seq_program.specs.declared.instr.Instr.TheVariants as instr
use Rattle.seq_program.specs.Messages.{message_of}
use Rattle.seq_program.specs.Requests.{else_in}
use Rattle.seq_program.specs.Valid.{jump_in}
use Rattle.simulator.specs.Machines.{Machine, Entry}
use Rattle.simulator.specs.ContendedSteps.{IsLostTo}
use Rattle.simulator.specs.ForeignTicks.{foreign_ticks}
use Rattle.simulator.specs.StepDoes.{StepDoes}
use Rattle.simulator.specs.StepLaws.{CarriesForeign, CarriesOver}
use Rattle.facts.specs.declared.domain.source.Source.{Source}
use Rattle.facts.specs.declared.domain.source.Source.TheVariants as source
use Rattle.facts.specs.domain.Sets.{empty}
use Rattle.facts.specs.domain.Rows.{Row, Admits, IsFrom, InSpan, source_at, weight}
use Rattle.facts.specs.transfer.Edges.{Edge, edge, edges, lost_row, lost_edges}
use Rattle.facts.specs.transfer.Ticks.{own_ticks}
use Rattle.facts.specs.transfer.TimedEdges.{timed}
use Rattle.facts.specs.Steps.{Leads, Stands, IsSoundStep}
use Rattle.facts.proofs.Shared.EdgeLists.{HasEdge, timed_has, timed_back}
use Rattle.facts.proofs.Sound.Moved.{moved_counters, moved_ended, moved_place, lost_ticks}
use Rattle.facts.proofs.Sound.OwnSteps.{Laws, SeenStep}
use Rattle.facts.proofs.Sound.RowChanges.{Change, admits_same}
use Rattle.facts.proofs.Sound.SafeSteps.{safe_silence}
use Rattle.facts.proofs.Sound.Seen.{silent_changes}
use Rattle.facts.proofs.Sound.Silent.{HasEdge-if}

-- a machine, but for the count of lost arbitrations
abbrev uncounted : Machine → ℕ → Machine
uncounted m lost = record m { bus = record m.bus { lost = lost } }

uncounted_after : (b : Board) (s new : BusState) (a : Answered) (lost : ℕ) → IsAfter b s None a new
    → IsAfter b s None a (record new { lost = lost })
uncounted_after b s new a lost k = record {
  pages = k.pages;
  protects = k.protects;
  page = k.page;
  protect = k.protect;
  alerting = k.alerting;
}

-- after a lost step all is known as before, but for one arbitration more that is lost
lost_admits : (b : Board) (row : Row) (m next : Machine) (h h' : List Entry) → Admits b row m h
    → Change b m h (uncounted next m.bus.lost) h' empty empty empty → next.regs ≡ m.regs
    → next.counters ≡ m.counters → next.bus.lost ≡ m.bus.lost + 1 → m.bus.lost < b.contentions
    → Admits b (lost_row b row) next h'
lost_admits b row m next h h' k c regs counters more few = record {
  pages = old.pages;
  protects = old.protects;
  regs = old.regs;
  sources = λ r lt. moved (source_at row.sources r) (slice_index next.regs r) (old.sources r lt);
  counters = old.counters;
  lost = (omega (arith, more, k.lost.0), omega (arith, more, few, k.lost.1));
  good = old.good;
}
  where
    old : Admits b row (uncounted next m.bus.lost) h'
    old = admits_same b row m h (uncounted next m.bus.lost) h' k c regs counters

    moved : (z : Source) (y : ℕ) → IsFrom b (uncounted next m.bus.lost) h' z y
        → IsFrom b next h' z y
    moved source.None y f = tt
    moved (source.Status d) y f = f
    moved (source.Page u) y f = f
    moved (source.Protect u) y f = f

-- what sends a message has a place to go on where it isn't done
record HasElse (i : Instr) : Type 0 where
  pub to : ℕ
  pub otherwise : else_in i ≡ Some to
  pub jump : jump_in i ≡ Some to

sends_else : (b : Board) (i : Instr) (regs : List ℕ) (msg : Asked)
    → message_of b i regs ≡ Some msg → HasElse i
sends_else b (instr.Quick t reads l) regs msg e = record { to = l; otherwise = refl; jump = refl }
sends_else b (instr.Send t c l) regs msg e = record { to = l; otherwise = refl; jump = refl }
sends_else b (instr.Receive t r l) regs msg e = record { to = l; otherwise = refl; jump = refl }
sends_else b (instr.Write t c v l) regs msg e = record { to = l; otherwise = refl; jump = refl }
sends_else b (instr.Read t c w r l) regs msg e = record { to = l; otherwise = refl; jump = refl }
sends_else b (instr.Call t c v r l) regs msg e = record { to = l; otherwise = refl; jump = refl }
sends_else b (instr.BlockWrite t c bytes l) regs msg e =
    record { to = l; otherwise = refl; jump = refl }
sends_else b (instr.BlockRead t c r l) regs msg e = record { to = l; otherwise = refl; jump = refl }
sends_else b (instr.BlockCall t c bytes r l) regs msg e =
    record { to = l; otherwise = refl; jump = refl }
sends_else b (instr.Alert r l) regs msg e = record { to = l; otherwise = refl; jump = refl }
sends_else b (instr.IfAlert l) regs msg e = cc
sends_else b (instr.Set r v) regs msg e = cc
sends_else b (instr.Add r v) regs msg e = cc
sends_else b (instr.If r k v l) regs msg e = cc
sends_else b (instr.Above r v l) regs msg e = cc
sends_else b (instr.Count c v) regs msg e = cc
sends_else b (instr.Again c l) regs msg e = cc
sends_else b (instr.Wait n) regs msg e = cc
sends_else b (instr.Goto l) regs msg e = cc
sends_else b instr.End regs msg e = cc
sends_else b instr.Fail regs msg e = cc

-- what is left after a lost step
record LostStep (b : Board) (row : Row) (h : List Entry) (m next : Machine) (i : Instr)
    (e : Entry) (to : ℕ) : Type 0 where
  pub inside : InSpan row.lost m.bus.lost
  pub few : m.bus.lost < b.contentions
  pub more : next.bus.lost ≡ m.bus.lost + 1
  pub admits : Admits b (lost_row b row) next (e ∷ h)
  pub place : next.place ≡ to
  pub counters : next.counters ≡ m.counters
  pub ticks : e.ticks ≤ foreign_ticks b

lost_leads : (b : Board) (row : Row) (h : List Entry) (m next : Machine) (i : Instr) (e : Entry)
    (to : ℕ) → else_in i ≡ Some to → LostStep b row h m next i e to
    → Leads b m.place i row m next (e ∷ h) e.ticks
lost_leads b row h m next i e to otherwise s = record {
  by = by;
  most = foreign_ticks b;
  there = timed_back (timed (own_ticks b i) (edges b m.place i row))
      (timed (foreign_ticks b) (lost_edges b (else_in i) row)) by (foreign_ticks b)
      (timed_has (foreign_ticks b) (lost_edges b (else_in i) row) by there);
  within = s.ticks;
  to = s.place;
  admits = s.admits;
  falls =
      let k = row.lost_coeff in
      let more = s.more in
      let few = s.few in
      let left : b.contentions - m.bus.lost ≡ suc (b.contentions - next.bus.lost) =
      omega (arith, more, few) in
      let paid : k * (b.contentions - m.bus.lost) ≡ k * (b.contentions - next.bus.lost) + k =
      ap (λ n. k * n) left ∙ omega arith in
      let same : weight row.coeffs next.counters ≡ weight row.coeffs m.counters =
      ap (weight row.coeffs) s.counters in
      omega (arith, paid, same);
}
  where
    by : Edge
    by = edge to (lost_row b row)

    there : HasEdge (lost_edges b (else_in i) row) by
    there = let P : Option ℕ → Type 0 = λ o. HasEdge (lost_edges b o row) by in
        let inside = s.inside.0 in
        let few = s.few in
        subst P (sym otherwise) (HasEdge-if (nat_lt row.lost.lo b.contentions) to (lost_row b row)
        (lt-ltb row.lost.lo b.contentions (omega (arith, inside, few))))

pub lost_sound : Laws → (b : Board) (p : List Instr) (i : Instr) (row : Row) (m : Machine)
    (h : List Entry) (a : Answered) (e : Entry) (next : Machine)
    → Stands b p i row m h → SeenStep b (message_of b i m.regs) m a e
    → IsLostTo b i (message_of b i m.regs) m a e next → IsSoundStep b i row m h e next
lost_sound laws b p i row m h a e next k told (msg, c, asks, lost) =
    let seen = subst (λ (o : Option Asked). SeenStep b o m a e) asks told in
    let none : carried (Some msg) a ≡ None =
    ap (λ (w : Option Contender). unless_won w msg) lost.wins in
    let does = subst (λ (o : Option Asked). StepDoes b m.bus o a e) none seen.does in
    let carries : CarriesForeign b m.bus c e =
    subst (λ (w : Option Contender). CarriesOver w b m.bus msg a e) lost.wins seen.carries in
    let ticks = lost_ticks b i msg c m a e next lost in
    let few = carries.few in
    let otherwise = sends_else b i m.regs msg asks in
    let counters : next.counters ≡ m.counters =
    ap (λ (z : Machine). z.counters) lost.next_is ∙ moved_counters i msg Lost next.bus m in
    record {
      safe = safe_silence laws.frames b h m.bus a e (Some msg) none seen.carries does;
      goes = inr (
        ap (λ (z : Machine). z.ended) lost.next_is
            ∙ (moved_ended i msg Lost next.bus m ∙ k.running),
        lost_leads b row h m next i e otherwise.to otherwise.otherwise (record {
          inside = k.admits.lost;
          few = lost.fits.few;
          more = lost.lost;
          admits = lost_admits b row m next h (e ∷ h) k.admits
              (silent_changes b m (uncounted next m.bus.lost) h a e k.ready.machine.bus
              (uncounted_after b m.bus next.bus a m.bus.lost lost.bus) refl does)
              (ap (λ (z : Machine). z.regs) lost.next_is) counters lost.lost lost.fits.few;
          place =
              ap (λ (z : Machine). z.place) lost.next_is ∙ moved_place i msg Lost next.bus m
              ∙ ap (λ (z : Option ℕ). unwrap_or z m.place) otherwise.jump;
          counters = counters;
          ticks = omega (arith, ticks, few);
        }),
      );
    }
