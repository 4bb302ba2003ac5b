-- One step from a row whose duties are met, over whose message no other controller wins.
use Rattle.std.proofs.Common.{◌≡◌, ◌≤◌, ◌+◌, ◌⊎◌, ℕ, suc, Option, Some, None, List, ◌∷◌, length}
use Rattle.std.proofs.Common.{inl, inr, refl, sym, ap, subst, ◌∙◌, arith}
use Rattle.std.specs.Prelude.{IsTrue, option_map}
use Rattle.smbus.specs.declared.message.Form.TheVariants as form
use Rattle.smbus.specs.Asked.{Asked}
use Rattle.smbus.specs.Answered.{Answered}
use Rattle.smbus.specs.SlotCounts.{most_slots}
use Rattle.board.specs.Boards.{Target, Board}
use Rattle.targets.specs.declared.outcome.Outcome.{Outcome}
use Rattle.targets.specs.declared.outcome.Outcome.TheVariants.{Done, NotAcknowledged, TimedOut}
use Rattle.targets.specs.declared.outcome.Outcome.TheVariants.{Lost}
use Rattle.targets.specs.Outcomes.{outcome_alone}
use Rattle.seq_program.specs.declared.instr.Instr.{Instr}
use Rattle.seq_program.specs.declared.instr.Instr.TheVariants as instr
use Rattle.seq_program.specs.Messages.{alert_message, message_of}
use Rattle.seq_program.specs.Programs.{is_end}
use Rattle.seq_program.specs.Valid.{IsInstr}
use Rattle.simulator.specs.declared.machine.Ending.TheVariants.{Running, Finished, Failed}
use Rattle.simulator.specs.Machines.{Machine, Entry}
use Rattle.simulator.specs.Moves.{silently}
use Rattle.simulator.specs.Safe.{IsSafe}
use Rattle.simulator.specs.ContendedSteps.{IsStepAlone}
use Rattle.simulator.specs.Steps.{alert_level, idle_ticks}
use Rattle.facts.specs.declared.duties.rule.Rule.TheVariants.{K1}
use Rattle.facts.specs.domain.Sets.{empty}
use Rattle.facts.specs.domain.Rows.{Row}
use Rattle.seq_program.specs.Requests.{Transaction, quick, send, receive, write, read, call}
use Rattle.seq_program.specs.Requests.{write_block, read_block, call_block, request}
use Rattle.facts.specs.duties.Duties.{MayBeSent}
use Rattle.facts.specs.transfer.Ticks.{frame_ticks, longest_slots, ticks_of, own_ticks}
use Rattle.facts.specs.Steps.{Stands}
use Rattle.facts.proofs.Sound.OwnLeads.{LeadsOwn}
use Rattle.facts.proofs.Sound.Moved.{place_after, leads_request, moved_counters, moved_ended}
use Rattle.facts.proofs.Sound.Moved.{moved_place, moved_regs, alone_ticks}
use Rattle.facts.proofs.Sound.RowChanges.{Change}
use Rattle.facts.proofs.Sound.Seen.{silent_changes}
use Rattle.facts.proofs.Sound.Silent.{leads_same, leads_again}
use Rattle.facts.proofs.Sound.Ifs.{leads_if}
use Rattle.facts.proofs.Sound.Counters.{leads_ifalert, leads_set, leads_add, leads_above}
use Rattle.facts.proofs.Sound.Counters.{leads_count}
use Rattle.facts.proofs.Shared.Asking.{Quick, Send, Receive, Write, Read, Call, PutBlock, GetBlock}
use Rattle.facts.proofs.Shared.Asking.{CallBlock, asked, regs_after, Sending}
use Rattle.facts.proofs.Sound.SafeSteps.{safe_message, safe_silence}
use Rattle.facts.proofs.Sound.OwnSteps.{Laws, IsOwnStep, SeenStep, seen_alone, is_instr}
use Rattle.facts.proofs.Sound.Sorts.{Requests, request_duty}
use Rattle.facts.proofs.Sound.SafeRequests.{request_is_safe}
use Rattle.facts.proofs.Sound.RequestEdges.{request_edges}
use Rattle.facts.proofs.Sound.WorstTicks.{request_ticks}
use Rattle.facts.proofs.Sound.Alerts.{alert_is_safe, AlertStep, leads_alert, alert_ticks}

request_sound : Laws → (b : Board) (p : List Instr) (i : Instr) (row : Row) (m : Machine)
    (h : List Entry) (a : Answered) (e : Entry) (next : Machine) (target otherwise : ℕ)
    (r : Transaction)
    → Stands b p i row m h → Requests b i m.regs target r otherwise
    → SeenStep b (message_of b i m.regs) m a e
    → IsStepAlone b i (message_of b i m.regs) m a e next → IsOwnStep b i row m h e next
request_sound laws b p i row m h a e next target otherwise r k q told step =
    let duty = request_duty b row i target otherwise r q.sent k.duties in
    let first : MayBeSent b row target r = duty K1 in
    let t = first.target in
    let msg = asked t m.regs r in
    let is : message_of b i m.regs ≡ Some msg = q.asks
    ∙ ap (option_map (λ (t : Target). asked t m.regs r)) first.at in
    let A : Option Asked → Type 0 = λ o. IsStepAlone b i o m a e next in
    let by : IsStepAlone b i (Some msg) m a e next = subst A is step in
    let whole = subst (λ (o : Option Asked). SeenStep b o m a e) is told in
    let seen = seen_alone b msg m a e by.kept whole in
    let o = outcome_alone (Some msg) a in
    let k' : Sending b row h m next target t r a e = record {
      board = k.board;
      at = first.at;
      request = q.request;
      shaped = k.shaped;
      admits = k.admits;
      belongs = k.ready.machine.bus;
      duty = duty;
      fits = by.fits;
      after = by.bus;
      lost = by.lost;
      carries = seen.carries;
      does = seen.does;
      regs = ap (λ (z : Machine). z.regs) by.next_is ∙ moved_regs i r msg o next.bus m q.result;
      counters = ap (λ (z : Machine). z.counters) by.next_is ∙ moved_counters i msg o next.bus m;
    } in
    let worst : own_ticks b i ≡ frame_ticks b (longest_slots b (request target r otherwise)) =
    ap (ticks_of b i) q.sent in
    let few : length e.samples ≤ frame_ticks b (longest_slots b (request target r otherwise)) =
    request_ticks b row h m next target t r otherwise a e k' in
    let ticks : e.ticks ≡ length e.samples = alone_ticks b i (Some msg) m a e next by in
    record {
      safe = safe_message laws.frames b h m.bus msg a e by.kept whole.carries k'.does
          (request_is_safe b row h m next target t r a e k');
      ticks = omega (arith, worst, few, ticks);
      goes = inr (
        ap (λ (z : Machine). z.ended) by.next_is ∙ (moved_ended i msg o next.bus m ∙ k.running),
        leads_request b row m next (e ∷ h) i target otherwise r o q.sent q.jump
            (ap (λ (z : Machine). z.place) by.next_is ∙ moved_place i msg o next.bus m)
            (request_edges b row h m next target t a e r k') k'.counters,
      );
    }

-- the alert response
alert_sound : Laws
    → (b : Board) (p : List Instr) (r l : ℕ) (row : Row) (m : Machine) (h : List Entry)
    (a : Answered) (e : Entry) (next : Machine)
    → Stands b p (instr.Alert r l) row m h → SeenStep b (Some alert_message) m a e
    → IsStepAlone b (instr.Alert r l) (Some alert_message) m a e next
    → IsOwnStep b (instr.Alert r l) row m h e next
alert_sound laws b p r l row m h a e next k told step =
    let seen = seen_alone b alert_message m a e step.kept told in
    let o = outcome_alone (Some alert_message) a in
    let place : next.place ≡ place_after (instr.Alert r l) m.place o =
    ap (λ (z : Machine). z.place) step.next_is
    ∙ moved_place (instr.Alert r l) alert_message o next.bus
    m in
    let regs : next.regs ≡ regs_after (receive r) m.regs o =
    ap (λ (z : Machine). z.regs) step.next_is
    ∙ moved_regs (instr.Alert r l) (receive r) alert_message o
    next.bus m refl in
    let k' : AlertStep b row h m next r l a e = record {
      shaped = k.shaped;
      admits = k.admits;
      belongs = k.ready.machine.bus;
      small = is_instr b p (instr.Alert r l) row m h k;
      fits = step.fits;
      after = step.bus;
      lost = step.lost;
      carries = seen.carries;
      does = seen.does;
      done = λ v is. (
        place ∙ ap (place_after (instr.Alert r l) m.place) is,
        regs ∙ ap
            (regs_after (receive r) m.regs) is,
      );
      other = λ never. (place ∙ otherwise o never, regs ∙ unchanged o never);
      counters = ap (λ (z : Machine). z.counters) step.next_is
          ∙ moved_counters (instr.Alert r l) alert_message o next.bus m;
    } in
    let few : length e.samples ≤ frame_ticks b (most_slots form.Alert 0 0) =
    alert_ticks b row h m next r l a e k' in
    let ticks : e.ticks ≡ length e.samples =
    alone_ticks b (instr.Alert r l) (Some alert_message) m a e next step in
    record {
      safe =
          safe_message laws.frames b h m.bus alert_message a e step.kept told.carries k'.does
          (alert_is_safe b h m.bus a);
      ticks = omega (arith, few, ticks);
      goes = inr (
        ap (λ (z : Machine). z.ended) step.next_is
            ∙ (moved_ended (instr.Alert r l) alert_message o next.bus m ∙ k.running),
        leads_alert b row h m
            next r l a e k',
      );
    }
  where
    otherwise : (o : Outcome) → ((v : ℕ) → o ≡ Done v → ⊥)
        → place_after (instr.Alert r l) m.place o ≡ l
    otherwise (Done v) never = absurd (never v refl)
    otherwise NotAcknowledged never = refl
    otherwise TimedOut never = refl
    otherwise Lost never = refl

    unchanged : (o : Outcome) → ((v : ℕ) → o ≡ Done v → ⊥)
        → regs_after (receive r) m.regs o ≡ m.regs
    unchanged (Done v) never = absurd (never v refl)
    unchanged NotAcknowledged never = refl
    unchanged TimedOut never = refl
    unchanged Lost never = refl

-- a step that sends nothing
record Silence (b : Board) (i : Instr) (m : Machine) (h : List Entry) (e : Entry)
    (next : Machine) : Type
    0 where
  pub safe : IsSafe b h e
  pub ticks : e.ticks ≡ suc (idle_ticks i)
  pub changes : Change b m h next (e ∷ h) empty empty empty
  pub goes : next ≡ record (silently i m) { bus = next.bus }

silence : Laws → (b : Board) (i : Instr) (m : Machine) (h : List Entry) (a : Answered) (e : Entry)
    (next : Machine)
    → Rattle.targets.specs.States.Belongs b m.bus → SeenStep b None m a e
    → IsStepAlone b i None m a e next
    → Silence b i m h e next
silence laws b i m h a e next belongs seen step = record {
  safe = safe_silence laws.frames b h m.bus a e None refl seen.carries seen.does;
  ticks = ap (λ (x : Entry). x.ticks) step.entry_is
      ∙ (laws.idle (alert_level m.bus) (suc (idle_ticks i))).count;
  changes = silent_changes b m next h a e belongs step.bus step.lost seen.does;
  goes = step.next_is;
}

-- its ticks are the worst, and it goes somewhere
quiet_sound : (b : Board) (i : Instr) (row : Row) (m : Machine) (h : List Entry) (e : Entry)
    (next : Machine) → Silence b i m h e next → own_ticks b i ≡ suc (idle_ticks i)
    → (((next.ended ≡ Running → ⊥) × IsTrue (is_end i))
    ⊎ ((next.ended ≡ Running) × LeadsOwn b m.place i row m next (e ∷ h)))
    → IsOwnStep b i row m h e next
quiet_sound b i row m h e next s worst goes = let ticks = s.ticks in
    record { safe = s.safe; ticks = omega (arith, ticks, worst); goes = goes }

silent_step : Laws → (b : Board) (p : List Instr) (i : Instr) (row : Row) (m : Machine)
    (h : List Entry) (a : Answered) (e : Entry) (next : Machine)
    → Stands b p i row m h → SeenStep b (message_of b i m.regs) m a e
    → message_of b i m.regs ≡ None → IsStepAlone b i (message_of b i m.regs) m a e next
    → Silence b i m h e next
silent_step laws b p i row m h a e next k seen none step =
    let P : Option Asked → Type 0 = λ o. SeenStep b o m a e in
    let Q : Option Asked → Type 0 = λ o. IsStepAlone b i o m a e next in
    silence laws b i m h a e next k.ready.machine.bus (subst P none seen) (subst Q none step)

not_finished : Finished ≡ Running → ⊥
not_finished e = cc

not_failed : Failed ≡ Running → ⊥
not_failed e = cc

still_runs : (i : Instr) (m next : Machine) → next ≡ record (silently i m) { bus = next.bus }
    → (silently i m).ended ≡ m.ended → m.ended ≡ Running → next.ended ≡ Running
still_runs i m next goes same running = ap (λ (z : Machine). z.ended) goes ∙ (same ∙ running)

pub sound : Laws
    → (b : Board) (p : List Instr) (i : Instr) (row : Row) (m : Machine) (h : List Entry)
    (a : Answered) (e : Entry) (next : Machine)
    → Stands b p i row m h → IsInstr i → SeenStep b (message_of b i m.regs) m a e
    → IsStepAlone b i (message_of b i m.regs) m a e next → IsOwnStep b i row m h e next
sound laws b p (instr.Quick t read l) row m h a e next k ok seen step =
    request_sound laws b p (instr.Quick t read l) row m h a e next t l (quick read) k
    (record {
      sent = refl;
      asks = refl;
      result = refl;
      jump = refl;
      request = Quick read;
    }) seen step
sound laws b p (instr.Send t c l) row m h a e next k ok seen step =
    request_sound laws b p (instr.Send t c l) row m h a e next t l (send c) k
    (record {
      sent = refl;
      asks = refl;
      result = refl;
      jump = refl;
      request = Send c ok;
    }) seen step
sound laws b p (instr.Receive t r l) row m h a e next k ok seen step =
    request_sound laws b p (instr.Receive t r l) row m h a e next t l (receive r) k
    (record {
      sent = refl;
      asks = refl;
      result = refl;
      jump = refl;
      request = Receive r ok;
    }) seen step
sound laws b p (instr.Write t c v l) row m h a e next k ok seen step =
    request_sound laws b p (instr.Write t c v l) row m h a e next t l (write c v) k
    (record {
      sent = refl;
      asks = refl;
      result = refl;
      jump = refl;
      request = Write c v ok;
    }) seen step
sound laws b p (instr.Read t c w r l) row m h a e next k ok seen step =
    request_sound laws b p (instr.Read t c w r l) row m h a e next t l (read c w r) k
    (record {
      sent = refl;
      asks = refl;
      result = refl;
      jump = refl;
      request = Read c w r ok.0 ok.1;
    }) seen step
sound laws b p (instr.Call t c v r l) row m h a e next k ok seen step =
    request_sound laws b p (instr.Call t c v r l) row m h a e next t l (call c v r) k
    (record {
      sent = refl;
      asks = refl;
      result = refl;
      jump = refl;
      request = Call c v r ok.0 ok.1 ok.2;
    }) seen step
sound laws b p (instr.BlockWrite t c bytes l) row m h a e next k ok seen step =
    request_sound laws b p (instr.BlockWrite t c bytes l) row m h a e next t l
    (write_block c bytes) k
    (record {
      sent = refl;
      asks = refl;
      result = refl;
      jump = refl;
      request = PutBlock c bytes ok.0 ok.1;
    }) seen step
sound laws b p (instr.BlockRead t c r l) row m h a e next k ok seen step =
    request_sound laws b p (instr.BlockRead t c r l) row m h a e next t l (read_block c r) k
    (record {
      sent = refl;
      asks = refl;
      result = refl;
      jump = refl;
      request = GetBlock c r ok.0 ok.1;
    }) seen step
sound laws b p (instr.BlockCall t c bytes r l) row m h a e next k ok seen step =
    request_sound laws b p (instr.BlockCall t c bytes r l) row m h a e next t l
    (call_block c bytes r) k
    (record {
      sent = refl;
      asks = refl;
      result = refl;
      jump = refl;
      request = CallBlock c bytes r ok.0 ok.1 ok.2;
    }) seen step
sound laws b p (instr.Alert r l) row m h a e next k ok seen step =
    alert_sound laws b p r l row m h a e next k seen step
sound laws b p (instr.IfAlert l) row m h a e next k ok seen step =
    let s = silent_step laws b p (instr.IfAlert l) row m h a e next k seen refl step in
    quiet_sound b (instr.IfAlert l) row m h e next s refl (inr (
      still_runs (instr.IfAlert l) m next s.goes refl k.running,
      leads_ifalert b row m h next (e ∷ h) next.bus l k.admits s.changes s.goes,
    ))
sound laws b p (instr.Set r v) row m h a e next k ok seen step =
    let s = silent_step laws b p (instr.Set r v) row m h a e next k seen refl step in
    quiet_sound b (instr.Set r v) row m h e next s refl (inr (
      still_runs (instr.Set r v) m next s.goes refl k.running,
      leads_set b row m h next (e ∷ h) next.bus r v k.shaped k.admits s.changes ok.0 s.goes,
    ))
sound laws b p (instr.Add r v) row m h a e next k ok seen step =
    let s = silent_step laws b p (instr.Add r v) row m h a e next k seen refl step in
    quiet_sound b (instr.Add r v) row m h e next s refl (inr (
      still_runs (instr.Add r v) m next s.goes refl k.running,
      leads_add b row m h next (e ∷ h) next.bus r v k.shaped k.admits s.changes ok.0 s.goes,
    ))
sound laws b p (instr.If r x v l) row m h a e next k ok seen step =
    let s = silent_step laws b p (instr.If r x v l) row m h a e next k seen refl step in
    quiet_sound b (instr.If r x v l) row m h e next s refl (inr (
      still_runs (instr.If r x v l) m next s.goes refl k.running,
      leads_if b row m h next
          (e ∷ h) next.bus r x v l k.board k.shaped k.admits s.changes ok.0 s.goes,
    ))
sound laws b p (instr.Above r v l) row m h a e next k ok seen step =
    let s = silent_step laws b p (instr.Above r v l) row m h a e next k seen refl step in
    quiet_sound b (instr.Above r v l) row m h e next s refl (inr (
      still_runs (instr.Above r v l) m next s.goes refl k.running,
      leads_above b row m h next (e ∷ h) next.bus r v l k.shaped k.admits s.changes ok.0 s.goes,
    ))
sound laws b p (instr.Count c v) row m h a e next k ok seen step =
    let s = silent_step laws b p (instr.Count c v) row m h a e next k seen refl step in
    quiet_sound b (instr.Count c v) row m h e next s refl (inr (
      still_runs (instr.Count c v) m next s.goes refl k.running,
      leads_count b row m h next (e ∷ h) next.bus c v k.shaped k.admits s.changes ok.0 s.goes,
    ))
sound laws b p (instr.Again c l) row m h a e next k ok seen step =
    let s = silent_step laws b p (instr.Again c l) row m h a e next k seen refl step in
    quiet_sound b (instr.Again c l) row m h e next s refl (inr (
      still_runs (instr.Again c l) m next s.goes refl k.running,
      leads_again b row m h next
          (e ∷ h) next.bus c l k.admits s.changes ok k.shaped.counter_count s.goes,
    ))
sound laws b p (instr.Wait n) row m h a e next k ok seen step =
    let s = silent_step laws b p (instr.Wait n) row m h a e next k seen refl step in
    let worst : n + 1 ≡ suc n = omega arith in
    quiet_sound b (instr.Wait n) row m h e next s worst (inr (
      still_runs (instr.Wait n) m next s.goes refl k.running,
      leads_same b m.place (m.place + 1) (instr.Wait n) row m h next (e ∷ h) k.admits s.changes
          (inl refl)
          (ap (λ (z : Machine). z.place) s.goes) (ap (λ (z : Machine). z.regs) s.goes)
          (ap (λ (z : Machine). z.counters) s.goes),
    ))
sound laws b p (instr.Goto l) row m h a e next k ok seen step =
    let s = silent_step laws b p (instr.Goto l) row m h a e next k seen refl step in
    quiet_sound b (instr.Goto l) row m h e next s refl (inr (
      still_runs (instr.Goto l) m next s.goes refl k.running,
      leads_same b m.place l (instr.Goto l) row m h next (e ∷ h) k.admits s.changes (inl refl)
          (ap (λ (z : Machine). z.place) s.goes) (ap (λ (z : Machine). z.regs) s.goes)
          (ap (λ (z : Machine). z.counters) s.goes),
    ))
sound laws b p instr.End row m h a e next k ok seen step =
    let s = silent_step laws b p instr.End row m h a e next k seen refl step in
    quiet_sound b instr.End row m h e next s refl
    (inl ((λ r. not_finished (sym (ap (λ (z : Machine). z.ended) s.goes) ∙ r)), refl))
sound laws b p instr.Fail row m h a e next k ok seen step =
    let s = silent_step laws b p instr.Fail row m h a e next k seen refl step in
    quiet_sound b instr.Fail row m h e next s refl
    (inl ((λ r. not_failed (sym (ap (λ (z : Machine). z.ended) s.goes) ∙ r)), refl))
