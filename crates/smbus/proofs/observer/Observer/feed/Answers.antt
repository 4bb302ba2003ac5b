use Rattle.std.proofs.lemmas.Result.{err_from_is_err_and}
use Rattle.std.proofs.Common.{◌+◌, ◌≤◌, Some, refl, sym, subst, inr, length}
use Rattle.smbus.specs.Observers.{Observing, most_events}
use Rattle.smbus.specs.declared.control.Control.TheVariants.{Free}
use Rattle.smbus.proofs.PiecesRead.{control_on, cut_controls, refused, stopped, took_all}
use Rattle.smbus.proofs.PiecesRead.{took_up_to}
use Rattle.smbus.proofs.observer.Observer.feed.Goals as goal

pub returns-in-Err-clause-fault : goal.returns-in-Err-clause-fault
returns-in-Err-clause-fault c =
    let s = c.self.inside in
    let o : Observing = record { fed = s.fed; failed = s.failed; rest = s.rest.items } in
    let e = c.in-Err.ensures.after in
    rw (← c.self.view_is) (
      refl,
      inr (stopped o s.control c.args.piece.now c.in-Err.within
          c.self.invariant c.in_default.is e.0 e.1 e.2),
    )

pub frames_and_rest-requires-clause-whole : goal.frames_and_rest-requires-clause-whole
frames_and_rest-requires-clause-whole c =
    let s = c.self.inside in
    rw c.deref.ensures.value (control_on s.rest.items _ s.control (Some Free)
    c.self.invariant.control
    (cut_controls c.args.piece.now c.in-Some-behind_last_stop.behind s.control c.in-Ok.control
    c.in-Some-behind_last_stop.ensures c.in-Ok.ensures.after).0)

pub invariant_of-self-2 : goal.invariant_of-self-2
invariant_of-self-2 c =
    let s = c.self.inside in
    let piece = c.args.piece.now in
    let o : Observing = record { fed = s.fed; failed = s.failed; rest = s.rest.items } in
    let few : o.fed + length piece ≤ most_events =
    subst (λ (v : Observing). v.fed + length piece ≤ most_events) (sym c.self.view_is) c.requires in
    elim c.match-behind_last_stop.branch [
      | goal.in-Some-behind_last_stop+in_ok-frames-in-Some-behind_last_stop w ↦
          let f = w.in_ok-frames-in-Some-behind_last_stop in
          rw (w.self-inside-is, c.in_default.is, f.ensures.rest)
          (took_up_to o s.control c.in-Ok.control piece w.in-Some-behind_last_stop.behind
          f.frames.items c.self.invariant c.in_default.is few c.in-Ok.ensures.after
          w.in-Some-behind_last_stop.ensures (rw (← w.deref.ensures.value) f.ensures.frames)).kept
      | goal.in-None+in_ok-extend_from_slice-in-None w ↦
          rw (w.self-inside-is, c.in_default.is, w.in_ok-extend_from_slice-in-None.ensures.items)
          (took_all o s.control c.in-Ok.control piece c.self.invariant c.in_default.is few
          c.in-Ok.ensures.after w.in-None.ensures).kept
    ]

pub returns-clause-taken : goal.returns-clause-taken
returns-clause-taken c =
    let s = c.self.inside in
    let piece = c.args.piece.now in
    let o : Observing = record { fed = s.fed; failed = s.failed; rest = s.rest.items } in
    let few : o.fed + length piece ≤ most_events =
    subst (λ (v : Observing). v.fed + length piece ≤ most_events) (sym c.self.view_is) c.requires in
    elim c.match-behind_last_stop.branch [
      | goal.in-Some-behind_last_stop+in_ok-frames-in-Some-behind_last_stop w ↦
          let f = w.in_ok-frames-in-Some-behind_last_stop in
          rw (w.self-inside-is, w.frames-is, c.in_default.is, f.ensures.rest, ← c.self.view_is)
          (took_up_to o s.control c.in-Ok.control piece w.in-Some-behind_last_stop.behind
          f.frames.items c.self.invariant c.in_default.is few c.in-Ok.ensures.after
          w.in-Some-behind_last_stop.ensures (rw (← w.deref.ensures.value) f.ensures.frames)).taken
      | goal.in-None+in_ok-extend_from_slice-in-None w ↦
          rw (
            w.self-inside-is,
            w.frames-is,
            c.in_default.is,
            w.in_ok-extend_from_slice-in-None.ensures.items,
            w.new-frames.ensures.items,
            ← c.self.view_is,
          )
          (took_all o s.control c.in-Ok.control piece c.self.invariant c.in_default.is few
          c.in-Ok.ensures.after w.in-None.ensures).taken
    ]

pub returns-in_err-frames-in-Some-behind_last_stop-clause-fault :
    goal.returns-in_err-frames-in-Some-behind_last_stop-clause-fault
returns-in_err-frames-in-Some-behind_last_stop-clause-fault c =
    let s = c.self.inside in
    let o : Observing = record { fed = s.fed; failed = s.failed; rest = s.rest.items } in
    let e = err_from_is_err_and c.from_residual.result c.from_residual.ensures.1 in
    rw (e.1, e.2, ← c.self.view_is)
    (refused o s.control c.in-Ok.control c.args.piece.now c.self.invariant c.in_default.is
    c.in-Ok.ensures.after)

pub returns-in_err-extend_from_slice-in-None-clause-fault :
    goal.returns-in_err-extend_from_slice-in-None-clause-fault
returns-in_err-extend_from_slice-in-None-clause-fault c =
    let s = c.self.inside in
    let o : Observing = record { fed = s.fed; failed = s.failed; rest = s.rest.items } in
    let r = c.from_residual-in_err-extend_from_slice-in-None in
    let e = err_from_is_err_and r.result r.ensures.1 in
    rw (e.1, e.2, ← c.self.view_is, c.in_err-extend_from_slice-in-None.ensures.items)
    (refused o s.control c.in-Ok.control c.args.piece.now c.self.invariant c.in_default.is
    c.in-Ok.ensures.after)
