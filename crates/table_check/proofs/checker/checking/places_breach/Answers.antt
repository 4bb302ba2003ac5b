use Rattle.std.proofs.Common.{◌+◌, arith, subst}
use Rattle.std.specs.Prelude.{Option, IfSome, option_map}
use Rattle.table_check.specs.checker.Looking.{at_place, fault_in, Blames}
use Rattle.table_check.specs.Tables.{rows_view}
use Rattle.table_check.specs.declared.checker.breach.Refusal.{Refusal}
use Rattle.table_check.specs.checker.Obligations.{IsFirstFault, of_places}
use Rattle.table_check.proofs.Firsts.{leaves_fault, leaves_none, leaves_rest}
use Rattle.table_check.proofs.Parts.{places_end, places_from, places_next, view_length}
use Rattle.table_check.proofs.checker.checking.places_breach.Goals as goal

pub returns-in-Some-clause-first : goal.returns-in-Some-clause-first
returns-in-Some-clause-first c =
    let b = c.args.board.now in
    let p = c.args.program.now in
    let t = rows_view c.args.rows.now in
    let n = c.loop-place.place in
    let P : Option Refusal → Type 0 = λ o.
    IsFirstFault b p t (at_place b p t n) (option_map fault_in o) in
    leaves_fault b p t (of_places b 0 p t) (places_from b p t n) (at_place b p t n)
    (places_from b p t (n + 1)) (fault_in c.in-Some.refusal) c.loop-place.invariant
    (places_next b p t n) (subst P c.in-Some.is c.in_ok-refusal.ensures.first)

pub returns-in-Some-clause-blame : goal.returns-in-Some-clause-blame
returns-in-Some-clause-blame c =
    let P : Option Refusal → Type 0 = λ o.
    IfSome o (Blames c.args.board.now c.args.program.now (rows_view c.args.rows.now)) in
    subst P c.in-Some.is c.in_ok-refusal.ensures.blame

pub loop-place-preserved : goal.loop-place-preserved
loop-place-preserved c =
    let b = c.args.board.now in
    let p = c.args.program.now in
    let t = rows_view c.args.rows.now in
    let n = c.loop-place.place in
    let P : Option Refusal → Type 0 = λ o.
    IsFirstFault b p t (at_place b p t n) (option_map fault_in o) in
    leaves_rest b p t (of_places b 0 p t) (places_from b p t n) (at_place b p t n)
    (places_from b p t (n + 1)) c.loop-place.invariant (places_next b p t n)
    (subst P c.in_default.is c.in_ok-refusal.ensures.first)

pub returns-clause-first : goal.returns-clause-first
returns-clause-first c =
    let b = c.args.board.now in
    let p = c.args.program.now in
    let t = rows_view c.args.rows.now in
    let n = c.loop-place.place in
    let stop = c.loop-place-test.false in
    let count = view_length c.args.rows.now in
    leaves_none b p t (of_places b 0 p t) (places_from b p t n) c.loop-place.invariant
    (places_end b p t n (omega (arith, stop, count)))
