use Rattle.std.proofs.Common.{Some, List, subst}
use Rattle.std.specs.Prelude.{option_map}
use Rattle.table_check.specs.checker.Looking.{of_form, fault_in}
use Rattle.table_check.specs.Tables.{rows_view}
use Rattle.table_check.specs.checker.Obligations.{IsFirstFault, Obligation, of_places}
use Rattle.table_check.proofs.Broken.{ok_to}
use Rattle.table_check.proofs.Firsts.{back, front}
use Rattle.table_check.proofs.Parts.{of_both, rows_of}
use Rattle.table_check.proofs.checker.checking.first_breach.Goals as goal

pub places_breach-requires : goal.places_breach-requires
places_breach-requires c = record {
  rows =
      rows_of c.args.board.now c.args.program.now (rows_view c.args.rows.now)
      c.in-None.ensures.first;
}

pub returns-in-Some-clause-first : goal.returns-in-Some-clause-first
returns-in-Some-clause-first c =
    let b = c.args.board.now in
    let p = c.args.program.now in
    let t = rows_view c.args.rows.now in
    let fault = fault_in c.in-Some.refusal in
    let P : List Obligation → Type 0 = λ os. IsFirstFault b p t os (Some fault) in
    subst P (of_both b p t)
    (front b p t (of_form t) (of_places b 0 p t) fault c.in-Some.ensures.first)

pub returns-in-None-clause-first : goal.returns-in-None-clause-first
returns-in-None-clause-first c =
    let b = c.args.board.now in
    let p = c.args.program.now in
    let t = rows_view c.args.rows.now in
    ok_to c.places_breach.result _ _ (λ found h.
    subst (λ (os : List Obligation). IsFirstFault b p t os (option_map fault_in found))
    (of_both b p t)
    (back b p t (of_form t) (of_places b 0 p t) (option_map fault_in found)
    c.in-None.ensures.first h))
    c.places_breach.ensures.first
