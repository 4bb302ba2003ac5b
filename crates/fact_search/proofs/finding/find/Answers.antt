use Rattle.std.proofs.Common.{◌≡◌, List, sym, subst, length, ap, ◌∙◌, true, false}
use Rattle.std.specs.Prelude.{Option}
use Rattle.board.specs.Boards.{Board}
use Rattle.seq_program.specs.declared.instr.Instr.{Instr}
use Rattle.facts.specs.declared.domain.row.Row.{Row as CodeRow}
use Rattle.table_check.specs.checker.Looking.{HasRowsOf}
use Rattle.table_check.specs.Tables.{rows_view, Table}
use Rattle.fact_search.specs.Finds.{IsFound, TellsCause}
use Rattle.fact_search.specs.Forward.{IsForward}
use Rattle.fact_search.specs.Searching.{IsFollowedTable, Premises}
use Rattle.fact_search.specs.declared.loops.Ticks.{Ticks}
use Rattle.fact_search.specs.Ticking.{ArePaid, ticked}
use Rattle.fact_search.proofs.Ends.Found.{is_found, tells_cause}
use Rattle.fact_search.proofs.Ends.Shaped.{shaped}
use Rattle.fact_search.proofs.Ends.Ticked.{length_ticked}
use Rattle.fact_search.proofs.finding.find.Goals as goal
use Rattle.fact_search.proofs.finding.find.Goals.{then-is_forward+in_ok-lefts}
use Rattle.fact_search.proofs.finding.find.Goals.{else-is_forward+in_ok-lefts-2}

pub ticks_onward-requires-clause-led : goal.ticks_onward-requires-clause-led
ticks_onward-requires-clause-led c = c.in_ok-known.ensures.led

pub ticks_with_loops-requires : goal.ticks_with_loops-requires
ticks_with_loops-requires c =
    let P : List (Option CodeRow) → Type 0 = λ items. HasRowsOf c.args.board.now
    (rows_view items) in
    record {
      rows = subst P (sym c.deref.ensures.value) c.in_ok-known.ensures.done.rows;
    }

pub returns-clause-shaped : goal.returns-clause-shaped
returns-clause-shaped c =
    shaped c.args.board.now c.deref-2.result.now (rows_view c.in_ok-known.known.rows.items)
    c.in_ok-with_ticks.field-0.items c.in_ok-with_ticks.ensures.rows
    c.in_ok-known.ensures.done.rows c.in_ok-with_ticks.ensures.counts

pub returns-clause-places : goal.returns-clause-places
returns-clause-places c =
    ap (λ (t : Table). length t) c.in_ok-with_ticks.ensures.rows
    ∙ (length_ticked c.deref-2.result.now (rows_view c.in_ok-known.known.rows.items)
    ∙ c.in_ok-known.ensures.done.places)

true_false : true ≡ false → ⊥
true_false e = cc

-- of a forward program
told : (b : Board) (p : List Instr) (t new : Table) (lefts now : List Ticks)
    → new ≡ ticked lefts t → lefts ≡ now → Premises b p → IsFollowedTable b p t
    → ArePaid b p t now → IsForward p → IsFound b p new × TellsCause b p new
told b p t new lefts now e f given k paid forward =
    let R : Table → Type 0 = λ z. IsFound b p z × TellsCause b p z in
    let same : ticked now t ≡ new = sym (e ∙ ap (λ (xs : List Ticks). ticked xs t) f) in
    subst R same
    (is_found b p t now given k paid forward, tells_cause b p t now given k paid forward)

pub returns-clause-found : goal.returns-clause-found
returns-clause-found c = λ forward.
    elim c.if-is_forward.branch [
      | then-is_forward+in_ok-lefts w ↦
          (told c.args.board.now c.args.program.now (rows_view c.in_ok-known.known.rows.items)
          (rows_view c.in_ok-with_ticks.field-0.items) c.deref-2.result.now
          w.in_ok-lefts.lefts.items c.in_ok-with_ticks.ensures.rows
          (c.deref-2.ensures.value ∙ ap (λ v. v.items) w.lefts-is) c.premises.ensures
          c.in_ok-known.ensures.done w.in_ok-lefts.ensures forward).0
      | else-is_forward+in_ok-lefts-2 w ↦
          absurd (true_false (sym (c.is_forward.ensures.1 forward) ∙ w.if-is_forward.false))
    ]

pub returns-clause-cause : goal.returns-clause-cause
returns-clause-cause c = λ forward.
    elim c.if-is_forward.branch [
      | then-is_forward+in_ok-lefts w ↦
          (told c.args.board.now c.args.program.now (rows_view c.in_ok-known.known.rows.items)
          (rows_view c.in_ok-with_ticks.field-0.items) c.deref-2.result.now
          w.in_ok-lefts.lefts.items c.in_ok-with_ticks.ensures.rows
          (c.deref-2.ensures.value ∙ ap (λ v. v.items) w.lefts-is) c.premises.ensures
          c.in_ok-known.ensures.done w.in_ok-lefts.ensures forward).1
      | else-is_forward+in_ok-lefts-2 w ↦
          absurd (true_false (sym (c.is_forward.ensures.1 forward) ∙ w.if-is_forward.false))
    ]
