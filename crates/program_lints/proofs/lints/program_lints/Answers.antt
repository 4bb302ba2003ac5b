use Rattle.std.proofs.Common.{◌≡◌, length, subst, arith}
use Rattle.table_check.specs.Tables.{table_view}
use Rattle.program_lints.specs.Lints.{AreLintsBelow}
use Rattle.program_lints.proofs.Pushed.{one_place}
use Rattle.program_lints.proofs.lints.program_lints.Goals as goal

pub loop-place-preserved : goal.loop-place-preserved
loop-place-preserved c =
    one_place c.args.board.now c.args.program.now (table_view c.args.table.now)
    c.in_ok-states.states c.loop-place.place c.loop-place.lints.items
    c.push_place_lints.new.lints.items c.loop-place.invariant c.in_ok-push_place_lints.ensures

pub returns : goal.returns
returns c =
    let p = c.args.program.now in
    let count = c.places-place-end.ensures.count in
    let below = c.loop-place-test.false in
    let within = c.loop-place.auto.place-end in
    let all : c.loop-place.place ≡ length p = omega (arith, count, below, within) in
    record {
      states = c.in_ok-states.states;
      wide = c.in_ok-states.ensures.on;
      sure = c.in_ok-states.ensures.voltages;
      told = subst (λ n. AreLintsBelow c.args.board.now p (table_view c.args.table.now)
          c.in_ok-states.states n c.loop-place.lints.items) all c.loop-place.invariant;
    }
