use Rattle.std.proofs.Common.{◌≡◌, ◌≤◌, ◌++◌, [], ℕ, List, true, false}
use Rattle.std.proofs.Common.{arith, ap, drop, length, sym, ◌∙◌}
use Rattle.std.specs.List.{position_from}
use Rattle.std.proofs.lemmas.List.{append-nil, drop_all}
use Rattle.bit_bus.specs.declared.plan.Slot.{Slot}
use Rattle.bit_bus.specs.declared.plan.Slot.TheVariants.{End}
use Rattle.bit_bus.specs.Levels.{is_cut, slot_levels}
use Rattle.bit_bus.specs.Planned.{planned}
use Rattle.bit_bus.proofs.Plans.{length-planned, planned_at}
use Rattle.bit_bus.proofs.SampleCounts.{begun_few}
use Rattle.bit_bus.proofs.Drives.{drives_on, drives_cut, no_cut_yet, cut_here}
use Rattle.bit_bus.proofs.driving.push_slots.Goals as goal

pub push_cut-requires-clause-few : goal.push_cut-requires-clause-few
push_cut-requires-clause-few c =
    let plan = planned c.args.slots.now c.args.holds.now in
    let few = begun_few c.args.alert plan c.args.levels.now.samples c.loop-place.levels.samples
    (slot_levels c.args.alert (drop c.loop-place.place plan)) c.requires.valid
    c.loop-place.invariant.samples in
    omega (arith, few, c.requires.few, c.hold_at-hold.type_inv)

pub returns-then-is_cut-clause-samples : goal.returns-then-is_cut-clause-samples
returns-then-is_cut-clause-samples c =
    let cut : is_cut c.hold_at-hold.result ≡ true = sym c.is_cut.ensures ∙ c.if-is_cut.true in
    drives_cut c.args.alert _ _ (planned c.args.slots.now c.args.holds.now) c.loop-place.place _ _
    (planned_at c.args.slots.now c.args.holds.now c.loop-place.place _ c.hold_at-hold.result
    c.loop-place-test.true c.hold_at-hold.ensures) cut c.push_cut.ensures.samples
    c.loop-place.invariant.samples

pub returns-then-is_cut-clause-cut : goal.returns-then-is_cut-clause-cut
returns-then-is_cut-clause-cut c =
    let cut : is_cut c.hold_at-hold.result ≡ true = sym c.is_cut.ensures ∙ c.if-is_cut.true in
    cut_here (planned c.args.slots.now c.args.holds.now) c.loop-place.place _ _
    (planned_at c.args.slots.now c.args.holds.now c.loop-place.place End
    c.hold_at-hold.result c.loop-place-test.true c.hold_at-hold.ensures) cut
    c.loop-place.invariant.cut

pub push_whole-requires-clause-few : goal.push_whole-requires-clause-few
push_whole-requires-clause-few c =
    let plan = planned c.args.slots.now c.args.holds.now in
    let few = begun_few c.args.alert plan c.args.levels.now.samples c.loop-place.levels.samples
    (slot_levels c.args.alert (drop c.loop-place.place plan)) c.requires.valid
    c.loop-place.invariant.samples in
    omega (arith, few, c.requires.few, c.hold_at-hold.type_inv)

pub loop-place-preserved : goal.loop-place-preserved
loop-place-preserved c =
    let plan = planned c.args.slots.now c.args.holds.now in
    let whole : is_cut c.hold_at-hold.result ≡ false = sym c.is_cut.ensures ∙ c.if-is_cut.false in
    record {
      samples =
          drives_on c.args.alert _ _ plan c.loop-place.place _ _
          (planned_at c.args.slots.now c.args.holds.now c.loop-place.place _
          c.hold_at-hold.result c.loop-place-test.true c.hold_at-hold.ensures) whole
          c.push_whole.ensures.samples c.loop-place.invariant.samples;
      cut =
          no_cut_yet plan c.loop-place.place _ _
          (planned_at c.args.slots.now c.args.holds.now c.loop-place.place End
          c.hold_at-hold.result c.loop-place-test.true c.hold_at-hold.ensures) whole
          c.loop-place.invariant.cut;
      room =
          omega (
            arith,
            c.loop-place.invariant.room,
            c.push_whole.ensures.room,
            c.loop-place-test.true,
          );
    }

none_left : (slots : List Slot) (holds : List ℕ) (i : ℕ) → length slots ≤ i
    → drop i (planned slots holds) ≡ []
none_left slots holds i past =
    drop_all i (planned slots holds) (omega (arith, past, length-planned slots holds))

pub returns-clause-samples : goal.returns-clause-samples
returns-clause-samples c =
    let past = none_left c.args.slots.now c.args.holds.now c.loop-place.place
    c.loop-place-test.false in
    sym (append-nil c.loop-place.levels.samples)
    ∙ ap (λ l. c.loop-place.levels.samples ++ slot_levels c.args.alert l) (sym past)
    ∙ c.loop-place.invariant.samples

pub returns-clause-cut : goal.returns-clause-cut
returns-clause-cut c =
    let past = none_left c.args.slots.now c.args.holds.now c.loop-place.place
    c.loop-place-test.false in
    ap (position_from (λ (s : Slot × ℕ). is_cut s.1) c.loop-place.place) (sym past)
    ∙ c.loop-place.invariant.cut
