use denote.Enum.Bare.{same_true}
use Rattle.std.proofs.Common.{◌≡◌, [], Some, None, ap, subst, sym}
use Rattle.std.specs.Prelude.{Err, IfErr, IfOk, Ok, Result, slice_get}
use Rattle.std.proofs.lemmas.List.Elements.{All-nil}
use Rattle.std.proofs.lemmas.Option.{none-some, slice_get_within}
use Rattle.ways.specs.declared.trails.Trail.{Trail}
use Rattle.facts.specs.contracts.duties.rule.Rule.{the_type as rule_type}
use Rattle.ways.specs.declared.trails.Trails.{Trails}
use Rattle.ways.specs.Ways.{Breaks}
use Rattle.ways.specs.Trails.{LeadOn}
use Rattle.ways.proofs.search.bad_way.Goals.{in-Ok+in_ok-go_on-in-Ok, in-Err+else-is_there}
use Rattle.ways.proofs.search.bad_way.Goals.{in-Err+then-is_there+else-eq}
use Rattle.ways.specs.Trails.{Arrives}
use Rattle.ways.proofs.Arriving.{AreTrails, LeadFrom, goes_on, mapped}
use Rattle.ways.proofs.Finding.{found}
use Rattle.ways.proofs.search.bad_way.Goals as goal

if_err : {X E : Type 0} (r : Result X E) (P : E → Type 0) (e : E) → IfErr r P → r ≡ Err e → P e
if_err r P e if is = subst (λ r. IfErr r P) is if

if_ok : {X E : Type 0} (r : Result X E) (P : X → Type 0) (x : X) → IfOk r P → r ≡ Ok x → P x
if_ok r P x if is = subst (λ r. IfOk r P) is if

pub loop-number-init : goal.loop-number-init
loop-number-init c =
    let b = c.args.board.now in
    let p = c.args.program.now in
    let none : AreTrails b p c.in_ok-trails.trails.trails.items =
    subst (AreTrails b p) (sym c.in_ok-trails.ensures)
    (record {
      arrive = All-nil (λ (t : Trail). Arrives b p [] t.before t.step);
      ordered = λ number before is. absurd (none-some (Some before) is);
    }) in
    let all = goes_on b p c.in_ok-trails.trails.trails.items c.go_on.new.self.trails.items None
    c.in_ok-start_edges.field-0.items none.arrive none.ordered c.in_ok-start_edges.ensures
    c.in_ok-go_on.ensures in
    record { arrive = all.arrive; ordered = all.ordered }

pub into_way-requires-clause-there : goal.into_way-requires-clause-there
into_way-requires-clause-there c =
    let trails = c.loop-number.trails.trails.items in
    let number = c.loop-number.number in
    let t = mapped (λ (t : Trail). t.step) (slice_get trails number) c.in-Some.step.now
    (sym c.in-Some.ensures) in
    slice_get_within trails number t.from t.is

pub returns-in-Err : goal.returns-in-Err
returns-in-Err c =
    let b = c.args.board.now in
    let p = c.args.program.now in
    let s = c.in-Some.step.now in
    let trails = c.loop-number.trails.trails.items in
    let broken = if_err c.in_ok-edges.field-0 (λ rule. Breaks b p rule s) c.in-Err.broken
    c.in_ok-edges.ensures.breaks c.in-Err.is in
    let same : c.in-Err.broken ≡ c.args.rule =
    same_true rule_type tt c.in-Err.broken c.args.rule (sym c.if-eq.ensures) in
    found b p c.args.place c.args.rule trails c.loop-number.number s
    c.in_ok-into_way-in-Err.field-0.items c.loop-number.invariant.arrive (sym c.in-Some.ensures)
    c.if-is_there.true (subst (λ rule. Breaks b p rule s) same broken)
    c.in_ok-into_way-in-Err.ensures

pub loop-number-preserved : goal.loop-number-preserved
loop-number-preserved c =
    let b = c.args.board.now in
    let p = c.args.program.now in
    let inv = c.loop-number.invariant in
    let old = c.loop-number.trails.trails.items in
    let new = c.match-branch-5.trails.trails.items in
    let still : c.match-branch-5.trails ≡ c.loop-number.trails → AreTrails b p new = λ same.
    subst (AreTrails b p) (sym (ap (λ (ts : Trails). ts.trails.items) same))
    (record { arrive = inv.arrive; ordered = inv.ordered }) in
    let all : AreTrails b p new =
    elim c.match-branch-5.branch [
      | in-Ok+in_ok-go_on-in-Ok w ↦
          let number = c.loop-number.number in
          let lead : LeadFrom b p old number w.in-Ok.edges.items = record {
            step = c.in-Some.step.now;
            is = sym c.in-Some.ensures;
            lead = if_ok c.in_ok-edges.field-0
                (λ es. LeadOn b p c.in-Some.step.now es.items) w.in-Ok.edges
                c.in_ok-edges.ensures.leads w.in-Ok.is;
          } in
          let adds = w.in_ok-go_on-in-Ok.ensures in
          subst (AreTrails b p) (sym (ap (λ (ts : Trails). ts.trails.items) w.trails-is))
          (goes_on b p old w.go_on-in-Ok.new.self.trails.items (Some number) w.in-Ok.edges.items
          inv.arrive inv.ordered lead adds)
      | in-Err+then-is_there+else-eq w ↦ still w.trails-is
      | in-Err+else-is_there w ↦ still w.trails-is
    ] in
    record { arrive = all.arrive; ordered = all.ordered }
