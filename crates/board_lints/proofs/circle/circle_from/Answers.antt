use Rattle.std.proofs.Common.{◌≡◌, ◌<◌, ◌-◌, ◌++◌, ◌∷◌, [], ℕ, List, length}
use Rattle.std.proofs.Common.{false, sym, subst, arith}
use Rattle.std.specs.Prelude.{IsTrue}
use Rattle.std.proofs.lemmas.Option.{slice_get_within}
use Rattle.std.proofs.lemmas.Result.{IfOk-weaker}
use Rattle.board_lints.specs.Lints.{LeadsOn, GoesRound}
use Rattle.board_lints.specs.Ready.{is_ready, AreRails}
use Rattle.board_lints.proofs.Circles.{no_rails, more_rails, fewer_left, none_ready, more_behind}
use Rattle.board_lints.proofs.Circles.{dropped}
use Rattle.board_lints.proofs.Rounds.{leads_more, goes_round}
use Rattle.board_lints.proofs.circle.circle_from.Goals as goal

pub loop-first-init : goal.loop-first-init
loop-first-init c =
    let b = c.args.board.now in
    let none = c.new-way.ensures.items in record {
      rails = no_rails b c.new-way.result.items none;
      leads = subst (λ way. LeadsOn b (way ++ c.args.stuck ∷ [])) (sym none) tt;
      within = c.requires.rail;
      stuck = c.requires.stuck;
      behind = λ d t. absurd (none_ready c.new-way.result.items none d t);
    }

pub split_off-requires : goal.split_off-requires
split_off-requires c =
    let within =
    slice_get_within c.deref.result.now c.in-Some.first c.loop-first.here c.in-Some.ensures in
    omega (arith, within, c.deref.ensures.len)

pub returns-in-Some-clause-round : goal.returns-in-Some-clause-round
returns-in-Some-clause-round c =
    let b = c.args.board.now in
    let way = c.loop-first.way.items in
    let at = rw c.deref.ensures.value at c.in-Some.ensures in
    IfOk-weaker c.split_off.result (λ circle. circle.items ≡ _) (λ circle. GoesRound b circle.items)
    (λ circle is. subst (GoesRound b) (sym is)
    (goes_round b way c.loop-first.here c.in-Some.first at c.loop-first.invariant.leads))
    c.split_off.ensures.tail

pub returns-in-Some-clause-rails : goal.returns-in-Some-clause-rails
returns-in-Some-clause-rails c =
    IfOk-weaker c.split_off.result (λ circle. circle.items ≡ _)
    (λ circle. (d : ℕ) → IsTrue (is_ready circle.items d) → d < length c.args.board.now.rails)
    (λ circle is d t. c.loop-first.invariant.rails.within d
    (dropped c.in-Some.first c.loop-first.way.items d
    (subst (λ rails. IsTrue (is_ready rails d)) is t)))
    c.split_off.ensures.tail

pub returns-in-Some-clause-stuck : goal.returns-in-Some-clause-stuck
returns-in-Some-clause-stuck c =
    IfOk-weaker c.split_off.result (λ circle. circle.items ≡ _)
    (λ circle. (d : ℕ) → IsTrue (is_ready circle.items d) → is_ready c.args.ready.now d ≡ false)
    (λ circle is d t. c.loop-first.invariant.behind d
    (dropped c.in-Some.first c.loop-first.way.items d
    (subst (λ rails. IsTrue (is_ready rails d)) is t)))
    c.split_off.ensures.tail

pub loop-first-smaller : goal.loop-first-smaller
loop-first-smaller c =
    let b = c.args.board.now in
    let way = c.loop-first.way.items in
    let new : is_ready way c.loop-first.here ≡ false =
    rw (c.in_default.is, c.deref.ensures.value) at c.place_on.ensures in
    let are =
    more_rails b way c.loop-first.here c.loop-first.invariant.rails new
    c.loop-first.invariant.within in
    subst (λ (more : List ℕ). length b.rails - length more < length b.rails - length way)
    (sym c.in_ok-push.ensures.items) (fewer_left b way c.loop-first.here are)

pub loop-first-preserved : goal.loop-first-preserved
loop-first-preserved c =
    let b = c.args.board.now in
    let way = c.loop-first.way.items in
    let next = c.stuck_need-here.result in
    let new : is_ready way c.loop-first.here ≡ false =
    rw (c.in_default.is, c.deref.ensures.value) at c.place_on.ensures in record {
      rails =
          subst (AreRails b) (sym c.in_ok-push.ensures.items)
          (more_rails b way c.loop-first.here c.loop-first.invariant.rails new
          c.loop-first.invariant.within);
      leads =
          subst (λ more. LeadsOn b (more ++ next ∷ [])) (sym c.in_ok-push.ensures.items)
          (leads_more b way c.loop-first.here next c.loop-first.invariant.leads
          c.stuck_need-here.ensures.need);
      within = c.stuck_need-here.ensures.rail;
      stuck = c.stuck_need-here.ensures.stuck;
      behind =
          subst
          (λ more. (d : ℕ) → IsTrue (is_ready more d) → is_ready c.args.ready.now d ≡ false)
          (sym c.in_ok-push.ensures.items)
          (more_behind c.args.ready.now way c.loop-first.here c.loop-first.invariant.behind
          c.loop-first.invariant.stuck);
    }
