use Rattle.std.proofs.Common.{◌≡◌, subst, arith}
use Rattle.facts.specs.domain.Sets.{rails_in}
use Rattle.program_lints.specs.Lints.{leaning}
use Rattle.program_lints.proofs.Leaning.{no_round, one_round}
use Rattle.program_lints.proofs.need_loss.leaning.Goals as goal

pub loop-round-init : goal.loop-round-init
loop-round-init c =
    no_round c.args.board.now c.args.need (rails_in c.single_rail-rails.result)
    c.single_rail-rails.ensures

pub loop-round-preserved : goal.loop-round-preserved
loop-round-preserved c =
    one_round c.args.board.now c.args.need c.loop-round._round (rails_in c.loop-round.rails)
    (rails_in c.next_leaning-rails.result) c.loop-round.invariant c.next_leaning-rails.ensures

pub returns : goal.returns
returns c =
    let end = c.loop-round-test.false in
    let within = c.loop-round.auto._round-end in
    let all : c.loop-round._round ≡ 64 = omega (arith, end, within) in
    subst (λ n. rails_in c.loop-round.rails ≡ leaning c.args.board.now n c.args.need) all
    c.loop-round.invariant
