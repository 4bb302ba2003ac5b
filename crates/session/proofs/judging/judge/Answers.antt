use Rattle.std.proofs.lemmas.Result.{IfOk-weaker}
use Rattle.session.specs.Outcomes.{IsTrue}
use Rattle.session.proofs.Fronts.{true_of}
use Rattle.session.proofs.judging.judge.Goals as goal

pub returns-clause-is_true : goal.returns-clause-is_true
returns-clause-is_true c =
    IfOk-weaker c.judge_kept.result _ (λ case. IsTrue case.outcome)
    (λ case is. true_of c.args.input.now.bytes.items c.args.input.now.too_large case is)
    c.judge_kept.ensures
