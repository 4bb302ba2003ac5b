use Rattle.std.proofs.Common.{string_bytes}
use Rattle.std.proofs.lemmas.Result.{IfOk-weaker}
use Rattle.session.specs.DraftReplies.{TellsBound}
use Rattle.session.proofs.drafting.with_heading.Goals as goal

pub returns : goal.returns
returns c =
    IfOk-weaker c.format.result _ (λ text. TellsBound c.args.bound (string_bytes text))
    (λ text is. record { rest = _; tells = is }) c.format.ensures.ok
