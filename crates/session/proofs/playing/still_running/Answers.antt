use Rattle.std.proofs.Common.{◌≡◌, rules, string_bytes, subst, sym}
use Rattle.std.specs.Prelude.{IfOk, IsTrue}
use Rattle.std.proofs.lemmas.Result.{IfOk-weaker}
use Rattle.bundles.specs.AnswerTexts.{is_one_line}
use Rattle.session.specs.PlayReplies.{still_running}
use Rattle.session.proofs.OneLines.{running_is_one_line}
use Rattle.session.proofs.playing.still_running.Goals as goal

pub returns-clause-one_line : goal.returns-clause-one_line
returns-clause-one_line c =
    let told : IfOk c.format.result (λ text. string_bytes text ≡ still_running c.args.count) =
    search rules in
    IfOk-weaker c.format.result _ (λ text. IsTrue (is_one_line (string_bytes text)))
    (λ text is. subst (λ line. IsTrue (is_one_line line)) (sym is)
    (running_is_one_line c.args.count c.ranges.count.fits)) told
