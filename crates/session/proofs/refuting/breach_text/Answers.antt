use Rattle.std.proofs.Common.{◌≡◌, rules, string_bytes, subst, sym}
use Rattle.std.specs.Prelude.{IfOk, IsTrue}
use Rattle.std.proofs.lemmas.Result.{IfOk-weaker}
use Rattle.bundles.specs.AnswerTexts.{is_one_line}
use Rattle.session.specs.PlayReplies.{breach_text}
use Rattle.session.proofs.OneLines.{breach_is_one_line}
use Rattle.session.proofs.refuting.breach_text.Goals as goal

pub returns-clause-one_line : goal.returns-clause-one_line
returns-clause-one_line c =
    let told : IfOk c.format.result (λ text. string_bytes text ≡ breach_text c.args.breach) =
    search rules in
    IfOk-weaker c.format.result _ (λ text. IsTrue (is_one_line (string_bytes text)))
    (λ text is. subst (λ line. IsTrue (is_one_line line)) (sym is)
    (breach_is_one_line c.args.breach c.is_within.ensures)) told
