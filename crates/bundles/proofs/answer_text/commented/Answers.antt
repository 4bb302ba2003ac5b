use Rattle.std.proofs.Common.{string_bytes, subst, sym, ◌∙◌}
use Rattle.bundles.specs.TextLines.{SaysNothing}
use Rattle.bundles.proofs.SaidTexts.{nothing_said, comment_alone}
use Rattle.bundles.proofs.answer_text.commented.Goals as goal
use Rattle.bundles.proofs.answer_text.commented.Goals.{in-Some+in_ok-comment_line+in_ok-push_line}
use Rattle.bundles.proofs.answer_text.commented.Goals.{in_default}

pub returns-clause-says : goal.returns-clause-says
returns-clause-says c = elim c.match-comment.branch [
  | in-Some+in_ok-comment_line+in_ok-push_line w ↦
      let none = subst SaysNothing (sym c.new.ensures.bytes) nothing_said in
      subst SaysNothing (sym w.text-is)
      (comment_alone (string_bytes c.new.result) w.push_line.new.self
      (string_bytes w.in_ok-comment_line.field-0) w.in_ok-push_line.ensures.added
      w.in_ok-comment_line.ensures.says none)
  | in_default w ↦ subst SaysNothing (sym (w.text-is ∙ c.new.ensures.bytes)) nothing_said
]
