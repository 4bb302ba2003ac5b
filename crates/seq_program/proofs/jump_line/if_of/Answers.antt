use Rattle.seq_program.specs.JumpLines.{if_of}
use Rattle.seq_program.proofs.LineWords.{three_words, passed_on}
use Rattle.seq_program.proofs.jump_line.if_of.Goals as goal

pub returns-in_err-register-clause-value : goal.returns-in_err-register-clause-value
unfolding if_of
returns-in_err-register-clause-value c =
    passed_on (λ i. i) c.from_residual.result c.in_err-register.field-0.0 _
    c.from_residual.ensures.1
    (λ real. rw (
      three_words c.args.words.now c.in-len3.len_at_least c.in-len3.len_below,
      c.in_err-register.ensures.value real,
    ))
