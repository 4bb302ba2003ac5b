use Rattle.seq_program.specs.MessageLines.{read_of}
use Rattle.seq_program.proofs.LineWords.{three_words, passed_on}
use Rattle.seq_program.proofs.message_line.read_of.Goals as goal

pub returns-clause-value : goal.returns-clause-value
unfolding read_of
returns-clause-value c =
    rw (
      three_words c.args.words.now c.in-len3.len_at_least c.in-len3.len_below,
      c.in_ok-register.ensures.value,
      c.in_ok-to.ensures.value,
    )

pub returns-in_err-register-clause-value : goal.returns-in_err-register-clause-value
unfolding read_of
returns-in_err-register-clause-value c =
    passed_on (λ i. i) c.from_residual.result c.in_err-register.field-0.0 _
    c.from_residual.ensures.1
    (λ real. rw (
      three_words c.args.words.now c.in-len3.len_at_least c.in-len3.len_below,
      c.in_err-register.ensures.value real,
    ))

pub returns-in_err-to-clause-value : goal.returns-in_err-to-clause-value
unfolding read_of
returns-in_err-to-clause-value c =
    passed_on (λ i. i) c.from_residual-in_err-to.result c.in_err-to.field-0.0 _
    c.from_residual-in_err-to.ensures.1
    (λ real. rw (
      three_words c.args.words.now c.in-len3.len_at_least c.in-len3.len_below,
      c.in_ok-register.ensures.value,
      c.in_err-to.ensures.value real,
    ))
