use Rattle.seq_program.specs.MessageLines.{block_write_of}
use Rattle.seq_program.proofs.LineWords.{three_words, passed_on}
use Rattle.seq_program.proofs.message_line.block_write_of.Goals as goal

pub returns-clause-value : goal.returns-clause-value
unfolding block_write_of
returns-clause-value c =
    rw (
      three_words c.args.words.now c.in-len3.len_at_least c.in-len3.len_below,
      c.in_ok-bytes.ensures.value,
      c.in_ok-target.ensures.value,
    )

pub returns-in_err-bytes-clause-value : goal.returns-in_err-bytes-clause-value
unfolding block_write_of
returns-in_err-bytes-clause-value c =
    passed_on (λ i. i) c.from_residual.result c.in_err-bytes.field-0.0 _ c.from_residual.ensures.1
    (λ real. rw (
      three_words c.args.words.now c.in-len3.len_at_least c.in-len3.len_below,
      c.in_err-bytes.ensures.value real,
    ))

pub returns-in_err-target-clause-value : goal.returns-in_err-target-clause-value
unfolding block_write_of
returns-in_err-target-clause-value c =
    passed_on (λ i. i) c.from_residual-in_err-target.result c.in_err-target.field-0.0 _
    c.from_residual-in_err-target.ensures.1
    (λ real. rw (
      three_words c.args.words.now c.in-len3.len_at_least c.in-len3.len_below,
      c.in_ok-bytes.ensures.value,
      c.in_err-target.ensures.value real,
    ))
