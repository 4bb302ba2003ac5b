use Rattle.std.proofs.Common.{◌≡◌, Some, ok_or, sym, ap, ◌∙◌}
use Rattle.seq_program.specs.declared.fault.ProgramFault.TheVariants.{BadNumber}
use Rattle.seq_program.specs.MessageLines.{most_in, write_of}
use Rattle.seq_program.proofs.Options.{some_of_ok}
use Rattle.seq_program.proofs.LineWords.{three_words, passed_on, some_or_fault}
use Rattle.seq_program.proofs.WrittenValues.{written_fits}
use Rattle.seq_program.proofs.message_line.write_of.Goals as goal

pub returns-clause-fits : goal.returns-clause-fits
returns-clause-fits c =
    let to = c.in_ok-to.ensures in
    let written : c.written_of.result ≡ Some c.in_ok-value.value =
    some_of_ok c.written_of.result _ c.in_ok-value.value
    (sym c.ok_or.ensures.value ∙ c.in_ok-value.was) in (
      written_fits _ _ c.in_ok-source.source _ _ c.in_ok-value.value to.taken
          (sym to.sized) c.in_ok-source.ensures.voltage (sym written ∙ c.written_of.ensures),
      to.there,
    )

pub returns-clause-value : goal.returns-clause-value
unfolding write_of
returns-clause-value c =
    let read =
    some_or_fault (BadNumber c.args.line 3 0 (most_in c.in_ok-to.to.width)) _
    ∙ ap (λ o. ok_or o (BadNumber c.args.line 3 0 (most_in c.in_ok-to.to.width)))
    (sym c.written_of.ensures)
    ∙ ap (λ f. ok_or c.written_of.result f) (sym c.bad_written.ensures)
    ∙ sym c.ok_or.ensures.value
    ∙ c.in_ok-value.was in
    rw (
      three_words c.args.words.now c.in-len3.len_at_least c.in-len3.len_below,
      c.in_ok-source.ensures.value,
      c.in_ok-to.ensures.value,
      read,
    )

pub returns-in_err-source-clause-value : goal.returns-in_err-source-clause-value
unfolding write_of
returns-in_err-source-clause-value c =
    passed_on (λ i. i) c.from_residual.result c.in_err-source.field-0.0 _ c.from_residual.ensures.1
    (λ real. rw (
      three_words c.args.words.now c.in-len3.len_at_least c.in-len3.len_below,
      c.in_err-source.ensures.value real,
    ))

pub returns-in_err-to-clause-value : goal.returns-in_err-to-clause-value
unfolding write_of
returns-in_err-to-clause-value c =
    passed_on (λ i. i) c.from_residual-in_err-to.result c.in_err-to.field-0.0 _
    c.from_residual-in_err-to.ensures.1
    (λ real. rw (
      three_words c.args.words.now c.in-len3.len_at_least c.in-len3.len_below,
      c.in_ok-source.ensures.value,
      c.in_err-to.ensures.value real,
    ))

pub returns-in_err-value-clause-value : goal.returns-in_err-value-clause-value
unfolding write_of
returns-in_err-value-clause-value c =
    let read =
    some_or_fault (BadNumber c.args.line 3 0 (most_in c.in_ok-to.to.width)) _
    ∙ ap (λ o. ok_or o (BadNumber c.args.line 3 0 (most_in c.in_ok-to.to.width)))
    (sym c.written_of.ensures)
    ∙ ap (λ f. ok_or c.written_of.result f) (sym c.bad_written.ensures)
    ∙ sym c.ok_or.ensures.value
    ∙ c.in_err-value.was in
    passed_on (λ i. i) c.from_residual-in_err-value.result c.in_err-value.field-0.0 _
    c.from_residual-in_err-value.ensures.1
    (λ real. rw (
      three_words c.args.words.now c.in-len3.len_at_least c.in-len3.len_below,
      c.in_ok-source.ensures.value,
      c.in_ok-to.ensures.value,
      read,
    ))
