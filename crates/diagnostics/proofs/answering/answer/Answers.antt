use Rattle.std.proofs.Common.{◌∙◌}
use Rattle.std.proofs.lemmas.Option.{IfSome_then}
use Rattle.diagnostics.proofs.answering.answer.Goals as goal

pub returns-in-Ok-clause-answered : goal.returns-in-Ok-clause-answered
returns-in-Ok-clause-answered g c =
    IfSome_then (g.R.Read.remaining c.args.reader.now) c.in_ok-input.ensures.kept
    (λ input front. c.in-Ok.ensures.answered input
    (c.in_ok-notes.ensures.replies input (c.in_ok-case.ensures.is_case input front)))

pub returns-in-Ok-clause-accepted : goal.returns-in-Ok-clause-accepted
returns-in-Ok-clause-accepted g c =
    IfSome_then (g.R.Read.remaining c.args.reader.now) c.in_ok-input.ensures.kept
    (λ input front. c.in-Ok.ensures.accepted input
    (c.in_ok-notes.ensures.replies input (c.in_ok-case.ensures.is_case input front)))

pub returns-in-Ok-clause-gave_up : goal.returns-in-Ok-clause-gave_up
returns-in-Ok-clause-gave_up g c =
    IfSome_then (g.R.Read.remaining c.args.reader.now) c.in_ok-input.ensures.kept
    (λ input front. c.in-Ok.ensures.gave_up input
    (c.in_ok-notes.ensures.replies input (c.in_ok-case.ensures.is_case input front)))

pub returns-in-Ok-clause-told : goal.returns-in-Ok-clause-told
returns-in-Ok-clause-told g c =
    IfSome_then (g.R.Read.remaining c.args.reader.now) c.in_ok-input.ensures.kept
    (λ input front. record {
      case = c.in_ok-case.case;
      is_case = c.in_ok-case.ensures.is_case input front;
      ended = c.in-Ok.ensures.status ∙ c.in_ok-notes.ensures.status;
      told = c.in_ok-notes.ensures.notes;
    })

pub returns-clause-begun : goal.returns-clause-begun
returns-clause-begun g c = λ writer.
    let all = c.in_ok-input.ensures.all in
    record {
      input = all.all;
      read = all.read;
      begun = c.in-Err.ensures.begun all.all
          (c.in_ok-notes.ensures.replies all.all
          (c.in_ok-case.ensures.is_case all.all all.front));
    }
