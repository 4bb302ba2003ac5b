use Rattle.std.proofs.Common.{◌-◌, ◌∙◌, ℕ, List, All, ap, length, subst, take}
use Rattle.std.specs.List.{filter_map}
use Rattle.seq_program.specs.declared.fault.ProgramFault.{ProgramFault}
use Rattle.seq_program.specs.Faults.{line_of}
use Rattle.seq_program.specs.LineFaults.{other_faults}
use Rattle.texts.specs.Words.{lines_by_feed}
use Rattle.diagnostics.specs.OtherErrors.{IsError}
use Rattle.diagnostics.proofs.other_errors.others_than.Goals as goal

pub returns : goal.returns
returns c =
    let b = c.args.board.now in
    let line = c.args.line in
    let read = ap lines_by_feed c.deref.ensures ∙ c.in_ok-text.ensures in
    let told = ap lines_by_feed c.deref-2.ensures ∙ c.in_ok-text.ensures in
    record {
      errors = subst (λ (lines : List (List ℕ)). All (IsError lines) c.in_ok-notes.notes.items)
          told c.in_ok-notes.ensures.errors;
      first = c.in_ok-notes.ensures.lines
          ∙ ap (λ (faults : List ProgramFault). filter_map line_of faults)
          (c.deref-3.ensures.value ∙ c.in_ok-first.ensures.first)
          ∙ ap (λ (lines : List (List ℕ)).
          filter_map line_of (take 19 (other_faults b line lines))) read;
      more = c.in_ok-first.ensures.more
          ∙ ap (λ (lines : List (List ℕ)). length (other_faults b line lines) - 19) read;
    }
