use Rattle.std.proofs.Common.{◌≡◌, ◌++◌, ◌+◌, ◌∙◌, refl, List, Option, Some, None, Vec, Global}
use Rattle.std.proofs.Common.{ℕ, ap, drop, map, subst, sym}
use Rattle.std.specs.Prelude.{codes}
use Rattle.std.specs.List.{filter_map}
use Rattle.notes.specs.declared.level.Level.TheVariants.{Error}
use Rattle.notes.specs.declared.lines.LineFinder.{LineFinder}
use Rattle.notes.specs.declared.note.Note.{Note}
use Rattle.notes.specs.Lines.{FindsIn}
use Rattle.notes.specs.Notes.{IsQuoting}
use Rattle.seq_program.specs.declared.fault.ProgramFault.{ProgramFault}
use Rattle.seq_program.specs.Faults.{line_of}
use Rattle.texts.specs.Words.{lines_by_feed}
use Rattle.diagnostics.proofs.ToldLines.{AreNoted, IsNoteOn, next_is, one_noted, none_noted}
use Rattle.diagnostics.proofs.other_errors.notes_of.Goals as goal
use Rattle.diagnostics.proofs.other_errors.notes_of.Goals.{in-Some+in_ok-note_on+in_ok-push}
use Rattle.diagnostics.proofs.other_errors.notes_of.Goals.{in_default}

pub loop-fault-preserved : goal.loop-fault-preserved
loop-fault-preserved c =
    let lines = lines_by_feed c.args.text.now in
    let all = c.args.faults.now in
    let inv = c.loop-fault.invariant in
    let old = c.loop-fault.notes.items in
    let rest = drop (c.loop-fault.fault-index + 1) all in
    let next = next_is all c.loop-fault.fault-index _ c.loop-fault-test.true in
    let are = subst (λ (xs : List ProgramFault).
    map (λ (n : Note). n.line) old ++ filter_map line_of xs ≡ filter_map line_of all) next
    inv.told in
    elim c.match-line.branch [
      | in-Some+in_ok-note_on+in_ok-push w ↦
          let found = w.line_at-line.ensures lines inv.finds in
          let note = w.in_ok-note_on.field-0 in
          let number = w.in-Some.number in
          let on = subst (λ (line : Option (List ℕ)).
          IsQuoting Error (codes "%program") number line note) found.1 w.in_ok-note_on.ensures in
          let noted = subst (λ (line : Option ℕ). IsNoteOn Error lines line (Some note))
          (sym w.in-Some.is ∙ c.line.ensures) on in
          let items = ap (λ (v : Vec Note Global). v.items) w.notes-is
          ∙ w.in_ok-push.ensures.items in
          let now = subst (AreNoted Error line_of lines all rest) (sym items)
          (one_noted Error line_of lines all rest old note _ inv.errors are noted) in
          record {
            finds = subst (λ (f : LineFinder). FindsIn lines f) (sym w.lines-is) found.0;
            errors = now.each;
            told = now.lines_are;
          }
      | in_default w ↦
          let noted = subst (λ (line : Option ℕ). IsNoteOn Error lines line None)
          (sym w.in_default.is ∙ c.line.ensures) refl in
          let items = ap (λ (v : Vec Note Global). v.items) w.notes-is in
          let now = subst (AreNoted Error line_of lines all rest) (sym items)
          (none_noted Error line_of lines all rest old _ inv.errors are noted) in
          record {
            finds = subst (λ (f : LineFinder). FindsIn lines f) (sym w.lines-is) inv.finds;
            errors = now.each;
            told = now.lines_are;
          }
    ]
