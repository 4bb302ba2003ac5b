use Rattle.std.proofs.Common.{◌≡◌, ◌∷◌, ◌++◌, ◌+◌, ◌∙◌, List, [], Option, None, MatchOption}
use Rattle.std.proofs.Common.{Global, Vec, ℕ, ap, drop, map, slice_get, subst, sym}
use Rattle.std.specs.Prelude.{IsSomeAnd, codes, unwrap_or}
use Rattle.std.specs.List.{filter_map}
use Rattle.notes.specs.declared.level.Level.TheVariants.{Warning}
use Rattle.notes.specs.declared.note.Note.{Note}
use Rattle.notes.specs.Lines.{line_at}
use Rattle.notes.specs.Notes.{IsQuoting}
use Rattle.program_lints.specs.declared.lint.ProgramLint.{ProgramLint}
use Rattle.program_lints.specs.LintNames.{lint_name}
use Rattle.seq_program.specs.Places.{place_line}
use Rattle.texts.specs.Words.{lines_by_feed}
use Rattle.diagnostics.specs.ProgramWarnings.{is_allowed, warned_line, warned_number}
use Rattle.diagnostics.proofs.ToldLines.{AreNoted, IsNoteOn, next_is, noted_unless, none_noted}
use Rattle.diagnostics.proofs.ToldLines.{one_noted}
use Rattle.diagnostics.proofs.warning.program_warning.lint_warnings.Goals as goal
use Rattle.diagnostics.proofs.warning.program_warning.lint_warnings.Goals.{in-Some+in_ok-push}
use Rattle.diagnostics.proofs.warning.program_warning.lint_warnings.Goals.{in_default}

pub loop-lint-preserved : goal.loop-lint-preserved
loop-lint-preserved c =
    let lines = lines_by_feed c.args.text.now in
    let all = c.args.lints.now in
    let inv = c.loop-lint.invariant in
    let old = c.loop-lint.warnings.items in
    let line_of = warned_line lines in
    let rest = drop (c.loop-lint.lint-index + 1) all in
    let lint = c.lint-item.result in
    let next = next_is all c.loop-lint.lint-index lint c.loop-lint-test.true
    ∙ ap (λ (x : ProgramLint). x ∷ rest) (sym c.lint-item.is) in
    let are = subst (λ (xs : List ProgramLint).
    map (λ (n : Note). n.line) old ++ filter_map line_of xs ≡ filter_map line_of all) next
    inv.told in
    let number = c.number_of-number.result in
    let note = c.in_ok-note.field-0 in
    let found = c.line_at-line.ensures lines inv.finds in
    let quotes = subst (λ (line : Option (List ℕ)).
    MatchOption (warned_number number line lint) (note ≡ None)
    (λ n. IsSomeAnd note (IsQuoting Warning (codes "%program") n line)))
    found.1 c.in_ok-note.ensures in
    let there = noted_unless Warning lines number
    (is_allowed (unwrap_or (line_at number lines) []) (lint_name lint)) note quotes in
    let counted = c.number_of-number.ensures
    ∙ ap (λ (ns : List ℕ). unwrap_or (slice_get ns c.place.result) 1)
    (c.deref.ensures.value ∙ c.in_ok-numbers.ensures)
    ∙ ap (λ (p : ℕ). unwrap_or (place_line p lines) 1) c.place.ensures in
    let noted = subst (λ (n : ℕ).
    IsNoteOn Warning lines (warned_number n (line_at n lines) lint) note) counted there in
    elim c.match-branch-3.branch [
      | in-Some+in_ok-push w ↦
          let told = subst (λ (n : Option Note). IsNoteOn Warning lines (line_of lint) n)
          w.in-Some.is noted in
          let items = ap (λ (v : Vec Note Global). v.items) w.warnings-is
          ∙ w.in_ok-push.ensures.items in
          let now = subst (AreNoted Warning line_of lines all rest) (sym items)
          (one_noted Warning line_of lines all rest old w.in-Some.note lint inv.each are told) in
          record { finds = found.0; each = now.each; told = now.lines_are }
      | in_default w ↦
          let told = subst (λ (n : Option Note). IsNoteOn Warning lines (line_of lint) n)
          w.in_default.is noted in
          let items = ap (λ (v : Vec Note Global). v.items) w.warnings-is in
          let now = subst (AreNoted Warning line_of lines all rest) (sym items)
          (none_noted Warning line_of lines all rest old lint inv.each are told) in
          record { finds = found.0; each = now.each; told = now.lines_are }
    ]
