-- A log doesn't nest deep, so that it is read back.
use Rattle.std.proofs.Common.{◌≤◌, ℕ, List, [], ◌∷◌, Some, None, arith}
use Rattle.std.specs.Prelude.{Option}
use Rattle.serde_json.specs.Data.{depth, items_depth, members_depth}
use Rattle.serde_json.specs.View.{items_of}
use Rattle.notes.specs.declared.note.Note.{Note}
use Rattle.sarif.specs.Logs.{log_of, region_members, result_of, results_of}

region_depth : (column : Option ℕ) (line : ℕ) → members_depth (region_members column line) ≤ 0
region_depth None line = omega arith
region_depth (Some column) line = omega arith

result_depth : (name : List ℕ) (n : Note) → depth (result_of name n) ≤ 6
result_depth name n =
    let region = region_depth n.column n.line in
    omega (arith, region)

results_depth : (notes : List (List ℕ × Note)) → items_depth (items_of (results_of notes)) ≤ 6
results_depth [] = omega arith
results_depth (n ∷ notes) =
    let here = result_depth n.0 n.1 in
    let later = results_depth notes in
    omega (arith, here, later)

pub log_depth : (version : List ℕ) (notes : List (List ℕ × Note))
    → depth (log_of version notes) ≤ 127
log_depth version notes =
    let results = results_depth notes in
    omega (arith, results)
