-- Printed labels are found by their names.
use Rattle.std.proofs.Common.{◌≡◌, ℕ, ◌+◌, ◌<◌, ◌≤◌, true, false, nat_lt, inl, inr, List, [], ◌∷◌}
use Rattle.std.proofs.Common.{◌++◌, length, Bool, if◌then◌else◌, Some, refl, ap, ◌∙◌, sym, arith}
use Rattle.std.specs.List.{list_all}
use Rattle.std.specs.Str.{bytes_eq}
use Rattle.std.proofs.lemmas.Bool.{cases_eq, and_from, or_from, lt-ltb}
use Rattle.std.proofs.lemmas.List.{append-nil, append_assoc}
use Rattle.std.proofs.lemmas.List.Folds.{list_any-append}
use Rattle.seq_program.specs.declared.instr.Instr.{Instr}
use Rattle.seq_program.specs.Labels.{Label, has_label, label_named, with_labels}
use Rattle.seq_program.specs.PrintedWords.{place_name}
use Rattle.seq_program.proofs.PrintedCommands.{bytes_eq-same}
use Rattle.seq_program.proofs.PrintedPlaces.{label_at, printed_labels, names_apart}

-- a label is found by its name
pub label_found : (instrs : List Instr) (first p : ℕ) → first ≤ p → p < first + length instrs
    → first + length instrs ≤ 1024
    → label_named (place_name p) (printed_labels first instrs) ≡ Some (label_at p)
label_found [] first p from less few = absurd (omega arith)
label_found (i ∷ instrs) first p from less few = elim (cases_eq p first) [
  | inl e ↦ rw (e, bytes_eq-same (place_name first)) refl
  | inr other ↦
      rw (names_apart p first (omega arith) (omega arith) other)
      (label_found instrs (first + 1) p (omega arith) (omega arith) (omega arith))
]

-- all labels stand before the end
pub labels_below : (count : ℕ) (instrs : List Instr) (first : ℕ) → first + length instrs ≤ count
    → list_all (λ (l : Label). nat_lt l.place count) (printed_labels first instrs) ≡ true
labels_below count [] first few = refl
labels_below count (i ∷ instrs) first few =
    and_from _ _ (lt-ltb first count (omega arith))
    (labels_below count instrs (first + 1) (omega arith))

-- the labels of the places to come are new
abbrev IsFresh : ℕ → List Label → Type 0
IsFresh place labels = (j : ℕ) → place ≤ j → j < 1024 → has_label (place_name j) labels ≡ false

has_label-push : (name : List ℕ) (labels : List Label) (l : Label) → has_label name labels ≡ false
    → bytes_eq name l.name ≡ false → has_label name (labels ++ l ∷ []) ≡ false
has_label-push name labels l f g =
    list_any-append (λ (m : Label). bytes_eq name m.name) labels (l ∷ [])
    ∙ or_from _ _ f (or_from _ _ g refl)

still_fresh : (place : ℕ) (labels : List Label) → IsFresh place labels → place < 1024
    → IsFresh (place + 1) (labels ++ label_at place ∷ [])
still_fresh place labels fresh few = λ j more less.
    has_label-push (place_name j) labels (label_at place) (fresh j (omega arith) less)
    (names_apart j place less few (λ e. absurd (omega arith)))

-- each label is the first of its name
pub all_first : (instrs : List Instr) (place : ℕ) (labels : List Label)
    → place + length instrs ≤ 1024 → IsFresh place labels
    → with_labels labels (printed_labels place instrs) ≡ labels ++ printed_labels place instrs
all_first [] place labels few fresh = sym (append-nil labels)
all_first (i ∷ instrs) place labels few fresh =
    ap (λ (known : Bool). with_labels (if known then labels else labels ++ label_at place ∷ [])
    (printed_labels (place + 1) instrs)) (fresh place (omega arith) (omega arith))
    ∙ (all_first instrs (place + 1) (labels ++ label_at place ∷ []) (omega arith)
    (still_fresh place labels fresh (omega arith))
    ∙ append_assoc labels (label_at place ∷ []) (printed_labels (place + 1) instrs))
