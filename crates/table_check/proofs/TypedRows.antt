-- Numbers of rows are within their types, row by row.
use Rattle.std.proofs.Common.{ℕ, zero, suc, ◌≡◌, ◌<◌, ◌+◌, List, [], ◌∷◌, length, slice_index_or}
use Rattle.std.proofs.Common.{Option, refl, sym, ap, subst, ◌∙◌, inl, inr, arith}
use Rattle.std.proofs.lemmas.Bool.{cases_lt}
use Rattle.std.specs.Prelude.{IfSome, option_map}
use Rattle.facts.specs.declared.domain.row.Row.{Row as CodeRow}
use Rattle.facts.specs.domain.Rows.{Row, row_view}
use Rattle.table_check.specs.Tables.{rows_view}
use Rattle.table_check.specs.text.Writable.{IsTypedRow}

at_map : (rows : List (Option CodeRow)) (i : ℕ) (x : Option CodeRow) (d : Option Row)
    → i < length rows
    → slice_index_or (rows_view rows) i d ≡ option_map row_view (slice_index_or rows i x)
at_map [] i x d lt = absurd (omega (arith, lt))
at_map (row ∷ rows) zero x d lt = refl
at_map (row ∷ rows) (suc i) x d lt = at_map rows i x d (omega (arith, lt))

-- one row more
pub next_typed : (rows : List (Option CodeRow)) (i : ℕ) (x : Option CodeRow)
    → x ≡ slice_index_or rows i x → i < length rows → IfSome (option_map row_view x) IsTypedRow
    → ((k : ℕ) (d : Option Row) → k < i → IfSome (slice_index_or (rows_view rows) k d) IsTypedRow)
    → (k : ℕ) (d : Option Row) → k < i + 1
    → IfSome (slice_index_or (rows_view rows) k d) IsTypedRow
next_typed rows i x here lt typed before k d le = elim (cases_lt k i) [
  | inl less ↦ before k d less
  | inr more ↦
      let same : i ≡ k = omega (arith, more, le) in
      let P : Option Row → Type 0 = λ r. IfSome r IsTypedRow in
      subst (λ n. P (slice_index_or (rows_view rows) n d)) same
      (subst P (ap (option_map row_view) here ∙ sym (at_map rows i x d lt)) typed)
]
