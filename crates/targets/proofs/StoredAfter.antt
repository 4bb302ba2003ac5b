-- What is stored after one write, or none.
use Rattle.std.proofs.Common.{◌≡◌, ◌≢◌, ◌<◌, ◌⊎◌, inl, inr, ℕ, Option, Some, None, IfSome, List}
use Rattle.std.proofs.Common.{length, slice_index, refl, sym, ap, arith}
use Rattle.std.proofs.lemmas.Bool.{cases_lt}
use Rattle.std.proofs.lemmas.List.{get_or-set_same, get_or-set_other, length-set}
use Rattle.targets.specs.Effects.{IsStored}
use Rattle.targets.specs.Stored.{with_write}

pub same_or_not : (i j : ℕ) → (i ≡ j) ⊎ (i ≢ j)
same_or_not i j = elim (cases_lt i j) [
  | inl lt ↦ inr (λ e. omega arith)
  | inr le ↦ elim (cases_lt j i) [ inl lt ↦ inr (λ e. omega arith) | inr ge ↦ inl (omega arith) ]
]

pub record StoredAfter (W : ℕ → ℕ → Type 0) (stored new : List ℕ) : Type 0 where
  pub long : length new ≡ length stored
  pub each : (i : ℕ) → i < length stored → IsStored (W i) (slice_index stored i) (slice_index new i)

by_write : (W : ℕ → ℕ → Type 0) (stored : List ℕ) (write : Option (ℕ × ℕ))
    → IfSome write (λ w. W w.0 w.1) → ((i v : ℕ) → W i v → write ≡ Some (i, v))
    → StoredAfter W stored (with_write write stored)
by_write W stored None is only =
    record { long = refl; each = λ i lt. inr ((λ v w. let e = only i v w in cc), refl) }
by_write W stored (Some w) is only = record { long = length-set stored w.0 w.1; each = each }
  where
    here : (i : ℕ) → i < length stored → i ≡ w.0
        → IsStored (W i) (slice_index stored i) (slice_index (with_write (Some w) stored) i)
    here i lt e = let v = get_or-set_same stored w.0 w.1 0 (omega arith) in rw e (inl (rw v is))

    elsewhere : (i : ℕ) → i ≢ w.0
        → IsStored (W i) (slice_index stored i) (slice_index (with_write (Some w) stored) i)
    elsewhere i n = inr (
      (λ v x. let e = only i v x in let same : w ≡ (i, v) = cc in
          n (sym (ap (λ (p : ℕ × ℕ). p.0) same))),
      get_or-set_other stored w.0 i w.1 0 n,
    )

    each : (i : ℕ) → i < length stored
        → IsStored (W i) (slice_index stored i) (slice_index (with_write (Some w) stored) i)
    each i lt = elim (same_or_not i w.0) [ inl e ↦ here i lt e | inr n ↦ elsewhere i n ]

pub stored_after : (W : ℕ → ℕ → Type 0) (before stored new : List ℕ) (write : Option (ℕ × ℕ))
    → before ≡ stored → new ≡ with_write write before → IfSome write (λ w. W w.0 w.1)
    → ((i v : ℕ) → W i v → write ≡ Some (i, v)) → StoredAfter W stored new
stored_after W before stored new write same e is only =
    rw (e, same) (by_write W stored write is only)
