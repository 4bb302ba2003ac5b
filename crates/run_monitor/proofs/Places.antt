-- Lists by their places, and the parts of a row by theirs.
use Rattle.std.proofs.Common.{◌≡◌, ◌<◌, ℕ, zero, suc, List, [], ◌∷◌, length, map, slice_get}
use Rattle.std.proofs.Common.{slice_index, slice_index_or, Some, All, refl, ap, subst, arith}
use Rattle.std.specs.Prelude.{IsTrue}
use Rattle.std.proofs.lemmas.Bool.Decides.{nat_tests}
use Rattle.facts.specs.declared.domain.span.Span.{Span}
use Rattle.facts.specs.duties.Duties.{one}
use Rattle.facts.specs.domain.Rows.{set_at, span_at, InSpan, InSpans, SpansCover}
use Rattle.facts.specs.domain.Sets.{only}

-- what stands at a place before the end
pub found : {A : Type 0} → (xs : List A) (i : ℕ) → i < length xs
    → (x : A) × (slice_get xs i ≡ Some x)
found [] i lt = absurd (omega (arith, lt))
found (x ∷ xs) zero lt = (x, refl)
found (x ∷ xs) (suc i) lt = found xs i (omega (arith, lt))

pub within : {A : Type 0} → (xs : List A) (i : ℕ) (x : A) → slice_get xs i ≡ Some x
    → i < length xs
within [] i x is = absurd (cc is)
within (y ∷ ys) zero x is = omega arith
within (y ∷ ys) (suc i) x is = let lt = within ys i x is in omega (arith, lt)

index_at : {A : Type 0} (xs : List A) (i : ℕ) (x d : A) → slice_get xs i ≡ Some x
    → slice_index_or xs i d ≡ x
index_at [] i x d e = absurd (cc e)
index_at (y ∷ ys) zero x d e = cc e
index_at (y ∷ ys) (suc i) x d e = index_at ys i x d e

pub each_at : {A : Type 0} (P : A → Type 0) (xs : List A) (i : ℕ) (x : A) → All P xs
    → slice_get xs i ≡ Some x → P x
each_at P xs i x all e = subst P (index_at xs i x x e) (all i x (within xs i x e))

pub all_index : (P : ℕ → Type 0) (xs : List ℕ) (i : ℕ) → All P xs → i < length xs
    → P (slice_index xs i)
all_index P xs i all lt = all i 0 lt

pub only_at : (xs : List ℕ) (i : ℕ) → i < length xs
    → set_at (map only xs) i ≡ only (slice_index xs i)
only_at [] i lt = absurd (omega (arith, lt))
only_at (x ∷ xs) zero lt = refl
only_at (x ∷ xs) (suc i) lt = only_at xs i (omega (arith, lt))

pub one_at : (xs : List ℕ) (i : ℕ) → i < length xs
    → span_at (map one xs) i ≡ one (slice_index xs i)
one_at [] i lt = absurd (omega (arith, lt))
one_at (x ∷ xs) zero lt = refl
one_at (x ∷ xs) (suc i) lt = one_at xs i (omega (arith, lt))

pub is_only : (v x : ℕ) → IsTrue (only v x) → x ≡ v
is_only v x t = Prim.grind (arith, nat_tests)

pub in_only : (v : ℕ) → IsTrue (only v v)
in_only v = Prim.grind (arith, nat_tests)

-- numbers in their spans
pub as_many : (spans : List Span) (xs : List ℕ) → InSpans spans xs → length xs ≡ length spans
as_many [] [] k = refl
as_many (s ∷ ss) (x ∷ xs) k = ap suc (as_many ss xs k.1)
as_many [] (x ∷ xs) k = absurd k
as_many (s ∷ ss) [] k = absurd k

pub in_span : (spans : List Span) (xs : List ℕ) (i : ℕ) → InSpans spans xs → i < length xs
    → InSpan (span_at spans i) (slice_index xs i)
in_span [] [] i k lt = absurd (omega (arith, lt))
in_span (s ∷ ss) (x ∷ xs) zero k lt = k.0
in_span (s ∷ ss) (x ∷ xs) (suc i) k lt = in_span ss xs i k.1 (omega (arith, lt))
in_span [] (x ∷ xs) i k lt = absurd k
in_span (s ∷ ss) [] i k lt = absurd k

pub spans_cover : (spans : List Span) (xs : List ℕ) → InSpans spans xs
    → SpansCover spans (map one xs)
spans_cover [] [] k = tt
spans_cover (s ∷ ss) (x ∷ xs) k = (k.0, spans_cover ss xs k.1)
spans_cover [] (x ∷ xs) k = absurd k
spans_cover (s ∷ ss) [] k = absurd k
