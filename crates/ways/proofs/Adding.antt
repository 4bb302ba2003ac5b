-- Adding trails along edges.
use Rattle.std.proofs.Common.{◌≡◌, ◌+◌, ◌++◌, ◌∷◌, ◌∙◌, inl, inr, ℕ, zero, suc, List, []}
use Rattle.std.proofs.Common.{Option, Some, ap, append-nil, append_assoc, arith, drop, length}
use Rattle.std.proofs.Common.{subst, sym}
use Rattle.std.specs.Prelude.{slice_get}
use Rattle.std.proofs.lemmas.List.Elements.{All-nil, All-push}
use Rattle.facts.specs.declared.domain.row.Row.{Row}
use Rattle.ways.specs.declared.trails.Trail.{Trail}
use Rattle.ways.specs.Trails.{AddsTrail, AddsTrails, IsAlong}

-- what stands at the front of the rest of a list
pub dropped_here : {X : Type 0} (xs : List X) (k : ℕ) (x : X) (ys : List X) → drop k xs ≡ x ∷ ys
    → slice_get xs k ≡ Some x
dropped_here [] zero x ys is = absurd (omega (arith, ap length is))
dropped_here [] (suc k) x ys is = absurd (omega (arith, ap length is))
dropped_here (z ∷ xs) zero x ys is = ap (λ (zs : List _). slice_get zs 0) is
dropped_here (z ∷ xs) (suc k) x ys is = dropped_here xs k x ys is

pub dropped_behind : {X : Type 0} (xs : List X) (k : ℕ) (x : X) (ys : List X)
    → drop k xs ≡ x ∷ ys → drop (k + 1) xs ≡ ys
dropped_behind [] zero x ys is = absurd (omega (arith, ap length is))
dropped_behind [] (suc k) x ys is = absurd (omega (arith, ap length is))
dropped_behind (z ∷ xs) zero x ys is = ap (λ (zs : List _). drop 1 zs) is
dropped_behind (z ∷ xs) (suc k) x ys is =
    let more : suc k + 1 ≡ suc (k + 1) = omega arith in
    ap (λ n. drop n (z ∷ xs)) more ∙ dropped_behind xs k x ys is

pub adds_none : (before : Option ℕ) (edges : List (ℕ × Row × ℕ)) (old : List Trail)
    → AddsTrails before edges old old
adds_none before edges old = record {
  added = [];
  new_is = sym (append-nil old);
  along = All-nil (IsAlong before edges);
}

pub adds_one : (before : Option ℕ) (edges : List (ℕ × Row × ℕ)) (old now new : List Trail)
    (t : Trail) → AddsTrails before edges old now → IsAlong before edges t → AddsTrail t now new
    → AddsTrails before edges old new
adds_one before edges old now new t adds along (inl same) =
    subst (AddsTrails before edges old) (sym same) adds
adds_one before edges old now new t adds along (inr more) = record {
  added = adds.added ++ t ∷ [];
  new_is = more ∙ ap (λ (ts : List Trail). ts ++ t ∷ []) adds.new_is
      ∙ append_assoc old adds.added (t ∷ []);
  along = All-push (IsAlong before edges) adds.added t adds.along along;
}
