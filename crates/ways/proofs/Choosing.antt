-- Sets of values that targets may start with.
use Rattle.std.proofs.Common.{◌≡◌, ◌<◌, ◌+◌, ◌++◌, ◌∷◌, ◌∙◌, ℕ, zero, suc, Bool, List, [], Some}
use Rattle.std.proofs.Common.{All}
use Rattle.std.proofs.Common.{ap, get_or, length, map, subst, sym, take}
use Rattle.std.proofs.lemmas.List.{take_more}
use Rattle.std.specs.Prelude.{Contains, slice_get}
use Rattle.std.specs.List.{AllZip}
use Rattle.std.proofs.lemmas.List.Elements.{All-contains, All-weaker}
use Rattle.std.proofs.lemmas.Option.{none-some, same_Some}
use Rattle.board.specs.Boards.{Target}
use Rattle.facts.specs.domain.Rows.{set_at}
use Rattle.facts.specs.domain.Sets.{Set}
use Rattle.ways.specs.Ways.{IsChosen}

pub chosen_of_more : (is_value : ℕ → Bool) (some values : List ℕ) (s : Set)
    → All (Contains values) some → IsChosen is_value some s → IsChosen is_value values s
chosen_of_more is_value some values s within is = record {
  chosen = is.chosen;
  from = All-weaker (Contains some) (Contains values)
      (λ v has. All-contains (Contains values) some v within has) is.chosen is.from;
  is = is.is;
}

zip_push : {A B : Type 0} (R : A → B → Type 0) (xs : List A) (ys : List B) (x : A) (y : B)
    → AllZip R xs ys → R x y → AllZip R (xs ++ x ∷ []) (ys ++ y ∷ [])
zip_push R [] [] x y zip is = (is, tt)
zip_push R (z ∷ xs) (w ∷ ys) x y zip is = (zip.0, zip_push R xs ys x y zip.1 is)
zip_push R [] (w ∷ ys) x y zip is = absurd zip
zip_push R (z ∷ xs) [] x y zip is = absurd zip

pub zip_more : {A B : Type 0} (R : A → B → Type 0) (xs : List A) (ys : List B) (i : ℕ) (x : A)
    (y : B) → i < length xs → x ≡ get_or xs i x → AllZip R (take i xs) ys → R x y
    → AllZip R (take (i + 1) xs) (ys ++ y ∷ [])
zip_more R xs ys i x y less here zip is =
    subst (λ zs. AllZip R zs (ys ++ y ∷ []))
    (ap (λ z. take i xs ++ z ∷ []) here ∙ sym (take_more xs i x less))
    (zip_push R (take i xs) ys x y zip is)

-- the set of a target
pub chosen_at : (is_value : ℕ → Bool) (view : ℕ → Set) (starts : Target → List ℕ)
    (targets : List Target) (sets : List ℕ) (i : ℕ) (t : Target)
    → AllZip (λ t set. IsChosen is_value (starts t) (view set)) targets sets
    → slice_get targets i ≡ Some t → IsChosen is_value (starts t) (set_at (map view sets) i)
chosen_at is_value view starts [] sets i t zip is = absurd (none-some t is)
chosen_at is_value view starts (u ∷ targets) [] i t zip is = absurd zip
chosen_at is_value view starts (u ∷ targets) (set ∷ sets) zero t zip is =
    subst (λ t. IsChosen is_value (starts t) (view set)) (same_Some u t is) zip.0
chosen_at is_value view starts (u ∷ targets) (set ∷ sets) (suc i) t zip is =
    chosen_at is_value view starts targets sets i t zip.1 is
