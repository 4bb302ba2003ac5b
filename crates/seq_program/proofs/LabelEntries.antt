-- Labels as entries of a map, and lines cut at a comment.
use Rattle.std.proofs.Common.{◌≡◌, ℕ, Bool, true, false, cond, nat_lt, ◌&&◌, ◌||◌, is_some}
use Rattle.std.proofs.Common.{List, [], ◌∷◌, ◌++◌, map, Option, Some, None, refl}
use Rattle.std.proofs.Common.{option_map, ap, ◌∙◌, String, Global, string_bytes}
use Rattle.std.specs.Str.{bytes_eq}
use Rattle.std.specs.List.{list_all}
use Rattle.std.specs.Map.{lookup, values_of}
use Rattle.seq_program.specs.declared.labels.LabelAt.{LabelAt}
use Rattle.seq_program.specs.Labels.{Label, has_label, with_label, with_labels, label_named}
use Rattle.seq_program.specs.PassViews.{label_view}

is_some-or : {X : Type 0} (b : Bool) (x : X) (o : Option X) (c : Bool) → is_some o ≡ c
    → is_some (cond b (Some x) o) ≡ (b || c)
is_some-or true x o c e = refl
is_some-or false x o c e = e

pub lookup-has_label : (name : List ℕ) (es : List (String Global × LabelAt))
    → is_some (lookup (λ k. bytes_eq name (string_bytes k)) es) ≡ has_label name (map label_view es)
lookup-has_label name [] = refl
lookup-has_label name (e ∷ es) =
    is_some-or (bytes_eq name (string_bytes e.0)) e.1
    (lookup (λ k. bytes_eq name (string_bytes k)) es) _ (lookup-has_label name es)

none_from_is_some : {X : Type 0} (o : Option X) → is_some o ≡ false → o ≡ None
none_from_is_some None e = refl
none_from_is_some (Some x) e = cc

pub absent_label : (name : List ℕ) (es : List (String Global × LabelAt))
    → has_label name (map label_view es) ≡ false
    → lookup (λ k. bytes_eq name (string_bytes k)) es ≡ None
absent_label name es e = none_from_is_some _ (lookup-has_label name es ∙ e)

pub label_view-push : (es : List (String Global × LabelAt)) (k : String Global) (name : List ℕ)
    (at : LabelAt) → string_bytes k ≡ name
    → map label_view (es ++ (k, at) ∷ [])
    ≡ map label_view es ++ record { name = name; place = at.place; line = at.line } ∷ []
label_view-push [] k name at e =
    ap (λ (n : List ℕ). record { name = n; place = at.place; line = at.line } ∷ []) e
label_view-push (x ∷ es) k name at e =
    ap (λ (xs : List Label). label_view x ∷ xs) (label_view-push es k name at e)

pub with_labels_append : (labels a b : List Label)
    → with_labels labels (a ++ b) ≡ with_labels (with_labels labels a) b
with_labels_append labels [] b = refl
with_labels_append labels (l ∷ a) b = with_labels_append (with_label labels l) a b

-- what an entry says of its label
pub lookup-label_named : (f : LabelAt → ℕ) (g : Label → ℕ)
    → ((e : String Global × LabelAt) → f e.1 ≡ g (label_view e)) → (name : List ℕ)
    → (es : List (String Global × LabelAt))
    → option_map f (lookup (λ k. bytes_eq name (string_bytes k)) es)
    ≡ option_map g (label_named name (map label_view es))
lookup-label_named f g same name [] = refl
lookup-label_named f g same name (e ∷ es) =
    same_choice (bytes_eq name (string_bytes e.0)) e.1 (label_view e) _ _ (same e)
    (lookup-label_named f g same name es)
  where
    same_choice : (b : Bool) (x : LabelAt) (y : Label) (o : Option LabelAt) (p : Option Label)
        → f x ≡ g y → option_map f o ≡ option_map g p
        → option_map f (cond b (Some x) o) ≡ option_map g (cond b (Some y) p)
    same_choice true x y o p e rest = ap (λ (n : ℕ). Some n) e
    same_choice false x y o p e rest = rest

pub below-values : (count : ℕ) (es : List (String Global × LabelAt))
    → list_all (λ (l : Label). nat_lt l.place count) (map label_view es)
    ≡ list_all (λ (at : LabelAt). nat_lt at.place count) (values_of es)
below-values count [] = refl
below-values count (e ∷ es) = ap (λ (b : Bool). nat_lt e.1.place count && b) (below-values count es)
