-- A new name in a set of names.
use Rattle.std.proofs.Common.{◌≡◌, ◌∙◌, ℕ, Bool, false, cond, List, [], ◌∷◌, ◌++◌, map, sym, ap}
use Rattle.std.proofs.Common.{String, Global, string_bytes}
use Rattle.std.specs.List.{list_any}
use Rattle.std.specs.Str.{bytes_eq}
use Rattle.std.specs.String.{string_eq}
use Rattle.indexmap.specs.IndexSet.{insert_key}
use Rattle.board.proofs.Lists.{list_any-map, map-push}

absent : (k : String Global) (name : List ℕ) (ks : List (String Global)) → string_bytes k ≡ name
    → list_any (bytes_eq name) (map string_bytes ks) ≡ false → list_any (string_eq k) ks ≡ false
absent k name ks e h =
    sym (list_any-map (bytes_eq (string_bytes k)) string_bytes ks)
    ∙ ap (λ (n : List ℕ). list_any (bytes_eq n) (map string_bytes ks)) e ∙ h

pub new_name_last : (k : String Global) (name : List ℕ) (ks : List (String Global))
    → string_bytes k ≡ name → list_any (bytes_eq name) (map string_bytes ks) ≡ false
    → map string_bytes (insert_key string_eq ks k) ≡ map string_bytes ks ++ name ∷ []
new_name_last k name ks e h =
    ap (λ (b : Bool). map string_bytes (cond b ks (ks ++ k ∷ []))) (absent k name ks e h)
    ∙ map-push string_bytes ks k
    ∙ ap (λ (n : List ℕ). map string_bytes ks ++ n ∷ []) e
