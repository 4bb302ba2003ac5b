-- The keys of a table beside its members.
use Rattle.std.proofs.Common.{◌≡◌, ℕ, List, [], ◌∷◌, map, refl, ap, String, Global, string_bytes}
use Rattle.std.specs.Map.{keys_of}
use Rattle.toml.specs.declared.value.Value.{Value}
use Rattle.toml.specs.View.{members_view}
use Rattle.board.specs.Keys.{names_in}

pub names_in-keys : (es : List (String Global × Value))
    → names_in (members_view es) ≡ map string_bytes (keys_of es)
names_in-keys [] = refl
names_in-keys (e ∷ es) = ap (λ (ns : List (List ℕ)). string_bytes e.0 ∷ ns) (names_in-keys es)
