-- A name among words of a line.
use Rattle.std.proofs.Common.{◌≡◌, ◌∷◌, ◌||◌, ℕ, Bool, Bor, List, [], ap, map, refl}
use Rattle.std.specs.List.{list_any}
use Rattle.std.specs.Str.{bytes_eq}

-- whether they are borrowed or not
pub named_among : (name : List ℕ) (words : List (Bor (List ℕ)))
    → list_any (bytes_eq name) (map (λ (w : Bor (List ℕ)). w.now) words)
    ≡ list_any (λ (w : Bor (List ℕ)). bytes_eq name w.now) words
named_among name [] = refl
named_among name (w ∷ ws) = ap (λ (b : Bool). bytes_eq name w.now || b) (named_among name ws)
