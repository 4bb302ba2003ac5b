-- Where no file is left, no section is.
use Rattle.std.proofs.Common.{◌≡◌, ℕ, List, [], ◌∷◌, ◌++◌, length, map, refl, ap, ◌∙◌}
use Rattle.std.proofs.lemmas.List.{append-nil, nil_from_length}
use Rattle.bundles.specs.declared.command.Header.{Header}
use Rattle.bundles.specs.Composed.{sections_text}

no_files : (headers : List Header) → sections_text headers [] ≡ []
no_files [] = refl
no_files (header ∷ headers) = refl

pub without_files : {X : Type 0} (f : X → List ℕ) (bundle : List ℕ) (headers : List Header)
    (files : List X) → length files ≡ 0 → bundle ++ sections_text headers (map f files) ≡ bundle
without_files f bundle headers files e =
    ap (λ (fs : List _). bundle ++ sections_text headers (map f fs)) (nil_from_length files e)
    ∙ ap (λ (text : List ℕ). bundle ++ text) (no_files headers)
    ∙ append-nil bundle
