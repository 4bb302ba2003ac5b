-- The text of a frame, from what is appended piece by piece.
use Rattle.std.proofs.Common.{◌≡◌, ℕ, List, [], ◌∷◌, ◌++◌, sym, ap, ◌∙◌, append_assoc}
use Rattle.std.specs.Prelude.{codes}
use Rattle.std.specs.List.{join_with_byte}
use Rattle.std.proofs.lemmas.Grind.{flat_map-append}
use Rattle.std.proofs.lemmas.List.{append-nil}
use Rattle.smbus.specs.Shown.{Shown}
use Rattle.smbus.specs.Text.{segments_words, tail_words, frame_words, spaced, text_of}

join-spaced : (word : List ℕ) (words : List (List ℕ))
    → join_with_byte 32 (word ∷ words) ≡ word ++ spaced words
join-spaced word [] = sym (append-nil word)
join-spaced word (w ∷ words) = ap (λ (l : List ℕ). word ++ 32 ∷ l) (join-spaced w words)

spaced-append : (a b : List (List ℕ)) → spaced (a ++ b) ≡ spaced a ++ spaced b
spaced-append a b = flat_map-append (λ (w : List ℕ). 32 ∷ w) a b

pub text_of-pieces : (f : Shown) (start segments tail whole : List ℕ) → start ≡ codes "S"
    → segments ≡ start ++ spaced (segments_words f.segments)
    → tail ≡ segments ++ spaced (tail_words f.tail) → whole ≡ tail ++ codes " P" → whole ≡ text_of f
unfolding text_of
text_of-pieces f start segments tail whole es eg et ew =
    let a : List ℕ = spaced (segments_words f.segments) in
    let b : List ℕ = spaced (tail_words f.tail) in
    ew
    ∙ ap (λ (l : List ℕ). l ++ codes " P")
    (et ∙ ap (λ (l : List ℕ). l ++ b) (eg ∙ ap (λ (l : List ℕ). l ++ a) es))
    ∙ append_assoc (codes "S" ++ a) b (codes " P")
    ∙ append_assoc (codes "S") a (b ++ codes " P")
    ∙ ap (λ (l : List ℕ). codes "S" ++ l) (sym (append_assoc a b (codes " P")) ∙ ap (λ (l : List ℕ).
    l ++ codes " P") (sym (spaced-append (segments_words f.segments) (tail_words f.tail)))
    ∙ sym (spaced-append (segments_words f.segments ++ tail_words f.tail) (codes "P" ∷ [])))
    ∙ sym (join-spaced (codes "S") (frame_words f))
