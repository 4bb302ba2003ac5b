-- A name is the same text, and the one at its place among names.
use Rattle.std.proofs.Common.{◌≡◌, ◌≢◌, ℕ, ◌<◌, true, false, List, [], length, get_or, Some, refl}
use Rattle.std.proofs.Common.{sym}
use Rattle.std.proofs.Common.{arith}
use Rattle.std.specs.List.{position_or_len, AllPairs}
use Rattle.std.specs.Str.{bytes_eq}
use Rattle.std.proofs.lemmas.Bool.{lt-ltb, false_from_ne_true}
use Rattle.std.proofs.lemmas.List.Sums.{position_or_len_is}
use Rattle.std.proofs.lemmas.Slice.Eq.{bytes_eq-Decides}
use Rattle.board.specs.Boards.{place_of_name}

pub same_text : (a b : List ℕ) → bytes_eq a b ≡ true → a ≡ b
same_text a b t = (bytes_eq-Decides a b).0 t

pub bytes_eq-same : (a : List ℕ) → bytes_eq a a ≡ true
bytes_eq-same a = (bytes_eq-Decides a a).1 refl

bytes_eq-apart : (a b : List ℕ) → a ≢ b → bytes_eq a b ≡ false
bytes_eq-apart a b other = false_from_ne_true _ (λ t. other (same_text a b t))

pub name_at_place : (names : List (List ℕ)) (t : ℕ) → t < length names
    → AllPairs (λ m n. m ≢ n) names → place_of_name (get_or names t []) names ≡ Some t
name_at_place names t less apart =
    let name : List ℕ = get_or names t [] in
    let first : position_or_len (bytes_eq name) names ≡ t =
    position_or_len_is (bytes_eq name) names t [] (omega arith)
    (λ k before. bytes_eq-apart name (get_or names k []) (λ e. apart k t [] before less (sym e)))
    (λ _. bytes_eq-same name) in
    rw (first, lt-ltb t (length names) less) refl
