-- A text cut at the first of a character of ASCII.
use Rattle.std.specs.Prelude.{◌≡◌, ℕ, List, ◌==◌, ◌<◌, length}
use Rattle.std.specs.List.{position_or_len, before_first, after_first}
use Rattle.texts.specs.Ascii as ascii

pub record IsCutAt (mark : ℕ) (text front back : List ℕ) : Type 0 where
  pub has : position_or_len (λ b. b == mark) text < length text
  pub before : front ≡ before_first (λ b. b == mark) text
  pub behind : back ≡ after_first (λ b. b == mark) text

abbrev pub HasNo : ℕ → List ℕ → Type 0
HasNo mark text = position_or_len (λ b. b == mark) text ≡ length text

-- what stands before the first `#`, or the whole line
abbrev pub without_comment : List ℕ → List ℕ
without_comment line = before_first (λ b. b == ascii.number_sign) line

-- what stands behind it, or nothing
abbrev pub comment_in : List ℕ → List ℕ
comment_in line = after_first (λ b. b == ascii.number_sign) line
