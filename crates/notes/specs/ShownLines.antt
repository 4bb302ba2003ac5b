-- How a line of a file looks in a note: a plain line as it is, of any other the beginning, with its
-- control characters escaped, so that a terminal obeys none of them.
use Rattle.std.specs.Prelude.{◌≡◌, ◌≤◌, ◌<◌, ◌==◌, ◌++◌, ℕ, Bool, false, not, ◌||◌, ◌&&◌, nat_le}
use Rattle.std.specs.Prelude.{List, [], length, take, flat_map, nat_lt, MatchBool}
use Rattle.std.specs.Prelude.{Option, Some, None, IsSomeAnd, MatchOption, codes, if◌then◌else◌}
use Rattle.std.specs.List.{list_all}
use Rattle.std.specs.Str.{chars, IsCharBoundary}
use Rattle.std.specs.Char.{encode_utf8, is_ascii, is_control}
use Rattle.std.specs.Fmt.{radix_digits, debug_str, ◌++?◌}

-- the most bytes of a line that are shown
abbrev pub most_shown : ℕ
most_shown = 200

-- every character may stand in a note but the control characters; of these a tab (9) may
abbrev pub is_harmless : ℕ → Bool
is_harmless c = (c == 9) || not (is_control c)

abbrev pub are_harmless : List ℕ → Bool
are_harmless line = list_all is_harmless (chars line)

-- a character as it is, or its number: `\u{1b}`
abbrev pub shown_char : ℕ → List ℕ
shown_char c =
    if is_harmless c then encode_utf8 c else codes "\\u{" ++ radix_digits 16 false c ++ codes "}"

-- a line that is shown as it is
abbrev pub is_plain : List ℕ → Bool
is_plain line = nat_le (length line) most_shown && are_harmless line

-- so many bytes hold as many whole characters of the line as this many bytes can
pub record IsWholeFront (bytes : ℕ) (line : List ℕ) (size : ℕ) : Type 0 where
  pub few : size ≤ bytes
  pub whole : IsCharBoundary line size
  pub most : (i : ℕ) → size < i → i ≤ bytes → IsCharBoundary line i → ⊥

-- as 200 bytes can
abbrev pub IsBeginning : List ℕ → ℕ → Type 0
IsBeginning line size = IsWholeFront most_shown line size

-- a word of at most 40 bytes is shown whole, and of any other the beginning
abbrev pub most_quoted : ℕ
most_quoted = 40

pub record IsLongWith (word beginning : List ℕ) : Type 0 where
  pub long : most_quoted < length word
  pub size : ℕ
  pub front : IsWholeFront most_quoted word size
  pub is : beginning ≡ take size word

abbrev pub IsBeginningOf : List ℕ → Option (List ℕ) → Type 0
IsBeginningOf word beginning =
    MatchOption beginning (length word ≤ most_quoted) (IsLongWith word)

-- two dots where a line goes on
abbrev pub dots_if : Bool → List ℕ
dots_if goes_on = if goes_on then codes ".." else []

-- a word of ASCII in quotes, escaped as `{:?}` does: of a long one the beginning, and two dots
abbrev pub quoted : List ℕ → Option (List ℕ)
quoted word =
    if list_all is_ascii word
    then debug_str (take most_quoted word) ++? Some (dots_if (nat_lt most_quoted (length word)))
    else None

-- the beginning of a line, character by character
pub record IsEscaped (line text : List ℕ) : Type 0 where
  pub size : ℕ
  pub beginning : IsBeginning line size
  pub is : text
      ≡ flat_map shown_char (chars (take size line)) ++ dots_if (nat_lt size (length line))

abbrev pub IsShownAs : List ℕ → List ℕ → Type 0
IsShownAs line text = MatchBool (is_plain line) (text ≡ line) (IsEscaped line text)

-- a line as it is shown, if there is one
abbrev pub IsShown : Option (List ℕ) → Option (List ℕ) → Type 0
IsShown None shown = shown ≡ None
IsShown (Some line) shown = IsSomeAnd shown (IsShownAs line)
