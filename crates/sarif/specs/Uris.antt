-- Names of files as URI references (RFC 3986, section 2).
use Rattle.std.specs.Prelude.{ℕ, List, [], ◌∷◌, ◌||◌, ◌&&◌, ◌==◌, Bool, nat_le, flat_map}
use Rattle.std.specs.Prelude.{if◌then◌else◌}
use Rattle.texts.specs.Ascii as ascii
use Rattle.texts.specs.Hex.{pair_text}

abbrev is_between : ℕ → ℕ → ℕ → Bool
is_between low high byte = nat_le low byte && nat_le byte high

-- an unreserved character, or a slash: a digit, a letter, or one of - . / _ ~
abbrev pub is_plain : ℕ → Bool
is_plain byte =
    is_between 48 57 byte || is_between 65 90 byte || is_between 97 122 byte
    || byte == 45 || byte == 46 || byte == 47 || byte == 95 || byte == 126

-- a byte that stands for itself, or a percent sign and its two digits
abbrev pub encoded : ℕ → List ℕ
encoded byte = if is_plain byte then byte ∷ [] else ascii.percent_sign ∷ pair_text byte

abbrev pub uri_of : List ℕ → List ℕ
uri_of name = flat_map encoded name
