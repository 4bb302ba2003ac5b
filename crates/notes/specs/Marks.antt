-- The mark below a word of a line.
use Rattle.std.specs.Prelude.{ℕ, List, ◌==◌, ◌++◌, ◌+◌, length, map, max, replicate, if◌then◌else◌}
use Rattle.std.specs.Str.{chars}

-- a tab stays one, so that the mark stands below the word however wide tabs are
abbrev pub blank : ℕ → ℕ
blank c = if c == 9 then 9 else 32

-- blanks below what stands before the word, and `^` below each of its characters, at least one
abbrev pub mark_of : List ℕ → List ℕ → List ℕ
mark_of before word =
    map blank (chars before) ++ replicate (max 1 (length (chars word))) 94

-- the column at which a word begins behind this, counted from 1
abbrev pub column_behind : List ℕ → ℕ
column_behind before = length (chars before) + 1
