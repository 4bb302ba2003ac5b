-- What is kept of the bytes of a reader.
use Rattle.std.specs.Prelude.{◌≡◌, ℕ, List, Bool, Option, length, take, nat_lt}
use Rattle.std.specs.Io.KnownBytes.{Consumes, IsAtEnd}

-- the most bytes that are kept
abbrev pub kept_limit : ℕ
kept_limit = 16777216

-- the bytes up to the limit, and whether there were more
pub record IsFrontOf (kept : List ℕ) (too_large : Bool) (all : List ℕ) : Type 0 where
  pub bytes : kept ≡ take kept_limit all
  pub more : too_large ≡ nat_lt kept_limit (length all)

-- a reader, which had the first bytes and has the rest, gave all of these and is at its end
pub record IsReadWhole (first rest : Option (List ℕ)) (all : List ℕ) : Type 0 where
  pub came : Consumes first rest all
  pub ended : IsAtEnd rest

-- and this is what is kept of them
pub record IsKeptOfAll (first rest : Option (List ℕ)) (kept : List ℕ)
    (too_large : Bool) : Type 0 where
  pub all : List ℕ
  pub read : IsReadWhole first rest all
  pub front : IsFrontOf kept too_large all
