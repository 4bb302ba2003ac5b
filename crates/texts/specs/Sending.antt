-- What a writer got of a text.
use Rattle.std.specs.Prelude.{◌≡◌, ◌≢◌, ℕ, List, [], ◌++◌, Option}
use Rattle.std.specs.Io.KnownBytes.{Appends}

-- a beginning of the text, which may be nothing; something of it stays unsent
pub record AppendsBeginning (old new : Option (List ℕ)) (text : List ℕ) : Type 0 where
  pub sent : List ℕ
  pub unsent : List ℕ
  pub parts : text ≡ sent ++ unsent
  pub short : unsent ≢ []
  pub got : Appends old new sent
