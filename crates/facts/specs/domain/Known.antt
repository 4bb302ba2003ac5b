-- What a source says: that the value equals what it names.
use Rattle.std.specs.Prelude.{◌≡◌, ◌⊎◌, Bool, IsTrue}
use Rattle.facts.specs.declared.domain.source.Source.{Source}
use Rattle.facts.specs.declared.domain.source.Source.TheVariants as source

-- the source is one of those that name the value, or it names nothing
abbrev pub IsKnownFrom : Source → (Source → Bool) → Type 0
IsKnownFrom s names = (s ≡ source.None) ⊎ IsTrue (names s)
