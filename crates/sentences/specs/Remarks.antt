-- A note that says a remark.
use Rattle.std.specs.Prelude.{◌≡◌, List, [], ◌∷◌, Option, Some, None, String}
use Rattle.std.specs.declared.alloc.Global.{Global}
use Rattle.notes.specs.declared.note.Note.{Note}
use Rattle.sentences.specs.declared.advice.Remark.{Remark}

-- what may help, in a list
abbrev pub helps_of : Option (String Global) → List (String Global)
helps_of None = []
helps_of (Some help) = help ∷ []

-- its message and its help, and no other
pub record Says (remark : Remark) (n : Note) : Type 0 where
  pub message : n.message ≡ remark.message
  pub helps : n.helps.items ≡ helps_of remark.help
