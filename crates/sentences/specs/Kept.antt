-- PAGE and WRITE_PROTECT, which each target keeps, and what a board file says of their start.
use Rattle.std.specs.Prelude.{ℕ, List, codes}
use Rattle.board.specs.Boards.{Target}
use Rattle.sentences.specs.declared.kept.Kept.{Kept}
use Rattle.sentences.specs.declared.kept.Kept.TheVariants.{Page, Protect}

abbrev pub command_of : Kept → List ℕ
command_of Page = codes "PAGE"
command_of Protect = codes "WRITE_PROTECT"

abbrev pub key_of : Kept → List ℕ
key_of Page = codes "start_pages"
key_of Protect = codes "start_protects"

-- the values with which a target may start
abbrev pub starts_of : Kept → Target → List ℕ
starts_of Page target = target.start_pages
starts_of Protect target = target.start_protects
