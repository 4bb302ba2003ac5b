use Rattle.std.proofs.Common.{◌≡◌, map, drop}
use Rattle.command_line.specs.Renamed.{section_of, name_of}
use Rattle.command_line.proofs.telling.name_of.Given as goal

abbrev pub invariant-loop-file : goal.invariant-loop-file
invariant-loop-file l =
    name_of (map section_of (drop l.file-index l.files)) l.section
    ≡ name_of (map section_of l.files) l.section
