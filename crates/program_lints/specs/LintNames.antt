-- The place and the name of a lint.
use Rattle.std.specs.Prelude.{ℕ, List, codes}
use Rattle.program_lints.specs.declared.lint.ProgramLint.{ProgramLint}
use Rattle.program_lints.specs.declared.lint.ProgramLint.TheVariants as lint

-- the place of the instruction that it is about
abbrev pub lint_place : ProgramLint → ℕ
lint_place (lint.OnAtFail place rails) = place
lint_place (lint.BeforeVoltage place rail) = place
lint_place (lint.NeedLost place need rail) = place
lint_place (lint.Unreached place) = place
lint_place (lint.ProtectLeft place target) = place
lint_place (lint.NoRail place target) = place
lint_place (lint.UnservedAlert place) = place

-- what a comment allows it by
abbrev pub lint_name : ProgramLint → List ℕ
lint_name (lint.OnAtFail place rails) = codes "on-at-fail"
lint_name (lint.BeforeVoltage place rail) = codes "before-voltage"
lint_name (lint.NeedLost place need rail) = codes "need-lost"
lint_name (lint.Unreached place) = codes "unreached"
lint_name (lint.ProtectLeft place target) = codes "protect-left"
lint_name (lint.NoRail place target) = codes "no-rail"
lint_name (lint.UnservedAlert place) = codes "unserved-alert"
