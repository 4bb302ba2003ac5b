-- Notes on refusals and on runs that break a rule, and the rule that each names: `pmseq explain`
-- has more of it.
use Rattle.std.specs.Prelude.{◌≡◌, ℕ, List, Option, Some, None, IfSome, option_copied}
use Rattle.facts.specs.declared.duties.rule.Rule.{Rule}
use Rattle.facts.specs.declared.duties.rule.Rule.TheVariants.{K7}
use Rattle.facts.specs.duties.RuleNames.{rule_name}
use Rattle.notes.specs.declared.level.Level.TheVariants.{Error}
use Rattle.notes.specs.declared.note.Note.{Note}
use Rattle.refusal_notes.specs.Places.{IsOnPlace, IsWarningAt}
use Rattle.refusal_notes.specs.declared.refusal.RefusalKind.{RefusalKind}
use Rattle.refusal_notes.specs.declared.refusal.RefusalKind.TheVariants as kinds

-- the rule that refuses; none where no facts were found
abbrev pub rule_in : RefusalKind → Option (List ℕ)
rule_in (kinds.Breaks rule) = Some (rule_name rule)
rule_in kinds.GaveUp = None
rule_in kinds.Uncounted = Some (rule_name K7)
rule_in kinds.TooLong = Some (rule_name K7)
rule_in kinds.Unbounded = Some (rule_name K7)

-- a note names this rule, or none
abbrev pub Names : Option (List ℕ) → Note → Type 0
Names rule n = option_copied n.page ≡ rule

-- an error on the line of a program's place, if it has one, that names this rule
pub record IsRefusalNote (lines : List (List ℕ)) (place : ℕ) (rule : Option (List ℕ))
    (note : Option Note) : Type 0 where
  pub on_place : IsOnPlace Error lines place note
  pub names : IfSome note (Names rule)

-- a warning on the line of a place, or on the first where that isn't found, that names this rule
pub record IsBreachNote (lines : List (List ℕ)) (place : ℕ) (rule : Rule) (n : Note) : Type 0 where
  pub at_place : IsWarningAt lines place n
  pub names : Names (Some (rule_name rule)) n
