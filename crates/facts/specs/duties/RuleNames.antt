-- The names of the rules.
use Rattle.std.specs.Prelude.{ℕ, List, codes}
use Rattle.facts.specs.declared.duties.rule.Rule.{Rule}
use Rattle.facts.specs.declared.duties.rule.Rule.TheVariants.{K1, K2, K3, K4, K5, K6, K7, K8, K9}

abbrev pub rule_name : Rule → List ℕ
rule_name K1 = codes "K1"
rule_name K2 = codes "K2"
rule_name K3 = codes "K3"
rule_name K4 = codes "K4"
rule_name K5 = codes "K5"
rule_name K6 = codes "K6"
rule_name K7 = codes "K7"
rule_name K8 = codes "K8"
rule_name K9 = codes "K9"
