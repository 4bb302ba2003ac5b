-- The name of a table whose keys are good.
use Rattle.std.proofs.Common.{◌≡◌, ℕ, List, [], ◌∷◌, true, false, Option, Some, None, is_some}
use Rattle.std.proofs.Common.{option_and_then, unwrap_or, Ok, subst}
use Rattle.std.proofs.lemmas.Bool.{and_parts}
use Rattle.std.specs.List.{list_all}
use Rattle.std.specs.Option.{option_map_or}
use Rattle.toml.specs.Data.{Data, Members, as_str}
use Rattle.texts.specs.Names.{is_name}
use Rattle.board.specs.declared.key.Key.TheVariants as key
use Rattle.board.specs.declared.keys.Kind.TheVariants as kind
use Rattle.board.specs.declared.site.Place.{Place}
use Rattle.board.specs.Keys.{Field, is_good_at, is_there, is_of, first_bad, first_missing}
use Rattle.board.specs.Keys.{check_known, check_kinds, check_keys}
use Rattle.board.specs.Fields.{value_at}
use Rattle.board.specs.Named.{is_named}
use Rattle.board.specs.Targets.{name_in, new_name}
use Rattle.board.proofs.Steps.{bind_ok, if_ok, unless_ok, not_false}
use Rattle.board.proofs.Firsts.{none_fails}

-- the table is the one that was given, and its keys are good
pub record HasKeys (needed optional : List Field) (ms k : Members) : Type 0 where
  pub same : ms ≡ k
  pub good : list_all (is_good_at k) needed ≡ true
  pub kept : list_all (is_good_at k) optional ≡ true
  pub there : list_all (is_there k) needed ≡ true

pub keys_ok : (table : Place) (needed optional : List Field) (ms k : Members)
    → check_keys table needed optional ms ≡ Ok k → HasKeys needed optional ms k
unfolding check_keys
keys_ok table needed optional ms k e =
    let a = bind_ok (check_known table needed optional ms) _ k e in
    let b = bind_ok (check_kinds table needed a.0) _ k a.2 in
    let c = bind_ok (check_kinds table optional b.0) _ k b.2 in
    let known = unless_ok _ _ ms a.0 a.1 in
    let good = unless_ok _ (first_bad needed a.0) a.0 b.0 b.1 in
    let kept = unless_ok _ (first_bad optional b.0) b.0 c.0 c.1 in
    let there = unless_ok _ (first_missing needed c.0) c.0 k c.2 in
    let last : a.0 ≡ k = cc in
    let same_kept : b.0 ≡ k = cc in
    record {
      same = cc;
      good =
          subst (λ m. list_all (is_good_at m) needed ≡ true) last
          (none_fails (is_good_at a.0) needed good.0);
      kept =
          subst (λ m. list_all (is_good_at m) optional ≡ true) same_kept
          (none_fails (is_good_at b.0) optional kept.0);
      there =
          subst (λ m. list_all (is_there m) needed ≡ true) there.1
          (none_fails (is_there c.0) needed there.0);
    }

name_of_text : (o : Option (List ℕ)) → option_map_or is_name o false ≡ true
    → is_name (unwrap_or o []) ≡ true
name_of_text None g = absurd cc
name_of_text (Some s) g = g

name_of_data : (o : Option Data) → option_map_or (is_of kind.Name) o true ≡ true
    → is_some o ≡ true → is_name (unwrap_or (option_and_then as_str o) []) ≡ true
name_of_data None g there = absurd cc
name_of_data (Some d) g there = name_of_text (as_str d) g

-- where a name is needed, what stands there is a good one
pub good_name : (table : Place) (rest optional : List Field) (ms k : Members)
    → check_keys table ((key.Name, kind.Name) ∷ rest) optional ms ≡ Ok k
    → is_name (name_in k) ≡ true
good_name table rest optional ms k e =
    let name : Field = (key.Name, kind.Name) in
    let ok = keys_ok table (name ∷ rest) optional ms k e in
    let good = and_parts (is_good_at k name) (list_all (is_good_at k) rest) ok.good in
    let there = and_parts (is_there k name) (list_all (is_there k) rest) ok.there in
    name_of_data (value_at key.Name k) good.0 there.0

pub record IsNew (names : List (List ℕ)) (k : Members) (n : List ℕ) : Type 0 where
  pub text : name_in k ≡ n
  pub new : is_named n names ≡ false

pub new_name_ok : (table : Place) (names : List (List ℕ)) (k : Members) (n : List ℕ)
    → new_name table names k ≡ Ok n → IsNew names k n
new_name_ok table names k n e =
    let b = if_ok _ _ (name_in k) n e in
    record { text = b.1; new = rw (← b.1) (not_false (is_named (name_in k) names) b.0) }
