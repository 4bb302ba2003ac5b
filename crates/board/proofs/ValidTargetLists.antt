-- The lists of targets that are read.
use Rattle.std.proofs.Common.{◌≡◌, ◌≢◌, ℕ, ◌+◌, ◌<◌, true, false, eqb, List, [], ◌∷◌, length}
use Rattle.std.proofs.Common.{get_or, Ok, refl, ap, subst, arith}
use Rattle.std.specs.List.{All, AllPairs, AllPass}
use Rattle.std.proofs.lemmas.Bool.{eq-eqb}
use Rattle.std.proofs.lemmas.List.{length_push}
use Rattle.std.proofs.lemmas.List.Elements.{All-push}
use Rattle.std.proofs.lemmas.List.Quantifiers.{all_pairs_push}
use Rattle.toml.specs.Data.{Members}
use Rattle.texts.specs.Names.{is_name}
use Rattle.board.specs.Boards.{Target}
use Rattle.board.specs.Named.{Named, is_named, no_named, with_item}
use Rattle.board.specs.Targets.{has_address, target_from, targets_of}
use Rattle.board.specs.Valid.{IsTarget}
use Rattle.board.proofs.Steps.{bind_ok, ok_is}
use Rattle.board.proofs.Apart.{fails_at, names_differ}
use Rattle.board.proofs.ValidTargets.{IsNextTarget, target_ok, all_none}

-- good names, all different, one for each item
pub record AreNamed {A : Type 0} (n : Named A) : Type 0 where
  pub lengths : length n.names ≡ length n.items
  pub good : AllPass is_name n.names
  pub names : AllPairs (λ a b. a ≢ b) n.names

pub no_pairs : {X : Type 0} (R : X → X → Type 0) → AllPairs R []
no_pairs R i j d a b = absurd (omega arith)

pub none_named : {A : Type 0} → AreNamed {A = A} no_named
none_named = record {
  lengths = refl;
  good = all_none (λ x. is_name x ≡ true);
  names = no_pairs (λ a b. a ≢ b);
}

pub more_named : {A : Type 0} (n : Named A) (name : List ℕ) (x : A) → AreNamed n
    → is_name name ≡ true → is_named name n.names ≡ false → AreNamed (with_item name x n)
more_named n name x a good new = record {
  lengths = omega (arith, a.lengths, length_push n.names name, length_push n.items x);
  good = All-push (λ y. is_name y ≡ true) n.names name a.good good;
  names = all_pairs_push (λ y z. y ≢ z) n.names name a.names (names_differ n.names name new);
}

pub record AreTargets (n : Named Target) : Type 0 where
  pub named : AreNamed n
  pub targets : All IsTarget n.items
  pub addresses : AllPairs (λ t u. t.address ≢ u.address) n.items

pub no_targets : AreTargets no_named
no_targets = record {
  named = none_named;
  targets = all_none IsTarget;
  addresses = no_pairs (λ t u. t.address ≢ u.address);
}

addresses_differ : (ts : List Target) (t : Target) → has_address t.address ts ≡ false
    → (k : ℕ) (d : Target) → k < length ts → (get_or ts k d).address ≢ t.address
addresses_differ ts t e k d h s =
    let no = fails_at (λ (u : Target). eqb u.address t.address) ts k d e h in
    let same = eq-eqb (get_or ts k d).address t.address s in
    cc

more_targets : (n : Named Target) (name : List ℕ) (t : Target) → AreTargets n
    → IsNextTarget n name t → AreTargets (with_item name t n)
more_targets n name t a x = record {
  named = more_named n name t a.named x.good x.new;
  targets = All-push IsTarget n.items t a.targets x.target;
  addresses =
      all_pairs_push (λ t u. t.address ≢ u.address) n.items t a.addresses
      (addresses_differ n.items t x.free);
}

pub targets_valid : (done : Named Target) (tables : List Members) (n : Named Target)
    → targets_of done tables ≡ Ok n → AreTargets done → AreTargets n
targets_valid done [] n e a = subst AreTargets (ok_is done n e) a
targets_valid done (ms ∷ tables) n e a =
    let t = bind_ok (target_from (length done.items) done ms) _ n e in
    targets_valid (with_item t.0.0 t.0.1 done) tables n t.2
    (more_targets done t.0.0 t.0.1 a (target_ok (length done.items) done ms t.0 t.1))

pub targets_count : (done : Named Target) (tables : List Members) (n : Named Target)
    → targets_of done tables ≡ Ok n → length n.items ≡ length done.items + length tables
targets_count done [] n e =
    let same = ap (λ (x : Named Target). length x.items) (ok_is done n e) in
    omega (arith, same)
targets_count done (ms ∷ tables) n e =
    let t = bind_ok (target_from (length done.items) done ms) _ n e in
    let rest = targets_count (with_item t.0.0 t.0.1 done) tables n t.2 in
    omega (arith, rest, length_push done.items t.0.1)
