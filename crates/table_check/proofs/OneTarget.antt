-- A board with one target, on which two arbitrations may be lost.
use Rattle.std.proofs.Common.{◌≡◌, ◌≢◌, ℕ, zero, suc, true, [], ◌∷◌, codes, rules, refl, subst}
use Rattle.std.proofs.Common.{arith, lit≤, lit<}
use Rattle.std.specs.List.{All, AllPairs}
use Rattle.std.proofs.lemmas.List.Elements.{All-nil, All-from_recursion}
use Rattle.pmbus_table.specs.Protect.{is_protection}
use Rattle.board.specs.Boards.{Target, Board}
use Rattle.board.specs.Valid.{IsEntry, IsTarget, IsRail, IsBoard, DifferInUse, DifferInPage}
use Rattle.board.specs.Valid.{is_page_value, is_foreign_address}
use Rattle.targets.specs.States.{IsTargetAt}
use Rattle.table_check.specs.checker.SmallTables.{small_target}
use Rattle.table_check.proofs.Places.{some_same, none_some}

abbrev pub target : Target
target = record (small_target 0x40) { allow = [] }

abbrev pub board : Board
board = record {
  targets = target ∷ [];
  target_names = codes "a" ∷ [];
  rails = [];
  rail_names = [];
  foreign = 0x10 ∷ [];
  foreign_bytes = 2;
  foreign_stretch = 0;
  contentions = 2;
}

no_pairs : {X : Type 0} (R : X → X → Type 0) → AllPairs R []
no_pairs R i j d lt few = absurd (omega arith)

pub alone : {X : Type 0} (P : X → Type 0) (x : X) → P x → All P (x ∷ [])
alone P x p = All-from_recursion P (x ∷ []) (p, tt)

is_target : IsTarget target
is_target = record {
  address = refl;
  one_page = lit≤ tt;
  few_pages = lit≤ tt;
  least_exponent = search rules;
  most_exponent = search rules;
  stretch = lit≤ tt;
  starts_paged = lit< tt;
  start_pages = alone (λ v. is_page_value 1 v ≡ true) 0 refl;
  starts_protected = lit< tt;
  start_protects = alone (λ v. is_protection v ≡ true) 0 refl;
  entries = All-nil IsEntry;
  one_entry = no_pairs DifferInUse;
}

pub is_board : IsBoard board
is_board = record {
  one_target = lit≤ tt;
  few_targets = lit≤ tt;
  targets = alone IsTarget target is_target;
  addresses = λ i j d lt few. absurd (omega arith);
  few_rails = lit≤ tt;
  rails = All-nil (IsRail board);
  one_rail = no_pairs DifferInPage;
  no_self_need = λ d r e. absurd (none_some r e);
  target_names = refl;
  rail_names = refl;
  good_target_names = λ k d lt. let z : k ≡ 0 = omega arith in rw z refl;
  good_rail_names = λ k d lt. absurd (omega arith);
  apart_target_names = λ i j d lt few. absurd (omega arith);
  apart_rail_names = λ i j d lt few. absurd (omega arith);
  few_foreign = lit≤ tt;
  good_foreign = alone (λ x. is_foreign_address x ≡ true) 0x10 refl;
  apart_foreign = λ i j d lt few. absurd (omega arith);
  no_target =
      alone (λ x. All (λ t. t.address ≢ x) (target ∷ [])) 0x10
      (alone (λ t. t.address ≢ 0x10) target (λ e. omega arith));
  foreign_bytes = lit≤ tt;
  foreign_stretch = lit≤ tt;
  contentions = lit≤ tt;
}

-- what holds of the target
pub the_target : (P : ℕ → Target → Type 0) → P 0 target → (i : ℕ) (t : Target)
    → IsTargetAt board i t → P i t
the_target P p zero t at = subst (P 0) (some_same target t at) p
the_target P p (suc i) t at = absurd (none_some t at)
