-- Two small boards: one of a single target with one entry, and one of two targets whose rails need
-- one another.
use Rattle.std.proofs.Common.{◌≡◌, ◌≢◌, ◌<◌, ℕ, zero, suc, Bool, true, false, Some, List, []}
use Rattle.std.proofs.Common.{◌∷◌, slice_get, slice_index, IsTrue, pos, rules, refl, sym}
use Rattle.std.proofs.Common.{ap}
use Rattle.std.proofs.Common.{arith, lit≤, lit<, if◌then◌else◌}
use Rattle.std.specs.List.{All, AllPairs, Contains}
use Rattle.std.proofs.lemmas.List.Elements.{All-nil, All-from_recursion}
use Rattle.texts.specs.Names.{is_name}
use Rattle.smbus.specs.declared.message.Form.{Form}
use Rattle.smbus.specs.declared.message.Form.TheVariants as form
use Rattle.smbus.specs.FormWords.{carries_code}
use Rattle.pmbus_table.specs.Codes.{operation_code, status_word_code}
use Rattle.pmbus_table.specs.Commands.{takes_form}
use Rattle.pmbus_table.specs.Protect.{is_protection}
use Rattle.pmbus_table.specs.Table.{table}
use Rattle.board.specs.Boards.{Allow, Target, Rail, Board}
use Rattle.board.specs.Valid.{IsEntry, IsTarget, IsRail, IsBoard, DifferInUse, DifferInPage}
use Rattle.board.specs.Valid.{is_target_address, is_foreign_address, is_page_value, full_values}
use Rattle.board.specs.Valid.{full_length}
use Rattle.targets.specs.States.{BusState, IsStart, IsTargetAt, MayStart}

-- ---- lists of one and of two

pub one : {X : Type 0} (P : X → Type 0) (x : X) → P x → All P (x ∷ [])
one P x p = All-from_recursion P (x ∷ []) (p, tt)

two : {X : Type 0} (P : X → Type 0) (x y : X) → P x → P y → All P (x ∷ y ∷ [])
two P x y p q = All-from_recursion P (x ∷ y ∷ []) (p, (q, tt))

no_pair : {X : Type 0} (R : X → X → Type 0) (x : X) → AllPairs R (x ∷ [])
no_pair R x i j d lt few = absurd (omega (arith, lt, few))

-- the first of two is before the second
pair : {X : Type 0} (R : X → X → Type 0) (x y : X) → R x y → AllPairs R (x ∷ y ∷ [])
pair R x y r zero zero d lt few = absurd (omega (arith, lt))
pair R x y r zero (suc zero) d lt few = r
pair R x y r zero (suc (suc j)) d lt few = absurd (omega (arith, few))
pair R x y r (suc i) zero d lt few = absurd (omega (arith, lt))
pair R x y r (suc i) (suc zero) d lt few = absurd (omega (arith, lt))
pair R x y r (suc i) (suc (suc j)) d lt few = absurd (omega (arith, few))

-- ---- entries and targets

abbrev pub entry : Form → ℕ → Allow
entry f code = record { form = f; code = code; values = full_values f; length = full_length }

pub is_entry : (f : Form) (code : ℕ) → f ≢ form.Alert → IsTrue (carries_code f)
    → IsTrue (takes_form code f) → IsEntry (entry f code)
is_entry f code other carries takes = record {
  to_target = other;
  takes = λ _. takes;
  bare = λ none. let bad : carries_code f ≡ true = carries in cc;
  in_values = record { above = omega arith; nonempty = omega arith; below = omega arith };
  in_length = record { above = lit≤ tt; nonempty = lit≤ tt; below = lit≤ tt };
}

-- one page, and one start value of each
abbrev pub target : ℕ → ℕ → List Allow → Target
target address protect allow = record {
  address = address;
  pages = 1;
  exponent = pos 0;
  stretch = 0;
  alerts = false;
  start_pages = 0 ∷ [];
  start_protects = protect ∷ [];
  allow = allow;
}

is_target : (address protect : ℕ) (allow : List Allow) → IsTrue (is_target_address address)
    → is_protection protect ≡ true → All IsEntry allow → AllPairs DifferInUse allow
    → IsTarget (target address protect allow)
is_target address protect allow free valid entries apart = record {
  address = free;
  one_page = lit≤ tt;
  few_pages = lit≤ tt;
  least_exponent = search rules;
  most_exponent = search rules;
  stretch = lit≤ tt;
  starts_paged = lit< tt;
  start_pages = one (λ v. is_page_value 1 v ≡ true) 0 refl;
  starts_protected = lit< tt;
  start_protects = one (λ v. is_protection v ≡ true) protect valid;
  entries = entries;
  one_entry = apart;
}

may_start : (address protect : ℕ) (allow : List Allow)
    → MayStart (target address protect allow) 0 protect
may_start address protect allow = record {
  page_listed = (0, lit< tt, refl);
  protect_listed = (0, lit< tt, refl);
}

only_value : (x y : ℕ) → Contains (x ∷ []) y → y ≡ x
only_value x y (zero, lt, same) = sym same
only_value x y (suc k, lt, same) = absurd (omega (arith, lt))

-- what every start stores is the target's one value
pub stored_so : (b : Board) (s : BusState) (i address protect : ℕ) (allow : List Allow)
    → IsTargetAt b i (target address protect allow) → IsStart b s
    → slice_index s.protect i ≡ protect
stored_so b s i address protect allow at starts =
    let t = target address protect allow in
    only_value protect (slice_index s.protect i) (starts.targets i t at).protect_listed

-- ---- one target, and a rail of a microvolt if it has one

abbrev a_name : List ℕ
a_name = 97 ∷ []

abbrev b_name : List ℕ
b_name = 98 ∷ []

abbrev pub small_rail : Rail
small_rail = record { target = 0; page = 0; limit_uv = 1; needs = [] }

abbrev pub lone_target : ℕ → Allow → Target
lone_target protect a = target 0x40 protect (a ∷ [])

abbrev pub lone : ℕ → Allow → Bool → Board
lone protect a railed = record {
  targets = lone_target protect a ∷ [];
  target_names = a_name ∷ [];
  rails = if railed then small_rail ∷ [] else [];
  rail_names = if railed then a_name ∷ [] else [];
  foreign = [];
  foreign_bytes = 0;
  foreign_stretch = 0;
  contentions = 0;
}

pub its_rail : (d : ℕ) (r : Rail) → slice_get (small_rail ∷ []) d ≡ Some r → r ≡ small_rail
its_rail zero r at = let two : Some small_rail ≡ Some r = at in cc
its_rail (suc d) r at = cc

abbrev pub lone_state : ℕ → BusState
lone_state protect = record { page = 0 ∷ []; protect = protect ∷ []; alerting = 0; lost = 0 }

pub lone_start : (protect : ℕ) (a : Allow) (railed : Bool)
    → IsStart (lone protect a railed) (lone_state protect)
lone_start protect a railed =
    record { pages = refl; protects = refl; targets = starts; quiet = refl; fresh = refl }
  where
    starts : (i : ℕ) (t : Target) → slice_get (lone_target protect a ∷ []) i ≡ Some t
        → MayStart t (slice_index (0 ∷ []) i) (slice_index (protect ∷ []) i)
    starts zero t at =
        let same : lone_target protect a ≡ t =
        let two : Some (lone_target protect a) ≡ Some t = at in cc in
        rw (← same) (may_start 0x40 protect (a ∷ []))
    starts (suc i) t at = cc

pub is_lone : (protect : ℕ) (a : Allow) (railed : Bool) → is_protection protect ≡ true → IsEntry a
    → IsBoard (lone protect a railed)
is_lone protect a railed valid is = by railed
  where
    t : Target
    t = lone_target protect a

    good : IsTarget t
    good = is_target 0x40 protect (a ∷ []) refl valid (one IsEntry a is) (no_pair DifferInUse a)

    by : (railed : Bool) → IsBoard (lone protect a railed)
    by false = record {
      one_target = lit≤ tt;
      few_targets = lit≤ tt;
      targets = one IsTarget t good;
      addresses = no_pair (λ (u v : Target). u.address ≢ v.address) t;
      few_rails = lit≤ tt;
      rails = All-nil (IsRail (lone protect a false));
      one_rail = λ i j d lt few. absurd (omega (arith, few));
      no_self_need = λ d r at. cc;
      target_names = refl;
      rail_names = refl;
      good_target_names = one (λ n. is_name n ≡ true) a_name refl;
      good_rail_names = All-nil (λ (n : List ℕ). is_name n ≡ true);
      apart_target_names = no_pair (λ (m n : List ℕ). m ≢ n) a_name;
      apart_rail_names = λ i j d lt few. absurd (omega (arith, few));
      few_foreign = lit≤ tt;
      good_foreign = All-nil (λ address. is_foreign_address address ≡ true);
      apart_foreign = λ i j d lt few. absurd (omega (arith, few));
      no_target = All-nil (λ (x : ℕ). All (λ (u : Target). u.address ≢ x) (t ∷ []));
      foreign_bytes = lit≤ tt;
      foreign_stretch = lit≤ tt;
      contentions = lit≤ tt;
    }
    by true = record {
      one_target = lit≤ tt;
      few_targets = lit≤ tt;
      targets = one IsTarget t good;
      addresses = no_pair (λ (u v : Target). u.address ≢ v.address) t;
      few_rails = lit≤ tt;
      rails = one (IsRail (lone protect a true)) small_rail (record {
        on_page = (t, record { target = refl; page = lit< tt });
        least_limit = lit≤ tt;
        most_limit = lit≤ tt;
        needs = All-nil (λ n. n < 1);
      });
      one_rail = no_pair DifferInPage small_rail;
      no_self_need = λ d r at. rw (its_rail d r at) (All-nil (λ n. n ≢ d));
      target_names = refl;
      rail_names = refl;
      good_target_names = one (λ n. is_name n ≡ true) a_name refl;
      good_rail_names = one (λ n. is_name n ≡ true) a_name refl;
      apart_target_names = no_pair (λ (m n : List ℕ). m ≢ n) a_name;
      apart_rail_names = no_pair (λ (m n : List ℕ). m ≢ n) a_name;
      few_foreign = lit≤ tt;
      good_foreign = All-nil (λ address. is_foreign_address address ≡ true);
      apart_foreign = λ i j d lt few. absurd (omega (arith, few));
      no_target = All-nil (λ (x : ℕ). All (λ (u : Target). u.address ≢ x) (t ∷ []));
      foreign_bytes = lit≤ tt;
      foreign_stretch = lit≤ tt;
      contentions = lit≤ tt;
    }

-- ---- two targets, whose rails may be asked, turned off and turned on: the first needs the second,
-- which reports good alone

abbrev pub status_entry : Allow
status_entry = record {
  form = form.ReadWord;
  code = status_word_code;
  values = record { low = 0; high = 0 };
  length = full_length;
}

abbrev pub both : List Allow
both = status_entry ∷ entry form.WriteByte operation_code ∷ []

abbrev pub first_target : Target
first_target = target 0x40 0 both

abbrev pub second_target : Target
second_target = target 0x41 0 both

abbrev pub upper : Rail
upper = record { target = 0; page = 0; limit_uv = 1; needs = 1 ∷ [] }

abbrev pub lower : Rail
lower = record { target = 1; page = 0; limit_uv = 1; needs = [] }

abbrev pub needing : Board
needing = record {
  targets = first_target ∷ second_target ∷ [];
  target_names = a_name ∷ b_name ∷ [];
  rails = upper ∷ lower ∷ [];
  rail_names = a_name ∷ b_name ∷ [];
  foreign = [];
  foreign_bytes = 0;
  foreign_stretch = 0;
  contentions = 0;
}

abbrev pub needing_state : BusState
needing_state = record { page = 0 ∷ 0 ∷ []; protect = 0 ∷ 0 ∷ []; alerting = 0; lost = 0 }

pub needing_start : IsStart needing needing_state
needing_start =
    record { pages = refl; protects = refl; targets = starts; quiet = refl; fresh = refl }
  where
    starts : (i : ℕ) (t : Target) → slice_get (first_target ∷ second_target ∷ []) i ≡ Some t
        → MayStart t (slice_index (0 ∷ 0 ∷ []) i) (slice_index (0 ∷ 0 ∷ []) i)
    starts zero t at =
        let same : first_target ≡ t = let two : Some first_target ≡ Some t = at in cc in
        rw (← same) (may_start 0x40 0 both)
    starts (suc zero) t at =
        let same : second_target ≡ t = let two : Some second_target ≡ Some t = at in cc in
        rw (← same) (may_start 0x41 0 both)
    starts (suc (suc i)) t at = cc

entries : All IsEntry both
unfolding table
entries =
    two IsEntry status_entry (entry form.WriteByte operation_code)
    (record {
      to_target = λ e. cc;
      takes = λ _. refl;
      bare = λ e. cc;
      in_values = record { above = lit≤ tt; nonempty = lit≤ tt; below = lit≤ tt };
      in_length = record { above = lit≤ tt; nonempty = lit≤ tt; below = lit≤ tt };
    })
    (is_entry form.WriteByte operation_code (λ e. cc) refl refl)

on_both : (address : ℕ) → IsTrue (is_target_address address) → IsTarget (target address 0 both)
on_both address free =
    is_target address 0 both free refl entries
    (pair DifferInUse status_entry (entry form.WriteByte operation_code) (λ same. cc))

no_self_need : (d : ℕ) (r : Rail) → slice_get (upper ∷ lower ∷ []) d ≡ Some r
    → All (λ n. n ≢ d) r.needs
no_self_need zero r at =
    let same : upper ≡ r = let two : Some upper ≡ Some r = at in cc in
    rw (← same) (one (λ n. n ≢ 0) 1 (λ e. cc))
no_self_need (suc zero) r at =
    let same : lower ≡ r = let two : Some lower ≡ Some r = at in cc in
    rw (← same) (All-nil (λ n. n ≢ 1))
no_self_need (suc (suc d)) r at = cc

differ : a_name ≢ b_name
differ e =
    let n : slice_index a_name 0 ≡ slice_index b_name 0 =
    ap (λ (xs : List ℕ). slice_index xs 0) e in
    omega (arith, n)

pub is_needing : IsBoard needing
is_needing = record {
  one_target = lit≤ tt;
  few_targets = lit≤ tt;
  targets = two IsTarget first_target second_target (on_both 0x40 refl) (on_both 0x41 refl);
  addresses =
      pair (λ (t u : Target). t.address ≢ u.address) first_target second_target
      (λ e. let n : 0x40 ≡ 0x41 = e in omega (arith, n));
  few_rails = lit≤ tt;
  rails =
      two (IsRail needing) upper lower
      (record {
        on_page = (first_target, record { target = refl; page = lit< tt });
        least_limit = lit≤ tt;
        most_limit = lit≤ tt;
        needs = one (λ n. n < 2) 1 (lit< tt);
      })
      (record {
        on_page = (second_target, record { target = refl; page = lit< tt });
        least_limit = lit≤ tt;
        most_limit = lit≤ tt;
        needs = All-nil (λ n. n < 2);
      });
  one_rail = pair DifferInPage upper lower (λ same. cc);
  no_self_need = no_self_need;
  target_names = refl;
  rail_names = refl;
  good_target_names = two (λ n. is_name n ≡ true) a_name b_name refl refl;
  good_rail_names = two (λ n. is_name n ≡ true) a_name b_name refl refl;
  apart_target_names = pair (λ (m n : List ℕ). m ≢ n) a_name b_name differ;
  apart_rail_names = pair (λ (m n : List ℕ). m ≢ n) a_name b_name differ;
  few_foreign = lit≤ tt;
  good_foreign = All-nil (λ address. is_foreign_address address ≡ true);
  apart_foreign = λ i j d lt few. absurd (omega (arith, few));
  no_target =
      All-nil (λ (x : ℕ). All (λ (u : Target). u.address ≢ x) (first_target ∷ second_target ∷ []));
  foreign_bytes = lit≤ tt;
  foreign_stretch = lit≤ tt;
  contentions = lit≤ tt;
}
