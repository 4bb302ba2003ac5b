-- A board with one target, to which a block process call may be sent, and with another controller.
use Rattle.std.proofs.Common.{◌≡◌, ◌≢◌, ◌<◌, ◌≤◌, ℕ, zero, suc, true, false, Some, [], ◌∷◌}
use Rattle.std.proofs.Common.{slice_get, slice_index, codes, pos, rules, refl, arith, lit≤, lit<}
use Rattle.std.specs.List.{All, AllPairs, Contains}
use Rattle.std.proofs.lemmas.List.Elements.{All-nil, All-from_recursion}
use Rattle.smbus.specs.declared.message.Form.TheVariants as form
use Rattle.smbus.specs.Asked.{Asked}
use Rattle.smbus.specs.Contenders.{Contender}
use Rattle.pmbus_table.specs.Protect.{is_protection}
use Rattle.board.specs.Boards.{Allow, Target, Rail, Board}
use Rattle.board.specs.Valid.{IsEntry, IsTarget, IsRail, IsBoard, DifferInUse, DifferInPage}
use Rattle.board.specs.Valid.{is_page_value, full_values, full_length, is_foreign_address}
use Rattle.targets.specs.States.{BusState, IsTargetAt, MayStart, IsStart}
use Rattle.targets.specs.SomeAnswer.{IsMessage, SomeCase}
use Rattle.targets.specs.LostAnswers.{MayWin, SomeMayWin}
use Rattle.targets.proofs.StateLawProofs.{starts_belong}

-- a manufacturer command
abbrev call : Allow
call = record {
  form = form.BlockProcessCall;
  code = 0xD0;
  values = full_values form.BlockProcessCall;
  length = full_length;
}

abbrev target : Target
target = record {
  address = 0x40;
  pages = 1;
  exponent = pos 0;
  stretch = 0;
  alerts = true;
  start_pages = 0 ∷ [];
  start_protects = 0 ∷ [];
  allow = call ∷ [];
}

abbrev board : Board
board = record {
  targets = target ∷ [];
  target_names = codes "a" ∷ [];
  rails = [];
  rail_names = [];
  foreign = 0x10 ∷ [];
  foreign_bytes = 1;
  foreign_stretch = 0;
  contentions = 2;
}

abbrev state : BusState
state = record { page = 0 ∷ []; protect = 0 ∷ []; alerting = 0; lost = 0 }

abbrev message : Asked
message = record { address = 0x40; form = form.BlockProcessCall; code = 0xD0; out = 0x01 ∷ [] }

no_pairs : {X : Type 0} (R : X → X → Type 0) (x : X) → AllPairs R (x ∷ [])
no_pairs R x i j d lt few = absurd (omega arith)

no_pairs_none : {X : Type 0} (R : X → X → Type 0) → AllPairs R []
no_pairs_none R i j d lt few = absurd (omega arith)

one : {X : Type 0} (P : X → Type 0) (x : X) → P x → All P (x ∷ [])
one P x p = All-from_recursion P (x ∷ []) (p, tt)

none_there : (d : ℕ) (r : Rail) → slice_get [] d ≡ Some r → ⊥
none_there d r e = cc

is_call : IsEntry call
is_call = record {
  to_target = λ e. cc;
  takes = λ _. refl;
  bare = λ e. cc;
  in_values = record { above = lit≤ tt; nonempty = lit≤ tt; below = lit≤ tt };
  in_length = record { above = lit≤ tt; nonempty = lit≤ tt; below = lit≤ tt };
}

is_target : IsTarget target
is_target = record {
  address = refl;
  one_page = lit≤ tt;
  few_pages = lit≤ tt;
  least_exponent = search rules;
  most_exponent = search rules;
  stretch = lit≤ tt;
  starts_paged = lit< tt;
  start_pages = one (λ v. is_page_value 1 v ≡ true) 0 refl;
  starts_protected = lit< tt;
  start_protects = one (λ v. is_protection v ≡ true) 0 refl;
  entries = one IsEntry call is_call;
  one_entry = no_pairs DifferInUse call;
}

is_board : IsBoard board
is_board = record {
  one_target = lit≤ tt;
  few_targets = lit≤ tt;
  targets = one IsTarget target is_target;
  addresses = λ i j d lt few. absurd (omega arith);
  few_rails = lit≤ tt;
  rails = All-nil (IsRail board);
  one_rail = no_pairs_none DifferInPage;
  no_self_need = λ d r e. absurd (none_there d r e);
  target_names = refl;
  rail_names = refl;
  good_target_names = λ k d lt. let z : k ≡ 0 = omega arith in rw z refl;
  good_rail_names = λ k d lt. absurd (omega arith);
  apart_target_names = λ i j d lt few. absurd (omega arith);
  apart_rail_names = λ i j d lt few. absurd (omega arith);
  few_foreign = lit≤ tt;
  good_foreign = one (λ x. is_foreign_address x ≡ true) 0x10 refl;
  apart_foreign = no_pairs (λ x y. x ≢ y) 0x10;
  no_target =
      one (λ x. All (λ t. t.address ≢ x) (target ∷ [])) 0x10
      (one (λ t. t.address ≢ 0x10) target (λ e. omega arith));
  foreign_bytes = lit≤ tt;
  foreign_stretch = lit≤ tt;
  contentions = lit≤ tt;
}

zeros : Contains {X = ℕ} (0 ∷ []) 0
zeros = (0, lit< tt, refl)

may_start : (i : ℕ) (t : Target) → IsTargetAt board i t
    → MayStart t (slice_index state.page i) (slice_index state.protect i)
may_start zero t at =
    let same : target ≡ t = cc in
    rw (← same) (record { page_listed = zeros; protect_listed = zeros })
may_start (suc i) t at = cc

is_start : IsStart board state
is_start = record { pages = refl; protects = refl; targets = may_start; quiet = refl; fresh = refl }

is_message : IsMessage board message
is_message = record { goes = λ n. refl; counts = (lit< tt, lit< tt, lit≤ tt) }

pub some_case : SomeCase
some_case = record {
  board = board;
  state = state;
  message = message;
  is_board = is_board;
  is_start = is_start;
  belongs = starts_belong board state is_board is_start;
  is_message = is_message;
}

-- another controller writes a byte
abbrev contender : Contender
contender = record { address = 0x10; read = false; bytes = 0x55 ∷ []; holds = [] }

may_win : MayWin board state message contender
may_win = record {
  may = record {
    address = (0, lit< tt, refl);
    bytes = one (λ byte. byte < 256) 0x55 (lit< tt);
    few_bytes = lit≤ tt;
    few_holds = lit≤ tt;
    holds = All-nil (λ hold. hold ≤ 0);
  };
  lower = lit< tt;
  few = lit< tt;
}

pub some_may_win : SomeMayWin
some_may_win = record {
  board = board;
  state = state;
  message = message;
  contender = contender;
  target = target;
  is_board = is_board;
  is_start = is_start;
  is_message = is_message;
  at = refl;
  to = refl;
  may_win = may_win;
}
