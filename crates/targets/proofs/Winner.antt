-- The targets that alert are those whose bytes are sent, and the winner is the target of the wire's
-- byte.
use Rattle.std.proofs.Common.{◌≡◌, ◌<◌, ◌≤◌, ◌+◌, ◌*◌, ◌/◌, ◌⊎◌, ℕ, zero, suc, true, Option, Some}
use Rattle.std.proofs.Common.{None, IfSome, List, [], ◌∷◌, length, slice_get, refl, sym, ap, ◌∙◌}
use Rattle.std.proofs.Common.{inl, inr, arith}
use Rattle.std.specs.List.{Contains}
use Rattle.std.proofs.lemmas.Bool.{cases_Bool}
use Rattle.wires.specs.Bits.{bit}
use Rattle.wires.specs.Arbitration.{wire_byte}
use Rattle.wires.specs.ArbitrationLaws.{LeastByteWins}
use Rattle.board.specs.Boards.{Target, Board, place_of_address}
use Rattle.board.specs.Valid.{IsBoard}
use Rattle.targets.specs.States.{BusState, IsTargetAt, Alerts}
use Rattle.targets.specs.Alerting.{address_byte, alert_bytes, WinsAlert}
use Rattle.targets.specs.AlertLaws.{SomeTargetWins, OneTargetWins, LowestAddressWins}
use Rattle.targets.proofs.AlertBytes.{bytes_from, wire_lowest}
use Rattle.targets.proofs.Addresses.{place_found, place_not_found, only_one}

-- a target that alerts and sends x, of targets numbered from i on
pub record Sender (s : BusState) (i : ℕ) (ts : List Target) (x : ℕ) : Type 0 where
  pub index : ℕ
  pub target : Target
  pub at : slice_get ts index ≡ Some target
  pub alerts : bit s.alerting (i + index) ≡ true
  pub sends : address_byte target ≡ x

next_sender : (s : BusState) (i : ℕ) (t : Target) (ts : List Target) (x : ℕ) → Sender s (i + 1) ts x
    → Sender s i (t ∷ ts) x
next_sender s i t ts x r =
    let n : i + suc r.index ≡ i + 1 + r.index = omega arith in
    record {
      index = suc r.index;
      target = r.target;
      at = r.at;
      alerts = rw n r.alerts;
      sends = r.sends;
    }

first_sender : (s : BusState) (i : ℕ) (t : Target) (ts : List Target) (x : ℕ)
    → bit s.alerting i ≡ true → address_byte t ≡ x → Sender s i (t ∷ ts) x
first_sender s i t ts x h e =
    let n : i + 0 ≡ i = omega arith in
    record { index = 0; target = t; at = refl; alerts = rw n h; sends = e }

in_cons : (y x : ℕ) (ys : List ℕ) → Contains (y ∷ ys) x → (y ≡ x) ⊎ Contains ys x
in_cons y x ys (zero, lt, e) = inl e
in_cons y x ys (suc k, lt, e) = inr (k, omega arith, e)

sender_of : (s : BusState) (i : ℕ) (ts : List Target) (x : ℕ) → Contains (bytes_from s i ts) x
    → Sender s i ts x
sender_of s i [] x c = absurd (omega (arith, c.1))
sender_of s i (t ∷ ts) x c = elim (cases_Bool (bit s.alerting i)) [
  | inl h ↦ elim (in_cons (address_byte t) x (bytes_from s (i + 1) ts) (rw h at c)) [
    | inl e ↦ first_sender s i t ts x h e
    | inr later ↦ next_sender s i t ts x (sender_of s (i + 1) ts x later)
  ]
  | inr h ↦ next_sender s i t ts x (sender_of s (i + 1) ts x (rw h at c))
]

more : (y x : ℕ) (ys : List ℕ) → Contains ys x → Contains (y ∷ ys) x
more y x ys (k, lt, e) = (suc k, omega arith, e)

pub sent_by : (s : BusState) (i : ℕ) (ts : List Target) (k : ℕ) (t : Target)
    → slice_get ts k ≡ Some t → bit s.alerting (i + k) ≡ true
    → Contains (bytes_from s i ts) (address_byte t)
sent_by s i [] k t at h = cc
sent_by s i (u ∷ ts) zero t at h =
    let n : i + 0 ≡ i = omega arith in
    let same : u ≡ t = cc in
    let h' : bit s.alerting i ≡ true = rw n at h in
    rw h' (0, omega arith, ap address_byte same)
sent_by s i (u ∷ ts) (suc k) t at h =
    let n : i + suc k ≡ i + 1 + k = omega arith in
    let r = sent_by s (i + 1) ts k t at (rw n at h) in
    elim (cases_Bool (bit s.alerting i)) [
      | inl e ↦ rw e (more (address_byte u) (address_byte t) (bytes_from s (i + 1) ts) r)
      | inr e ↦ rw e r
    ]

-- a target that alerts sends its byte
pub alerter_sends : (b : Board) (s : BusState) (i : ℕ) (t : Target) → IsTargetAt b i t → Alerts s i
    → Contains (alert_bytes b s) (address_byte t)
unfolding alert_bytes
alerter_sends b s i t at h =
    let n : 0 + i ≡ i = omega arith in
    sent_by s 0 b.targets i t at (rw n h)

pub nobody_wins : (b : Board) (s : BusState) → alert_bytes b s ≡ [] → (i : ℕ) → WinsAlert b s i → ⊥
nobody_wins b s none i w =
    let c = alerter_sends b s i w.target w.at w.alerts in
    let few = ap length none in
    omega (arith, c.1)

pub sender_at : (b : Board) (s : BusState) (x : ℕ) → Contains (alert_bytes b s) x
    → Sender s 0 b.targets x
unfolding alert_bytes
sender_at b s x c = sender_of s 0 b.targets x c

half : (a x : ℕ) → 2 * a ≡ x → a ≡ x / 2
half a x e = omega arith

-- the target of the wire's byte wins
pub place_wins : (b : Board) (s : BusState) (byte : ℕ) (place : Option ℕ) → IsBoard b
    → byte ≡ wire_byte (alert_bytes b s) → Contains (alert_bytes b s) byte
    → place_of_address (byte / 2) b.targets ≡ place → IfSome place (λ i. WinsAlert b s i)
place_wins b s byte None is wire sent e = tt
place_wins b s byte (Some j) is wire sent e =
    let x = sender_at b s byte sent in
    let f = place_found (byte / 2) j b.targets e in
    let twice : 2 * x.target.address ≡ byte = x.sends in
    let same : x.index ≡ j =
    only_one b is x.index j x.target f.0 x.at f.1 (half x.target.address byte twice ∙ sym f.2) in
    let n : 0 + x.index ≡ j = omega arith in
    let u : x.target ≡ f.0 =
    let q : Some x.target ≡ Some f.0 = sym x.at ∙ (ap (slice_get b.targets) same ∙ f.1) in cc in
    record {
      target = f.0;
      at = f.1;
      alerts = rw n at x.alerts;
      sent = ap address_byte (sym u) ∙ (x.sends ∙ wire);
    }

-- and no other target does
pub place_only : (b : Board) (s : BusState) (byte : ℕ) (place : Option ℕ) → IsBoard b
    → byte ≡ wire_byte (alert_bytes b s)
    → place_of_address (byte / 2) b.targets ≡ place → (i : ℕ) → WinsAlert b s i → place ≡ Some i
place_only b s byte None is wire e i w =
    let twice : 2 * w.target.address ≡ byte = w.sent ∙ sym wire in
    absurd
    (place_not_found (byte / 2) b.targets e i w.target w.at (half w.target.address byte twice))
place_only b s byte (Some j) is wire e i w =
    let twice : 2 * w.target.address ≡ byte = w.sent ∙ sym wire in
    let f = place_found (byte / 2) j b.targets e in
    ap Some (only_one b is j i f.0 w.target f.1 w.at (f.2 ∙ sym (half w.target.address byte twice)))

there : {X : Type 0} (xs : List X) (i : ℕ) (x : X) → slice_get xs i ≡ Some x → i < length xs
there [] i x e = cc
there (y ∷ xs) zero x e = omega arith
there (y ∷ xs) (suc i) x e = let h = there xs i x e in omega arith

pub few_winners : (b : Board) (s : BusState) (winner : Option ℕ) → IsBoard b
    → IfSome winner (λ i. WinsAlert b s i) → IfSome winner (λ i. i < 16)
few_winners b s None is w = tt
few_winners b s (Some i) is w =
    let lt = there b.targets i w.target w.at in
    let few = is.few_targets in
    omega arith

same_target : (b : Board) (i : ℕ) (t u : Target) → IsTargetAt b i t → IsTargetAt b i u → t ≡ u
same_target b i t u ti ui = let e : Some t ≡ Some u = sym ti ∙ ui in cc

pub some_target_wins : LeastByteWins → SomeTargetWins
some_target_wins wins b s i t is at alerts =
    let w = wire_lowest wins b s (address_byte t) is (alerter_sends b s i t at alerts) in
    let x = sender_at b s (wire_byte (alert_bytes b s)) w.1 in
    let n : 0 + x.index ≡ x.index = omega arith in
    record {
      index = x.index;
      wins = record { target = x.target; at = x.at; alerts = rw n at x.alerts; sent = x.sends };
    }

pub one_target_wins : OneTargetWins
one_target_wins b s i j is wi wj =
    let twice : 2 * wi.target.address ≡ 2 * wj.target.address = wi.sent ∙ sym wj.sent in
    only_one b is i j wi.target wj.target wi.at wj.at (omega arith)

pub lowest_address_wins : LeastByteWins → LowestAddressWins
lowest_address_wins wins b s i j t u is wi ti uj alerts =
    let w = wire_lowest wins b s (address_byte u) is (alerter_sends b s j u uj alerts) in
    let le : wire_byte (alert_bytes b s) ≤ 2 * u.address = w.0 in
    let sent : 2 * wi.target.address ≡ wire_byte (alert_bytes b s) = wi.sent in
    let same = ap (λ (t : Target). t.address) (same_target b i t wi.target ti wi.at) in
    omega arith
