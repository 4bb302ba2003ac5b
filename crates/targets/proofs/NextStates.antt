-- After each answer there is a state: what is stored is written or stays, and who alerts goes on,
-- stops, or begins.
use Rattle.std.proofs.Common.{◌≡◌, ◌≢◌, ◌<◌, ◌+◌, ◌*◌, ◌%◌, ◌^◌, ◌⊎◌, ◌↔◌, inl, inr, ℕ}
use Rattle.std.proofs.Common.{IsTrue, Option, Some, None, IfSome, List, [], ◌∷◌}
use Rattle.std.proofs.Common.{bit_and, bit_or, w16, refl, ap, arith}
use Rattle.std.specs.Int.{bit_not}
use Rattle.std.specs.List.{Contains}
use Rattle.smbus.specs.declared.message.Form.{Form}
use Rattle.smbus.specs.declared.message.Form.TheVariants.{Alert}
use Rattle.smbus.specs.Asked.{Asked}
use Rattle.smbus.specs.Answered.{Answered}
use Rattle.smbus.specs.Winners.{carried}
use Rattle.wires.specs.Bits.{bit}
use Rattle.pmbus_table.specs.Codes.{page_code, write_protect_code}
use Rattle.pmbus_table.specs.Protect.{is_protection}
use Rattle.board.specs.Boards.{Board}
use Rattle.board.specs.Valid.{IsBoard, is_page_value}
use Rattle.targets.specs.States.{BusState, Belongs}
use Rattle.targets.specs.Alerting.{alert_bytes, WinsAlert}
use Rattle.targets.specs.AlertLaws.{SomeWinner, SomeTargetWins, OneTargetWins}
use Rattle.targets.specs.Effects.{StopsAlerting, WritesPage, WritesProtect, IsAfter, lost_after}
use Rattle.targets.specs.Stored.{with_write}
use Rattle.targets.specs.StateLaws.{AnswersHaveStates}
use Rattle.targets.proofs.Bits.{bit_joined, bit_without_left}
use Rattle.targets.proofs.Winner.{nobody_wins, sender_at, few_winners}
use Rattle.targets.proofs.StoredAfter.{stored_after}
use Rattle.targets.proofs.AlertingAfter.{alerting_after}
use Rattle.targets.proofs.WriteChoices.{done_or_not, some_write}

-- the target that stops alerting, or none
record HasStop (b : Board) (s : BusState) (m : Option Asked) (a : Answered) : Type 0 where
  pub stops : Option ℕ
  pub is : IfSome stops (λ i. StopsAlerting b s m a i)
  pub only : (i : ℕ) → StopsAlerting b s m a i → stops ≡ Some i
  pub few : IfSome stops (λ i. i < 16)

no_stop : (b : Board) (s : BusState) (m : Option Asked) (a : Answered)
    → ((i : ℕ) → StopsAlerting b s m a i → ⊥) → HasStop b s m a
no_stop b s m a none =
    record { stops = None; is = tt; only = λ i w. absurd (none i w); few = tt }

is_alert : (f : Form) → (f ≡ Alert) ⊎ (f ≢ Alert)
is_alert Alert = inl refl
is_alert other = inr (λ e. cc)

-- some target wins an alert response, or none does
winner_or_none : SomeTargetWins → (b : Board) (s : BusState) → IsBoard b
    → SomeWinner b s ⊎ ((i : ℕ) → WinsAlert b s i → ⊥)
winner_or_none wins b s is = by (alert_bytes b s) refl
  where
    by : (bytes : List ℕ) → alert_bytes b s ≡ bytes
        → SomeWinner b s ⊎ ((i : ℕ) → WinsAlert b s i → ⊥)
    by [] none = inr (nobody_wins b s none)
    by (x ∷ bytes) some =
        let first : Contains (alert_bytes b s) x = rw some (0, omega arith, refl) in
        let r = sender_at b s x first in
        let n : 0 + r.index ≡ r.index = omega arith in
        inl (wins b s r.index r.target is r.at (rw n at r.alerts))

sent_stop : SomeTargetWins → OneTargetWins → (b : Board) (s : BusState) (m : Asked) (a : Answered)
    → IsBoard b → HasStop b s (Some m) a
sent_stop wins one b s m a is = elim (is_alert m.form) [
  | inr other ↦ no_stop b s (Some m) a (λ i w.
      let same : m ≡ w.asked = let e = w.sent in cc in other (rw same w.is_response))
  | inl response ↦ elim (done_or_not m a) [
    | inr undone ↦ no_stop b s (Some m) a (λ i w.
        let same : m ≡ w.asked = let e = w.sent in cc in undone (rw same w.is_done))
    | inl done ↦ elim (winner_or_none wins b s is) [
      | inr none ↦ no_stop b s (Some m) a (λ i w. none i w.wins)
      | inl winner ↦ record {
        stops = Some winner.index;
        is =
            record {
              asked = m;
              sent = refl;
              is_response = response;
              is_done = done;
              wins = winner.wins;
            };
        only = λ i w. ap Some (one b s winner.index i is winner.wins w.wins);
        few = few_winners b s (Some winner.index) is winner.wins;
      }
    ]
  ]
]

some_stop : SomeTargetWins → OneTargetWins → (b : Board) (s : BusState) (m : Option Asked)
    (a : Answered)
    → IsBoard b → HasStop b s m a
some_stop wins one b s None a is = no_stop b s None a (λ i w. let e = w.sent in cc)
some_stop wins one b s (Some m) a is = sent_stop wins one b s m a is

-- who goes on
abbrev kept : Option ℕ → ℕ → ℕ
kept None n = n
kept (Some k) n = bit_and n (bit_not w16 (1 * 2 ^ k % 2 ^ 16))

kept_bits : (stops : Option ℕ) (n : ℕ) → IfSome stops (λ k. k < 16)
    → ((i : ℕ) → IsTrue (bit n i) → i < 16)
    → (i : ℕ) → IsTrue (bit (kept stops n) i) ↔ (IsTrue (bit n i) × (stops ≢ Some i))
kept_bits None n few low i = (λ t. (t, λ e. cc), λ both. both.0)
kept_bits (Some k) n few low i = bit_without_left n k few low i

-- after what the wire carries, whatever is lost
record HasTargetsAfter (b : Board) (s : BusState) (m : Option Asked) (a : Answered)
    (lost : ℕ) : Type 0 where
  pub state : BusState
  pub after : IsAfter b s m a state
  pub counts : state.lost ≡ lost

targets_after : SomeTargetWins → OneTargetWins → (b : Board) (s : BusState) (m : Option Asked)
    (a : Answered) (lost : ℕ) → IsBoard b → Belongs b s → HasTargetsAfter b s m a lost
targets_after wins one b s m a lost is belongs =
    let page = some_write page_code (λ t v. is_page_value t.pages v) b s m a is in
    let protect = some_write write_protect_code (λ t v. is_protection v) b s m a is in
    let stop = some_stop wins one b s m a is in
    let pages = stored_after (WritesPage b s m a) s.page s.page
    (with_write page.write s.page) page.write refl refl page.is page.only in
    let protects = stored_after (WritesProtect b s m a) s.protect s.protect
    (with_write protect.write s.protect) protect.write refl refl protect.is protect.only in
    let few : (i : ℕ) → IsTrue (bit s.alerting i) → i < 16 =
    λ i t. let lt = belongs.alerting i t in let le = is.few_targets in omega arith in
    record {
      state =
          record {
            page = with_write page.write s.page;
            protect = with_write protect.write s.protect;
            alerting = bit_or a.alerts (kept stop.stops s.alerting);
            lost = lost;
          };
      after =
          record {
            pages = pages.long;
            protects = protects.long;
            page = pages.each;
            protect = protects.each;
            alerting =
                alerting_after b s m a stop.stops (kept stop.stops s.alerting)
                (bit_or a.alerts (kept stop.stops s.alerting)) stop.is stop.only
                (kept_bits stop.stops s.alerting stop.few few)
                (bit_joined a.alerts (kept stop.stops s.alerting));
          };
      counts = refl;
    }

pub answers_have_states : SomeTargetWins → OneTargetWins → AnswersHaveStates
answers_have_states wins one b s m a is belongs =
    let t = targets_after wins one b s (carried m a) a (lost_after m a s.lost) is belongs in
    record { state = t.state; after = record { targets = t.after; lost = t.counts } }
