-- What a rail's last report is after a step.
use Rattle.std.proofs.Common.{◌≡◌, ◌∙◌, ◌∷◌, ℕ, Bool, true, false, not, Some}
use Rattle.std.proofs.Common.{inl, inr, refl, sym, subst}
use Rattle.std.specs.Prelude.{IsTrue, ◌↔◌}
use Rattle.smbus.specs.Asked.{Asked}
use Rattle.smbus.specs.Answered.{Answered}
use Rattle.pmbus_table.specs.Status.{reported_good}
use Rattle.board.specs.Boards.{Board}
use Rattle.targets.specs.States.{BusState}
use Rattle.simulator.specs.Reports.{Withdraws, LastReport, IsReportedGood}
use Rattle.simulator.specs.StepDoes.{MessageReports, MessageWithdraws}
use Rattle.run_monitor.specs.Telling.{TellsAfter}

both : (x : Bool) → IsTrue x → IsTrue (not x) → ⊥
both true t n = absurd (cc n)
both false t n = absurd (cc t)

is_not : (x : Bool) → (IsTrue x → ⊥) → IsTrue (not x)
is_not true never = absurd (never refl)
is_not false never = refl

-- a step reports one word at most
one_word : (b : Board) (s : BusState) (d v w : ℕ) (m : Asked) (a : Answered)
    → MessageReports b s d v (Some m) a → MessageReports b s d w (Some m) a → v ≡ w
one_word b s d v w m a x y = sym x.reports.read.returns ∙ y.reports.read.returns

pub reports_it : (b : Board) (s : BusState) (d w : ℕ) (m : Asked) (a : Answered) (was now : Bool)
    → MessageReports b s d w (Some m) a → now ≡ reported_good w
    → TellsAfter b s (Some m) a d was now
reports_it b s d w m a was now told is history e does before = (to, from)
  where
    to : IsTrue now → IsReportedGood b (e ∷ history) d
    to t = record {
      word = w;
      last = inl ((does.reports d w).1 told);
      good = subst IsTrue is t;
    }

    by : (word : ℕ) → LastReport b (e ∷ history) d word → word ≡ w
    by word (inl here) = one_word b s d word w m a ((does.reports d word).0 here) told
    by word (inr k) = absurd (k.0 w ((does.reports d w).1 told))

    from : IsReportedGood b (e ∷ history) d → IsTrue now
    from k = subst IsTrue (sym is)
        (subst (λ x. IsTrue (reported_good x)) (by k.word k.last) k.good)

pub says_nothing : (b : Board) (s : BusState) (d : ℕ) (m : Asked) (a : Answered) (gone : Bool)
    → ((w : ℕ) → MessageReports b s d w (Some m) a → ⊥)
    → IsTrue gone ↔ MessageWithdraws b s d (Some m) a
    → TellsAfter b s (Some m) a d true (not gone)
says_nothing b s d m a gone none off history e does before = (to, from)
  where
    to : IsTrue (not gone) → IsReportedGood b (e ∷ history) d
    to t = let k = before.0 refl in record {
      word = k.word;
      last = inr (
        λ other r. none other ((does.reports d other).0 r),
        λ w. both gone (off.1 ((does.withdraws d).0 w)) t,
        k.last,
      );
      good = k.good;
    }

    by : (word : ℕ) → LastReport b (e ∷ history) d word → Withdraws b e d → ⊥
    by word (inl here) = absurd (none word ((does.reports d word).0 here))
    by word (inr k) = k.1

    from : IsReportedGood b (e ∷ history) d → IsTrue (not gone)
    from k = is_not gone (λ t. by k.word k.last ((does.withdraws d).1 (off.0 t)))

pub stays_unknown : (b : Board) (s : BusState) (d : ℕ) (m : Asked) (a : Answered)
    → ((w : ℕ) → MessageReports b s d w (Some m) a → ⊥)
    → TellsAfter b s (Some m) a d false false
stays_unknown b s d m a none history e does before = (to, from)
  where
    to : IsTrue false → IsReportedGood b (e ∷ history) d
    to t = absurd (cc t)

    by : (word : ℕ) → LastReport b (e ∷ history) d word → LastReport b history d word
    by word (inl here) = absurd (none word ((does.reports d word).0 here))
    by word (inr k) = k.2

    from : IsReportedGood b (e ∷ history) d → IsTrue false
    from k = before.1 (record { word = k.word; last = by k.word k.last; good = k.good })
