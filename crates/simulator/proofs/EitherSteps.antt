-- Each step stands alone, or is lost to another controller.
use Rattle.std.proofs.Common.{◌≡◌, ◌⊎◌, inl, inr, ℕ, false, IfSome}
use Rattle.std.proofs.Common.{Option, Some, None, [], ◌∷◌, length, refl, sym, ap}
use Rattle.std.proofs.Common.{subst}
use Rattle.std.proofs.Common.{◌∙◌, ◌<◌}
use Rattle.std.proofs.lemmas.Bool.{lt-ltb}
use Rattle.smbus.specs.declared.message.Form.TheVariants.{Quick}
use Rattle.smbus.specs.Asked.{Asked}
use Rattle.smbus.specs.Answered.{Answered}
use Rattle.smbus.specs.Contenders.{Contender}
use Rattle.smbus.specs.Winners.{winner_over, winner, unless_won}
use Rattle.board.specs.Boards.{Board}
use Rattle.targets.specs.Fitting.{FitsOver, FitsStep, MayContend}
use Rattle.targets.specs.Effects.{IsAfter, lost_over}
use Rattle.targets.specs.Outcomes.{outcome_of, outcome_over}
use Rattle.targets.specs.LostAnswers.{ContendersMayWin, SomeMayWin}
use Rattle.targets.specs.StateLaws.{StartsBelong, AnswersHaveStates}
use Rattle.seq_program.specs.declared.instr.Instr.{Instr}
use Rattle.seq_program.specs.declared.instr.Instr.TheVariants as instr
use Rattle.seq_program.specs.Messages.{message_of}
use Rattle.simulator.specs.Machines.{Machine, Entry, start_at}
use Rattle.simulator.specs.Moves.{moved}
use Rattle.simulator.specs.Steps.{samples_over, step_entry, IsStepOf}
use Rattle.simulator.specs.ContendedSteps.{IsStepAlone, IsStepLost, IsLostTo}
use Rattle.simulator.specs.ContendedSteps.{StepsStandAloneOrAreLost}
use Rattle.simulator.specs.ContendedSteps.{StepsWithoutContendersStandAlone, SomeStepIsLost}
use Rattle.simulator.proofs.Sendable.{may_contend}
use Rattle.simulator.proofs.MadeSteps.{made_step}

abbrev entry_over : Asked → Answered → Machine → Option Contender → Entry
entry_over msg a m w =
    record {
      place = m.place;
      before = m.bus;
      samples = samples_over w m.bus msg a;
      outcome = Some (outcome_over w msg a);
      ticks = length (samples_over w m.bus msg a);
    }

-- what a step of a message is, from who wins over it
record StepOver (b : Board) (i : Instr) (msg : Asked) (m : Machine) (a : Answered) (e : Entry)
    (next : Machine) (w : Option Contender) : Type 0 where
  pub fits : FitsOver w b m.bus msg a
  pub bus : IsAfter b m.bus (unless_won w msg) a next.bus
  pub lost : next.bus.lost ≡ lost_over w m.bus.lost
  pub next_is : next ≡ moved i (Some msg) (outcome_over w msg a) next.bus m
  pub samples : e.samples ≡ samples_over w m.bus msg a
  pub entry_is : e ≡ entry_over msg a m w

over_of : (b : Board) (i : Instr) (msg : Asked) (m : Machine) (a : Answered) (e : Entry)
    (next : Machine) → IsStepOf b i (Some msg) m a e next
    → StepOver b i msg m a e next (winner msg a)
over_of b i msg m a e next step = record {
  fits = step.fits.1;
  bus = step.bus.targets;
  lost = step.bus.lost;
  next_is = step.next_is;
  samples = ap (λ (x : Entry). x.samples) step.entry_is;
  entry_is = step.entry_is;
}

alone : (b : Board) (i : Instr) (msg : Asked) (m : Machine) (a : Answered) (e : Entry)
    (next : Machine) → winner msg a ≡ None → StepOver b i msg m a e next None
    → IsStepAlone b i (Some msg) m a e next
alone b i msg m a e next wins o = record {
  kept = ap (λ (w : Option Contender). unless_won w msg) wins;
  fits = o.fits;
  bus = o.bus;
  lost = o.lost;
  next_is = o.next_is;
  entry_is = o.entry_is;
}

pub lost_to : (b : Board) (i : Instr) (msg : Asked) (c : Contender) (m : Machine) (a : Answered)
    (e : Entry) (next : Machine) → winner msg a ≡ Some c → IsStepOf b i (Some msg) m a e next
    → IsStepLost b i msg c m a e next
lost_to b i msg c m a e next wins step =
    let o = subst (λ (w : Option Contender). StepOver b i msg m a e next w) wins
    (over_of b i msg m a e next step) in
    record {
      wins = wins;
      may = may_contend b msg a c step.fits.0 wins;
      fits = o.fits;
      bus = o.bus;
      lost = o.lost;
      next_is = o.next_is;
      samples = o.samples;
      entry_is = step.entry_is;
    }

pub either_step : StepsStandAloneOrAreLost
either_step b i None m a e next step = inl (record {
  kept = refl;
  fits = step.fits.0;
  bus = step.bus.targets;
  lost = step.bus.lost;
  next_is = step.next_is;
  entry_is = step.entry_is;
})
either_step b i (Some msg) m a e next step = by (winner msg a) refl
  where
    by : (w : Option Contender) → winner msg a ≡ w
        → IsStepAlone b i (Some msg) m a e next ⊎ IsLostTo b i (Some msg) m a e next
    by None wins =
        inl (alone b i msg m a e next wins
        (subst (λ (w : Option Contender). StepOver b i msg m a e next w) wins
        (over_of b i msg m a e next step)))
    by (Some c) wins = inr (msg, c, refl, lost_to b i msg c m a e next wins step)

-- ---- where none starts

from_over : (b : Board) (i : Instr) (msg : Asked) (m : Machine) (a : Answered) (e : Entry)
    (next : Machine) → IfSome a.contender (MayContend b)
    → StepOver b i msg m a e next (winner msg a) → IsStepOf b i (Some msg) m a e next
from_over b i msg m a e next may o = record {
  fits = (may, o.fits);
  bus = record { targets = o.bus; lost = o.lost };
  next_is = o.next_is;
  entry_is = o.entry_is;
}

over_alone : (b : Board) (i : Instr) (msg : Asked) (m : Machine) (a : Answered) (e : Entry)
    (next : Machine) → IsStepAlone b i (Some msg) m a e next → StepOver b i msg m a e next None
over_alone b i msg m a e next s = record {
  fits = s.fits;
  bus = s.bus;
  lost = s.lost;
  next_is = s.next_is;
  samples = ap (λ (x : Entry). x.samples) s.entry_is;
  entry_is = s.entry_is;
}

none_wins : (msg : Asked) (a : Answered) → a.contender ≡ None → winner msg a ≡ None
none_wins msg a none = ap (winner_over msg.address) none

may_none : (b : Board) (o : Option Contender) → o ≡ None → IfSome o (MayContend b)
may_none b o none = subst (λ (x : Option Contender). IfSome x (MayContend b)) (sym none) tt

pub stands_alone : StepsWithoutContendersStandAlone
stands_alone b i None m a e next none = (
  λ step. record {
    kept = refl;
    fits = step.fits.0;
    bus = step.bus.targets;
    lost = step.bus.lost;
    next_is = step.next_is;
    entry_is = step.entry_is;
  },
  λ s. record {
    fits = (s.fits, none);
    bus = record { targets = s.bus; lost = s.lost };
    next_is = s.next_is;
    entry_is = s.entry_is;
  },
)
stands_alone b i (Some msg) m a e next none =
    let Over : Option Contender → Type 0 = λ w. StepOver b i msg m a e next w in
    let wins = none_wins msg a none in (
      λ step.
          alone b i msg m a e next wins (subst Over wins (over_of b i msg m a e next step)),
      λ s.
          from_over b i msg m a e next (may_none b a.contender none)
          (subst Over (sym wins) (over_alone b i msg m a e next s)),
    )

-- ---- a lost step

abbrev asking : ℕ → Asked
asking address = record { address = address; form = Quick false; code = 0; out = [] }

wins_over : (msg : Asked) (a : Answered) (c : Contender) → a.contender ≡ Some c
    → c.address < msg.address → winner msg a ≡ Some c
wins_over msg a c starts lower =
    ap (winner_over msg.address) starts ∙ rw (lt-ltb c.address msg.address lower) refl

pub some_step_is_lost : ContendersMayWin → SomeMayWin → StartsBelong → AnswersHaveStates
    → SomeStepIsLost
some_step_is_lost may some starts states =
    let b = some.board in
    let asks = instr.Quick 0 false 1 in
    let p = asks ∷ instr.End ∷ [] in
    let m = start_at some.state in
    let msg = asking some.target.address in
    let lower : some.contender.address < some.target.address =
    subst (λ (n : ℕ). some.contender.address < n) some.to some.may_win.lower in
    let lost = may b some.state msg some.contender some.is_board (record {
      may = some.may_win.may;
      lower = lower;
      few = some.may_win.few;
    }) in
    let asked : message_of b asks m.regs ≡ Some msg = rw some.at refl in
    let fits = subst (λ (o : Option Asked). FitsStep b some.state o lost.answer) (sym asked)
    lost.fits in
    let message = message_of b asks m.regs in
    let after =
    states b m.bus message lost.answer some.is_board
    (starts b some.state some.is_board some.is_start) in
    let outcome = outcome_of message lost.answer in
    let entry = step_entry asks message lost.answer m in
    let next = moved asks message outcome after.state m in
    let made : IsStepOf b asks message m lost.answer entry next =
    made_step b asks message m lost.answer after.state outcome _ _ fits after.after refl refl
    refl in
    let of = subst (λ (o : Option Asked). IsStepOf b asks o m lost.answer entry next) asked made in
    record {
      board = b;
      program = p;
      machine = m;
      answer = lost.answer;
      entry = entry;
      next = next;
      is_board = some.is_board;
      step = record { running = refl; instr = asks; here = refl; step = made };
      lost = (
        msg,
        some.contender,
        asked,
        lost_to b asks msg some.contender m lost.answer entry next
            (wins_over msg lost.answer some.contender lost.starts lower) of,
      );
    }
