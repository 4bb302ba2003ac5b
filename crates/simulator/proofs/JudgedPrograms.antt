-- Each law on small programs speaks of some program, in which nothing else is wrong.
use Rattle.std.proofs.Common.{◌≡◌, ◌<◌, ◌≤◌, ℕ, Bool, true, false, Some, List, [], ◌∷◌, IsTrue}
use Rattle.std.proofs.Common.{refl, rules, arith}
use Rattle.std.proofs.Common.{lit≤, lit<}
use Rattle.std.proofs.lemmas.Bool.{eq-eqb}
use Rattle.smbus.specs.declared.message.Form.TheVariants as form
use Rattle.pmbus_table.specs.Codes.{clear_faults_code, operation_code}
use Rattle.pmbus_table.specs.Operation.{enables}
use Rattle.pmbus_table.specs.Protect.{is_protection, permits}
use Rattle.pmbus_table.specs.Table.{table}
use Rattle.pmbus_table.specs.Voltage.{carries_voltage}
use Rattle.board.specs.Boards.{Allow, Board}
use Rattle.board.specs.Valid.{IsEntry}
use Rattle.targets.specs.States.{IsTargetAt}
use Rattle.simulator.specs.SmallPrograms.{StartsPermit, StartedBoard, ListedVoltage, ListedEnabling}
use Rattle.simulator.specs.SmallPrograms.{SomeSendIsListed, SomeClearingIsListed}
use Rattle.simulator.specs.SmallPrograms.{SomeFormIsUnlisted}
use Rattle.simulator.specs.SmallPrograms.{SomeWriteIsProtected, SomeVoltageIsWithin}
use Rattle.simulator.specs.SmallPrograms.{SomeVoltageIsOver, SomeRailHasNoNeeds}
use Rattle.simulator.specs.SmallPrograms.{SomeRailHasNeeds, SomeNeedIsWithdrawn, AtEachVoltage}
use Rattle.simulator.specs.SmallPrograms.{AtEachEnabling}
use Rattle.simulator.proofs.TakenForms.{voltage_takes_word, enabling_byte}
use Rattle.simulator.proofs.JudgedBoards.{entry, is_entry, target, stored_so, small_rail, its_rail}
use Rattle.simulator.proofs.JudgedBoards.{lone_target, lone, is_lone, lone_state, lone_start}
use Rattle.simulator.proofs.JudgedBoards.{both, upper, lower, first_target, second_target}
use Rattle.simulator.proofs.JudgedBoards.{needing, is_needing, needing_state, needing_start}

-- ---- on one target

abbrev on_lone : (protect : ℕ) (a : Allow) → Bool → is_protection protect ≡ true → IsEntry a
    → StartedBoard
on_lone protect a railed valid is = record {
  board = lone protect a railed;
  state = lone_state protect;
  target = lone_target protect a;
  is_board = is_lone protect a railed valid is;
  is_start = lone_start protect a railed;
  first = refl;
}

permitted_at : (b : Board) (i address protect code : ℕ) (allow : List Allow)
    → IsTargetAt b i (target address protect allow) → permits protect code ≡ Some true
    → StartsPermit b i code
permitted_at b i address protect code allow at permit s starts guarded =
    rw (stored_so b s i address protect allow at starts) permit

-- MFR_SPECIFIC_00
abbrev own_code : ℕ
own_code = 0xD0

sent : IsEntry (entry form.SendByte own_code)
unfolding table
sent = is_entry form.SendByte own_code (λ e. cc) refl refl

cleared : IsEntry (entry form.SendByte clear_faults_code)
unfolding table
cleared = is_entry form.SendByte clear_faults_code (λ e. cc) refl refl

written : IsEntry (entry form.WriteByte own_code)
unfolding table
written = is_entry form.WriteByte own_code (λ e. cc) refl refl

volts : (code : ℕ) → IsTrue (carries_voltage code) → IsEntry (entry form.WriteWord code)
volts code sets = is_entry form.WriteWord code (λ e. cc) refl (voltage_takes_word code sets)

turned : IsEntry (entry form.WriteByte operation_code)
unfolding table
turned = is_entry form.WriteByte operation_code (λ e. cc) refl refl

pub some_send_is_listed : SomeSendIsListed
unfolding table
some_send_is_listed =
    let a = entry form.SendByte own_code in
    record {
      on = on_lone 0 a false refl sent;
      code = own_code;
      takes = refl;
      guarded = refl;
      listed = refl;
      permitted = permitted_at (lone 0 a false) 0 0x40 0 own_code (a ∷ []) refl refl;
    }

-- whatever is protected
pub some_clearing_is_listed : SomeClearingIsListed
some_clearing_is_listed = record {
  on = on_lone 0x80 (entry form.SendByte clear_faults_code) false refl cleared;
  listed = refl;
}

pub some_form_is_unlisted : SomeFormIsUnlisted
unfolding table
some_form_is_unlisted =
    let a = entry form.WriteByte own_code in
    record {
      on = on_lone 0 a false refl written;
      code = own_code;
      takes = refl;
      other = refl;
      unlisted = refl;
      permitted = permitted_at (lone 0 a false) 0 0x40 0 own_code (a ∷ []) refl refl;
    }

pub some_write_is_protected : SomeWriteIsProtected
unfolding table
some_write_is_protected = record {
  on = on_lone 0x80 (entry form.SendByte own_code) false refl sent;
  code = own_code;
  takes = refl;
  guarded = refl;
  listed = refl;
  protect = 0x80;
  stored = refl;
  forbids = refl;
}

-- a word for the one rail
abbrev listed_voltage : (code word : ℕ) → IsTrue (carries_voltage code) → word < 65536
    → ListedVoltage code
listed_voltage code word sets small =
    let a = entry form.WriteWord code in
    record {
      on = on_lone 0 a true refl (volts code sets);
      word = word;
      small = small;
      listed =
          rw (eq-eqb code code refl) (record { above = omega arith; below = omega (arith, small) });
      permitted = permitted_at (lone 0 a true) 0 0x40 0 code (a ∷ []) refl refl;
      rail = small_rail;
      on_first = refl;
      selected = record { rail = refl; on_target = refl; page = refl };
    }

pub some_voltage_is_within : AtEachVoltage SomeVoltageIsWithin
some_voltage_is_within code sets = record {
  case = listed_voltage code 0 sets (lit< tt);
  within = λ s d r starts selected.
      rw (its_rail d r selected.rail)
      (record { least = search rules; most = search rules; below = lit≤ tt });
}

pub some_voltage_is_over : AtEachVoltage SomeVoltageIsOver
some_voltage_is_over code sets = record {
  case = listed_voltage code 65535 sets (lit< tt);
  over = λ w. let below = w.below in absurd (omega (arith, below));
}

pub some_rail_has_no_needs : AtEachEnabling SomeRailHasNoNeeds
some_rail_has_no_needs value turns_on =
    let a = entry form.WriteByte operation_code in
    record {
      case = record {
        on = on_lone 0 a true refl turned;
        listed = record { above = omega arith; below = enabling_byte value turns_on };
        permitted = permitted_at (lone 0 a true) 0 0x40 0 operation_code (a ∷ []) refl refl;
        rail = small_rail;
        on_first = refl;
        selected = record { rail = refl; on_target = refl; page = refl };
      };
      none = λ s d r starts selected. rw (its_rail d r selected.rail) refl;
    }

-- ---- on two targets

abbrev on_needing : (value : ℕ) → IsTrue (enables value) → ListedEnabling value
on_needing value turns_on = record {
  on = record {
    board = needing;
    state = needing_state;
    target = first_target;
    is_board = is_needing;
    is_start = needing_start;
    first = refl;
  };
  listed = record { above = omega arith; below = enabling_byte value turns_on };
  permitted = permitted_at needing 0 0x40 0 operation_code both refl refl;
  rail = upper;
  on_first = refl;
  selected = record { rail = refl; on_target = refl; page = refl };
}

pub some_rail_has_needs : AtEachEnabling SomeRailHasNeeds
some_rail_has_needs value turns_on = record { case = on_needing value turns_on; some = λ e. cc }

pub some_need_is_withdrawn : AtEachEnabling SomeNeedIsWithdrawn
some_need_is_withdrawn value turns_on = record {
  case = on_needing value turns_on;
  need = lower;
  other = second_target;
  at = refl;
  need_selected = record { rail = refl; on_target = refl; page = refl };
  page = refl;
  needed = (0, lit< tt, refl);
  no_other = refl;
  label = 3;
  lands = lit< tt;
  ends = refl;
  good = λ word is.
      let below : word ≤ 0 = is.below in
      let none : word ≡ 0 = omega (arith, below) in
      rw none refl;
  turns_off = record { above = lit≤ tt; below = lit≤ tt };
  may_turn_off = permitted_at needing 1 0x41 0 operation_code both refl refl;
}
