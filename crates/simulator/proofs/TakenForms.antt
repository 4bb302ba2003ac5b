-- The command of an instruction's message takes the message's form.
use Rattle.std.proofs.Common.{◌≡◌, ℕ, true, false, Option, Some, None, List, [], IsTrue, option_map}
use Rattle.std.proofs.Common.{slice_get, refl, sym, subst, ◌==◌, ◌∙◌, ◌∷◌, Bool, not, inl, inr}
use Rattle.std.proofs.Common.{◌≤◌, nat_le}
use Rattle.std.specs.List.{list_all, list_any}
use Rattle.std.proofs.lemmas.Bool.{and_parts, or_cases, eqb-true, not-true, false≢true}
use Rattle.std.proofs.lemmas.Bool.{leb-true}
use Rattle.smbus.specs.declared.message.Form.{Form}
use Rattle.smbus.specs.declared.message.Form.TheVariants as form
use Rattle.smbus.specs.Asked.{Asked}
use Rattle.smbus.specs.FormWords.{carries_code}
use Rattle.smbus.specs.MessageFrame.{ReadsNoBlock}
use Rattle.pmbus_table.specs.Codes.{operation_code, status_word_code}
use Rattle.pmbus_table.specs.Commands.{takes_form}
use Rattle.pmbus_table.specs.Operation.{enabling, enables}
use Rattle.pmbus_table.specs.Table.{table}
use Rattle.pmbus_table.specs.Voltage.{voltage_codes, carries_voltage}
use Rattle.board.specs.Boards.{Target, Board}
use Rattle.seq_program.specs.declared.instr.Instr.{Instr}
use Rattle.seq_program.specs.declared.instr.Instr.TheVariants as instr
use Rattle.seq_program.specs.declared.instr.Written.{Written}
use Rattle.seq_program.specs.declared.instr.Written.TheVariants as written
use Rattle.seq_program.specs.Requests.{low_byte_first, form_of, data_of}
use Rattle.seq_program.specs.Messages.{message_to, message_of}
use Rattle.seq_program.specs.Requests.{read_form}
use Rattle.seq_program.specs.Valid.{IsWritten, IsInstr}
use Rattle.simulator.specs.Allowed.{is_operation_value}
use Rattle.simulator.specs.StepDoes.{writes_data}
use Rattle.simulator.proofs.WireMessages.{asked_at}

abbrev pub Takes : ℕ → Form → Type 0
Takes code f = IsTrue (carries_code f) → IsTrue (takes_form code f)

made_of : (f : Form) (code : ℕ) (out : List ℕ) (m : Asked) (o : Option Target) → Takes code f
    → option_map (λ t. asked_at f code out t) o ≡ Some m → Takes m.code m.form
made_of f code out m None takes e = cc
made_of f code out m (Some t) takes e =
    let same : asked_at f code out t ≡ m = cc in
    rw (sym same) takes

to_target : (b : Board) (n : ℕ) (f : Form) (code : ℕ) (out : List ℕ) (m : Asked) → Takes code f
    → message_to b n f code out ≡ Some m → Takes m.code m.form
to_target b n f code out m takes e = made_of f code out m (slice_get b.targets n) takes e

written_takes : (code : ℕ) (v : Written) → IsWritten code v → Takes code (form_of v)
written_takes code (written.Byte v) w = λ _. w.0
written_takes code (written.Word v) w = λ _. w.0
written_takes code (written.Register r) w = λ _. w.0

pub takes_own_form : (b : Board) (i : Instr) (regs : List ℕ) (m : Asked) → IsInstr i
    → message_of b i regs ≡ Some m → Takes m.code m.form
takes_own_form b (instr.Quick n r l) regs m ok e = to_target b n (form.Quick r) 0 [] m (λ t. cc) e
takes_own_form b (instr.Send n c l) regs m ok e = to_target b n form.SendByte c [] m (λ _. ok) e
takes_own_form b (instr.Receive n r l) regs m ok e =
    to_target b n form.ReceiveByte 0 [] m (λ t. cc) e
takes_own_form b (instr.Write n c v l) regs m ok e =
    to_target b n (form_of v) c (data_of regs v) m (written_takes c v ok) e
takes_own_form b (instr.Read n c w r l) regs m ok e =
    to_target b n (read_form w) c [] m (λ _. ok.0) e
takes_own_form b (instr.Call n c v r l) regs m ok e =
    to_target b n form.ProcessCall c (low_byte_first v) m (λ _. ok.0) e
takes_own_form b (instr.BlockWrite n c bytes l) regs m ok e =
    to_target b n form.BlockWrite c bytes m (λ _. ok.0) e
takes_own_form b (instr.BlockRead n c r l) regs m ok e =
    to_target b n form.BlockRead c [] m (λ _. ok.0) e
takes_own_form b (instr.BlockCall n c bytes r l) regs m ok e =
    to_target b n form.BlockProcessCall c bytes m (λ _. ok.0) e
takes_own_form b (instr.Alert r l) regs m ok e =
    let same : form.Alert ≡ m.form = cc in
    rw (sym same) (λ t. cc)
takes_own_form b (instr.IfAlert l) regs m ok e = cc
takes_own_form b (instr.Set r v) regs m ok e = cc
takes_own_form b (instr.Add r v) regs m ok e = cc
takes_own_form b (instr.If r k v l) regs m ok e = cc
takes_own_form b (instr.Above r v l) regs m ok e = cc
takes_own_form b (instr.Count c v) regs m ok e = cc
takes_own_form b (instr.Again c l) regs m ok e = cc
takes_own_form b (instr.Wait n) regs m ok e = cc
takes_own_form b (instr.Goto l) regs m ok e = cc
takes_own_form b instr.End regs m ok e = cc
takes_own_form b instr.Fail regs m ok e = cc

-- STATUS_WORD takes no Block Read
no_block_form : IsTrue (takes_form status_word_code form.BlockRead) → ⊥
unfolding table
no_block_form e = let bad : false ≡ true = e in cc

pub no_block_read : (m : Asked) → Takes m.code m.form → ReadsNoBlock status_word_code m
no_block_read m takes is code =
    let takes_code : Takes status_word_code m.form = subst (λ (c : ℕ). Takes c m.form) code takes in
    let takes_block : Takes status_word_code form.BlockRead =
    subst (λ (f : Form). Takes status_word_code f) is takes_code in
    no_block_form (takes_block refl)

-- OPERATION is written by Write Byte alone
pub operation_form : (f : Form) → IsTrue (writes_data f) → Takes operation_code f
    → f ≡ form.WriteByte
unfolding table
operation_form (form.Quick r) w takes = cc
operation_form form.SendByte w takes = cc
operation_form form.ReceiveByte w takes = cc
operation_form form.WriteByte w takes = refl
operation_form form.WriteWord w takes = let bad : false ≡ true = takes refl in cc
operation_form form.ReadByte w takes = cc
operation_form form.ReadWord w takes = cc
operation_form form.ProcessCall w takes = let bad : false ≡ true = takes refl in cc
operation_form form.BlockWrite w takes = let bad : false ≡ true = takes refl in cc
operation_form form.BlockRead w takes = cc
operation_form form.BlockProcessCall w takes = let bad : false ≡ true = takes refl in cc
operation_form form.Alert w takes = cc

-- a test that each code of a list meets is met by one that is in the list
met_by_each : (p : ℕ → Bool) (codes : List ℕ) (code : ℕ) → list_all p codes ≡ true
    → list_any (λ c. c == code) codes ≡ true → p code ≡ true
met_by_each p [] code all has = cc
met_by_each p (c ∷ codes) code all has =
    let parts = and_parts (p c) (list_all p codes) all in
    elim (or_cases (c == code) (list_any (λ x. x == code) codes) has) [
      | inl same ↦ subst (λ (x : ℕ). p x ≡ true) (eqb-true c code same) parts.0
      | inr later ↦ met_by_each p codes code parts.1 later
    ]

-- a value that enables is a byte
pub enabling_byte : (value : ℕ) → IsTrue (enables value) → value ≤ 255
enabling_byte value on =
    leb-true value 255 (met_by_each (λ v. nat_le v 255) enabling value refl on)

-- and one of OPERATION's values
pub enabling_value : (value : ℕ) → IsTrue (enables value) → IsTrue (is_operation_value value)
enabling_value value on = met_by_each is_operation_value enabling value refl on

-- what sets a voltage takes Write Word
pub voltage_takes_word : (code : ℕ) → IsTrue (carries_voltage code)
    → IsTrue (takes_form code form.WriteWord)
unfolding table
voltage_takes_word code sets =
    met_by_each (λ c. takes_form c form.WriteWord) voltage_codes code refl sets

refuses : (f : Form) → list_all (λ c. not (takes_form c f)) voltage_codes ≡ true → (code : ℕ)
    → IsTrue (carries_voltage code) → IsTrue (carries_code f) → Takes code f → ⊥
refuses f all code sets carries takes =
    let never : not (takes_form code f) ≡ true =
    met_by_each (λ c. not (takes_form c f)) voltage_codes code all sets in
    false≢true (sym (not-true (takes_form code f) never) ∙ takes carries)

-- and is written by it alone
pub voltage_form : (code : ℕ) → IsTrue (carries_voltage code) → (f : Form)
    → IsTrue (writes_data f) → Takes code f → f ≡ form.WriteWord
unfolding table
voltage_form code sets (form.Quick r) w takes = cc
voltage_form code sets form.SendByte w takes = cc
voltage_form code sets form.ReceiveByte w takes = cc
voltage_form code sets form.WriteByte w takes =
    absurd (refuses form.WriteByte refl code sets refl takes)
voltage_form code sets form.WriteWord w takes = refl
voltage_form code sets form.ReadByte w takes = cc
voltage_form code sets form.ReadWord w takes = cc
voltage_form code sets form.ProcessCall w takes =
    absurd (refuses form.ProcessCall refl code sets refl takes)
voltage_form code sets form.BlockWrite w takes =
    absurd (refuses form.BlockWrite refl code sets refl takes)
voltage_form code sets form.BlockRead w takes = cc
voltage_form code sets form.BlockProcessCall w takes =
    absurd (refuses form.BlockProcessCall refl code sets refl takes)
voltage_form code sets form.Alert w takes = cc
