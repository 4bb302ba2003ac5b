-- What an instruction sends are bytes on the wire.
use Rattle.std.proofs.Common.{◌≡◌, ◌≢◌, ◌≤◌, ◌<◌, ◌/◌, ◌%◌, ℕ, zero, suc, Option, Some, None, List}
use Rattle.std.proofs.Common.{[], ◌∷◌, slice_get, slice_index, option_map, All, refl, sym}
use Rattle.std.proofs.Common.{arith}
use Rattle.std.specs.List.{AllByRecursion}
use Rattle.std.proofs.lemmas.List.Elements.{All-from_recursion}
use Rattle.smbus.specs.declared.message.Form.{Form}
use Rattle.smbus.specs.declared.message.Form.TheVariants as form
use Rattle.smbus.specs.Asked.{Asked, IsAddressed}
use Rattle.board.specs.Boards.{Target, Board}
use Rattle.board.specs.Valid.{IsBoard}
use Rattle.seq_program.specs.declared.instr.Instr.{Instr}
use Rattle.seq_program.specs.declared.instr.Instr.TheVariants as instr
use Rattle.seq_program.specs.declared.instr.Width.TheVariants as width
use Rattle.seq_program.specs.declared.instr.Written.{Written}
use Rattle.seq_program.specs.declared.instr.Written.TheVariants as written
use Rattle.seq_program.specs.Requests.{low_byte_first, form_of, data_of}
use Rattle.seq_program.specs.Messages.{message_to, alert_message}
use Rattle.seq_program.specs.Messages.{message_of}
use Rattle.seq_program.specs.Valid.{IsWritten, IsInstr}
use Rattle.simulator.proofs.Addresses.{address_small}
use Rattle.simulator.proofs.SmallCodes.{taken_small}

pub record AreBytes (m : Asked) : Type 0 where
  pub address : IsAddressed m.address m.form
  pub code : m.code < 256
  pub out : All (λ byte. byte < 256) m.out

abbrev pub asked_at : Form → ℕ → List ℕ → Target → Asked
asked_at f code out t = record { address = t.address; form = f; code = code; out = out }

asked_bytes : (b : Board) (n : ℕ) (f : Form) (code : ℕ) (out : List ℕ) (m : Asked)
    (o : Option Target) → IsBoard b → slice_get b.targets n ≡ o → f ≢ form.Alert → code < 256
    → AllByRecursion (λ byte. byte < 256) out
    → option_map (λ t. asked_at f code out t) o ≡ Some m → AreBytes m
asked_bytes b n f code out m None is at target small bytes e = cc
asked_bytes b n f code out m (Some t) is at target small bytes e =
    let same : asked_at f code out t ≡ m = cc in
    let few : t.address ≤ 127 = address_small b n t is at in
    rw (sym same) (record {
      address = (few, λ a. absurd (target a));
      code = small;
      out = All-from_recursion (λ byte. byte < 256) out bytes;
    })

to_target : (b : Board) (n : ℕ) (f : Form) (code : ℕ) (out : List ℕ) (m : Asked) → IsBoard b
    → f ≢ form.Alert → code < 256 → AllByRecursion (λ byte. byte < 256) out
    → message_to b n f code out ≡ Some m → AreBytes m
to_target b n f code out m is target small bytes e =
    asked_bytes b n f code out m (slice_get b.targets n) is refl target small bytes e

-- a word's two bytes
word_bytes : (word : ℕ) → word < 65536 → AllByRecursion (λ byte. byte < 256) (low_byte_first word)
word_bytes word lt =
    let low : word % 256 < 256 = omega arith in
    let high : word / 256 < 256 = omega (arith, lt) in
    (low, (high, tt))

reg_word : (regs : List ℕ) (r : ℕ) → AllByRecursion (λ word. word < 65536) regs
    → slice_index regs r < 65536
reg_word [] r all = omega arith
reg_word (x ∷ regs) zero all = all.0
reg_word (x ∷ regs) (suc r) all = reg_word regs r all.1

written_bytes : (b : Board) (n code : ℕ) (v : Written) (regs : List ℕ) (m : Asked) → IsBoard b
    → IsWritten code v → AllByRecursion (λ word. word < 65536) regs
    → message_to b n (form_of v) code (data_of regs v) ≡ Some m → AreBytes m
written_bytes b n code (written.Byte v) regs m is w words e =
    let le : v ≤ 255 = w.1 in
    to_target b n form.WriteByte code (v ∷ []) m is (λ a. cc) (taken_small code form.WriteByte w.0)
    (omega arith, tt) e
written_bytes b n code (written.Word v) regs m is w words e =
    let le : v ≤ 65535 = w.1 in
    to_target b n form.WriteWord code (low_byte_first v) m is (λ a. cc)
    (taken_small code form.WriteWord w.0) (word_bytes v (omega arith)) e
written_bytes b n code (written.Register r) regs m is w words e =
    to_target b n form.WriteWord code (low_byte_first (slice_index regs r)) m is (λ a. cc)
    (taken_small code form.WriteWord w.0)
    (word_bytes (slice_index regs r) (reg_word regs r words)) e

pub sent_bytes : (b : Board) (i : Instr) (regs : List ℕ) (m : Asked) → IsBoard b → IsInstr i
    → AllByRecursion (λ word. word < 65536) regs → message_of b i regs ≡ Some m → AreBytes m
sent_bytes b (instr.Quick n r l) regs m is ok words e =
    to_target b n (form.Quick r) 0 [] m is (λ a. cc) (omega arith) tt e
sent_bytes b (instr.Send n c l) regs m is ok words e =
    to_target b n form.SendByte c [] m is (λ a. cc) (taken_small c form.SendByte ok) tt e
sent_bytes b (instr.Receive n r l) regs m is ok words e =
    to_target b n form.ReceiveByte 0 [] m is (λ a. cc) (omega arith) tt e
sent_bytes b (instr.Write n c v l) regs m is ok words e = written_bytes b n c v regs m is ok words e
sent_bytes b (instr.Read n c width.Byte r l) regs m is ok words e =
    to_target b n form.ReadByte c [] m is (λ a. cc) (taken_small c form.ReadByte ok.0) tt e
sent_bytes b (instr.Read n c width.Word r l) regs m is ok words e =
    to_target b n form.ReadWord c [] m is (λ a. cc) (taken_small c form.ReadWord ok.0) tt e
sent_bytes b (instr.Call n c v r l) regs m is ok words e =
    let le : v ≤ 65535 = ok.1 in
    to_target b n form.ProcessCall c (low_byte_first v) m is (λ a. cc)
    (taken_small c form.ProcessCall ok.0) (word_bytes v (omega arith)) e
sent_bytes b (instr.BlockWrite n c bytes l) regs m is ok words e =
    to_target b n form.BlockWrite c bytes m is (λ a. cc)
    (taken_small c form.BlockWrite ok.0) ok.1.2 e
sent_bytes b (instr.BlockRead n c r l) regs m is ok words e =
    to_target b n form.BlockRead c [] m is (λ a. cc) (taken_small c form.BlockRead ok.0) tt e
sent_bytes b (instr.BlockCall n c bytes r l) regs m is ok words e =
    to_target b n form.BlockProcessCall c bytes m is (λ a. cc)
    (taken_small c form.BlockProcessCall ok.0) ok.1.2 e
sent_bytes b (instr.Alert r l) regs m is ok words e =
    let same : alert_message ≡ m = cc in
    rw (sym same) (record {
      address = (omega arith, λ a. refl);
      code = omega arith;
      out = All-from_recursion (λ byte. byte < 256) [] tt;
    })
sent_bytes b (instr.IfAlert l) regs m is ok words e = cc
sent_bytes b (instr.Set r v) regs m is ok words e = cc
sent_bytes b (instr.Add r v) regs m is ok words e = cc
sent_bytes b (instr.If r k v l) regs m is ok words e = cc
sent_bytes b (instr.Above r v l) regs m is ok words e = cc
sent_bytes b (instr.Count c v) regs m is ok words e = cc
sent_bytes b (instr.Again c l) regs m is ok words e = cc
sent_bytes b (instr.Wait n) regs m is ok words e = cc
sent_bytes b (instr.Goto l) regs m is ok words e = cc
sent_bytes b instr.End regs m is ok words e = cc
sent_bytes b instr.Fail regs m is ok words e = cc
