-- Which instruction sends a Write Byte, and what a write sends.
use Rattle.std.proofs.Common.{◌≡◌, ◌∙◌, ℕ, Option, Some, None, List, [], ◌∷◌, slice_get, ap, sym}
use Rattle.std.proofs.Common.{refl}
use Rattle.std.specs.Prelude.{option_map}
use Rattle.smbus.specs.declared.message.Form.{Form}
use Rattle.smbus.specs.declared.message.Form.TheVariants as form
use Rattle.smbus.specs.Asked.{Asked}
use Rattle.board.specs.Boards.{Target, Board}
use Rattle.targets.specs.States.{IsTargetAt}
use Rattle.seq_program.specs.declared.instr.Instr.{Instr}
use Rattle.seq_program.specs.declared.instr.Instr.TheVariants as instr
use Rattle.seq_program.specs.declared.instr.Width.TheVariants as width
use Rattle.seq_program.specs.declared.instr.Written.{Written}
use Rattle.seq_program.specs.declared.instr.Written.TheVariants as written
use Rattle.seq_program.specs.Messages.{message_of, message_to}
use Rattle.seq_program.specs.Requests.{form_of, data_of}
use Rattle.program_lints.proofs.Places.{some_same, none_some}

-- a message that goes to a target of the board
record GoesTo (b : Board) (i : ℕ) (f : Form) (code : ℕ) (out : List ℕ) (m : Asked) : Type 0 where
  pub target : Target
  pub at : IsTargetAt b i target
  pub is : m ≡ record { address = target.address; form = f; code = code; out = out }

goes_to : (b : Board) (i : ℕ) (f : Form) (code : ℕ) (out : List ℕ) (m : Asked)
    → message_to b i f code out ≡ Some m → GoesTo b i f code out m
goes_to b i f code out m e = by (slice_get b.targets i) refl e
  where
    asked : Target → Asked
    asked t = record { address = t.address; form = f; code = code; out = out }

    by : (o : Option Target) → slice_get b.targets i ≡ o → option_map asked o ≡ Some m
        → GoesTo b i f code out m
    by None there e = absurd (none_some m e)
    by (Some t) there e =
        record { target = t; at = there; is = sym (some_same (asked t) m e) }

-- a message of another form is no Write Byte
other_form : (b : Board) (i : ℕ) (f : Form) (code : ℕ) (out : List ℕ) (m : Asked)
    → message_to b i f code out ≡ Some m → m.form ≡ form.WriteByte → f ≡ form.WriteByte
other_form b i f code out m e is =
    sym (ap (λ (x : Asked). x.form) (GoesTo.is (goes_to b i f code out m e))) ∙ is

-- the instruction that sends a Write Byte
pub record ByteWriteOf (b : Board) (i : Instr) (m : Asked) : Type 0 where
  pub target : ℕ
  pub value : ℕ
  pub otherwise : ℕ
  pub device : Target
  pub at : IsTargetAt b target device
  pub is : i ≡ instr.Write target m.code (written.Byte value) otherwise
  pub address : m.address ≡ device.address
  pub out : m.out ≡ value ∷ []

byte_write : (b : Board) (t code value otherwise : ℕ) (m : Asked)
    → GoesTo b t form.WriteByte code (value ∷ []) m
    → ByteWriteOf b (instr.Write t code (written.Byte value) otherwise) m
byte_write b t code value otherwise m g = record {
  target = t;
  value = value;
  otherwise = otherwise;
  device = g.target;
  at = g.at;
  is = ap (λ c. instr.Write t c (written.Byte value) otherwise)
      (sym (ap (λ (x : Asked). x.code) g.is));
  address = ap (λ (x : Asked). x.address) g.is;
  out = ap (λ (x : Asked). x.out) g.is;
}

pub byte_write_of : (b : Board) (i : Instr) (regs : List ℕ) (m : Asked)
    → message_of b i regs ≡ Some m → m.form ≡ form.WriteByte → ByteWriteOf b i m
byte_write_of b (instr.Write t code (written.Byte value) l) regs m e is =
    byte_write b t code value l m (goes_to b t form.WriteByte code (value ∷ []) m e)
byte_write_of b (instr.Write t code (written.Word value) l) regs m e is =
    let f = other_form b t form.WriteWord code _ m e is in absurd (cc f)
byte_write_of b (instr.Write t code (written.Register r) l) regs m e is =
    let f = other_form b t form.WriteWord code _ m e is in absurd (cc f)
byte_write_of b (instr.Quick t reads l) regs m e is =
    let f = other_form b t (form.Quick reads) 0 [] m e is in absurd (cc f)
byte_write_of b (instr.Send t code l) regs m e is =
    let f = other_form b t form.SendByte code [] m e is in absurd (cc f)
byte_write_of b (instr.Receive t r l) regs m e is =
    let f = other_form b t form.ReceiveByte 0 [] m e is in absurd (cc f)
byte_write_of b (instr.Read t code width.Byte r l) regs m e is =
    let f = other_form b t form.ReadByte code [] m e is in absurd (cc f)
byte_write_of b (instr.Read t code width.Word r l) regs m e is =
    let f = other_form b t form.ReadWord code [] m e is in absurd (cc f)
byte_write_of b (instr.Call t code value r l) regs m e is =
    let f = other_form b t form.ProcessCall code _ m e is in absurd (cc f)
byte_write_of b (instr.BlockWrite t code bytes l) regs m e is =
    let f = other_form b t form.BlockWrite code bytes m e is in absurd (cc f)
byte_write_of b (instr.BlockRead t code r l) regs m e is =
    let f = other_form b t form.BlockRead code [] m e is in absurd (cc f)
byte_write_of b (instr.BlockCall t code bytes r l) regs m e is =
    let f = other_form b t form.BlockProcessCall code bytes m e is in absurd (cc f)
byte_write_of b (instr.Alert r l) regs m e is =
    let f : form.Alert ≡ form.WriteByte = ap (λ (x : Asked). x.form) (some_same _ m e) ∙ is in
    absurd (cc f)
byte_write_of b (instr.IfAlert l) regs m e is = absurd (none_some m e)
byte_write_of b (instr.Set r value) regs m e is = absurd (none_some m e)
byte_write_of b (instr.Add r value) regs m e is = absurd (none_some m e)
byte_write_of b (instr.If r mask value l) regs m e is = absurd (none_some m e)
byte_write_of b (instr.Above r value l) regs m e is = absurd (none_some m e)
byte_write_of b (instr.Count c value) regs m e is = absurd (none_some m e)
byte_write_of b (instr.Again c l) regs m e is = absurd (none_some m e)
byte_write_of b (instr.Wait ticks) regs m e is = absurd (none_some m e)
byte_write_of b (instr.Goto l) regs m e is = absurd (none_some m e)
byte_write_of b instr.End regs m e is = absurd (none_some m e)
byte_write_of b instr.Fail regs m e is = absurd (none_some m e)

-- what a write to a target sends
abbrev pub write_message : Target → ℕ → List ℕ → Written → Asked
write_message t code regs value = record {
  address = t.address;
  form = form_of value;
  code = code;
  out = data_of regs value;
}

pub sends_write : (b : Board) (target code otherwise : ℕ) (value : Written) (regs : List ℕ)
    (t : Target) → IsTargetAt b target t
    → message_of b (instr.Write target code value otherwise) regs
    ≡ Some (write_message t code regs value)
sends_write b target code otherwise value regs t at' =
    ap (option_map (λ (u : Target). write_message u code regs value)) at'
