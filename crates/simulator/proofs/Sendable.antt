-- The messages of instructions can be sent under the answers that fit.
use Rattle.std.proofs.Common.{◌≡◌, ◌≤◌, ◌<◌, ◌+◌, ℕ, Option, Some, None, List, [], ◌∷◌, length}
use Rattle.std.proofs.Common.{slice_get, slice_index, option_map, IfSome, refl, sym, ap, subst}
use Rattle.std.proofs.Common.{arith}
use Rattle.smbus.specs.declared.message.Form.{Form}
use Rattle.smbus.specs.declared.message.Form.TheVariants as form
use Rattle.smbus.specs.Asked.{Asked}
use Rattle.smbus.specs.Answered.{Answered}
use Rattle.smbus.specs.Contenders.{Contender}
use Rattle.smbus.specs.Winners.{winner}
use Rattle.smbus.specs.Protocol.{HasLength, AreGoodCounts}
use Rattle.smbus.specs.OneFrame.{CanBeSent}
use Rattle.board.specs.Boards.{Target, Board, largest_stretch}
use Rattle.board.specs.Valid.{IsBoard}
use Rattle.targets.specs.States.{BusState}
use Rattle.targets.specs.Fitting.{FitsBlock, FitsForm, Fits, FitsOver, FitsStep, lengths_for}
use Rattle.targets.specs.Fitting.{MayContend}
use Rattle.targets.specs.ContendedLaws.{AllowedCanStart}
use Rattle.targets.specs.RangeLaws.{LengthsAreOfBlocks}
use Rattle.seq_program.specs.declared.instr.Instr.{Instr}
use Rattle.seq_program.specs.declared.instr.Instr.TheVariants as instr
use Rattle.seq_program.specs.declared.instr.Width.TheVariants as width
use Rattle.seq_program.specs.declared.instr.Written.TheVariants as written
use Rattle.seq_program.specs.declared.instr.Written.{Written}
use Rattle.seq_program.specs.Requests.{low_byte_first, form_of, data_of}
use Rattle.seq_program.specs.Messages.{message_to, message_of}
use Rattle.seq_program.specs.Valid.{IsInstr}
use Rattle.simulator.specs.Standing.{CanStand}
use Rattle.simulator.proofs.OneForeign.{winner_is}
use Rattle.simulator.proofs.Stretches.{stretches, below}

-- a form, and how many data bytes it is given
abbrev GoodOut : Form → ℕ → Type 0
GoodOut form.BlockWrite n = (0 < n) × (n ≤ 255)
GoodOut form.BlockProcessCall n = 0 < n
GoodOut other n = HasLength other n

has_length : (f : Form) (n : ℕ) → GoodOut f n → HasLength f n
has_length (form.Quick read) n g = g
has_length form.SendByte n g = g
has_length form.ReceiveByte n g = g
has_length form.WriteByte n g = g
has_length form.WriteWord n g = g
has_length form.ReadByte n g = g
has_length form.ReadWord n g = g
has_length form.ProcessCall n g = g
has_length form.BlockWrite n g = tt
has_length form.BlockRead n g = g
has_length form.BlockProcessCall n g = tt
has_length form.Alert n g = g

-- a message is made with this form and these data
record IsMade (m : Asked) (f : Form) (out : List ℕ) : Type 0 where
  pub made_as : m.form ≡ f
  pub with_bytes : m.out ≡ out

abbrev asked_at : Form → ℕ → List ℕ → Target → Asked
asked_at f code out t = record { address = t.address; form = f; code = code; out = out }

made_of : (f : Form) (code : ℕ) (out : List ℕ) (m : Asked) (o : Option Target)
    → option_map (λ t. asked_at f code out t) o ≡ Some m → IsMade m f out
made_of f code out m None e = cc
made_of f code out m (Some u) e =
    let same : asked_at f code out u ≡ m = cc in
    record {
      made_as = sym (ap (λ (x : Asked). x.form) same);
      with_bytes = sym (ap (λ (x : Asked). x.out) same);
    }

made : (b : Board) (t : ℕ) (f : Form) (code : ℕ) (out : List ℕ) (m : Asked)
    → message_to b t f code out ≡ Some m → IsMade m f out
made b t f code out m e = made_of f code out m (slice_get b.targets t) e

by_made : (m : Asked) (f : Form) (out : List ℕ) → IsMade m f out → GoodOut f (length out)
    → GoodOut m.form (length m.out)
by_made m f out s g = rw (s.made_as, s.with_bytes) g

good_write : (b : Board) (t c : ℕ) (v : Written) (regs : List ℕ) (m : Asked)
    → message_to b t (form_of v) c (data_of regs v) ≡ Some m → GoodOut m.form (length m.out)
good_write b t c (written.Byte v) regs m e =
    by_made m form.WriteByte (v ∷ []) (made b t form.WriteByte c (v ∷ []) m e) refl
good_write b t c (written.Word v) regs m e =
    by_made m form.WriteWord (low_byte_first v)
    (made b t form.WriteWord c (low_byte_first v) m e) refl
good_write b t c (written.Register r) regs m e =
    by_made m form.WriteWord (low_byte_first (slice_index regs r))
    (made b t form.WriteWord c (low_byte_first (slice_index regs r)) m e) refl

good_out : (b : Board) (i : Instr) (regs : List ℕ) (m : Asked) → IsInstr i
    → message_of b i regs ≡ Some m → GoodOut m.form (length m.out)
good_out b (instr.Quick t r l) regs m is e =
    by_made m (form.Quick r) [] (made b t (form.Quick r) 0 [] m e) refl
good_out b (instr.Send t c l) regs m is e =
    by_made m form.SendByte [] (made b t form.SendByte c [] m e) refl
good_out b (instr.Receive t r l) regs m is e =
    by_made m form.ReceiveByte [] (made b t form.ReceiveByte 0 [] m e) refl
good_out b (instr.Write t c v l) regs m is e = good_write b t c v regs m e
good_out b (instr.Read t c width.Byte r l) regs m is e =
    by_made m form.ReadByte [] (made b t form.ReadByte c [] m e) refl
good_out b (instr.Read t c width.Word r l) regs m is e =
    by_made m form.ReadWord [] (made b t form.ReadWord c [] m e) refl
good_out b (instr.Call t c v r l) regs m is e =
    by_made m form.ProcessCall (low_byte_first v)
    (made b t form.ProcessCall c (low_byte_first v) m e) refl
good_out b (instr.BlockWrite t c bytes l) regs m is e =
    let block = is.1 in
    let some : 1 ≤ length bytes = block.0 in
    let few : length bytes ≤ 255 = block.1 in
    by_made m form.BlockWrite bytes (made b t form.BlockWrite c bytes m e) (omega arith, few)
good_out b (instr.BlockRead t c r l) regs m is e =
    by_made m form.BlockRead [] (made b t form.BlockRead c [] m e) refl
good_out b (instr.BlockCall t c bytes r l) regs m is e =
    let block = is.1 in
    let some : 1 ≤ length bytes = block.0 in
    by_made m form.BlockProcessCall bytes (made b t form.BlockProcessCall c bytes m e) (omega arith)
good_out b (instr.Alert r l) regs m is e =
    by_made m form.Alert [] (record { made_as = cc; with_bytes = cc }) refl
good_out b (instr.IfAlert l) regs m is e = cc
good_out b (instr.Set r v) regs m is e = cc
good_out b (instr.Add r v) regs m is e = cc
good_out b (instr.If r k v l) regs m is e = cc
good_out b (instr.Above r v l) regs m is e = cc
good_out b (instr.Count c v) regs m is e = cc
good_out b (instr.Again c l) regs m is e = cc
good_out b (instr.Wait n) regs m is e = cc
good_out b (instr.Goto l) regs m is e = cc
good_out b instr.End regs m is e = cc
good_out b instr.Fail regs m is e = cc

-- what is read has one byte at least
some_read : LengthsAreOfBlocks → (b : Board) (m : Asked) (written : ℕ) (bytes : List ℕ) → IsBoard b
    → FitsBlock b m written bytes → 0 < length bytes
some_read lengths b m written bytes is fits =
    let one : 1 ≤ (lengths_for b m).low = (lengths b m is).above in
    let more : (lengths_for b m).low ≤ length bytes = fits.count.above in
    omega arith

good_counts : LengthsAreOfBlocks → (b : Board) (s : BusState) (m : Asked) (a : Answered) (f : Form)
    → IsBoard b → GoodOut f (length m.out) → FitsForm f b s m a
    → AreGoodCounts f (length m.out) (length a.bytes)
good_counts lengths b s m a (form.Quick r) is g fits = tt
good_counts lengths b s m a form.SendByte is g fits = tt
good_counts lengths b s m a form.ReceiveByte is g fits = tt
good_counts lengths b s m a form.WriteByte is g fits = tt
good_counts lengths b s m a form.WriteWord is g fits = tt
good_counts lengths b s m a form.ReadByte is g fits = tt
good_counts lengths b s m a form.ReadWord is g fits = tt
good_counts lengths b s m a form.ProcessCall is g fits = tt
good_counts lengths b s m a form.BlockWrite is g fits = g
good_counts lengths b s m a form.BlockRead is g fits =
    let both : 0 + length a.bytes ≤ 255 = fits.0.both in
    (some_read lengths b m 0 a.bytes is fits.0, omega arith)
good_counts lengths b s m a form.BlockProcessCall is g fits =
    (g, some_read lengths b m (length m.out) a.bytes is fits.0, fits.0.both)
good_counts lengths b s m a form.Alert is g fits = tt

pub can_be_sent : LengthsAreOfBlocks → (b : Board) (s : BusState) (i : Instr) (regs : List ℕ)
    (m : Asked) (a : Answered)
    → IsBoard b → IsInstr i → message_of b i regs ≡ Some m → Fits b s m a → CanBeSent m a
can_be_sent lengths b s i regs m a is instr e fits =
    let good = good_out b i regs m instr e in
    record {
      has_good_data =
          record { has_length = has_length m.form (length m.out) good; is_numbered = fits.refuse };
      has_good_block = good_counts lengths b s m a m.form is good fits.form;
      holds = below (largest_stretch b.targets) (stretches b is) a.holds fits.holds;
    }

-- the controller that wins over a message may start
pub may_contend : (b : Board) (m : Asked) (a : Answered) (c : Contender)
    → IfSome a.contender (MayContend b) → winner m a ≡ Some c → MayContend b c
may_contend b m a c may wins =
    subst (λ (o : Option Contender). IfSome o (MayContend b)) (winner_is m a c wins) may

can_stand : LengthsAreOfBlocks → AllowedCanStart → (b : Board) (s : BusState) (i : Instr)
    (regs : List ℕ) (m : Asked) (a : Answered) (w : Option Contender) → IsBoard b → IsInstr i
    → message_of b i regs ≡ Some m → IfSome a.contender (MayContend b) → winner m a ≡ w
    → FitsOver w b s m a → CanStand w m a
can_stand lengths start b s i regs m a None is instr e may wins fits =
    can_be_sent lengths b s i regs m a is instr e fits
can_stand lengths start b s i regs m a (Some c) is instr e may wins fits =
    start b c is (may_contend b m a c may wins)

pub sendable : LengthsAreOfBlocks → AllowedCanStart → (b : Board) (s : BusState) (i : Instr)
    (regs : List ℕ) (o : Option Asked) (a : Answered) → IsBoard b → IsInstr i
    → o ≡ message_of b i regs → FitsStep b s o a → IfSome o (λ m. CanStand (winner m a) m a)
sendable lengths start b s i regs None a is instr e fits = tt
sendable lengths start b s i regs (Some m) a is instr e fits =
    can_stand lengths start b s i regs m a (winner m a) is instr (sym e) fits.0 refl fits.1
