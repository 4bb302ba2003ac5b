-- What an instruction sends: nothing, an alert response, or a request; and that targets can answer
-- it.
use Rattle.std.proofs.Common.{◌≡◌, ◌≤◌, ◌<◌, ◌+◌, ◌⊎◌, ℕ, Option, Some, None, List, length}
use Rattle.std.proofs.Common.{slice_get, IfSome, inl, inr, refl, sym, ap, subst, ◌∙◌, arith}
use Rattle.std.specs.Prelude.{IsTrue, IsSome, option_map}
use Rattle.std.proofs.lemmas.Bool.{false≢true}
use Rattle.smbus.specs.Asked.{Asked}
use Rattle.smbus.specs.Protocol.{AreGoodCounts}
use Rattle.board.specs.declared.entry.Range.{Range}
use Rattle.board.specs.Boards.{Target, Board, place_of}
use Rattle.board.specs.Valid.{IsBoard}
use Rattle.targets.specs.Fitting.{lengths_for}
use Rattle.targets.specs.SomeAnswer.{IsMessage}
use Rattle.targets.specs.States.{IsTargetAt}
use Rattle.seq_program.specs.declared.instr.Instr.{Instr}
use Rattle.seq_program.specs.declared.instr.Instr.TheVariants as instr
use Rattle.seq_program.specs.declared.instr.Width.TheVariants as width
use Rattle.seq_program.specs.declared.instr.Written.TheVariants as written
use Rattle.seq_program.specs.Messages.{alert_message, message_of}
use Rattle.seq_program.specs.Programs.{is_end}
use Rattle.seq_program.specs.Valid.{jump_in, IsInstr}
use Rattle.seq_program.specs.Requests.{result_in}
use Rattle.facts.specs.declared.duties.rule.Rule.{Rule}
use Rattle.facts.specs.declared.duties.rule.Rule.TheVariants.{K1}
use Rattle.facts.specs.domain.Rows.{Row}
use Rattle.seq_program.specs.Requests.{Transaction, quick, send, receive, write, read, call}
use Rattle.seq_program.specs.Requests.{write_block}
use Rattle.seq_program.specs.Requests.{read_block, call_block, Request, request, request_in}
use Rattle.seq_program.specs.Requests.{data_in}
use Rattle.facts.specs.duties.Duties.{MayBeSent, Meets, MeetsAt, MeetsSent}
use Rattle.facts.proofs.Shared.Asking.{Quick, Send, Receive, Write, Read, Call, PutBlock}
use Rattle.facts.proofs.Shared.Asking.{GetBlock, CallBlock}
use Rattle.facts.proofs.Shared.Asking.{asked, IsRequest, place_is, lengths_same}
use Rattle.facts.proofs.Sound.SafeRequests.{Entered, entered}

-- an instruction that sends this request
pub record Requests (b : Board) (i : Instr) (regs : List ℕ) (target : ℕ) (r : Transaction)
    (otherwise : ℕ) :
    Type 0 where
  pub sent : request_in i ≡ Some (request target r otherwise)
  pub asks : message_of b i regs
      ≡ option_map (λ (t : Target). asked t regs r) (slice_get b.targets target)
  pub result : result_in i ≡ r.register
  pub jump : jump_in i ≡ Some otherwise
  pub request : IsRequest r

pub data Kind (b : Board) (i : Instr) (regs : List ℕ) : Type 0 where
  Silent : message_of b i regs ≡ None → Kind b i regs
  Responds : message_of b i regs ≡ Some alert_message → Kind b i regs
  Asks : (target : ℕ) (r : Transaction) (otherwise : ℕ) → Requests b i regs target r otherwise
      → Kind b i regs

pub kind_of : (b : Board) (i : Instr) (regs : List ℕ) → IsInstr i → Kind b i regs
kind_of b (instr.Quick t read l) regs ok = Asks t (quick read) l (record {
  sent = refl;
  asks = refl;
  result = refl;
  jump = refl;
  request = Quick read;
})
kind_of b (instr.Send t c l) regs ok = Asks t (send c) l (record {
  sent = refl;
  asks = refl;
  result = refl;
  jump = refl;
  request = Send c ok;
})
kind_of b (instr.Receive t r l) regs ok = Asks t (receive r) l (record {
  sent = refl;
  asks = refl;
  result = refl;
  jump = refl;
  request = Receive r ok;
})
kind_of b (instr.Write t c v l) regs ok = Asks t (write c v) l (record {
  sent = refl;
  asks = refl;
  result = refl;
  jump = refl;
  request = Write c v ok;
})
kind_of b (instr.Read t c w r l) regs ok = Asks t (read c w r) l (record {
  sent = refl;
  asks = refl;
  result = refl;
  jump = refl;
  request = Read c w r ok.0 ok.1;
})
kind_of b (instr.Call t c v r l) regs ok = Asks t (call c v r) l (record {
  sent = refl;
  asks = refl;
  result = refl;
  jump = refl;
  request = Call c v r ok.0 ok.1 ok.2;
})
kind_of b (instr.BlockWrite t c bytes l) regs ok = Asks t (write_block c bytes) l (record {
  sent = refl;
  asks = refl;
  result = refl;
  jump = refl;
  request = PutBlock c bytes ok.0 ok.1;
})
kind_of b (instr.BlockRead t c r l) regs ok = Asks t (read_block c r) l (record {
  sent = refl;
  asks = refl;
  result = refl;
  jump = refl;
  request = GetBlock c r ok.0 ok.1;
})
kind_of b (instr.BlockCall t c bytes r l) regs ok = Asks t (call_block c bytes r) l (record {
  sent = refl;
  asks = refl;
  result = refl;
  jump = refl;
  request = CallBlock c bytes r ok.0 ok.1 ok.2;
})
kind_of b (instr.Alert r l) regs ok = Responds refl
kind_of b (instr.IfAlert l) regs ok = Silent refl
kind_of b (instr.Set r v) regs ok = Silent refl
kind_of b (instr.Add r v) regs ok = Silent refl
kind_of b (instr.If r k v l) regs ok = Silent refl
kind_of b (instr.Above r v l) regs ok = Silent refl
kind_of b (instr.Count c v) regs ok = Silent refl
kind_of b (instr.Again c l) regs ok = Silent refl
kind_of b (instr.Wait n) regs ok = Silent refl
kind_of b (instr.Goto l) regs ok = Silent refl
kind_of b instr.End regs ok = Silent refl
kind_of b instr.Fail regs ok = Silent refl

-- the two instructions that end a run
pub ends_by : (i : Instr) → IsTrue (is_end i) → (i ≡ instr.End) ⊎ (i ≡ instr.Fail)
ends_by instr.End e = inl refl
ends_by instr.Fail e = inr refl
ends_by (instr.Quick t read l) e = absurd (false≢true e)
ends_by (instr.Send t c l) e = absurd (false≢true e)
ends_by (instr.Receive t r l) e = absurd (false≢true e)
ends_by (instr.Write t c v l) e = absurd (false≢true e)
ends_by (instr.Read t c w r l) e = absurd (false≢true e)
ends_by (instr.Call t c v r l) e = absurd (false≢true e)
ends_by (instr.BlockWrite t c bytes l) e = absurd (false≢true e)
ends_by (instr.BlockRead t c r l) e = absurd (false≢true e)
ends_by (instr.BlockCall t c bytes r l) e = absurd (false≢true e)
ends_by (instr.Alert r l) e = absurd (false≢true e)
ends_by (instr.IfAlert l) e = absurd (false≢true e)
ends_by (instr.Set r v) e = absurd (false≢true e)
ends_by (instr.Add r v) e = absurd (false≢true e)
ends_by (instr.If r k v l) e = absurd (false≢true e)
ends_by (instr.Above r v l) e = absurd (false≢true e)
ends_by (instr.Count c v) e = absurd (false≢true e)
ends_by (instr.Again c l) e = absurd (false≢true e)
ends_by (instr.Wait n) e = absurd (false≢true e)
ends_by (instr.Goto l) e = absurd (false≢true e)

-- the duties of the request
pub request_duty : (b : Board) (row : Row) (i : Instr) (target otherwise : ℕ) (r : Transaction)
    → request_in i ≡ Some (request target r otherwise) → ((rule : Rule) → Meets b row i rule)
    → (rule : Rule)
    → MeetsAt b row target r rule
request_duty b row i target otherwise r sends duties rule = let P : Option Request
    → Type 0 = λ o. MeetsSent b row o rule in subst P sends (duties rule)

-- blocks that can be counted, also the shortest one that is read
good_counts : (b : Board) (row : Row) (t : Target) (i : ℕ) (regs : List ℕ) (r : Transaction)
    → IsBoard b → IsTargetAt b i t → IsRequest r → (x : Entered b row t r)
    → AreGoodCounts r.form (length (data_in regs r))
    (Range.low (lengths_for b (asked t regs r)))
good_counts b row t i regs r is at' (Quick read) x = tt
good_counts b row t i regs r is at' (Send c ok) x = tt
good_counts b row t i regs r is at' (Receive g lt) x = tt
good_counts b row t i regs r is at' (Write c (written.Byte v) ok) x = tt
good_counts b row t i regs r is at' (Write c (written.Word v) ok) x = tt
good_counts b row t i regs r is at' (Write c (written.Register g) ok) x = tt
good_counts b row t i regs r is at' (Read c width.Byte g ok lt) x = tt
good_counts b row t i regs r is at' (Read c width.Word g ok lt) x = tt
good_counts b row t i regs r is at' (Call c v g ok most lt) x = tt
good_counts b row t i regs r is at' (PutBlock c bytes ok block) x =
    let some : 1 ≤ length bytes = block.0 in
    let few : length bytes ≤ 255 = block.1 in
    (omega (arith, some), few)
good_counts b row t i regs r is at' (GetBlock c g ok lt) x =
    let same : lengths_for b (asked t regs (read_block c g)) ≡ x.entry.length =
    lengths_same b i t regs (read_block c g) x.entry is at' x.listed in
    let P : Range → Type 0 = λ z. (0 < z.low) × (z.low ≤ 255) in
    let one : 1 ≤ Range.low x.entry.length = x.is_entry.in_length.above in
    let most : Range.high x.entry.length ≤ 255 = x.is_entry.in_length.below in
    let order : Range.low x.entry.length ≤ Range.high x.entry.length =
    x.is_entry.in_length.nonempty in
    subst P (sym same) (omega (arith, one), omega (arith, most, order))
good_counts b row t i regs r is at' (CallBlock c bytes g ok block lt) x =
    let same : lengths_for b (asked t regs (call_block c bytes g)) ≡ x.entry.length =
    lengths_same b i t regs (call_block c bytes g) x.entry is at' x.listed in
    let P : Range → Type 0 = λ z. (0 < length bytes) × (0 < z.low) × (length bytes + z.low ≤ 255) in
    let some : 1 ≤ length bytes = block.0 in
    let one : 1 ≤ Range.low x.entry.length = x.is_entry.in_length.above in
    let order : Range.low x.entry.length ≤ Range.high x.entry.length =
    x.is_entry.in_length.nonempty in
    let both : length bytes + Range.high x.entry.length ≤ 255 = x.in_entry in
    subst P (sym same) (omega (arith, some), omega (arith, one), omega (arith, order, both))

there_is : (o : Option ℕ) (i : ℕ) → o ≡ Some i → IsSome o
there_is None i e = cc
there_is (Some j) i e = refl

-- a message that targets can answer
request_message : (b : Board) (row : Row) (i : ℕ) (regs : List ℕ) (r : Transaction) → IsBoard b
    → IsRequest r
    → (k : MayBeSent b row i r) → IsMessage b (asked k.target regs r)
request_message b row i regs r is ok k =
    let x = entered b row i k.target r is k.at k in
    record {
      goes = λ _. there_is (place_of b (asked k.target regs r)) i (place_is b i k.target is k.at);
      counts = good_counts b row k.target i regs r is k.at ok x;
    }

pub sends_message : (b : Board) (row : Row) (i : Instr) (regs : List ℕ) → IsBoard b → IsInstr i
    → ((rule : Rule) → Meets b row i rule) → IfSome (message_of b i regs) (λ m. IsMessage b m)
sends_message b row i regs is ok duties = by (kind_of b i regs ok)
  where
    by : Kind b i regs → IfSome (message_of b i regs) (λ m. IsMessage b m)
    by (Silent e) =
        let P : Option Asked → Type 0 = λ o. IfSome o (λ m. IsMessage b m) in
        subst P (sym e) tt
    by (Responds e) = let P : Option Asked → Type 0 = λ o. IfSome o (λ m. IsMessage b m) in
        subst P (sym e) (record { goes = λ other. absurd (other refl); counts = tt })
    by (Asks target r otherwise q) =
        let k : MayBeSent b row target r =
        request_duty b row i target otherwise r q.sent duties K1 in
        let P : Option Asked → Type 0 = λ o. IfSome o (λ m. IsMessage b m) in
        let is' : message_of b i regs ≡ Some (asked k.target regs r) =
        q.asks ∙ ap (option_map (λ (t : Target). asked t regs r)) k.at in
        subst P (sym is') (request_message b row target regs r is q.request k)
