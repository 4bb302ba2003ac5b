-- A step that sends a request to a target: what is known of it.
use Rattle.std.proofs.Common.{◌≡◌, ◌≤◌, ◌<◌, ℕ, Bool, Option, Some, None, List, length, slice_get}
use Rattle.std.proofs.Common.{cond, sym, ap, subst, ◌∙◌, arith}
use Rattle.std.specs.Prelude.{IsTrue, ◌==◌, nat_lt, option_map, option_and_then, unwrap_or}
use Rattle.std.specs.List.{position_or_len}
use Rattle.std.proofs.lemmas.Bool.{eq-eqb, ne_eqb, cond-true, lt-ltb}
use Rattle.std.proofs.lemmas.List.Sums.{position_or_len_is}
use Rattle.smbus.specs.declared.message.Form.TheVariants as form
use Rattle.seq_program.specs.declared.instr.Width.{Width}
use Rattle.seq_program.specs.declared.instr.Written.{Written}
use Rattle.smbus.specs.Asked.{Asked}
use Rattle.smbus.specs.Answered.{Answered}
use Rattle.pmbus_table.specs.Commands.{takes_form}
use Rattle.board.specs.Boards.{Allow, Target, Board, entry_of, entry_for, place_of_address}
use Rattle.board.specs.Boards.{target_of}
use Rattle.board.specs.Valid.{IsBoard, full_values, full_length}
use Rattle.targets.specs.declared.outcome.Outcome.{Outcome}
use Rattle.targets.specs.declared.outcome.Outcome.TheVariants.{Done}
use Rattle.targets.specs.Outcomes.{outcome_alone}
use Rattle.targets.specs.States.{Belongs, IsTargetAt}
use Rattle.targets.specs.Effects.{IsAfter}
use Rattle.targets.specs.Fitting.{values_for, lengths_for, Fits}
use Rattle.seq_program.specs.Valid.{IsWritten, IsBlock}
use Rattle.simulator.specs.Machines.{Machine, Entry}
use Rattle.simulator.specs.Moves.{with_result}
use Rattle.simulator.specs.StepLaws.{CarriesMessage}
use Rattle.simulator.specs.StepDoes.{StepDoes}
use Rattle.facts.specs.declared.duties.rule.Rule.{Rule}
use Rattle.facts.specs.domain.Rows.{Row, Admits, IsRow}
use Rattle.seq_program.specs.Requests.{Transaction, quick, send, receive, write, read, call}
use Rattle.seq_program.specs.Requests.{write_block}
use Rattle.seq_program.specs.Requests.{read_block, call_block, read_form, code_in, data_in}
use Rattle.facts.specs.duties.Allowing.{allowing}
use Rattle.facts.specs.duties.Allowing.{values_at, lengths_at}
use Rattle.facts.specs.duties.Duties.{MeetsAt}
use Rattle.facts.proofs.Shared.Places.{within, index_at, some_same}

-- its message, where the registers hold these words
abbrev pub asked : Target → List ℕ → Transaction → Asked
asked t regs r =
    record { address = t.address; form = r.form; code = code_in r; out = data_in regs r }

-- what every instruction's transaction is, form by form
pub data IsRequest : Transaction → Type 0 where
  Quick : (reads : Bool) → IsRequest (quick reads)
  Send : (code : ℕ) → IsTrue (takes_form code form.SendByte) → IsRequest (send code)
  Receive : (register : ℕ) → register < 8 → IsRequest (receive register)
  Write : (code : ℕ) (value : Written) → IsWritten code value → IsRequest (write code value)
  Read : (code : ℕ) (width : Width) (register : ℕ) → IsTrue (takes_form code (read_form width))
      → register < 8 → IsRequest (read code width register)
  Call : (code value register : ℕ) → IsTrue (takes_form code form.ProcessCall) → value ≤ 65535
      → register < 8 → IsRequest (call code value register)
  PutBlock : (code : ℕ) (bytes : List ℕ) → IsTrue (takes_form code form.BlockWrite)
      → IsBlock 255 bytes → IsRequest (write_block code bytes)
  GetBlock : (code register : ℕ) → IsTrue (takes_form code form.BlockRead) → register < 8
      → IsRequest (read_block code register)
  CallBlock : (code : ℕ) (bytes : List ℕ) (register : ℕ)
      → IsTrue (takes_form code form.BlockProcessCall) → IsBlock 254 bytes → register < 8
      → IsRequest (call_block code bytes register)

-- what is read goes to one of eight registers
pub register_small : (r : Transaction) (g : ℕ) → IsRequest r → r.register ≡ Some g → g < 8
register_small r g (Receive h lt) e = subst (λ n. n < 8) (some_same h g e) lt
register_small r g (Read c w h ok lt) e = subst (λ n. n < 8) (some_same h g e) lt
register_small r g (Call c v h ok most lt) e = subst (λ n. n < 8) (some_same h g e) lt
register_small r g (GetBlock c h ok lt) e = subst (λ n. n < 8) (some_same h g e) lt
register_small r g (CallBlock c bytes h ok block lt) e = subst (λ n. n < 8) (some_same h g e) lt
register_small r g (Quick reads) e = cc
register_small r g (Send c ok) e = cc
register_small r g (Write c v ok) e = cc
register_small r g (PutBlock c bytes ok block) e = cc

abbrev pub regs_after : Transaction → List ℕ → Outcome → List ℕ
regs_after r regs (Done value) = with_result r.register value regs
regs_after r regs other = regs

-- how its message ends
abbrev pub ending : Target → List ℕ → Transaction → Answered → Outcome
ending t regs r a = outcome_alone (Some (asked t regs r)) a

pub record Sending (b : Board) (row : Row) (h : List Entry) (m next : Machine) (i : ℕ) (t : Target)
    (r : Transaction) (a : Answered) (e : Entry) : Type 0 where
  pub board : IsBoard b
  pub at : IsTargetAt b i t
  pub request : IsRequest r
  pub shaped : IsRow b row
  pub admits : Admits b row m h
  pub belongs : Belongs b m.bus
  pub duty : (rule : Rule) → MeetsAt b row i r rule
  pub fits : Fits b m.bus (asked t m.regs r) a
  pub after : IsAfter b m.bus (Some (asked t m.regs r)) a next.bus
  pub lost : next.bus.lost ≡ m.bus.lost
  pub carries : CarriesMessage m.bus (asked t m.regs r) a e
  pub does : StepDoes b m.bus (Some (asked t m.regs r)) a e
  pub regs : next.regs ≡ regs_after r m.regs (ending t m.regs r a)
  pub counters : next.counters ≡ m.counters

-- the target of its address is this one
pub place_is : (b : Board) (i : ℕ) (t : Target) → IsBoard b → IsTargetAt b i t
    → place_of_address t.address b.targets ≡ Some i
place_is b i t is at' =
    let test : Target → Bool = λ u. u.address == t.address in
    let lt : i < length b.targets = within b.targets i t at' in
    let first : position_or_len test b.targets ≡ i =
    position_or_len_is test b.targets i t (omega (arith, lt))
    (λ k less.
    ne_eqb _ t.address (λ same. is.addresses k i t less lt (same ∙ ap (λ (z : Target). z.address)
    (sym (index_at b.targets i t t at')))))
    (λ _. eq-eqb _ t.address (ap (λ (z : Target). z.address) (index_at b.targets i t t at'))) in
    ap (λ n. cond (nat_lt n (length b.targets)) (Some n) None) first
    ∙ cond-true (nat_lt i (length b.targets)) (Some i) None (lt-ltb i (length b.targets) lt)

target_is : (b : Board) (i : ℕ) (t : Target) (regs : List ℕ) (r : Transaction) → IsBoard b
    → IsTargetAt b i t
    → target_of b (asked t regs r) ≡ Some t
target_is b i t regs r is at' =
    ap (option_and_then (slice_get b.targets)) (place_is b i t is at') ∙ at'

-- the entry that bounds what is read
pub entry_same : (b : Board) (i : ℕ) (t : Target) (regs : List ℕ) (r : Transaction) → IsBoard b
    → IsTargetAt b i t → entry_for b (asked t regs r) ≡ entry_of r.form (code_in r) t.allow
entry_same b i t regs r is at' =
    ap (option_and_then (λ (u : Target). entry_of r.form (code_in r)
    u.allow)) (target_is b i t regs r is at')

pub entry_there : (b : Board) (i : ℕ) (t : Target) (r : Transaction) → IsTargetAt b i t
    → allowing b i r ≡ entry_of r.form (code_in r) t.allow
entry_there b i t r at' =
    ap (option_and_then (λ (u : Target). entry_of r.form (code_in r) u.allow)) at'

pub values_same : (b : Board) (i : ℕ) (t : Target) (regs : List ℕ) (r : Transaction) (x : Allow)
    → IsBoard b
    → IsTargetAt b i t → entry_of r.form (code_in r) t.allow ≡ Some x
    → values_for b (asked t regs r) ≡ x.values
values_same b i t regs r x is at' listed =
    ap (λ (o : Option Allow).
    unwrap_or (option_map (λ (e : Allow). e.values) o) (full_values r.form))
    (entry_same b i t regs r is at' ∙ listed)

pub lengths_same : (b : Board) (i : ℕ) (t : Target) (regs : List ℕ) (r : Transaction) (x : Allow)
    → IsBoard b
    → IsTargetAt b i t → entry_of r.form (code_in r) t.allow ≡ Some x
    → lengths_for b (asked t regs r) ≡ x.length
lengths_same b i t regs r x is at' listed =
    ap (λ (o : Option Allow). unwrap_or (option_map (λ (e : Allow). e.length) o) full_length)
    (entry_same b i t regs r is at' ∙ listed)

pub values_there : (b : Board) (i : ℕ) (t : Target) (r : Transaction) (x : Allow) → IsTargetAt b i t
    → entry_of r.form (code_in r) t.allow ≡ Some x → values_at b i r ≡ x.values
values_there b i t r x at' listed =
    ap (λ (o : Option Allow).
    unwrap_or (option_map (λ (e : Allow). e.values) o) (full_values r.form))
    (entry_there b i t r at' ∙ listed)

pub lengths_there : (b : Board) (i : ℕ) (t : Target) (r : Transaction) (x : Allow)
    → IsTargetAt b i t
    → entry_of r.form (code_in r) t.allow ≡ Some x → lengths_at b i r ≡ x.length
lengths_there b i t r x at' listed =
    ap (λ (o : Option Allow). unwrap_or (option_map (λ (e : Allow). e.length) o) full_length)
    (entry_there b i t r at' ∙ listed)
