-- Both edges of every request.
use Rattle.std.proofs.Common.{◌≡◌, ◌≢◌, ◌⊎◌, ◌==◌, ◌&&◌, ℕ, Bool, true, false, not, cond, List, ◌∷◌}
use Rattle.std.proofs.Common.{length, slice_index, inl, inr, refl, sym, ap, subst, ◌∙◌, All}
use Rattle.std.proofs.lemmas.Bool.{ne_eqb, cond-false, cases_eq}
use Rattle.smbus.specs.declared.message.Form.TheVariants as form
use Rattle.smbus.specs.Answered.{Answered}
use Rattle.pmbus_table.specs.Codes.{page_code, operation_code, write_protect_code, status_word_code}
use Rattle.pmbus_table.specs.Operation.{enables}
use Rattle.board.specs.declared.entry.Range.{Range}
use Rattle.board.specs.Boards.{Target, Board}
use Rattle.targets.specs.declared.outcome.Outcome.{Outcome}
use Rattle.targets.specs.declared.outcome.Outcome.TheVariants.{Done, NotAcknowledged, TimedOut}
use Rattle.targets.specs.declared.outcome.Outcome.TheVariants.{Lost}
use Rattle.targets.specs.Fitting.{IsIn, FitsBlock}
use Rattle.seq_program.specs.declared.instr.Width.TheVariants as width
use Rattle.seq_program.specs.declared.instr.Written.TheVariants as written
use Rattle.simulator.specs.Machines.{Machine, Entry}
use Rattle.facts.specs.declared.duties.rule.Rule.TheVariants.{K1}
use Rattle.facts.specs.domain.Rows.{Row, Admits, InSpan}
use Rattle.seq_program.specs.Requests.{Transaction, quick, send, receive, write, read, call}
use Rattle.seq_program.specs.Requests.{write_block}
use Rattle.seq_program.specs.Requests.{read_block, call_block}
use Rattle.facts.specs.transfer.Edges.{TurnsOff, Nothing, written_effect, without_touched, loaded}
use Rattle.facts.specs.transfer.Edges.{done_row}
use Rattle.facts.specs.transfer.Edges.{else_row}
use Rattle.facts.proofs.Shared.Asking.{Quick, Send, Receive, Write, Read, Call, PutBlock}
use Rattle.facts.proofs.Shared.Asking.{GetBlock, CallBlock}
use Rattle.facts.proofs.Shared.Asking.{asked, ending, IsRequest, register_small, Sending}
use Rattle.facts.proofs.Shared.Asking.{values_same, lengths_same}
use Rattle.facts.proofs.Sound.SafeRequests.{Entered, entered}
use Rattle.facts.proofs.Sound.WriteEdges.{byte_write, row_by, page_write, protect_write}
use Rattle.facts.proofs.Sound.WriteEdges.{after_other}
use Rattle.facts.proofs.Sound.WriteEdges.{other_write}
use Rattle.facts.proofs.Sound.ReadEdges.{IsQuiet, nothing_edges, load_edges, in_loaded, byte_loaded}
use Rattle.facts.proofs.Sound.ReadEdges.{first_loaded, page_read_edges, protect_read_edges}
use Rattle.facts.proofs.Sound.ReadEdges.{status_edges}

-- the row of the edge that the outcome takes admits what follows
abbrev pub Leaves : (b : Board) (row : Row) (h : List Entry) (m next : Machine) (i : ℕ) (t : Target)
    (a : Answered) (e : Entry) → Transaction → Type 0
Leaves b row h m next i t a e r = Sending b row h m next i t r a e
    → Admits b (row_by b row i r (ending t m.regs r a)) next (e ∷ h)

effect_other : (c v : ℕ) → c ≢ page_code → c ≢ write_protect_code
    → written_effect c v ≡ cond ((c == operation_code) && not (enables v)) TurnsOff Nothing
effect_other c v np nw = cond-false (c == page_code) _ _ (ne_eqb c page_code np)
    ∙ cond-false (c == write_protect_code) _ _ (ne_eqb c write_protect_code nw)

done_by : (b : Board) (row : Row) (i : ℕ) (r : Transaction) (q : Bool)
    → done_row b row i r (cond q TurnsOff Nothing) ≡ cond q (without_touched b row i) row
done_by b row i r true = refl
done_by b row i r false = refl

else_by : (b : Board) (row : Row) (i : ℕ) (q : Bool)
    → else_row b row i (cond q TurnsOff Nothing) ≡ cond q (without_touched b row i) row
else_by b row i true = refl
else_by b row i false = refl

row_by_other : (b : Board) (row : Row) (i c v : ℕ) (o : Outcome) → c ≢ page_code
    → c ≢ write_protect_code
    → row_by b row i (byte_write c v) o ≡ after_other b row i c v
row_by_other b row i c v (Done x) np nw =
    ap (done_row b row i (byte_write c v)) (effect_other c v np nw)
    ∙ done_by b row i (byte_write c v) ((c == operation_code) && not (enables v))
row_by_other b row i c v NotAcknowledged np nw = ap (else_row b row i) (effect_other c v np nw)
    ∙ else_by b row i ((c == operation_code) && not (enables v))
row_by_other b row i c v TimedOut np nw = ap (else_row b row i) (effect_other c v np nw)
    ∙ else_by b row i ((c == operation_code) && not (enables v))
row_by_other b row i c v Lost np nw = ap (else_row b row i) (effect_other c v np nw)
    ∙ else_by b row i ((c == operation_code) && not (enables v))

write_edges : (b : Board) (row : Row) (h : List Entry) (m next : Machine) (i : ℕ) (t : Target)
    (a : Answered) (e : Entry) (c v : ℕ) → Leaves b row h m next i t a e (byte_write c v)
write_edges b row h m next i t a e c v = by_page (cases_eq c page_code)
  where
    other : c ≢ page_code → c ≢ write_protect_code → Leaves b row h m next i t a e (byte_write c v)
    other np nw k = let P : Row → Type 0 = λ r. Admits b r next (e ∷ h) in
        subst P (sym (row_by_other b row i c v (ending t m.regs (byte_write c v) a) np nw))
        (other_write b row h m next i t c v a e k np nw)

    by_protect : c ≢ page_code → (c ≡ write_protect_code) ⊎ (c ≡ write_protect_code → ⊥)
        → Leaves b row h m next i t a e (byte_write c v)
    by_protect np (inl is) =
        let P : ℕ → Type 0 = λ x. Leaves b row h m next i t a e (byte_write x v) in
        subst P (sym is) (λ k. protect_write b row h m next i t v a e (ending t m.regs
        (byte_write write_protect_code v) a) k refl)
    by_protect np (inr nw) = other np nw

    by_page : (c ≡ page_code) ⊎ (c ≡ page_code → ⊥) → Leaves b row h m next i t a e (byte_write c v)
    by_page (inl is) = let P : ℕ → Type 0 = λ x. Leaves b row h m next i t a e (byte_write x v) in
        subst P (sym is)
        (λ k. page_write b row h m next i t v a e (ending t m.regs (byte_write page_code v)
        a) k refl)
    by_page (inr np) = by_protect np (cases_eq c write_protect_code)

-- what was read lies in the entry's range
read_in : (b : Board) (row : Row) (h : List Entry) (m next : Machine) (i : ℕ) (t : Target)
    (r : Transaction)
    (a : Answered) (e : Entry) (v : ℕ) → Sending b row h m next i t r a e → (x : Entered b row t r)
    → IsIn (Rattle.targets.specs.Fitting.values_for b (asked t m.regs r)) v → IsIn x.entry.values v
read_in b row h m next i t r a e v k x is = let P : Range
    → Type 0 = λ z. IsIn z v in
    subst P (values_same b i t m.regs r x.entry k.board k.at x.listed) is

entry_of_request : (b : Board) (row : Row) (h : List Entry) (m next : Machine) (i : ℕ) (t : Target)
    (r : Transaction) (a : Answered) (e : Entry) → Sending b row h m next i t r a e
    → Entered b row t r
entry_of_request b row h m next i t r a e k = entered b row i t r k.board k.at (k.duty K1)

quiet_byte_read : (c g : ℕ) → IsQuiet (read c width.Byte g)
quiet_byte_read c g = record { no_write = λ e. apart e; no_status = λ e _. other e }
  where
    apart : form.ReadByte ≡ form.WriteByte → ⊥
    apart e = cc

    other : form.ReadByte ≡ form.ReadWord → ⊥
    other e = cc

byte_read_edges : (b : Board) (row : Row) (h : List Entry) (m next : Machine) (i : ℕ) (t : Target)
    (a : Answered) (e : Entry) (c g : ℕ) → c ≢ page_code → c ≢ write_protect_code
    → Leaves b row h m next i t a e (read c width.Byte g)
byte_read_edges b row h m next i t a e c g np nw k =
    let r = read c width.Byte g in
    let x = entry_of_request b row h m next i t r a e k in
    load_edges b row h m next i t r a e k g (quiet_byte_read c g)
    (cond-false (c == page_code) _ _ (ne_eqb c page_code np)
    ∙ cond-false (c == write_protect_code) _ _ (ne_eqb c write_protect_code nw)) refl
    (register_small r g k.request refl)
    (byte_loaded b row i t r x a.value k.at refl
    (read_in b row h m next i t r a e a.value k x (k.fits.form.0.other np nw)))

quiet_word_read : (c g : ℕ) → c ≢ status_word_code → IsQuiet (read c width.Word g)
quiet_word_read c g ns = record { no_write = λ e. apart e; no_status = λ _ is. ns is }
  where
    apart : form.ReadWord ≡ form.WriteByte → ⊥
    apart e = cc

word_read_edges : (b : Board) (row : Row) (h : List Entry) (m next : Machine) (i : ℕ) (t : Target)
    (a : Answered) (e : Entry) (c g : ℕ) → c ≢ status_word_code
    → Leaves b row h m next i t a e (read c width.Word g)
word_read_edges b row h m next i t a e c g ns k =
    let r = read c width.Word g in
    let x = entry_of_request b row h m next i t r a e k in
    load_edges b row h m next i t r a e k g (quiet_word_read c g ns)
    (cond-false (c == status_word_code) _ _ (ne_eqb c status_word_code ns)) refl
    (register_small r g k.request refl)
    (in_loaded b i t r x.entry a.value k.at x.listed
    (read_in b row h m next i t r a e a.value k x k.fits.form.0))

block_loaded : (b : Board) (row : Row) (h : List Entry) (m next : Machine) (i : ℕ) (t : Target)
    (r : Transaction) (a : Answered) (e : Entry) (n : ℕ) → Sending b row h m next i t r a e
    → FitsBlock b (asked t m.regs r) n a.bytes → InSpan (loaded b i r) (slice_index a.bytes 0)
block_loaded b row h m next i t r a e n k f =
    let x = entry_of_request b row h m next i t r a e k in
    let P : Range → Type 0 = λ z. IsIn z (length a.bytes) in
    let Q : Range → Type 0 = λ z. All (IsIn z) a.bytes in
    first_loaded b row i t r x a.bytes k.at
    (subst P (lengths_same b i t m.regs r x.entry k.board k.at
    x.listed) f.count) (subst Q (values_same b i t m.regs r x.entry k.board k.at x.listed) f.each)

edges_by : (b : Board) (row : Row) (h : List Entry) (m next : Machine) (i : ℕ) (t : Target)
    (a : Answered) (e : Entry) (r : Transaction) → IsRequest r → Leaves b row h m next i t a e r
edges_by b row h m next i t a e r (Quick read) k =
    nothing_edges b row h m next i t (quick read) a e k
    (record { no_write = λ e. apart e; no_status = λ e _. other e }) refl refl
  where
    apart : form.Quick read ≡ form.WriteByte → ⊥
    apart e = cc

    other : form.Quick read ≡ form.ReadWord → ⊥
    other e = cc
edges_by b row h m next i t a e r (Send c ok) k = nothing_edges b row h m next i t (send c) a e k
    (record { no_write = λ e. apart e; no_status = λ e _. other e }) refl refl
  where
    apart : form.SendByte ≡ form.WriteByte → ⊥
    apart e = cc

    other : form.SendByte ≡ form.ReadWord → ⊥
    other e = cc
edges_by b row h m next i t a e r (Write c (written.Word v) ok) k =
    nothing_edges b row h m next i t (write c (written.Word v)) a e k
    (record { no_write = λ e. apart e; no_status = λ e _. other e }) refl refl
  where
    apart : form.WriteWord ≡ form.WriteByte → ⊥
    apart e = cc

    other : form.WriteWord ≡ form.ReadWord → ⊥
    other e = cc
edges_by b row h m next i t a e r (Write c (written.Register g) ok) k =
    nothing_edges b row h m next i t (write c (written.Register g)) a e k
    (record { no_write = λ e. apart e; no_status = λ e _. other e }) refl refl
  where
    apart : form.WriteWord ≡ form.WriteByte → ⊥
    apart e = cc

    other : form.WriteWord ≡ form.ReadWord → ⊥
    other e = cc
edges_by b row h m next i t a e r (PutBlock c bytes ok block) k =
    nothing_edges b row h m next i t (write_block c bytes) a e k
    (record { no_write = λ e. apart e; no_status = λ e _. other e }) refl refl
  where
    apart : form.BlockWrite ≡ form.WriteByte → ⊥
    apart e = cc

    other : form.BlockWrite ≡ form.ReadWord → ⊥
    other e = cc
edges_by b row h m next i t a e r (Write c (written.Byte v) ok) k =
    write_edges b row h m next i t a e c v k
edges_by b row h m next i t a e r (Receive g lt) k =
    let x = entry_of_request b row h m next i t (receive g) a e k in
    load_edges b row h m next i t (receive g) a e k g
    (record { no_write = λ e. apart e; no_status = λ e _. other e }) refl refl lt
    (byte_loaded b row i t (receive g) x a.value k.at refl
    (read_in b row h m next i t (receive g) a e a.value k x k.fits.form.0))
  where
    apart : form.ReceiveByte ≡ form.WriteByte → ⊥
    apart e = cc

    other : form.ReceiveByte ≡ form.ReadWord → ⊥
    other e = cc
edges_by b row h m next i t a e r (Call c v g ok most lt) k =
    let x = entry_of_request b row h m next i t (call c v g) a e k in
    load_edges b row h m next i t (call c v g) a e k g
    (record { no_write = λ e. apart e; no_status = λ e _. other e }) refl refl lt
    (in_loaded b i t (call c v g) x.entry a.value k.at x.listed
    (read_in b row h m next i t (call c v g) a e a.value k x k.fits.form.0))
  where
    apart : form.ProcessCall ≡ form.WriteByte → ⊥
    apart e = cc

    other : form.ProcessCall ≡ form.ReadWord → ⊥
    other e = cc
edges_by b row h m next i t a e r (GetBlock c g ok lt) k =
    load_edges b row h m next i t (read_block c g) a e k g
    (record { no_write = λ e. apart e; no_status = λ e _. other e }) refl refl lt
    (block_loaded b row h m next i t (read_block c g) a e 0 k k.fits.form.0)
  where
    apart : form.BlockRead ≡ form.WriteByte → ⊥
    apart e = cc

    other : form.BlockRead ≡ form.ReadWord → ⊥
    other e = cc
edges_by b row h m next i t a e r (CallBlock c bytes g ok block lt) k =
    load_edges b row h m next i t (call_block c bytes g) a e k g
    (record { no_write = λ e. apart e; no_status = λ e _. other e }) refl refl lt
    (block_loaded b row h m next i t (call_block c bytes g) a e (length bytes) k k.fits.form.0)
  where
    apart : form.BlockProcessCall ≡ form.WriteByte → ⊥
    apart e = cc

    other : form.BlockProcessCall ≡ form.ReadWord → ⊥
    other e = cc
edges_by b row h m next i t a e r (Read c width.Byte g ok lt) k = by_page (cases_eq c page_code) k
  where
    by_protect : c ≢ page_code → (c ≡ write_protect_code) ⊎ (c ≡ write_protect_code → ⊥)
        → Leaves b row h m next i t a e (read c width.Byte g)
    by_protect np (inl is) = let P : ℕ → Type 0 = λ x. Leaves b row h m next i t a e
        (read x width.Byte g) in
        subst P (sym is) (λ k. protect_read_edges b row h m next i t g a e k)
    by_protect np (inr nw) = byte_read_edges b row h m next i t a e c g np nw

    by_page : (c ≡ page_code) ⊎ (c ≡ page_code → ⊥)
        → Leaves b row h m next i t a e (read c width.Byte g)
    by_page (inl is) =
        let P : ℕ → Type 0 = λ x. Leaves b row h m next i t a e (read x width.Byte g) in
        subst P (sym is) (λ k. page_read_edges b row h m next i t g a e k)
    by_page (inr np) = by_protect np (cases_eq c write_protect_code)
edges_by b row h m next i t a e r (Read c width.Word g ok lt) k =
    by_code (cases_eq c status_word_code) k
  where
    by_code : (c ≡ status_word_code) ⊎ (c ≡ status_word_code → ⊥)
        → Leaves b row h m next i t a e (read c width.Word g)
    by_code (inl is) =
        let P : ℕ → Type 0 = λ x. Leaves b row h m next i t a e (read x width.Word g) in
        subst P (sym is) (λ k. status_edges b row h m next i t g a e k)
    by_code (inr ns) = word_read_edges b row h m next i t a e c g ns

pub request_edges : (b : Board) (row : Row) (h : List Entry) (m next : Machine) (i : ℕ) (t : Target)
    (a : Answered) (e : Entry) (r : Transaction) → Leaves b row h m next i t a e r
request_edges b row h m next i t a e r k = edges_by b row h m next i t a e r k.request k
