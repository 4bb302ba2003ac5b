-- The edges of a message: those of a row that covers another cover the other's.
use Rattle.std.proofs.Common.{◌≡◌, ℕ, suc, ◌<◌, ◌≤◌, List, [], ◌∷◌, length, refl, ap, sym, subst}
use Rattle.std.proofs.Common.{inl, inr, arith, Bool, true, not, ◌&&◌}
use Rattle.std.proofs.lemmas.Bool.{cond_both}
use Rattle.std.specs.Prelude.{◌==◌, IfSome, Option, Some, None}
use Rattle.pmbus_table.specs.Codes.{page_code, operation_code, write_protect_code}
use Rattle.pmbus_table.specs.Codes.{status_word_code}
use Rattle.pmbus_table.specs.Operation.{enables}
use Rattle.smbus.specs.declared.message.Form.{Form}
use Rattle.smbus.specs.declared.message.Form.TheVariants as form
use Rattle.board.specs.Boards.{Board}
use Rattle.board.specs.Valid.{IsBoard}
use Rattle.seq_program.specs.declared.instr.Instr.{Instr}
use Rattle.seq_program.specs.declared.instr.Instr.TheVariants as instr
use Rattle.seq_program.specs.declared.instr.Written.TheVariants as written
use Rattle.seq_program.specs.Valid.{IsInstr}
use Rattle.facts.specs.declared.domain.source.Source.{Source}
use Rattle.facts.specs.declared.domain.source.Source.TheVariants as source
use Rattle.facts.specs.domain.Sets.{only}
use Rattle.facts.specs.domain.Rows.{Row, set_at, SourceCovers, RowCovers}
use Rattle.seq_program.specs.Requests.{Content, Value, Block, Transaction, request_in}
use Rattle.seq_program.specs.Requests.{code_in}
use Rattle.seq_program.specs.Requests.{Nothing as NoContent}
use Rattle.facts.specs.duties.Duties.{is_touched}
use Rattle.facts.specs.transfer.Edges.{Effect, SetsPage, SetsProtect, TurnsOff, ReadsStatus}
use Rattle.facts.specs.transfer.Edges.{ReadsPage}
use Rattle.facts.specs.transfer.Edges.{ReadsProtect, Loads, Nothing, content_effect, effect_by}
use Rattle.facts.specs.transfer.Edges.{effect_of}
use Rattle.facts.specs.transfer.Edges.{done_row, else_row, clear}
use Rattle.facts.specs.transfer.Edges.{byte_effect, word_effect, read_effect}
use Rattle.facts.specs.transfer.Edges.{without_touched, is_status_of, status_source, loaded, bounds}
use Rattle.facts.specs.FactLaws.{IsShaped, Wider}
use Rattle.facts.proofs.Shared.Places.{found, is_target, page_small, protect_small}
use Rattle.facts.proofs.Covered.RowMoves.{page_covers, protect_covers, touched_kept, reg_covers}
use Rattle.facts.proofs.Covered.RowMoves.{in_sources}
use Rattle.facts.proofs.Covered.RowMoves.{or_covers}
use Rattle.facts.proofs.Covered.SetBounds.{bounds_cover, status_covers}

-- what is read goes to a register
abbrev pub FitsRequest : Transaction → Type 0
FitsRequest x = IfSome x.register (λ r. r < 8)

pub fits_sent : (i : Instr) → IsInstr i → IfSome (request_in i) (λ x. FitsRequest x.transaction)
fits_sent (instr.Quick t read l) k = tt
fits_sent (instr.Send t c l) k = tt
fits_sent (instr.Receive t r l) k = k
fits_sent (instr.Write t c v l) k = tt
fits_sent (instr.Read t c w r l) k = k.1
fits_sent (instr.Call t c v r l) k = k.2
fits_sent (instr.BlockWrite t c bytes l) k = tt
fits_sent (instr.BlockRead t c r l) k = k.1
fits_sent (instr.BlockCall t c bytes r l) k = k.2
fits_sent (instr.Alert r l) k = tt
fits_sent (instr.IfAlert l) k = tt
fits_sent (instr.Set r v) k = tt
fits_sent (instr.Add r v) k = tt
fits_sent (instr.If r m v l) k = tt
fits_sent (instr.Above r v l) k = tt
fits_sent (instr.Count c v) k = tt
fits_sent (instr.Again c l) k = tt
fits_sent (instr.Wait t) k = tt
fits_sent (instr.Goto l) k = tt
fits_sent instr.End k = tt
fits_sent instr.Fail k = tt

abbrev pub FitsEffect : Effect → Type 0
FitsEffect (ReadsStatus r) = r < 8
FitsEffect (ReadsPage r) = r < 8
FitsEffect (ReadsProtect r) = r < 8
FitsEffect (Loads r) = r < 8
FitsEffect (SetsPage v) = Unit {0}
FitsEffect (SetsProtect v) = Unit {0}
FitsEffect TurnsOff = Unit {0}
FitsEffect Nothing = Unit {0}

-- what holds of the effects of a byte, of a word and of any other holds of what a form reads
pub read_has : (P : Effect → Type 0) (f : Form) (c r : ℕ) → P (byte_effect c r)
    → P (word_effect c r) → P (Loads r) → P (read_effect f c r)
read_has P form.ReadByte c r byte word other = byte
read_has P form.ReadWord c r byte word other = word
read_has P (form.Quick reads) c r byte word other = other
read_has P form.SendByte c r byte word other = other
read_has P form.ReceiveByte c r byte word other = other
read_has P form.WriteByte c r byte word other = other
read_has P form.WriteWord c r byte word other = other
read_has P form.ProcessCall c r byte word other = other
read_has P form.BlockWrite c r byte word other = other
read_has P form.BlockRead c r byte word other = other
read_has P form.BlockProcessCall c r byte word other = other
read_has P form.Alert c r byte word other = other

fits_content : (c : ℕ) (content : Content) → FitsEffect (content_effect c content)
fits_content c (Value (written.Byte v)) =
    cond_both (c == page_code) (SetsPage v) _ FitsEffect (λ _. tt) (λ _.
    cond_both (c == write_protect_code) (SetsProtect v) _ FitsEffect (λ _. tt) (λ _.
    cond_both ((c == operation_code) && not (enables v)) TurnsOff Nothing FitsEffect (λ _. tt)
    (λ _. tt)))
fits_content c (Value (written.Word v)) = tt
fits_content c (Value (written.Register v)) = tt
fits_content c NoContent = tt
fits_content c (Block bytes) = tt

fits_by : (x : Transaction) (g : Option ℕ) → IfSome g (λ r. r < 8) → FitsEffect (effect_by x g)
fits_by x None k = fits_content (code_in x) x.content
fits_by x (Some r) k =
    let c = code_in x in
    read_has FitsEffect x.form c r
    (cond_both (c == page_code) (ReadsPage r) _ FitsEffect (λ _. k) (λ _.
    cond_both (c == write_protect_code) (ReadsProtect r) (Loads r) FitsEffect (λ _. k) (λ _. k)))
    (cond_both (c == status_word_code) (ReadsStatus r) (Loads r) FitsEffect (λ _. k) (λ _. k)) k

pub fits_effect : (x : Transaction) → FitsRequest x → FitsEffect (effect_of x)
fits_effect x k = fits_by x x.register k

-- the numbers of a row's sets
pub some_page : (b : Board) (row : Row) (i : ℕ) → IsBoard b → IsShaped b row → i < length b.targets
    → (v : ℕ) × (v ≤ 255) × (set_at row.pages i v ≡ true)
some_page b row i board shaped at' =
    let t = found b.targets i at' in
    let has = shaped.pages i t.0 t.1 in
    let small = page_small t.0 has.some.0 (is_target b i t.0 board t.1)
    (has.each has.some.0 has.some.1) in
    (has.some.0, omega (arith, small), has.some.1)

pub some_protect : (b : Board) (row : Row) (i : ℕ) → IsShaped b row → i < length b.targets
    → (v : ℕ) × (v ≤ 255) × (set_at row.protects i v ≡ true)
some_protect b row i shaped at' =
    let has = shaped.protects i at' in
    let small = protect_small has.some.0 (has.each has.some.0 has.some.1) in
    (has.some.0, omega (arith, small), has.some.1)

pub length_clear : (p : Source → Bool) (ss : List Source) → length (clear p ss) ≡ length ss
length_clear p [] = refl
length_clear p (s ∷ ss) = ap suc (length_clear p ss)

cleared_inside : (b : Board) (row : Row) (p : Source → Bool) (r : ℕ) → IsShaped b row → r < 8
    → r < length (clear p row.sources)
cleared_inside b row p r k lt = let L : ℕ → Type 0 = λ n. r < n in
    subst L (sym (length_clear p row.sources)) (in_sources b row r k lt)

pub done_covers : (b : Board) (s u : Row) (t : ℕ) (w : Transaction) (e : Effect) → IsBoard b
    → Wider b s u → t < length b.targets → FitsEffect e
    → RowCovers b (done_row b s t w e) (done_row b u t w e)
unfolding status_source
done_covers b s u t w (SetsPage v) board k at' f = page_covers b s u t (only v) (only v) k at'
    (λ x h. h)
done_covers b s u t w (SetsProtect v) board k at' f =
    protect_covers b s u t (only v) (only v) k at' (λ x h. h)
done_covers b s u t w TurnsOff board k at' f = touched_kept b s u t k at'
done_covers b s u t w (ReadsStatus r) board k at' f =
    let has = some_page b u t board k.right at' in
    reg_covers b (without_touched b s t) (without_touched b u t) r (loaded b t w) (loaded b t w)
    (status_source b s t) (status_source b u t) (touched_kept b s u t k at')
    (cleared_inside b s (is_status_of (is_touched b s t)) r k.left f)
    (cleared_inside b u (is_status_of (is_touched b u t)) r k.right f)
    (omega arith, omega arith)
    (origin has.0 has.1 has.2)
  where
    origin : (v : ℕ) → v ≤ 255 → set_at u.pages t v ≡ true
        → SourceCovers (status_source b s t) (status_source b u t)
    origin v small h = status_covers b (set_at s.pages t) (set_at u.pages t) t v small h
        (k.covers.pages t at')
done_covers b s u t w (ReadsPage r) board k at' f =
    let has = some_page b u t board k.right at' in
    reg_covers b s u r (bounds (set_at s.pages t)) (bounds (set_at u.pages t)) (source.Page t)
    (source.Page t) k.covers (in_sources b s r k.left f) (in_sources b u r k.right f)
    (bounds_cover (set_at s.pages t) (set_at u.pages t) has.0 has.1 has.2
    (k.covers.pages t at')) (inr refl)
done_covers b s u t w (ReadsProtect r) board k at' f =
    let has = some_protect b u t k.right at' in
    reg_covers b s u r (bounds (set_at s.protects t)) (bounds (set_at u.protects t))
    (source.Protect t) (source.Protect t) k.covers (in_sources b s r k.left f)
    (in_sources b u r k.right f)
    (bounds_cover (set_at s.protects t) (set_at u.protects t) has.0 has.1 has.2
    (k.covers.protects t at')) (inr refl)
done_covers b s u t w (Loads r) board k at' f =
    reg_covers b s u r (loaded b t w) (loaded b t w) source.None source.None k.covers
    (in_sources b s r k.left f) (in_sources b u r k.right f) (omega arith, omega arith)
    (inl refl)
done_covers b s u t w Nothing board k at' f = k.covers

pub else_covers : (b : Board) (s u : Row) (t : ℕ) (e : Effect) → Wider b s u
    → t < length b.targets → RowCovers b (else_row b s t e) (else_row b u t e)
else_covers b s u t (SetsPage v) k at' = page_covers b s u t _ _ k at'
    (or_covers (set_at s.pages t) (set_at u.pages t) v (k.covers.pages t at'))
else_covers b s u t (SetsProtect v) k at' = protect_covers b s u t _ _ k at'
    (or_covers (set_at s.protects t) (set_at u.protects t) v (k.covers.protects t at'))
else_covers b s u t TurnsOff k at' = touched_kept b s u t k at'
else_covers b s u t (ReadsStatus r) k at' = touched_kept b s u t k at'
else_covers b s u t (ReadsPage r) k at' = k.covers
else_covers b s u t (ReadsProtect r) k at' = k.covers
else_covers b s u t (Loads r) k at' = k.covers
else_covers b s u t Nothing k at' = k.covers
