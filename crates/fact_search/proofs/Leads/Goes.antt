-- Where the edges of a place lead: to the next place, or to where its instruction may jump.
use Rattle.std.proofs.Common.{◌≡◌, ℕ, ◌+◌, ◌-◌, ◌<◌, ◌⊎◌, List, ◌++◌, length, refl, ap, sym, ◌∙◌}
use Rattle.std.proofs.Common.{subst, inl, inr, arith, true, false}
use Rattle.std.proofs.lemmas.Bool.{false≢true, cases_eq}
use Rattle.std.specs.Prelude.{slice_get, Option, Some, None, IfSome, IsTrue, ◌==◌, nat_lt, nat_le}
use Rattle.board.specs.Boards.{Board}
use Rattle.seq_program.specs.declared.instr.Instr.{Instr}
use Rattle.seq_program.specs.declared.instr.Instr.TheVariants as instr
use Rattle.seq_program.specs.Programs.{is_end}
use Rattle.seq_program.specs.Requests.{else_in}
use Rattle.seq_program.specs.Valid.{IsProgram, jump_in}
use Rattle.facts.specs.declared.domain.span.Span.{Span}
use Rattle.facts.specs.domain.Rows.{Row, span_at}
use Rattle.facts.specs.transfer.Edges.{Edge, edges, edge_if, if_may_jump, if_jump_row, if_may_go_on}
use Rattle.facts.specs.transfer.Edges.{if_next_row}
use Rattle.facts.specs.transfer.Edges.{lost_edges, lost_row}
use Rattle.facts.specs.transfer.TimedEdges.{HasTimed, timed_edges}
use Rattle.fact_search.specs.Forward.{IsForward}
use Rattle.fact_search.proofs.Shared.Places.{all_at, none_some, within}
use Rattle.fact_search.proofs.Leads.Has.{HasEdge, IsLost, IsOwn, own_or_lost}
use Rattle.fact_search.proofs.Leads.Has.{one_has, two_have, ifs_have, has_if, has_possible}

abbrev pub GoesTo : ℕ → Instr → Edge → Type 0
GoesTo n i x = (is_end i ≡ false) × ((x.to ≡ n + 1) ⊎ (jump_in i ≡ Some x.to))

own_goes : (b : Board) (n : ℕ) (i : Instr) (row : Row) (x : Edge) → HasEdge (edges b n i row) x
    → GoesTo n i x
own_goes b n (instr.Quick t read l) row x h =
    two_have (GoesTo n (instr.Quick t read l)) (n + 1) l _ _ x (refl, inl refl) (refl, inr refl) h
own_goes b n (instr.Send t c l) row x h =
    two_have (GoesTo n (instr.Send t c l)) (n + 1) l _ _ x (refl, inl refl) (refl, inr refl) h
own_goes b n (instr.Receive t r l) row x h =
    two_have (GoesTo n (instr.Receive t r l)) (n + 1) l _ _ x (refl, inl refl) (refl, inr refl) h
own_goes b n (instr.Write t c v l) row x h =
    two_have (GoesTo n (instr.Write t c v l)) (n + 1) l _ _ x (refl, inl refl) (refl, inr refl) h
own_goes b n (instr.Read t c w r l) row x h =
    two_have (GoesTo n (instr.Read t c w r l)) (n + 1) l _ _ x (refl, inl refl) (refl, inr refl) h
own_goes b n (instr.Call t c v r l) row x h =
    two_have (GoesTo n (instr.Call t c v r l)) (n + 1) l _ _ x (refl, inl refl) (refl, inr refl) h
own_goes b n (instr.BlockWrite t c bytes l) row x h =
    two_have (GoesTo n (instr.BlockWrite t c bytes l)) (n + 1) l _ _ x (refl, inl refl)
    (refl, inr refl) h
own_goes b n (instr.BlockRead t c r l) row x h =
    two_have (GoesTo n (instr.BlockRead t c r l)) (n + 1) l _ _ x (refl, inl refl)
    (refl, inr refl) h
own_goes b n (instr.BlockCall t c bytes r l) row x h =
    two_have (GoesTo n (instr.BlockCall t c bytes r l)) (n + 1) l _ _ x (refl, inl refl)
    (refl, inr refl) h
own_goes b n (instr.Alert r l) row x h =
    two_have (GoesTo n (instr.Alert r l)) (n + 1) l _ _ x (refl, inl refl) (refl, inr refl) h
own_goes b n (instr.IfAlert l) row x h =
    two_have (GoesTo n (instr.IfAlert l)) l (n + 1) _ _ x (refl, inr refl) (refl, inl refl) h
own_goes b n (instr.Set r v) row x h = one_has (GoesTo n (instr.Set r v)) (n + 1) _ x
    (refl, inl refl) h
own_goes b n (instr.Add r v) row x h = one_has (GoesTo n (instr.Add r v)) (n + 1) _ x
    (refl, inl refl) h
own_goes b n (instr.Count c v) row x h = one_has (GoesTo n (instr.Count c v)) (n + 1) _ x
    (refl, inl refl) h
own_goes b n (instr.Wait t) row x h =
    one_has (GoesTo n (instr.Wait t)) (n + 1) _ x (refl, inl refl) h
own_goes b n (instr.If r m v l) row x h =
    let jumps = if_may_jump (span_at row.regs r) m v in
    let on = if_may_go_on (span_at row.regs r) m v in
    ifs_have (GoesTo n (instr.If r m v l)) jumps on l (n + 1) (if_jump_row row r m v)
    (if_next_row row r m v) x
    (λ _. (refl, inr refl)) (λ _. (refl, inl refl))
    (has_possible row r (edge_if jumps l (if_jump_row row r m v) ++ edge_if on (n + 1)
    (if_next_row row r m v)) x h).0
own_goes b n (instr.Above r v l) row x h =
    ifs_have (GoesTo n (instr.Above r v l)) (nat_lt v (Span.hi (span_at row.regs r)))
    (nat_le (Span.lo (span_at row.regs r)) v) l (n + 1) _ _ x (λ _. (refl, inr refl))
    (λ _. (refl, inl refl)) h
own_goes b n (instr.Again c l) row x h =
    ifs_have (GoesTo n (instr.Again c l)) (nat_le 1 (Span.hi (span_at row.counters c)))
    (Span.lo (span_at row.counters c) == 0) l (n + 1) _ _ x (λ _. (refl, inr refl))
    (λ _. (refl, inl refl)) h
own_goes b n (instr.Goto l) row x h = one_has (GoesTo n (instr.Goto l)) l _ x (refl, inr refl) h
own_goes b n instr.End row x h = absurd h
own_goes b n instr.Fail row x h = absurd h

-- an `else` label is where an instruction may jump to that doesn't end
else_jumps : (i : Instr) (l : ℕ) → else_in i ≡ Some l → (is_end i ≡ false) × (jump_in i ≡ Some l)
else_jumps (instr.Quick t read o) l e = (refl, e)
else_jumps (instr.Send t c o) l e = (refl, e)
else_jumps (instr.Receive t r o) l e = (refl, e)
else_jumps (instr.Write t c v o) l e = (refl, e)
else_jumps (instr.Read t c w r o) l e = (refl, e)
else_jumps (instr.Call t c v r o) l e = (refl, e)
else_jumps (instr.BlockWrite t c bytes o) l e = (refl, e)
else_jumps (instr.BlockRead t c r o) l e = (refl, e)
else_jumps (instr.BlockCall t c bytes r o) l e = (refl, e)
else_jumps (instr.Alert r o) l e = (refl, e)
else_jumps (instr.IfAlert o) l e = absurd (none_some l e)
else_jumps (instr.Set r v) l e = absurd (none_some l e)
else_jumps (instr.Add r v) l e = absurd (none_some l e)
else_jumps (instr.Count c v) l e = absurd (none_some l e)
else_jumps (instr.Wait t) l e = absurd (none_some l e)
else_jumps (instr.If r m v o) l e = absurd (none_some l e)
else_jumps (instr.Above r v o) l e = absurd (none_some l e)
else_jumps (instr.Again c o) l e = absurd (none_some l e)
else_jumps (instr.Goto o) l e = absurd (none_some l e)
else_jumps instr.End l e = absurd (none_some l e)
else_jumps instr.Fail l e = absurd (none_some l e)

-- the edge of a lost arbitration is from an `else` label's row
pub lost_is : (b : Board) (o : Option ℕ) (row : Row) (x : Edge) → HasEdge (lost_edges b o row) x
    → (o ≡ Some x.to) × (x.row ≡ lost_row b row) × (nat_lt row.lost.lo b.contentions ≡ true)
lost_is b None row x h = absurd h
lost_is b (Some l) row x h =
    let z = has_if (nat_lt row.lost.lo b.contentions) l (lost_row b row) x h in (
      ap (λ (y : Edge). Some y.to) (sym z.1),
      ap (λ (y : Edge). y.row) z.1,
      z.0,
    )

pub goes : (b : Board) (n : ℕ) (i : Instr) (row : Row) (x : Edge) (ticks : ℕ)
    → HasTimed (timed_edges b n i row) x ticks → GoesTo n i x
goes b n i row x ticks h = go (own_or_lost b n i row x ticks h)
  where
    go : IsOwn b n i row x ticks ⊎ IsLost b i row x ticks → GoesTo n i x
    go (inl own) = own_goes b n i row x own.0
    go (inr lost) =
        let z = else_jumps i x.to (lost_is b (else_in i) row x lost.0).0 in (z.0, inr z.1)

of_some : (P : ℕ → Type 0) (o : Option ℕ) (l : ℕ) → o ≡ Some l → IfSome o P → P l
of_some P o l e k = let Q : Option ℕ → Type 0 = λ z. IfSome z P in subst Q e k

-- a place whose instruction doesn't end isn't the last one
not_last : (p : List Instr) (n : ℕ) (i : Instr) → IsProgram p → slice_get p n ≡ Some i
    → is_end i ≡ false
    → n + 1 < length p
not_last p n i program here goes_on = go (cases_eq (n + 1) (length p))
  where
    inside : n < length p
    inside = within p n i here

    go : (n + 1 ≡ length p) ⊎ (n + 1 ≡ length p → ⊥) → n + 1 < length p
    go (inr apart) = omega (arith, apart, inside)
    go (inl e) =
        let last : length p - 1 ≡ n = omega (arith, e) in
        let Q : Option Instr → Type 0 = λ z. IfSome z (λ j. IsTrue (is_end j)) in
        let ends : IsTrue (is_end i) = subst Q (ap (slice_get p) last ∙ here) program.last in
        absurd (false≢true (sym goes_on ∙ ends))

-- within the program
pub inside : (b : Board) (p : List Instr) (n : ℕ) (i : Instr) (row : Row) (x : Edge) (ticks : ℕ)
    → IsProgram p → slice_get p n ≡ Some i → HasTimed (timed_edges b n i row) x ticks
    → x.to < length p
inside b p n i row x ticks program here h = go (goes b n i row x ticks h)
  where
    go : GoesTo n i x → x.to < length p
    go (on, inl next) = let more = not_last p n i program here on in omega (arith, next, more)
    go (on, inr jump) =
        of_some (λ place. place < length p) (jump_in i) x.to jump
        (all_at (λ (j : Instr). IfSome (jump_in j) (λ place. place < length p)) p n i
        program.jumps here)

-- of a forward program: onward
pub onward : (b : Board) (p : List Instr) (n : ℕ) (i : Instr) (row : Row) (x : Edge) (ticks : ℕ)
    → IsForward p → slice_get p n ≡ Some i → HasTimed (timed_edges b n i row) x ticks
    → n < x.to
onward b p n i row x ticks forward here h = go (goes b n i row x ticks h)
  where
    go : GoesTo n i x → n < x.to
    go (on, inl next) = omega (arith, next)
    go (on, inr jump) = of_some (λ place. n < place) (jump_in i) x.to jump (forward n i here)
