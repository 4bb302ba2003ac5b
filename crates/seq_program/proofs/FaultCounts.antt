-- Faults that are kept and counted.
use Rattle.std.proofs.Common.{◌≡◌, ◌<◌, ◌≤◌, ◌+◌, ◌-◌, ◌⊎◌, ℕ, zero, suc, List, [], ◌∷◌, ◌++◌}
use Rattle.std.proofs.Common.{length, take, refl, sym, ap, ◌∙◌, inl, inr, append_assoc, arith}
use Rattle.std.proofs.lemmas.List.{append-nil, length-append}
use Rattle.seq_program.specs.declared.fault.ProgramFault.{ProgramFault}
use Rattle.seq_program.specs.declared.faulty_lines.LineFaults.{LineFaults}
use Rattle.seq_program.specs.FaultCounts.{IsOneMore}

-- of all faults these were met, and those of the rest are to come
pub record AreSoFar (most : ℕ) (all : List ProgramFault) (met : LineFaults)
    (rest : List ProgramFault) : Type 0 where
  pub firsts : take most all ≡ met.first.items ++ take (most - length met.first.items) rest
  pub count : length all ≡ length met.first.items + met.more + length rest
  pub room : length met.first.items ≤ most
  pub full : (met.more ≡ 0) ⊎ (length met.first.items ≡ most)

kept : (most n : ℕ) (f : ProgramFault) (xs rest all : List ProgramFault) → n < most
    → all ≡ xs ++ take (most - n) (f ∷ rest)
    → all ≡ (xs ++ f ∷ []) ++ take (most - (n + 1)) rest
kept zero n f xs rest all lt is = absurd (omega (arith, lt))
kept (suc most) n f xs rest all lt is =
    let cut : suc most - n ≡ suc (suc most - (n + 1)) = omega (arith, lt) in
    is ∙ ap (λ k. xs ++ take k (f ∷ rest)) cut
    ∙ sym (append_assoc xs (f ∷ []) (take (suc most - (n + 1)) rest))

-- one fault more is met
pub one_more : (most : ℕ) (all : List ProgramFault) (old new : LineFaults) (f : ProgramFault)
    (rest : List ProgramFault) → AreSoFar most all old (f ∷ rest) → IsOneMore most f old new
    → AreSoFar most all new rest
one_more most all old new f rest h (inl is) =
    let n : length new.first.items ≡ length old.first.items + 1 =
    ap length is.1 ∙ length-append old.first.items (f ∷ []) in
    let lt = is.0 in
    let same = is.2 in
    let count = h.count in
    record {
      firsts = kept most (length old.first.items) f old.first.items rest _ lt h.firsts
          ∙ ap (λ (xs : List ProgramFault). xs ++ take (most - (length old.first.items + 1)) rest)
          (sym is.1)
          ∙ ap (λ k. new.first.items ++ take (most - k) rest) (sym n);
      count = omega (arith, n, same, count);
      room = omega (arith, n, lt);
      full = inl (empty h.full);
    }
  where
    empty : (old.more ≡ 0) ⊎ (length old.first.items ≡ most) → new.more ≡ 0
    empty (inl none) = is.2 ∙ none
    empty (inr full) = let lt = is.0 in absurd (omega (arith, full, lt))
one_more most all old new f rest h (inr is) =
    let le = is.0 in
    let more = is.2 in
    let count = h.count in
    let room = h.room in
    let n : length new.first.items ≡ length old.first.items = ap length is.1 in
    let none : most - length old.first.items ≡ 0 = omega (arith, le) in
    record {
      firsts = h.firsts
          ∙ ap (λ k. old.first.items ++ take k (f ∷ rest)) none
          ∙ ap (λ (xs : List ProgramFault). xs ++ []) (sym is.1)
          ∙ ap (λ k. new.first.items ++ take k rest) (sym none)
          ∙ ap (λ k. new.first.items ++ take (most - k) rest) (sym n);
      count = omega (arith, n, more, count);
      room = omega (arith, n, room);
      full = inr (omega (arith, n, le, room));
    }

-- none is to come
pub all_met : (most : ℕ) (all : List ProgramFault) (met : LineFaults) → AreSoFar most all met []
    → (met.first.items ≡ take most all) × (met.more ≡ length all - most)
all_met most all met h =
    let count = h.count in (
      sym (h.firsts ∙ ap (λ (xs : List ProgramFault). met.first.items ++ xs) (nothing _)
          ∙ append-nil met.first.items),
      by h.full,
    )
  where
    none : List ProgramFault
    none = []

    nothing : (k : ℕ) → take k none ≡ none
    nothing zero = refl
    nothing (suc k) = refl

    by : (met.more ≡ 0) ⊎ (length met.first.items ≡ most) → met.more ≡ length all - most
    by (inl none) =
        let count = h.count in
        let room = h.room in
        omega (arith, count, room, none)
    by (inr full) =
        let count = h.count in
        omega (arith, count, full)
