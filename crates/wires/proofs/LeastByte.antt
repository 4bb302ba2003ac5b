-- The byte on the wire is the least of those sent.
use Rattle.std.proofs.Common.{◌≡◌, ◌≤◌, ◌<◌, ℕ, suc, List, [], ◌∷◌, inl, inr, All}
use Rattle.std.proofs.Common.{refl, sym, subst, arith}
use Rattle.std.specs.List.{Contains, AllByRecursion}
use Rattle.std.proofs.lemmas.Bool.{cases_lt}
use Rattle.std.proofs.lemmas.List.Elements.{All-from_recursion}
use Rattle.wires.specs.Arbitration.{wire_byte, winners_of}
use Rattle.wires.specs.ArbitrationLaws.{senders_of, GoesToLeast, LeastByteWins}
use Rattle.wires.proofs.BitByBit.{is_wire_byte}

record HasLeast (sent : List ℕ) : Type 0 where
  pub byte : ℕ
  pub all : AllByRecursion (λ b. byte ≤ b) sent
  pub some : Contains sent byte

above : (low high : ℕ) (sent : List ℕ) → low ≤ high → AllByRecursion (λ b. high ≤ b) sent
    → AllByRecursion (λ b. low ≤ b) sent
above low high [] le all = tt
above low high (b ∷ sent) le all =
    let first : high ≤ b = all.0 in
    (omega arith, above low high sent le all.1)

-- the first byte, or the least of the others
least_of : (b : ℕ) (sent : List ℕ) → HasLeast (b ∷ sent)
least_of b [] =
    record { byte = b; all = (omega arith, tt); some = (0, omega arith, refl) }
least_of b (c ∷ sent) =
    let h = least_of c sent in
    elim (cases_lt h.byte b) [
      | inl lt ↦ record {
        byte = h.byte;
        all = (omega arith, h.all);
        some = (suc h.some.0, omega (arith, h.some.1), h.some.2);
      }
      | inr le ↦ record {
        byte = b;
        all = (omega arith, above b h.byte (c ∷ sent) le h.all);
        some = (0, omega arith, refl);
      }
    ]

goes_to : (sent : List ℕ) → All (λ b. b < 256) sent → HasLeast sent → GoesToLeast sent
goes_to sent bytes h =
    let all = All-from_recursion (λ b. h.byte ≤ b) sent h.all in
    let wins = is_wire_byte sent h.byte bytes all h.some in
    let same : h.byte ≡ wire_byte sent = wins.0 in
    record {
      some_sent = subst (λ (n : ℕ). Contains sent n) same h.some;
      least = subst (λ (n : ℕ). All (λ b. n ≤ b) sent) same all;
      winners = sym (subst (λ (n : ℕ). senders_of n sent ≡ winners_of sent) same wins.1);
    }

pub least_byte_wins : LeastByteWins
least_byte_wins [] bytes some = absurd (some refl)
least_byte_wins (b ∷ sent) bytes some = goes_to (b ∷ sent) bytes (least_of b sent)
