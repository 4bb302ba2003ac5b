-- A byte and its bits.
use Rattle.std.proofs.Common.{◌≡◌, ℕ, zero, suc, ◌+◌, ◌-◌, ◌*◌, ◌/◌, ◌%◌, ◌^◌, ◌<◌, ◌≤◌, ◌==◌, inl}
use Rattle.std.proofs.Common.{inr, Bool, true, false, not, if◌then◌else◌, List, [], ◌∷◌, ◌++◌}
use Rattle.std.proofs.Common.{length, take, drop, get_or, refl, sym, ap, ◌∙◌, arith}
use Rattle.std.proofs.lemmas.Bool.{cases_Bool, eqb-true}
use Rattle.std.proofs.lemmas.Bool.Decides.{nat_tests}
use Rattle.std.proofs.lemmas.List.{length-take, take_more, take_all, at_drop_more, at_drop_all}
use Rattle.std.proofs.lemmas.Nat.{mod-pow-add, mod_below}
use Rattle.std.proofs.lemmas.Nat.Bits.{bit_at_cat_low, bit_at_cat_high}
use native.Mathlib.Numerals.{unary_clauses}
use mir.Val.{bool_byte}
use Rattle.std.specs.Int.{bit_at}
use Rattle.wires.specs.Bits.{bit, bits_of, number_of}
use Rattle.smbus.specs.Frames.{byte_bits}
use Rattle.smbus.specs.Machine.{byte_of}

pub length-bits_of : (k n : ℕ) → length (bits_of k n) ≡ k
length-bits_of zero n = refl
length-bits_of (suc k) n = ap suc (length-bits_of k n)

top : (n k : ℕ) → n % 2 ^ suc k ≡ (n / 2 ^ k % 2) * 2 ^ k + n % 2 ^ k
top n k = let e : suc k ≡ 1 + k = omega arith in rw e (mod-pow-add n 1 k)

bit_zero : (b : ℕ) → b < 2 → (b == 1) ≡ false → b ≡ 0
bit_zero b lt h = grind (arith, nat_tests)

pub number_of-bits_of : (k n : ℕ) → number_of (bits_of k n) ≡ n % 2 ^ k
number_of-bits_of zero n = let b : n % 1 < 1 = mod_below n 1 (omega arith) in omega arith
number_of-bits_of (suc k) n =
    let t = top n k in
    let ih = number_of-bits_of k n in
    let l = length-bits_of k n in
    elim (cases_Bool (bit n k)) [
      | inl h ↦
          let e : n / 2 ^ k % 2 ≡ 1 = eqb-true _ _ h in
          let t' : n % 2 ^ suc k ≡ 1 * 2 ^ k + n % 2 ^ k = rw e at t in
          rw (h, l) (omega arith)
      | inr f ↦
          let e : n / 2 ^ k % 2 ≡ 0 = bit_zero _ (mod_below _ 2 (omega arith)) f in
          let t' : n % 2 ^ suc k ≡ 0 * 2 ^ k + n % 2 ^ k = rw e at t in
          rw f (omega arith)
    ]

pub number_of-lt : (bits : List Bool) → number_of bits < 2 ^ length bits
number_of-lt [] = omega arith
number_of-lt (true ∷ bits) =
    let h = number_of-lt bits in
    let p : 2 ^ suc (length bits) ≡ 2 ^ length bits * 2 = simp unary_clauses in
    omega arith
number_of-lt (false ∷ bits) =
    let h = number_of-lt bits in
    let p : 2 ^ suc (length bits) ≡ 2 ^ length bits * 2 = simp unary_clauses in
    omega arith

low_bits : (j k a b : ℕ) → j ≤ k → bits_of j (a * 2 ^ k + b) ≡ bits_of j b
low_bits zero k a b le = refl
low_bits (suc j) k a b le =
    let e : bit_at (a * 2 ^ k + b) j ≡ bit_at b j = bit_at_cat_low a k b j (omega arith) in
    rw (e, low_bits j k a b (omega arith)) refl

high_bit : (k a b : ℕ) → b < 2 ^ k → bit_at (a * 2 ^ k + b) k ≡ a % 2
high_bit k a b lt =
    let z : k - k ≡ 0 = omega arith in
    bit_at_cat_high a k b k lt (omega arith) ∙ rw z (let o : a / 1 ≡ a = omega arith in rw o refl)

pub bits_of-number_of : (bits : List Bool) → bits_of (length bits) (number_of bits) ≡ bits
bits_of-number_of [] = refl
bits_of-number_of (true ∷ bits) =
    let e : 2 ^ length bits + number_of bits ≡ 1 * 2 ^ length bits + number_of bits = omega arith in
    rw (
      e,
      high_bit (length bits) 1 (number_of bits) (number_of-lt bits),
      low_bits (length bits) (length bits) 1 (number_of bits) (omega arith),
    ) (ap (λ (l : List Bool). true ∷ l) (bits_of-number_of bits))
bits_of-number_of (false ∷ bits) =
    let e : 0 + number_of bits ≡ 0 * 2 ^ length bits + number_of bits = omega arith in
    rw (
      e,
      high_bit (length bits) 0 (number_of bits) (number_of-lt bits),
      low_bits (length bits) (length bits) 0 (number_of bits) (omega arith),
    ) (ap (λ (l : List Bool). false ∷ l) (bits_of-number_of bits))

-- only the lowest eight bits of a number are sent
pub byte_bits-mod : (n : ℕ) (a : Bool) → byte_bits (n % 256, a) ≡ byte_bits (n, a)
unfolding byte_bits
byte_bits-mod n a =
    let e : n ≡ n / 256 * 2 ^ 8 + n % 256 = omega arith in
    let b : bits_of 8 n ≡ bits_of 8 (n % 256) =
    ap (bits_of 8) e ∙ low_bits 8 8 (n / 256) (n % 256) (omega arith) in
    ap (λ (l : List Bool). l ++ not a ∷ []) (sym b)

pub length-byte_bits : (b : ℕ × Bool) → length (byte_bits b) ≡ 9
unfolding byte_bits
length-byte_bits b = refl

not-not : (b : Bool) → not (not b) ≡ b
not-not true = refl
not-not false = refl

pub byte_of-byte_bits : (b : ℕ × Bool) → b.0 < 256 → byte_of (byte_bits b) ≡ b
unfolding byte_bits byte_of
byte_of-byte_bits b lt =
    let n : number_of (bits_of 8 b.0) ≡ b.0 % 256 = number_of-bits_of 8 b.0 in
    let m : b.0 % 256 ≡ b.0 = omega arith in
    let e : number_of (bits_of 8 b.0) ≡ b.0 = n ∙ m in
    rw (not-not b.1) (ap (λ (x : ℕ). (x, b.1)) e)

nine : (bits : List Bool) → length bits ≡ 9
    → bits_of 8 (number_of (take 8 bits)) ++ not (not (get_or bits 8 false)) ∷ [] ≡ bits
nine bits e =
    let l : length (take 8 bits) ≡ 8 = simp length-take (omega arith) in
    let b : bits_of 8 (number_of (take 8 bits)) ≡ take 8 bits =
    (rw l at (bits_of-number_of (take 8 bits))) in
    ap (λ (l : List Bool). l ++ not (not (get_or bits 8 false)) ∷ []) b
    ∙ ap (λ (x : Bool). take 8 bits ++ x ∷ []) (not-not (get_or bits 8 false))
    ∙ sym (take_more bits 8 false (omega arith)) ∙ take_all 9 bits (omega arith)

pub byte_bits-byte_of : (bits : List Bool) → length bits ≡ 9 → byte_bits (byte_of bits) ≡ bits
unfolding byte_bits byte_of
byte_bits-byte_of bits e = nine bits e

pub byte_of-lt : (bits : List Bool) → length bits ≡ 9 → (byte_of bits).0 < 256
unfolding byte_of
byte_of-lt bits e =
    let l : length (take 8 bits) ≡ 8 = simp length-take (omega arith) in
    let h : number_of (take 8 bits) < 2 ^ 8 = rw l at (number_of-lt (take 8 bits)) in
    h

pub bit_byte : (b : Bool) → bool_byte b ≡ (if b then 1 else 0)
bit_byte true = refl
bit_byte false = refl

-- a number that grows by each bit
abbrev pub number_from : ℕ → List Bool → ℕ
number_from n [] = n
number_from n (b ∷ bits) = number_from (2 * n + (if b then 1 else 0)) bits

number_from-is : (n : ℕ) (bits : List Bool)
    → number_from n bits ≡ n * 2 ^ length bits + number_of bits
number_from-is n [] = omega arith
number_from-is n (true ∷ bits) =
    let h = number_from-is (2 * n + 1) bits in
    let p : 2 ^ suc (length bits) ≡ 2 ^ length bits * 2 = simp unary_clauses in
    let m : (2 * n + 1) * 2 ^ length bits ≡ n * (2 ^ length bits * 2) + 2 ^ length bits =
    omega arith in
    rw p (omega arith)
number_from-is n (false ∷ bits) =
    let h = number_from-is (2 * n + 0) bits in
    let p : 2 ^ suc (length bits) ≡ 2 ^ length bits * 2 = simp unary_clauses in
    let m : (2 * n + 0) * 2 ^ length bits ≡ n * (2 ^ length bits * 2) = omega arith in
    rw p (omega arith)

pub number_from-zero : (bits : List Bool) → number_from 0 bits ≡ number_of bits
number_from-zero bits = let h = number_from-is 0 bits in omega arith

-- it never falls
pub number_from-grows : (n : ℕ) (bits : List Bool) → n ≤ number_from n bits
number_from-grows n [] = omega arith
number_from-grows n (true ∷ bits) = let h = number_from-grows (2 * n + 1) bits in omega arith
number_from-grows n (false ∷ bits) = let h = number_from-grows (2 * n + 0) bits in omega arith

pub number_from-next : (n i : ℕ) (bits : List Bool) (all : ℕ) → i < length bits
    → number_from n (drop i bits) ≡ all
    → number_from (2 * n + (if get_or bits i false then 1 else 0)) (drop (i + 1) bits) ≡ all
number_from-next n i bits all lt e = sym (at_drop_more (number_from n) bits i false lt) ∙ e

pub number_from-end : (n i : ℕ) (bits : List Bool) (all : ℕ) → length bits ≤ i
    → number_from n (drop i bits) ≡ all → n ≡ all
number_from-end n i bits all le e = sym (at_drop_all (number_from n) bits i le) ∙ e

pub number_from-fits : (n i : ℕ) (bits : List Bool) → length bits ≡ 9 → i < length (take 8 bits)
    → number_from n (drop i (take 8 bits)) ≡ number_of (take 8 bits)
    → 2 * n + (if get_or (take 8 bits) i false then 1 else 0) < 256
number_from-fits n i bits nine lt e =
    let next = number_from-next n i (take 8 bits) (number_of (take 8 bits)) lt e in
    let grows = number_from-grows (2 * n + (if get_or (take 8 bits) i false then 1 else 0))
    (drop (i + 1) (take 8 bits)) in
    let l : length (take 8 bits) ≡ 8 = simp length-take (omega arith) in
    let h : number_of (take 8 bits) < 2 ^ 8 = rw l at (number_of-lt (take 8 bits)) in
    omega arith

-- the upper four bits, and the lower four
pub bits_of-nibbles : (b : ℕ) → bits_of 8 b ≡ bits_of 4 (b / 16) ++ bits_of 4 (b % 16)
bits_of-nibbles b =
    let e7 : bit_at b 7 ≡ bit_at (b / 16) 3 = omega arith in
    let e6 : bit_at b 6 ≡ bit_at (b / 16) 2 = omega arith in
    let e5 : bit_at b 5 ≡ bit_at (b / 16) 1 = omega arith in
    let e4 : bit_at b 4 ≡ bit_at (b / 16) 0 = omega arith in
    let e3 : bit_at b 3 ≡ bit_at (b % 16) 3 = omega arith in
    let e2 : bit_at b 2 ≡ bit_at (b % 16) 2 = omega arith in
    let e1 : bit_at b 1 ≡ bit_at (b % 16) 1 = omega arith in
    let e0 : bit_at b 0 ≡ bit_at (b % 16) 0 = omega arith in
    rw (e7, e6, e5, e4, e3, e2, e1, e0) refl
