-- Counting low samples tells whether there is a timeout.
use Rattle.std.proofs.Common.{◌≡◌, ℕ, ◌+◌, ◌<◌, ◌≤◌, inl, inr, Bool, true, false, nat_lt, ◌||◌}
use Rattle.std.proofs.Common.{if◌then◌else◌, List, [], ◌∷◌, ◌++◌, length, refl, sym, ap, ◌∙◌}
use Rattle.std.proofs.Common.{append_assoc, arith}
use Rattle.std.specs.List.{AllByRecursion}
use Rattle.std.proofs.lemmas.Bool.{cases_Bool, ltb-true, lt-ltb}
use Rattle.std.proofs.lemmas.List.{length-append}
use Rattle.wires.specs.declared.lines.Sample.{Sample}
use Rattle.bit_bus.specs.Levels.{HasTimeout}

-- whether SCL stays low for more than 5000 samples, where it was low for so many before these
abbrev pub is_held_low : ℕ → List Sample → Bool
is_held_low count [] = nat_lt 5000 count
is_held_low count (s ∷ later) =
    if s.scl then nat_lt 5000 count || is_held_low 0 later else is_held_low (count + 1) later

abbrev AreLow : List Sample → Type 0
AreLow samples = AllByRecursion (λ (s : Sample). s.scl ≡ false) samples

low_and : (low : List Sample) (s : Sample) → AreLow low → s.scl ≡ false → AreLow (low ++ s ∷ [])
low_and [] s l e = (e, _)
low_and (x ∷ low) s l e = (l.0, low_and low s l.1 e)

one_longer : (low : List Sample) (s : Sample) → length (low ++ s ∷ []) ≡ length low + 1
one_longer low s = length-append low (s ∷ [])

here : (low later : List Sample) → AreLow low → nat_lt 5000 (length low) ≡ true
    → HasTimeout (low ++ later)
here low later l t = record {
  before = [];
  low = low;
  later = later;
  parts = refl;
  long = ltb-true 5000 (length low) t;
  stays_low = l;
}

further : (first samples : List Sample) → HasTimeout samples → HasTimeout (first ++ samples)
further first samples h = record {
  before = first ++ h.before;
  low = h.low;
  later = h.later;
  parts =
      ap (λ (xs : List Sample). first ++ xs) h.parts
      ∙ sym (append_assoc first h.before (h.low ++ h.later));
  long = h.long;
  stays_low = h.stays_low;
}

-- after so many low samples
after_low : (low samples : List Sample) → AreLow low → is_held_low (length low) samples ≡ true
    → HasTimeout (low ++ samples)
after_low low [] l t = here low [] l t
after_low low (s ∷ later) l t = elim (cases_Bool s.scl) [
  | inl high ↦ elim (cases_Bool (nat_lt 5000 (length low))) [
    | inl long ↦ here low (s ∷ later) l long
    | inr short ↦
        further low (s ∷ later) (further (s ∷ []) later
        (after_low [] later _ (sym (held_high (length low) s later high short) ∙ t)))
  ]
  | inr down ↦
      subst_parts low s later (after_low (low ++ s ∷ []) later (low_and low s l down) (ap (λ n.
      is_held_low n later) (one_longer low s) ∙ sym (held_down (length low) s later down) ∙ t))
]
  where
    held_high : (n : ℕ) (s : Sample) (later : List Sample) → s.scl ≡ true → nat_lt 5000 n ≡ false
        → is_held_low n (s ∷ later) ≡ is_held_low 0 later
    held_high n s later high short = rw (high, short) refl

    held_down : (n : ℕ) (s : Sample) (later : List Sample) → s.scl ≡ false
        → is_held_low n (s ∷ later) ≡ is_held_low (n + 1) later
    held_down n s later down = rw down refl

    subst_parts : (low : List Sample) (s : Sample) (later : List Sample)
        → HasTimeout ((low ++ s ∷ []) ++ later) → HasTimeout (low ++ s ∷ later)
    subst_parts low s later h = rw (← append_assoc low (s ∷ []) later) h

pub held_is_timeout : (samples : List Sample) → is_held_low 0 samples ≡ true → HasTimeout samples
held_is_timeout samples t = after_low [] samples _ t

-- a timeout is counted

or_first : (a b c : Bool) → (a || c) ≡ true → (a ≡ true → b ≡ true) → (b || c) ≡ true
or_first true b c t f = rw (f refl) refl
or_first false true c t f = refl
or_first false false c t f = t

or_second : (a b : Bool) → b ≡ true → (a || b) ≡ true
or_second true b t = refl
or_second false b t = t

long_enough : (n : ℕ) (samples : List Sample) → 5000 < n → is_held_low n samples ≡ true
long_enough n [] less = lt-ltb 5000 n less
long_enough n (s ∷ later) less = elim (cases_Bool s.scl) [
  | inl high ↦ rw (high, lt-ltb 5000 n less) refl
  | inr down ↦ rw down (long_enough (n + 1) later (omega (arith, less)))
]

low_held : (n : ℕ) (low later : List Sample) → AreLow low → 5000 < n + length low
    → is_held_low n (low ++ later) ≡ true
low_held n [] later l less = long_enough n later (omega (arith, less))
low_held n (s ∷ low) later l less = rw l.0 (low_held (n + 1) low later l.1 (omega (arith, less)))

by_level : (n m : ℕ) (scl : Bool) (later : List Sample) → n ≤ m
    → (if scl then nat_lt 5000 n || is_held_low 0 later else is_held_low (n + 1) later) ≡ true
    → (n + 1 ≤ m + 1 → is_held_low (n + 1) later ≡ true → is_held_low (m + 1) later ≡ true)
    → (if scl then nat_lt 5000 m || is_held_low 0 later else is_held_low (m + 1) later) ≡ true
by_level n m true later less t on =
    or_first (nat_lt 5000 n) (nat_lt 5000 m) (is_held_low 0 later) t
    (λ long. lt-ltb 5000 m (let l = ltb-true 5000 n long in omega (arith, l, less)))
by_level n m false later less t on = on (omega (arith, less)) t

more_low : (n m : ℕ) (samples : List Sample) → n ≤ m → is_held_low n samples ≡ true
    → is_held_low m samples ≡ true
more_low n m [] less t = lt-ltb 5000 m (let long = ltb-true 5000 n t in omega (arith, long, less))
more_low n m (s ∷ later) less t =
    by_level n m s.scl later less t (λ k. more_low (n + 1) (m + 1) later k)

further_held : (n : ℕ) (before samples : List Sample) → is_held_low 0 samples ≡ true
    → is_held_low n (before ++ samples) ≡ true
further_held n [] samples t = more_low 0 n samples (omega arith) t
further_held n (s ∷ before) samples t = elim (cases_Bool s.scl) [
  | inl high ↦
      rw high (or_second (nat_lt 5000 n) (is_held_low 0 (before ++ samples))
      (further_held 0 before samples t))
  | inr down ↦ rw down (further_held (n + 1) before samples t)
]

pub timeout_is_held : (samples : List Sample) → HasTimeout samples → is_held_low 0 samples ≡ true
timeout_is_held samples h =
    rw h.parts (further_held 0 h.before (h.low ++ h.later)
    (low_held 0 h.low h.later h.stays_low (let long = h.long in omega (arith, long))))
