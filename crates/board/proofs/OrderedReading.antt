-- Reading a list's elements one after another.
use Rattle.std.proofs.Common.{◌≡◌, ◌↔◌, ℕ, zero, suc, ◌≤◌, List, [], ◌∷◌, ◌++◌, length, take, drop}
use Rattle.std.proofs.Common.{slice_get, Some, Result, Ok, Err, refl, ap, subst, append_assoc}
use Rattle.std.proofs.Common.{arith, inl, inr}
use Rattle.std.proofs.lemmas.List.{length_push, append-nil, take-append-le, length-append}
use Rattle.std.proofs.lemmas.Option.{slice_get_within}
use Rattle.std.proofs.Math.Seq.{take-append_seam}
use Rattle.texts.specs.Reading.{◌>>=◌}
use Rattle.board.specs.InOrder.{AreInOrder, IsFirstFault, InOrder}
use Rattle.board.proofs.Apart.{push_cases}

-- the values of elements, after those that are read
abbrev pub reads : {D B E : Type 0} → (List B → D → Result B E) → List B → List D
    → Result (List B) E
reads read done [] = Ok done
reads read done (d ∷ ds) = read done d >>= λ b. reads read (done ++ b ∷ []) ds

-- the first element after others
seam : {X : Type 0} (xs : List X) (x : X) (ys : List X)
    → slice_get (xs ++ x ∷ ys) (length xs) ≡ Some x
seam [] x ys = refl
seam (y ∷ xs) x ys = seam xs x ys

-- a list around one of its elements
around : {X : Type 0} (xs : List X) (n : ℕ) (x : X) → slice_get xs n ≡ Some x
    → xs ≡ take n xs ++ x ∷ drop (suc n) xs
around [] n x e = absurd cc
around (y ∷ xs) zero x e = cc
around (y ∷ xs) (suc n) x e = ap (λ zs. y ∷ zs) (around xs n x e)

-- no element
nothing : {D B E : Type 0} (read : List B → D → Result B E) → AreInOrder read [] []
nothing read = record { count = refl; each = λ n d b s t. absurd cc }

-- one element more
more : {D B E : Type 0} (read : List B → D → Result B E) (ds : List D) (bs : List B) (d : D) (b : B)
    → AreInOrder read ds bs → read bs d ≡ Ok b → AreInOrder read (ds ++ d ∷ []) (bs ++ b ∷ [])
more read ds bs d b a e = record {
  count = omega (arith, a.count, length_push ds d, length_push bs b);
  each = λ n x y s t. elim (push_cases ds d x n s) [
    | inl u ↦ elim (push_cases bs b y n t) [
      | inl v ↦
          let within : n ≤ length bs = omega (arith, slice_get_within bs n y v) in
          rw (take-append-le n bs (b ∷ [])) (a.each n x y u v)
      | inr v ↦ absurd (omega (arith, a.count, slice_get_within ds n x u, v.0))
    ]
    | inr u ↦ elim (push_cases bs b y n t) [
      | inl v ↦ absurd (omega (arith, a.count, slice_get_within bs n y v, u.0))
      | inr v ↦ rw (v.0, take-append_seam bs (b ∷ []), ← u.1, ← v.1) e
    ]
  ];
}

-- the first element that isn't read
stops : {D B E : Type 0} (read : List B → D → Result B E) (ds : List D) (bs : List B) (d : D)
    (rest : List D) (fault : E) → AreInOrder read ds bs → read bs d ≡ Err fault
    → IsFirstFault read (ds ++ d ∷ rest) fault
stops read ds bs d rest fault a e = record {
  values = bs;
  before = rw (a.count, take-append_seam) a;
  element = d;
  next = rw a.count (seam ds d rest);
  fails = e;
}

-- an element that is read or not
one_step : {D B E : Type 0} (read : List B → D → Result B E) (ds : List D) (bs : List B) (d : D)
    (rest : List D) (r : Result B E) → AreInOrder read ds bs → read bs d ≡ r
    → ((b : B) → read bs d ≡ Ok b → InOrder read (ds ++ d ∷ rest) (reads read (bs ++ b ∷ []) rest))
    → InOrder read (ds ++ d ∷ rest) (r >>= λ b. reads read (bs ++ b ∷ []) rest)
one_step read ds bs d rest (Ok b) a e next = next b e
one_step read ds bs d rest (Err fault) a e next = stops read ds bs d rest fault a e

-- what stands after elements that are read is read in order
reads_on : {D B E : Type 0} (read : List B → D → Result B E) (ds : List D) (bs : List B)
    (rest : List D) → AreInOrder read ds bs → InOrder read (ds ++ rest) (reads read bs rest)
reads_on read ds bs [] a = rw append-nil a
reads_on read ds bs (d ∷ rest) a =
    one_step read ds bs d rest (read bs d) a refl
    (λ b e. rw (← append_assoc ds (d ∷ []) rest)
    (reads_on read (ds ++ d ∷ []) (bs ++ b ∷ []) rest (more read ds bs d b a e)))

-- what was read needn't be read again
reads_front : {D B E : Type 0} (read : List B → D → Result B E) (ds : List D) (bs : List B)
    (ds_on : List D) (bs_on : List B) (rest : List D) → length bs ≡ length ds
    → AreInOrder read (ds ++ ds_on) (bs ++ bs_on)
    → reads read bs (ds_on ++ rest) ≡ reads read (bs ++ bs_on) rest
reads_front read ds bs [] [] rest n a = rw append-nil refl
reads_front read ds bs [] (b ∷ bs_on) rest n a =
    absurd (omega (arith, n, a.count, length-append bs (b ∷ bs_on), length-append ds []))
reads_front read ds bs (d ∷ ds_on) [] rest n a =
    absurd (omega (arith, n, a.count, length-append bs [], length-append ds (d ∷ ds_on)))
reads_front read ds bs (d ∷ ds_on) (b ∷ bs_on) rest n a =
    let here : slice_get (ds ++ d ∷ ds_on) (length bs) ≡ Some d = rw n (seam ds d ds_on) in
    let e : read bs d ≡ Ok b =
    rw (take-append_seam bs (b ∷ bs_on)) at (a.each (length bs) d b here (seam bs b bs_on)) in
    let count : length (bs ++ b ∷ []) ≡ length (ds ++ d ∷ []) =
    omega (arith, n, length_push bs b, length_push ds d) in
    let all : AreInOrder read ((ds ++ d ∷ []) ++ ds_on) ((bs ++ b ∷ []) ++ bs_on) =
    rw (append_assoc ds (d ∷ []) ds_on, append_assoc bs (b ∷ []) bs_on) a in
    rw e (rw (append_assoc bs (b ∷ []) bs_on)
    at (reads_front read (ds ++ d ∷ []) (bs ++ b ∷ []) ds_on bs_on rest count all))

-- no other result is in order
is_read : {D B E : Type 0} (read : List B → D → Result B E) (ds : List D) (r : Result (List B) E)
    → InOrder read ds r → reads read [] ds ≡ r
is_read read ds (Ok bs) a = rw append-nil at (reads_front read [] [] ds bs [] refl a)
is_read read ds (Err fault) f =
    let n = length f.values in
    let front =
    reads_front read [] [] (take n ds) f.values (f.element ∷ drop (suc n) ds) refl f.before in
    rw (← around ds n f.element f.next, f.fails) at front

-- what is read is what the relation says
pub reads_in_order : {D B E : Type 0} (read : List B → D → Result B E) (ds : List D)
    (r : Result (List B) E) → (reads read [] ds ≡ r) ↔ InOrder read ds r
reads_in_order read ds r =
    (λ e. subst (InOrder read ds) e (reads_on read [] [] ds (nothing read)), is_read read ds r)
