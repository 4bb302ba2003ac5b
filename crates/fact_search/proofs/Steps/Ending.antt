-- The end of a search, and how often places were visited.
use Rattle.std.proofs.Common.{◌≡◌, ◌<◌, ◌≤◌, ◌+◌, ◌⊎◌, ℕ, List, length, arith, All, Bool, false}
use Rattle.std.proofs.Common.{inl, inr}
use Rattle.std.proofs.Common.{get_or, slice_set, zero, suc, [], ◌∷◌, refl, ap, subst, sym}
use Rattle.std.proofs.Common.{replicate}
use Rattle.std.proofs.lemmas.Bool.{cases_lt}
use Rattle.board.specs.Boards.{Board}
use Rattle.seq_program.specs.declared.instr.Instr.{Instr}
use Rattle.table_check.specs.Tables.{Table}
use Rattle.fact_search.specs.Searching.{IsFollowedTable, IsSearched, is_changed}
use Rattle.fact_search.proofs.Rows.Widened.{all_set}

-- where no row changed since its place was visited, all are followed
pub all_followed : (b : Board) (p : List Instr) (t : Table) (changed : List Bool) (cursor : ℕ)
    → IsSearched b p t changed → ((n : ℕ) → n < cursor → is_changed changed n ≡ false)
    → ((n : ℕ) → cursor ≤ n → is_changed changed n ≡ false) → IsFollowedTable b p t
all_followed b p t changed cursor k before after = record {
  places = k.places;
  rows = k.rows;
  start = k.start;
  followed = λ n. k.followed n (unchanged n (cases_lt n cursor));
  below = k.below;
}
  where
    unchanged : (n : ℕ) → (n < cursor) ⊎ (cursor ≤ n) → is_changed changed n ≡ false
    unchanged n (inl lt) = before n lt
    unchanged n (inr le) = after n le

abbrev pub AreUpTo : ℕ → List ℕ → Type 0
AreUpTo most xs = All (λ v. v ≤ most) xs

more : (most : ℕ) (xs : List ℕ) → AreUpTo most xs → AreUpTo (most + 1) xs
more most xs all k d lt = let h = all k d lt in omega (arith, h)

-- one visit more
pub one_visit : (visits : List ℕ) (place n v : ℕ) → AreUpTo n visits → place < length visits
    → v ≡ get_or visits place v → AreUpTo (n + 1) (slice_set visits place (v + 1))
one_visit visits place n v all lt e =
    let h = all place v lt in
    all_set (λ x. x ≤ n + 1) visits place (v + 1) (more n visits all) (omega (arith, h, e))

pub few_visits : (visits : List ℕ) (place v : ℕ) → AreUpTo 4096 visits → place < length visits
    → (v ≡ 4096 → ⊥) → v ≡ get_or visits place v
    → AreUpTo 4096 (slice_set visits place (v + 1))
few_visits visits place v all lt ne e =
    let h = all place v lt in
    all_set (λ x. x ≤ 4096) visits place (v + 1) all (omega (arith, h, e, ne))

pub same_or : (xs : List ℕ) (i d e : ℕ) → i < length xs → get_or xs i d ≡ get_or xs i e
same_or [] i d e lt = absurd (omega (arith, lt))
same_or (x ∷ xs) zero d e lt = refl
same_or (x ∷ xs) (suc i) d e lt = same_or xs i d e (omega (arith, lt))

-- before the first visit
pub no_visits : (visits : List ℕ) (n : ℕ) → visits ≡ replicate n 0 → AreUpTo 0 visits
no_visits visits n e =
    let P : List ℕ → Type 0 = λ xs. AreUpTo 0 xs in
    subst P (sym e) (λ k d lt. zero_at n k d lt)
  where
    zero_at : (n k d : ℕ) → k < length (replicate {A = ℕ} n 0)
        → get_or (replicate n 0) k d ≤ 0
    zero_at zero k d lt = absurd (omega (arith, lt))
    zero_at (suc n) zero d lt = omega arith
    zero_at (suc n) (suc k) d lt = zero_at n k d (omega (arith, lt))

pub up_to_more : (few more : ℕ) (visits : List ℕ) → few ≤ more → AreUpTo few visits
    → AreUpTo more visits
up_to_more few more visits le all k d lt = let h = all k d lt in omega (arith, h, le)

-- a place that is to be visited is one of the program
pub place_inside : (changed seen : List Bool) (p : List Instr) (place : ℕ) → seen ≡ changed
    → place < length seen → length changed ≡ length p → place < length p
place_inside changed seen p place e lt flags =
    let k = ap (λ (xs : List Bool). length xs) e in omega (arith, lt, flags, k)

pub unchanged_on : (changed seen : List Bool) (cursor place : ℕ) → seen ≡ changed
    → ((n : ℕ) → n < cursor → is_changed changed n ≡ false)
    → ((n : ℕ) → cursor ≤ n → n < place → is_changed seen n ≡ false)
    → (n : ℕ) → n < place → is_changed changed n ≡ false
unchanged_on changed seen cursor place e before after n lt = go (cases_lt n cursor)
  where
    go : (n < cursor) ⊎ (cursor ≤ n) → is_changed changed n ≡ false
    go (inl less) = before n less
    go (inr le) =
        let P : List Bool → Type 0 = λ xs. is_changed xs n ≡ false in
        subst P e (after n le lt)
