-- Rails that need others, round by round.
use Rattle.std.proofs.Common.{◌≡◌, ◌∙◌, ◌≤◌, ◌<◌, ◌+◌, ◌||◌, ℕ, suc, Bool, false, List, Option}
use Rattle.std.proofs.Common.{Some, None, slice_get, length, refl, ap, sym, arith, ◌++◌, ◌∷◌, drop}
use Rattle.std.proofs.Common.{append_assoc}
use Rattle.std.proofs.Math.Seq.{drop-cons}
use Rattle.std.specs.Prelude.{◌==◌, [], flat_map, if◌then◌else◌, true}
use Rattle.std.specs.List.{list_any, enumerate_from}
use Rattle.std.specs.Option.{option_map_or}
use Rattle.board.specs.Boards.{Rail, Board}
use Rattle.board.specs.Valid.{IsBoard}
use Rattle.seq_program.specs.declared.instr.Instr.{Instr}
use Rattle.facts.specs.domain.Rows.{Row}
use Rattle.facts.specs.domain.Sets.{Set, rails_in}
use Rattle.program_lints.specs.Lints.{Lints, next_leaning, leaning, leans_on, may_be_lost}
use Rattle.program_lints.specs.Lints.{need_lints_in, need_loss}
use Rattle.program_lints.proofs.Gained.{no_rail}
use Rattle.program_lints.proofs.Places.{found, index_at, within}

-- from rail 64 on, none needs another
pub none_leans : (b : Board) (bits d : ℕ) → IsBoard b → 64 ≤ d
    → next_leaning b (rails_in bits) d ≡ false
none_leans b bits d is le = by (slice_get b.rails d) refl
  where
    Leans : Option Rail → Bool
    Leans o = rails_in bits d || list_any (rails_in bits) (option_map_or (λ r. r.needs) o [])

    by : (o : Option Rail) → slice_get b.rails d ≡ o → next_leaning b (rails_in bits) d ≡ false
    by None e = ap Leans e ∙ none (rails_in bits d) (no_rail bits d le)
      where
        none : (x : Bool) → x ≡ false → (x || false) ≡ false
        none x e = rw e refl
    by (Some r) e =
        let lt : d < length b.rails = within b.rails d r e in
        let few = is.few_rails in absurd (omega (arith, lt, few, le))

-- a round more
pub one_round : (b : Board) (need round : ℕ) (old new : Set) → old ≡ leaning b round need
    → new ≡ next_leaning b old → new ≡ leaning b (round + 1) need
unfolding leaning
one_round b need round old new before is =
    let next : suc round ≡ round + 1 = omega arith in
    is ∙ (ap (next_leaning b) before ∙ ap (λ n. leaning b n need) next)

pub no_round : (b : Board) (need : ℕ) (s : Set) → s ≡ (λ x. x == need) → s ≡ leaning b 0 need
unfolding leaning
no_round b need s is = is

-- the lints of one rail more
pub one_more_lint : (f : ℕ × Rail → Lints) (rails : List Rail) (k : ℕ) (old new all : Lints)
    → k < length rails → ((r : Rail) → new ≡ old ++ f (k, r))
    → old ++ flat_map f (enumerate_from k (drop k rails)) ≡ all
    → new ++ flat_map f (enumerate_from (k + 1) (drop (k + 1) rails)) ≡ all
one_more_lint f rails k old new all lt pushed before =
    ap (λ (xs : Lints). xs ++ later) (pushed x.0)
    ∙ (append_assoc old (f (k, x.0)) later
    ∙ (ap (λ (xs : Lints). old ++ xs) (sym split) ∙ before))
  where
    x : (r : Rail) × (slice_get rails k ≡ Some r)
    x = found rails k lt

    next : suc k ≡ k + 1
    next = omega arith

    later : Lints
    later = flat_map f (enumerate_from (k + 1) (drop (k + 1) rails))

    cut : drop k rails ≡ x.0 ∷ drop (k + 1) rails
    cut = drop-cons rails k x.0 lt
        ∙ (ap (λ (r : Rail). r ∷ drop (suc k) rails) (index_at rails k x.0 x.0 x.1)
        ∙ ap (λ n. x.0 ∷ drop n rails) next)

    split : flat_map f (enumerate_from k (drop k rails)) ≡ f (k, x.0) ++ later
    split = ap (λ (rs : List Rail). flat_map f (enumerate_from k rs)) cut

-- the lints of a rail that may be lost
pub of_need : (b : Board) (row : Row) (i : Instr) (on leaning : Set) (place need : ℕ)
    (rail : Rail) (turns : Bool) (old new : Lints) → turns ≡ true
    → turns ≡ may_be_lost b row on i need → leaning ≡ leans_on b need
    → new ≡ old ++ need_lints_in b leaning on place need
    → new ≡ old ++ need_loss b row i on place (need, rail)
of_need b row i on leaning place need rail turns old new turned is leans told =
    told ∙ (ap (λ (s : Set). old ++ need_lints_in b s on place need) leans
    ∙ ap (λ (t : Bool). old ++ (if t then need_lints_in b (leans_on b need) on place need else []))
    (sym turned ∙ is))
