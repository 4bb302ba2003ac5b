-- Lists of sets that hold what is stored.
use Rattle.std.proofs.Common.{◌≡◌, ◌<◌, ◌≤◌, ◌+◌, ◌∙◌, ℕ, zero, suc, List, [], ◌∷◌, ◌++◌, drop}
use Rattle.std.proofs.Common.{length, map, slice_index_or, refl, ap, sym, subst, All, arith}
use Rattle.std.specs.Prelude.{IsTrue, slice_index}
use Rattle.std.proofs.lemmas.Bool.Decides.{nat_tests}
use Rattle.std.proofs.lemmas.List.{map-append, append_assoc}
use Rattle.std.proofs.Math.Seq.{drop-cons}
use Rattle.pmbus_table.specs.Protect.{is_protection}
use Rattle.board.specs.Boards.{Target, Board}
use Rattle.board.specs.Valid.{IsBoard, IsTarget, is_page_value}
use Rattle.facts.specs.duties.Duties.{one}
use Rattle.facts.specs.domain.Sets.{Set, only, is_page, is_protect}
use Rattle.targets.specs.States.{BusState, Belongs}
use Rattle.run_monitor.proofs.Places.{found, each_at}

-- one more set is pushed
pub one_more : (f : ℕ → Set) (done xs : List ℕ) (i new d : ℕ)
    → map f done ++ map only (drop i xs) ≡ map only xs → i < length xs
    → f new ≡ only (slice_index_or xs i d)
    → map f (done ++ new ∷ []) ++ map only (drop (i + 1) xs) ≡ map only xs
one_more f done xs i new d before lt is =
    let later : List Set = map only (drop (i + 1) xs) in
    let front : List Set = map f done in
    ap (λ (l : List Set). l ++ later) (map-append f done (new ∷ []))
    ∙ (append_assoc front (f new ∷ []) later
    ∙ (ap (λ (s : Set). front ++ s ∷ later) is
    ∙ (ap (λ (l : List ℕ). front ++ map only l) (sym cut) ∙ before)))
  where
    next : suc i ≡ i + 1
    next = omega arith

    cut : drop i xs ≡ slice_index_or xs i d ∷ drop (i + 1) xs
    cut = drop-cons xs i d lt ∙ ap (λ n. slice_index_or xs i d ∷ drop n xs) next

small_page : (pages v : ℕ) → pages ≤ 32 → IsTrue (is_page_value pages v) → IsTrue (is_page v)
small_page pages v few t = Prim.grind (arith, nat_tests)

pub eight : (xs : List ℕ) → length xs ≡ 8
    → one (slice_index_or xs 0 0) ∷ one (slice_index_or xs 1 0) ∷ one (slice_index_or xs 2 0)
    ∷ one (slice_index_or xs 3 0)
    ∷ one (slice_index_or xs 4 0) ∷ one (slice_index_or xs 5 0) ∷ one (slice_index_or xs 6 0)
    ∷ one (slice_index_or xs 7 0) ∷ []
    ≡ map one xs
eight [] k = absurd (omega (arith, k))
eight (a ∷ []) k = absurd (omega (arith, k))
eight (a ∷ b ∷ []) k = absurd (omega (arith, k))
eight (a ∷ b ∷ c ∷ []) k = absurd (omega (arith, k))
eight (a ∷ b ∷ c ∷ d ∷ []) k = absurd (omega (arith, k))
eight (a ∷ b ∷ c ∷ d ∷ e ∷ []) k = absurd (omega (arith, k))
eight (a ∷ b ∷ c ∷ d ∷ e ∷ f ∷ []) k = absurd (omega (arith, k))
eight (a ∷ b ∷ c ∷ d ∷ e ∷ f ∷ g ∷ []) k = absurd (omega (arith, k))
eight (a ∷ b ∷ c ∷ d ∷ e ∷ f ∷ g ∷ h ∷ []) k = refl
eight (a ∷ b ∷ c ∷ d ∷ e ∷ f ∷ g ∷ h ∷ i ∷ rest) k = absurd (omega (arith, k))

-- what a target may store is a page of the sets' kind, and a protection
page_at : (b : Board) (s : BusState) (i : ℕ) → IsBoard b → Belongs b s → i < length s.page
    → IsTrue (is_page (slice_index s.page i))
page_at b s i is k lt =
    let t = found b.targets i (subst (λ n. i < n) k.pages lt) in
    small_page (Target.pages t.0) (slice_index s.page i)
    (each_at (λ (u : Target). IsTarget u) b.targets i t.0 is.targets t.1).few_pages
    (k.targets i t.0 t.1).page_valid

protection : (v : ℕ) → IsTrue (is_protection v) → IsTrue (is_protect v)
protection v t = Prim.grind (arith, nat_tests)

protect_at : (b : Board) (s : BusState) (i : ℕ) → Belongs b s → i < length s.protect
    → IsTrue (is_protect (slice_index s.protect i))
protect_at b s i k lt =
    let t = found b.targets i (subst (λ n. i < n) k.protects lt) in
    protection (slice_index s.protect i) (k.targets i t.0 t.1).protect_valid

-- within a list it doesn't matter what stands for what isn't there
any_default : (P : ℕ → Type 0) (xs : List ℕ) (i d : ℕ) → i < length xs → P (slice_index xs i)
    → P (slice_index_or xs i d)
any_default P [] i d lt k = absurd (omega (arith, lt))
any_default P (x ∷ xs) zero d lt k = k
any_default P (x ∷ xs) (suc i) d lt k = any_default P xs i d (omega (arith, lt)) k

pub pages_fit : (b : Board) (s : BusState) → IsBoard b → Belongs b s
    → All (λ v. IsTrue (is_page v)) s.page
pages_fit b s is k i d lt =
    any_default (λ v. IsTrue (is_page v)) s.page i d lt (page_at b s i is k lt)

pub protects_fit : (b : Board) (s : BusState) → Belongs b s
    → All (λ v. IsTrue (is_protect v)) s.protect
protects_fit b s k i d lt =
    any_default (λ v. IsTrue (is_protect v)) s.protect i d lt (protect_at b s i k lt)
