-- Rails that are withdrawn.
use Rattle.std.proofs.Common.{◌≡◌, ◌∙◌, ◌==◌, ◌&&◌, ◌||◌, not, ℕ, Bool, true, false, Option, Some}
use Rattle.std.proofs.Common.{None, slice_get, ap, refl, arith}
use Rattle.std.proofs.lemmas.Bool.Decides.{nat_tests}
use Rattle.board.specs.Boards.{Rail, Board}
use Rattle.facts.specs.domain.Sets.{Set, keeps, pages_in}
use Rattle.facts.specs.domain.Rows.{Row, set_at}
use Rattle.facts.specs.duties.Duties.{may_select, touches_some, is_touched}
use Rattle.facts.specs.duties.Touching.{touched_some, touched_in}
use Rattle.facts.proofs.Coded.Placed.{is_same}

dropped : (g t e : Bool) → (e ≡ true → t ≡ true) → (g && not e) ≡ (g && (not t || not e))
dropped g true true h = refl
dropped g false true h = absurd (grind (arith, nat_tests, h refl))
dropped g true false h = refl
dropped g false false h = refl

pub one_dropped : (good left : Set) (touched : Set) (rail : ℕ)
    → left ≡ keeps good (λ x. not (x == rail)) → touched rail ≡ true
    → (d : ℕ) → left d ≡ (good d && (not (touched d) || not (d == rail)))
one_dropped good left touched rail e h d =
    ap (λ (s : Set). s d) e
    ∙ dropped (good d) (touched d) (d == rail) (λ t. ap touched (is_same d rail t) ∙ h)

touched_same : (row : Row) (p i : ℕ) (o : Option Rail) → pages_in p ≡ set_at row.pages i
    → touched_some p i o ≡ touches_some row i o
touched_same row p i None e = refl
touched_same row p i (Some r) e = ap (λ (s : Set). (r.target == i) && may_select s r.page) e

pub touched_is : (b : Board) (row : Row) (p i : ℕ) → pages_in p ≡ set_at row.pages i
    → touched_in b p i ≡ is_touched b row i
touched_is b row p i e = λ j d. touched_same row p i (slice_get b.rails d) e j
