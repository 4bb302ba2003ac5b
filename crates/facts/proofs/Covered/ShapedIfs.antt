-- The rows of the edges of `if` are rows of the board.
use Rattle.std.proofs.Common.{◌≡◌, ℕ, ◌<◌, List, refl, ap, sym, ◌∙◌, subst, arith, Bool, true}
use Rattle.std.proofs.Common.{false, ◌&&◌}
use Rattle.std.proofs.lemmas.Bool.{and_parts, cond_both}
use Rattle.std.proofs.lemmas.List.{get_or-set_same}
use Rattle.std.specs.Prelude.{slice_set, ◌==◌}
use Rattle.board.specs.Boards.{Target, Board}
use Rattle.simulator.specs.Moves.{passes}
use Rattle.targets.specs.States.{IsTargetAt}
use Rattle.facts.specs.declared.domain.source.Source.{Source}
use Rattle.facts.specs.declared.domain.source.Source.TheVariants as source
use Rattle.facts.specs.declared.domain.span.Span.{Span}
use Rattle.facts.specs.domain.Sets.{Set, empty, keeps}
use Rattle.facts.specs.domain.Rows.{Row, set_at, source_at, IsSource}
use Rattle.facts.specs.duties.Duties.{one}
use Rattle.facts.specs.transfer.Edges.{bounds, has_any, is_possible, keep, learn_good, if_jump_row}
use Rattle.facts.specs.transfer.Edges.{all_bits, good_bits}
use Rattle.facts.specs.FactLaws.{IsShaped}
use Rattle.facts.proofs.Shared.Places.{found}
use Rattle.facts.proofs.Covered.Shapes.{IsPageSet, IsProtectSet, length_set, page_sets_set}
use Rattle.facts.proofs.Covered.Shapes.{protect_sets_set, spans_shaped, good_shaped}

-- a set that keeps some of its values, where one is left
pub keep_shaped : (b : Board) (row : Row) (s : Source) (p : ℕ → Bool) → IsShaped b row
    → IsSource b s
    → is_possible (keep row s p) s ≡ true → IsShaped b (keep row s p)
keep_shaped b row source.None p k there left = k
keep_shaped b row (source.Status d) p k there left = k
keep_shaped b row (source.Page i) p k there left = record {
  page_sets = length_set row.pages i kept ∙ k.page_sets;
  protect_sets = k.protect_sets;
  pages = page_sets_set b row i t.0 kept k t.1 whole;
  protects = k.protects;
  good = k.good;
  reg_count = k.reg_count;
  regs = k.regs;
  reg_range = k.reg_range;
  source_count = k.source_count;
  sources = k.sources;
  counter_count = k.counter_count;
  counters = k.counters;
  lost = k.lost;
  lost_range = k.lost_range;
  base = k.base;
  coeff_count = k.coeff_count;
  coeffs = k.coeffs;
  lost_coeff = k.lost_coeff;
}
  where
    kept : Set
    kept = keeps (set_at row.pages i) p

    t : (t : Target) × IsTargetAt b i t
    t = found b.targets i there

    is : set_at (slice_set row.pages i kept) i ≡ kept
    is = get_or-set_same row.pages i kept empty
        (let L : ℕ → Type 0 = λ n. i < n in subst L (sym k.page_sets) there)

    whole : IsPageSet t.0 kept
    whole = record {
      some = (Span.lo (bounds kept), sym (ap has_any is) ∙ left);
      each = λ v h. (k.pages i t.0 t.1).each v (and_parts (set_at row.pages i v) (p v) h).0;
    }
keep_shaped b row (source.Protect i) p k there left = record {
  page_sets = k.page_sets;
  protect_sets = length_set row.protects i kept ∙ k.protect_sets;
  pages = k.pages;
  protects = protect_sets_set b row i kept k there whole;
  good = k.good;
  reg_count = k.reg_count;
  regs = k.regs;
  reg_range = k.reg_range;
  source_count = k.source_count;
  sources = k.sources;
  counter_count = k.counter_count;
  counters = k.counters;
  lost = k.lost;
  lost_range = k.lost_range;
  base = k.base;
  coeff_count = k.coeff_count;
  coeffs = k.coeffs;
  lost_coeff = k.lost_coeff;
}
  where
    kept : Set
    kept = keeps (set_at row.protects i) p

    is : set_at (slice_set row.protects i kept) i ≡ kept
    is = get_or-set_same row.protects i kept empty
        (let L : ℕ → Type 0 = λ n. i < n in subst L (sym k.protect_sets) there)

    whole : IsProtectSet kept
    whole = record {
      some = (Span.lo (bounds kept), sym (ap has_any is) ∙ left);
      each = λ v h. (k.protects i there).each v (and_parts (set_at row.protects i v) (p v) h).0;
    }

-- reports change no set
learn_possible : (row : Row) (g s : Source) (shows : Bool)
    → is_possible (learn_good row g shows) s ≡ is_possible row s
learn_possible row source.None s shows = refl
learn_possible row (source.Page t) s shows = refl
learn_possible row (source.Protect t) s shows = refl
learn_possible row (source.Status d) s false = refl
learn_possible row (source.Status d) source.None true = refl
learn_possible row (source.Status d) (source.Status e) true = refl
learn_possible row (source.Status d) (source.Page t) true = refl
learn_possible row (source.Status d) (source.Protect t) true = refl

spans_possible : (row : Row) (s : Source) (ss : List Span)
    → is_possible (record row { regs = ss }) s ≡ is_possible row s
spans_possible row source.None ss = refl
spans_possible row (source.Status d) ss = refl
spans_possible row (source.Page t) ss = refl
spans_possible row (source.Protect t) ss = refl

-- the rows of `keep` have the registers they had
keep_regs : (row : Row) (s : Source) (p : ℕ → Bool) → Row.regs (keep row s p) ≡ row.regs
keep_regs row source.None p = refl
keep_regs row (source.Status d) p = refl
keep_regs row (source.Page t) p = refl
keep_regs row (source.Protect t) p = refl

learn_regs : (row : Row) (s : Source) (shows : Bool) → Row.regs (learn_good row s shows) ≡ row.regs
learn_regs row source.None shows = refl
learn_regs row (source.Page t) shows = refl
learn_regs row (source.Protect t) shows = refl
learn_regs row (source.Status d) true = refl
learn_regs row (source.Status d) false = refl

pub jump_shaped : (b : Board) (row : Row) (r k v : ℕ) → IsShaped b row → r < 8 → v < 65536
    → is_possible (if_jump_row row r k v) (source_at row.sources r) ≡ true
    → IsShaped b (if_jump_row row r k v)
jump_shaped b row r k v shaped lt small =
    cond_both (k == all_bits) (record known { regs = slice_set row.regs r (one v) }) known
    (λ z. is_possible z s ≡ true → IsShaped b z)
    (λ _ left. let h : is_possible known s ≡ true =
    sym (spans_possible known s (slice_set row.regs r (one v))) ∙ left in
    let x = spans_shaped b known r (one v) (whole h) lt (omega arith, small) in
    subst (λ (l : List Span). IsShaped b (record known { regs = slice_set l r (one v) })) same x)
    (λ _ left. whole left)
  where
    s : Source
    s = source_at row.sources r

    shows : Bool
    shows = passes k good_bits good_bits && passes v good_bits 0

    kept : Row
    kept = keep row s (λ x. passes x k v)

    known : Row
    known = learn_good kept s shows

    same : known.regs ≡ row.regs
    same = learn_regs kept s shows ∙ keep_regs row s (λ x. passes x k v)

    whole : is_possible known s ≡ true → IsShaped b known
    whole h = good_shaped b kept s shows
        (keep_shaped b row s (λ x. passes x k v) shaped (shaped.sources r lt)
        (sym (learn_possible kept s s shows) ∙ h))
        (shaped.sources r lt)
