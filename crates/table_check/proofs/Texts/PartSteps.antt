-- A line more is the line that comes next, and the part stays good.
use Rattle.std.proofs.Common.{◌≡◌, ℕ, ◌<◌, ◌≤◌, ◌==◌, ◌&&◌, true, false, [], ◌∷◌, ◌++◌}
use Rattle.std.proofs.Common.{length, Option, Some, None, nat_lt, refl, sym, ap, ◌∙◌, arith}
use Rattle.std.proofs.Common.{inl, inr, codes}
use Rattle.std.proofs.lemmas.Bool.{ltb-true, false≢true}
use Rattle.std.specs.Prelude.{is_some}
use Rattle.std.proofs.lemmas.Bool.Decides.{nat_tests}
use Rattle.board.specs.Boards.{Board}
use Rattle.board.specs.Valid.{IsBoard}
use Rattle.facts.specs.domain.Sets.{Set, is_page, is_protect}
use Rattle.facts.specs.declared.domain.source.Source.{Source}
use Rattle.facts.specs.declared.domain.span.Span.{Span}
use Rattle.table_check.specs.declared.text.version.Version.{Version}
use Rattle.table_check.specs.declared.text.version.Version.TheVariants.{First, Second}
use Rattle.table_check.specs.text.Lines.{Words, lost_words}
use Rattle.table_check.specs.text.Writable.{IsWordSpan}
use Rattle.table_check.specs.text.Saying.{set_said, good_said, register_said}
use Rattle.table_check.specs.text.Saying.{counter_said, lost_said}
use Rattle.table_check.specs.text.Passes.{Part, with_set, with_page, with_protect, with_good}
use Rattle.table_check.specs.text.Passes.{with_register, with_lost}
use Rattle.table_check.specs.text.Passes.{with_counter, with_line, is_missing, is_full}
use Rattle.table_check.proofs.Texts.Known.{KnownOfNumbers}
use Rattle.table_check.proofs.Texts.Options.{from_map}
use Rattle.table_check.proofs.Texts.Spelled.{IsByteSet, set_line_only, good_only}
use Rattle.table_check.proofs.Texts.SpelledRows.{IsKnown, register_only, counter_only}
use Rattle.table_check.proofs.Texts.SpelledRows.{lost_only}
use Rattle.table_check.proofs.Texts.PartLines.{either, each_push, one_longer, no_items, part_lines}
use Rattle.table_check.proofs.Texts.PartLines.{page_line, lost_line, said_lost}
use Rattle.table_check.proofs.Texts.PartLines.{protect_line, good_line, register_line, counter_line}
use Rattle.table_check.proofs.Texts.PartLines.{GoodPart}

pub less_of : (a b : ℕ) → nat_lt a b ≡ true → a < b
less_of a b t = ltb-true a b t

pub more_of : (a b : ℕ) → nat_lt a b ≡ false → b ≤ a
more_of a b f = grind (arith, nat_tests)

pub record Longer (v : Version) (b : Board) (p q : Part) (ws : Words) : Type 0 where
  pub good : GoodPart v b q
  pub lines : part_lines v b q ≡ part_lines v b p ++ ws ∷ []

page_added : KnownOfNumbers → (v : Version) (b : Board) (p q : Part) (ws : Words) → GoodPart v b p
    → length p.pages < length b.targets → with_page b p ws ≡ Some q → Longer v b p q ws
unfolding with_set
page_added laws v b p q ws good less e =
    let m = from_map (λ sets. record p { pages = sets })
    (with_set is_page (codes "page") b p.pages ws) q e in
    let r = from_map (λ set. p.pages ++ set ∷ [])
    (set_said is_page (codes "page") b (length p.pages) ws) m.value m.there in
    let S : Set = r.value in
    let s = set_line_only laws is_page (codes "page") b (length p.pages) ws S r.there in
    let e1 = good.after_pages less in
    let e2 = good.after_protects (no_items p.protects _ e1 (omega (arith, less))) in
    let e3 = good.after_good e2 in
    let e4 = good.after_regs (no_items p.regs 8 e3 (omega arith)) in
    let e5 = good.after_counters (no_items p.counters 4 e4 (omega arith)) in
    let n = one_longer p.pages S in
    rw (← m.is, ← r.is) (record {
      good = record {
        pages = each_push (IsByteSet is_page) p.pages S good.pages s.1;
        few_pages = omega (arith, n, less);
        protects = good.protects;
        few_protects = good.few_protects;
        good = good.good;
        regs = good.regs;
        few_regs = good.few_regs;
        counters = good.counters;
        few_counters = good.few_counters;
        after_pages = λ _. e1;
        after_protects = good.after_protects;
        after_good = good.after_good;
        after_regs = good.after_regs;
        lost = good.lost;
        any = good.any;
        after_counters = good.after_counters;
      };
      lines =
          page_line b p.pages S p.protects p.good p.regs p.counters
          (said_lost v p.lost) e1 e2 e3 e4 e5
          ∙ ap (λ (l : Words). part_lines v b p ++ l ∷ []) (sym s.0);
    })

protect_added : KnownOfNumbers → (v : Version) (b : Board) (p q : Part) (ws : Words)
    → GoodPart v b p
    → length b.targets ≤ length p.pages → length p.protects < length b.targets
    → with_protect b p ws ≡ Some q → Longer v b p q ws
unfolding with_set
protect_added laws v b p q ws good all less e =
    let m = from_map (λ sets. record p { protects = sets })
    (with_set is_protect (codes "protect") b p.protects ws) q e in
    let r = from_map (λ set. p.protects ++ set ∷ [])
    (set_said is_protect (codes "protect") b (length p.protects) ws) m.value m.there in
    let S : Set = r.value in
    let s = set_line_only laws is_protect (codes "protect") b (length p.protects) ws S r.there in
    let e2 = good.after_protects less in
    let e3 = good.after_good e2 in
    let e4 = good.after_regs (no_items p.regs 8 e3 (omega arith)) in
    let e5 = good.after_counters (no_items p.counters 4 e4 (omega arith)) in
    let n = one_longer p.protects S in
    rw (← m.is, ← r.is) (record {
      good = record {
        pages = good.pages;
        few_pages = good.few_pages;
        protects = each_push (IsByteSet is_protect) p.protects S good.protects s.1;
        few_protects = omega (arith, n, less);
        good = good.good;
        regs = good.regs;
        few_regs = good.few_regs;
        counters = good.counters;
        few_counters = good.few_counters;
        after_pages = λ early. absurd (omega (arith, early, all));
        after_protects = λ _. e2;
        after_good = good.after_good;
        after_regs = good.after_regs;
        lost = good.lost;
        any = good.any;
        after_counters = good.after_counters;
      };
      lines =
          protect_line b p.pages p.protects S p.good p.regs p.counters
          (said_lost v p.lost) e2 e3 e4 e5
          ∙ ap (λ (l : Words). part_lines v b p ++ l ∷ []) (sym s.0);
    })

missing : (o : Option Set) → is_missing o ≡ true → o ≡ None
missing None t = refl
missing (Some S) t = absurd cc

there : (o : Option Set) → is_missing o ≡ false → o ≡ None → ⊥
there None t e = absurd cc
there (Some S) t e = absurd cc

some_none : (S : Set) → Some S ≡ None → ⊥
some_none S e = cc

good_added : (v : Version) (b : Board) (p q : Part) (ws : Words) → IsBoard b → GoodPart v b p
    → length b.targets ≤ length p.protects → p.good ≡ None
    → with_good b p ws ≡ Some q → Longer v b p q ws
unfolding with_good
good_added v b p q ws board good all e2 e =
    let r = from_map (λ set. record p { good = Some set }) (good_said b ws) q e in
    let S : Set = r.value in
    let s = good_only b ws S board r.there in
    let e3 = good.after_good e2 in
    let e4 = good.after_regs (no_items p.regs 8 e3 (omega arith)) in
    let e5 = good.after_counters (no_items p.counters 4 e4 (omega arith)) in
    rw (← r.is) (record {
      good = record {
        pages = good.pages;
        few_pages = good.few_pages;
        protects = good.protects;
        few_protects = good.few_protects;
        good = s.1;
        regs = good.regs;
        few_regs = good.few_regs;
        counters = good.counters;
        few_counters = good.few_counters;
        after_pages = good.after_pages;
        after_protects = λ early. absurd (omega (arith, early, all));
        after_good = λ none. absurd (some_none S none);
        after_regs = good.after_regs;
        lost = good.lost;
        any = good.any;
        after_counters = good.after_counters;
      };
      lines =
          good_line b p.pages p.protects S p.good p.regs p.counters (said_lost v p.lost) e2 e3 e4 e5
          ∙ ap (λ (l : Words). part_lines v b p ++ l ∷ []) (sym s.0);
    })

register_added : KnownOfNumbers → (v : Version) (b : Board) (p q : Part) (ws : Words) → IsBoard b
    → GoodPart v b p
    → is_missing p.good ≡ false → length p.regs < 8
    → with_register b p ws ≡ Some q → Longer v b p q ws
unfolding with_register
register_added laws v b p q ws board good some less e =
    let r = from_map (λ known. record p { regs = p.regs ++ known ∷ [] })
    (register_said b (length p.regs) ws) q e in
    let k : Span × Source = r.value in
    let s = register_only laws b (length p.regs) ws k board r.there in
    let e4 = good.after_regs less in
    let e5 = good.after_counters (no_items p.counters 4 e4 (omega arith)) in
    let n = one_longer p.regs k in
    rw (← r.is) (record {
      good = record {
        pages = good.pages;
        few_pages = good.few_pages;
        protects = good.protects;
        few_protects = good.few_protects;
        good = good.good;
        regs = each_push (IsKnown b) p.regs k good.regs s.1;
        few_regs = omega (arith, n, less);
        counters = good.counters;
        few_counters = good.few_counters;
        after_pages = good.after_pages;
        after_protects = good.after_protects;
        after_good = λ none. absurd (there p.good some none);
        after_regs = λ _. e4;
        lost = good.lost;
        any = good.any;
        after_counters = good.after_counters;
      };
      lines =
          register_line b p.pages p.protects p.good p.regs k p.counters (said_lost v p.lost) e4 e5
          ∙ ap (λ (l : Words). part_lines v b p ++ l ∷ []) (sym s.0);
    })

counter_added : KnownOfNumbers → (v : Version) (b : Board) (p q : Part) (ws : Words)
    → GoodPart v b p
    → 8 ≤ length p.regs → length p.counters < 4 → with_counter p ws ≡ Some q
    → Longer v b p q ws
unfolding with_counter
counter_added laws v b p q ws good all less e =
    let r = from_map (λ span. record p { counters = p.counters ++ span ∷ [] })
    (counter_said (length p.counters) ws) q e in
    let s = counter_only laws (length p.counters) ws r.value r.there in
    let n = one_longer p.counters r.value in
    let e5 = good.after_counters less in
    rw (← r.is) (record {
      good = record {
        pages = good.pages;
        few_pages = good.few_pages;
        protects = good.protects;
        few_protects = good.few_protects;
        good = good.good;
        regs = good.regs;
        few_regs = good.few_regs;
        counters = each_push IsWordSpan p.counters r.value good.counters s.1;
        few_counters = omega (arith, n, less);
        after_pages = good.after_pages;
        after_protects = good.after_protects;
        after_good = good.after_good;
        after_regs = λ early. absurd (omega (arith, early, all));
        lost = good.lost;
        any = good.any;
        after_counters = λ _. e5;
      };
      lines =
          counter_line b p.pages p.protects p.good p.regs p.counters r.value (said_lost v p.lost) e5
          ∙ ap (λ (l : Words). part_lines v b p ++ l ∷ []) (sym s.0);
    })

-- a part that isn't full but for lost arbitrations lacks these
lacks_lost : (r c : ℕ) (o : Option Span) → ((r == 8) && (c == 4) && is_some o) ≡ false → r ≡ 8
    → c ≡ 4 → o ≡ None
lacks_lost r c None f e g = refl
lacks_lost r c (Some span) f e g = absurd (false≢true (sym (rw (e, g) at f)))

some_span : (span : Span) → Some span ≡ None → ⊥
some_span span e = cc

all_there : (n most : ℕ) → most ≤ n → n ≤ most → n ≡ most
all_there n most le few = omega (arith, le, few)

lost_added : KnownOfNumbers → (v : Version) (b : Board) (p q : Part) (ws : Words)
    → GoodPart v b p → p.lost ≡ None → 4 ≤ length p.counters → with_lost p ws ≡ Some q
    → Longer v b p q ws
unfolding with_lost
lost_added laws First b p q ws good none all e =
    absurd (some_span record { lo = 0; hi = b.contentions } (sym good.any ∙ none))
lost_added laws Second b p q ws good none all e =
    let r = from_map (λ span. record p { lost = Some span }) (lost_said ws) q e in
    let s = lost_only laws ws r.value r.there in
    rw (← r.is) (record {
      good = record {
        pages = good.pages;
        few_pages = good.few_pages;
        protects = good.protects;
        few_protects = good.few_protects;
        good = good.good;
        regs = good.regs;
        few_regs = good.few_regs;
        counters = good.counters;
        few_counters = good.few_counters;
        after_pages = good.after_pages;
        after_protects = good.after_protects;
        after_good = good.after_good;
        after_regs = good.after_regs;
        lost = s.1;
        any = tt;
        after_counters = λ early. absurd (omega (arith, early, all));
      };
      lines =
          lost_line b p.pages p.protects p.good p.regs p.counters (said_lost Second p.lost)
          (lost_words r.value) (ap (said_lost Second) none)
          ∙ ap (λ (l : Words). part_lines Second b p ++ l ∷ []) (sym s.0);
    })

pub line_added : KnownOfNumbers → (v : Version) (b : Board) (p q : Part) (ws : Words) → IsBoard b
    → GoodPart v b p
    → is_full p ≡ false → with_line b p ws ≡ Some q → Longer v b p q ws
unfolding with_line
line_added laws v b p q ws board good left e =
    elim (either (nat_lt (length p.pages) (length b.targets)) (with_page b p ws) _ (Some q) e) [
      | inl h ↦ page_added laws v b p q ws good (less_of _ _ h.0) h.1
      | inr h ↦ elim (either (nat_lt (length p.protects) (length b.targets)) (with_protect b p ws) _
          (Some q) h.1) [
            | inl i ↦ protect_added laws v b p q ws good (more_of _ _ h.0) (less_of _ _ i.0) i.1
            | inr i ↦ elim (either (is_missing p.good) (with_good b p ws) _ (Some q) i.1) [
              | inl j ↦ good_added v b p q ws board good (more_of _ _ i.0) (missing p.good j.0) j.1
              | inr j ↦
                  elim (either (nat_lt (length p.regs) 8) (with_register b p ws) _ (Some q) j.1) [
                    | inl k ↦ register_added laws v b p q ws board good j.0 (less_of _ _ k.0) k.1
                    | inr k ↦ elim (either (nat_lt (length p.counters) 4) (with_counter p ws) _
                        (Some q) k.1) [
                          | inl l ↦
                              counter_added laws v b p q ws good (more_of _ _ k.0) (less_of _ _ l.0)
                              l.1
                          | inr l ↦ lost_added laws v b p q ws good
                              (lacks_lost (length p.regs) (length p.counters) p.lost left
                              (all_there (length p.regs) 8 (more_of _ _ k.0) good.few_regs)
                              (all_there (length p.counters) 4 (more_of _ _ l.0)
                              good.few_counters)) (more_of _ _ l.0) l.1
                        ]
                  ]
            ]
          ]
    ]
