-- Rows that cover stay so through the operations on rows.
use Rattle.std.proofs.Common.{◌≡◌, ℕ, zero, suc, ◌<◌, ◌⊎◌, List, [], ◌∷◌, length, refl, ap, sym}
use Rattle.std.proofs.Common.{◌∙◌, inl, inr, arith, Bool, true, false}
use Rattle.std.proofs.lemmas.Bool.{cases_Bool, cases_eq, cond-true, cond-false, cond_both}
use Rattle.std.proofs.lemmas.Bool.{false≢true}
use Rattle.std.proofs.lemmas.List.{get_or-set_same, get_or-set_other}
use Rattle.std.specs.Prelude.{slice_index_or, slice_set}
use Rattle.board.specs.Boards.{Board}
use Rattle.facts.specs.declared.domain.source.Source.{Source}
use Rattle.facts.specs.declared.domain.source.Source.TheVariants as source
use Rattle.facts.specs.declared.domain.span.Span.{Span}
use Rattle.facts.specs.domain.Sets.{Set, empty}
use Rattle.facts.specs.domain.Rows.{Row, set_at, source_at, no_span, SetCovers, SpanCovers}
use Rattle.facts.specs.domain.Rows.{SpansCover}
use Rattle.facts.specs.domain.Rows.{SourceCovers, RowCovers}
use Rattle.facts.specs.transfer.Edges.{clear, forget}
use Rattle.facts.proofs.Shared.Lists.{source-clear}

pub SpansCover-refl : (ss : List Span) → SpansCover ss ss
SpansCover-refl [] = tt
SpansCover-refl (s ∷ ss) = ((omega arith, omega arith), SpansCover-refl ss)

pub SpansCover-trans : (ss us vs : List Span) → SpansCover ss us → SpansCover us vs
    → SpansCover ss vs
SpansCover-trans [] [] [] c k = tt
SpansCover-trans (s ∷ ss) (u ∷ us) (v ∷ vs) c k =
    ((omega (arith, c.0.0, k.0.0), omega (arith, c.0.1, k.0.1)), SpansCover-trans ss us vs c.1 k.1)
SpansCover-trans [] [] (v ∷ vs) c k = absurd k
SpansCover-trans [] (u ∷ us) vs c k = absurd c
SpansCover-trans (s ∷ ss) [] vs c k = absurd c
SpansCover-trans (s ∷ ss) (u ∷ us) [] c k = absurd k

pub SourceCovers-trans : (s u v : Source) → SourceCovers s u → SourceCovers u v → SourceCovers s v
SourceCovers-trans s u v (inl e) k = inl e
SourceCovers-trans s u v (inr e) (inl f) = inl (e ∙ f)
SourceCovers-trans s u v (inr e) (inr f) = inr (e ∙ f)

pub covers_self : (b : Board) (row : Row) → RowCovers b row row
covers_self b row = record {
  pages = λ t at' v h. h;
  protects = λ t at' v h. h;
  good = λ d h. h;
  regs = SpansCover-refl row.regs;
  sources = λ r. inr refl;
  counters =
      SpansCover-refl row.counters;
  lost = (omega arith, omega arith);
}

pub covers_trans : (b : Board) (s u v : Row) → RowCovers b s u → RowCovers b u v → RowCovers b s v
covers_trans b s u v c k = record {
  pages = λ t at' x h. c.pages t at' x (k.pages t at' x h);
  protects = λ t at' x h. c.protects t at' x (k.protects t at' x h);
  good = λ d h. k.good d (c.good d h);
  regs = SpansCover-trans s.regs u.regs v.regs c.regs k.regs;
  sources = λ r. SourceCovers-trans (source_at s.sources r) (source_at u.sources r)
      (source_at v.sources r) (c.sources r) (k.sources r);
  counters = SpansCover-trans s.counters u.counters v.counters c.counters k.counters;
  lost = (omega (arith, c.lost.0, k.lost.0), omega (arith, c.lost.1, k.lost.1));
}

pub SpansCover-set : (ss us : List Span) (i : ℕ) (x y : Span) → SpansCover ss us → SpanCovers x y
    → SpansCover (slice_set ss i x) (slice_set us i y)
SpansCover-set [] [] i x y c k = tt
SpansCover-set (s ∷ ss) (u ∷ us) zero x y c k = (k, c.1)
SpansCover-set (s ∷ ss) (u ∷ us) (suc i) x y c k = (c.0, SpansCover-set ss us i x y c.1 k)
SpansCover-set [] (u ∷ us) i x y c k = absurd c
SpansCover-set (s ∷ ss) [] i x y c k = absurd c

pub SpansCover-at : (ss us : List Span) (i : ℕ) → SpansCover ss us
    → SpanCovers (slice_index_or ss i no_span) (slice_index_or us i no_span)
SpansCover-at [] [] i c = (omega arith, omega arith)
SpansCover-at (s ∷ ss) (u ∷ us) zero c = c.0
SpansCover-at (s ∷ ss) (u ∷ us) (suc i) c = SpansCover-at ss us i c.1
SpansCover-at [] (u ∷ us) i c = absurd c
SpansCover-at (s ∷ ss) [] i c = absurd c

-- sets after an update at one place in both lists
pub sets_set : (ss us : List Set) (t : ℕ) (x y : Set) → t < length ss → t < length us
    → SetCovers x y
    → (v : ℕ) → SetCovers (set_at ss v) (set_at us v)
    → SetCovers (set_at (slice_set ss t x) v) (set_at (slice_set us t y) v)
sets_set ss us t x y ls lu new v old = go (cases_eq v t)
  where
    go : (v ≡ t) ⊎ (v ≡ t → ⊥) → SetCovers (set_at (slice_set ss t x) v)
        (set_at (slice_set us t y) v)
    go (inl e) w h =
        let here : set_at (slice_set ss t x) v ≡ x =
        ap (set_at (slice_set ss t x)) e ∙ get_or-set_same ss t x empty ls in
        let there : set_at (slice_set us t y) v ≡ y =
        ap (set_at (slice_set us t y)) e ∙ get_or-set_same us t y empty lu in
        ap (λ (z : Set). z w) here ∙ new w (sym (ap (λ (z : Set). z w) there) ∙ h)
    go (inr ne) w h =
        ap (λ (z : Set). z w) (get_or-set_other ss t v x empty ne)
        ∙ old w (sym (ap (λ (z : Set). z w) (get_or-set_other us t v y empty ne)) ∙ h)

pub sources_set : (ss us : List Source) (r : ℕ) (x y : Source) → r < length ss → r < length us
    → SourceCovers x y
    → (q : ℕ) → SourceCovers (source_at ss q) (source_at us q)
    → SourceCovers (source_at (slice_set ss r x) q) (source_at (slice_set us r y) q)
sources_set ss us r x y ls lu new q old = go (cases_eq q r)
  where
    P : Source → Source → Type 0
    P z w = SourceCovers z w

    go : (q ≡ r) ⊎ (q ≡ r → ⊥) → SourceCovers (source_at (slice_set ss r x) q)
        (source_at (slice_set us r y) q)
    go (inl e) =
        let here : source_at (slice_set ss r x) q ≡ x =
        ap (source_at (slice_set ss r x)) e ∙ get_or-set_same ss r x source.None ls in
        let there : source_at (slice_set us r y) q ≡ y =
        ap (source_at (slice_set us r y)) e ∙ get_or-set_same us r y source.None lu in
        both here there new
      where
        both : source_at (slice_set ss r x) q ≡ x → source_at (slice_set us r y) q ≡ y
            → SourceCovers x y → SourceCovers (source_at (slice_set ss r x) q)
            (source_at (slice_set us r y) q)
        both e f (inl k) = inl (e ∙ k)
        both e f (inr k) = inr (e ∙ (k ∙ sym f))
    go (inr ne) = both (get_or-set_other ss r q x source.None ne)
        (get_or-set_other us r q y source.None ne) old
      where
        both : source_at (slice_set ss r x) q ≡ source_at ss q
            → source_at (slice_set us r y) q ≡ source_at us q
            → SourceCovers (source_at ss q) (source_at us q)
            → SourceCovers (source_at (slice_set ss r x) q) (source_at (slice_set us r y) q)
        both e f (inl k) = inl (e ∙ k)
        both e f (inr k) = inr (e ∙ (k ∙ sym f))

-- what is forgotten from the second is forgotten from the first
pub forget_covers : (p q : Source → Bool) (s u : Source)
    → ((z : Source) → q z ≡ true → p z ≡ true) → SourceCovers s u
    → SourceCovers (forget p s) (forget q u)
forget_covers p q s u wider (inl e) =
    inl (cond_both (p s) source.None s (λ z. z ≡ source.None) (λ _. refl) (λ _. e))
forget_covers p q s u wider (inr e) = go (cases_Bool (p s))
  where
    go : (p s ≡ true) ⊎ (p s ≡ false) → SourceCovers (forget p s) (forget q u)
    go (inl h) = inl (cond-true (p s) source.None s h)
    go (inr h) = inr (cond-false (p s) source.None s h ∙ (e ∙ sym (cond-false (q u) source.None u
        (none (cases_Bool (q u))))))
      where
        none : (q u ≡ true) ⊎ (q u ≡ false) → q u ≡ false
        none (inl k) = absurd (false≢true (sym h ∙ (ap p e ∙ wider u k)))
        none (inr k) = k

pub clear_covers : (p q : Source → Bool) (ss us : List Source) → p source.None ≡ false
    → q source.None ≡ false → ((z : Source) → q z ≡ true → p z ≡ true)
    → ((r : ℕ) → SourceCovers (source_at ss r) (source_at us r)) → (r : ℕ)
    → SourceCovers (source_at (clear p ss) r) (source_at (clear q us) r)
clear_covers p q ss us np nq wider k r = both (source-clear p ss r np) (source-clear q us r nq)
    (forget_covers p q (source_at ss r) (source_at us r) wider (k r))
  where
    both : source_at (clear p ss) r ≡ forget p (source_at ss r)
        → source_at (clear q us) r ≡ forget q (source_at us r)
        → SourceCovers (forget p (source_at ss r)) (forget q (source_at us r))
        → SourceCovers (source_at (clear p ss) r) (source_at (clear q us) r)
    both e f (inl k) = inl (e ∙ k)
    both e f (inr k) = inr (e ∙ (k ∙ sym f))
