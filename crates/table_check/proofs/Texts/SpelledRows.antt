-- The lines of registers, counters, lost arbitrations and ticks, and the first line of a place.
use Rattle.std.proofs.Common.{◌≡◌, ℕ, ◌<◌, ◌^◌, ◌==◌, Bool, true, false, List, [], ◌∷◌, ◌++◌}
use Rattle.std.proofs.Common.{length}
use Rattle.std.proofs.Common.{map, sym, slice_get, Option, Some, None, option_map, option_and_then}
use Rattle.std.proofs.Common.{if◌then◌else◌, codes, refl, ap, ◌∙◌, arith, inl, inr}
use Rattle.std.specs.Str.{bytes_eq}
use Rattle.std.specs.Fmt.{decimal}
use Rattle.std.proofs.lemmas.Bool.{cases_Bool}
use Rattle.std.proofs.lemmas.List.{map-append}
use Rattle.std.proofs.lemmas.Bool.Decides.{nat_tests}
use Rattle.board.specs.Boards.{Board}
use Rattle.board.specs.Valid.{IsBoard}
use Rattle.facts.specs.domain.Rows.{IsSource}
use Rattle.facts.specs.declared.domain.source.Source.{Source}
use Rattle.facts.specs.declared.domain.source.Source.TheVariants as source
use Rattle.facts.specs.declared.domain.span.Span.{Span}
use Rattle.table_check.specs.text.Lines.{Words, register_names, counter_names, name_at}
use Rattle.table_check.specs.text.Lines.{source_words, register_words, counter_words, ticks_words}
use Rattle.table_check.specs.text.Lines.{head_words, none_words, lost_words, factors}
use Rattle.table_check.specs.declared.text.version.Version.{Version}
use Rattle.table_check.specs.declared.text.version.Version.TheVariants.{First, Second}
use Rattle.table_check.specs.text.Writable.{IsWordSpan}
use Rattle.table_check.specs.text.Saying.{after_key, after_name, rail_named, target_named}
use Rattle.table_check.specs.text.Saying.{number_of, span_of, named_source, source_of, sourced_span}
use Rattle.table_check.specs.text.Saying.{only_span, register_said, counter_said, lost_said}
use Rattle.table_check.specs.text.Saying.{five_numbers}
use Rattle.table_check.specs.text.Saying.{numbers_of}
use Rattle.table_check.specs.text.Saying.{ticks_said, has_row, is_some_of, numbered, head_said}
use Rattle.table_check.proofs.Texts.Known.{KnownOfNumbers}
use Rattle.table_check.proofs.Texts.Options.{none_some, same_some, from_then, from_map, from_if}
use Rattle.table_check.proofs.Texts.Names.{same_text}
use Rattle.table_check.proofs.Texts.SetWords.{EachIs}
use Rattle.table_check.proofs.Texts.Spelled.{key_only, key_back, name_only, name_back, at_only}
use Rattle.table_check.proofs.Texts.Spelled.{at_back}
use Rattle.table_check.proofs.Texts.Spelled.{place_only, place_back, rail_back, number_only}
use Rattle.table_check.proofs.Texts.Spelled.{number_back}
use Rattle.table_check.proofs.Texts.Spelled.{span_only, span_back}

-- ---- sources

target_back : (b : Board) (v : ℕ) → IsBoard b → v < length b.targets
    → target_named b (name_at b.target_names v) ≡ Some v
unfolding target_named
target_back b v board less =
    let same = board.target_names in
    place_back b.target_names v (omega (arith, less, same)) board.apart_target_names

pub source_back : (b : Board) (s : Source) → IsBoard b → IsSource b s
    → source_of b (source_words b s) ≡ Some s
source_back b source.None board good = refl
source_back b (source.Status d) board good =
    ap (option_map source.Status) (rail_back b d board good)
source_back b (source.Page i) board good =
    ap (option_map source.Page) (target_back b i board good)
source_back b (source.Protect i) board good =
    ap (option_map source.Protect) (target_back b i board good)

abbrev IsInstrOn : Board → Words → Source → Type 0
IsInstrOn b ws s = (ws ≡ source_words b s) × IsSource b s

rail_said : (b : Board) (name : List ℕ) (d : ℕ) → IsBoard b → rail_named b name ≡ Some d
    → (name ≡ name_at b.rail_names d) × (d < length b.rails)
unfolding rail_named
rail_said b name d board e =
    let q = place_only b.rail_names name d e in (q.0, omega (arith, q.1, board.rail_names))

target_said : (b : Board) (name : List ℕ) (d : ℕ) → IsBoard b → target_named b name ≡ Some d
    → (name ≡ name_at b.target_names d) × (d < length b.targets)
unfolding target_named
target_said b name d board e =
    let q = place_only b.target_names name d e in (q.0, omega (arith, q.1, board.target_names))

two_words : (kind key name there : List ℕ) → bytes_eq kind key ≡ true → name ≡ there
    → kind ∷ name ∷ [] ≡ key ∷ there ∷ []
two_words kind key name there t e =
    ap (λ (x : List ℕ). x ∷ name ∷ []) (same_text kind key t)
    ∙ ap (λ (x : List ℕ). key ∷ x ∷ []) e

named_only : (b : Board) (kind name : List ℕ) (s : Source) → IsBoard b
    → named_source b kind name ≡ Some s → IsInstrOn b (kind ∷ name ∷ []) s
named_only b kind name s board e = elim (cases_Bool (bytes_eq kind (codes "status"))) [
  | inl t ↦ status t (rw t at e)
  | inr f ↦ others (rw f at e)
]
  where
    status : bytes_eq kind (codes "status") ≡ true
        → option_map source.Status (rail_named b name) ≡ Some s → IsInstrOn b (kind ∷ name ∷ []) s
    status t e =
        let q = from_map source.Status (rail_named b name) s e in
        let r = rail_said b name q.value board q.there in
        rw (← q.is) (two_words kind (codes "status") name _ t r.0, r.1)

    page : bytes_eq kind (codes "page") ≡ true
        → option_map source.Page (target_named b name) ≡ Some s → IsInstrOn b (kind ∷ name ∷ []) s
    page t e =
        let q = from_map source.Page (target_named b name) s e in
        let r = target_said b name q.value board q.there in
        rw (← q.is) (two_words kind (codes "page") name _ t r.0, r.1)

    protect : bytes_eq kind (codes "protect") ≡ true
        → option_map source.Protect (target_named b name) ≡ Some s
        → IsInstrOn b (kind ∷ name ∷ []) s
    protect t e =
        let q = from_map source.Protect (target_named b name) s e in
        let r = target_said b name q.value board q.there in
        rw (← q.is) (two_words kind (codes "protect") name _ t r.0, r.1)

    last : (if bytes_eq kind (codes "protect")
        then option_map source.Protect (target_named b name) else None) ≡ Some s
        → IsInstrOn b (kind ∷ name ∷ []) s
    last e = let q = from_if _ _ s e in protect q.0 q.1

    others : (if bytes_eq kind (codes "page") then option_map source.Page (target_named b name)
        else if bytes_eq kind (codes "protect")
        then option_map source.Protect (target_named b name) else None) ≡ Some s
        → IsInstrOn b (kind ∷ name ∷ []) s
    others e = elim (cases_Bool (bytes_eq kind (codes "page"))) [
      | inl t ↦ page t (rw t at e)
      | inr f ↦ last (rw f at e)
    ]

pub source_only : (b : Board) (ws : Words) (s : Source) → IsBoard b → source_of b ws ≡ Some s
    → IsInstrOn b ws s
source_only b [] s board e = absurd (none_some s e)
source_only b (kind ∷ []) s board e =
    let q = from_if (bytes_eq kind (codes "none")) (Some source.None) s e in
    let is : source.None ≡ s = same_some source.None s q.1 in
    rw (← is) (ap (λ (x : List ℕ). x ∷ []) (same_text kind (codes "none") q.0), tt)
source_only b (kind ∷ name ∷ []) s board e = named_only b kind name s board e
source_only b (kind ∷ name ∷ x ∷ more) s board e = absurd (none_some s e)

-- ---- registers and counters

abbrev pub IsKnown : Board → Span × Source → Type 0
IsKnown b known = IsWordSpan known.0 × IsSource b known.1

three : (a c : List ℕ) (d e : List ℕ) (f g : Words) → a ≡ c → d ≡ e → f ≡ g
    → a ∷ d ∷ f ≡ c ∷ e ∷ g
three a c d e f g p q r = cc

sourced_only : KnownOfNumbers → (b : Board) (ws : Words) (known : Span × Source) → IsBoard b
    → sourced_span b ws ≡ Some known
    → (ws ≡ decimal known.0.lo ∷ decimal known.0.hi ∷ source_words b known.1) × IsKnown b known
sourced_only laws b [] known board e = absurd (none_some known e)
sourced_only laws b (lo ∷ []) known board e = absurd (none_some known e)
sourced_only laws b (lo ∷ hi ∷ from) known board e =
    let q = from_then (λ (span : Span). option_map (λ (s : Source). (span, s)) (source_of b from))
    (span_of lo hi) known e in
    let r = from_map (λ (s : Source). (q.value, s)) (source_of b from) known q.gives in
    let p = span_only laws lo hi q.value q.there in
    let s = source_only b from r.value board r.there in
    rw (← r.is) (three lo _ hi _ from _ p.0 p.1 s.0, (p.2, s.1))

pub register_only : KnownOfNumbers → (b : Board) (i : ℕ) (ws : Words) (known : Span × Source)
    → IsBoard b
    → register_said b i ws ≡ Some known → (ws ≡ register_words b i known) × IsKnown b known
unfolding register_said
register_only laws b i ws known board e =
    let q = from_then
    (λ name. option_and_then (sourced_span b) (after_name (codes "reg") name ws))
    (slice_get register_names i) known e in
    let n = at_only register_names i q.value q.there in
    let r = from_then (sourced_span b) (after_name (codes "reg") q.value ws) known q.gives in
    let p = sourced_only laws b r.value known board r.gives in (
      name_only (codes "reg") q.value ws r.value r.there
          ∙ ap (λ name. codes "reg" ∷ name ∷ r.value) n.0
          ∙ ap (λ vs. codes "reg" ∷ name_at register_names i ∷ vs) p.0,
      p.1,
    )

pub register_back : KnownOfNumbers → (b : Board) (i : ℕ) (known : Span × Source) → IsBoard b → i < 8
    → IsKnown b known → register_said b i (register_words b i known) ≡ Some known
unfolding register_said
register_back laws b i known board less good =
    rw (at_back register_names i (omega (arith, less)))
    (ap (option_and_then (sourced_span b))
    (name_back (codes "reg") (name_at register_names i) _)
    ∙ rw (span_back laws known.0 good.0, source_back b known.1 board good.1) refl)

only_only : KnownOfNumbers → (ws : Words) (span : Span) → only_span ws ≡ Some span
    → (ws ≡ decimal span.lo ∷ decimal span.hi ∷ []) × IsWordSpan span
only_only laws [] span e = absurd (none_some span e)
only_only laws (lo ∷ []) span e = absurd (none_some span e)
only_only laws (lo ∷ hi ∷ []) span e =
    let p = span_only laws lo hi span e in (three lo _ hi _ [] [] p.0 p.1 refl, p.2)
only_only laws (lo ∷ hi ∷ x ∷ more) span e = absurd (none_some span e)

pub counter_only : KnownOfNumbers → (i : ℕ) (ws : Words) (span : Span)
    → counter_said i ws ≡ Some span
    → (ws ≡ counter_words i span) × IsWordSpan span
unfolding counter_said
counter_only laws i ws span e =
    let q = from_then (λ name. option_and_then only_span (after_name (codes "counter") name ws))
    (slice_get counter_names i) span e in
    let n = at_only counter_names i q.value q.there in
    let r = from_then only_span (after_name (codes "counter") q.value ws) span q.gives in
    let p = only_only laws r.value span r.gives in (
      name_only (codes "counter") q.value ws r.value r.there
          ∙ ap (λ name. codes "counter" ∷ name ∷ r.value) n.0
          ∙ ap (λ vs. codes "counter" ∷ name_at counter_names i ∷ vs) p.0,
      p.1,
    )

pub counter_back : KnownOfNumbers → (i : ℕ) (span : Span) → i < 4 → IsWordSpan span
    → counter_said i (counter_words i span) ≡ Some span
unfolding counter_said
counter_back laws i span less good =
    rw (at_back counter_names i (omega (arith, less)))
    (ap (option_and_then only_span) (name_back (codes "counter") (name_at counter_names i) _)
    ∙ span_back laws span good)

-- ---- lost arbitrations

pub lost_only : KnownOfNumbers → (ws : Words) (span : Span) → lost_said ws ≡ Some span
    → (ws ≡ lost_words span) × IsWordSpan span
lost_only laws ws span e =
    let q = from_then only_span (after_key (codes "lost") ws) span e in
    let p = only_only laws q.value span q.gives in
    (key_only (codes "lost") ws q.value q.there ∙ ap (λ vs. codes "lost" ∷ vs) p.0, p.1)

pub lost_back : KnownOfNumbers → (span : Span) → IsWordSpan span
    → lost_said (lost_words span) ≡ Some span
lost_back laws span good =
    ap (option_and_then only_span)
    (key_back (codes "lost") (decimal span.lo ∷ decimal span.hi ∷ []))
    ∙ span_back laws span good

-- ---- ticks

abbrev pub Ticks : Type 0
Ticks = ℕ × List ℕ × ℕ

-- the first form says no coefficient of lost arbitrations
abbrev pub IsUnsaid : Version → ℕ → Type 0
IsUnsaid First lost = lost ≡ 0
IsUnsaid Second lost = Unit {0}

pub record AreFive (five : ℕ × List ℕ) : Type 0 where
  pub base : five.0 < 2 ^ 64
  pub count : length five.1 ≡ 4
  pub coeffs : EachIs (λ k. k < 2 ^ 64) five.1

pub record AreTicks (v : Version) (ticks : Ticks) : Type 0 where
  pub base : ticks.0 < 2 ^ 64
  pub count : length ticks.1 ≡ 4
  pub coeffs : EachIs (λ k. k < 2 ^ 64) ticks.1
  pub lost : ticks.2 < 2 ^ 64
  pub unsaid : IsUnsaid v ticks.2

-- the words of numbers
abbrev pub numbers_words : Version → Ticks → Words
numbers_words v ticks = decimal ticks.0 ∷ map decimal (factors v ticks.1 ticks.2)

abbrev AreSaid : Version → Words → Ticks → Type 0
AreSaid v ws ticks = (ws ≡ numbers_words v ticks) × AreTicks v ticks

five : (b k0 k1 k2 k3 c l0 l1 l2 l3 : List ℕ) → b ≡ c → k0 ≡ l0 → k1 ≡ l1 → k2 ≡ l2 → k3 ≡ l3
    → b ∷ k0 ∷ k1 ∷ k2 ∷ k3 ∷ [] ≡ c ∷ l0 ∷ l1 ∷ l2 ∷ l3 ∷ []
five b k0 k1 k2 k3 c l0 l1 l2 l3 p q r s t = cc

five_only : KnownOfNumbers → (b k0 k1 k2 k3 : List ℕ) (ticks : ℕ × List ℕ)
    → five_numbers b k0 k1 k2 k3 ≡ Some ticks
    → (b ∷ k0 ∷ k1 ∷ k2 ∷ k3 ∷ [] ≡ decimal ticks.0 ∷ map decimal ticks.1) × AreFive ticks
unfolding five_numbers
five_only laws b k0 k1 k2 k3 ticks e =
    let q = from_then _ (number_of b) ticks e in
    let q0 = from_then _ (number_of k0) ticks q.gives in
    let q1 = from_then _ (number_of k1) ticks q0.gives in
    let q2 = from_then _ (number_of k2) ticks q1.gives in
    let q3 = from_map _ (number_of k3) ticks q2.gives in
    let n = number_only laws b q.value q.there in
    let n0 = number_only laws k0 q0.value q0.there in
    let n1 = number_only laws k1 q1.value q1.there in
    let n2 = number_only laws k2 q2.value q2.there in
    let n3 = number_only laws k3 q3.value q3.there in
    rw (← q3.is) (
      five b k0 k1 k2 k3 _ _ _ _ _ n.0 n0.0 n1.0 n2.0 n3.0,
      record { base = n.1; count = refl; coeffs = (n0.1, (n1.1, (n2.1, (n3.1, tt)))) },
    )

abbrev with' : Option ℕ → ℕ × List ℕ → Option Ticks
with' lost f = option_map (λ (k : ℕ). (f.0, f.1, k)) lost

first_only : KnownOfNumbers → (ws : Words) (ticks : Ticks) → numbers_of First ws ≡ Some ticks
    → AreSaid First ws ticks
first_only laws [] ticks e = absurd (none_some ticks e)
first_only laws (b ∷ []) ticks e = absurd (none_some ticks e)
first_only laws (b ∷ k0 ∷ []) ticks e = absurd (none_some ticks e)
first_only laws (b ∷ k0 ∷ k1 ∷ []) ticks e = absurd (none_some ticks e)
first_only laws (b ∷ k0 ∷ k1 ∷ k2 ∷ []) ticks e = absurd (none_some ticks e)
first_only laws (b ∷ k0 ∷ k1 ∷ k2 ∷ k3 ∷ []) ticks e =
    let q = from_then (with' (Some 0)) (five_numbers b k0 k1 k2 k3) ticks e in
    let p = five_only laws b k0 k1 k2 k3 q.value q.there in
    let r = from_map (λ (k : ℕ). (q.value.0, q.value.1, k)) (Some 0) ticks q.gives in
    let zero_there : 0 ≡ r.value = same_some 0 r.value r.there in
    rw (← r.is) (
      p.0,
      record {
        base = p.1.base;
        count = p.1.count;
        coeffs = p.1.coeffs;
        lost = omega (arith, zero_there);
        unsaid = sym zero_there;
      },
    )
first_only laws (b ∷ k0 ∷ k1 ∷ k2 ∷ k3 ∷ x ∷ more) ticks e = absurd (none_some ticks e)

second_only : KnownOfNumbers → (ws : Words) (ticks : Ticks) → numbers_of Second ws ≡ Some ticks
    → AreSaid Second ws ticks
second_only laws [] ticks e = absurd (none_some ticks e)
second_only laws (b ∷ []) ticks e = absurd (none_some ticks e)
second_only laws (b ∷ k0 ∷ []) ticks e = absurd (none_some ticks e)
second_only laws (b ∷ k0 ∷ k1 ∷ []) ticks e = absurd (none_some ticks e)
second_only laws (b ∷ k0 ∷ k1 ∷ k2 ∷ []) ticks e = absurd (none_some ticks e)
second_only laws (b ∷ k0 ∷ k1 ∷ k2 ∷ k3 ∷ []) ticks e = absurd (none_some ticks e)
second_only laws (b ∷ k0 ∷ k1 ∷ k2 ∷ k3 ∷ x ∷ []) ticks e =
    let q = from_then (with' (number_of x)) (five_numbers b k0 k1 k2 k3) ticks e in
    let p = five_only laws b k0 k1 k2 k3 q.value q.there in
    let r = from_map (λ (k : ℕ). (q.value.0, q.value.1, k)) (number_of x) ticks q.gives in
    let n = number_only laws x r.value r.there in
    rw (← r.is) (
      ap (λ (ls : Words). ls ++ x ∷ []) p.0
          ∙ ap (λ (y : List ℕ). decimal q.value.0 ∷ (map decimal q.value.1 ++ y ∷ [])) n.0
          ∙ ap (λ (ls : Words). decimal q.value.0 ∷ ls)
          (sym (map-append decimal q.value.1 (r.value ∷ []))),
      record {
        base = p.1.base;
        count = p.1.count;
        coeffs = p.1.coeffs;
        lost = n.1;
        unsaid = tt;
      },
    )
second_only laws (b ∷ k0 ∷ k1 ∷ k2 ∷ k3 ∷ x ∷ y ∷ more) ticks e = absurd (none_some ticks e)

numbers_only : KnownOfNumbers → (v : Version) (ws : Words) (ticks : Ticks)
    → numbers_of v ws ≡ Some ticks → AreSaid v ws ticks
numbers_only laws First ws ticks e = first_only laws ws ticks e
numbers_only laws Second ws ticks e = second_only laws ws ticks e

pub ticks_only : KnownOfNumbers → (v : Version) (ws : Words) (ticks : Ticks)
    → ticks_said v ws ≡ Some ticks
    → (ws ≡ ticks_words ticks.0 (factors v ticks.1 ticks.2)) × AreTicks v ticks
ticks_only laws v ws ticks e =
    let q = from_then (numbers_of v) (after_key (codes "ticks") ws) ticks e in
    let p = numbers_only laws v q.value ticks q.gives in
    (key_only (codes "ticks") ws q.value q.there ∙ ap (λ vs. codes "ticks" ∷ vs) p.0, p.1)

first_back : KnownOfNumbers → (b : ℕ) (ks : List ℕ) → length ks ≡ 4 → b < 2 ^ 64
    → EachIs (λ k. k < 2 ^ 64) ks
    → numbers_of First (decimal b ∷ map decimal ks) ≡ Some (b, ks, 0)
unfolding five_numbers
first_back laws b [] n less all = absurd (omega (arith, n))
first_back laws b (k0 ∷ []) n less all = absurd (omega (arith, n))
first_back laws b (k0 ∷ k1 ∷ []) n less all = absurd (omega (arith, n))
first_back laws b (k0 ∷ k1 ∷ k2 ∷ []) n less all = absurd (omega (arith, n))
first_back laws b (k0 ∷ k1 ∷ k2 ∷ k3 ∷ []) n less all =
    rw (
      number_back laws b less,
      number_back laws k0 all.0,
      number_back laws k1 all.1.0,
      number_back laws k2 all.1.1.0,
      number_back laws k3 all.1.1.1.0,
    ) refl
first_back laws b (k0 ∷ k1 ∷ k2 ∷ k3 ∷ x ∷ more) n less all = absurd (omega (arith, n))

second_back : KnownOfNumbers → (b : ℕ) (ks : List ℕ) (lost : ℕ) → length ks ≡ 4 → b < 2 ^ 64
    → EachIs (λ k. k < 2 ^ 64) ks → lost < 2 ^ 64
    → numbers_of Second (decimal b ∷ map decimal (ks ++ lost ∷ [])) ≡ Some (b, ks, lost)
unfolding five_numbers
second_back laws b [] lost n less all few = absurd (omega (arith, n))
second_back laws b (k0 ∷ []) lost n less all few = absurd (omega (arith, n))
second_back laws b (k0 ∷ k1 ∷ []) lost n less all few = absurd (omega (arith, n))
second_back laws b (k0 ∷ k1 ∷ k2 ∷ []) lost n less all few = absurd (omega (arith, n))
second_back laws b (k0 ∷ k1 ∷ k2 ∷ k3 ∷ []) lost n less all few =
    rw (
      number_back laws b less,
      number_back laws k0 all.0,
      number_back laws k1 all.1.0,
      number_back laws k2 all.1.1.0,
      number_back laws k3 all.1.1.1.0,
      number_back laws lost few,
    ) refl
second_back laws b (k0 ∷ k1 ∷ k2 ∷ k3 ∷ x ∷ more) lost n less all few =
    absurd (omega (arith, n))

numbers_back : KnownOfNumbers → (v : Version) (ticks : Ticks) → AreTicks v ticks
    → numbers_of v (numbers_words v ticks) ≡ Some ticks
numbers_back laws First ticks good =
    first_back laws ticks.0 ticks.1 good.count good.base good.coeffs
    ∙ ap (λ (k : ℕ). Some (ticks.0, ticks.1, k)) (sym good.unsaid)
numbers_back laws Second ticks good =
    second_back laws ticks.0 ticks.1 ticks.2 good.count good.base good.coeffs good.lost

pub ticks_back : KnownOfNumbers → (v : Version) (ticks : Ticks) → AreTicks v ticks
    → ticks_said v (ticks_words ticks.0 (factors v ticks.1 ticks.2)) ≡ Some ticks
ticks_back laws v ticks good =
    ap (option_and_then (numbers_of v)) (key_back (codes "ticks") (numbers_words v ticks))
    ∙ numbers_back laws v ticks good

-- ---- the first line of a place

same_number : (n : ℕ) → (n == n) ≡ true
same_number n = grind (arith, nat_tests)

abbrev pub first_words : ℕ → Bool → Words
first_words n true = head_words n
first_words n false = none_words n

pub head_back : KnownOfNumbers → (n : ℕ) (has : Bool) → n < 2 ^ 64
    → head_said n (first_words n has) ≡ Some has
head_back laws n true less = rw (number_back laws n less, same_number n) refl
head_back laws n false less = rw (number_back laws n less, same_number n) refl

some_of : (n : ℕ) (o : Option ℕ) → is_some_of n o ≡ true → o ≡ Some n
some_of n None t = absurd cc
some_of n (Some m) t = ap (λ (x : ℕ). Some x) (grind (arith, nat_tests))

row_only : (n : ℕ) (word : List ℕ) (ws : Words) (has : Bool) → word ≡ decimal n
    → has_row ws ≡ Some has → codes "row" ∷ word ∷ ws ≡ first_words n has
row_only n word [] true is e = ap (λ (x : List ℕ). codes "row" ∷ x ∷ []) is
row_only n word [] false is e = absurd cc
row_only n word (w ∷ []) true is e =
    let q = from_if (bytes_eq w (codes "none")) (Some false) true e in absurd (cc)
row_only n word (w ∷ []) false is e =
    let q = from_if (bytes_eq w (codes "none")) (Some false) false e in
    ap (λ (x : List ℕ). codes "row" ∷ x ∷ w ∷ []) is
    ∙ ap (λ (x : List ℕ). codes "row" ∷ decimal n ∷ x ∷ []) (same_text w (codes "none") q.0)
row_only n word (w ∷ x ∷ more) has is e = absurd (none_some has e)

numbered_only : KnownOfNumbers → (n : ℕ) (ws : Words) (has : Bool) → numbered n ws ≡ Some has
    → codes "row" ∷ ws ≡ first_words n has
numbered_only laws n [] has e = absurd (none_some has e)
numbered_only laws n (word ∷ ws) has e =
    let q = from_if (is_some_of n (number_of word)) (has_row ws) has e in
    row_only n word ws has (number_only laws word n (some_of n (number_of word) q.0)).0 q.1

pub head_only : KnownOfNumbers → (n : ℕ) (ws : Words) (has : Bool) → head_said n ws ≡ Some has
    → ws ≡ first_words n has
head_only laws n ws has e =
    let q = from_then (numbered n) (after_key (codes "row") ws) has e in
    key_only (codes "row") ws q.value q.there ∙ numbered_only laws n q.value has q.gives
