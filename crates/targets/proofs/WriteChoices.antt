-- A message writes to one target, or to none.
use Rattle.std.proofs.Common.{◌≡◌, ◌≢◌, ◌⊎◌, ◌&&◌, inl, inr, ℕ, Bool, true, false, Option, Some}
use Rattle.std.proofs.Common.{None}
use Rattle.std.proofs.Common.{IfSome, List, [], ◌∷◌, slice_get, refl, sym, ◌∙◌}
use Rattle.std.specs.Prelude.{option_and_then}
use Rattle.std.proofs.lemmas.Bool.{cases_Bool}
use Rattle.smbus.specs.declared.message.Form.{Form}
use Rattle.smbus.specs.declared.message.Form.TheVariants.{WriteByte}
use Rattle.smbus.specs.Asked.{Asked}
use Rattle.smbus.specs.Answered.{Answered}
use Rattle.pmbus_table.specs.Protect.{permits}
use Rattle.board.specs.Boards.{Target, Board, place_of_address}
use Rattle.board.specs.Valid.{IsBoard}
use Rattle.targets.specs.States.{BusState}
use Rattle.targets.specs.Outcomes.{IsDone, cut_of}
use Rattle.targets.specs.WriteSlots.{reaches_value, cuts_after_value}
use Rattle.targets.specs.Effects.{IsByteWrite, ValueWentOut, TakesEffect, IsPermitted, Writes}
use Rattle.targets.proofs.ValueOut.{value_out}
use Rattle.targets.proofs.Addresses.{place_found, place_not_found, only_one}
use Rattle.targets.proofs.Written.{Test, IsOnly, writes, seen, is_same}
use Rattle.targets.proofs.StoredAfter.{same_or_not}

-- the only write, or none
pub record HasWrite (W : ℕ → ℕ → Type 0) : Type 0 where
  pub write : Option (ℕ × ℕ)
  pub is : IfSome write (λ w. W w.0 w.1)
  pub only : (i v : ℕ) → W i v → write ≡ Some (i, v)

no_write : (W : ℕ → ℕ → Type 0) → ((i v : ℕ) → W i v → ⊥) → HasWrite W
no_write W none = record { write = None; is = tt; only = λ i v w. absurd (none i v w) }

is_write_byte : (f : Form) → (f ≡ WriteByte) ⊎ (f ≢ WriteByte)
is_write_byte WriteByte = inl refl
is_write_byte other = inr (λ e. cc)

one_value : (out : List ℕ) → ((v : ℕ) × (out ≡ v ∷ [])) ⊎ ((v : ℕ) → out ≡ v ∷ [] → ⊥)
one_value [] = inr (λ v e. cc)
one_value (v ∷ []) = inl (v, refl)
one_value (v ∷ w ∷ out) = inr (λ u e. cc)

-- the value that is written to the command, if one is
written_value : (code : ℕ) (m : Asked)
    → ((v : ℕ) × IsByteWrite m.address code v m)
    ⊎ ((address v : ℕ) → IsByteWrite address code v m → ⊥)
written_value code m = elim (is_write_byte m.form) [
  | inr other ↦ inr (λ address v w. other w.form)
  | inl form ↦ elim (same_or_not m.code code) [
    | inr other ↦ inr (λ address v w. other w.command)
    | inl same ↦ elim (one_value m.out) [
      | inr other ↦ inr (λ address v w. other v w.content)
      | inl one ↦ inl (
        one.0,
        record { to = refl; form = form; command = same; content = one.1 },
      )
    ]
  ]
]

pub none_or_not : {X : Type 0} (o : Option X) → (o ≡ None) ⊎ (o ≢ None)
none_or_not None = inl refl
none_or_not (Some x) = inr (λ e. cc)

pub done_or_not : (m : Asked) (a : Answered) → IsDone m a ⊎ (IsDone m a → ⊥)
done_or_not m a = elim (none_or_not a.refuse) [
  | inr other ↦ inr (λ d. other d.accepted)
  | inl accepted ↦ elim (none_or_not (cut_of m a)) [
    | inr other ↦ inr (λ d. other d.uncut)
    | inl uncut ↦ inl (record { accepted = accepted; uncut = uncut })
  ]
]

out_or_not : (m : Asked) (a : Answered) (address code v : ℕ) → IsByteWrite address code v m
    → ValueWentOut v m a ⊎ (ValueWentOut v m a → ⊥)
out_or_not m a address code v w =
    let out = value_out m a v w.form w.content in
    elim (cases_Bool (reaches_value a.refuse && cuts_after_value (cut_of m a))) [
      | inl t ↦ inl (out.0 t)
      | inr f ↦ inr (λ went. let bad : true ≡ false = sym (out.1 went) ∙ f in cc)
    ]

takes_effect_or_not : (m : Asked) (a : Answered) (address code v : ℕ) → IsByteWrite address code v m
    → TakesEffect v m a ⊎ (TakesEffect v m a → ⊥)
takes_effect_or_not m a address code v w = elim (done_or_not m a) [
  | inl done ↦ inl (inl done)
  | inr undone ↦ elim (out_or_not m a address code v w) [
    | inr held ↦ inr (λ e. elim e [ inl d ↦ undone d | inr both ↦ held both.0 ])
    | inl out ↦ elim (cases_Bool a.took) [
      | inl took ↦ inl (inr (out, took))
      | inr f ↦ inr (λ e. elim e [
        | inl d ↦ undone d
        | inr both ↦ let bad : true ≡ false = sym both.1 ∙ f in cc
      ])
    ]
  ]
]

permits_or_not : (o : Option Bool) → (o ≡ Some true) ⊎ (o ≢ Some true)
permits_or_not None = inr (λ e. cc)
permits_or_not (Some true) = inl refl
permits_or_not (Some false) = inr (λ e. cc)

abbrev Taken : BusState → ℕ → ℕ → ℕ → Asked → Answered → Type 0
Taken s i code v m a = IsPermitted s i code × TakesEffect v m a

taken_or_not : (s : BusState) (i : ℕ) (m : Asked) (a : Answered) (address code v : ℕ)
    → IsByteWrite address code v m → Taken s i code v m a ⊎ (Taken s i code v m a → ⊥)
taken_or_not s i m a address code v w =
    elim (permits_or_not
    (option_and_then (λ protect. permits protect code) (slice_get s.protect i))) [
      | inr other ↦ inr (λ both. other both.0)
      | inl permitted ↦ elim (takes_effect_or_not m a address code v w) [
        | inr other ↦ inr (λ both. other both.1)
        | inl effect ↦ inl (permitted, effect)
      ]
    ]

-- a write of the value to the target at an index, or none
write_there : (code : ℕ) (is_value : Test) (b : Board) (s : BusState) (m : Asked) (a : Answered)
    (j v : ℕ) (t : Target)
    → IsByteWrite t.address code v m → IsOnly code b m j t v
    → HasWrite (λ i v. Writes code is_value b s (Some m) a i v)
write_there code is_value b s m a j v t w o = elim (cases_Bool (is_value t v)) [
  | inr f ↦ no_write _ (λ i u x.
      let same = is_same code is_value b s m a j t v o i u x in
      let bad : true ≡ false = sym same.valid ∙ f in
      cc)
  | inl valid ↦ elim (taken_or_not s j m a t.address code v w) [
    | inr other ↦ no_write _
        (λ i u x. other (is_same code is_value b s m a j t v o i u x).taken)
    | inl taken ↦ record {
      write = Some (j, v);
      is = writes code is_value b s m a j v t o.at w valid taken;
      only =
          λ i u x.
          let same = is_same code is_value b s m a j t v o i u x in
          rw (same.place, same.number) refl;
    }
  ]
]

sent_write : (code : ℕ) (is_value : Test) (b : Board) (s : BusState) (m : Asked) (a : Answered)
    → IsBoard b → HasWrite (λ i v. Writes code is_value b s (Some m) a i v)
sent_write code is_value b s m a is = elim (written_value code m) [
  | inr none ↦ no_write _ (λ i v w.
      let x = seen code is_value b s m a i v w in none x.target.address v x.is_write)
  | inl value ↦ at_place value.0 value.1 (place_of_address m.address b.targets) refl
]
  where
    at_place : (v : ℕ) → IsByteWrite m.address code v m → (place : Option ℕ)
        → place_of_address m.address b.targets ≡ place
        → HasWrite (λ i v. Writes code is_value b s (Some m) a i v)
    at_place v w None e = no_write _ (λ i u x.
        let y = seen code is_value b s m a i u x in
        place_not_found m.address b.targets e i y.target y.at (sym y.is_write.to))
    at_place v w (Some j) e =
        let f = place_found m.address j b.targets e in
        let there : IsByteWrite f.0.address code v m = rw f.2 w in
        write_there code is_value b s m a j v f.0 there
        (record {
          at = f.1;
          only = λ i u x ui y. (
            only_one b is i j u f.0 ui f.1 (sym y.to ∙ sym f.2),
            (let e : x ∷ [] ≡ v ∷ [] = sym y.content ∙ w.content in cc),
          );
        })

pub some_write : (code : ℕ) (is_value : Test) (b : Board) (s : BusState) (m : Option Asked)
    (a : Answered)
    → IsBoard b → HasWrite (λ i v. Writes code is_value b s m a i v)
some_write code is_value b s None a is = no_write _ (λ i v w. let e = w.sent in cc)
some_write code is_value b s (Some m) a is = sent_write code is_value b s m a is
