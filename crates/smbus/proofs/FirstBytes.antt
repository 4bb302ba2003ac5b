-- The first byte of a message settles who wins over it.
use Rattle.std.proofs.Common.{◌≡◌, ℕ, ◌*◌, ◌<◌, ◌≤◌, inl, inr, Bool, true, false, Option}
use Rattle.std.proofs.Common.{Some, None, List, ◌∷◌, refl, sym, ap, ◌∙◌, arith}
use Rattle.std.proofs.lemmas.Bool.{cases_lt, le-ltb, lt-ltb}
use Rattle.smbus.specs.declared.message.Form.{Form}
use Rattle.smbus.specs.declared.message.Form.TheVariants.{Quick, SendByte, ReceiveByte, WriteByte}
use Rattle.smbus.specs.declared.message.Form.TheVariants.{WriteWord, ReadByte, ReadWord}
use Rattle.smbus.specs.declared.message.Form.TheVariants.{ProcessCall, BlockWrite, BlockRead}
use Rattle.smbus.specs.declared.message.Form.TheVariants.{BlockProcessCall, Alert}
use Rattle.smbus.specs.Protocol.{Piece, whole_of}
use Rattle.smbus.specs.Protocol.Piece.{Sent}
use Rattle.smbus.specs.Contenders.{Contender, byte_to}
use Rattle.smbus.specs.Winners.{winner_over}
use Rattle.smbus.specs.WinnerLaws.{LowerAddressWins, FirstBytesSettle}

-- the direction of the first byte
abbrev pub reads_first : Form → Bool
reads_first (Quick is_read) = is_read
reads_first ReceiveByte = true
reads_first Alert = true
reads_first form = false

abbrev pub StartsWith : List Piece → ℕ → Type 0
StartsWith pieces byte = (later : List Piece) × (pieces ≡ Sent byte ∷ later)

begins_even : (a : ℕ) (later : List Piece) → StartsWith (Sent (2 * a) ∷ later) (byte_to a false)
begins_even a later =
    let e : 2 * a ≡ byte_to a false = omega arith in
    (later, ap (λ (byte : ℕ). Sent byte ∷ later) e)

pub begins : (form : Form) (a code : ℕ) (out : List ℕ) (value : ℕ) (block : List ℕ)
    → StartsWith (whole_of form a code out value block) (byte_to a (reads_first form))
begins (Quick is_read) a code out value block = (_, refl)
begins SendByte a code out value block = begins_even a _
begins ReceiveByte a code out value block = (_, refl)
begins WriteByte a code out value block = begins_even a _
begins WriteWord a code out value block = begins_even a _
begins ReadByte a code out value block = begins_even a _
begins ReadWord a code out value block = begins_even a _
begins ProcessCall a code out value block = begins_even a _
begins BlockWrite a code out value block = begins_even a _
begins BlockRead a code out value block = begins_even a _
begins BlockProcessCall a code out value block = begins_even a _
begins Alert a code out value block = (_, refl)

-- who the winner is, by the addresses

none_some : {X : Type 0} (x : X) → let o : Option X = None in o ≡ Some x → ⊥
none_some x e = cc

some_none : {X : Type 0} (x : X) → let o : Option X = Some x in o ≡ None → ⊥
some_none x e = cc

lost_to : (address : ℕ) (c : Contender) → winner_over address (Some c) ≡ Some c
    → c.address < address
lost_to address c e = elim (cases_lt c.address address) [
  | inl lt ↦ lt
  | inr ge ↦ absurd (none_some c (rw (le-ltb c.address address ge) at e))
]

kept_from : (address : ℕ) (c : Contender) → winner_over address (Some c) ≡ None
    → address ≤ c.address
kept_from address c e = elim (cases_lt c.address address) [
  | inl lt ↦ absurd (some_none c (rw (lt-ltb c.address address lt) at e))
  | inr ge ↦ ge
]

pub first_bytes_settle : LowerAddressWins → FirstBytesSettle
first_bytes_settle lower m a c ours theirs differ starts = record {
  reads = reads_first m.form;
  first = λ value block. begins m.form m.address m.code m.out value block;
  lost = λ e.
      let lt = lost_to m.address c (sym (ap (winner_over m.address) starts) ∙ e) in
      lower c.address m.address c.read (reads_first m.form) lt ours;
  kept = λ e.
      let le = kept_from m.address c (sym (ap (winner_over m.address) starts) ∙ e) in
      let lt : m.address < c.address = omega arith in
      lower m.address c.address (reads_first m.form) c.read lt theirs;
}
