-- Sets of pages, protections and rails, by their tests. What stands for a set in the code is seen
-- here and nowhere above.
use Rattle.std.specs.Prelude.{ℕ, Bool, false, ◌==◌, ◌&&◌, ◌||◌, nat_lt, nat_le, if◌then◌else◌, List}
use Rattle.std.specs.Prelude.{[], ◌∷◌, Option, Some, None, IsTrue}
use Rattle.wires.specs.Bits.{bit}
use Rattle.pmbus_table.specs.Codes.{all_pages}

abbrev pub Set : Type 0
Set = ℕ → Bool

unfoldable pub HasValue : Set → Type 0
HasValue set = (v : ℕ) × IsTrue (set v)

abbrev pub empty : Set
empty = λ v. false

abbrev pub only : ℕ → Set
only v = λ x. x == v

abbrev pub gains : Set → ℕ → Set
gains s v = λ x. s x || x == v

abbrev pub keeps : Set → (ℕ → Bool) → Set
keeps s test = λ x. s x && test x

-- the values of a kind whose places are in a word
abbrev pub values_in : (ℕ → Bool) → (ℕ → ℕ) → ℕ → Set
values_in is_value place bits = λ v. is_value v && bit bits (place v)

-- the values that a set of pages may have, and the bit of each
abbrev pub is_page : ℕ → Bool
is_page value = nat_lt value 32 || value == all_pages

abbrev pub page_bit : ℕ → ℕ
page_bit value = if value == all_pages then 32 else value

abbrev pub pages_in : ℕ → Set
pages_in bits = values_in is_page page_bit bits

abbrev pub page_at : ℕ → ℕ
page_at place = if place == 32 then all_pages else place

-- a protection's bit; other values have none
abbrev pub protect_bit : ℕ → ℕ
protect_bit value =
    if value == 0x00 then 0
    else if value == 0x20 then 1
    else if value == 0x40 then 2
    else if value == 0x80 then 3
    else 4

-- the four values of WRITE_PROTECT (PMBus 1.3 Part II, 11.1)
abbrev pub is_protect : ℕ → Bool
is_protect value = nat_le (protect_bit value) 3

abbrev pub protects_in : ℕ → Set
protects_in bits = values_in is_protect protect_bit bits

abbrev pub protect_at : ℕ → ℕ
protect_at place =
    if place == 0 then 0x00
    else if place == 1 then 0x20
    else if place == 2 then 0x40
    else 0x80

-- rails are at most 64
abbrev pub is_rail : ℕ → Bool
is_rail index = nat_lt index 64

abbrev pub rails_in : ℕ → Set
rails_in bits = values_in is_rail (λ d. d) bits

-- a set and these values, if each is a value of its kind
abbrev pub with_values : (ℕ → Bool) → Set → List ℕ → Option Set
with_values is_value s [] = Some s
with_values is_value s (v ∷ vs) = if is_value v then with_values is_value (gains s v) vs else None

-- the set of these values
abbrev pub set_of : (ℕ → Bool) → List ℕ → Option Set
set_of is_value values = with_values is_value empty values
