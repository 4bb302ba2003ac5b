-- Printed numbers, registers, counters, labels and blocks are words that read back.
use Rattle.std.proofs.Common.{◌≡◌, ℕ, ◌+◌, ◌/◌, ◌%◌, ◌<◌, ◌≤◌, Bool, true, false, ◌&&◌, nat_le}
use Rattle.std.proofs.Common.{nat_eq, List, [], ◌∷◌, length, Some, None, codes, refl, arith, rules}
use Rattle.std.proofs.Common.{lit<}
use Rattle.std.specs.List.{list_all, starts_with}
use Rattle.std.specs.Char.{is_ascii_digit}
use Rattle.std.specs.Fmt.{decimal}
use Rattle.std.specs.Str.Parse.{digits_value}
use Rattle.std.proofs.lemmas.Bool.{and_parts, and_from, lt-ltb, le-leb}
use Rattle.std.proofs.lemmas.Bool.Decides.{nat_tests}
use Rattle.std.proofs.lemmas.Fmt.{digits_decimal, decimal_nonempty, decimal_digit}
use Rattle.std.proofs.lemmas.Fmt.{length-decimal-le}
use Rattle.std.proofs.lemmas.List.Elements.{All-weaker, All-from_recursion}
use Rattle.std.proofs.lemmas.List.Sums.{AllPass-from_list_all, list_all-from_AllPass}
use Rattle.std.proofs.lemmas.Str.Parse.{IsNumeralModel, numerals_by_value}
use Rattle.texts.specs.Hex.{digit_of, pairs_text, pairs_of}
use Rattle.texts.specs.Names.{is_name, is_name_byte}
use Rattle.texts.specs.ReadBack.{BytesReadBack, DecimalsReadBack}
use Rattle.seq_program.specs.Operands.{numbered, register_of, counter_of, label_of, direction_of}
use Rattle.seq_program.specs.Operands.{number_of, number_within, block_of}
use Rattle.seq_program.specs.PrintedWords.{place_name, register_name, counter_name, direction_name}
use Rattle.seq_program.specs.Valid.{IsBlock}
use Rattle.seq_program.specs.JoinedWords.{is_word_byte, is_word}
use Rattle.seq_program.proofs.JoinedWords.{word-cons}

-- printed numbers have digits alone
abbrev HasDigits : List ℕ → Type 0
HasDigits text = list_all is_ascii_digit text ≡ true

own : IsNumeralModel HasDigits (digits_value 10)
own = numerals_by_value HasDigits (search rules)

pub digits_alone : (n : ℕ) → n ≤ 99999999 → list_all is_ascii_digit (decimal n) ≡ true
digits_alone n few = digits_decimal own n (omega arith)

all_pass : (p q : ℕ → Bool) → ((b : ℕ) → p b ≡ true → q b ≡ true) → (xs : List ℕ)
    → list_all p xs ≡ true → list_all q xs ≡ true
all_pass p q f xs t =
    list_all-from_AllPass q xs
    (All-weaker (λ b. p b ≡ true) (λ b. q b ≡ true) f xs (AllPass-from_list_all p xs t))

word_digit : (b : ℕ) → is_ascii_digit b ≡ true → is_word_byte b ≡ true
word_digit b t = grind (arith, nat_tests)

name_digit : (b : ℕ) → is_ascii_digit b ≡ true → is_name_byte b ≡ true
name_digit b t = grind (arith, nat_tests)

decimal_bytes : (n : ℕ) → n ≤ 99999999 → list_all is_word_byte (decimal n) ≡ true
decimal_bytes n few =
    all_pass is_ascii_digit is_word_byte word_digit (decimal n) (digits_alone n few)

pub decimal_word : (n : ℕ) → n ≤ 99999999 → is_word (decimal n) ≡ true
decimal_word n few =
    and_from _ _ (lt-ltb 0 (length (decimal n)) (decimal_nonempty n (omega arith)))
    (decimal_bytes n few)

-- a number isn't taken for a hexadecimal one, nor for a register
no_prefix : (text : List ℕ) → list_all is_ascii_digit text ≡ true
    → starts_with nat_eq text (codes "0x") ≡ false
no_prefix [] t = refl
no_prefix (c ∷ []) t = grind (arith, nat_tests)
no_prefix (c ∷ d ∷ text) t =
    let second = (and_parts (is_ascii_digit d) (list_all is_ascii_digit text)
    (and_parts (is_ascii_digit c) _ t).1).0 in
    grind (arith, nat_tests)

no_register : (text : List ℕ) → list_all is_ascii_digit text ≡ true → register_of text ≡ None
no_register [] t = refl
no_register (c ∷ []) t = refl
no_register (c ∷ d ∷ []) t =
    let first = (and_parts (is_ascii_digit c) (list_all is_ascii_digit (d ∷ [])) t).0 in
    grind (arith, nat_tests)
no_register (c ∷ d ∷ e ∷ text) t = refl

pub decimal_no_register : (n : ℕ) → n ≤ 99999999 → register_of (decimal n) ≡ None
decimal_no_register n few = no_register (decimal n) (digits_alone n few)

in_range : (low high n : ℕ) → low ≤ n → n ≤ high → (nat_le low n && nat_le n high) ≡ true
in_range low high n least most = and_from _ _ (le-leb low n least) (le-leb n high most)

pub number_back : DecimalsReadBack → (low high n : ℕ) → low ≤ n → n ≤ high → high ≤ 99999999
    → number_within low high (decimal n) ≡ Some n
number_back decimals low high n least most few =
    let read : number_of (decimal n) ≡ Some n =
    rw (no_prefix (decimal n) (digits_alone n (omega arith)))
    (decimals 99999999 n (omega arith) (lit< tt)) in
    rw (read, in_range low high n least most) refl

-- a letter and a digit
numbered_back : (letter limit n : ℕ) → n < limit → limit ≤ 10
    → numbered letter limit (letter ∷ decimal n) ≡ Some n
numbered_back letter limit n less few =
    let digit : decimal n ≡ (48 + n) ∷ [] = decimal_digit n (omega arith) in
    rw digit (grind (arith, nat_tests))

pub register_back : (r : ℕ) → r < 8 → register_of (register_name r) ≡ Some r
register_back r less = numbered_back 114 8 r less (omega arith)

pub counter_back : (c : ℕ) → c < 4 → counter_of (counter_name c) ≡ Some c
counter_back c less = numbered_back 99 4 c less (omega arith)

pub register_word : (r : ℕ) → r < 8 → is_word (register_name r) ≡ true
register_word r less = word-cons 114 (decimal r) (decimal_bytes r (omega arith))

pub counter_word : (c : ℕ) → c < 4 → is_word (counter_name c) ≡ true
counter_word c less = word-cons 99 (decimal c) (decimal_bytes c (omega arith))

pub direction_back : (read : Bool) → direction_of (direction_name read) ≡ Some read
direction_back true = refl
direction_back false = refl

pub direction_word : (read : Bool) → is_word (direction_name read) ≡ true
direction_word true = refl
direction_word false = refl

-- labels
pub place_word : (place : ℕ) → place < 1024 → is_word (place_name place) ≡ true
place_word place few = word-cons 112 (decimal place) (decimal_bytes place (omega arith))

place_is_name : (place : ℕ) → place < 1024 → is_name (place_name place) ≡ true
place_is_name place few =
    let short : length (decimal place) ≤ 4 =
    length-decimal-le 4 place (lit< tt) (omega arith) (omega arith) in
    and_from _ _ (and_from _ _ (lt-ltb 0 (length (place_name place)) (omega arith))
    (le-leb (length (place_name place)) 32 (omega arith)))
    (all_pass is_ascii_digit is_name_byte name_digit (decimal place)
    (digits_alone place (omega arith)))

pub label_back : (place : ℕ) → place < 1024 → label_of (place_name place) ≡ Some (place_name place)
label_back place few = rw (place_is_name place few) refl

-- blocks
digit_byte : (n : ℕ) → is_word_byte (digit_of n) ≡ true
digit_byte n = grind (arith, nat_tests)

pub pairs_bytes : (bytes : List ℕ) → list_all is_word_byte (pairs_text bytes) ≡ true
pairs_bytes [] = refl
pairs_bytes (b ∷ bytes) =
    and_from _ _ (digit_byte (b / 16)) (and_from _ _ (digit_byte (b % 16)) (pairs_bytes bytes))

pub block_word : (most : ℕ) (bytes : List ℕ) → IsBlock most bytes
    → is_word (pairs_text bytes) ≡ true
block_word most [] block = absurd (omega arith)
block_word most (b ∷ bytes) block =
    word-cons (digit_of (b / 16)) (digit_of (b % 16) ∷ pairs_text bytes) (pairs_bytes (b ∷ bytes))

pub block_back : BytesReadBack → (most : ℕ) (bytes : List ℕ) → IsBlock most bytes
    → block_of most (pairs_text bytes) ≡ Some bytes
block_back pairs most bytes block =
    let read : pairs_of (pairs_text bytes) ≡ Some bytes =
    pairs bytes (All-from_recursion (λ b. b < 256) bytes block.2) in
    rw (read, in_range 1 most (length bytes) block.0 block.1) refl
