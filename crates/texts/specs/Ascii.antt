-- Characters of ASCII (RFC 20) by their names.
use Rattle.std.specs.Prelude.{ℕ}

abbrev pub line_feed : ℕ
line_feed = 10

abbrev pub space : ℕ
space = 32

abbrev pub number_sign : ℕ
number_sign = 35

abbrev pub percent_sign : ℕ
percent_sign = 37

abbrev pub comma : ℕ
comma = 44

abbrev pub digit_zero : ℕ
digit_zero = 48

abbrev pub digit_one : ℕ
digit_one = 49

abbrev pub digit_nine : ℕ
digit_nine = 57

abbrev pub colon : ℕ
colon = 58

abbrev pub upper_a : ℕ
upper_a = 65

abbrev pub upper_f : ℕ
upper_f = 70

abbrev pub low_line : ℕ
low_line = 95

abbrev pub lower_a : ℕ
lower_a = 97

abbrev pub lower_c : ℕ
lower_c = 99

abbrev pub lower_f : ℕ
lower_f = 102

abbrev pub lower_r : ℕ
lower_r = 114

abbrev pub lower_z : ℕ
lower_z = 122
