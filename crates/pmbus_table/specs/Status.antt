-- STATUS_WORD (PMBus 1.3 Part II, 17.2). What reports good is this profile's.
use Rattle.std.specs.Prelude.{ℕ, List, [], ◌∷◌, Bool, ◌==◌, ◌&&◌, codes}
use Rattle.std.specs.Int.{bit_at}

-- the names of the bits
abbrev pub status_bits : List (List ℕ × ℕ)
status_bits =
    (codes "NONE_OF_THE_ABOVE", 0x0001) ∷ (codes "CML", 0x0002)
    ∷ (codes "TEMPERATURE", 0x0004) ∷ (codes "VIN_UV_FAULT", 0x0008)
    ∷ (codes "IOUT_OC_FAULT", 0x0010) ∷ (codes "VOUT_OV_FAULT", 0x0020)
    ∷ (codes "OFF", 0x0040) ∷ (codes "BUSY", 0x0080)
    ∷ (codes "UNKNOWN", 0x0100) ∷ (codes "OTHER", 0x0200)
    ∷ (codes "FANS", 0x0400) ∷ (codes "POWER_GOOD_N", 0x0800)
    ∷ (codes "MFR_SPECIFIC", 0x1000) ∷ (codes "INPUT", 0x2000)
    ∷ (codes "IOUT_POUT", 0x4000) ∷ (codes "VOUT", 0x8000)
    ∷ []

-- bits 11 (POWER_GOOD_N) and 6 (OFF) are 0
abbrev pub reported_good : ℕ → Bool
reported_good word = (bit_at word 11 == 0) && (bit_at word 6 == 0)
