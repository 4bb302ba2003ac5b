-- A Value Change Dump (IEEE 1364-2005, 18.2) as a header and marks, each a line.
use Rattle.std.specs.Prelude.{ℕ, ◌*◌, Bool, true, if◌then◌else◌, List, ◌++◌, codes}
use Rattle.std.specs.List.{flat_map}
use Rattle.std.specs.Fmt.{decimal}
use Rattle.wires.specs.declared.lines.Sample.{Sample}
use Rattle.wires.specs.declared.wave.drawing.Wire.{Wire}
use Rattle.wires.specs.declared.wave.drawing.Wire.TheVariants.{Scl, Sda, Smbalert}

-- a number of ticks of 5 µs since the beginning, the place of a step, or a wire's new level
pub data Mark : Type 0 where
  Stamp : (ticks : ℕ) → Mark
  Place : (place : ℕ) → Mark
  Level : (wire : Wire) (level : Bool) → Mark

-- the identifier code of a wire
abbrev pub wire_code : Wire → List ℕ
wire_code Scl = codes "!"
wire_code Sda = codes "\""
wire_code Smbalert = codes "#"

abbrev pub level_digit : Bool → List ℕ
level_digit level = if level then codes "1" else codes "0"

-- The time of a stamp. `$timescale` has a factor of 1, 10 or 100 (18.2.3), and a tick is 5 µs, so
-- the unit is 1 µs.
abbrev pub microseconds : ℕ → ℕ
microseconds ticks = 5 * ticks

-- A time, a real number and a level (18.2.1, 18.2.2). A place is no comment and no vector: sigrok's
-- library up to 0.5.2 reads nothing behind either.
abbrev pub mark_text : Mark → List ℕ
mark_text (Stamp ticks) = codes "#" ++ (decimal (microseconds ticks) ++ codes "\n")
mark_text (Place place) = codes "r" ++ (decimal place ++ codes " $\n")
mark_text (Level wire level) = level_digit level ++ (wire_code wire ++ codes "\n")

abbrev pub marks_text : List Mark → List ℕ
marks_text marks = flat_map mark_text marks

-- the lines of a bus that nobody pulls low
abbrev pub free_bus : Sample
free_bus = record { scl = true; sda = true; alert = true }

-- what gives the unit of time, declares the wires and the place, and tells the levels at first: all
-- are high
abbrev pub header : List ℕ
header =
    codes "$timescale 1 us $end\n"
    ++ (codes "$scope module bus $end\n"
    ++ (codes "$var wire 1 ! SCL $end\n"
    ++ (codes "$var wire 1 \" SDA $end\n"
    ++ (codes "$var wire 1 # SMBALERT $end\n"
    ++ (codes "$var real 64 $ place $end\n"
    ++ (codes "$upscope $end\n$enddefinitions $end\n"
    ++ codes "#0\n$dumpvars\n1!\n1\"\n1#\n$end\n"))))))
