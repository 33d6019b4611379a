-- The statuses of calls, by the numbers that Linux has for like errors, below 0.
use Rattle.std.specs.Prelude.{ℤ, pos, negsuc}

-- it was done
abbrev pub done : ℤ
done = pos 0

-- the handle holds no machine: -9
abbrev pub empty : ℤ
empty = negsuc 8

-- there was no memory: -12
abbrev pub memory : ℤ
memory = negsuc 11

-- the program breaks a rule of the verifier: -13
abbrev pub refused : ℤ
refused = negsuc 12

-- the handle holds a machine already: -16
abbrev pub held : ℤ
held = negsuc 15

-- the text, or the bytes of the instructions, are none of their form: -22
abbrev pub malformed : ℤ
malformed = negsuc 21

-- there is no such element, map, loop call or function, or the counts differ: -34
abbrev pub out_of_range : ℤ
out_of_range = negsuc 33
