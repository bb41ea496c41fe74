-- How a further digit is taken into a number of 64 bits.
use Rattle.std.specs.Prelude.{ℕ, ◌+◌, ◌*◌, nat_le, if◌then◌else◌}

abbrev pub more_of : ℕ → ℕ → ℕ
more_of n d = if nat_le n 1844674407370955160 then n * 10 + d else 18446744073709551615
