-- A number of any length in 64 bits: as far as 64 bits hold it with room for one digit more; beyond, the greatest word.
use Rattle.std.specs.Prelude.{ℕ, nat_le, if◌then◌else◌}

abbrev pub capped : ℕ → ℕ
capped n = if nat_le n 18446744073709551609 then n else 18446744073709551615
