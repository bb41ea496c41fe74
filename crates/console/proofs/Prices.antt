-- A price that a word represents is the same when it is read out of a signed number of 32 bits.
use Prim.Native.Nat.{ℕ, ◌<◌}
use mathlib.Core.Path.{◌≡◌, ap, ◌∙◌}
use lib.IntN.{ℤ}
use mir.Syntax.{w32}
use mir.Val.{to_z, of_z}
use mir.Facts.{to_z-of_z}
use Rattle.rules.specs.Records.{signed_of}
use Rattle.words.proofs.Complement.{signed_fits}

pub read_is : (w v : ℕ) (z : ℤ) → w < 4294967296 → z ≡ signed_of w → w ≡ v → to_z w32 (of_z w32 z) ≡ signed_of v
read_is w v z h e f = ap (λ (x : ℤ). to_z w32 (of_z w32 x)) e ∙ to_z-of_z {w = w32} (record { sfits = signed_fits w h }) ∙ ap signed_of f
