-- What numbers the types of src/lib.rt hold, for the laws that need it: every value of those types fits.
use Rattle.std.specs.Prelude.{ℕ, ◌<◌, List, ℤ, get_or}
use Rattle.std.specs.Int.Signed.{mag}
use Rattle.rules.specs.declared.Event.{Event}
use Rattle.rules.specs.declared.Event.TheVariants.{Add, Amend, Cancel, Deal, Tick}

-- an unsigned 32-bit word
abbrev pub Word : ℕ → Type 0
Word n = n < 4294967296

-- a signed one, from -2,147,483,648 to 2,147,483,647: `mag z` is n both for n and for -(n + 1)
abbrev pub SignedWord : ℤ → Type 0
SignedWord z = mag z < 2147483648

-- each number of the event fits its type
abbrev pub Fits : Event → Type 0
Fits (Add t id side price volume) = Word t.0 × Word id × SignedWord price.0 × Word volume.0
Fits (Amend t id price volume) = Word t.0 × Word id × SignedWord price.0 × Word volume.0
Fits (Cancel t id) = Word t.0 × Word id
Fits (Deal t id volume) = Word t.0 × Word id × Word volume.0
Fits (Tick t) = Word t.0

-- every element is a byte; past the end `get_or` gives 0
abbrev pub Bytes : List ℕ → Type 0
Bytes bytes = (i : ℕ) → get_or bytes i 0 < 256
