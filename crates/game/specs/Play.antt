-- W14: the game, minute by minute. "Of m minutes, the maker quotes single or double volume in each, double in at most h of them. After
-- seeing it, the taker spends knocks from a stock of k: one voids a single minute, two a double, or he lets it stand."
use Rattle.std.specs.Prelude.{ℕ, zero, suc, ◌+◌, ◌≤◌, List, [], ◌∷◌, map, Bool, true, false, not, ◌&&◌, leb, ltb, if◌then◌else◌}
use Rattle.lists.specs.Lists.{sum, how_many}

-- the volume that is quoted in a minute
pub data Volume : Type 0 where
  single : Volume
  double : Volume

abbrev pub is_double : Volume → Bool
is_double single = false
is_double double = true

-- "one voids a single minute, two a double"
abbrev pub knocks_for : Volume → ℕ
knocks_for single = 1
knocks_for double = 2

-- what happened in a minute: the volume that was quoted, and whether the taker voided it
pub record Minute : Type 0 where
  pub quoted : Volume
  pub voided : Bool

-- all that has happened so far, the latest minute first
abbrev pub History : Type 0
History = List Minute

-- the minutes that were quoted double
unfoldable pub doubles : History → ℕ
doubles past = how_many (λ minute. is_double minute.quoted) past

-- the knocks that were spent
abbrev pub spent_in : Minute → ℕ
spent_in minute = if minute.voided then knocks_for minute.quoted else 0

unfoldable pub knocks : History → ℕ
knocks past = sum (map spent_in past)

-- the unvoided minutes
unfoldable pub unvoided : History → ℕ
unvoided past = how_many (λ minute. not minute.voided) past

-- A maker's way of choosing: from all that has happened so far, the volume of the next minute.
abbrev pub Maker : Type 0
Maker = History → Volume

-- A taker's way of choosing: from all that has happened so far and the volume that he sees, whether to void the minute.
abbrev pub Taker : Type 0
Taker = History → Volume → Bool

-- "double in at most h of them": after h double minutes a minute is single, whatever the maker chooses
abbrev pub quote : ℕ → History → Volume → Volume
quote h past single = single
quote h past double = if ltb (doubles past) h then double else single

-- "from a stock of k": without the knocks for it a minute stands, whatever the taker chooses
abbrev pub is_voided : ℕ → History → Volume → Bool → Bool
is_voided k past volume chosen = chosen && leb (knocks past + knocks_for volume) k

-- the minute that follows what has happened so far
unfoldable pub next : ℕ → ℕ → Maker → Taker → History → Minute
next h k maker taker past =
    let volume = quote h past (maker past) in
    record { quoted = volume; voided = is_voided k past volume (taker past volume) }

-- what has happened after n minutes
unfoldable pub play : ℕ → ℕ → Maker → Taker → ℕ → History
play h k maker taker zero = []
play h k maker taker (suc n) = let past = play h k maker taker n in next h k maker taker past ∷ past

-- What "G, the unvoided minutes the maker can force" says of a number g, with a way of choosing for each: the maker's "gets at least G
-- however the taker answers", and the taker's "holds every maker to G at most".
pub record Forced (m h k g : ℕ) (maker : Maker) (taker : Taker) : Type 0 where
  pub at_least : (any : Taker) → g ≤ unvoided (play h k maker any m)
  pub at_most : (any : Maker) → unvoided (play h k any taker m) ≤ g
