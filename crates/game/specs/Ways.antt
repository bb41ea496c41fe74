-- W14: a strategy for the maker and one for the taker. That they are the best, each against every other, is `forced` in
-- proofs/Theorem.
use Rattle.std.specs.Prelude.{ℕ, ◌+◌, ◌-◌, leb, ltb, length, if◌then◌else◌}
use Rattle.game.specs.Play.{Volume, single, double, History, doubles, knocks, knocks_for, Maker, Taker}

-- The maker quotes double until his h double minutes are used, and then single.
unfoldable pub doubles_first : ℕ → Maker
doubles_first h past = if ltb (doubles past) h then double else single

-- of m minutes, those that must be single after a double one: the minutes left after it less the doubles left after it
abbrev pub singles_to_come : ℕ → ℕ → History → ℕ
singles_to_come m h past = m - (length past + 1) - (h - (doubles past + 1))

-- the knocks that the taker keeps back when he voids a minute: none at a single one, at a double one a knock for each minute that must
-- still be single
abbrev pub kept_back : ℕ → ℕ → History → Volume → ℕ
kept_back m h past single = 0
kept_back m h past double = singles_to_come m h past

-- The taker voids a minute if his knocks are enough for it and for what he keeps back.
unfoldable pub singles_first : ℕ → ℕ → ℕ → Taker
singles_first m h k past volume = leb (knocks past + knocks_for volume + kept_back m h past volume) k
