-- W14: G by the recurrence of the game, and its closed form. That they agree is `value-closed` in proofs/Recurrence, and that they
-- are what the maker can force is `forced` in proofs/Theorem.
use Rattle.std.specs.Prelude.{ℕ, zero, suc, ◌+◌, ◌-◌, ◌/◌, min, max, leb, if◌then◌else◌}
use Rattle.game.specs.Play.{single, double, knocks_for}

-- the taker's choice at a minute that `cost` knocks of his k void: the lesser of what comes of it where it stands and where it is voided
abbrev pub taken : ℕ → ℕ → ℕ → ℕ → ℕ
taken cost k stood voided = if leb cost k then min stood voided else stood

-- G by the recurrence: of no minutes none; of one minute more the greater of what comes of a single and of a double one, if the maker has
-- a double left
unfoldable pub value : ℕ → ℕ → ℕ → ℕ
value zero h k = 0
value (suc m) h k =
    let by_single = taken (knocks_for single) k (1 + value m h k) (value m h (k - knocks_for single)) in
    let by_double = taken (knocks_for double) k (1 + value m (h - 1) k) (value m (h - 1) (k - knocks_for double)) in
    if leb 1 h then max by_single by_double else by_single

-- G in closed form: the maker quotes d minutes double and s single; the taker voids v of the single ones, and with what is left q of the
-- double ones (a difference is 0 where it would be negative)
unfoldable pub closed : ℕ → ℕ → ℕ → ℕ
closed m h k =
    let d = min h m in
    let s = m - d in
    let v = min k s in
    let q = (k - v) / 2 in
    m - v - q
