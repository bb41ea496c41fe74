-- How the code performs the calls: what a look through the used records finds, what is to be done, and how a record moves. A reader of the
-- promises needs none of it.
use Rattle.std.specs.Prelude.{ℕ, zero, suc, ◌+◌, ◌-◌, ◌%◌, List, ◌∷◌, ◌++◌, Bool, Option, Some, None, unwrap_or, Result, Ok, Err, true, false, not, ◌&&◌, eqb, take, drop, get_or, set, replicate, if◌then◌else◌}
use Rattle.standing_rules.specs.declared.Maker.{Maker}
use Rattle.standing_rules.specs.declared.Seen.{Seen}
use Rattle.standing_rules.specs.declared.Checked.{Checked}
use Rattle.standing_rules.specs.declared.Move.{Move}
use Rattle.standing_rules.specs.declared.CallError.{CallError}
use Rattle.standing_rules.specs.Order.{maker, above, is_of, present}
use Rattle.standing_rules.specs.Calls.{Call, Join, Change, Leave, left, number_of}

-- ---- looking

abbrev pub none : Maker
none = maker 0 0

abbrev pub unseen : Seen
unseen = record { place = None; above = 0 }

-- the record r at the place i, where the record m is looked for
unfoldable pub look_of : Seen → ℕ → Maker → Maker → Seen
look_of s i r m =
    let same = is_of m.number r in
    record {
      place = if same then Some i else s.place;
      above = if same then s.above else if above r m then s.above + 1 else s.above;
    }

-- the first n records, one after the other
unfoldable pub seen_in : List Maker → Maker → ℕ → Seen
seen_in l m zero = unseen
seen_in l m (suc n) = look_of (seen_in l m n) n (get_or l n none) m

-- ---- judging the order

-- a record leaves a mark: its number modulo the number of marks, k
abbrev pub marked : List Bool → ℕ → ℕ → List Bool
marked marks k number = set marks (number % k) true

-- the marks of the first n records
unfoldable pub marks_in : ℕ → List Maker → ℕ → List Bool
marks_in k l zero = replicate k false
marks_in k l (suc n) = marked (marks_in k l n) k (get_or l n none).number

-- how many of the n records before are looked through for the maker: all of them where the mark is there, else none
abbrev pub back_to : List Bool → ℕ → ℕ → ℕ → ℕ
back_to marks k n number = if get_or marks (number % k) false then n else 0

-- the record r ranks below the last one before it, if there is one
abbrev pub is_behind : Option Maker → Maker → Bool
is_behind None r = true
is_behind (Some last) r = above last r

-- the record r after those before it, which may have one of its maker
unfoldable pub check_of : Checked → Maker → Bool → Checked
check_of s r twice = record { good = s.good && (is_behind s.last r && not twice); last = Some r }

-- whether each of the first n records ranks below the one before it, no maker twice
unfoldable pub checked_in : List Maker → ℕ → Checked
checked_in l zero = record { good = true; last = None }
checked_in l (suc n) = check_of (checked_in l n) (get_or l n none) (present (get_or l n none).number (take n l))

-- ---- moving

abbrev pub removed : {A : Type 0} → List A → ℕ → List A
removed l i = take i l ++ drop (i + 1) l

abbrev pub inserted : {A : Type 0} → List A → ℕ → A → List A
inserted l i m = take i l ++ (m ∷ drop i l)

-- the record at `from` is taken out, and m is put at the place `to` of the rest: those between move by one place
unfoldable pub shifted : {A : Type 0} → List A → ℕ → ℕ → A → List A
shifted l from to m = inserted (removed l from) to m

-- ---- deciding

-- the record that an accepted call puts in its place; a leave's is past the count
unfoldable pub record_of : Call → Maker
record_of (Join m) = m
record_of (Change m) = m
record_of (Leave n) = left n

-- the number that refuses, 0 where none does, by what was found
unfoldable pub judged : Call → Bool → Bool → Bool → ℕ
judged (Join m) bad there full = if bad then 23 else if there then 24 else if full then 25 else 0
judged (Change m) bad there full = if bad then 23 else if there then 0 else 24
judged (Leave n) bad there full = if bad then 23 else if there then 0 else 24

-- the record leaves the place `from`, and stands at `to`; the new count; the number that refuses, 0 where none does
pub record Plan : Type 0 where
  pub from : ℕ
  pub to : ℕ
  pub count : ℕ
  pub refusal : ℕ

-- the plan that a decision is, by the count that it was given
abbrev pub plan_by : ℕ → Result Move CallError → Plan
plan_by given (Ok m) = record { from = m.from; to = m.to; count = m.count; refusal = 0 }
plan_by given (Err error) = record { from = 0; to = 0; count = given; refusal = number_of error }

-- where the record is taken from and where it goes, and the new count
unfoldable pub accepted : Call → ℕ → Seen → Plan
accepted (Join m) count s = record { from = count; to = s.above; count = count + 1; refusal = 0 }
accepted (Change m) count s = record { from = unwrap_or s.place 0; to = s.above; count = count; refusal = 0 }
accepted (Leave n) count s = record { from = unwrap_or s.place 0; to = count - 1; count = count - 1; refusal = 0 }

-- refused, nothing moves
unfoldable pub planned : Call → ℕ → ℕ → Seen → Plan
planned call refusal count s =
    if eqb refusal 0 then accepted call count s else record { from = 0; to = 0; count = count; refusal = refusal }
