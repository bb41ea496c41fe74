-- Document 02, W11: what is claimed of the messages that are written. proofs/Claims shows it.
use Rattle.std.specs.Prelude.{ℕ, ◌≤◌, ◌<◌, ◌≡◌, List, negsuc, length, Some}
use Rattle.rules.specs.declared.Side.{Side}
use Rattle.rules.specs.declared.Timestamp.{Timestamp}
use Rattle.rules.specs.Units.{steps, contracts}
use Rattle.rules.specs.Widths.{Word, SignedWord}
use Rattle.rules.specs.Answers.{accepted}
use Rattle.rules.specs.Dates.{time_in}
use Rattle.rules.specs.Messages.{Message, new_order, cancel_order, replace_order, time_of, with_time, read_message, message_bytes}

-- each number of the message is one of 32 bits, as every number handed to the writer is
abbrev pub NumbersFit : Message (List ℕ) → Type 0
NumbersFit (new_order id side volume price sixty) = Word id × Word volume.0 × SignedWord price.0
NumbersFit (cancel_order id orig sixty) = Word id × Word orig
NumbersFit (replace_order id orig side volume price sixty) = Word id × Word orig × Word volume.0 × SignedWord price.0

-- "read back to the same fields"
abbrev pub ReadsBack : Message (List ℕ) → Type 0
ReadsBack m = (t : Timestamp) → time_in (time_of m) ≡ Some t → read_message (message_bytes m) ≡ accepted (with_time m t)

-- "at most 114 bytes"
abbrev pub AtMost114 : Message (List ℕ) → Type 0
AtMost114 m = (t : Timestamp) → time_in (time_of m) ≡ Some t → length (message_bytes m) ≤ 114

-- a G whose numbers are the longest: ten digits each, and a minus sign before the price; `negsuc p` is -(p + 1)
abbrev pub Longest : Type 0
Longest =
    (id orig volume p : ℕ) (side : Side) (sixty : List ℕ) (t : Timestamp)
    → 1000000000 ≤ id → Word id → 1000000000 ≤ orig → Word orig → 1000000000 ≤ volume → Word volume → 999999999 ≤ p → p < 2147483648
    → time_in sixty ≡ Some t
    → length (message_bytes (replace_order id orig side (contracts volume) (steps (negsuc p)) sixty)) ≡ 114

pub record Claims : Type 0 where
  pub back : (m : Message (List ℕ)) → NumbersFit m → ReadsBack m
  pub most : (m : Message (List ℕ)) → NumbersFit m → AtMost114 m
  pub longest : Longest
