-- What the private functions promise each other.
use Rattle.std.specs.Prelude.{ℕ, ◌+◌, ◌-◌, ◌%◌, ◌≤◌, ◌≡◌, Bool, List, ◌++◌, length, take, drop, replicate, Option, None, Some, is_some}
use Rattle.rules.specs.declared.Timestamp.{Timestamp}
use Rattle.lists.specs.Lists.{sum}
use Rattle.rules.specs.Digits.{decimal_of, three_digits}
use Rattle.rules.specs.Dates.{time_in}
use Rattle.rules.specs.Fields.{field_bytes}
use Rattle.rules.specs.Frame.{version_tag, length_tag, checksum_tag, version}
use Rattle.rules.specs.Messages.{field_with}
use Rattle.fix_writer.specs.declared.MessageText.{MessageText}

-- ---- bytes laid over others from a place on
abbrev pub laid : List ℕ → ℕ → List ℕ → List ℕ
laid d at p = take at d ++ (p ++ drop (at + length p) d)

pub record Laid (d : List ℕ) (at : ℕ) (p : List ℕ) (next : ℕ) (e : List ℕ) : Type 0 where
  pub fits : at + length p ≤ length d
  pub place : next ≡ at + length p
  pub bytes : e ≡ laid d at p
  pub size : length e ≡ length d

-- ---- the frame around the fields from 35 to 60
unfoldable pub head_bytes : ℕ → List ℕ
head_bytes n = field_bytes (field_with version_tag version) ++ field_bytes (field_with length_tag (decimal_of n))

unfoldable pub tail_bytes : List ℕ → List ℕ
tail_bytes front = field_bytes (field_with checksum_tag (three_digits (sum front % 256)))

unfoldable pub framed_bytes : List ℕ → List ℕ
framed_bytes body = let front = head_bytes (length body) ++ body in front ++ tail_bytes front

-- a text and zeros after it
abbrev pub text_of : List ℕ → MessageText
text_of bytes = record { bytes = bytes ++ replicate (114 - length bytes) 0; length = length bytes }

-- whichever bytes are from the fifteenth on, the text is theirs in the frame
abbrev pub Closes : List ℕ → ℕ → MessageText → Type 0
Closes start end t = (body : List ℕ) → Laid (replicate 114 0) 15 body end start → (t ≡ text_of (framed_bytes body)) × (length (framed_bytes body) ≤ 114)

-- ---- whether bytes are a time
unfoldable pub is_time : List ℕ → Bool
is_time bytes = is_some (time_in bytes)
