-- What the tests of the frame say, and what they find together.
use Rattle.std.specs.Prelude.{ℕ, ◌+◌, ◌/◌, ◌%◌, ◌≡◌, Bool, true, ◌&&◌, ◌||◌, List, eqb, get_or, drop, if◌then◌else◌, Option, None, Some}
use Rattle.rules.specs.Fields.{Field}
use Rattle.rules.specs.Frame.{Kind, new, cancel, replace, Body, body_in}
use Rattle.fix_frame.specs.declared.Frame.{Frame}
use Rattle.fix_fields.specs.Spans.{closed, EndsAt}

-- a byte at a place
abbrev pub byte_is : List ℕ → ℕ → ℕ → Bool
byte_is b i x = eqb (get_or b i 0) x

unfoldable pub head_right : List ℕ → Bool
head_right b =
    byte_is b 0 56 && byte_is b 1 61 && byte_is b 2 70 && byte_is b 3 73 && byte_is b 4 88 && byte_is b 5 46
    && byte_is b 6 52 && byte_is b 7 46 && byte_is b 8 52 && byte_is b 9 1 && byte_is b 10 57 && byte_is b 11 61

unfoldable pub type_right : List ℕ → ℕ → Bool
type_right b at = byte_is b at 51 && byte_is b (at + 1) 53 && byte_is b (at + 2) 61 && byte_is b (at + 4) 1

unfoldable pub tail_right : List ℕ → ℕ → ℕ → Bool
tail_right b at sum =
    byte_is b at 49 && byte_is b (at + 1) 48 && byte_is b (at + 2) 61 && byte_is b (at + 3) (48 + sum / 100)
    && byte_is b (at + 4) (48 + sum / 10 % 10) && byte_is b (at + 5) (48 + sum % 10) && byte_is b (at + 6) 1

abbrev pub is_kind : ℕ → Bool
is_kind k = eqb k 68 || eqb k 70 || eqb k 71

-- the type of a byte that is one of the three
unfoldable pub kind_byte : ℕ → Kind
kind_byte k = if eqb k 68 then new else if eqb k 70 then cancel else replace

abbrev pub body_with : Kind → Option (List Field) → Option Body
body_with k None = None
body_with k (Some fs) = Some (record { kind = k; fields = fs })

-- the frame is right and the fields behind 35 decide; or there is no body
abbrev pub FrameFound : List ℕ → Option Frame → Type 0
FrameFound b (Some f) = EndsAt b f.start f.end × (is_kind f.kind ≡ true) × (body_in b ≡ body_with (kind_byte f.kind) (closed (drop f.start b)))
FrameFound b None = body_in b ≡ None
