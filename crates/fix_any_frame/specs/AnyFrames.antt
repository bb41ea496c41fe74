-- What the tests of the frame of any type find together.
use Rattle.std.specs.Prelude.{ℕ, ◌+◌, ◌≡◌, Bool, ◌&&◌, not, List, drop, Option, None, Some}
use Rattle.rules.specs.Fields.{Field}
use Rattle.fix_scan_rules.specs.AnyFrame.{AnyBody, any_body_in}
use Rattle.fix_scan_rules.specs.Rows.{packed}
use Rattle.fix_fields.specs.Spans.{closed, EndsAt}
use Rattle.fix_frame.specs.Frames.{byte_is}
use Rattle.fix_any_frame.specs.declared.AnyFrame.{AnyFrame}

-- 35=, and a byte that is not 1
unfoldable pub type_begins : List ℕ → ℕ → Bool
type_begins b at = byte_is b at 51 && byte_is b (at + 1) 53 && byte_is b (at + 2) 61 && not (byte_is b (at + 3) 1)

abbrev pub any_body_with : List ℕ → Option (List Field) → Option AnyBody
any_body_with k None = None
any_body_with k (Some fs) = Some (record { kind = k; fields = fs })

-- the frame is right, and the fields after 35 decide: the body is that type with those fields, or there is none
pub record Framed (b : List ℕ) (kind start end : ℕ) : Type 0 where
  pub type : List ℕ
  pub packs : kind ≡ packed type
  pub ends : EndsAt b start end
  pub body : any_body_in b ≡ any_body_with type (closed (drop start b))

abbrev pub AnyFrameFound : List ℕ → Option AnyFrame → Type 0
AnyFrameFound b (Some f) = Framed b f.kind f.start f.end
AnyFrameFound b None = any_body_in b ≡ None
