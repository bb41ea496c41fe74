-- The row of a message: its length, its status, its type, and where the first value of each wanted tag is.
use Rattle.std.specs.Prelude.{ℕ, ◌+◌, ◌-◌, ◌*◌, List, [], ◌∷◌, length, if◌then◌else◌, Option, None, Some}
use Rattle.lists.specs.Lists.{any}
use Rattle.rules.specs.Digits.{decimal_of}
use Rattle.rules.specs.Fields.{Field, field_bytes, fields_bytes, has_tag}
use Rattle.fix_scan_rules.specs.AnyFrame.{AnyBody, any_body_in}

-- one to four bytes as a word, the first one low; 0 where there are more
abbrev pub packed : List ℕ → ℕ
packed [] = 0
packed (a ∷ []) = a
packed (a ∷ b ∷ []) = a + 256 * b
packed (a ∷ b ∷ c ∷ []) = a + 256 * b + 65536 * c
packed (a ∷ b ∷ c ∷ d ∷ []) = a + 256 * b + 65536 * (c + 256 * d)
packed (a ∷ b ∷ c ∷ d ∷ e ∷ rest) = 0

-- Where the first value of a tag begins, and its length, with 2^31 more where the tag occurs again; 0 and 0 where it does not occur. The
-- fields begin at the place.
unfoldable pub begin_in : ℕ → List ℕ → List Field → ℕ
begin_in at tag [] = 0
begin_in at tag (f ∷ fs) = let rest = begin_in (at + length (field_bytes f)) tag fs in if has_tag tag f then at + length f.tag + 1 else rest

unfoldable pub size_of_in : List ℕ → List Field → ℕ
size_of_in tag [] = 0
size_of_in tag (f ∷ fs) =
    let rest = size_of_in tag fs in
    if has_tag tag f then length f.value + (if any (has_tag tag) fs then 2147483648 else 0) else rest

unfoldable pub spans_in : ℕ → List ℕ → List Field → List ℕ
spans_in at [] fs = []
spans_in at (t ∷ ts) fs = begin_in at (decimal_of t) fs ∷ size_of_in (decimal_of t) fs ∷ spans_in at ts fs

-- where the fields after 35 begin: seven bytes, 10=, three digits and byte 1, follow them
abbrev pub row_with : ℕ → List ℕ → AnyBody → List ℕ
row_with size tags b = size ∷ 0 ∷ packed b.kind ∷ spans_in (size - (length (fields_bytes b.fields) + 7)) tags b.fields

abbrev pub row_by : ℕ → List ℕ → Option AnyBody → Option (List ℕ)
row_by size tags None = None
row_by size tags (Some b) = Some (row_with size tags b)

-- the row of a message without its place, or nothing where the bytes are no message
unfoldable pub row_in : List ℕ → List ℕ → Option (List ℕ)
row_in tags bytes = row_by (length bytes) tags (any_body_in bytes)
