-- Document 02, W11: the fields of a message, "tag in digits (the first not 0), equals sign, value (at least one byte), byte 1".
use Rattle.std.specs.Prelude.{ℕ, Bool, true, false, ◌&&◌, not, List, [], ◌∷◌, ◌++◌, eqb, if◌then◌else◌, Option, None, Some}
use Rattle.rules.specs.Digits.{all_digits}

-- a field: the digits of its tag, so that a tag of any length is compared digit by digit (4294967304 is not 8), and its value
pub record Field : Type 0 where
  pub tag : List ℕ
  pub value : List ℕ

-- the bytes of a field: 61 is the equals sign
unfoldable pub field_bytes : Field → List ℕ
field_bytes f = f.tag ++ (61 ∷ (f.value ++ (1 ∷ [])))

unfoldable pub fields_bytes : List Field → List ℕ
fields_bytes [] = []
fields_bytes (f ∷ fs) = field_bytes f ++ fields_bytes fs

-- ---- the bytes, cut after each byte 1
-- a byte more at the front of the first piece
abbrev pub grown : ℕ → List (List ℕ) → List (List ℕ)
grown b [] = (b ∷ []) ∷ []
grown b (p ∷ ps) = (b ∷ p) ∷ ps

-- the pieces that end with a byte 1, without it, and last the bytes after the last byte 1
unfoldable pub pieces : List ℕ → List (List ℕ)
pieces [] = [] ∷ []
pieces (b ∷ bs) = let rest = pieces bs in if eqb b 1 then [] ∷ rest else grown b rest

-- ---- one piece: the tag is the bytes before the first equals sign
abbrev pub tagged_by : ℕ → Option Field → Option Field
tagged_by b None = None
tagged_by b (Some f) = Some (record { tag = b ∷ f.tag; value = f.value })

unfoldable pub split_field : List ℕ → Option Field
split_field [] = None
split_field (b ∷ bs) = let rest = split_field bs in if eqb b 61 then Some (record { tag = []; value = bs }) else tagged_by b rest

-- "in digits (the first not 0)": 48 is the digit 0
unfoldable pub good_tag : List ℕ → Bool
good_tag [] = false
good_tag (b ∷ bs) = all_digits (b ∷ bs) && not (eqb b 48)

-- "at least one byte"
abbrev pub good_value : List ℕ → Bool
good_value [] = false
good_value (b ∷ bs) = true

abbrev pub good_field : Option Field → Option Field
good_field None = None
good_field (Some f) = if good_tag f.tag && good_value f.value then Some f else None

unfoldable pub field_of : List ℕ → Option Field
field_of piece = good_field (split_field piece)

-- ---- the fields of the bytes, or nothing where a piece is no field or bytes follow the last byte 1
abbrev pub add_field : Option Field → Option (List Field) → Option (List Field)
add_field None None = None
add_field None (Some fs) = None
add_field (Some f) None = None
add_field (Some f) (Some fs) = Some (f ∷ fs)

unfoldable pub fields_in : List (List ℕ) → Option (List Field)
fields_in [] = None
fields_in ([] ∷ []) = Some []
fields_in ((b ∷ bs) ∷ []) = None
fields_in (p ∷ q ∷ ps) = add_field (field_of p) (fields_in (q ∷ ps))

unfoldable pub fields_of : List ℕ → Option (List Field)
fields_of bytes = fields_in (pieces bytes)

-- ---- the words in which the rest is said about that list
unfoldable pub same_bytes : List ℕ → List ℕ → Bool
same_bytes [] [] = true
same_bytes [] (b ∷ bs) = false
same_bytes (b ∷ bs) [] = false
same_bytes (b ∷ bs) (c ∷ cs) = eqb b c && same_bytes bs cs

abbrev pub has_tag : List ℕ → Field → Bool
has_tag tag f = same_bytes f.tag tag

-- the values of a tag, in their order
unfoldable pub values_of : List ℕ → List Field → List (List ℕ)
values_of tag [] = []
values_of tag (f ∷ fs) = let rest = values_of tag fs in if has_tag tag f then f.value ∷ rest else rest
