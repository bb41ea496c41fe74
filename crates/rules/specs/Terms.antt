-- The numbers of document 01, as the requests of document 02 have changed them, that the definitions take from one place, so that the
-- same definitions can be read at other numbers.
use Rattle.std.specs.Prelude.{ℕ}

pub record Terms : Type 0 where
  -- how many parts of a share make the whole
  pub whole : ℕ
  -- the greatest required share p, in those parts
  pub most_share : ℕ
  -- the greatest charge A or P, in kopecks
  pub most_charge : ℕ

-- document 02, W6: "The row's p is in tenths of a percent, 1 to 799."; W8: "A and P may go to 100,000,000,000 kopecks"
abbrev pub paper : Terms
paper = record { whole = 1000; most_share = 799; most_charge = 100000000000 }
