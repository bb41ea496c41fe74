-- The terms of before the requests W6 and W8.
use Rattle.std.specs.Prelude.{ℕ}
use Rattle.rules.specs.Terms.{Terms}

-- before W8, document 01: "0 to 1,000,000,000 kopecks each"
abbrev pub charge_before : ℕ
charge_before = 1000000000

-- before W6, document 01: "p the required share in percent (1 to 79)"; for any greatest charge
abbrev pub percents : ℕ → Terms
percents most = record { whole = 100; most_share = 79; most_charge = most }

-- W6: "The row's p is in tenths of a percent, 1 to 799."; for any greatest charge
abbrev pub tenths : ℕ → Terms
tenths most = record { whole = 1000; most_share = 799; most_charge = most }
