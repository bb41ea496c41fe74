-- Document 01, "Units": the units' names and the ranges.
use Rattle.std.specs.Prelude.{ℕ, Bool, leb, ℤ, pos, neg_ℤ}
use Rattle.rules.specs.declared.Millis.{Millis}
use Rattle.rules.specs.declared.Steps.{Steps}
use Rattle.rules.specs.declared.Contracts.{Contracts}
use Rattle.rules.specs.declared.Kopecks.{Kopecks}
use Rattle.lists.specs.Lists.{within, within_z}
use Rattle.rules.specs.Terms.{Terms}

-- "Milliseconds, price steps, contracts and kopecks each travel under a name of their own."
abbrev pub millis : ℕ → Millis
millis n = record { 0 = n }

abbrev pub steps : ℤ → Steps
steps z = record { 0 = z }

abbrev pub contracts : ℕ → Contracts
contracts n = record { 0 = n }

abbrev pub kopecks : ℕ → Kopecks
kopecks n = record { 0 = n }

-- "Price: signed whole price steps, -1,000,000,000 to 1,000,000,000. SP, the settlement price, has the same range."
unfoldable pub good_price : ℤ → Bool
good_price p = within_z (neg_ℤ (pos 1000000000)) (pos 1000000000) p

-- "Volume: contracts, 1 to 1,000,000."
unfoldable pub good_volume : ℕ → Bool
good_volume v = within 1 1000000 v

-- "Active and passive charges A and P ..: 0 to 1,000,000,000 kopecks each"; document 02, W8: "to 100,000,000,000"
unfoldable pub good_charge : Terms → ℕ → Bool
good_charge terms c = leb c terms.most_charge
