-- What a decision says of the tests that led to it.
use mathlib.Core.Path.{◌≡◌, refl}
use mathlib.Core.Bool.{Bool, true}
use Rattle.standing_rules.specs.Calls.{Call, Join, Change, Leave}
use Rattle.standing_rules.specs.Internal.{judged}

-- 23 comes before the others
pub wrong-judged : (call : Call) (there full : Bool) → judged call true there full ≡ 23
unfolding judged
wrong-judged (Join m) there full = refl
wrong-judged (Change m) there full = refl
wrong-judged (Leave n) there full = refl
