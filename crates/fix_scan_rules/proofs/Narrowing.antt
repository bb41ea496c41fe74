-- W11's body is that of any type, with one of three types.
use Rattle.std.proofs.Common.{Option, None, Some}
use Prim.Native.Nat.{ℕ}
use mathlib.Core.Path.{◌≡◌, refl}
use mathlib.Core.Bool.{Bool, true, false}
use mathlib.Core.List.{List, [], ◌∷◌}
use Rattle.rules.specs.Fields.{Field, fields_of}
use Rattle.rules.specs.Frame.{Ending, ending_of, good_frame, body_by, kind_in, framed_by, framed, framed_in, body_in}
use Rattle.fix_scan_rules.specs.AnyFrame.{any_body_by, any_framed_by, any_framed, any_framed_in, any_body_in, narrowed}

narrow : (kind : Field) (fs : List Field) (g : Bool) → body_by g (kind_in kind.value) fs ≡ narrowed (any_body_by g kind fs)
narrow kind fs true = refl
narrow kind fs false = refl

by_ending : (first size kind : Field) (o : Option Ending) → framed_by first size kind o ≡ narrowed (any_framed_by first size kind o)
by_ending first size kind None = refl
by_ending first size kind (Some e) = narrow kind e.front (good_frame first size kind e.front e.last)

by_fields : (o : Option (List Field)) → framed_in o ≡ narrowed (any_framed_in o)
unfolding framed any_framed
by_fields None = refl
by_fields (Some []) = refl
by_fields (Some (a ∷ [])) = refl
by_fields (Some (a ∷ b ∷ [])) = refl
by_fields (Some (first ∷ size ∷ kind ∷ rest)) = by_ending first size kind (ending_of rest)

pub narrowing : (bytes : List ℕ) → body_in bytes ≡ narrowed (any_body_in bytes)
unfolding body_in any_body_in
narrowing bytes = by_fields (fields_of bytes)
