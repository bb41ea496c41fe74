-- What may stand behind the calls of a piece.
use Rattle.std.specs.Prelude.{ℕ, List, ltb, eqb, if◌then◌else◌, Result, Ok, Err}
use Rattle.call_blocks.specs.Kinds.{due_at}
use Rattle.call_blocks.specs.Pieces.{is_told}
use Rattle.replay_pieces.specs.declared.Stuck.{Stuck}
use Rattle.replay_pieces.specs.declared.Stuck.TheVariants.{NoCall, TooLong}

-- What the words behind the calls tell: nothing yet, that they are no call, that the block is longer than the room, or that more is due.
abbrev pub rest_of : ℕ → List ℕ → Result Unit Stuck
rest_of room ws =
    if is_told ws then (if eqb (due_at ws) 0 then Err NoCall else if ltb room (due_at ws) then Err TooLong else Ok tt)
    else Ok tt
